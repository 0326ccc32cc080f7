-- How many terms the systems of the program have.
use Rattle.std.proofs.Common.{◌≡◌, ℕ, zero, suc, ◌+◌, ◌*◌, ◌<◌, ◌≤◌, ◌==◌, nat_le, nat_lt, ℤ, pos, Bool, true, false, not, cond, List, [], ◌∷◌, ◌++◌, map, length, refl, sym, ap, ap₂, ◌∙◌, arith}
use Rattle.std.proofs.lemmas.Bool.{and_parts}
use Rattle.std.proofs.lemmas.Bool.Decides.{nat_tests}
use Rattle.std.specs.List.{list_all, count_by, sum_by}
use Rattle.std.specs.Ordering.{int_eq}
use Rattle.std.proofs.lemmas.List.{length-map}
use Rattle.std.proofs.lemmas.List.Sums.{sum_by-append, sum_by-cons}
use Rattle.affine_forms.specs.Bounds.{is_increasing_from, are_below}
use Rattle.affine_forms.specs.System.{coefficient_of, below, plain_row, plain_system}
use Rattle.affine_forms.specs.declared.system.Term.{Term}
use Rattle.affine_forms.specs.declared.system.Row.{Row}
use Rattle.affine_forms.specs.declared.system.System.{System}
use Rattle.affine_systems.specs.Limits.{affine_terms, system_terms}

abbrev variables : List Term → List ℕ
variables ts = map (λ t. t.variable) ts

-- the terms of rows together
abbrev pub lengths : List Row → ℕ
lengths rs = sum_by (λ r. length r.terms.items) rs

-- ---- few terms

room : (low n : ℕ) (xs : List ℕ) → is_increasing_from low xs ≡ true → list_all (λ x. nat_lt x n) xs ≡ true → low ≤ n → length xs + low ≤ n
room low n [] h k l = omega (arith, l)
room low n (x ∷ xs) h k l =
    let p = and_parts (nat_le low x) (is_increasing_from (suc x) xs) h in
    let q = and_parts (nat_lt x n) (list_all (λ y. nat_lt y n) xs) k in
    let first : low ≤ x = least low x p.0 in
    let rest = room (suc x) n xs p.1 q.1 (below_next x n q.0) in
    omega (arith, first, rest)
  where
    least : (a b : ℕ) → nat_le a b ≡ true → a ≤ b
    least a b h = grind (arith, nat_tests)

    below_next : (a b : ℕ) → nat_lt a b ≡ true → suc a ≤ b
    below_next a b h = grind (arith, nat_tests)

row_room : (r : Row) (n : ℕ) → list_all (λ x. nat_lt x n) (variables r.terms.items) ≡ true → n ≤ 64 → length r.terms.items ≤ 64
row_room r n h l = let k = room 0 n (variables r.terms.items) r.increasing h (omega arith) in omega (arith, k, l, length-map r.terms.items (λ (t : Term). t.variable))

-- at most 64 terms each
rows_room : (n : ℕ) (rs : List Row) → are_below n (map (λ r. variables r.terms.items) rs) ≡ true → n ≤ 64 → lengths rs ≤ 64 * length rs
rows_room n [] h l = omega arith
rows_room n (r ∷ rs) h l =
    let p = and_parts (list_all (λ x. nat_lt x n) (variables r.terms.items)) (are_below n (map (λ q. variables q.terms.items) rs)) h in
    let one = row_room r n p.0 l in
    let rest = rows_room n rs p.1 l in
    omega (arith, one, rest, sum_by-cons (λ (q : Row). length q.terms.items) r rs)

pub equations_few : (s : System) → lengths s.equations.items ≤ 32768
equations_few s = let k = rows_room s.vars s.equations.items s.equations_within s.few_variables in omega (arith, k, s.few_rows)

pub rows_few : (s : System) → lengths s.rows.items ≤ 32768
rows_few s = let k = rows_room s.vars s.rows.items s.rows_within s.few_variables in omega (arith, k, s.few_rows)

-- ---- terms as coefficients

abbrev is_term : ℤ → Bool
is_term c = not (int_eq c (pos 0))

abbrev one_if : Bool → ℕ
one_if t = cond t 1 0

count_cons : {X : Type 0} (p : X → Bool) (x : X) (xs : List X) → count_by p (x ∷ xs) ≡ one_if (p x) + count_by p xs
count_cons p x xs = sum_by-cons (λ y. one_if (p y)) x xs

count_last : (p : ℕ → Bool) (xs : List ℕ) (x : ℕ) → count_by p (xs ++ x ∷ []) ≡ count_by p xs + one_if (p x)
count_last p xs x = let h = sum_by-append (λ y. one_if (p y)) xs (x ∷ []) in let k = count_cons p x [] in omega (arith, h, k)

count_map : {X Y : Type 0} (p : Y → Bool) (f : X → Y) (xs : List X) → count_by p (map f xs) ≡ count_by (λ x. p (f x)) xs
count_map p f [] = refl
count_map p f (x ∷ xs) = count_cons p (f x) (map f xs) ∙ ap (λ n. one_if (p (f x)) + n) (count_map p f xs) ∙ sym (count_cons (λ y. p (f y)) x xs)

-- tests that agree below a number count alike
count_same : (p q : ℕ → Bool) (n : ℕ) → ((v : ℕ) → v < n → p v ≡ q v) → count_by p (below n) ≡ count_by q (below n)
count_same p q zero h = refl
count_same p q (suc n) h =
    count_last p (below n) n
    ∙ ap₂ (λ a b. a + one_if b) (count_same p q n (λ v l. h v (omega (arith, l)))) (h n (omega arith))
    ∙ sym (count_last q (below n) n)

-- one number more passes
count_more : (p : ℕ → Bool) (x n : ℕ) → p x ≡ false → x < n → count_by (λ v. cond (x == v) true (p v)) (below n) ≡ 1 + count_by p (below n)
count_more p x zero h l = absurd (omega (arith, l))
count_more p x (suc n) h l = go (x == n) refl (λ k. count_more p x n h k)
  where
    apart : (a b v : ℕ) → (a == b) ≡ true → v < b → (a == v) ≡ false
    apart a b v e l = grind (arith, nat_tests)

    equal : (a b : ℕ) → (a == b) ≡ true → a ≡ b
    equal a b e = grind (arith, nat_tests)

    lower : (a b : ℕ) → (a == b) ≡ false → a < suc b → a < b
    lower a b e l = grind (arith, nat_tests)

    go : (t : Bool) → (x == n) ≡ t → (x < n → count_by (λ v. cond (x == v) true (p v)) (below n) ≡ 1 + count_by p (below n)) → count_by (λ v. cond (x == v) true (p v)) (below (suc n)) ≡ 1 + count_by p (below (suc n))
    go true e lower_more =
        let a = count_last (λ v. cond (x == v) true (p v)) (below n) n in
        let b : one_if (cond (x == n) true (p n)) ≡ 1 = ap (λ t. one_if (cond t true (p n))) e in
        let c : count_by (λ v. cond (x == v) true (p v)) (below n) ≡ count_by p (below n) = count_same (λ v. cond (x == v) true (p v)) p n (λ v k. ap (λ t. cond t true (p v)) (apart x n v e k)) in
        let d = count_last p (below n) n in
        let f : one_if (p n) ≡ 0 = ap one_if (ap p (sym (equal x n e)) ∙ h) in
        omega (arith, a, b, c, d, f)
    go false e lower_more =
        let a = count_last (λ v. cond (x == v) true (p v)) (below n) n in
        let b : one_if (cond (x == n) true (p n)) ≡ one_if (p n) = ap (λ t. one_if (cond t true (p n))) e in
        let c = lower_more (lower x n e l) in
        let d = count_last p (below n) n in
        omega (arith, a, b, c, d)

-- later terms name other variables
absent : (ts : List Term) (low v : ℕ) → is_increasing_from low (variables ts) ≡ true → v < low → coefficient_of ts v ≡ pos 0
absent [] low v h l = refl
absent (t ∷ ts) low v h l =
    let p = and_parts (nat_le low t.variable) (is_increasing_from (suc t.variable) (variables ts)) h in
    ap (λ b. cond b t.coefficient (coefficient_of ts v)) (other t.variable low v p.0 l) ∙ absent ts (suc t.variable) v p.1 (further t.variable low v p.0 l)
  where
    other : (x low v : ℕ) → nat_le low x ≡ true → v < low → (x == v) ≡ false
    other x low v h l = grind (arith, nat_tests)

    further : (x low v : ℕ) → nat_le low x ≡ true → v < low → v < suc x
    further x low v h l = grind (arith, nat_tests)

none_counted : (n : ℕ) → count_by (λ v. is_term (pos 0)) (below n) ≡ 0
none_counted zero = refl
none_counted (suc n) = let a = count_last (λ v. is_term (pos 0)) (below n) n in omega (arith, a, none_counted n)

counted : (ts : List Term) (low n : ℕ) → is_increasing_from low (variables ts) ≡ true → list_all (λ x. nat_lt x n) (variables ts) ≡ true → count_by (λ v. is_term (coefficient_of ts v)) (below n) ≡ length ts
counted [] low n h k = none_counted n
counted (t ∷ ts) low n h k =
    let p = and_parts (nat_le low t.variable) (is_increasing_from (suc t.variable) (variables ts)) h in
    let q = and_parts (nat_lt t.variable n) (list_all (λ x. nat_lt x n) (variables ts)) k in
    count_same (λ v. is_term (coefficient_of (t ∷ ts) v)) (λ v. cond (t.variable == v) true (is_term (coefficient_of ts v))) n (λ v l. named (t.variable == v) v)
    ∙ count_more (λ v. is_term (coefficient_of ts v)) t.variable n (ap is_term (absent ts (suc t.variable) t.variable p.1 (omega arith))) (within t.variable n q.0)
    ∙ ap (λ m. 1 + m) (counted ts (suc t.variable) n p.1 q.1)
    ∙ next_of (length ts)
  where
    next_of : (m : ℕ) → 1 + m ≡ suc m
    next_of m = omega arith

    named : (b : Bool) (v : ℕ) → is_term (cond b t.coefficient (coefficient_of ts v)) ≡ cond b true (is_term (coefficient_of ts v))
    named true v = t.present
    named false v = refl

    within : (a b : ℕ) → nat_lt a b ≡ true → a < b
    within a b h = grind (arith, nat_tests)

row_counted : (n : ℕ) (r : Row) → list_all (λ x. nat_lt x n) (variables r.terms.items) ≡ true → affine_terms (plain_row n r) ≡ length r.terms.items
row_counted n r h = count_map is_term (coefficient_of r.terms.items) (below n) ∙ counted r.terms.items 0 n r.increasing h

rows_counted : (n : ℕ) (rs : List Row) → are_below n (map (λ r. variables r.terms.items) rs) ≡ true → sum_by affine_terms (map (plain_row n) rs) ≡ lengths rs
rows_counted n [] h = refl
rows_counted n (r ∷ rs) h =
    let p = and_parts (list_all (λ x. nat_lt x n) (variables r.terms.items)) (are_below n (map (λ q. variables q.terms.items) rs)) h in
    sum_by-cons affine_terms (plain_row n r) (map (plain_row n) rs)
    ∙ ap₂ ◌+◌ (row_counted n r p.0) (rows_counted n rs p.1)
    ∙ sym (sum_by-cons (λ (q : Row). length q.terms.items) r rs)

-- the terms of the rows are those of the constraints
pub system_counted : (s : System) (m n : ℕ) → m ≡ lengths s.equations.items → n ≡ lengths s.rows.items → m + n ≡ system_terms (plain_system s)
system_counted s m n h k = ap₂ ◌+◌ (h ∙ sym (rows_counted s.vars s.equations.items s.equations_within)) (k ∙ sym (rows_counted s.vars s.rows.items s.rows_within))

pub system_few : (s : System) → system_terms (plain_system s) ≤ 65536
system_few s = let e = system_counted s (lengths s.equations.items) (lengths s.rows.items) refl refl in omega (arith, e, equations_few s, rows_few s)
