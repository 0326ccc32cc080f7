-- Sparse terms as the coefficients of all variables.
use Rattle.std.proofs.Common.{◌≡◌, ℕ, zero, suc, ◌+◌, ◌<◌, ◌≤◌, ◌^◌, ◌==◌, nat_le, nat_lt, ℤ, pos, Bool, true, false, cond, not, ◌&&◌, List, [], ◌∷◌, ◌++◌, map, length, take, get_or, arith, refl, sym, ap, ap₂, ◌∙◌, add-one}
use Rattle.std.proofs.lemmas.Bool.Decides.{nat_tests}
use Rattle.std.proofs.lemmas.List.{take_more, take_all, map-append}
use Rattle.std.specs.List.{list_all}
use Rattle.std.specs.Ordering.{int_eq}
use Rattle.std.proofs.lemmas.Grind.{common_steps}
use Rattle.affine_forms.specs.declared.system.Term.{Term}
use Rattle.affine_forms.specs.Bounds.{is_narrow, is_increasing, is_increasing_from}
use Rattle.affine_forms.specs.System.{coefficient_of, below}
use Rattle.std.specs.Int.{w128}
use Rattle.std.specs.Int.RustNames.{FitsSigned}
use Rattle.affine_forms.proofs.Values.{and_parts}
use Rattle.affine_forms.proofs.TermWidths.{within_le, within_from_le, fits_within}

abbrev pub are_under : ℕ → List Term → Bool
are_under n ts = list_all (λ x. nat_lt x n) (map (λ t. t.variable) ts)

other : (x n v : ℕ) → nat_lt x n ≡ true → n ≤ v → (x == v) ≡ false
other x n v h l = grind (arith, nat_tests)

coefficient_absent : (ts : List Term) (n v : ℕ) → are_under n ts ≡ true → n ≤ v → coefficient_of ts v ≡ pos 0
coefficient_absent [] n v h l = refl
coefficient_absent (t ∷ ts) n v h l =
    let p = and_parts (nat_lt t.variable n) (are_under n ts) h in
    ap (λ b. cond b t.coefficient (coefficient_of ts v)) (other t.variable n v p.0 l) ∙ coefficient_absent ts n v p.1 l

coefficient_before : (ts : List Term) (t : Term) (v : ℕ) → v < t.variable → coefficient_of (ts ++ t ∷ []) v ≡ coefficient_of ts v
coefficient_before [] t v l = ap (λ b. cond b t.coefficient (pos 0)) (differ t.variable v l)
  where
    differ : (x v : ℕ) → v < x → (x == v) ≡ false
    differ x v l = grind (arith, nat_tests)
coefficient_before (s ∷ ts) t v l = ap (λ r. cond (s.variable == v) s.coefficient r) (coefficient_before ts t v l)

coefficient_last : (ts : List Term) (t : Term) → are_under t.variable ts ≡ true → coefficient_of (ts ++ t ∷ []) t.variable ≡ t.coefficient
coefficient_last [] t h = ap (λ b. cond b t.coefficient (pos 0)) (itself t.variable)
  where
    itself : (x : ℕ) → (x == x) ≡ true
    itself x = grind (arith, nat_tests)
coefficient_last (s ∷ ts) t h =
    let p = and_parts (nat_lt s.variable t.variable) (are_under t.variable ts) h in
    ap (λ b. cond b s.coefficient (coefficient_of (ts ++ t ∷ []) t.variable)) (other s.variable t.variable t.variable p.0 (omega arith)) ∙ coefficient_last ts t p.1

map_below : (f g : ℕ → ℤ) (n : ℕ) → ((v : ℕ) → v < n → f v ≡ g v) → map f (below n) ≡ map g (below n)
map_below f g zero h = refl
map_below f g (suc n) h = map-append f (below n) (n ∷ []) ∙ ap₂ (λ xs y. xs ++ y ∷ []) (map_below f g n (λ v l. h v (omega arith))) (h n (omega arith)) ∙ sym (map-append g (below n) (n ∷ []))

increasing_from_last : (low : ℕ) (xs : List ℕ) (k : ℕ) → is_increasing_from low xs ≡ true → low ≤ k → list_all (λ x. nat_lt x k) xs ≡ true → is_increasing_from low (xs ++ k ∷ []) ≡ true
increasing_from_last low [] k h l a = ap (λ t. t && true) (holds low k l)
  where
    holds : (a b : ℕ) → a ≤ b → nat_le a b ≡ true
    holds a b l = grind (arith, nat_tests)
increasing_from_last low (x ∷ xs) k h l a =
    let p = and_parts (nat_le low x) (is_increasing_from (suc x) xs) h in
    let q = and_parts (nat_lt x k) (list_all (λ x. nat_lt x k) xs) a in
    ap₂ (λ s t. s && t) p.0 (increasing_from_last (suc x) xs k p.1 (above x k q.0) q.1)
  where
    above : (x k : ℕ) → nat_lt x k ≡ true → suc x ≤ k
    above x k h = grind (arith, nat_tests)

under_more : (xs : List ℕ) (k : ℕ) → list_all (λ x. nat_lt x k) xs ≡ true → list_all (λ x. nat_lt x (suc k)) xs ≡ true
under_more [] k h = refl
under_more (x ∷ xs) k h =
    let p = and_parts (nat_lt x k) (list_all (λ x. nat_lt x k) xs) h in
    ap₂ (λ s t. s && t) (weaker x k p.0) (under_more xs k p.1)
  where
    weaker : (x k : ℕ) → nat_lt x k ≡ true → nat_lt x (suc k) ≡ true
    weaker x k h = grind (arith, nat_tests)

under_last : (xs : List ℕ) (k : ℕ) → list_all (λ x. nat_lt x k) xs ≡ true → list_all (λ x. nat_lt x (suc k)) (xs ++ k ∷ []) ≡ true
under_last [] k h = ap (λ t. t && true) (below_next k)
  where
    below_next : (k : ℕ) → nat_lt k (suc k) ≡ true
    below_next k = grind (arith, nat_tests)
under_last (x ∷ xs) k h =
    let p = and_parts (nat_lt x k) (list_all (λ x. nat_lt x k) xs) h in
    ap₂ (λ s t. s && t) (weaker x k p.0) (under_last xs k p.1)
  where
    weaker : (x k : ℕ) → nat_lt x k ≡ true → nat_lt x (suc k) ≡ true
    weaker x k h = grind (arith, nat_tests)

-- the terms so far are those of the first k coefficients
pub record IsSparse (ts : List Term) (k : ℕ) (cs : List ℤ) : Type 0 where
  pub value : map (coefficient_of ts) (below k) ≡ take k cs
  pub increasing : is_increasing (map (λ t. t.variable) ts) ≡ true
  pub under : are_under k ts ≡ true

pub sparse_none : (cs : List ℤ) → IsSparse [] 0 cs
sparse_none cs = record { value = refl; increasing = refl; under = refl }

pub sparse_with : (ts : List Term) (k : ℕ) (cs : List ℤ) (t : Term) → IsSparse ts k cs → k < length cs → t.variable ≡ k → t.coefficient ≡ get_or cs k (pos 0) → IsSparse (ts ++ t ∷ []) (k + 1) cs
sparse_with ts k cs t s l v c = rw add-one (record {
  value =
      map-append (coefficient_of (ts ++ t ∷ [])) (below k) (k ∷ [])
      ∙ ap₂ (λ xs y. xs ++ y ∷ []) (map_below (coefficient_of (ts ++ t ∷ [])) (coefficient_of ts) k (λ w m. coefficient_before ts t w (omega (arith, m, v))) ∙ s.value) (last ∙ c)
      ∙ sym (take_more cs k (pos 0) l) ∙ ap (λ n. take n cs) (add-one k);
  increasing = ap is_increasing variables ∙ increasing_from_last 0 (map (λ t. t.variable) ts) k s.increasing (omega arith) s.under;
  under = ap (list_all (λ x. nat_lt x (suc k))) variables ∙ under_last (map (λ t. t.variable) ts) k s.under;
})
  where
    variables : map (λ t. t.variable) (ts ++ t ∷ []) ≡ map (λ t. t.variable) ts ++ k ∷ []
    variables = map-append (λ t. t.variable) ts (t ∷ []) ∙ ap (λ x. map (λ t. t.variable) ts ++ x ∷ []) v

    last : coefficient_of (ts ++ t ∷ []) k ≡ t.coefficient
    last = ap (coefficient_of (ts ++ t ∷ [])) (sym v) ∙ coefficient_last ts t (ap (λ n. are_under n ts) v ∙ s.under)

pub sparse_without : (ts : List Term) (k : ℕ) (cs : List ℤ) → IsSparse ts k cs → k < length cs → get_or cs k (pos 0) ≡ pos 0 → IsSparse ts (k + 1) cs
sparse_without ts k cs s l e = rw add-one (record {
  value =
      map-append (coefficient_of ts) (below k) (k ∷ [])
      ∙ ap₂ (λ xs y. xs ++ y ∷ []) s.value (coefficient_absent ts k k s.under (omega arith) ∙ sym e)
      ∙ sym (take_more cs k (pos 0) l) ∙ ap (λ n. take n cs) (add-one k);
  increasing = s.increasing;
  under = under_more (map (λ t. t.variable) ts) k s.under;
})

pub sparse_all : (ts : List Term) (k : ℕ) (cs : List ℤ) → IsSparse ts k cs → k ≡ length cs → map (coefficient_of ts) (below (length cs)) ≡ cs
sparse_all ts k cs s e = ap (λ n. map (coefficient_of ts) (below n)) (sym e) ∙ s.value ∙ take_all k cs (omega (arith, e))

pub narrow_at : (cs : List ℤ) (k : ℕ) → list_all is_narrow cs ≡ true → k < length cs → is_narrow (get_or cs k (pos 0)) ≡ true
narrow_at [] k h l = absurd (omega arith)
narrow_at (z ∷ cs) zero h l = (and_parts (is_narrow z) (list_all is_narrow cs) h).0
narrow_at (z ∷ cs) (suc k) h l = narrow_at cs k (and_parts (is_narrow z) (list_all is_narrow cs) h).1 (omega arith)

pub narrow_fits : (z : ℤ) → is_narrow z ≡ true → FitsSigned w128 z
narrow_fits z h = fits_within z (within_from_le (2 ^ 126) z (omega (arith, within_le (2 ^ 100) z h)))

pub present : (z : ℤ) → (z ≡ pos 0 → ⊥) → not (int_eq z (pos 0)) ≡ true
present z h = grind (arith, common_steps)
