-- Where no numbered name is a word of C, a renamed binder gets a name that nothing else has.
use Rattle.std.proofs.Common.{◌≡◌, ◌≤◌, ◌<◌, ◌+◌, ◌^◌, ◌==◌, ◌++◌, ℕ, zero, suc, nat_lt, Bool, true, false, ◌||◌, cond, List, [], ◌∷◌, length, refl, sym, ap, ◌∙◌, subst, arith, true≢false, eqb-true, ◌⊎◌, ⊎_elim, inl, inr}
use Rattle.c_tree.specs.Names.Words.{Name, same_name, is_in, is_word}
use Rattle.c_tree.specs.Names.Names.{pick, numbered, first_free, is_taken}
use Rattle.c_unit_laws.proofs.Spelling.{Small, names_equal, numbered_injective}

pub or_false : (a b : Bool) → (a || b) ≡ false → (a ≡ false) × (b ≡ false)
or_false true b h = absurd (true≢false h)
or_false false b h = (refl, h)

pub or_rest : (a b : Bool) → a ≡ false → (a || b) ≡ true → b ≡ true
or_rest true b h k = absurd (true≢false h)
or_rest false b h k = k

-- ---- more names than a list has can't all be in it

-- all numbers but i, in their order
abbrev skip : ℕ → ℕ → ℕ
skip i j = cond (nat_lt j i) j (suc j)

skip_below : (i j m : ℕ) → j < m → skip i j < suc m
skip_below i j m h = go (nat_lt j i)
  where
    go : (t : Bool) → cond t j (suc j) < suc m
    go true = omega arith
    go false = omega arith

skip_other : (i j : ℕ) → skip i j ≡ i → ⊥
skip_other i j = go (nat_lt j i) refl
  where
    go : (t : Bool) → nat_lt j i ≡ t → cond t j (suc j) ≡ i → ⊥
    go true e h = grind arith
    go false e h = grind arith

skip_injective : (i j k : ℕ) → skip i j ≡ skip i k → j ≡ k
skip_injective i j k = go (nat_lt j i) (nat_lt k i) refl refl
  where
    go : (s t : Bool) → nat_lt j i ≡ s → nat_lt k i ≡ t → cond s j (suc j) ≡ cond t k (suc k) → j ≡ k
    go true true d e h = h
    go false false d e h = omega arith
    go true false d e h = grind arith
    go false true d e h = grind arith

abbrev Found : Name → (ℕ → Name) → ℕ → Type 0
Found y f n = ((i : ℕ) × (i < n) × (same_name y (f i) ≡ true)) ⊎ ((i : ℕ) → i < n → same_name y (f i) ≡ false)

search : (y : Name) (f : ℕ → Name) (n : ℕ) → Found y f n
search y f zero = inr (λ i h. absurd (omega arith))
search y f (suc n) = ⊎_elim (λ e. inl (e.0, omega (arith, e.1), e.2)) (λ none. go none (same_name y (f n)) refl) (search y f n)
  where
    below : ((i : ℕ) → i < n → same_name y (f i) ≡ false) → same_name y (f n) ≡ false → (i : ℕ) → i < suc n → same_name y (f i) ≡ false
    below none e i h = pick_one (i == n) refl
      where
        pick_one : (t : Bool) → (i == n) ≡ t → same_name y (f i) ≡ false
        pick_one true d = ap (λ z. same_name y (f z)) (eqb-true i n d) ∙ e
        pick_one false d = none i (grind arith)

    go : ((i : ℕ) → i < n → same_name y (f i) ≡ false) → (t : Bool) → same_name y (f n) ≡ t → Found y f (suc n)
    go none true e = inl (n, omega arith, e)
    go none false e = inr (below none e)

abbrev Injective : (ℕ → Name) → ℕ → Type 0
Injective f n = (i j : ℕ) → i < n → j < n → f i ≡ f j → i ≡ j

pub fewer : (names : List Name) (f : ℕ → Name) (n : ℕ) → Injective f n → ((i : ℕ) → i < n → is_in names (f i) ≡ true) → n ≤ length names
fewer names f zero h k = omega arith
fewer [] f (suc n) h k = absurd (true≢false (sym (k 0 (omega arith))))
fewer (y ∷ names) f (suc n) h k =
    ⊎_elim
    (λ e.
    let others : (j : ℕ) → j < n → is_in names (f (skip e.0 j)) ≡ true = λ j b. or_rest (same_name y (f (skip e.0 j))) _ (apart e.0 e.1 e.2 j b) (k (skip e.0 j) (skip_below e.0 j n b)) in
    let r = fewer names (λ j. f (skip e.0 j)) n (λ i j a b d. skip_injective e.0 i j (h (skip e.0 i) (skip e.0 j) (skip_below e.0 i n a) (skip_below e.0 j n b) d)) others in omega arith)
    (λ none. let r = fewer names f (suc n) h (λ i b. or_rest (same_name y (f i)) _ (none i b) (k i b)) in omega arith)
    (search y f (suc n))
  where
    apart : (i : ℕ) → i < suc n → same_name y (f i) ≡ true → (j : ℕ) → j < n → same_name y (f (skip i j)) ≡ false
    apart i b e j c = go (same_name y (f (skip i j))) refl
      where
        go : (t : Bool) → same_name y (f (skip i j)) ≡ t → t ≡ false
        go false d = refl
        go true d = absurd (skip_other i j (h (skip i j) i (skip_below i j n c) b (sym (names_equal y (f (skip i j)) d) ∙ names_equal y (f i) e)))

-- ---- the first free number

module _ (taken : Name → Bool) (x : Name) where
  pub number_below : (n k : ℕ) → first_free taken x n k ≤ k + n
  number_below zero k = omega arith
  number_below (suc n) k = go (taken (numbered x k)) (number_below n (suc k))
    where
      go : (t : Bool) → first_free taken x n (suc k) ≤ suc k + n → pick t (first_free taken x n (suc k)) k ≤ k + suc n
      go true h = omega arith
      go false h = omega arith

  -- where its name is taken, so are all
  all_taken : (n k : ℕ) → taken (numbered x (first_free taken x n k)) ≡ true → (i : ℕ) → i < n → taken (numbered x (k + i)) ≡ true
  all_taken zero k h i b = absurd (omega arith)
  all_taken (suc n) k h i b = go (taken (numbered x k)) refl h (all_taken n (suc k)) i b
    where
      go : (t : Bool) → taken (numbered x k) ≡ t → taken (numbered x (pick t (first_free taken x n (suc k)) k)) ≡ true → (taken (numbered x (first_free taken x n (suc k))) ≡ true → (j : ℕ) → j < n → taken (numbered x (suc k + j)) ≡ true) → (j : ℕ) → j < suc n → taken (numbered x (k + j)) ≡ true
      go false e g rest j c = absurd (true≢false (sym g ∙ e))
      go true e g rest zero c = ap (λ z. taken (numbered x z)) (omega arith) ∙ e
      go true e g rest (suc j) c = ap (λ z. taken (numbered x z)) (omega arith) ∙ rest g j (omega arith)

-- ---- the name of a renamed binder

abbrev pub room : List Name → List Name → ℕ
room globals binders = suc (length globals + length binders)

abbrev pub number_of : List Name → List Name → Name → ℕ
number_of globals binders x = first_free (is_taken globals binders) x (room globals binders) 1

in_either : (t a b c : Bool) → ((a || b) ≡ true → c ≡ true) → ((t || a) || b) ≡ true → (t || c) ≡ true
in_either true a b c rest h = refl
in_either false a b c rest h = rest h

in_both : (xs ys : List Name) (y : Name) → (is_in xs y || is_in ys y) ≡ true → is_in (xs ++ ys) y ≡ true
in_both [] ys y h = h
in_both (x ∷ xs) ys y h = in_either (same_name x y) (is_in xs y) (is_in ys y) (is_in (xs ++ ys) y) (in_both xs ys y) h

pub both_long : (xs ys : List Name) → length (xs ++ ys) ≡ length xs + length ys
both_long [] ys = omega arith
both_long (x ∷ xs) ys = let r = both_long xs ys in omega arith

-- where no numbered name is a word, one is free
pub free : (globals binders : List Name) (x : Name) → room globals binders < 2 ^ 63 → ((k : ℕ) → Small k → is_word (numbered x k) ≡ false) → is_taken globals binders (numbered x (number_of globals binders x)) ≡ false
free globals binders x small ordinary = go (is_taken globals binders (numbered x (number_of globals binders x))) refl
  where
    member : (y : Name) → is_word y ≡ false → is_taken globals binders y ≡ true → is_in (globals ++ binders) y ≡ true
    member y e h = in_both globals binders y (subst (λ b. ((b || is_in globals y) || is_in binders y) ≡ true) e h)

    go : (t : Bool) → is_taken globals binders (numbered x (number_of globals binders x)) ≡ t → t ≡ false
    go false e = refl
    go true e =
        let n = room globals binders in
        let all = all_taken (is_taken globals binders) x n 1 e in
        let r = fewer (globals ++ binders) (λ i. numbered x (1 + i)) n (λ i j a b d. let s = (numbered_injective x x (1 + i) (1 + j) (omega arith) (omega arith) d).1 in omega arith) (λ i b. member (numbered x (1 + i)) (ordinary (1 + i) (omega arith)) (all i b)) in
        let l = both_long globals binders in
        absurd (omega arith)
