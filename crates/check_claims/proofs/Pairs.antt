-- Two lists side by side, one pair after the other.
use Rattle.std.proofs.Common.{◌≡◌, ℕ, zero, suc, ◌+◌, ◌<◌, ◌≤◌, min, List, [], ◌∷◌, ◌++◌, length, drop, get_or, refl, ap, sym, ◌∙◌, add-one, append_assoc, drop-cons, arith}
use Rattle.check_claims.specs.Pairs.{flat_zip}

-- what is read at an index stands before the rest
pub drop_read : {X : Type 0} (xs : List X) (k : ℕ) (x : X) → x ≡ get_or xs k x → k < length xs → drop k xs ≡ x ∷ drop (k + 1) xs
drop_read xs k x r h = drop-cons xs k x h ∙ ap (λ y. y ∷ drop (suc k) xs) (sym r) ∙ ap (λ n. x ∷ drop n xs) (sym (add-one k))

nothing_more : {C : Type 0} (out : List C) → out ++ [] ≡ out
nothing_more [] = refl
nothing_more (c ∷ out) = ap (λ l. c ∷ l) (nothing_more out)

module _ {A B C : Type 0} (f : A → B → List C) where
  -- one pair more
  pub zipped_on : (out new whole : List C) (x : A) (y : B) (xs more : List A) (ys rest : List B) → xs ≡ x ∷ more → ys ≡ y ∷ rest → new ≡ out ++ f x y → out ++ flat_zip f xs ys ≡ whole → new ++ flat_zip f more rest ≡ whole
  zipped_on out new whole x y xs more ys rest d e h w =
      ap (λ l. l ++ flat_zip f more rest) h
      ∙ append_assoc out (f x y) (flat_zip f more rest)
      ∙ ap (λ l. out ++ l) (λ i. flat_zip f (sym d i) (sym e i))
      ∙ w

  unpaired : (xs : List A) → flat_zip f xs [] ≡ []
  unpaired [] = refl
  unpaired (x ∷ xs) = refl

  none_left : (xs : List A) (ys : List B) (k : ℕ) → min (length xs) (length ys) ≤ k → flat_zip f (drop k xs) (drop k ys) ≡ []
  none_left [] ys zero h = refl
  none_left [] ys (suc k) h = refl
  none_left (x ∷ xs) [] zero h = refl
  none_left (x ∷ xs) [] (suc k) h = unpaired (drop k xs)
  none_left (x ∷ xs) (y ∷ ys) zero h = absurd (omega (arith, h))
  none_left (x ∷ xs) (y ∷ ys) (suc k) h = none_left xs ys k (omega (arith, h))

  -- no pair is left
  pub zipped_off : (out whole : List C) (xs : List A) (ys : List B) (k : ℕ) → min (length xs) (length ys) ≤ k → out ++ flat_zip f (drop k xs) (drop k ys) ≡ whole → out ≡ whole
  zipped_off out whole xs ys k h w = sym (nothing_more out) ∙ ap (λ l. out ++ l) (sym (none_left xs ys k h)) ∙ w

-- ---- by number

-- each pair by its number, and with what comes after it
module _ {A B C : Type 0} (walk : ℕ → List A → List B → List C) (one : ℕ → A → B → List A → List B → List C)
    (goes : (k : ℕ) (x : A) (y : B) (xs : List A) (ys : List B) → walk k (x ∷ xs) (y ∷ ys) ≡ one k x y xs ys ++ walk (suc k) xs ys)
    (no_first : (k : ℕ) (ys : List B) → walk k [] ys ≡ [])
    (no_second : (k : ℕ) (xs : List A) → walk k xs [] ≡ []) where
  -- one pair more
  pub numbered_on : (out new whole : List C) (k : ℕ) (x : A) (y : B) (xs more : List A) (ys rest : List B)
      → xs ≡ x ∷ more → ys ≡ y ∷ rest → new ≡ out ++ one k x y more rest → out ++ walk k xs ys ≡ whole
      → new ++ walk (k + 1) more rest ≡ whole
  numbered_on out new whole k x y xs more ys rest d e h w =
      ap (λ n. new ++ walk n more rest) (add-one k)
      ∙ ap (λ l. l ++ walk (suc k) more rest) h
      ∙ append_assoc out (one k x y more rest) (walk (suc k) more rest)
      ∙ ap (λ l. out ++ l) (sym (goes k x y more rest) ∙ (λ i. walk k (sym d i) (sym e i)))
      ∙ w

  none_numbered : (n : ℕ) (xs : List A) (ys : List B) (k : ℕ) → min (length xs) (length ys) ≤ k → walk n (drop k xs) (drop k ys) ≡ []
  none_numbered n [] ys zero h = no_first n ys
  none_numbered n [] ys (suc k) h = no_first n (drop (suc k) ys)
  none_numbered n (x ∷ xs) [] zero h = no_second n (x ∷ xs)
  none_numbered n (x ∷ xs) [] (suc k) h = no_second n (drop k xs)
  none_numbered n (x ∷ xs) (y ∷ ys) zero h = absurd (omega (arith, h))
  none_numbered n (x ∷ xs) (y ∷ ys) (suc k) h = none_numbered n xs ys k (omega (arith, h))

  -- no pair is left
  pub numbered_off : (out whole : List C) (n : ℕ) (xs : List A) (ys : List B) (k : ℕ) → min (length xs) (length ys) ≤ k
      → out ++ walk n (drop k xs) (drop k ys) ≡ whole → out ≡ whole
  numbered_off out whole n xs ys k h w = sym (nothing_more out) ∙ ap (λ l. out ++ l) (sym (none_numbered n xs ys k h)) ∙ w
