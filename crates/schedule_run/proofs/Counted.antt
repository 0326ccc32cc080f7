-- How many elements come before the first that passes a test.
use Rattle.std.proofs.Common.{◌≡◌, ℕ, ◌+◌, ◌<◌, ◌≤◌, Bool, true, false, not, cond, List, ◌∷◌, map}
use Rattle.std.proofs.Common.{length, drop, slice_index_or, get_or, suc, sym, ap, ◌∙◌, add-one}
use Rattle.std.proofs.Common.{drop-cons, subst, arith}
use Rattle.std.specs.List.{position_or_len}
use Rattle.std.proofs.lemmas.List.{drop_all, length-map}
use Rattle.std.proofs.lemmas.List.Sums.{prefix_len-le-length}

-- what is read at an index stands before the rest
drop_read : {X : Type 0} (xs : List X) (k : ℕ) (x : X) → x ≡ get_or xs k x → k < length xs
    → drop k xs ≡ x ∷ drop (k + 1) xs
drop_read xs k x r h =
    drop-cons xs k x h ∙ ap (λ y. y ∷ drop (suc k) xs) (sym r)
    ∙ ap (λ n. x ∷ drop n xs) (sym (add-one k))

module _ {A B : Type 0} (f : A → B) (p : B → Bool) where
  -- none of the first so many passes
  abbrev pub PassedOver : List A → ℕ → Type 0
  PassedOver xs k = position_or_len p (map f xs) ≡ k + position_or_len p (map f (drop k xs))

  no_first : (b : Bool) (n : ℕ) → b ≡ false → cond (not b) (1 + n) 0 ≡ 1 + n
  no_first b n h = ap (λ t. cond (not t) (1 + n) 0) h

  first : (b : Bool) (n : ℕ) → b ≡ true → cond (not b) (1 + n) 0 ≡ 0
  first b n h = ap (λ t. cond (not t) (1 + n) 0) h

  pub passed_none : (xs : List A) → PassedOver xs 0
  passed_none xs = none (position_or_len p (map f xs))
    where
      none : (n : ℕ) → n ≡ 0 + n
      none n = omega arith

  at_index : (xs : List A) (k : ℕ) (x : A) → x ≡ slice_index_or xs k x → k < length xs
      → position_or_len p (map f (drop k xs))
      ≡ cond (not (p (f x))) (1 + position_or_len p (map f (drop (k + 1) xs))) 0
  at_index xs k x r h = ap (λ ys. position_or_len p (map f ys)) (drop_read xs k x r h)

  pub passed_more : (xs : List A) (k : ℕ) (x : A) → x ≡ slice_index_or xs k x → k < length xs
      → p (f x) ≡ false → PassedOver xs k → PassedOver xs (k + 1)
  passed_more xs k x r h e w =
      let rest = position_or_len p (map f (drop (k + 1) xs)) in
      let step = at_index xs k x r h ∙ no_first (p (f x)) rest e in
      omega (arith, w, step)

  pub passed_until : (xs : List A) (k : ℕ) (x : A) → x ≡ slice_index_or xs k x → k < length xs
      → p (f x) ≡ true → PassedOver xs k → k ≡ position_or_len p (map f xs)
  passed_until xs k x r h e w =
      let rest = position_or_len p (map f (drop (k + 1) xs)) in
      let step = at_index xs k x r h ∙ first (p (f x)) rest e in
      omega (arith, w, step)

  pub passed_all : (xs : List A) (k : ℕ) → k ≤ length xs → length xs ≤ k → PassedOver xs k
      → length xs ≡ position_or_len p (map f xs)
  passed_all xs k h l w =
      let step : position_or_len p (map f (drop k xs)) ≡ 0 =
      ap (λ ys. position_or_len p (map f ys)) (drop_all k xs l) in
      omega (arith, h, l, w, step)

  pub count_within : (xs : List A) → position_or_len p (map f xs) ≤ length xs
  count_within xs =
      subst (λ n. position_or_len p (map f xs) ≤ n) (length-map xs f)
      (prefix_len-le-length (λ b. not (p b)) (map f xs))
