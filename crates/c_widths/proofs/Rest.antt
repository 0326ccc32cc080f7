-- Whether each of a list is so, as a loop asks them one by one: what is left decides.
use Rattle.std.proofs.Common.{◌≡◌, ◌<◌, ◌≤◌, ◌+◌, ℕ, Bool, true, false, ◌&&◌, List, [], ◌∷◌, map}
use Rattle.std.proofs.Common.{drop, get_or, length, sym, ap, ◌∙◌}
use Rattle.c_widths.proofs.Growing.{drop_here, nothing_left}

module _ {A B : Type 0} (plain : A → B) (test : B → Bool) (all : List B → Bool)
    (next : (x : B) (xs : List B) → all (x ∷ xs) ≡ (test x && all xs)) where
  left_here : (xs : List A) (i : ℕ) (x : A) (t whole : Bool) → i < length xs → x ≡ get_or xs i x
      → test (plain x) ≡ t → all (map plain (drop i xs)) ≡ whole
      → (t && all (map plain (drop (i + 1) xs))) ≡ whole
  left_here xs i x t whole h is e left =
      let rest = map plain (drop (i + 1) xs) in
      ap (λ b. b && all rest) (sym e)
      ∙ sym (next (plain x) rest)
      ∙ sym (ap (λ l. all (map plain l)) (drop_here xs i x h is))
      ∙ left

  -- one that is so
  pub left_on : (xs : List A) (i : ℕ) (x : A) (whole : Bool) → i < length xs → x ≡ get_or xs i x
      → test (plain x) ≡ true → all (map plain (drop i xs)) ≡ whole
      → all (map plain (drop (i + 1) xs)) ≡ whole
  left_on xs i x whole h is e left = left_here xs i x true whole h is e left

  -- one that is not so
  pub left_off : (xs : List A) (i : ℕ) (x : A) (whole : Bool) → i < length xs → x ≡ get_or xs i x
      → test (plain x) ≡ false → all (map plain (drop i xs)) ≡ whole → false ≡ whole
  left_off xs i x whole h is e left = left_here xs i x false whole h is e left

-- none is left
pub left_none : {A B : Type 0} (plain : A → B) (all : List B → Bool) (xs : List A) (i : ℕ)
    (whole : Bool) → all [] ≡ true → length xs ≤ i → all (map plain (drop i xs)) ≡ whole
    → true ≡ whole
left_none plain all xs i whole none h left = sym none
    ∙ sym (ap (λ l. all (map plain l)) (nothing_left i xs h)) ∙ left
