-- A list of what is told of each of the first elements, and the rest of them.
use Rattle.std.proofs.Common.{◌≡◌, ◌<◌, ◌≤◌, ◌+◌, ℕ, List, [], ◌∷◌, ◌++◌, length, get_or, drop, sym, ap, ◌∙◌}
use Rattle.std.proofs.Common.{append_assoc}
use Rattle.std.proofs.lemmas.List.{append-nil, at_drop_more, at_drop_all}

module _ {X Y : Type 0} (F : List X → List Y) where
  -- one more element
  pub row_on : (g : X → Y) → ((x : X) (xs : List X) → F (x ∷ xs) ≡ g x ∷ F xs)
      → (xs : List X) (k : ℕ) (x : X) (y : Y) (had has whole : List Y)
      → k < length xs → x ≡ get_or xs k x → y ≡ g x → has ≡ had ++ y ∷ []
      → had ++ F (drop k xs) ≡ whole
      → has ++ F (drop (k + 1) xs) ≡ whole
  row_on g each xs k x y had has whole l is told e w =
      let rest = drop (k + 1) xs in
      ap (λ ys. ys ++ F rest) e
      ∙ append_assoc had (y ∷ []) (F rest)
      ∙ ap (λ ys. had ++ ys)
      (ap (λ z. z ∷ F rest) told ∙ sym (each x rest) ∙ ap (λ z. F (z ∷ rest)) is ∙ sym (at_drop_more F xs k x l))
      ∙ w

  -- no element is left
  pub row_all : F [] ≡ [] → (xs : List X) (k : ℕ) (had whole : List Y)
      → length xs ≤ k → had ++ F (drop k xs) ≡ whole → had ≡ whole
  row_all none xs k had whole l w =
      sym (append-nil had) ∙ ap (λ ys. had ++ ys) (sym (at_drop_all F xs k l ∙ none)) ∙ w
