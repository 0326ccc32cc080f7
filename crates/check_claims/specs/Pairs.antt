-- Two lists side by side.
use Rattle.std.specs.Prelude.{List, [], ◌∷◌, ◌++◌}

-- what each pair gives, in order; the rest of the longer list gives nothing
abbrev pub flat_zip : {A B C : Type 0} → (A → B → List C) → List A → List B → List C
flat_zip f [] ys = []
flat_zip f (x ∷ xs) [] = []
flat_zip f (x ∷ xs) (y ∷ ys) = f x y ++ flat_zip f xs ys
