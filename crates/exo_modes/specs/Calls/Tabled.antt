-- Tables made item by item, each entry from those before it.
use Rattle.std.specs.Prelude.{List, [], ◌∷◌, ◌++◌}

abbrev pub tabled : {A B : Type 0} → (List B → A → B) → List B → List A → List B
tabled f above [] = above
tabled f above (a ∷ rest) = tabled f (above ++ f above a ∷ []) rest
