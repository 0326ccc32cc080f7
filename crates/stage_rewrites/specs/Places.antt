-- The variables of loops by their ids, and the cells of a window at them.
use Rattle.std.specs.Prelude.{ℕ, suc, List, [], ◌∷◌}
use Rattle.exo_tree.specs.Tree.{Control, Var, Add, Coord, At, Span}

-- one for each extent
abbrev pub variables_from : ℕ → List Control → List Control
variables_from id [] = []
variables_from id (e ∷ es) = Var id ∷ variables_from (suc id) es

-- a variable for each span
abbrev pub spots_from : ℕ → List Coord → List Control
spots_from id [] = []
spots_from id (At a ∷ cs) = a ∷ spots_from id cs
spots_from id (Span a b ∷ cs) = Add a (Var id) ∷ spots_from (suc id) cs
