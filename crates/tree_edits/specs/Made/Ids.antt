-- The ids that made binders are given.
use Rattle.std.specs.Prelude.{ℕ, suc, max, List, [], ◌∷◌, map}
use Rattle.exo_tree.specs.Tree.{Param, Procedure}
use Rattle.exo_meaning.specs.Units.{bound_ids}

-- the least number that is above all of these
abbrev pub above_all : List ℕ → ℕ
above_all [] = 0
above_all (x ∷ xs) = max (suc x) (above_all xs)

-- the first id of a made binder: the one behind the greatest of the procedure
abbrev pub next_id : Procedure → ℕ
next_id p = above_all (bound_ids p)

abbrev pub param_ids : List Param → List ℕ
param_ids ps = map (λ p. p.binder.id) ps
