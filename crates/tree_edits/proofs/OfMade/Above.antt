-- The least number above several lists.
use Rattle.std.proofs.Common.{◌≡◌, ℕ, max, List, [], ◌∷◌, ◌++◌, arith}
use Rattle.tree_edits.specs.Made.Ids.{above_all}

pub above_joined : (xs ys : List ℕ) → above_all (xs ++ ys) ≡ max (above_all xs) (above_all ys)
above_joined [] ys = omega arith
above_joined (x ∷ xs) ys = omega (arith, above_joined xs ys)
