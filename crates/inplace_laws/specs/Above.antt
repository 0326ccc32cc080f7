-- The world in which a procedure's body runs when it is called.
use Rattle.std.specs.Prelude.{◌≡◌, ℕ, zero, suc, List, [], ◌∷◌, ◌++◌, Some}
use Rattle.exo_tree.specs.Tree.{Kind, Procedure}
use Rattle.exo_meaning.specs.Run.{callee_in}
use Rattle.exo_meaning.specs.Run.{unit_world}
use Rattle.inplace_laws.specs.Inline.{IsWider}

abbrev pub size : List Procedure → ℕ
size [] = zero
size (p ∷ ps) = suc (size ps)

-- it is called by its number, and all that stands above it can be called in the whole unit too
abbrev pub AboveLaw : Type 0
AboveLaw =
    (kinds : ℕ → Kind) (before : List Procedure) (q : Procedure) (after : List Procedure)
    → let above = unit_world kinds before in
    let world = unit_world kinds (before ++ q ∷ after) in
    IsWider above world × (world.callees (size before) ≡ Some (callee_in above q))
