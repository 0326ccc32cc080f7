-- A procedure of a unit keeps the names of its binders where copies have the ids behind its own.
use Rattle.std.specs.Prelude.{◌≡◌, ℕ, Some, slice_get}
use Rattle.exo_tree.specs.Tree.{Procedure, Program}
use Rattle.exo_meaning.specs.Units.{IsUnit}
use Rattle.tree_edits.specs.Made.Ids.{next_id}
use Rattle.tree_edits.specs.Made.Names.{named_copies}

-- there is no copy in its body, so no binder gets another name
abbrev pub OwnNamesStay : Type 0
OwnNamesStay =
    (u : Program) (k : ℕ) (p : Procedure)
    → IsUnit u
    → slice_get u.procedures k ≡ Some p
    → named_copies p (next_id p) p.body ≡ p.body
