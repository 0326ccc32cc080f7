-- Where an expression may stand for a variable.
use Rattle.std.specs.Prelude.{◌≡◌, ℕ, true, false, List, Some}
use Rattle.exo_tree.specs.Tree.{Kind, Control, Block, Procedure, ConfigField}
use Rattle.exo_meaning.specs.Run.{kinds_of, unit_world}
use Rattle.exo_meaning.specs.Units.{Scope, ControlName, sort_in, is_truth, is_block, field_kind}
use Rattle.meaning_laws.specs.Scoped.{has_binder}
use Rattle.meaning_laws.specs.Substitute.{has_variable, catches}

-- in a well-formed block nothing catches an expression for a number in scope, if the block binds no
-- variable of it
abbrev pub NothingIsCaught : Type 0
NothingIsCaught =
    (fields : List ConfigField) (memories : ℕ) (ps : List Procedure) (scope : Scope)
    (root : ℕ → ℕ) (i : ℕ) (kind : Kind) (e : Control) (b : Block)
    → let callees = (unit_world (kinds_of fields) ps).callees in
    is_block (field_kind fields) memories callees scope root b ≡ true
    → sort_in scope i ≡ Some (ControlName kind)
    → is_truth kind ≡ false
    → ((x : ℕ) → has_binder b x ≡ true → has_variable e x ≡ false)
    → catches i e b ≡ false
