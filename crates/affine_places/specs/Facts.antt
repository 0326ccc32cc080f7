-- What is known of configuration fields at a place.
use Rattle.std.specs.Prelude.{ℕ, ◌==◌, Bool, true, ◌&&◌, if◌then◌else◌, List, [], ◌∷◌, slice_get, Option, Some, None}
use Rattle.exo_tree.specs.Tree.{Kind, Index, Argument, ControlArg, ConditionArg, Whole, Window, ConfigField}
use Rattle.exo_tree.specs.Places.{Path}
use Rattle.affine_forms.specs.Forms.{keeps_rules}
use Rattle.affine_forms.specs.Formulas.{condition_keeps_rules}

-- a field has the value of an expression or condition, or one that the statement at that path made unknown
pub data Fact : Type 0 where
  Known : Argument → Fact
  UnknownAt : Path → Fact

pub record FieldFact : Type 0 where
  pub field : ℕ
  pub fact : Fact

-- the first fact of a field; None is that it has the value that it had at entry
abbrev pub fact_of : List FieldFact → ℕ → Option Fact
fact_of [] f = None
fact_of (e ∷ es) f = if e.field == f then Some e.fact else fact_of es f

-- a known value is an expression or condition that keeps the rules
abbrev pub fact_keeps_rules : Fact → Bool
fact_keeps_rules (Known (ControlArg e)) = keeps_rules e
fact_keeps_rules (Known (ConditionArg c)) = condition_keeps_rules c
fact_keeps_rules (Known (Whole x)) = true
fact_keeps_rules (Known (Window x cs)) = true
fact_keeps_rules (UnknownAt path) = true

abbrev pub facts_keep_rules : List FieldFact → Bool
facts_keep_rules [] = true
facts_keep_rules (e ∷ es) = fact_keeps_rules e.fact && facts_keep_rules es

-- the kind of a field
abbrev pub kind_of : List ConfigField → ℕ → Kind
kind_of fields f = elim (slice_get fields f) [ None ↦ Index | Some c ↦ c.kind ]
