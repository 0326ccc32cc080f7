-- What each rule keeps: the procedure is refined by what is proposed but for the fields that may
-- differ from its point on and are not written again.
use Rattle.std.specs.Prelude.{◌≡◌, ℕ, List, length}
use Rattle.exo_tree.specs.Tree.{Argument, Procedure, ConfigField, Program}
use Rattle.exo_tree.specs.Places.{Path}
use Rattle.exo_meaning.specs.Run.{unit_world, kinds_of}
use Rattle.exo_meaning.specs.Inputs.{Refines}
use Rattle.meaning_laws.specs.Sorted.{MayRun}
use Rattle.config_laws.specs.FieldRule.{FieldRule, Side, Got, Proposed, proposed, fields_at_end}
use Rattle.config_laws.specs.WriteConfig.{write_config}
use Rattle.config_laws.specs.DeleteConfig.{delete_config}
use Rattle.config_laws.specs.BindConfig.{bind_config}
use Rattle.config_laws.specs.Differing.{Origin, VersionsStand}
use Rattle.config_laws.specs.CallEqv.{call_eqv}

-- in a unit that may be called, where the result keeps the rules of the language
abbrev pub KeepsMeaning : List ConfigField → ℕ → List Procedure → FieldRule → Type 0
KeepsMeaning fields memories ps rule =
    (p : Procedure) (at : Path) (m : Proposed)
    → proposed rule p at ≡ Got m
    → MayRun fields memories ps p
    → MayRun fields memories ps m.proc
    → Refines (unit_world (kinds_of fields) ps) p m.proc
    (fields_at_end ps m.proc.body m.place m.side m.fields)

abbrev pub WriteConfigRefines : Type 0
WriteConfigRefines =
    (fields : List ConfigField) (memories : ℕ) (ps : List Procedure) (side : Side) (f : ℕ)
    (e : Argument)
    → KeepsMeaning fields memories ps (write_config ps side f e)

abbrev pub DeleteConfigRefines : Type 0
DeleteConfigRefines =
    (fields : List ConfigField) (memories : ℕ) (ps : List Procedure)
    → KeepsMeaning fields memories ps (delete_config ps)

abbrev pub BindConfigRefines : Type 0
BindConfigRefines =
    (fields : List ConfigField) (memories : ℕ) (ps : List Procedure) (name : List ℕ) (f : ℕ)
    → KeepsMeaning fields memories ps (bind_config ps name f)

abbrev pub CallEqvRefines : Type 0
CallEqvRefines =
    (unit : Program) (os : List Origin) (j : ℕ)
    → VersionsStand unit os
    → KeepsMeaning unit.fields (length unit.memories) unit.procedures (call_eqv unit os j)
