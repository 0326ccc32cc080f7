-- Well-formed units with one procedure more.
use Rattle.std.specs.Prelude.{◌≡◌, ◌^◌, ◌+◌, ℕ, suc, nat_lt, nat_le, Bool, true, [], ◌∷◌, ◌++◌}
use Rattle.std.specs.Prelude.{length, Some, slice_get}
use Rattle.exo_tree.specs.Tree.{Procedure, Program}
use Rattle.exo_meaning.specs.Run.{program_world}
use Rattle.exo_meaning.specs.Units.{IsProcedure, IsUnit, field_kind}
use Rattle.tree_findings.specs.Classes.{all_kept}
use Rattle.tree_findings.specs.Findings.{findings_of_version}

-- a unit with one procedure more, behind those that it has
abbrev pub with_version : Program → Procedure → Program
with_version unit q = record unit { procedures = unit.procedures ++ q ∷ [] }

-- it keeps the rules, and may call each procedure of the unit
abbrev pub IsProcedureOf : Program → Procedure → Type 0
IsProcedureOf unit p =
    IsProcedure (field_kind unit.fields) (length unit.memories) (program_world unit).callees p

-- there is a number left for one procedure more
abbrev pub has_room : Program → Bool
has_room unit = nat_lt (suc (length unit.procedures)) (2 ^ 31)

-- each procedure of a unit is one that may stand behind all of them
abbrev pub ProcedureLaw : Type 0
ProcedureLaw =
    (unit : Program) (k : ℕ) (p : Procedure)
    → IsUnit unit
    → slice_get unit.procedures k ≡ Some p
    → IsProcedureOf unit p

-- and with such a procedure behind them the unit is well formed
abbrev pub VersionLaw : Type 0
VersionLaw =
    (unit : Program) (q : Procedure)
    → IsUnit unit
    → has_room unit ≡ true
    → IsProcedureOf unit q
    → IsUnit (with_version unit q)

-- what a step leaves of a procedure
pub record HasHeadOf (p q : Procedure) : Type 0 where
  pub params : q.params ≡ p.params
  pub asserts : q.asserts ≡ p.asserts
  pub template : q.template ≡ p.template

-- a procedure of which nothing is broken is one of the unit
abbrev pub FoundIsProcedure : Type 0
FoundIsProcedure =
    (unit : Program) (k base : ℕ) (p q : Procedure)
    → IsUnit unit
    → slice_get unit.procedures k ≡ Some p
    → HasHeadOf p q
    → all_kept (findings_of_version unit base q) ≡ true
    → nat_le (base + 65536) (2 ^ 31) ≡ true
    → IsProcedureOf unit q

-- so it may stand behind those of the unit
abbrev pub KeptLaw : Type 0
KeptLaw =
    (unit : Program) (k base : ℕ) (p q : Procedure)
    → IsUnit unit
    → slice_get unit.procedures k ≡ Some p
    → HasHeadOf p q
    → all_kept (findings_of_version unit base q) ≡ true
    → nat_le (base + 65536) (2 ^ 31) ≡ true
    → has_room unit ≡ true
    → IsUnit (with_version unit q)
