-- What holds of the runs of lines.
use Rattle.std.specs.Prelude.{◌≡◌, ◌≤◌, ◌<◌, ◌++◌, ◌^◌, ℕ, List, length}
use Rattle.std.specs.Prelude.{true, nat_lt, None, Some, slice_get}
use Rattle.std.specs.List.{list_all}
use Rattle.exo_tree.specs.Tree.{Procedure, Program}
use Rattle.exo_meaning.specs.Run.{program_world}
use Rattle.exo_meaning.specs.Inputs.{Refines}
use Rattle.exo_meaning.specs.Units.{bound_ids, IsUnit}
use Rattle.meaning_laws.specs.Chain.{HasHead}
use Rattle.unit_check.specs.Faults.{NothingFaults}
use Rattle.config_laws.specs.Differing.{is_descendant, differing}
use Rattle.schedule_text.specs.Tree as tree
use Rattle.schedule_laws.specs.Versions.Versions.{Versions, started}
use Rattle.schedule_laws.specs.Versions.Places.{parent_at}
use Rattle.schedule_laws.specs.Versions.Lines.{Act, Outcome, Done}
use Rattle.schedule_laws.specs.Versions.Laws.{AreDerived, HasRoom}
use Rattle.schedule_run.specs.Runs.{IsAct, LinesRun}
use Rattle.schedule_run.specs.Roots.{root_of}

-- a line asks one thing, and lines come to one end
pub record LinesRunOnce : Type 0 where
  pub act : (line : tree.Line) (a b : Act) → IsAct line a → IsAct line b → a ≡ b
  pub end :
      (k : ℕ) (lines : List tree.Line) (v : Versions) (a b : Outcome)
      → LinesRun k lines v a
      → LinesRun k lines v b
      → a ≡ b

-- ---- a schedule that is done

-- of a well-formed unit of which nothing faults
pub record IsScheduled (unit : Program) (shown : ℕ) (lines : List tree.Line) (w : Versions) : Type 0
  where
    pub formed : IsUnit unit
    pub quiet : NothingFaults unit
    pub room : HasRoom (started unit shown) (length lines)
    pub ran : LinesRun 0 lines (started unit shown) (Done w)

-- versions stand behind the procedures of the unit, which were made of none
pub record AreVersionsOf (unit : Program) (w : Versions) : Type 0 where
  pub fields : w.unit.fields ≡ unit.fields
  pub memories : w.unit.memories ≡ unit.memories
  pub made : List Procedure
  pub grown : w.unit.procedures ≡ unit.procedures ++ made
  pub in_text : (k : ℕ) → k < length unit.procedures → parent_at w k ≡ None
  -- each comes of one of the unit
  pub root : (k : ℕ) → k < length w.unit.procedures → root_of w k < length unit.procedures
  pub from_root :
      (k : ℕ)
      → k < length w.unit.procedures
      → is_descendant w.origins k (root_of w k) ≡ true

-- version k was made of version from, in any number of steps
pub record IsVersionOf (w : Versions) (from k : ℕ) (p q : Procedure) : Type 0 where
  pub descends : is_descendant w.origins k from ≡ true
  pub old : slice_get w.unit.procedures from ≡ Some p
  pub new : slice_get w.unit.procedures k ≡ Some q

-- a version has the parameters and assertions of each version of which it was made, and refines it
-- but for the fields that the report names
pub record AreKept (unit : Program) (w : Versions) : Type 0 where
  pub derived : AreDerived w
  pub versions : AreVersionsOf unit w
  pub heads : (from k : ℕ) (p q : Procedure) → IsVersionOf w from k p q → HasHead p q
  pub refines :
      (from k : ℕ) (p q : Procedure)
      → IsVersionOf w from k p q
      → Refines (program_world w.unit) p q
      (differing w.unit w.origins k from)

abbrev pub SchedulesKeep : Type 0
SchedulesKeep =
    (unit : Program) (shown : ℕ) (lines : List tree.Line) (w : Versions)
    → IsScheduled unit shown lines w
    → AreKept unit w

-- ---- room

-- a unit of few procedures with low ids has room for the lines of a schedule
abbrev pub SmallUnitsHaveRoom : Type 0
SmallUnitsHaveRoom =
    (unit : Program) (shown lines : ℕ)
    → length unit.procedures ≤ 2 ^ 20
    → list_all (λ p. list_all (λ x. nat_lt x (2 ^ 20)) (bound_ids p)) unit.procedures ≡ true
    → lines ≤ 4096
    → HasRoom (started unit shown) lines
