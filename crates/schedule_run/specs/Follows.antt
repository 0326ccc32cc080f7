-- What the latest version owed is of use for the next one.
use Rattle.std.specs.Prelude.{◌≡◌, ℕ, List, Some, slice_get}
use Rattle.exo_tree.specs.Tree.{Procedure, Program}
use Rattle.exo_meaning.specs.Units.{IsUnit}
use Rattle.affine_systems.specs.declared.obligation.Obligation.{Obligation}
use Rattle.tree_laws.specs.Findings.Versions.{with_version, HasHeadOf}
use Rattle.schedule_run.specs.Running.{AreKept}

-- a step on a version of a unit makes a procedure with its parameters and assertions
pub record ComesOf (u : Program) (k : ℕ) (q : Procedure) : Type 0 where
  pub parent : Procedure
  pub place : slice_get u.procedures k ≡ Some parent
  pub head : HasHeadOf parent q

-- it is the only one behind an earlier unit, and what that version owed there is kept
pub record Follows (owed : List Obligation) (k : ℕ) (v : Program) (q : Procedure) : Type 0 where
  pub unit : Program
  pub formed : IsUnit unit
  pub is : v ≡ with_version unit q
  pub comes : ComesOf unit k q
  pub kept : AreKept owed unit comes.parent
