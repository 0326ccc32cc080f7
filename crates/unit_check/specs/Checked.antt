-- Whether the procedures of a unit show what they owe: in their order, and of each first whether its obligations can be listed.
use Rattle.std.specs.Prelude.{ℕ, suc, ◌+◌, if◌then◌else◌, List, [], ◌∷◌, length, Option, Some, None, All}
use Rattle.exo_tree.specs.Tree.{Procedure, Program}
use Rattle.exo_tree.specs.Places.{Path}
use Rattle.affine_forms.specs.Affine.{HasNoIntegerPoint}
use Rattle.affine_systems.specs.Outcomes.{Owed}
use Rattle.affine_prover.specs.Elimination.{elimination}
use Rattle.affine_prover.specs.declared.answer.Verdict.{Verdict}
use Rattle.ob_check.specs.Answers.{is_refused}
use Rattle.bounds_check.specs.Obligations.{Fault, obligations_of, list_fault}

-- why a procedure is refused: its obligations can't be listed, or one is not shown: its claim as it is written, the place that owes
-- it, and the verdict on its system
pub data Cause : Type 0 where
  NotListed : Fault → Cause
  NotShown : List ℕ → Path → Verdict → Cause

-- the first obligation whose verdict is refused
abbrev pub first_open : List Owed → Option Cause
first_open [] = None
first_open (o ∷ os) = if is_refused (elimination o.system) then Some (NotShown o.what o.place (elimination o.system)) else first_open os

abbrev pub cause_from : Option Fault → List Owed → Option Cause
cause_from (Some f) os = Some (NotListed f)
cause_from None os = first_open os

abbrev pub cause_of : Program → Procedure → Option Cause
cause_of u p = cause_from (list_fault u p) (obligations_of u p)

-- the number of obligations of all procedures, or the number of the first procedure that is refused, with the cause
pub data Checked : Type 0 where
  Shown : ℕ → Checked
  Refused : ℕ → Cause → Checked

-- of the procedures from number k on, behind so many obligations
abbrev pub checked_from : Program → ℕ → ℕ → List Procedure → Checked
checked_from u k count [] = Shown count
checked_from u k count (p ∷ ps) =
    elim (cause_of u p) [
      | None ↦ checked_from u (suc k) (count + length (obligations_of u p)) ps
      | Some cause ↦ Refused k cause
    ]

abbrev pub checked : Program → Checked
checked u = checked_from u 0 0 u.procedures

-- no system that a procedure of the unit owes has an integer point
abbrev pub AllHold : Program → Type 0
AllHold u = All (λ p. All (λ o. HasNoIntegerPoint o.system) (obligations_of u p)) u.procedures
