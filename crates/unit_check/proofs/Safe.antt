-- What is checked does not fault.
use Rattle.std.proofs.Common.{◌≡◌, ℕ, suc, ◌+◌, List, [], ◌∷◌, length, Option, Some, None, refl}
use Rattle.std.specs.List.{AllByRecursion}
use Rattle.std.proofs.lemmas.List.Elements.{All-from_recursion}
use Rattle.exo_tree.specs.Tree.{Procedure, Program}
use Rattle.affine_systems.specs.Outcomes.{Owed}
use Rattle.affine_prover.specs.Laws.{ShownSystemsHaveNoPoint}
use Rattle.bounds_check.specs.Obligations.{Fault, obligations_of, list_fault}
use Rattle.unit_check.specs.Faults.{ShownProceduresDoNotFault}
use Rattle.unit_check.specs.Checked.{Cause, Shown, Refused, first_open, cause_from, cause_of, checked_from}
use Rattle.unit_check.specs.Laws.{CheckedUnitsDoNotFault}
use Rattle.unit_check.proofs.Checking.{Holds, nothing_faults}
use Rattle.unit_check.proofs.Made.{none_open_is_closed, obligations_are_made}

no_cause : (f : Option Fault) (os : List Owed) → cause_from f os ≡ None → first_open os ≡ None
no_cause None os h = h
no_cause (Some f) os h = cc

module _ (law : ShownSystemsHaveNoPoint) where
  holds : (u : Program) (p : Procedure) → cause_of u p ≡ None → Holds u p
  holds u p h = none_open_is_closed law (obligations_of u p) (obligations_are_made u p) (no_cause (list_fault u p) (obligations_of u p) h)

  all_hold : (u : Program) (k n : ℕ) (ps : List Procedure) (count : ℕ) → checked_from u k n ps ≡ Shown count → AllByRecursion (Holds u) ps
  all_hold u k n [] count h = tt
  all_hold u k n (p ∷ ps) count h = by_cause (cause_of u p) refl (λ g. all_hold u (suc k) (n + length (obligations_of u p)) ps count g) h
    where
      by_cause : (o : Option Cause) → cause_of u p ≡ o → (checked_from u (suc k) (n + length (obligations_of u p)) ps ≡ Shown count → AllByRecursion (Holds u) ps) → elim o [ None ↦ checked_from u (suc k) (n + length (obligations_of u p)) ps | Some cause ↦ Refused k cause ] ≡ Shown count → AllByRecursion (Holds u) (p ∷ ps)
      by_cause None e on h = (holds u p e, on h)
      by_cause (Some cause) e on h = cc

pub checked_units_do_not_fault : ShownSystemsHaveNoPoint → ShownProceduresDoNotFault → CheckedUnitsDoNotFault
checked_units_do_not_fault shown_law fault_law u count is h =
    nothing_faults fault_law u is (All-from_recursion (Holds u) u.procedures (all_hold shown_law u 0 0 u.procedures count h))
