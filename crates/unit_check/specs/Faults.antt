-- Shown means no fault.
use Rattle.std.specs.Prelude.{◌≡◌, ℕ, Some, All, slice_get}
use Rattle.exo_tree.specs.Tree.{Procedure, Program}
use Rattle.exo_meaning.specs.Units.{IsUnit}
use Rattle.affine_forms.specs.Affine.{HasNoIntegerPoint}
use Rattle.bounds_check.specs.Obligations.{obligations_of}
use Rattle.check_laws.specs.Claims.Holding.{LeadsTo}
use Rattle.check_laws.specs.Claims.Laws.{NeverFaults}

-- no system that the procedure of that number owes has an integer point
abbrev pub IsShown : Program → ℕ → Type 0
IsShown u k =
    (p : Procedure)
    → slice_get u.procedures k ≡ Some p
    → All (λ o. HasNoIntegerPoint o.system) (obligations_of u p)

-- in a well-formed unit, a procedure that is shown, with all that it calls, directly or not, never faults on an admissible input
abbrev pub ShownProceduresDoNotFault : Type 0
ShownProceduresDoNotFault =
    (u : Program) (k : ℕ)
    → IsUnit u
    → ((j : ℕ) → LeadsTo u k j → IsShown u j)
    → NeverFaults u k

-- no admissible input makes any procedure of the unit fault
abbrev pub NothingFaults : Program → Type 0
NothingFaults u = (k : ℕ) → NeverFaults u k
