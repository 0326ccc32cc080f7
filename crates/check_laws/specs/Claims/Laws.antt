-- The laws of claims, each the contract of a function in `laws`.
use Rattle.std.specs.Prelude.{◌≡◌, ℕ, true, Some, IsSome, length, slice_get}
use Rattle.exo_tree.specs.Tree.{Procedure, Program}
use Rattle.exo_meaning.specs.State.{State}
use Rattle.exo_meaning.specs.Run.{program_world}
use Rattle.exo_meaning.specs.Inputs.{IsAdmissible, run_procedure}
use Rattle.exo_meaning.specs.Orders.{Each}
use Rattle.exo_meaning.specs.Units.{IsUnit}
use Rattle.meaning_laws.specs.Sorted.{MayRun}
use Rattle.check_claims.specs.Claims.{claims_of}
use Rattle.check_laws.specs.Claims.Holding.{ClaimHolds, ClaimsHold, ClaimIsFormed, calls, LeadsTo}

-- a procedure of a well-formed unit may call all of it
abbrev pub ProceduresMayRun : Type 0
ProceduresMayRun =
    (u : Program) (k : ℕ) (p : Procedure)
    → IsUnit u
    → slice_get u.procedures k ≡ Some p
    → MayRun u.fields (length u.memories) u.procedures p

-- its claims are conditions over the names in scope at their places
abbrev pub ClaimsAreFormed : Type 0
ClaimsAreFormed =
    (u : Program) (p : Procedure)
    → MayRun u.fields (length u.memories) u.procedures p
    → Each (ClaimIsFormed u p) (claims_of u p)

-- no admissible input makes the procedure of that number fault
abbrev pub NeverFaults : Program → ℕ → Type 0
NeverFaults u k =
    (p : Procedure)
    → slice_get u.procedures k ≡ Some p
    → (s : State)
    → IsAdmissible (program_world u) p s
    → IsSome (run_procedure (program_world u) p s)

-- where the claims of a procedure that may call all of a unit hold, and no procedure that it calls
-- ever faults, it never faults
abbrev pub ClaimsSufficeHere : Type 0
ClaimsSufficeHere =
    (u : Program) (p : Procedure)
    → MayRun u.fields (length u.memories) u.procedures p
    → Each (ClaimHolds (program_world u) p) (claims_of u p)
    → ((k : ℕ) → calls p.body k ≡ true → NeverFaults u k)
    → (s : State)
    → IsAdmissible (program_world u) p s
    → IsSome (run_procedure (program_world u) p s)

-- in a well-formed unit: where the claims of a procedure and of all that it calls hold, it never
-- faults
abbrev pub ClaimsSuffice : Type 0
ClaimsSuffice =
    (u : Program) (k : ℕ) → IsUnit u → ((j : ℕ) → LeadsTo u k j → ClaimsHold u j) → NeverFaults u k
