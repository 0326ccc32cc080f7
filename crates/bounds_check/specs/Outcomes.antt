-- What the calls on a procedure's obligations answer.
use Rattle.std.specs.Prelude.{◌≡◌, ⊤, List, [], ◌++◌, map, Option, Some, None, Vec, Result, Ok, Err}
use Rattle.exo_tree.specs.Tree.{Procedure, Program}
use Rattle.affine_forms.specs.declared.error.FormError.TheVariants as form
use Rattle.affine_systems.specs.Outcomes.{Owed, plain_obligation}
use Rattle.affine_systems.specs.declared.obligation.Obligation.{Obligation}
use Rattle.exo_tree.specs.Places.{Path}
use Rattle.check_claims.specs.Claim.{Placed}
use Rattle.check_claims.specs.Claims.{claims_there}
use Rattle.bounds_check.specs.Obligations.{Fault, Wide, ManyCases, LargeSystem, ManyObligations}
use Rattle.bounds_check.specs.Obligations.{owed_for_all, obligations_of, first_fault, list_fault}
use Rattle.bounds_check.specs.declared.error.CheckError.{CheckError}
use Rattle.bounds_check.specs.declared.error.CheckError.TheVariants.{TooManyObligations, Form, Memory}

-- the refusal is that fault; want of memory is free
abbrev pub IsRefusal : CheckError → Option Fault → Type 0
IsRefusal TooManyObligations f = f ≡ Some ManyObligations
IsRefusal (Form form.TooManyCases) f = f ≡ Some ManyCases
IsRefusal (Form form.SystemTooLarge) f = f ≡ Some LargeSystem
IsRefusal (Form form.WideNumber) f = f ≡ Some Wide
IsRefusal (Form form.TooManySystems) f = ⊥
IsRefusal (Form form.Memory) f = ⊥
IsRefusal Memory f = ⊤

-- what claims of a procedure owe comes behind the others, exactly where nothing of it is refused
abbrev pub Owes : {A : Type 0} → Result A CheckError → Program → Procedure → List Placed → List Owed → List Owed → Type 0
Owes (Ok t) u p cs old new = (first_fault u p old cs ≡ None) × (new ≡ old ++ owed_for_all u p cs)
Owes (Err e) u p cs old new = IsRefusal e (first_fault u p old cs)

-- what claims of a procedure owe together comes exactly where nothing of it is refused, else the
-- first fault
abbrev pub AreOwedFor :
    {A : Type 0} → Result (Vec Obligation A) CheckError → Program → Procedure → List Placed → Type 0
AreOwedFor (Ok os) u p cs =
    (first_fault u p [] cs ≡ None) × (map plain_obligation os.items ≡ owed_for_all u p cs)
AreOwedFor (Err e) u p cs = IsRefusal e (first_fault u p [] cs)

-- a fault was looked for and found, or there is none; want of memory is free
abbrev pub Finds : {A : Type 0} → Result A CheckError → Option Fault → Type 0
Finds (Ok t) f = f ≡ None
Finds (Err e) f = IsRefusal e f

-- a procedure's obligations come exactly where none of its claims is refused, else the first fault
abbrev pub AreObligations : {A : Type 0} → Result (Vec Obligation A) CheckError → Program → Procedure → Type 0
AreObligations (Ok os) u p = (list_fault u p ≡ None) × (map plain_obligation os.items ≡ obligations_of u p)
AreObligations (Err e) u p = IsRefusal e (list_fault u p)

-- of the procedure of that number; none where the unit has no such procedure
abbrev pub AreObligationsIn : {A : Type 0} → Result (Vec Obligation A) CheckError → Program → Option Procedure → Type 0
AreObligationsIn (Ok os) u None = os.items ≡ []
AreObligationsIn (Err e) u None = e ≡ Memory
AreObligationsIn r u (Some p) = AreObligations r u p

-- what the statement at a path owes itself, in the procedure of that number; nothing where the unit
-- has no such procedure
abbrev pub AreOwedThere :
    {A : Type 0} → Result (Vec Obligation A) CheckError → Program → Option Procedure → Path → Type 0
AreOwedThere (Ok os) u None path = os.items ≡ []
AreOwedThere (Err e) u None path = e ≡ Memory
AreOwedThere r u (Some p) path = AreOwedFor r u p (claims_there u p path)
