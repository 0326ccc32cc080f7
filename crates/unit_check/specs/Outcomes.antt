-- What the check of a unit answers.
use Rattle.std.specs.Prelude.{◌≡◌, ⊤, ◌⊎◌, ℕ, [], Option, Some, None, Result, Ok, Err}
use Rattle.exo_tree.specs.Places.{Path}
use Rattle.bounds_check.specs.Outcomes.{IsRefusal}
use Rattle.bounds_check.specs.declared.error.CheckError.TheVariants as error
use Rattle.unit_check.specs.Checked.{Cause, NotListed, NotShown, Checked, Shown, Refused}
use Rattle.unit_check.specs.declared.refused.Why.{Why}
use Rattle.unit_check.specs.declared.refused.Why.TheVariants as why
use Rattle.unit_check.specs.declared.refused.UnitRefused.{UnitRefused}

-- that cause, at that place: the empty path where the obligations can't be listed
abbrev pub IsCause : Why → Path → Cause → Type 0
IsCause (why.Check error.Memory) path c = ⊥
IsCause (why.Check e) path (NotListed f) = IsRefusal e (Some f) × (path ≡ [])
IsCause (why.Check e) path (NotShown what place verdict) = ⊥
IsCause (why.NotShown what place verdict) path (NotListed f) = ⊥
IsCause (why.NotShown what place verdict) path (NotShown w owes v) = (what ≡ w) × (place ≡ owes) × (path ≡ owes) × (verdict ≡ v)
IsCause why.Memory path c = ⊥

-- the refusal of the procedure of that number for that cause; want of memory is free
abbrev pub IsOf : UnitRefused → ℕ → Cause → Type 0
IsOf r k cause = (r.why ≡ why.Memory) ⊎ ((r.proc.0 ≡ k) × IsCause r.why r.place cause)

abbrev pub IsRefused : UnitRefused → Checked → Type 0
IsRefused r (Shown count) = r.why ≡ why.Memory
IsRefused r (Refused k cause) = IsOf r k cause

-- obligations are shown exactly where none is open; want of memory is free
abbrev pub Shows : {A : Type 0} → Result A Why → Option Cause → Type 0
Shows (Ok t) first = first ≡ None
Shows (Err (why.Check e)) first = ⊥
Shows (Err (why.NotShown what place verdict)) first = first ≡ Some (NotShown what place verdict)
Shows (Err why.Memory) first = ⊤

-- where it stands; the empty path where the obligations can't be listed
abbrev pub place_in : Why → Path
place_in (why.Check e) = []
place_in (why.NotShown what place verdict) = place
place_in why.Memory = []

-- a procedure is refused exactly where there is a cause
abbrev pub Answers : {A : Type 0} → Result A UnitRefused → ℕ → Option Cause → Type 0
Answers (Ok t) k cause = cause ≡ None
Answers (Err r) k None = r.why ≡ why.Memory
Answers (Err r) k (Some cause) = IsOf r k cause

abbrev pub IsChecked : Result ℕ UnitRefused → Checked → Type 0
IsChecked (Ok count) c = c ≡ Shown count
IsChecked (Err r) c = IsRefused r c
