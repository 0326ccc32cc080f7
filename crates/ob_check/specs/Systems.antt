-- The systems of obligations, and which of them a cache does not know.
use Rattle.std.specs.Prelude.{ℕ, ◌≡◌, Bool, true, false, List, [], ◌∷◌, map, Result, ⊤}
use Rattle.std.specs.declared.alloc.AllocError.{AllocError}
use Rattle.std.specs.declared.result.Result.TheVariants.{Ok, Err}
use Rattle.std.specs.declared.vec.Vec.{Vec}
use Rattle.std.proofs.Common.{Global}
use Rattle.affine_forms.specs.Affine.{Constraints}
use Rattle.affine_forms.specs.System.{plain_system}
use Rattle.affine_systems.specs.declared.obligation.Obligation.{Obligation}
use Rattle.ob_check.specs.declared.known.KnownSystem.{KnownSystem}
use Rattle.ob_check.specs.declared.found.Found.{Found}
use Rattle.ob_check.specs.declared.found.Found.TheVariants.{Kept, Missing}

-- the systems that obligations owe
abbrev pub systems_of : List Obligation → List Constraints
systems_of os = map (λ o. plain_system o.system) os

-- the system whose verdict is known
abbrev pub system_known : KnownSystem → Constraints
system_known k = plain_system k.system.now

-- what a chunk gave, nothing where memory ran out
abbrev pub known_in : Result (Vec KnownSystem Global) AllocError → List KnownSystem
known_in (Ok v) = v.items
known_in (Err e) = []

-- the system that was looked up
abbrev pub system_found : Found → Constraints
system_found (Kept k) = system_known k
system_found (Missing s) = plain_system s.now

-- the cache did not know it
abbrev pub was_missing : Found → Bool
was_missing (Kept k) = false
was_missing (Missing s) = true

-- the systems that the cache does not know, in order
abbrev pub missing_of : List Found → List Constraints
missing_of [] = []
missing_of (Kept k ∷ fs) = missing_of fs
missing_of (Missing s ∷ fs) = plain_system s.now ∷ missing_of fs

-- of the systems that are decided, the first is the one that was looked up, if that was missing
abbrev pub ComesFirst : Found → List KnownSystem → Type 0
ComesFirst (Kept k) ds = ⊤
ComesFirst (Missing s) [] = ⊥
ComesFirst (Missing s) (d ∷ ds) = system_known d ≡ plain_system s.now

-- how many of them are its own
abbrev pub own_count : Found → ℕ
own_count (Kept k) = 0
own_count (Missing s) = 1
