-- What the chunks of a list of claims give.
use Rattle.std.specs.Prelude.{List, [], map, Result, Ok, Err, Vec}
use Rattle.std.proofs.Common.{Global}
use Rattle.affine_systems.specs.Outcomes.{Owed, plain_obligation}
use Rattle.affine_systems.specs.declared.obligation.Obligation.{Obligation}
use Rattle.bounds_check.specs.declared.error.CheckError.{CheckError}

-- what a chunk gave, nothing where it was refused
abbrev pub listed_in : Result (Vec Obligation Global) CheckError → List Owed
listed_in (Ok os) = map plain_obligation os.items
listed_in (Err e) = []
