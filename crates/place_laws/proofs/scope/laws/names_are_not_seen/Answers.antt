use Rattle.place_laws.proofs.OfScope.Bare.{names_ignored}
use Rattle.place_laws.proofs.scope.laws.names_are_not_seen.Goals as goal

pub returns : goal.returns
returns c = names_ignored
