use Rattle.place_laws.proofs.OfScope.Unrolled.{turns_are_scopes_law}
use Rattle.place_laws.proofs.scope.laws.turns_are_scopes.Goals as goal

pub returns : goal.returns
returns c = turns_are_scopes_law
