use Rattle.place_laws.proofs.OfScope.Narrower.{narrower_keeps}
use Rattle.place_laws.proofs.scope.laws.rules_hold_in_narrower_scopes.Goals as goal

pub returns : goal.returns
returns c = narrower_keeps
