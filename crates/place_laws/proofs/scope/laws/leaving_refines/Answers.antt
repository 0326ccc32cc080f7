use Rattle.place_laws.proofs.OfScope.Opened.{leaving_refines}
use Rattle.place_laws.proofs.scope.laws.leaving_refines.Goals as goal

pub returns : goal.returns
returns c = leaving_refines
