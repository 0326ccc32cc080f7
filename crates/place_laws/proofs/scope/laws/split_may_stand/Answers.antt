use Rattle.place_laws.proofs.OfScope.Opened.{split_may_stand}
use Rattle.place_laws.proofs.scope.laws.split_may_stand.Goals as goal

pub returns : goal.returns
returns c = split_may_stand
