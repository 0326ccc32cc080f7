use Rattle.place_laws.proofs.OfScope.Opened.{block_may_open}
use Rattle.place_laws.proofs.scope.laws.block_may_open.Goals as goal

pub returns : goal.returns
returns c = block_may_open
