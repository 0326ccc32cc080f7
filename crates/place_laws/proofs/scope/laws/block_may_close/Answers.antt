use Rattle.place_laws.proofs.OfScope.Opened.{block_may_close}
use Rattle.place_laws.proofs.scope.laws.block_may_close.Goals as goal

pub returns : goal.returns
returns c = block_may_close
