use Rattle.place_laws.proofs.OfScope.Opened.{blocks_may_close}
use Rattle.place_laws.proofs.scope.laws.blocks_may_close.Goals as goal

pub returns : goal.returns
returns c = blocks_may_close
