use Rattle.place_laws.proofs.OfScope.BehindBlocks.{opened_behind}
use Rattle.place_laws.proofs.scope.laws.openings_are_behind_blocks.Goals as goal

pub returns : goal.returns
returns c = opened_behind
