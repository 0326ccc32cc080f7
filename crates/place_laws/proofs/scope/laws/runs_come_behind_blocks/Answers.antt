use Rattle.place_laws.proofs.OfScope.BehindBlocks.{holes_behind_blocks}
use Rattle.place_laws.proofs.scope.laws.runs_come_behind_blocks.Goals as goal

pub returns : goal.returns
returns c = holes_behind_blocks
