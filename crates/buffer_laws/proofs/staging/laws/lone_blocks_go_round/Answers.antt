use Rattle.buffer_laws.proofs.OfStaging.Behind.{round_law}
use Rattle.buffer_laws.proofs.staging.laws.lone_blocks_go_round.Goals as goal

pub returns : goal.returns
returns c = round_law
