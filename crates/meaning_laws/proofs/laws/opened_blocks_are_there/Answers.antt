use Rattle.meaning_laws.proofs.Places.{opened_law}
use Rattle.meaning_laws.proofs.laws.opened_blocks_are_there.Goals as goal

pub returns : goal.returns
returns c = opened_law
