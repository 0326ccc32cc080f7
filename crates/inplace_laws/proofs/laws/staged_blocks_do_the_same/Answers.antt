use Rattle.inplace_laws.proofs.Staged.{staged_law}
use Rattle.inplace_laws.proofs.laws.staged_blocks_do_the_same.Goals as goal

pub returns : goal.returns
returns c = staged_law
