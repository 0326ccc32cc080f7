use Rattle.meaning_laws.proofs.Copies.{copied_block_law}
use Rattle.meaning_laws.proofs.laws.copied_blocks_do_the_same.Goals as goal

pub returns : goal.returns
returns c = copied_block_law
