use Rattle.meaning_laws.proofs.CopiesAtPlaces.{old_may_be_copied}
use Rattle.meaning_laws.proofs.laws.old_blocks_may_be_copied.Goals as goal

pub returns : goal.returns
returns c = old_may_be_copied
