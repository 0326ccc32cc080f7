use Rattle.meaning_laws.proofs.CopiesAtPlaces.{may_copy_substituted}
use Rattle.meaning_laws.proofs.laws.substituted_blocks_may_be_copied.Goals as goal

pub returns : goal.returns
returns c = may_copy_substituted
