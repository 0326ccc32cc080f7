use Rattle.meaning_laws.proofs.CopiesAtPlaces.{may_copy_behind}
use Rattle.meaning_laws.proofs.laws.blocks_may_be_copied_behind_others.Goals as goal

pub returns : goal.returns
returns c = may_copy_behind
