use Rattle.meaning_laws.proofs.CopiesAtPlaces.{old_is_made}
use Rattle.meaning_laws.proofs.laws.old_blocks_are_made_of_themselves.Goals as goal

pub returns : goal.returns
returns c = old_is_made
