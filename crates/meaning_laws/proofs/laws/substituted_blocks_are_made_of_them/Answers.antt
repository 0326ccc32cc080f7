use Rattle.meaning_laws.proofs.CopiesAtPlaces.{substituted_is_made}
use Rattle.meaning_laws.proofs.laws.substituted_blocks_are_made_of_them.Goals as goal

pub returns : goal.returns
returns c = substituted_is_made
