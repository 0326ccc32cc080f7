use Rattle.meaning_laws.proofs.CopiesAtPlaces.{places_may_copy}
use Rattle.meaning_laws.proofs.laws.blocks_may_be_copied_at_places.Goals as goal

pub returns : goal.returns
returns c = places_may_copy
