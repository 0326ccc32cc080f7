use Rattle.meaning_laws.proofs.CopiesAtPlaces.{may_copy_next}
use Rattle.meaning_laws.proofs.laws.copies_may_follow_copies.Goals as goal

pub returns : goal.returns
returns c = may_copy_next
