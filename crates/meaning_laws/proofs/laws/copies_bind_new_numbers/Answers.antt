use Rattle.meaning_laws.proofs.CopiesAtPlaces.{copies_bind_new_numbers}
use Rattle.meaning_laws.proofs.laws.copies_bind_new_numbers.Goals as goal

pub returns : goal.returns
returns c = copies_bind_new_numbers
