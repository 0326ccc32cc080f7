use Rattle.c_unit_laws.proofs.Listings.{emitted_are_printed}
use Rattle.c_unit_laws.proofs.laws.emitted_are_printed.Goals as goal

pub returns : goal.returns
returns c = emitted_are_printed
