use Rattle.c_unit_laws.proofs.Listings.{printings_are_listings}
use Rattle.c_unit_laws.proofs.laws.printings_are_listings.Goals as goal

pub returns : goal.returns
returns c = printings_are_listings
