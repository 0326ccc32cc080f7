use Rattle.c_unit_laws.proofs.OfFollows.Holes.{holes_name_their_arguments}
use Rattle.c_unit_laws.proofs.follows.laws.holes_name_their_arguments.Goals as goal

pub returns : goal.returns
returns c = holes_name_their_arguments
