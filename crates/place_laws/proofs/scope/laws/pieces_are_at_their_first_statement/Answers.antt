use Rattle.place_laws.proofs.OfScope.SamePlace.{first_place}
use Rattle.place_laws.proofs.scope.laws.pieces_are_at_their_first_statement.Goals as goal

pub returns : goal.returns
returns c = first_place
