use Rattle.place_laws.proofs.OfScope.Turns.{split_turns_law}
use Rattle.place_laws.proofs.scope.laws.split_turns.Goals as goal

pub returns : goal.returns
returns c = split_turns_law
