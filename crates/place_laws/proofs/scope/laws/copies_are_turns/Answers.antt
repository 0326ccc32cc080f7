use Rattle.place_laws.proofs.OfScope.Unrolled.{copies_are_turns_law}
use Rattle.place_laws.proofs.scope.laws.copies_are_turns.Goals as goal

pub returns : goal.returns
returns c = copies_are_turns_law
