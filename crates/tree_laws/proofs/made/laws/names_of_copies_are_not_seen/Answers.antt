use Rattle.tree_laws.proofs.OfMade.Names.{run_alike}
use Rattle.tree_laws.proofs.made.laws.names_of_copies_are_not_seen.Goals as goal

pub returns : goal.returns
returns c = run_alike
