use Rattle.tree_laws.proofs.OfMade.Names.{names_alone}
use Rattle.tree_laws.proofs.made.laws.names_of_copies_are_names_alone.Goals as goal

pub returns : goal.returns
returns c = names_alone
