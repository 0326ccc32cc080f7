use Rattle.tree_laws.proofs.OfMade.Names.{ids_stay}
use Rattle.tree_laws.proofs.made.laws.names_of_copies_keep_ids.Goals as goal

pub returns : goal.returns
returns c = ids_stay
