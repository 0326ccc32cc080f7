use Rattle.exo_cli.proofs.Complete.{ends_are_complete}
use Rattle.exo_cli.proofs.laws.ends_are_complete.Goals as goal

pub returns : goal.returns
returns c = ends_are_complete c.ends_are_one.ensures
