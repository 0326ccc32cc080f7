use Rattle.exo_cli.proofs.Unique.{answers_are_unique}
use Rattle.exo_cli.proofs.laws.answers_are_unique.Goals as goal

pub returns : goal.returns
returns c = answers_are_unique c.ends_are_one.ensures
