use Rattle.exo_reader.proofs.Eased.{expressions_are_one}
use Rattle.exo_reader.proofs.laws.expressions_are_one.Goals as goal

pub returns : goal.returns
returns c = expressions_are_one
