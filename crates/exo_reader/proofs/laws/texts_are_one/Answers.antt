use Rattle.exo_reader.proofs.Eased.{texts_are_one}
use Rattle.exo_reader.proofs.laws.texts_are_one.Goals as goal

pub returns : goal.returns
returns c = texts_are_one
