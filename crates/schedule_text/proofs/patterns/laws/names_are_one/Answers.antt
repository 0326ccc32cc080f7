use Rattle.schedule_text.proofs.OfPatterns.Names.{names_are_one}
use Rattle.schedule_text.proofs.patterns.laws.names_are_one.Goals as goal

pub returns : goal.returns
returns c = names_are_one
