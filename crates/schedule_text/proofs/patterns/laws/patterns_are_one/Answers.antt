use Rattle.schedule_text.proofs.OfPatterns.Unique.{patterns_are_one}
use Rattle.schedule_text.proofs.patterns.laws.patterns_are_one.Goals as goal

pub returns : goal.returns
returns c = patterns_are_one
