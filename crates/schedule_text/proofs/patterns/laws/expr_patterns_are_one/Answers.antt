use Rattle.schedule_text.proofs.OfPatterns.Unique.{expr_patterns_are_one}
use Rattle.schedule_text.proofs.patterns.laws.expr_patterns_are_one.Goals as goal

pub returns : goal.returns
returns c = expr_patterns_are_one
