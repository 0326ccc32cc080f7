use Rattle.schedule_calls.proofs.Once.{lines_ask_once}
use Rattle.schedule_calls.proofs.laws.lines_ask_once.Goals as goal

pub returns : goal.returns
returns c =
    lines_ask_once c.patterns_are_one.ensures c.expr_patterns_are_one.ensures
    c.expressions_are_one.ensures c.windows_are_one.ensures
