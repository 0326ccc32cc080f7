use Rattle.std.proofs.Common.{◌∙◌}
use Rattle.schedule_calls.proofs.Strings.{no_expression}
use Rattle.schedule_calls.proofs.string.expression_of.Goals as goal

pub returns : goal.returns
returns c =
    no_expression c.expr_patterns_are_one.ensures c.args.string.now.pieces.items _ _
    (c.as_slice.ensures.value ∙ c.in_ok-bytes.ensures.value) c.in-Err.ensures
    c.in_ok-refused-in-Err.ensures
