use Rattle.std.proofs.Common.{◌∙◌}
use Rattle.schedule_calls.proofs.Strings.{no_pattern}
use Rattle.schedule_calls.proofs.string.pattern_of.Goals as goal

pub returns : goal.returns
returns c =
    no_pattern c.patterns_are_one.ensures c.args.string.now.pieces.items _ _
    (c.as_slice.ensures.value ∙ c.in_ok-bytes.ensures.value) c.in-Err.ensures
    c.in_ok-refused-in-Err.ensures
