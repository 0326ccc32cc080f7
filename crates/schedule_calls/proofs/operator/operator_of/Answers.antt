use Rattle.std.proofs.Common.{◌∙◌, sym, ap}
use Rattle.schedule_calls.specs.Operators.{rows, operator_among}
use Rattle.schedule_calls.proofs.Rows.{by_rows}
use Rattle.schedule_calls.proofs.operator.operator_of.Goals as goal

pub returns : goal.returns
returns c =
    c.operator_among.ensures ∙ ap (operator_among rows) c.as_slice.ensures
    ∙ sym (by_rows c.args.name.now)
