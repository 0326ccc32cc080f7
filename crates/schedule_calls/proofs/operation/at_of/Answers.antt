use Rattle.std.proofs.Common.{◌∷◌, take, drop, length, ◌-◌}
use Rattle.schedule_calls.specs.Readings.{at}
use Rattle.schedule_calls.specs.declared.operator.OperatorName.TheVariants as operator
use Rattle.schedule_calls.proofs.Answered.{some_of}
use Rattle.schedule_calls.proofs.Lists.{first_and_rest}
use Rattle.schedule_calls.proofs.Changes.{operation_read}
use Rattle.schedule_calls.proofs.operation.at_of.Goals as goal

pub returns-in-Some-2 : goal.returns-in-Some-2
returns-in-Some-2 c =
    let args = c.args.args.now in
    operation_read (operator.At c.args.kind) args
    (c.at-item.result ∷ take (length args - 1) (drop 1 args)) _
    (first_and_rest args _ c.in-len1-up.len_at_least c.at-item.is)
    (at c.args.kind _ _ _ _ (some_of _ _ _ _ c.in-Some.is c.in_ok-at.ensures)
    (some_of _ _ _ _ c.in-Some-2.is c.in_ok-change.ensures))
