use Rattle.schedule_calls.specs.Readings.{whole}
use Rattle.schedule_calls.specs.declared.operator.OperatorName.TheVariants as operator
use Rattle.schedule_calls.proofs.Lists.{no_item}
use Rattle.schedule_calls.proofs.Changes.{operation_read}
use Rattle.schedule_calls.proofs.operation.whole_of.Goals as goal

pub returns-in-empty : goal.returns-in-empty
returns-in-empty c =
    operation_read (operator.Whole c.args.kind) _ _ _ (no_item _ c.in-empty.len_below)
    (whole c.args.kind)
