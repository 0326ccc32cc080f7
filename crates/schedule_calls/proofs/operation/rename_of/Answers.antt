use Rattle.schedule_calls.specs.Readings.{rename}
use Rattle.schedule_calls.specs.declared.operator.OperatorName.TheVariants as operator
use Rattle.schedule_calls.proofs.Answered.{some_of}
use Rattle.schedule_calls.proofs.Lists.{one_item}
use Rattle.schedule_calls.proofs.Changes.{operation_read}
use Rattle.schedule_calls.proofs.operation.rename_of.Goals as goal

pub returns-in-Some : goal.returns-in-Some
returns-in-Some c =
    operation_read operator.Rename _ _ _
    (one_item _ c.name-item.result c.in-len1.len_at_least c.in-len1.len_below c.name-item.is)
    (rename _ _ (some_of _ _ _ _ c.in-Some.is c.in_ok-name.ensures))
