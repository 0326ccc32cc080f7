use Rattle.schedule_calls.specs.Readings.{specialize}
use Rattle.schedule_calls.specs.declared.operator.ChangeOperator.TheVariants as kind
use Rattle.schedule_calls.proofs.Answered.{some_of}
use Rattle.schedule_calls.proofs.Lists.{one_item}
use Rattle.schedule_calls.proofs.Changes.{asks_read}
use Rattle.schedule_calls.proofs.change.specialize_of.Goals as goal

pub returns-in-Some : goal.returns-in-Some
returns-in-Some c =
    asks_read kind.Specialize _ _ _
    (one_item _ c.condition-item.result c.in-len1.len_at_least c.in-len1.len_below c.condition-item.is)
    (specialize _ _ (some_of _ _ _ _ c.in-Some.is c.in_ok-condition.ensures))
