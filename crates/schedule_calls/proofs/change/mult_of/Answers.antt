use Rattle.schedule_calls.specs.Readings.{mult_loops}
use Rattle.schedule_calls.specs.declared.operator.ChangeOperator.TheVariants as kind
use Rattle.schedule_calls.proofs.Answered.{some_of}
use Rattle.schedule_calls.proofs.Lists.{one_item}
use Rattle.schedule_calls.proofs.Changes.{asks_read}
use Rattle.schedule_calls.proofs.change.mult_of.Goals as goal

pub returns-in-Some : goal.returns-in-Some
returns-in-Some c =
    asks_read kind.MultLoops _ _ _
    (one_item _ c.name-item.result c.in-len1.len_at_least c.in-len1.len_below c.name-item.is)
    (mult_loops _ _ (some_of _ _ _ _ c.in-Some.is c.in_ok-name.ensures))
