use Rattle.schedule_calls.specs.Readings.{expand_dim}
use Rattle.schedule_calls.specs.declared.operator.ChangeOperator.TheVariants as kind
use Rattle.schedule_calls.proofs.Answered.{some_of}
use Rattle.schedule_calls.proofs.Lists.{two_items}
use Rattle.schedule_calls.proofs.Changes.{asks_read}
use Rattle.schedule_calls.proofs.change.expand_of.Goals as goal

pub returns-in-Some-2 : goal.returns-in-Some-2
returns-in-Some-2 c =
    asks_read kind.ExpandDim _ _ _
    (two_items _ c.size-item.result c.point-item.result c.in-len2.len_at_least c.in-len2.len_below
    c.size-item.is c.point-item.is)
    (expand_dim _ _ _ _ (some_of _ _ _ _ c.in-Some.is c.in_ok-size.ensures)
    (some_of _ _ _ _ c.in-Some-2.is c.in_ok-point.ensures))
