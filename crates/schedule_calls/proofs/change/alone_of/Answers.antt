use Rattle.schedule_calls.specs.Readings.{alone}
use Rattle.schedule_calls.specs.declared.operator.ChangeOperator.TheVariants as kind
use Rattle.schedule_calls.proofs.Lists.{no_item}
use Rattle.schedule_calls.proofs.Changes.{asks_read}
use Rattle.schedule_calls.proofs.change.alone_of.Goals as goal

pub returns-in-empty : goal.returns-in-empty
returns-in-empty c =
    asks_read (kind.Alone c.args.operator) _ _ _ (no_item _ c.in-empty.len_below)
    (alone c.args.operator)
