use Rattle.schedule_calls.specs.Readings.{with_word}
use Rattle.schedule_calls.specs.declared.operator.ChangeOperator.TheVariants as kind
use Rattle.schedule_calls.proofs.Lists.{one_item}
use Rattle.schedule_calls.proofs.Changes.{asks_read}
use Rattle.schedule_calls.proofs.change.with_word_of.Goals as goal

pub returns-in-Some : goal.returns-in-Some
returns-in-Some c =
    asks_read (kind.WithWord c.args.operator) _ _ _
    (one_item _ c.word-item.result c.in-len1.len_at_least c.in-len1.len_below c.word-item.is)
    (with_word c.args.operator _ _ c.in-Some.ensures)
