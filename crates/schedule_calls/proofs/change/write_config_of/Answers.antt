use Rattle.schedule_calls.specs.Readings.{write_config}
use Rattle.schedule_calls.specs.declared.operator.ChangeOperator.TheVariants as kind
use Rattle.schedule_calls.proofs.Answered.{some_of, none_of}
use Rattle.schedule_calls.proofs.Lists.{three_items}
use Rattle.schedule_calls.proofs.Changes.{asks_read, none_read, no_written}
use Rattle.schedule_calls.proofs.change.write_config_of.Goals as goal

pub returns-in-Some-3 : goal.returns-in-Some-3
returns-in-Some-3 c =
    asks_read kind.WriteConfig _ _ _
    (three_items _ c.config-item.result c.field-item.result c.value-item.result
    c.in-len3.len_at_least c.in-len3.len_below c.config-item.is c.field-item.is c.value-item.is)
    (write_config _ _ _ _ _ _
    c.in-Some.ensures
    (some_of _ _ _ _ c.in-Some-2.is c.in_ok-field.ensures)
    (some_of _ _ _ _ c.in-Some-3.is c.in_ok-value.ensures))

pub returns-in-None : goal.returns-in-None
returns-in-None c =
    none_read kind.WriteConfig _ _
    (three_items _ c.config-item.result c.field-item.result c.value-item.result
    c.in-len3.len_at_least c.in-len3.len_below c.config-item.is c.field-item.is c.value-item.is)
    (no_written _ _ _ (none_of _ _ _ c.in-None.is c.in_ok-value.ensures))
