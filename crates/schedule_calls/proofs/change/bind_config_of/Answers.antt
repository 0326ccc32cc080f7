use Rattle.schedule_calls.specs.Readings.{bind_config}
use Rattle.schedule_calls.specs.declared.operator.ChangeOperator.TheVariants as kind
use Rattle.schedule_calls.proofs.Answered.{some_of, none_of}
use Rattle.schedule_calls.proofs.Lists.{three_items}
use Rattle.schedule_calls.proofs.Changes.{asks_read, none_read, no_bound_field}
use Rattle.schedule_calls.proofs.change.bind_config_of.Goals as goal

pub returns-in-Some-3 : goal.returns-in-Some-3
returns-in-Some-3 c =
    asks_read kind.BindConfig _ _ _
    (three_items _ c.param-item.result c.config-item.result c.field-item.result
    c.in-len3.len_at_least c.in-len3.len_below c.param-item.is c.config-item.is c.field-item.is)
    (bind_config _ _ _ _ _ _
    (some_of _ _ _ _ c.in-Some-2.is c.in_ok-param.ensures)
    c.in-Some.ensures
    (some_of _ _ _ _ c.in-Some-3.is c.in_ok-field.ensures))

pub returns-in-None : goal.returns-in-None
returns-in-None c =
    none_read kind.BindConfig _ _
    (three_items _ c.param-item.result c.config-item.result c.field-item.result
    c.in-len3.len_at_least c.in-len3.len_below c.param-item.is c.config-item.is c.field-item.is)
    (no_bound_field _ _ _ (none_of _ _ _ c.in-None.is c.in_ok-field.ensures))
