use Rattle.schedule_calls.specs.Readings.{bind_expr}
use Rattle.schedule_calls.specs.declared.operator.ChangeOperator.TheVariants as kind
use Rattle.schedule_calls.proofs.Answered.{some_of, none_of}
use Rattle.schedule_calls.proofs.Lists.{two_items}
use Rattle.schedule_calls.proofs.Changes.{asks_read, none_read, no_bound_part}
use Rattle.schedule_calls.proofs.change.bind_expr_of.Goals as goal

pub returns-in-Some-2 : goal.returns-in-Some-2
returns-in-Some-2 c =
    asks_read kind.BindExpr _ _ _
    (two_items _ c.part-item.result c.name-item.result c.in-len2.len_at_least c.in-len2.len_below
    c.part-item.is c.name-item.is)
    (bind_expr _ _ _ _ (some_of _ _ _ _ c.in-Some-2.is c.in_ok-part.ensures)
    (some_of _ _ _ _ c.in-Some.is c.in_ok-name.ensures))

pub returns-in-None : goal.returns-in-None
returns-in-None c =
    none_read kind.BindExpr _ _
    (two_items _ c.part-item.result c.name-item.result c.in-len2.len_at_least c.in-len2.len_below
    c.part-item.is c.name-item.is)
    (no_bound_part _ _ (none_of _ _ _ c.in-None.is c.in_ok-part.ensures))
