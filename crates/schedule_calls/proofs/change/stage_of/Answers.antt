use Rattle.std.proofs.Common.{◌∷◌, take, drop, length, ◌-◌, sym, ◌∙◌}
use Rattle.schedule_calls.specs.Readings.{stage_mem}
use Rattle.schedule_calls.specs.declared.operator.ChangeOperator.TheVariants as kind
use Rattle.schedule_calls.proofs.Answered.{some_of, none_of}
use Rattle.schedule_calls.proofs.Lists.{two_and_rest}
use Rattle.schedule_calls.proofs.Changes.{asks_read, none_read, no_window}
use Rattle.schedule_calls.proofs.change.stage_of.Goals as goal

pub returns-in-Some-3 : goal.returns-in-Some-3
returns-in-Some-3 c =
    let args = c.args.args.now in
    asks_read kind.StageMem args
    (c.window-item.result ∷ c.name-item.result ∷ take (length args - 2) (drop 2 args)) _
    (two_and_rest args _ _ c.in-len2-up.len_at_least c.window-item.is c.name-item.is)
    (stage_mem _ _ _ _ _ _ (some_of _ _ _ _ c.in-Some-3.is c.in_ok-window.ensures)
    (some_of _ _ _ _ c.in-Some-2.is c.in_ok-name.ensures) (sym c.accum_in.ensures ∙ c.in-Some.is))

pub returns-in-None : goal.returns-in-None
returns-in-None c =
    let args = c.args.args.now in
    none_read kind.StageMem args
    (c.window-item.result ∷ c.name-item.result ∷ take (length args - 2) (drop 2 args))
    (two_and_rest args _ _ c.in-len2-up.len_at_least c.window-item.is c.name-item.is)
    (no_window _ _ _ (none_of _ _ _ c.in-None.is c.in_ok-window.ensures))
