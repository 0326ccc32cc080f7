use Rattle.std.proofs.Common.{◌∷◌, take, drop, length, ◌-◌}
use Rattle.schedule_calls.specs.Readings.{divide_loop}
use Rattle.schedule_calls.specs.declared.operator.ChangeOperator.TheVariants as kind
use Rattle.schedule_calls.proofs.Answered.{some_of}
use Rattle.schedule_calls.proofs.Lists.{two_and_rest}
use Rattle.schedule_calls.proofs.Changes.{asks_read}
use Rattle.schedule_calls.proofs.change.divide_of.Goals as goal

pub returns-in-Some : goal.returns-in-Some
returns-in-Some c =
    let args = c.args.args.now in
    asks_read kind.DivideLoop args
    (c.by-item.result ∷ c.names-item.result ∷ take (length args - 2) (drop 2 args)) _
    (two_and_rest args _ _ c.in-len2-up.len_at_least c.by-item.is c.names-item.is)
    (divide_loop _ _ _ _ (some_of _ _ _ _ c.in-Some.is c.in_ok-division.ensures))
