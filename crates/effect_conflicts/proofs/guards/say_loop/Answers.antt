use Rattle.std.proofs.Common.{◌++◌, ap, ◌∙◌}
use Rattle.exo_effects.specs.Conflicts.{bounds}
use Rattle.exo_effects.specs.Orders.{Turn}
use Rattle.effect_conflicts.proofs.guards.say_loop.Goals as goal

pub returns : goal.returns
returns c = (
  c.in_ok-copied.ensures.0,
  c.in_ok-put_between.ensures ∙ ap (λ (u : Turn). c.args.into.now ++ bounds u) c.in_ok-copied.ensures.1,
)
