use Rattle.std.proofs.Common.{◌<◌, ◌∙◌, sym, arith}
use Rattle.config_state.proofs.OfSteps.Sets.{found, found_none}
use Rattle.config_state.proofs.steps.some.is_some.Goals as goal

pub returns-then-contains : goal.returns-then-contains
returns-then-contains c n test h =
    let long = h.as_long in
    let below : c.loop-k.k < n = omega (arith, c.len-k-end.ensures) in
    found n c.loop-k.k test below (sym (h.each c.loop-k.k below) ∙ sym c.contains.ensures ∙ c.if-contains.true)

pub returns : goal.returns
returns c n test h =
    let long = h.as_long in
    found_none n test (λ f l. sym (h.each f l) ∙ c.loop-k.invariant f (omega (arith, c.len-k-end.ensures)))
