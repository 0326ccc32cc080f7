use Rattle.std.proofs.Common.{◌<◌, ◌&&◌, ◌∙◌, sym, ap₂, arith}
use Rattle.config_state.proofs.OfSteps.Sets.{found, found_none}
use Rattle.config_state.proofs.steps.some.have_common.Goals as goal

pub returns-then-contains-2 : goal.returns-then-contains-2
returns-then-contains-2 c n p q h j =
    let k = c.loop-k.k in
    let long = h.as_long in
    let below : k < n = omega (arith, c.len-k-end.ensures) in
    let in_first = sym (h.each k below) ∙ sym c.contains.ensures ∙ c.if-contains.true in
    let in_second = sym (j.each k below) ∙ sym c.contains-then-contains.ensures ∙ c.if-contains-2.true in
    found n k (λ f. p f && q f) below (ap₂ ◌&&◌ in_first in_second)

pub returns : goal.returns
returns c n p q h j =
    let long = h.as_long in
    found_none n (λ f. p f && q f) (λ f l.
    ap₂ ◌&&◌ (sym (h.each f l)) (sym (j.each f l)) ∙ c.loop-k.invariant f (omega (arith, c.len-k-end.ensures)))
