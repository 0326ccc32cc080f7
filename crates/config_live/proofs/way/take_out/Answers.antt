use Rattle.std.proofs.Common.{◌&&◌, subst}
use Rattle.std.specs.Prelude.{not}
use Rattle.config_state.specs.FieldSets.{Changed}
use Rattle.config_laws.specs.FieldRule.{is_listed}
use Rattle.config_live.proofs.Loops.{at_place, out_next, out_end}
use Rattle.config_live.proofs.way.take_out.Goals as goal

pub loop-f-init : goal.loop-f-init
loop-f-init c = λ new h.
    subst (λ z. Changed (λ f held. held && not (is_listed f z)) c.args.set.now new)
    c.as_slice-f-items.ensures h

pub loop-f-preserved : goal.loop-f-preserved
loop-f-preserved c = λ new h.
    c.loop-f.invariant new
    (out_next c.as_slice-f-items.result.now c.loop-f.f-index _ c.loop-f.set
    c.remove.new.self new c.loop-f-test.true (at_place c.as_slice-f-items.result.now c.loop-f.f-index c.loop-f-test.true) c.remove.ensures h)

pub returns : goal.returns
returns c =
    c.loop-f.invariant c.loop-f.set
    (out_end c.as_slice-f-items.result.now c.loop-f.f-index c.loop-f.set c.loop-f-test.false)
