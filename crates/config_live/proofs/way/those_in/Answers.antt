use Rattle.std.proofs.Common.{◌&&◌, [], subst}
use Rattle.config_state.specs.FieldSets.{contains}
use Rattle.config_laws.specs.FieldRule.{is_listed}
use Rattle.config_live.specs.Listed.{Listed}
use Rattle.config_live.proofs.Loops.{at_place, keep_next, keep_end}
use Rattle.config_live.proofs.way.those_in.Goals as goal

pub loop-f-init : goal.loop-f-init
loop-f-init c = λ new h.
    subst (λ z. Listed (λ f. is_listed f z && contains c.args.set.now f) [] new)
    c.as_slice-f-items.ensures
    (subst (λ z. Listed (λ f. is_listed f c.as_slice-f-items.result.now && contains c.args.set.now f) z new)
    c.new-kept.ensures h)

pub loop-f-preserved : goal.loop-f-preserved
loop-f-preserved c = λ new h.
    c.loop-f.invariant new
    (keep_next c.as_slice-f-items.result.now c.loop-f.f-index _ c.args.set.now
    c.loop-f.kept c.keep.new.kept new c.loop-f-test.true (at_place c.as_slice-f-items.result.now c.loop-f.f-index c.loop-f-test.true) c.in_ok-keep.ensures h)

pub returns : goal.returns
returns c =
    c.loop-f.invariant c.loop-f.kept
    (keep_end c.as_slice-f-items.result.now c.loop-f.f-index c.args.set.now c.loop-f.kept
    c.loop-f-test.false)
