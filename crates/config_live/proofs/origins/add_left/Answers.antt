use Rattle.std.proofs.Common.{◌&&◌, sym, subst}
use Rattle.std.proofs.lemmas.List.{drop_all}
use Rattle.std.specs.Prelude.{not}
use Rattle.config_state.specs.FieldSets.{contains, Marked}
use Rattle.config_state.proofs.Sets.{marked_none}
use Rattle.config_laws.specs.FieldRule.{is_listed}
use Rattle.config_live.proofs.Since.{left_next}
use Rattle.config_live.proofs.Loops.{at_place}
use Rattle.config_live.proofs.origins.add_left.Goals as goal

pub loop-f-init : goal.loop-f-init
loop-f-init c = λ new h.
    subst (λ z. Marked (λ f. is_listed f z && not (contains c.args.written.now f)) c.args.set.now new)
    c.as_slice-f-items.ensures h

pub loop-f-preserved : goal.loop-f-preserved
loop-f-preserved c = λ new h.
    c.loop-f.invariant new
    (left_next c.as_slice-f-items.result.now c.loop-f.f-index _ c.args.written.now c.loop-f.set
    c.add_unless.new.set new c.loop-f-test.true
    (at_place c.as_slice-f-items.result.now c.loop-f.f-index c.loop-f-test.true)
    c.add_unless.ensures h)

pub returns : goal.returns
returns c =
    c.loop-f.invariant c.loop-f.set
    (subst (λ z. Marked (λ f. is_listed f z && not (contains c.args.written.now f)) c.loop-f.set c.loop-f.set)
    (sym (drop_all c.loop-f.f-index c.as_slice-f-items.result.now c.loop-f-test.false))
    (marked_none c.loop-f.set))
