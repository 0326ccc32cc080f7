use Rattle.std.proofs.Common.{subst}
use Rattle.config_laws.specs.FieldRule.{is_listed}
use Rattle.config_live.specs.Ways.{nothing, Went}
use Rattle.config_live.proofs.Loops.{at_place, read_next, read_end}
use Rattle.config_live.proofs.way.Way.read_all.Goals as goal

pub loop-f-init : goal.loop-f-init
loop-f-init c = λ new h.
    subst (λ z. Went (λ f. is_listed f z) nothing c.args.self.now new) c.as_slice-f-items.ensures h

pub loop-f-preserved : goal.loop-f-preserved
loop-f-preserved c = λ new h.
    c.loop-f.invariant new
    (read_next c.as_slice-f-items.result.now c.loop-f.f-index _ c.loop-f.self
    c.read.new.self new c.loop-f-test.true (at_place c.as_slice-f-items.result.now c.loop-f.f-index c.loop-f-test.true) c.in_ok-read.ensures h)

pub returns : goal.returns
returns c =
    c.loop-f.invariant c.loop-f.self
    (read_end c.as_slice-f-items.result.now c.loop-f.f-index c.loop-f.self c.loop-f-test.false)
