use Rattle.std.proofs.Common.{subst}
use Rattle.config_laws.specs.FieldRule.{is_listed}
use Rattle.config_live.specs.Ways.{nothing, Goes}
use Rattle.config_live.proofs.Loops.{at_place, write_next, write_end}
use Rattle.config_live.proofs.way.Way.write_all.Goals as goal

pub loop-f-init : goal.loop-f-init
loop-f-init c = λ new has h.
    subst (λ z. Goes nothing (λ f. is_listed f z) c.args.self.now new c.args.added.now has)
    c.as_slice-f-items.ensures h

pub loop-f-preserved : goal.loop-f-preserved
loop-f-preserved c = λ new has h.
    c.loop-f.invariant new has
    (write_next c.as_slice-f-items.result.now c.loop-f.f-index _ c.loop-f.self
    c.write.new.self new c.loop-f.added c.write.new.added has c.loop-f-test.true (at_place c.as_slice-f-items.result.now c.loop-f.f-index c.loop-f-test.true)
    c.in_ok-write.ensures h)

pub returns : goal.returns
returns c =
    c.loop-f.invariant c.loop-f.self c.loop-f.added
    (write_end c.as_slice-f-items.result.now c.loop-f.f-index c.loop-f.self c.loop-f.added
    c.loop-f-test.false)
