use Rattle.config_live.proofs.Listed.{numbers_on, numbers_all}
use Rattle.config_live.proofs.fields.FieldList.of.Goals as goal

pub loop-f-preserved : goal.loop-f-preserved
loop-f-preserved c =
    numbers_on c.args.fields.now c.loop-f.f-index (record { 0 = 0 }) c.loop-f.items.items
    c.push.new.self.items c.loop-f-test.true c.loop-f.invariant c.in_ok-push.ensures.items

pub returns : goal.returns
returns c =
    numbers_all c.args.fields.now c.loop-f.f-index c.loop-f.items.items c.loop-f-test.false
    c.loop-f.invariant
