use Rattle.std.proofs.Common.{◌≡◌, ◌-◌, suc, sym, ap, ◌∙◌, arith}
use Rattle.schedule_run.specs.Roots.{root_in}
use Rattle.schedule_run.specs.PlainVersions.{versions}
use Rattle.schedule_run.proofs.Climbing.{root_up, root_here}
use Rattle.schedule_run.proofs.session.Session.root.Goals as goal

pub loop-left-preserved : goal.loop-left-preserved
loop-left-preserved c =
    let left : c.loop-left.left ≡ suc (c.loop-left.left - 1) = omega (arith, c.loop-left-test.true) in
    c.loop-left.invariant
    ∙ root_up (versions c.args.self.now) c.loop-left.left (c.loop-left.left - 1) c.loop-left.root.0
    c.in-Some.above.0 left (sym c.in-Some.ensures)

pub returns-in-None : goal.returns-in-None
returns-in-None c =
    let left : c.loop-left.left ≡ suc (c.loop-left.left - 1) = omega (arith, c.loop-left-test.true) in
    sym
    (c.loop-left.invariant
    ∙ root_here (versions c.args.self.now) c.loop-left.left (c.loop-left.left - 1) c.loop-left.root.0
    left (sym c.in-None.ensures))

pub returns : goal.returns
returns c =
    let none : c.loop-left.left ≡ 0 = omega (arith, c.loop-left-test.false) in
    sym
    (c.loop-left.invariant
    ∙ ap (λ m. root_in (versions c.args.self.now) m c.loop-left.root.0) none)
