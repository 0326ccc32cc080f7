use Rattle.std.proofs.Common.{◌≡◌, arith, rules, subst}
use Rattle.std.proofs.lemmas.Int.{to_z-of_z}
use Rattle.std.specs.Int.{w64}
use Rattle.std.specs.Int.RustNames.{FitsSigned}
use Rattle.match_laws.specs.Simplify.Simplified.{literal}
use Rattle.step_targets.specs.PlainLoop.{plain_loop}
use Rattle.loop_rewrites.proofs.Written.{AreWritten, begin, go_on, finish}
use Rattle.loop_rewrites.proofs.turns.Turns.copies.Goals as goal

pub loop-k-init : goal.loop-k-init
loop-k-init c =
    let t = c.args.self.now in
    begin literal (plain_loop t.looping) t.first t.count c.args.fresh.now c.new-made.result c.new-made.ensures

pub loop-k-preserved : goal.loop-k-preserved
loop-k-preserved c =
    let t = c.args.self.now in
    let fits : FitsSigned w64 c.number-n.result = search rules in
    let copy = simp to_z-of_z at c.in_ok-more.ensures.copy in
    let moved = simp to_z-of_z at c.in_ok-more.ensures.moved in
    go_on literal (plain_loop t.looping) t.first t.count c.args.fresh.now c.loop-k.k c.loop-k.fresh c.turn.new.fresh
    c.number-n.result c.loop-k.made c.in_ok-more.more c.append.new.self c.loop-k-test.true c.loop-k.invariant
    c.number-n.ensures.value copy moved c.in_ok-append.ensures

pub returns : goal.returns
returns c =
    let t = c.args.self.now in
    let all : c.loop-k.k ≡ t.count = omega (arith, c.loop-k-test.false, c.loop-k.auto) in
    finish literal (plain_loop t.looping) t.first t.count c.args.fresh.now c.loop-k.fresh c.loop-k.made
    (subst (λ k. AreWritten literal (plain_loop t.looping) t.first t.count c.args.fresh.now k c.loop-k.made c.loop-k.fresh) all c.loop-k.invariant)
