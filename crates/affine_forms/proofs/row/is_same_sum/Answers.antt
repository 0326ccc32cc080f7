use Rattle.std.proofs.Common.{◌≡◌, ◌+◌, ◌∙◌, ap, sym, cond, false, drop, arith, length, vec_len, ◌==◌}
use Rattle.affine_forms.specs.Tables.{known_sum}
use Rattle.affine_forms.specs.PlainTables.{plain_shares}
use Rattle.affine_forms.proofs.RowLists.{sum_step, sum_end}
use Rattle.affine_forms.proofs.row.is_same_sum.Goals as goal

pub returns-then-not-take_out : goal.returns-then-not-take_out
returns-then-not-take_out c = sym (c.loop-s.invariant ∙ sum_step c.args.lines.now c.args.shares.now c.loop-s.s-index c.s-item.result (plain_shares c.loop-s.left.items) (plain_shares c.take_out.new.shares.items) c.take_out.result c.loop-s-test.true c.s-item.is c.take_out.ensures ∙ ap (λ b. cond b (known_sum c.args.lines.now (plain_shares (drop (c.loop-s.s-index + 1) c.args.shares.now)) (plain_shares c.take_out.new.shares.items)) false) c.if-not-take_out.true)

pub loop-s-preserved : goal.loop-s-preserved
loop-s-preserved c = c.loop-s.invariant ∙ sum_step c.args.lines.now c.args.shares.now c.loop-s.s-index c.s-item.result (plain_shares c.loop-s.left.items) (plain_shares c.take_out.new.shares.items) c.take_out.result c.loop-s-test.true c.s-item.is c.take_out.ensures ∙ ap (λ b. cond b (known_sum c.args.lines.now (plain_shares (drop (c.loop-s.s-index + 1) c.args.shares.now)) (plain_shares c.take_out.new.shares.items)) false) c.if-not-take_out.false

pub returns : goal.returns
returns c =
    let len : vec_len c.loop-s.left ≡ length c.loop-s.left.items = omega arith in
    c.is_empty.ensures ∙ ap (λ n. n == 0) len ∙ sym (c.loop-s.invariant ∙ sum_end c.args.lines.now c.args.shares.now c.loop-s.s-index c.loop-s.left.items c.loop-s-test.false)
