use Rattle.std.proofs.Common.{◌≡◌, ◌-ℤ◌, pos, false, sym, ap, ◌∙◌, arith}
use lib.Signed.{lt_z}
use Rattle.step_targets.specs.PlainLoop.{plain_loop}
use Rattle.loop_rewrites.proofs.Between.{difference, same_first, few_counted, same_count, turns_listed}
use Rattle.loop_rewrites.proofs.constants.turns_between.Goals as goal

pub overflow_cast-result-2 : goal.overflow_cast-result-2
overflow_cast-result-2 c =
    let d = difference c.args.lo c.args.hi c.requires.low c.requires.high in
    let h : lt_z (pos 256) (c.args.hi -ℤ c.args.lo) ≡ false = ap (lt_z (pos 256)) (sym d) ∙ c.if-count-gt256.false in
    let few = few_counted (c.args.hi -ℤ c.args.lo) h in
    rw (same_count _ _ c.max.result d h c.max.ensures.value) (tt, omega arith)

pub returns : goal.returns
returns c =
    let d = difference c.args.lo c.args.hi c.requires.low c.requires.high in
    let h : lt_z (pos 256) (c.args.hi -ℤ c.args.lo) ≡ false = ap (lt_z (pos 256)) (sym d) ∙ c.if-count-gt256.false in
    turns_listed (plain_loop c.args.l.now) c.args.lo c.args.hi _ _ (same_first c.args.lo c.requires.low)
    (same_count _ _ c.max.result d h c.max.ensures.value) h

pub invariant_of-result : goal.invariant_of-result
invariant_of-result c =
    let d = difference c.args.lo c.args.hi c.requires.low c.requires.high in
    let h : lt_z (pos 256) (c.args.hi -ℤ c.args.lo) ≡ false = ap (lt_z (pos 256)) (sym d) ∙ c.if-count-gt256.false in
    let few = few_counted (c.args.hi -ℤ c.args.lo) h in
    record {
      few = rw (same_count _ _ c.max.result d h c.max.ensures.value) few;
      short = rw (same_first c.args.lo c.requires.low) c.requires.low;
    }
