use Rattle.std.proofs.Common.{◌∙◌, ◌≤◌, false, min, length, map, ap, sym, arith}
use Rattle.exo_tree.specs.PlainArgument.{argument}
use Rattle.exo_modes.specs.Aliases.{roots_in}
use Rattle.exo_modes.proofs.Arguments.{drop_read}
use Rattle.piece_modes.proofs.OfStrides.Rows.{passed_on, none_left, drop_at}
use Rattle.piece_modes.proofs.strides.walk.is_passed.Goals as goal

pub loop-k-preserved : goal.loop-k-preserved
loop-k-preserved c =
    let b = drop_at c.args.row.now c.loop-k.k false (omega (arith, c.loop-k-test.true, c.min-k-end.ensures)) in
    let a = drop_read c.args.args.now c.loop-k.k c.index-args-k.result c.index-args-k.is (omega (arith, c.loop-k-test.true, c.min-k-end.ensures)) in
    passed_on (roots_in c.args.aliases.now) c.args.y _ _ (argument c.index-args-k.result) _ _ _ _ b (ap (map argument) a) (sym c.is_seen.ensures ∙ c.if-is_seen.false) c.loop-k.invariant

pub returns : goal.returns
returns c =
    let h : min (length c.args.row.now) (length c.args.args.now) ≤ c.loop-k.k = omega (arith, c.loop-k-test.false, c.min-k-end.ensures) in
    sym (c.loop-k.invariant ∙ none_left (roots_in c.args.aliases.now) c.args.y argument c.args.row.now c.args.args.now c.loop-k.k h)
