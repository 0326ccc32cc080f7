use Rattle.std.proofs.Common.{◌≤◌, min, length, map, ap, ◌∙◌, arith}
use Rattle.std.proofs.lemmas.List.{length-map, drop-map}
use Rattle.exo_tree.specs.PlainParam.{parameter}
use Rattle.exo_tree.specs.PlainArgument.{argument}
use Rattle.exo_modes.specs.Marks.{together, argument_marks}
use Rattle.exo_modes.specs.Aliases.{roots_in}
use Rattle.exo_modes.specs.Seen.{row_says}
use Rattle.exo_modes.proofs.Arguments.{drop_read, argued_on, argued_off}
use Rattle.exo_modes.proofs.walk.mark_arguments.Goals as goal

pub loop-k-preserved : goal.loop-k-preserved
loop-k-preserved c =
    let p = drop_read c.args.params.now c.loop-k.k c.index-params-k.result c.index-params-k.is (omega (arith, c.loop-k-test.true, c.min-k-end.ensures)) in
    let a = drop_read c.args.args.now c.loop-k.k c.index-args-k.result c.index-args-k.is (omega (arith, c.loop-k-test.true, c.min-k-end.ensures)) in
    argued_on (row_says c.args.callee.now) (roots_in c.args.aliases.now) (row_says c.loop-k.row) (row_says c.mark_argument.new.row) _ (parameter c.index-params-k.result) (argument c.index-args-k.result) _ _ _ _ (ap (map parameter) p) (ap (map argument) a) c.in_ok-mark_argument.ensures c.loop-k.invariant

pub returns : goal.returns
returns c =
    let ps = map parameter c.args.params.now in
    let args = map argument c.args.args.now in
    let h : min (length ps) (length args) ≤ c.loop-k.k = omega (arith, c.loop-k-test.false, c.min-k-end.ensures, length-map c.args.params.now parameter, length-map c.args.args.now argument) in
    argued_off (row_says c.args.callee.now) (roots_in c.args.aliases.now) (row_says c.loop-k.row) _ ps args c.loop-k.k h
    (ap (together (row_says c.loop-k.row)) (λ i. argument_marks (row_says c.args.callee.now) (roots_in c.args.aliases.now) (drop-map parameter c.loop-k.k c.args.params.now i) (drop-map argument c.loop-k.k c.args.args.now i)) ∙ c.loop-k.invariant)
