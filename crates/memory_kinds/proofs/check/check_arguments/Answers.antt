use Rattle.std.proofs.Common.{◌≤◌, min, length, map, ap, sym, ◌∙◌, arith}
use Rattle.std.proofs.lemmas.List.{length-map, drop-map}
use Rattle.exo_tree.specs.PlainParam.{parameter}
use Rattle.exo_tree.specs.PlainArgument.{argument}
use Rattle.memory_kinds.specs.Faults.{arguments_fault}
use Rattle.memory_kinds.specs.Scope.{homes_in}
use Rattle.memory_kinds.proofs.Firsts.{left, drop_read, argued_on, argued_off, none_left}
use Rattle.memory_kinds.proofs.check.check_arguments.Goals as goal

pub loop-k-preserved : goal.loop-k-preserved
loop-k-preserved c =
    let p = drop_read c.args.params.now c.loop-k.k c.index-params-k.result c.index-params-k.is (omega (arith, c.loop-k-test.true, c.min-k-end.ensures)) in
    let a = drop_read c.args.args.now c.loop-k.k c.index-args-k.result c.index-args-k.is (omega (arith, c.loop-k-test.true, c.min-k-end.ensures)) in
    (argued_on c.args.memories.now (homes_in c.args.scope.now) _ (parameter c.index-params-k.result) (argument c.index-args-k.result) _ _ _ _ (ap (map parameter) p) (ap (map argument) a) c.in_ok-check_argument.ensures.value c.loop-k.invariant.0, c.in_ok-check_argument.ensures.kept)

pub returns-in_err-check_argument-clause-value : goal.returns-in_err-check_argument-clause-value
returns-in_err-check_argument-clause-value c =
    let p = drop_read c.args.params.now c.loop-k.k c.index-params-k.result c.index-params-k.is (omega (arith, c.loop-k-test.true, c.min-k-end.ensures)) in
    let a = drop_read c.args.args.now c.loop-k.k c.index-args-k.result c.index-args-k.is (omega (arith, c.loop-k-test.true, c.min-k-end.ensures)) in
    left c.from_residual.result c.in_err-check_argument.field-0.0 _ c.from_residual.ensures.1
    (argued_off c.args.memories.now (homes_in c.args.scope.now) _ (parameter c.index-params-k.result) (argument c.index-args-k.result) _ _ _ _ _ (ap (map parameter) p) (ap (map argument) a) c.in_err-check_argument.ensures.value c.loop-k.invariant.0)

pub returns-clause-value : goal.returns-clause-value
returns-clause-value c =
    let ps = map parameter c.args.params.now in
    let args = map argument c.args.args.now in
    let h : min (length ps) (length args) ≤ c.loop-k.k = omega (arith, c.loop-k-test.false, c.min-k-end.ensures, length-map c.args.params.now parameter, length-map c.args.args.now argument) in
    sym (none_left c.args.memories.now (homes_in c.args.scope.now) ps args c.loop-k.k h)
    ∙ (λ i. arguments_fault c.args.memories.now (homes_in c.args.scope.now) (drop-map parameter c.loop-k.k c.args.params.now i) (drop-map argument c.loop-k.k c.args.args.now i))
    ∙ c.loop-k.invariant.0
