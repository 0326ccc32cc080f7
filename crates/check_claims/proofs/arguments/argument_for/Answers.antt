use Rattle.std.proofs.Common.{◌≤◌, ◌∙◌, ◌∷◌, min, length, drop, map, ap, sym, arith, add-one}
use Rattle.std.proofs.lemmas.List.{length-map, drop-map}
use Rattle.exo_tree.specs.declared.param.Param.{Param}
use Rattle.exo_tree.specs.PlainParam.{parameter}
use Rattle.exo_tree.specs.PlainArgument.{argument}
use Rattle.check_claims.specs.Arguments.{passed_for}
use Rattle.check_claims.proofs.Pairs.{drop_read}
use Rattle.check_claims.proofs.Passing.{passed_later, passed_nowhere, next_of}
use Rattle.check_claims.proofs.arguments.argument_for.Goals as goal

pub loop-k-preserved : goal.loop-k-preserved
loop-k-preserved c =
    let p = drop_read c.args.params.now c.loop-k.k c.index-params-k.result c.index-params-k.is (omega (arith, c.loop-k-test.true, c.min-k-end.ensures)) in
    let a = next_of c.args.args.now c.loop-k.k (omega (arith, c.loop-k-test.true, c.min-k-end.ensures)) in
    passed_later c.args.x.0 _ (parameter c.index-params-k.result) (argument a.0) _ _ _ _ (ap (map parameter) p) (ap (map argument) (a.1 ∙ ap (λ n. a.0 ∷ drop n c.args.args.now) (sym (add-one c.loop-k.k)))) (λ e. c.if-params-k.false (sym (ap (λ (r : Param). r.binder.id.0) c.index-params-k.is) ∙ e)) c.loop-k.invariant

pub returns : goal.returns
returns c =
    let ps = map parameter c.args.params.now in
    let args = map argument c.args.args.now in
    let h : min (length ps) (length args) ≤ c.loop-k.k = omega (arith, c.loop-k-test.false, c.min-k-end.ensures, length-map c.args.params.now parameter, length-map c.args.args.now argument) in
    sym (passed_nowhere ps args c.loop-k.k c.args.x.0 h) ∙ (λ i. passed_for (drop-map parameter c.loop-k.k c.args.params.now i) (drop-map argument c.loop-k.k c.args.args.now i) c.args.x.0) ∙ c.loop-k.invariant
