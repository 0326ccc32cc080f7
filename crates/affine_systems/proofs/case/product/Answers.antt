use Rattle.std.proofs.Common.{◌∙◌, ◌++◌, ap, ap₂, map}
use Rattle.std.proofs.lemmas.List.{take_all}
use Rattle.affine_forms.specs.Formulas.{product}
use Rattle.affine_systems.specs.PlainCases.{plain_constraint, plain_cases}
use Rattle.affine_systems.proofs.CaseLists.{product_next}
use Rattle.affine_systems.proofs.case.product.Goals as goal

pub loop-case-preserved : goal.loop-case-preserved
loop-case-preserved c =
    c.in_ok-push_each.ensures
    ∙ ap₂ (λ a b. a ++ map (λ k. map plain_constraint b ++ k) (plain_cases c.args.seconds.now)) c.loop-case.invariant c.deref.ensures.value
    ∙ product_next c.args.firsts.now c.loop-case.case-index c.case-item.result (plain_cases c.args.seconds.now) c.loop-case-test.true c.case-item.is

pub returns : goal.returns
returns c =
    c.loop-case.invariant
    ∙ ap (λ ks. product (plain_cases ks) (plain_cases c.args.seconds.now))
    (take_all c.loop-case.case-index c.args.firsts.now c.loop-case-test.false)
