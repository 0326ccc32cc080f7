use Rattle.std.proofs.Common.{◌∙◌, ap, map}
use Rattle.std.proofs.lemmas.List.{take_all}
use Rattle.affine_forms.specs.Formulas.{product, cases, cases_of_all}
use Rattle.affine_forms.specs.PlainFormulas.{plain_formula}
use Rattle.affine_systems.proofs.FormulaLists.{cases_next}
use Rattle.affine_systems.proofs.obligation.cases_together.Goals as goal

pub loop-f-preserved : goal.loop-f-preserved
loop-f-preserved c = c.in_ok-cases-2.ensures ∙ ap (λ ks. product ks (cases (plain_formula c.f-item.result))) c.loop-f.invariant ∙ cases_next c.formulas-f-items.result.now c.loop-f.f-index c.f-item.result c.loop-f-test.true c.f-item.is

pub returns : goal.returns
returns c = c.loop-f.invariant ∙ ap (λ fs. cases_of_all (map plain_formula fs)) (take_all c.loop-f.f-index c.formulas-f-items.result.now c.loop-f-test.false) ∙ ap cases_of_all c.formulas-f-items.ensures
