use Rattle.std.proofs.Common.{◌∙◌, ap, min, map, length}
use Rattle.std.proofs.lemmas.List.{take_all}
use Rattle.affine_forms.specs.Formulas.{cases_of_all}
use Rattle.affine_forms.specs.PlainFormulas.{plain_formula}
use Rattle.affine_systems.proofs.FormulaLists.{counted_next}
use Rattle.affine_systems.proofs.obligation.count_together.Goals as goal

pub loop-f-preserved : goal.loop-f-preserved
loop-f-preserved c = counted_next c.formulas-f-items.result.now c.loop-f.f-index c.f-item.result c.loop-f.count c.case_count.result c.min-count.result c.loop-f-test.true c.f-item.is c.loop-f.invariant c.case_count.ensures c.min-count.ensures

pub returns : goal.returns
returns c = c.loop-f.invariant ∙ ap (λ fs. min (length (cases_of_all (map plain_formula fs))) 65) (take_all c.loop-f.f-index c.formulas-f-items.result.now c.loop-f-test.false) ∙ ap (λ fs. min (length (cases_of_all fs)) 65) c.formulas-f-items.ensures
