use Rattle.affine_forms.proofs.FormulaValues.{formula_law}
use Rattle.affine_forms.proofs.laws.formulas_are_exact.Goals as goal

pub returns : goal.returns
returns c = formula_law
