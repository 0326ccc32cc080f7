use Rattle.std.proofs.Common.{ap, ap₂}
use Rattle.affine_forms.specs.Formulas as plain
use Rattle.affine_forms.specs.PlainFormulas.{plain_formula}
use Rattle.affine_forms.proofs.formula.Formula.both.Goals as goal

pub returns : goal.returns
returns c = ap₂ plain.Both (ap plain_formula c.in_ok-left.ensures.ok) (ap plain_formula c.in_ok-new.ensures.ok)
