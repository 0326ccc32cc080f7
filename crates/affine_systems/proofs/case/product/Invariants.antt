use Rattle.std.proofs.Common.{◌≡◌, take}
use Rattle.affine_forms.specs.Formulas.{product}
use Rattle.affine_systems.specs.PlainCases.{plain_cases}
use Rattle.affine_systems.proofs.case.product.Given as goal

abbrev pub invariant-loop-case : goal.invariant-loop-case
invariant-loop-case l = plain_cases l.made.items ≡ product (plain_cases (take l.case-index l.firsts)) (plain_cases l.seconds)
