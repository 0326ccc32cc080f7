use Rattle.std.proofs.Common.{◌≡◌, map, take}
use Rattle.affine_forms.specs.Formulas.{cases_of_all}
use Rattle.affine_forms.specs.PlainFormulas.{plain_formula}
use Rattle.affine_systems.specs.PlainCases.{plain_cases}
use Rattle.affine_systems.proofs.obligation.cases_together.Given as goal

abbrev pub invariant-loop-f : goal.invariant-loop-f
invariant-loop-f l = plain_cases l.cases.items ≡ cases_of_all (map plain_formula (take l.f-index l.f-items))
