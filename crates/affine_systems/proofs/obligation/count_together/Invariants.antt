use Rattle.std.proofs.Common.{◌≡◌, min, map, take, length}
use Rattle.affine_forms.specs.Formulas.{cases_of_all}
use Rattle.affine_forms.specs.PlainFormulas.{plain_formula}
use Rattle.affine_systems.proofs.obligation.count_together.Given as goal

abbrev pub invariant-loop-f : goal.invariant-loop-f
invariant-loop-f l = l.count ≡ min (length (cases_of_all (map plain_formula (take l.f-index l.f-items)))) 65
