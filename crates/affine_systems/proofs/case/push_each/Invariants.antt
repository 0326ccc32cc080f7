use Rattle.std.proofs.Common.{◌≡◌, ◌++◌, map, take}
use Rattle.affine_systems.specs.PlainCases.{plain_constraint, plain_cases}
use Rattle.affine_systems.proofs.case.push_each.Given as goal

abbrev pub invariant-loop-other : goal.invariant-loop-other
invariant-loop-other l = plain_cases l.made.items ≡ plain_cases l.fn.made.items ++ map (λ k. map plain_constraint l.case ++ k) (plain_cases (take l.other-index l.others))
