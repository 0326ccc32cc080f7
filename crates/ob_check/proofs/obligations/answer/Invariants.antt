use Rattle.std.proofs.Common.{◌≡◌, map, take, drop, All}
use Rattle.affine_prover.specs.declared.answer.Verdict.TheVariants.{Shown}
use Rattle.ob_check.specs.Truth.{IsTrueOf}
use Rattle.ob_check.specs.Systems.{system_found, system_known, missing_of}
use Rattle.ob_check.proofs.obligations.answer.Given as goal

abbrev pub invariant-loop-index : goal.invariant-loop-index
invariant-loop-index l = record {
  rest : map system_known (drop l.next l.decided) ≡ missing_of (drop l.index l.found);
  shown : All (λ f. IsTrueOf (system_found f) Shown) (take l.index l.found);
}
