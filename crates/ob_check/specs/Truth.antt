-- What it means that a verdict on a system is true, and on which systems verdicts are kept.
use Rattle.std.specs.Prelude.{◌≡◌, ◌+◌, Bool, length, nat_le}
use Rattle.affine_forms.specs.Affine.{Constraints, HasNoIntegerPoint}
use Rattle.affine_prover.specs.declared.answer.Verdict.{Verdict}
use Rattle.affine_prover.specs.declared.answer.Verdict.TheVariants.{Shown}
use Rattle.affine_prover.specs.Elimination.{elimination}

-- it is the one to which the elimination comes, and where it is `Shown`, the system has no integer point
pub record IsTrueOf (s : Constraints) (v : Verdict) : Type 0 where
  pub exact : v ≡ elimination s
  pub shown_has_no_point : v ≡ Shown → HasNoIntegerPoint s

-- at most 64 rows and equations together
abbrev pub is_small : Constraints → Bool
is_small s = nat_le (length s.equations + length s.rows) 64
