-- The schedule that changes calls and writes a field is computed.
use Rattle.std.proofs.Common.{refl}
use Rattle.std.specs.Fmt.{digits}
use Rattle.affine_prover.specs.Elimination.{verdict_on, verdict_on_rows, round, reduced, normalized}
use Rattle.affine_prover.specs.Elimination.{gcd, variable_eliminated, stage}
use Rattle.schedule_laws.specs.Operators.CallInstance.{CallsInstance}

pub calls_instance : CallsInstance
unfolding digits verdict_on verdict_on_rows round reduced normalized gcd variable_eliminated stage
calls_instance = record {
  runs = refl;
  no_version = refl;
  no_match = refl;
  no_view = refl;
  no_gap = refl;
  no_param = refl;
  wrong_kind = refl;
  no_field = refl;
  no_name = refl;
  no_callee = refl;
}
