-- The schedule that puts blocks on buffers of their own is computed.
use Rattle.std.proofs.Common.{refl}
use Rattle.std.specs.Fmt.{digits}
use Rattle.affine_prover.specs.Elimination.{verdict_on, verdict_on_rows, round, reduced, normalized}
use Rattle.affine_prover.specs.Elimination.{gcd, variable_eliminated, stage}
use Rattle.schedule_laws.specs.Operators.StageInstance.{StageInstance}

pub stage_instance : StageInstance
unfolding digits verdict_on verdict_on_rows round reduced normalized gcd variable_eliminated stage
stage_instance = record {
  runs = refl;
  outside = refl;
  written = refl;
  no_buffer = refl;
  own_variable = refl;
  before_block = refl;
  of_other_rank = refl;
  gap_for_block = refl;
  name_taken = refl;
  no_such_field = refl;
}
