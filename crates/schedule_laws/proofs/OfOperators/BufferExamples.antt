-- The schedule that changes a buffer is computed.
use Rattle.std.proofs.Common.{refl}
use Rattle.std.specs.Fmt.{digits}
use Rattle.affine_prover.specs.Elimination.{verdict_on, verdict_on_rows, round, reduced, normalized}
use Rattle.affine_prover.specs.Elimination.{gcd, variable_eliminated, stage}
use Rattle.schedule_laws.specs.Operators.BufferInstance.{BuffersInstance}

pub buffers_instance : BuffersInstance
unfolding digits verdict_on verdict_on_rows round reduced normalized gcd variable_eliminated stage
buffers_instance = record {
  runs = refl;
  used = refl;
  none_round = refl;
  no_buffer = refl;
  no_memory = refl;
  no_size = refl;
  name_taken = refl;
}
