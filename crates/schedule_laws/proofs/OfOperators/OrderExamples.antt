-- The schedules that change orders are computed.
use Rattle.std.proofs.Common.{refl}
use Rattle.std.specs.Fmt.{digits}
use Rattle.affine_prover.specs.Elimination.{verdict_on, verdict_on_rows, round, reduced, normalized}
use Rattle.affine_prover.specs.Elimination.{gcd, variable_eliminated, stage, put_in}
use Rattle.schedule_laws.specs.Operators.OrderInstance.{OrderInstance}

pub order_instance : OrderInstance
unfolding digits verdict_on verdict_on_rows round reduced normalized gcd variable_eliminated stage
    put_in
order_instance = record {
  runs = refl;
  turns_clash = refl;
  parts_clash = refl;
  loops_clash = refl;
  statements_clash = refl;
  no_gap = refl;
  gap_outside = refl;
  first_gap = refl;
  gap_for_loop = refl;
  turns_differ = refl;
  no_first_turn = refl;
  has_turns = refl;
  not_taken = refl;
  no_key = refl;
  key_of_loop = refl;
}
