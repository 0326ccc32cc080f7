-- The schedule that joins, shifts and multiplies loops and lifts a condition is computed.
use Rattle.std.proofs.Common.{refl}
use Rattle.std.specs.Fmt.{digits}
use Rattle.affine_prover.specs.Elimination.{verdict_on, verdict_on_rows, round, reduced, normalized}
use Rattle.schedule_laws.specs.Operators.ScopeInstance.{ScopesInstance}

pub scopes_instance : ScopesInstance
unfolding digits verdict_on verdict_on_rows round reduced normalized
scopes_instance = record {
  runs = refl;
  none_behind = refl;
  none_within = refl;
  name_taken = refl;
  from_below = refl;
  no_start = refl;
  no_scope = refl;
  none_round = refl;
}
