use Rattle.std.proofs.Common.{◌≡◌, ℕ, ◌<◌, false}
use Rattle.config_state.specs.FieldSets.{contains}
use Rattle.config_state.proofs.steps.some.is_some.Given as goal

abbrev pub invariant-loop-k : goal.invariant-loop-k
invariant-loop-k l = (f : ℕ) → f < l.k → contains l.set f ≡ false
