use Rattle.std.proofs.Common.{◌≡◌, ℕ, ◌<◌, ◌&&◌, false}
use Rattle.config_state.specs.FieldSets.{contains}
use Rattle.config_state.proofs.steps.some.have_common.Given as goal

abbrev pub invariant-loop-k : goal.invariant-loop-k
invariant-loop-k l = (f : ℕ) → f < l.k → (contains l.a f && contains l.b f) ≡ false
