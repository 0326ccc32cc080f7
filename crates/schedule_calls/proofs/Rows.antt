-- The operator of a name, by the rows.
use Rattle.std.proofs.Common.{◌≡◌, ℕ, List, refl}
use Rattle.schedule_calls.specs.Operators.{rows, operator_among, operator_of}

pub by_rows : (name : List ℕ) → operator_of name ≡ operator_among rows name
unfolding operator_of
by_rows name = refl
