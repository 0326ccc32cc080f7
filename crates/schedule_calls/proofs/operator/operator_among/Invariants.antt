-- The rows that are left decide.
use Rattle.std.proofs.Common.{◌≡◌, length, map}
use Rattle.schedule_calls.specs.Operators.{operator_among}
use Rattle.schedule_calls.proofs.operator.operator_among.Given as goal

abbrev pub invariant-loop-rows : goal.invariant-loop-rows
invariant-loop-rows l =
    operator_among (map (λ row. (row.0.now, row.1)) l.rows) l.name
    ≡ operator_among (map (λ row. (row.0.now, row.1)) l.initial.rows) l.name

abbrev pub decreases-loop-rows : goal.decreases-loop-rows
decreases-loop-rows l = length l.rows
