use Rattle.std.proofs.Common.{◌≡◌, drop, map}
use Rattle.exo_tree.specs.PlainPlace.{step_taken}
use Rattle.cursor_forward.specs.PlainShift.{plain_shift}
use Rattle.cursor_forward.specs.Shifts.{follow}
use Rattle.cursor_forward.proofs.shift.Shifts.follow.Given as goal

abbrev pub invariant-loop-shift : goal.invariant-loop-shift
invariant-loop-shift l =
    follow (map plain_shift l.shift-items) (map step_taken l.path) ≡ follow (map plain_shift (drop l.shift-index l.shift-items)) (map step_taken l.path)
