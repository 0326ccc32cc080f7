-- The plain forms of shifts.
use Rattle.std.specs.Prelude.{map}
use Rattle.exo_tree.specs.PlainPlace.{step_taken}
use Rattle.cursor_forward.specs.Shifts as plain
use Rattle.cursor_forward.specs.declared.shift.Shift.{Shift}
use Rattle.cursor_forward.specs.declared.shift.Below.{Below}

abbrev pub plain_shift : Shift → plain.Shift
plain_shift s = record { from = s.from; count = s.count; whole = s.whole; to = s.to }

abbrev pub plain_below : Below → plain.Below
plain_below w = record { offset = w.offset; rest = map step_taken w.rest.now }
