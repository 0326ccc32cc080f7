use Rattle.std.proofs.Common.{◌≡◌, ◌++◌, map, drop}
use Rattle.step_driver.specs.Needs.Conflicts.{loop_of, turn_loop}
use Rattle.step_driver.specs.Needs.PlainNeed.{plain_header}
use Rattle.step_driver.proofs.needs.apart.turns_of.Given as goal

abbrev pub invariant-loop-h : goal.invariant-loop-h
invariant-loop-h l =
    map turn_loop l.made.items ++ map loop_of (map plain_header (drop l.h-index l.loops))
    ≡ map loop_of (map plain_header l.loops)
