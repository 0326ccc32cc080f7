use Rattle.std.proofs.Common.{[], refl}
use Rattle.schedule_calls.proofs.Answered.{some_of, none_of}
use Rattle.schedule_calls.proofs.Cursors.{asks_here, no_here}
use Rattle.schedule_calls.proofs.argument.here_of.Goals as goal

pub returns-in-Some : goal.returns-in-Some
returns-in-Some c =
    asks_here c.args.string.now.pieces.items _ _ [] refl
    (some_of _ _ _ _ c.in-Some.is c.in_ok-pattern.ensures)

pub returns-in-None : goal.returns-in-None
returns-in-None c =
    no_here c.args.string.now.pieces.items (none_of _ _ _ c.in-None.is c.in_ok-pattern.ensures)
