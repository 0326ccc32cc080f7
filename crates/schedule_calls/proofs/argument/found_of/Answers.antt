use Rattle.schedule_text.specs.Views.{plain_found}
use Rattle.schedule_calls.proofs.Answered.{some_of, none_of}
use Rattle.schedule_calls.proofs.Cursors.{asks_found, no_found}
use Rattle.schedule_calls.proofs.argument.found_of.Goals as goal

pub returns-in-Some : goal.returns-in-Some
returns-in-Some c =
    asks_found c.args.found.now.version c.args.found.now.pattern.pieces.items
    c.args.found.now.moves.items.items _ _ _ c.as_slice.ensures.value
    (some_of _ _ _ _ c.in-Some.is c.in_ok-pattern.ensures)

pub returns-in-None : goal.returns-in-None
returns-in-None c =
    no_found (plain_found c.args.found.now) (none_of _ _ _ c.in-None.is c.in_ok-pattern.ensures)
