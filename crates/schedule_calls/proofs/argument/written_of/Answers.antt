use Rattle.std.proofs.Common.{sym, subst}
use Rattle.schedule_text.specs.Tree as tree
use Rattle.schedule_text.specs.Views.{plain_cursor}
use Rattle.schedule_calls.specs.Readings.{AsksCursor}
use Rattle.schedule_calls.specs.Requests.{Under}
use Rattle.schedule_calls.specs.PlainRequest.{moves_of}
use Rattle.schedule_calls.proofs.Cursors.{asks_under}
use Rattle.schedule_calls.proofs.argument.written_of.Goals as goal

pub returns-in-Held : goal.returns-in-Held
returns-in-Held c =
    subst
    (λ k. AsksCursor (tree.cursor (plain_cursor k))
    (record { source = Under c.in-Held.name; moves = moves_of c.as_slice.result.now }))
    (sym c.in-Held.is)
    (asks_under c.in-Held.name c.in-Held.moves.items.items _ c.as_slice.ensures.value)
