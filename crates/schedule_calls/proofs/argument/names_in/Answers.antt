use Rattle.std.proofs.Common.{ap}
use Rattle.schedule_text.specs.Views.{plain_argument}
use Rattle.schedule_calls.proofs.Answered.{none_of}
use Rattle.schedule_calls.proofs.Divisions.{no_first_name, no_second_name}
use Rattle.schedule_calls.proofs.argument.names_in.Goals as goal

pub returns-in_default-2 : goal.returns-in_default-2
returns-in_default-2 c =
    no_first_name c.in-Pair.first.pieces.items c.in-Pair.second.pieces.items _
    (ap plain_argument c.in-Pair.is)
    (none_of _ _ _ c.in_default-2.is c.in_ok-first.ensures)

pub returns-in-None : goal.returns-in-None
returns-in-None c =
    no_second_name c.in-Pair.first.pieces.items c.in-Pair.second.pieces.items _
    (ap plain_argument c.in-Pair.is)
    (none_of _ _ _ c.in-None.is c.in_ok-second.ensures)
