use Rattle.schedule_text.proofs.Moving.{no_move}
use Rattle.schedule_text.proofs.moves.read_move.Goals as goal

pub returns : goal.returns
returns c = no_move _ c.in_default.ensures c.in_default-behind.ensures
