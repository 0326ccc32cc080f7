use Rattle.schedule_text.proofs.Moving.{no_step}
use Rattle.schedule_text.proofs.moves.read_step.Goals as goal

pub returns-in_default-direction_at : goal.returns-in_default-direction_at
returns-in_default-direction_at c = no_step _ c.in_default.ensures c.in_default-direction_at.ensures
