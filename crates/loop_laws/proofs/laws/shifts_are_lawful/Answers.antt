use Rattle.loop_laws.proofs.ShiftLoop.{shift_is_lawful}
use Rattle.loop_laws.proofs.laws.shifts_are_lawful.Goals as goal

pub returns : goal.returns
returns c = shift_is_lawful
