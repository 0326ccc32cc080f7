use Rattle.loop_laws.proofs.ShiftLoop.{shift_is_carrying}
use Rattle.loop_laws.proofs.laws.shifts_carry.Goals as goal

pub returns : goal.returns
returns c = shift_is_carrying
