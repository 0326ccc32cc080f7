use Rattle.schedule_run.proofs.Room.{small_units_have_room}
use Rattle.schedule_run.proofs.laws.small_units_have_room.Goals as goal

pub returns : goal.returns
returns c = small_units_have_room
