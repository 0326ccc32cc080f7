use Rattle.c_unit_laws.proofs.OfFollows.OfMachine.OfBehaviour.OtherFields.{other_fields_stay}
use Rattle.c_unit_laws.proofs.follows.machine.behaviour.laws.other_fields_stay.Goals as goal

pub returns : goal.returns
returns c = other_fields_stay
