use Rattle.c_unit_laws.proofs.OfFollows.OfMachine.OfBehaviour.OtherFields.{other_fields_instance}
use Rattle.c_unit_laws.proofs.follows.machine.behaviour.laws.other_fields_instance.Goals as goal

pub returns : goal.returns
returns c = other_fields_instance
