use Rattle.c_unit_laws.proofs.OfFollows.OfMachine.OfBehaviour.OtherFields.{blocks_keep_others}
use Rattle.c_unit_laws.proofs.follows.machine.behaviour.laws.blocks_keep_others.Goals as goal

pub returns : goal.returns
returns c = blocks_keep_others
