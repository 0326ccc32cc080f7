use Rattle.c_unit_laws.proofs.OfFollows.OfMachine.Examples.{names_are_one_form}
use Rattle.c_unit_laws.proofs.follows.machine.laws.names_are_one_form.Goals as goal

pub returns : goal.returns
returns c = names_are_one_form
