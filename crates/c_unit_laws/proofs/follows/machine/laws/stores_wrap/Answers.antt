use Rattle.c_unit_laws.proofs.OfFollows.OfMachine.Examples.{stores_wrap}
use Rattle.c_unit_laws.proofs.follows.machine.laws.stores_wrap.Goals as goal

pub returns : goal.returns
returns c = stores_wrap
