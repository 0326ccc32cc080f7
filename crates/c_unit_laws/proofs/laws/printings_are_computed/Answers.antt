use Rattle.c_unit_laws.proofs.ColumnRun.{printings_are_computed}
use Rattle.c_unit_laws.proofs.laws.printings_are_computed.Goals as goal

pub returns : goal.returns
returns c = printings_are_computed
