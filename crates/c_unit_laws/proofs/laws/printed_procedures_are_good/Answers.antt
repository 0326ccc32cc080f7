use Rattle.c_unit_laws.proofs.Units.{printed_procedures_are_good}
use Rattle.c_unit_laws.proofs.laws.printed_procedures_are_good.Goals as goal

pub returns : goal.returns
returns c = printed_procedures_are_good
