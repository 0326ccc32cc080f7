use Rattle.c_unit_laws.proofs.FreeNames.{printed_names_are_free}
use Rattle.c_unit_laws.proofs.laws.printed_names_are_free.Goals as goal

pub returns : goal.returns
returns c = printed_names_are_free
