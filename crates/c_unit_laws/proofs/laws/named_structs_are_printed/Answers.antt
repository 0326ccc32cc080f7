use Rattle.c_unit_laws.proofs.NamedStructs.{named_structs_are_printed}
use Rattle.c_unit_laws.proofs.laws.named_structs_are_printed.Goals as goal

pub returns : goal.returns
returns c = named_structs_are_printed
