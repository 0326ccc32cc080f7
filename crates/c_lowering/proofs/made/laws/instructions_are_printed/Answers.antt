use Rattle.c_lowering.proofs.OfMade.Examples.{instructions_are_printed}
use Rattle.c_lowering.proofs.made.laws.instructions_are_printed.Goals as goal

pub returns : goal.returns
returns c = instructions_are_printed
