use Rattle.c_lowering.proofs.OfMade.Examples.{windows_are_printed}
use Rattle.c_lowering.proofs.made.laws.windows_are_printed.Goals as goal

pub returns : goal.returns
returns c = windows_are_printed
