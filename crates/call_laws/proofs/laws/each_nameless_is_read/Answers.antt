use Rattle.call_laws.proofs.Nameless.{of_each_nameless}
use Rattle.call_laws.proofs.laws.each_nameless_is_read.Goals as goal

pub returns : goal.returns
returns c = of_each_nameless
