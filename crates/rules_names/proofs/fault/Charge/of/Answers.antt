use Rattle.std.proofs.Common.{arith}
use Rattle.std.proofs.lemmas.Grind.{common_steps}
use Rattle.rules_names.specs.Faults.{charged}
use Rattle.rules_names.proofs.fault.Charge.of.Goals as goal

pub returns : goal.returns
unfolding charged
returns c = grind (arith, common_steps)
