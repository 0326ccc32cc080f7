use Rattle.std.proofs.Common.{rules}
use Rattle.rules_names.specs.Faults.{charged}
use Rattle.rules_names.proofs.fault.Charge.none.Goals as goal

pub returns : goal.returns
unfolding charged
returns c = search rules
