use Rattle.std.proofs.Common.{arith}
use Rattle.std.proofs.lemmas.Grind.{common_steps}
use Rattle.rules_names.specs.Faults.{charged}
use Rattle.rules_names.proofs.Charges.{least_append, any_hides_append}
use Rattle.rules_names.proofs.fault.Charge.and.Goals as goal

pub returns-then-self : goal.returns-then-self
unfolding charged
returns-then-self c = λ a b p q. let l = least_append a b in let m = any_hides_append a b in grind (arith, common_steps)

pub returns-else-self : goal.returns-else-self
unfolding charged
returns-else-self c = λ a b p q. let l = least_append a b in let m = any_hides_append a b in grind (arith, common_steps)
