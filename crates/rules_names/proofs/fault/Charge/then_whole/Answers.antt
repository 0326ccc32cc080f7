use Rattle.std.proofs.Common.{ap, sym, ◌∙◌}
use Rattle.rules_names.specs.Faults.{charged}
use Rattle.rules_names.proofs.Charges.{hides_of, whole_hidden, whole_shown}
use Rattle.rules_names.proofs.fault.Charge.then_whole.Goals as goal

pub returns-then-self : goal.returns-then-self
returns-then-self c = λ a b p q. p ∙ ap charged (whole_hidden a b (sym (hides_of _ a p) ∙ c.if-self.true))

pub returns-else-self : goal.returns-else-self
returns-else-self c = λ a b p q. c.and.ensures a b p q ∙ ap charged (whole_shown a b (sym (hides_of _ a p) ∙ c.if-self.false))
