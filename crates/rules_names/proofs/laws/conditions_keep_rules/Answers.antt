use Rattle.rules_names.proofs.Kept.{none_of, condition_kept}
use Rattle.rules_names.proofs.laws.conditions_keep_rules.Goals as goal

pub returns : goal.returns
returns c = λ fields may scope n e keeps f h. condition_kept fields may scope keeps n e f (none_of _ h)
