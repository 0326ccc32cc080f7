use Rattle.rules_names.proofs.Kept.{none_of, control_kept}
use Rattle.rules_names.proofs.laws.controls_keep_rules.Goals as goal

pub returns : goal.returns
returns c = λ fields may scope n e keeps f h. control_kept fields may scope keeps n e f (none_of _ h)
