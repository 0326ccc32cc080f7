use Rattle.rules_names.proofs.Kept.{none_of, controls_kept}
use Rattle.rules_names.proofs.laws.lists_keep_rules.Goals as goal

pub returns : goal.returns
returns c = λ fields may scope n es keeps f h. controls_kept fields may scope keeps n es f (none_of _ h)
