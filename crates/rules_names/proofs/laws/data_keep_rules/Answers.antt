use Rattle.rules_names.proofs.Kept.{none_of, data_kept}
use Rattle.rules_names.proofs.laws.data_keep_rules.Goals as goal

pub returns : goal.returns
returns c = λ fields scope n e keeps f h. data_kept fields scope keeps n e f (none_of _ h)
