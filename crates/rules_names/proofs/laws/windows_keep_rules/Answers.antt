use Rattle.rules_names.proofs.Kept.{none_of, window_kept}
use Rattle.rules_names.proofs.laws.windows_keep_rules.Goals as goal

pub returns : goal.returns
returns c = λ fields test scope n x cs keeps only f h. window_kept fields scope keeps test n x cs only f (none_of _ h)
