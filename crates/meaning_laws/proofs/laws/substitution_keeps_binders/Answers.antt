use Rattle.meaning_laws.proofs.Substituted.{substitution_keeps_binders}
use Rattle.meaning_laws.proofs.laws.substitution_keeps_binders.Goals as goal

pub returns : goal.returns
returns c = substitution_keeps_binders
