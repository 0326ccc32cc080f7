use Rattle.meaning_laws.proofs.Substituted.{substitution_mentions_no_more}
use Rattle.meaning_laws.proofs.laws.substitution_mentions_no_more.Goals as goal

pub returns : goal.returns
returns c = substitution_mentions_no_more
