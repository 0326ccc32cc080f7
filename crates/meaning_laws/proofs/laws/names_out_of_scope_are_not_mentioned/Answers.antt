use Rattle.meaning_laws.proofs.Unmentioned.{unmentioned_law}
use Rattle.meaning_laws.proofs.laws.names_out_of_scope_are_not_mentioned.Goals as goal

pub returns : goal.returns
returns c = unmentioned_law
