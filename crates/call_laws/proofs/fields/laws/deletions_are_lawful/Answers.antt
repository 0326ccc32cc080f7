use Rattle.call_laws.proofs.OfFields.Rules.{delete_is_lawful}
use Rattle.call_laws.proofs.fields.laws.deletions_are_lawful.Goals as goal

pub returns : goal.returns
returns c = delete_is_lawful
