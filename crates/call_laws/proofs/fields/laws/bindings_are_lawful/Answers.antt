use Rattle.call_laws.proofs.OfFields.Rules.{bind_is_lawful}
use Rattle.call_laws.proofs.fields.laws.bindings_are_lawful.Goals as goal

pub returns : goal.returns
returns c = bind_is_lawful
