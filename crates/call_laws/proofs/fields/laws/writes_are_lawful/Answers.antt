use Rattle.call_laws.proofs.OfFields.Rules.{write_is_lawful}
use Rattle.call_laws.proofs.fields.laws.writes_are_lawful.Goals as goal

pub returns : goal.returns
returns c = write_is_lawful
