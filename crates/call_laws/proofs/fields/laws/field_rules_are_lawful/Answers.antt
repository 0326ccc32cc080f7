use Rattle.call_laws.proofs.OfFields.Stand.{field_rules_are_lawful}
use Rattle.call_laws.proofs.fields.laws.field_rules_are_lawful.Goals as goal

pub returns : goal.returns
returns c = field_rules_are_lawful
