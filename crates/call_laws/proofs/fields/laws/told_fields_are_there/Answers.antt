use Rattle.call_laws.proofs.OfFields.Points.{fields_are_there}
use Rattle.call_laws.proofs.fields.laws.told_fields_are_there.Goals as goal

pub returns : goal.returns
returns c = fields_are_there
