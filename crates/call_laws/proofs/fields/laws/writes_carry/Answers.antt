use Rattle.call_laws.proofs.OfFields.Rules.{write_is_carrying}
use Rattle.call_laws.proofs.fields.laws.writes_carry.Goals as goal

pub returns : goal.returns
returns c = write_is_carrying
