use Rattle.call_laws.proofs.OfFields.Rules.{bind_is_carrying}
use Rattle.call_laws.proofs.fields.laws.bindings_carry.Goals as goal

pub returns : goal.returns
returns c = bind_is_carrying
