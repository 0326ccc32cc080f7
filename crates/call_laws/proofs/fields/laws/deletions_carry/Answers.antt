use Rattle.call_laws.proofs.OfFields.Rules.{delete_is_carrying}
use Rattle.call_laws.proofs.fields.laws.deletions_carry.Goals as goal

pub returns : goal.returns
returns c = delete_is_carrying
