use Rattle.call_laws.proofs.OfFields.Version.{version_is_carrying}
use Rattle.call_laws.proofs.fields.laws.versions_carry.Goals as goal

pub returns : goal.returns
returns c = version_is_carrying
