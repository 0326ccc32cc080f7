use Rattle.call_laws.proofs.OfFields.Version.{version_is_lawful}
use Rattle.call_laws.proofs.fields.laws.versions_are_lawful.Goals as goal

pub returns : goal.returns
returns c = version_is_lawful
