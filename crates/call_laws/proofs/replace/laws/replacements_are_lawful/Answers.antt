use Rattle.call_laws.proofs.OfReplace.Replacing.{replace_is_lawful}
use Rattle.call_laws.proofs.replace.laws.replacements_are_lawful.Goals as goal

pub returns : goal.returns
returns c = replace_is_lawful
