use Rattle.call_laws.proofs.OfReplace.Replacing.{replace_is_carrying}
use Rattle.call_laws.proofs.replace.laws.replacements_carry.Goals as goal

pub returns : goal.returns
returns c = replace_is_carrying
