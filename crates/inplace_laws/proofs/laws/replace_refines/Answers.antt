use Rattle.inplace_laws.proofs.Inline.{replace_refines}
use Rattle.inplace_laws.proofs.laws.replace_refines.Goals as goal

pub returns : goal.returns
returns c = replace_refines
