use Rattle.inplace_laws.proofs.Inline.{inline_refines}
use Rattle.inplace_laws.proofs.laws.inline_refines.Goals as goal

pub returns : goal.returns
returns c = inline_refines
