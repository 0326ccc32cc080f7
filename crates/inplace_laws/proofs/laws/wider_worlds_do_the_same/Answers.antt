use Rattle.inplace_laws.proofs.Inline.{wider_law}
use Rattle.inplace_laws.proofs.laws.wider_worlds_do_the_same.Goals as goal

pub returns : goal.returns
returns c = wider_law
