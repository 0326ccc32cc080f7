use Rattle.c_unit_laws.proofs.OfUndeclared.Undeclared.{one_of_two}
use Rattle.c_unit_laws.proofs.undeclared.laws.one_of_two.Goals as goal

pub returns : goal.returns
returns c = one_of_two
