use Rattle.c_unit_laws.proofs.OfUndeclared.Undeclared.{undeclared_fields_stay}
use Rattle.c_unit_laws.proofs.undeclared.laws.undeclared_fields_stay.Goals as goal

pub returns : goal.returns
returns c = undeclared_fields_stay
