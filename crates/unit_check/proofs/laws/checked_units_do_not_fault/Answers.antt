use Rattle.unit_check.proofs.Safe.{checked_units_do_not_fault}
use Rattle.unit_check.proofs.laws.checked_units_do_not_fault.Goals as goal

pub returns : goal.returns
returns c = checked_units_do_not_fault c.shown_systems_have_no_point.ensures c.shown_procedures_do_not_fault.ensures
