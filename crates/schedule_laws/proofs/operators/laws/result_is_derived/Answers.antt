use Rattle.schedule_laws.proofs.OfOperators.Examples.{result_is_derived}
use Rattle.schedule_laws.proofs.operators.laws.result_is_derived.Goals as goal

pub returns : goal.returns
returns c = result_is_derived c.schedules_derive.ensures c.checked_units_do_not_fault.ensures
