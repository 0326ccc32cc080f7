use Rattle.c_unit_laws.proofs.Stores.{files_without_allocations_are_done}
use Rattle.c_unit_laws.proofs.laws.files_without_allocations_are_done.Goals as goal

pub returns : goal.returns
returns c = files_without_allocations_are_done
