use Rattle.exo_types_laws.proofs.FirstMemory.{dram_first}
use Rattle.exo_types_laws.proofs.laws.typed_units_have_dram.Goals as goal

pub returns : goal.returns
returns c = dram_first
