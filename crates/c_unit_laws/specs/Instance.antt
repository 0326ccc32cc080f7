-- Closed units that have a C: one with a window, and one with instructions and vectors.
use Rattle.std.specs.Prelude.{List, [], ◌∷◌, codes}
use Rattle.exo_tree.specs.Tree.{Var, ControlArg, Window, Call, Block, end, next, Program}
use Rattle.exo_meaning.specs.Units.{IsUnit}
use Rattle.memory_kinds.specs.Faults.{fault_of}
use Rattle.c_lowering.specs.Made.LoweredUnit.{Printing}
use Rattle.c_lowering.specs.Made.Examples.{printed, fill, col, last_column, dram, vector_program}
use Rattle.c_unit_laws.specs.Follows.Units.{AreLowered}

-- fill(M, A[0:M, N - 1])
abbrev pub filling : Block
filling = next (Call 0 (ControlArg (Var 3) ∷ Window 5 last_column ∷ [])) end

abbrev pub column_program : Program
column_program = record { procedures = fill ∷ col filling ∷ []; fields = []; memories = dram ∷ [] }

abbrev pub both_printed : List Printing
both_printed = printed 0 (codes "fill") ∷ printed 1 (codes "col") ∷ []

pub record ColumnsHaveC : Type 0 where
  pub unit : IsUnit column_program
  pub lowered : AreLowered fault_of column_program both_printed

abbrev pub copy_printed : List Printing
copy_printed = printed 2 (codes "copy8") ∷ []

pub record VectorsHaveC : Type 0 where
  pub unit : IsUnit vector_program
  pub lowered : AreLowered fault_of vector_program copy_printed
