-- What names stand for in the C of a procedure, as the program keeps it.
use Rattle.std.specs.Prelude.{pos}
use Rattle.exo_tree.specs.Tree.{Control}
use Rattle.exo_tree.specs.PlainUnit.{program}
use Rattle.c_tree.specs.CTree.{Number64, Literal}
use Rattle.c_lowering.specs.Made.Lowered as lowered
use Rattle.c_lowering.specs.Made.Lowered.{Naming, number_with}
use Rattle.c_lowering.specs.Made.LoweredUnit.{naming_in}
use Rattle.c_lowering.specs.declared.names.CNames.{CNames}
use Rattle.c_lowering.specs.declared.names.Memory.{Memory}

abbrev pub naming_of : CNames → Naming
naming_of names = naming_in (program names.unit.now) names.binders.now

-- the C of a dimension, which holds no stride
abbrev pub extent_of : Naming → Control → Number64
extent_of naming = number_with naming (λ x k. Literal (pos 1))

abbrev pub memory_in : Memory → lowered.Memory
memory_in m = record { ctype = m.ctype.now; lanes = m.lanes; stack = m.stack }
