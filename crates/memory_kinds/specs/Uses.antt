-- What a statement does to a buffer, as the program tells it.
use Rattle.std.specs.Prelude.{Option}
use Rattle.exo_tree.specs.Tree.{MemoryKind}
use Rattle.memory_kinds.specs.declared.error.KindError.{KindError}
use Rattle.memory_kinds.specs.declared.class.Use.{Use}
use Rattle.memory_kinds.specs.declared.class.Use.TheVariants.{Reading, Writing, Reducing, Viewing}
use Rattle.memory_kinds.specs.Faults.{read_fault, write_fault, reduce_fault, view_fault}

abbrev pub use_fault : Use → MemoryKind → Option KindError
use_fault Reading = read_fault
use_fault Writing = write_fault
use_fault Reducing = reduce_fault
use_fault Viewing = view_fault
