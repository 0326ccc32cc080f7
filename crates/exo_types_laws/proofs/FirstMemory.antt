-- The first memory is DRAM, since memories are put last.
use Rattle.std.proofs.Common.{◌≡◌, List, [], ◌∷◌, ◌++◌, Some, slice_get, refl}
use Rattle.exo_tree.specs.Tree.{MemoryKind}
use Rattle.exo_reader.specs.Source.{Item, procedure, instruction, configuration, memory}
use Rattle.exo_types.specs.MemoryRules.{dram, plain_memory, with_attributes}
use Rattle.exo_types.specs.UnitRules.{Above, nothing_above, after_item, after_items}
use Rattle.exo_types_laws.specs.Laws.{TypedUnitsHaveDram}

first-stays : (ms more : List MemoryKind) (m : MemoryKind) → slice_get ms 0 ≡ Some m → slice_get (ms ++ more) 0 ≡ Some m
first-stays [] more m h = cc
first-stays (n ∷ ms) more m h = h

after-one : (above : Above) (i : Item) (m : MemoryKind) → slice_get above.program.memories 0 ≡ Some m → slice_get (after_item above i).program.memories 0 ≡ Some m
after-one above (procedure d) m h = h
after-one above (instruction template d) m h = h
after-one above (configuration x fs) m h = h
after-one above (memory x settings) m h = first-stays above.program.memories (with_attributes (plain_memory x) settings ∷ []) m h

after-all : (above : Above) (items : List Item) (m : MemoryKind) → slice_get above.program.memories 0 ≡ Some m → slice_get (after_items above items).program.memories 0 ≡ Some m
after-all above [] m h = h
after-all above (i ∷ more) m h = after-all (after_item above i) more m (after-one above i m h)

pub dram_first : TypedUnitsHaveDram
dram_first items = after-all nothing_above items dram refl
