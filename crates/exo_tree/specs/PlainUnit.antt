-- The plain form of a unit.
use Rattle.exo_tree.specs.Tree as tree
use Rattle.exo_tree.specs.declared.unit.Unit as declared

abbrev pub program : declared.Unit → tree.Program
program u = record { procedures = u.procs; fields = u.fields; memories = u.memories }
