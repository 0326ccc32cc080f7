-- What is made, and then the names of what is left, are the names of all.
use Rattle.std.proofs.Common.{◌≡◌, ◌++◌, drop, map}
use Rattle.exo_tree.specs.PlainTables.{config_field}
use Rattle.exo_modes.specs.Calls.Marked.{contains}
use Rattle.c_lowering.specs.Made.LoweredUnit.{fields_from}
use Rattle.c_printer.proofs.fields.marked_names.Given as goal

abbrev pub invariant-loop-k : goal.invariant-loop-k
invariant-loop-k l = l.names.items ++ fields_from (contains l.marks) l.k (map config_field (drop l.k l.fields)) ≡ fields_from (contains l.marks) 0 (map config_field l.fields)
