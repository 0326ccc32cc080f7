-- The plain forms of a unit's fields and memories.
use Rattle.std.specs.Prelude.{option_map}
use Rattle.exo_tree.specs.Tree as tree
use Rattle.exo_tree.specs.PlainBinder.{cell_type, control_kind}
use Rattle.exo_tree.specs.declared.unit.Field.{Field}
use Rattle.exo_tree.specs.declared.unit.MemoryClass.{MemoryClass}

abbrev pub config_field : Field → tree.ConfigField
config_field f = record { config = f.config; name = f.name; kind = control_kind f.kind }

abbrev pub memory_kind : MemoryClass → tree.MemoryKind
memory_kind m =
    record {
      name = m.name;
      ctype = m.ctype;
      lanes = m.lanes;
      cell = option_map cell_type m.cell;
      stack = m.stack;
      read = m.read;
      write = m.write;
      reduce = m.reduce;
      header = m.include;
    }
