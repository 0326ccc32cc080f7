-- The attributes that are left make the rest.
use Rattle.std.proofs.Common.{◌≡◌, drop, map}
use Rattle.exo_tree.specs.PlainTables.{memory_kind}
use Rattle.exo_reader.specs.Views.{plain_attribute}
use Rattle.exo_types.specs.MemoryRules.{plain_memory, with_attributes}
use Rattle.exo_types.proofs.attribute.memory_of.Given as goal

abbrev pub invariant-loop-attribute : goal.invariant-loop-attribute
invariant-loop-attribute l = with_attributes (memory_kind l.made) (map plain_attribute (drop l.attribute-index l.attributes)) ≡ with_attributes (plain_memory l.name) (map plain_attribute l.attributes)
