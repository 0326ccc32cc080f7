-- The attributes that are left decide.
use Rattle.std.proofs.Common.{◌≡◌, ◌+◌, [], drop, take, map}
use Rattle.exo_reader.specs.Views.{plain_attribute}
use Rattle.exo_types.specs.MemoryRules.{attributes_fault, attributes_width}
use Rattle.exo_types.proofs.attribute.attributes_fault.Given as goal

abbrev pub invariant-loop-k : goal.invariant-loop-k
invariant-loop-k l = record {
  count : l.next + attributes_width (map plain_attribute (drop l.k l.attributes)) ≡ l.n + attributes_width (map plain_attribute l.attributes);
  left : attributes_fault (map (λ a. a.name) (take l.k l.attributes)) l.next (map plain_attribute (drop l.k l.attributes)) ≡ attributes_fault [] l.n (map plain_attribute l.attributes);
}
