-- What is written and what is left make the whole.
use Rattle.std.proofs.Common.{◌≡◌, ◌++◌, codes, drop, map, string_bytes}
use Rattle.c_tree.specs.CText.{each}
use Rattle.c_tree.proofs.text.put_names.Given as goal

abbrev pub invariant-loop-name : goal.invariant-loop-name
invariant-loop-name l = string_bytes l.out ++ each (λ u. codes ", " ++ u) (map string_bytes (drop l.name-index l.rest)) ≡ string_bytes l.initial.out ++ each (λ u. codes ", " ++ u) (map string_bytes l.rest)
