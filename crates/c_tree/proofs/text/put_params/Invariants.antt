-- What is written and what is left make the whole.
use Rattle.std.proofs.Common.{◌≡◌, ◌++◌, codes, drop, map, string_bytes}
use Rattle.c_tree.specs.CText.{each, formal_text}
use Rattle.c_tree.specs.Plain.{plain_param}
use Rattle.c_tree.proofs.text.put_params.Given as goal

abbrev pub invariant-loop-p : goal.invariant-loop-p
invariant-loop-p l = string_bytes l.out ++ each (λ u. codes ", " ++ u) (map formal_text (map plain_param (drop l.p-index l.rest))) ≡ string_bytes l.initial.out ++ each (λ u. codes ", " ++ u) (map formal_text (map plain_param l.rest))
