-- What is written and what is left make the whole.
use Rattle.std.proofs.Common.{◌≡◌, ◌++◌, drop, map, string_bytes}
use Rattle.c_tree.specs.CText.{each, struct_text}
use Rattle.c_tree.specs.Plain.{plain_struct}
use Rattle.c_tree.proofs.text.put_structs.Given as goal

abbrev pub invariant-loop-s : goal.invariant-loop-s
invariant-loop-s l = string_bytes l.out ++ each struct_text (map plain_struct (drop l.s-index l.structs)) ≡ string_bytes l.initial.out ++ each struct_text (map plain_struct l.structs)
