-- What is written and what is left make the whole.
use Rattle.std.proofs.Common.{◌≡◌, ◌++◌, drop, map, string_bytes}
use Rattle.c_tree.specs.CText.{each, field_text}
use Rattle.c_tree.proofs.text.put_fields.Given as goal

abbrev pub invariant-loop-x : goal.invariant-loop-x
invariant-loop-x l = string_bytes l.out ++ each field_text (map string_bytes (drop l.x-index l.fields)) ≡ string_bytes l.initial.out ++ each field_text (map string_bytes l.fields)
