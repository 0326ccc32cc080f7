-- What is written and what is left make the whole.
use Rattle.std.proofs.Common.{◌≡◌, ◌++◌, drop, map, string_bytes}
use Rattle.c_tree.specs.CText.{each, include_text}
use Rattle.c_tree.proofs.text.put_includes.Given as goal

abbrev pub invariant-loop-header : goal.invariant-loop-header
invariant-loop-header l = string_bytes l.out ++ each include_text (map string_bytes (drop l.header-index l.headers)) ≡ string_bytes l.initial.out ++ each include_text (map string_bytes l.headers)
