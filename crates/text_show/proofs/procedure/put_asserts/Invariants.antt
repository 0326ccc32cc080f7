-- What is written and what is left make the whole.
use Rattle.std.proofs.Common.{◌≡◌, ◌++◌, drop, map, flat_map, string_bytes}
use Rattle.exo_tree.specs.PlainControl.{condition}
use Rattle.text_show.specs.ProcedureText.{assert_text}
use Rattle.text_show.specs.Seen.{words_in}
use Rattle.text_show.proofs.procedure.put_asserts.Given as goal

abbrev pub invariant-loop-c : goal.invariant-loop-c
invariant-loop-c l = string_bytes l.out ++ flat_map (assert_text (words_in l.words)) (map condition (drop l.c-index l.asserts)) ≡ string_bytes l.initial.out ++ flat_map (assert_text (words_in l.words)) (map condition l.asserts)
