-- What is written and what is left make the whole.
use Rattle.std.proofs.Common.{◌≡◌, ◌++◌, codes, drop, map, flat_map, string_bytes}
use Rattle.exo_tree.specs.PlainArgument.{argument}
use Rattle.text_show.specs.StatementText.{argument_text}
use Rattle.text_show.specs.Seen.{words_in}
use Rattle.text_show.proofs.statement.put_arguments.Given as goal

abbrev pub invariant-loop-a : goal.invariant-loop-a
invariant-loop-a l = string_bytes l.out ++ flat_map (λ u. codes ", " ++ u) (map (argument_text (words_in l.words)) (map argument (drop l.a-index l.rest))) ≡ string_bytes l.initial.out ++ flat_map (λ u. codes ", " ++ u) (map (argument_text (words_in l.words)) (map argument l.rest))
