-- What is written and what is left make the whole.
use Rattle.std.proofs.Common.{◌≡◌, ◌++◌, codes, drop, map, flat_map, string_bytes}
use Rattle.exo_tree.specs.PlainControl.{coordinate}
use Rattle.text_show.specs.ControlText.{coord_text}
use Rattle.text_show.specs.Seen.{words_in}
use Rattle.text_show.proofs.control.put_window.Given as goal

abbrev pub invariant-loop-c : goal.invariant-loop-c
invariant-loop-c l = string_bytes l.out ++ flat_map (λ u. codes ", " ++ u) (map (coord_text (words_in l.words)) (map coordinate (drop l.c-index l.rest))) ≡ string_bytes l.initial.out ++ flat_map (λ u. codes ", " ++ u) (map (coord_text (words_in l.words)) (map coordinate l.rest))
