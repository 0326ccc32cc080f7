-- What is written and what is left make the whole.
use Rattle.std.proofs.Common.{◌≡◌, ◌++◌, codes, drop, map, flat_map, string_bytes}
use Rattle.exo_tree.specs.PlainControl.{control}
use Rattle.text_show.specs.ControlText.{control_text}
use Rattle.text_show.specs.Seen.{words_in}
use Rattle.text_show.proofs.control.put_indices.Given as goal

abbrev pub invariant-loop-e : goal.invariant-loop-e
invariant-loop-e l = string_bytes l.out ++ flat_map (λ u. codes ", " ++ u) (map (control_text (words_in l.words)) (map control (drop l.e-index l.rest))) ≡ string_bytes l.initial.out ++ flat_map (λ u. codes ", " ++ u) (map (control_text (words_in l.words)) (map control l.rest))
