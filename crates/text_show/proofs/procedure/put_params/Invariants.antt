-- What is written and what is left make the whole.
use Rattle.std.proofs.Common.{◌≡◌, ◌++◌, codes, drop, map, flat_map, string_bytes}
use Rattle.exo_tree.specs.PlainParam.{parameter}
use Rattle.text_show.specs.ProcedureText.{param_text}
use Rattle.text_show.specs.Seen.{words_in}
use Rattle.text_show.proofs.procedure.put_params.Given as goal

abbrev pub invariant-loop-p : goal.invariant-loop-p
invariant-loop-p l = string_bytes l.out ++ flat_map (λ u. codes ", " ++ u) (map (param_text (words_in l.words)) (map parameter (drop l.p-index l.rest))) ≡ string_bytes l.initial.out ++ flat_map (λ u. codes ", " ++ u) (map (param_text (words_in l.words)) (map parameter l.rest))
