-- What is written and what is left make the whole.
use Rattle.std.proofs.Common.{◌≡◌, ◌++◌, codes, drop, map, flat_map, string_bytes}
use Rattle.exo_tree.specs.PlainPlace.{step_taken}
use Rattle.compile_stages.specs.Kinds.{step_text}
use Rattle.compile_stages.proofs.why.put_more.Given as goal

abbrev pub invariant-loop-step : goal.invariant-loop-step
invariant-loop-step l =
    string_bytes l.out ++ flat_map (λ s. codes "." ++ step_text s) (map step_taken (drop l.step-index l.steps))
    ≡ string_bytes l.initial.out ++ flat_map (λ s. codes "." ++ step_text s) (map step_taken l.steps)
