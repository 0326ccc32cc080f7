use Rattle.std.proofs.Common.{◌≡◌, take, map}
use Rattle.exo_tree.specs.PlainPlace.{step_taken}
use Rattle.exo_tree.proofs.place.Path.from_steps.Given as goal

abbrev pub invariant-loop-step : goal.invariant-loop-step
invariant-loop-step l = l.path ≡ map step_taken (take l.step-index l.steps)
