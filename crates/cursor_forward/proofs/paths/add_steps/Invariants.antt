use Rattle.std.proofs.Common.{◌≡◌, ◌++◌, take, map}
use Rattle.exo_tree.specs.PlainPlace.{step_taken}
use Rattle.cursor_forward.proofs.paths.add_steps.Given as goal

abbrev pub invariant-loop-step : goal.invariant-loop-step
invariant-loop-step l = l.path ≡ l.initial.path ++ map step_taken (take l.step-index l.steps)
