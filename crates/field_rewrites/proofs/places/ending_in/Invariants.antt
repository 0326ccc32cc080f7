use Rattle.std.proofs.Common.{◌≡◌, ◌≤◌, take, map, length}
use Rattle.exo_tree.specs.PlainPlace.{step_taken}
use Rattle.field_rewrites.proofs.places.ending_in.Given as goal

abbrev pub invariant-loop-step : goal.invariant-loop-step
invariant-loop-step l = record {
  path : l.path ≡ map step_taken (take l.step-index l.up);
  inside : l.step-index ≤ length l.up;
}
