-- The spans so far, and those that are left.
use Rattle.std.proofs.Common.{◌≡◌, ◌≤◌, ◌+◌, map, length, drop}
use Rattle.exo_tree.specs.PlainControl.{coordinate}
use Rattle.c_lowering.specs.Made.Lowered.{Naming, strides_in, at_spans}
use Rattle.c_lowering.specs.Scope.{forms_in}
use Rattle.c_lowering.proofs.arguments.span_count.Given as goal

abbrev pub invariant-loop-k : goal.invariant-loop-k
invariant-loop-k l = record {
  few : l.count ≤ l.k;
  whole : (naming : Naming) → l.count + length (at_spans (map coordinate (drop l.k l.coords)) (drop l.k (strides_in naming l.fn.x.0 (forms_in l.fn.scope l.fn.x.0)))) ≡ length (at_spans (map coordinate l.coords) (strides_in naming l.fn.x.0 (forms_in l.fn.scope l.fn.x.0)));
}
