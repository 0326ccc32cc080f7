-- What is made, and the strides at the spans that are left, are those at all spans.
use Rattle.std.proofs.Common.{◌≡◌, ◌++◌, map, drop}
use Rattle.exo_tree.specs.PlainControl.{coordinate}
use Rattle.c_tree.specs.Plain.{plain_number}
use Rattle.c_lowering.specs.Made.Lowered.{strides_in, at_spans}
use Rattle.c_lowering.specs.Scope.{forms_in}
use Rattle.c_lowering.specs.Naming.{naming_of}
use Rattle.c_lowering.proofs.arguments.span_strides.Given as goal

abbrev pub invariant-loop-k : goal.invariant-loop-k
invariant-loop-k l =
    let strides = strides_in (naming_of l.names) l.x.0 (forms_in l.scope l.x.0) in
    map plain_number l.strides.items ++ at_spans (map coordinate (drop l.k l.coords)) (drop l.k strides) ≡ at_spans (map coordinate l.coords) strides
