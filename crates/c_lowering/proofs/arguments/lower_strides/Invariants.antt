-- What is made, and the strides that are left, are all strides.
use Rattle.std.proofs.Common.{◌≡◌, ◌++◌, map, drop}
use Rattle.c_tree.specs.Plain.{plain_number}
use Rattle.c_lowering.specs.Made.Lowered.{strides_in}
use Rattle.c_lowering.specs.Scope.{forms_in}
use Rattle.c_lowering.specs.Naming.{naming_of}
use Rattle.c_lowering.proofs.arguments.lower_strides.Given as goal

abbrev pub invariant-loop-k : goal.invariant-loop-k
invariant-loop-k l = map plain_number l.strides.items ++ drop l.k (strides_in (naming_of l.names) l.x.0 (forms_in l.scope l.x.0)) ≡ strides_in (naming_of l.names) l.x.0 (forms_in l.scope l.x.0)
