-- The parameters from the last on.
use Rattle.std.proofs.Common.{◌≡◌, ◌-◌, length, drop, map}
use Rattle.exo_tree.specs.PlainParam.{parameter}
use Rattle.c_lowering.specs.Made.Lowered.{param_forms}
use Rattle.c_lowering.specs.Scope.{forms_in}
use Rattle.c_printer.proofs.functions.param_scope.Given as goal

abbrev pub invariant-loop-k : goal.invariant-loop-k
invariant-loop-k l = forms_in l.scope.items ≡ param_forms (map parameter (drop (length l.params - l.k) l.params))
