-- What is put, and what is left, make the whole.
use Rattle.std.proofs.Common.{◌≡◌, ◌++◌, drop, map}
use Rattle.exo_tree.specs.PlainBinder.{binding}
use Rattle.exo_tree.specs.PlainParam.{parameter}
use Rattle.c_tree.specs.Names.Binders.{param_binders}
use Rattle.c_tree.proofs.names.binders.put_params.Given as goal

abbrev pub invariant-loop-p : goal.invariant-loop-p
invariant-loop-p l = map binding l.out.items ++ param_binders (map parameter (drop l.p-index l.params)) ≡ map binding l.initial.out.items ++ param_binders (map parameter l.params)
