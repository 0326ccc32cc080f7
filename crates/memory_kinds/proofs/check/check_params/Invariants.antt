-- The parameters that are left decide.
use Rattle.std.proofs.Common.{◌≡◌, drop, map}
use Rattle.exo_tree.specs.PlainParam.{parameter}
use Rattle.memory_kinds.specs.Faults.{params_fault}
use Rattle.memory_kinds.proofs.check.check_params.Given as goal

abbrev pub invariant-loop-p : goal.invariant-loop-p
invariant-loop-p l = params_fault l.memories (map parameter (drop l.p-index l.params)) ≡ params_fault l.memories (map parameter l.params)
