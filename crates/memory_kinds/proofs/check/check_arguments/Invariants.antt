-- The arguments that are left decide, and what is remembered is true.
use Rattle.std.proofs.Common.{◌≡◌, drop, map}
use Rattle.exo_tree.specs.PlainParam.{parameter}
use Rattle.exo_tree.specs.PlainArgument.{argument}
use Rattle.memory_kinds.specs.Faults.{arguments_fault}
use Rattle.memory_kinds.specs.Scope.{homes_in}
use Rattle.memory_kinds.specs.Recent.{AreTrue}
use Rattle.memory_kinds.proofs.check.check_arguments.Given as goal

abbrev pub invariant-loop-k : goal.invariant-loop-k
invariant-loop-k l =
    (arguments_fault l.memories (homes_in l.scope) (map parameter (drop l.k l.params)) (map argument (drop l.k l.args)) ≡ arguments_fault l.memories (homes_in l.scope) (map parameter l.params) (map argument l.args))
    × AreTrue l.recent (homes_in l.scope)
