-- The arguments so far, and those that are left.
use Rattle.std.proofs.Common.{◌≡◌, ◌++◌, drop, map}
use Rattle.exo_tree.specs.PlainParam.{parameter}
use Rattle.exo_reader.specs.Views.{plain_argument}
use Rattle.exo_types.specs.ArgumentRules.{arguments_of}
use Rattle.exo_types.proofs.call.arguments_of.Given as goal

abbrev pub invariant-loop-k : goal.invariant-loop-k
invariant-loop-k l = l.made ++ arguments_of l.names.fields.now l.names.scope.now (map parameter (drop l.k l.params)) (map plain_argument (drop l.k l.arguments)) ≡ arguments_of l.names.fields.now l.names.scope.now (map parameter l.params) (map plain_argument l.arguments)
