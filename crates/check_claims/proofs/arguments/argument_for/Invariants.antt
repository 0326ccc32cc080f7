-- What is looked for stands behind what was looked at.
use Rattle.std.proofs.Common.{◌≡◌, drop, map}
use Rattle.exo_tree.specs.PlainParam.{parameter}
use Rattle.exo_tree.specs.PlainArgument.{argument}
use Rattle.check_claims.specs.Arguments.{passed_for}
use Rattle.check_claims.proofs.arguments.argument_for.Given as goal

abbrev pub invariant-loop-k : goal.invariant-loop-k
invariant-loop-k l = passed_for (map parameter (drop l.k l.params)) (map argument (drop l.k l.args)) l.x.0 ≡ passed_for (map parameter l.params) (map argument l.args) l.x.0
