-- What has been made, and what is left.
use Rattle.std.proofs.Common.{drop, map}
use Rattle.exo_reader.specs.Views.{plain_parameter}
use Rattle.exo_types.proofs.Defining.{SoFar}
use Rattle.exo_types.proofs.definition.add_params.Given as goal

abbrev pub invariant-loop-param : goal.invariant-loop-param
invariant-loop-param l = SoFar l.context l.initial.walk l.walk l.made l.n l.next (map plain_parameter l.params) (map plain_parameter (drop l.param-index l.params))
