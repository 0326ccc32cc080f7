-- The parameters that are left decide.
use Rattle.std.proofs.Common.{◌≡◌, drop, map}
use Rattle.exo_tree.specs.PlainParam.{parameter}
use Rattle.memory_kinds.specs.Homes.{with_params, param_homes}
use Rattle.memory_kinds.proofs.scope.home_of_param.Given as goal

abbrev pub invariant-loop-p : goal.invariant-loop-p
invariant-loop-p l = with_params (λ y. l.home.0) (map parameter (drop l.p-index l.params)) l.x.0 ≡ param_homes (map parameter l.params) l.x.0
