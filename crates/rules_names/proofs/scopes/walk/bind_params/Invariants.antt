-- The parameters that are left make the whole.
use Rattle.std.proofs.Common.{◌≡◌, true, drop, map}
use Rattle.exo_tree.specs.PlainParam.{parameter}
use Rattle.rules_names.specs.Scopes.PlaceScope.{naming_params}
use Rattle.rules_names.specs.Scopes.NewNames.{params_are_new}
use Rattle.rules_names.proofs.scopes.walk.bind_params.Given as goal

abbrev pub invariant-loop-p : goal.invariant-loop-p
invariant-loop-p l = (naming_params (map parameter (drop l.p-index l.p-items)) l.scope ≡ naming_params l.params l.initial.scope) × (params_are_new l.scope (map parameter (drop l.p-index l.p-items)) ≡ true)
