-- The statements that are left make the whole.
use Rattle.std.proofs.Common.{◌≡◌, ◌-◌, true, drop}
use Rattle.exo_tree.specs.Tree.{block}
use Rattle.rules_names.specs.Scopes.PlaceScope.{scope_behind}
use Rattle.rules_names.specs.Scopes.NewNames.{binds_new}
use Rattle.rules_names.proofs.scopes.walk.bind_behind.Given as goal

abbrev pub invariant-loop-k : goal.invariant-loop-k
invariant-loop-k l = (scope_behind (l.count - l.k) l.scope (block (drop l.k l.b)) ≡ scope_behind l.count l.initial.scope (block l.b)) × (binds_new l.scope (block (drop l.k l.b)) ≡ true)
