-- No name is in scope already where it is bound. Well-formed procedures are so.
use Rattle.std.specs.Prelude.{Bool, true, ◌&&◌, List, [], ◌∷◌}
use Rattle.exo_tree.specs.Tree.{Statement, Assign, Reduce, Config, Pass, If, For, Alloc, View, Call, Block, end, next, Param}
use Rattle.exo_meaning.specs.Units.{Scope, is_new}
use Rattle.rules_names.specs.Scopes.PlaceScope.{naming, naming_after}

abbrev pub params_are_new : Scope → List Param → Bool
params_are_new scope [] = true
params_are_new scope (p ∷ ps) = is_new scope p.binder && params_are_new (naming p.binder scope) ps

abbrev mutual
  pub binds_new : Scope → Block → Bool
  binds_new scope end = true
  binds_new scope (next a b) = step_binds_new scope a && binds_new (naming_after a scope) b

  pub step_binds_new : Scope → Statement → Bool
  step_binds_new scope (Assign x is e) = true
  step_binds_new scope (Reduce x is e) = true
  step_binds_new scope (Config f a) = true
  step_binds_new scope Pass = true
  step_binds_new scope (If c a b) = binds_new scope a && binds_new scope b
  step_binds_new scope (For i lo hi b) = is_new scope i && binds_new (naming i scope) b
  step_binds_new scope (Alloc x cell dims memory) = is_new scope x
  step_binds_new scope (View w x coords) = is_new scope w
  step_binds_new scope (Call k args) = true
