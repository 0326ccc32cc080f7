-- Each procedure of a well-formed unit binds new names.
use Rattle.std.proofs.Common.{◌≡◌, ℕ, zero, suc, true, List, [], ◌∷◌, ◌++◌, slice_get, length, Some, refl, subst}
use Rattle.exo_tree.specs.Tree.{Procedure, ConfigField, Program}
use Rattle.exo_meaning.specs.Calls.{Callee}
use Rattle.exo_meaning.specs.Run.{callee_in, world_of, kinds_of}
use Rattle.exo_meaning.specs.Units.{IsProcedure, AreProcedures, IsUnit, field_kind}
use Rattle.rules_names.specs.Scopes.PlaceScope.{naming_params}
use Rattle.rules_names.specs.Scopes.NewNames.{params_are_new, binds_new}
use Rattle.rules_names.proofs.OfScopes.Fresh.{params_new, body_is_new, same_params}

pub record BindsNew (p : Procedure) : Type 0 where
  pub params : params_are_new [] p.params ≡ true
  pub body : binds_new (naming_params p.params []) p.body ≡ true

procedure_new : (fields : List ConfigField) (memories : ℕ) (above : List Callee) (p : Procedure) → IsProcedure (field_kind fields) memories (slice_get above) p → BindsNew p
procedure_new fields memories above p h = record {
  params = params_new (field_kind fields) memories (slice_get above) p.params [] [] refl h.params;
  body = body_is_new (field_kind fields) memories (slice_get above) p.body (λ x. x) _ (naming_params p.params []) (same_params p.params [] [] refl) h.body;
}

some_is : (p q : Procedure) → Some p ≡ Some q → p ≡ q
some_is p q h = cc

procedures_new : (fields : List ConfigField) (memories : ℕ) (above : List Callee) (ps : List Procedure) (k : ℕ) (p : Procedure) → AreProcedures fields memories above ps → slice_get ps k ≡ Some p → BindsNew p
procedures_new fields memories above [] k p h e = cc
procedures_new fields memories above (q ∷ ps) zero p h e = subst (λ r. BindsNew r) (some_is q p e) (procedure_new fields memories above q h.0)
procedures_new fields memories above (q ∷ ps) (suc k) p h e = procedures_new fields memories (above ++ callee_in (world_of (kinds_of fields) above) q ∷ []) ps k p h.1 e

pub unit_new : (u : Program) (k : ℕ) (p : Procedure) → IsUnit u → slice_get u.procedures k ≡ Some p → BindsNew p
unit_new u k p h e = procedures_new u.fields (length u.memories) [] u.procedures k p h.procedures e
