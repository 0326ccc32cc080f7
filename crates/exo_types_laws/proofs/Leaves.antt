-- Expressions, targets and windows that break no rule keep those of a well-formed unit, which may have more fields.
use Rattle.std.proofs.Common.{◌≡◌, ℕ, suc, Bool, true, List, [], ◌∷◌, length, Option, Some, refl, sym, ap, ◌∙◌}
use Rattle.std.specs.List.{list_all}
use Rattle.exo_tree.specs.Tree.{Kind, ConfigField}
use Rattle.exo_meaning.specs.Units.{Scope, Reads, Sort, sort_in, plainly, field_kind, has_rank, is_control, are_controls, is_condition, is_access, is_datum, is_coord, is_window}
use Rattle.text_expressions.specs.Expression.{Tree}
use Rattle.exo_reader.specs.Source.{Coordinate}
use Rattle.rules_names.specs.Faults.{least}
use Rattle.rules_names.specs.Names.{id_in}
use Rattle.rules_names.specs.ExpressionRules.{is_buffer, control_faults, controls_faults, condition_faults, data_faults}
use Rattle.rules_names.specs.Resolved.{control_of, controls_of, condition_of, datum_of}
use Rattle.rules_names.specs.WindowRules.{window_faults, coordinates_of}
use Rattle.rules_names.specs.Laws.{KeepsIds, fit, coordinate_fits, ControlsKeepRules, ListsKeepRules, ConditionsKeepRules, DataKeepRules, WindowsKeepRules, ScopesKeepIds}
use Rattle.exo_types.specs.ArgumentRules.{points}
use Rattle.exo_types_laws.proofs.Unbroken.{both, pair}
use Rattle.exo_types_laws.proofs.Texts.{points_fit}
use Rattle.exo_types_laws.proofs.Wider.{control_wider, controls_wider, condition_wider, datum_wider, window_wider}

-- what is known of expressions that break no rule
pub record Laws : Type 0 where
  pub controls : ControlsKeepRules
  pub lists : ListsKeepRules
  pub conditions : ConditionsKeepRules
  pub cells : DataKeepRules
  pub windows : WindowsKeepRules
  pub scopes : ScopesKeepIds

-- the indices of a cell as the points of a window
points_length : (fields : List ConfigField) (scope : Scope) (ds : List Tree) → length (coordinates_of fields scope (points ds)) ≡ length (controls_of fields scope ds)
points_length fields scope [] = refl
points_length fields scope (d ∷ ds) = ap suc (points_length fields scope ds)

points_kept : (G : ℕ → Option Kind) (fields : List ConfigField) (scope : Scope) (ds : List Tree) → list_all (is_coord G scope) (coordinates_of fields scope (points ds)) ≡ true → are_controls G plainly scope (controls_of fields scope ds) ≡ true
points_kept G fields scope [] h = refl
points_kept G fields scope (d ∷ ds) h =
    let p = both (is_control G plainly scope (control_of fields scope d)) (list_all (is_coord G scope) (coordinates_of fields scope (points ds))) h in
    pair p.0 (points_kept G fields scope ds p.1)

module _ (laws : Laws) (fields : List ConfigField) (F : ℕ → Option Kind) (more : (f : ℕ) (k : Kind) → field_kind fields f ≡ Some k → F f ≡ Some k) where
  pub control_formed : (may : Reads) (scope : Scope) (n : ℕ) (e : Tree) → KeepsIds scope → fit e ≡ true → control_faults fields may scope n e ≡ [] → is_control F may scope (control_of fields scope e) ≡ true
  control_formed may scope n e keeps f h = control_wider (field_kind fields) F more may scope (control_of fields scope e) (laws.controls fields may scope n e keeps f (ap least h))

  pub controls_formed : (may : Reads) (scope : Scope) (n : ℕ) (es : List Tree) → KeepsIds scope → list_all fit es ≡ true → controls_faults fields may scope n es ≡ [] → are_controls F may scope (controls_of fields scope es) ≡ true
  controls_formed may scope n es keeps f h = controls_wider (field_kind fields) F more may scope (controls_of fields scope es) (laws.lists fields may scope n es keeps f (ap least h))

  pub condition_formed : (may : Reads) (scope : Scope) (n : ℕ) (e : Tree) → KeepsIds scope → fit e ≡ true → condition_faults fields may scope n e ≡ [] → is_condition F may scope (condition_of fields scope e) ≡ true
  condition_formed may scope n e keeps f h = condition_wider (field_kind fields) F more may scope (condition_of fields scope e) (laws.conditions fields may scope n e keeps f (ap least h))

  pub datum_formed : (scope : Scope) (n : ℕ) (e : Tree) → KeepsIds scope → fit e ≡ true → data_faults fields scope n e ≡ [] → is_datum F scope (datum_of fields scope e) ≡ true
  datum_formed scope n e keeps f h = datum_wider (field_kind fields) F more scope (datum_of fields scope e) (laws.cells fields scope n e keeps f (ap least h))

  pub window_formed : (test : Option Sort → Bool) (scope : Scope) (n : ℕ) (x : List ℕ) (cs : List Coordinate) → KeepsIds scope → ((s : Option Sort) → test s ≡ true → is_buffer s ≡ true) → list_all coordinate_fits cs ≡ true → window_faults fields test scope n x cs ≡ [] → is_window F scope (id_in scope x) (coordinates_of fields scope cs) ≡ true
  window_formed test scope n x cs keeps only f h =
      window_wider (field_kind fields) F more scope (id_in scope x) (coordinates_of fields scope cs) (laws.windows fields test scope n x cs keeps only f (ap least h))

  -- what a statement stores in
  pub target_formed : (scope : Scope) (n : ℕ) (x : List ℕ) (ds : List Tree) → KeepsIds scope → list_all fit ds ≡ true → window_faults fields is_buffer scope n x (points ds) ≡ [] → is_access F scope (id_in scope x) (controls_of fields scope ds) ≡ true
  target_formed scope n x ds keeps f h =
      let w = window_formed is_buffer scope n x (points ds) keeps (λ s t. t) (points_fit ds f) h in
      let p = both (has_rank (length (coordinates_of fields scope (points ds))) (sort_in scope (id_in scope x))) (list_all (is_coord F scope) (coordinates_of fields scope (points ds))) w in
      pair (ap (λ k. has_rank k (sort_in scope (id_in scope x))) (sym (points_length fields scope ds)) ∙ p.0) (points_kept F fields scope ds p.1)
