-- What is found in a call, by the table of modes.
use Rattle.std.proofs.Common.{◌≡◌, ℕ, Bool, false, List, [], Option, None, Some, option_map, refl, ap, sym, ◌∙◌}
use Rattle.std.specs.Prelude.{slice_get}
use Rattle.exo_tree.specs.Tree.{Kind, Argument, Procedure, Program}
use Rattle.exo_meaning.specs.Calls.{Callee}
use Rattle.exo_meaning.specs.Run.{callees, kinds_of, program_world}
use Rattle.exo_meaning.specs.Modes.{Modes, modes_at}
use Rattle.exo_meaning.specs.Units.{Scope, field_kind, same_root, share_nothing_written}
use Rattle.exo_modes.specs.Aliases.{same_buffer}
use Rattle.exo_modes.specs.Marks.{modes_of, writing}
use Rattle.tree_findings.specs.Classes.{both, rule}
use Rattle.tree_findings.specs.Findings.{findings_of_arguments, findings_of_call}
use Rattle.tree_findings.proofs.Callees.{callee_at, callee_says}

pub same_roots : (fields : ℕ → Option Kind) (r q : Option ℕ) → same_buffer r q ≡ same_root fields r q
same_roots fields None q = refl
same_roots fields (Some x) None = refl
same_roots fields (Some x) (Some y) = refl

none_of : {A B : Type 0} (f : A → B) (o : Option A) → option_map f o ≡ None → o ≡ None
none_of f None e = refl
none_of f (Some a) e = absurd (some_none e)
  where
    some_none : {X : Type 0} {x : X} → Some x ≡ None → ⊥
    some_none e = cc

module _ (unit : Program) (k : ℕ) (scope : Scope) (root : ℕ → ℕ) (args : List Argument) where
  abbrev there : Option Callee
  there = slice_get (callees (kinds_of unit.fields) [] unit.procedures) k

  pub call_none : slice_get unit.procedures k ≡ None → rule false ≡ findings_of_call (field_kind unit.fields) scope root ((program_world unit).callees k) args
  call_none none =
      let gone : there ≡ None = none_of (λ (c : Callee). c.procedure) there (callee_at (kinds_of unit.fields) unit.procedures k ∙ none) in
      ap (λ o. findings_of_call (field_kind unit.fields) scope root o args) (sym gone)

  pub call_some : (ms : List Modes) (p : Procedure) → ms ≡ modes_of unit → slice_get unit.procedures k ≡ Some p
      → both (findings_of_arguments (field_kind unit.fields) scope p.params args) (rule (share_nothing_written (field_kind unit.fields) (writing (modes_at ms k)) root p.params args))
      ≡ findings_of_call (field_kind unit.fields) scope root ((program_world unit).callees k) args
  call_some ms p table is = by there refl (callee_at (kinds_of unit.fields) unit.procedures k ∙ is)
    where
      w : ℕ → Bool
      w = writing (modes_at ms k)

      none_some : {X : Type 0} {x : X} → None ≡ Some x → ⊥
      none_some e = cc

      some_is : {X : Type 0} {x y : X} → Some x ≡ Some y → x ≡ y
      some_is e = cc

      by : (o : Option Callee) → there ≡ o → option_map (λ (c : Callee). c.procedure) o ≡ Some p
          → both (findings_of_arguments (field_kind unit.fields) scope p.params args) (rule (share_nothing_written (field_kind unit.fields) w root p.params args))
          ≡ findings_of_call (field_kind unit.fields) scope root there args
      by None e h = absurd (none_some h)
      by (Some c) e h =
          let own : c.procedure ≡ p = some_is h in
          let said = (callee_says (kinds_of unit.fields) unit.procedures k c e).is in
          let by_table : w ≡ writing (modes_at (modes_of unit) k) = ap (λ l. writing (modes_at l k)) table in
          let same : w ≡ c.writes = by_table ∙ (λ i y. sym (said y) i) in
          (λ i. both (findings_of_arguments (field_kind unit.fields) scope (sym own i).params args) (rule (share_nothing_written (field_kind unit.fields) (same i) root (sym own i).params args)))
          ∙ ap (λ o. findings_of_call (field_kind unit.fields) scope root o args) (sym e)
