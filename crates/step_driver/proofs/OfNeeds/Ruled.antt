-- A condition in which no rule is broken is affine.
use Rattle.std.proofs.Common.{◌≡◌, ℕ, pos, Bool, true, ◌&&◌, ◌||◌, List, [], ◌∷◌, Option, refl, ap₂}
use Rattle.std.proofs.lemmas.Bool.{and_parts}
use Rattle.std.specs.List.{list_all}
use Rattle.std.specs.Prelude.{int_lt}
use Rattle.std.specs.Int.{is_positive}
use Rattle.exo_tree.specs.Tree.{Kind, Control, Lit, Var, Field, StrideOf, Neg, Add, Sub, Mul, Div, Mod}
use Rattle.exo_tree.specs.Tree.{Condition, True, False, Flag, FieldFlag, Lt, Le, Gt, Ge, Eq, And, Or}
use Rattle.exo_tree.specs.Places.{opened}
use Rattle.exo_meaning.specs.Units.{Scope, Reads, with_both, field_kind, is_of_literals}
use Rattle.meaning_laws.specs.Sorted.{scope_there}
use Rattle.affine_forms.specs.Forms.{keeps_rules}
use Rattle.affine_forms.specs.Formulas.{condition_keeps_rules}
use Rattle.tree_findings.specs.Findings.{found_in_control, found_in_condition}
use Rattle.step_rules.specs.Rule.{Target, Need, Says, Apart}
use Rattle.step_rules.specs.Owing.{condition_of, findings_of_need, findings_of_needs}
use Rattle.step_driver.specs.Needs.Owing.{is_affine}

both_true : (a b : Bool) → a ≡ true → b ≡ true → (a && b) ≡ true
both_true a b h k = ap₂ ◌&&◌ h k

module _ (fields : ℕ → Option Kind) (may : Reads) (scope : Scope) where
  abbrev IsRuled : Control → Type 0
  IsRuled e = (found_in_control fields may scope e).rules ≡ true

  abbrev rules_of : Control → Bool
  rules_of e = (found_in_control fields may scope e).rules

  affine : (e : Control) → IsRuled e → keeps_rules e ≡ true
  affine (Lit n) h = refl
  affine (Var x) h = refl
  affine (Field f) h = refl
  affine (StrideOf x k) h = refl
  affine (Neg a) h = affine a h
  affine (Add a b) h =
      let p = and_parts (rules_of a) (rules_of b) h in
      both_true (keeps_rules a) (keeps_rules b) (affine a p.0) (affine b p.1)
  affine (Sub a b) h =
      let p = and_parts (rules_of a) (rules_of b) h in
      both_true (keeps_rules a) (keeps_rules b) (affine a p.0) (affine b p.1)
  affine (Mul a b) h =
      let p = and_parts (rules_of a && rules_of b) (is_of_literals a || is_of_literals b) h in
      let q = and_parts (rules_of a) (rules_of b) p.0 in
      both_true (is_of_literals a || is_of_literals b) (keeps_rules a && keeps_rules b) p.1
      (both_true (keeps_rules a) (keeps_rules b) (affine a q.0) (affine b q.1))
  affine (Div a c) h =
      let p = and_parts (rules_of a) (true && int_lt (pos 0) c) h in
      both_true (is_positive c) (keeps_rules a) p.1 (affine a p.0)
  affine (Mod a c) h =
      let p = and_parts (rules_of a) (true && int_lt (pos 0) c) h in
      both_true (is_positive c) (keeps_rules a) p.1 (affine a p.0)

  sides : (a b : Control) → (rules_of a && rules_of b) ≡ true → (keeps_rules a && keeps_rules b) ≡ true
  sides a b h =
      let p = and_parts (rules_of a) (rules_of b) h in
      both_true (keeps_rules a) (keeps_rules b) (affine a p.0) (affine b p.1)

  abbrev rules_in : Condition → Bool
  rules_in c = (found_in_condition fields may scope c).rules

  pub condition_affine : (c : Condition) → rules_in c ≡ true → condition_keeps_rules c ≡ true
  condition_affine True h = refl
  condition_affine False h = refl
  condition_affine (Flag x) h = refl
  condition_affine (FieldFlag f) h = refl
  condition_affine (Lt a b) h = sides a b h
  condition_affine (Le a b) h = sides a b h
  condition_affine (Gt a b) h = sides a b h
  condition_affine (Ge a b) h = sides a b h
  condition_affine (Eq a b) h = sides a b h
  condition_affine (And c d) h =
      let p = and_parts (rules_in c) (rules_in d) h in
      both_true (condition_keeps_rules c) (condition_keeps_rules d) (condition_affine c p.0) (condition_affine d p.1)
  condition_affine (Or c d) h =
      let p = and_parts (rules_in c) (rules_in d) h in
      both_true (condition_keeps_rules c) (condition_keeps_rules d) (condition_affine c p.0) (condition_affine d p.1)

module _ (t : Target) where
  need_affine : (n : Need) → (findings_of_need t n).rules ≡ true → is_affine n ≡ true
  need_affine (Says path fact) h =
      let fields = field_kind t.unit.fields in
      let scope = scope_there t.proc (opened 1 path t.proc.body) in
      condition_affine fields with_both scope (condition_of fact)
      (and_parts (found_in_condition fields with_both scope (condition_of fact)).rules true h).0
  need_affine (Apart path k) h = h

  pub needs_affine : (ns : List Need) → (findings_of_needs t ns).rules ≡ true
      → list_all is_affine ns ≡ true
  needs_affine [] h = refl
  needs_affine (n ∷ ns) h =
      let p = and_parts (findings_of_need t n).rules (findings_of_needs t ns).rules h in
      both_true (is_affine n) (list_all is_affine ns) (need_affine n p.0) (needs_affine ns p.1)
