-- Conditions that break no rule and use what is in scope are affine there, whatever their limits.
use Rattle.std.proofs.Common.{◌≡◌, ◌&&◌, ◌||◌, true, ℤ, pos, Option, Some, None, refl, sym}
use Rattle.std.proofs.Common.{true≢false}
use Rattle.std.specs.Prelude.{int_lt, List}
use Rattle.std.specs.Int.{is_positive}
use Rattle.exo_tree.specs.Tree.{Control, Lit, Var, Field, StrideOf, Neg, Add, Sub, Mul, Div, Mod}
use Rattle.exo_tree.specs.Tree.{Condition, True, False, Flag, FieldFlag, Lt, Le, Gt, Ge, Eq, And, Or}
use Rattle.exo_tree.specs.Tree.{ConfigField}
use Rattle.exo_meaning.specs.Units.{Sort, Scope, sort_in, has_dimension, is_flag, is_of_literals}
use Rattle.exo_meaning.specs.Units.{is_literal_number, field_kind}
use Rattle.exo_meaning.specs.Units.{with_both}
use Rattle.meaning_laws.proofs.Substitute.{and_parts}
use Rattle.affine_forms.specs.Forms.{is_affine}
use Rattle.affine_forms.specs.Formulas.{is_affine_condition}
use Rattle.effect_laws.specs.Words.{allowed_in}
use Rattle.tree_findings.specs.declared.findings.Findings.{Findings}
use Rattle.tree_findings.specs.Classes.{both, rule, limit, use_of}
use Rattle.tree_findings.specs.Sizes.{is_small_condition}
use Rattle.tree_findings.specs.Findings.{found_in_divisor, found_in_control, found_in_condition}
use Rattle.tree_findings.specs.Findings.{findings_of_condition}
use Rattle.step_rules.proofs.Found.{and_true}
use Rattle.step_rules.proofs.Formed.{HasShape, shape_parts}

keeps_rules : (f : Findings) → HasShape f → f.rules ≡ true
keeps_rules f h = (and_parts f.rules f.scope (and_parts (f.rules && f.scope) (true && true) h).0).0

keeps_scope : (f : Findings) → HasShape f → f.scope ≡ true
keeps_scope f h = (and_parts f.rules f.scope (and_parts (f.rules && f.scope) (true && true) h).0).1

suits_use : (suits : Option Sort → _) (o : Option Sort) → HasShape (use_of suits o) → suits o ≡ true
suits_use suits None h = absurd (true≢false (sym (keeps_scope (use_of suits None) h)))
suits_use suits (Some sort) h = keeps_rules (use_of suits (Some sort)) h

positive : (c : ℤ) → HasShape (found_in_divisor c) → is_positive c ≡ true
positive c h =
    let above = rule (int_lt (pos 0) c) in
    keeps_rules above (shape_parts (limit (is_literal_number c)) above h).1

module _ (fields : List ConfigField) (scope : Scope) where
  abbrev found : Control → Findings
  found = found_in_control (field_kind fields) with_both scope

  abbrev IsFine : Control → Type 0
  IsFine e = is_affine (allowed_in fields scope).numbers e ≡ true

  affine : (e : Control) → HasShape (found e) → IsFine e
  affine (Lit n) h = refl
  affine (Var x) h = refl
  affine (Field f) h = keeps_rules (found (Field f)) h
  affine (StrideOf x k) h =
      suits_use (has_dimension k) (sort_in scope x)
      (shape_parts (rule true) (use_of (has_dimension k) (sort_in scope x)) h).1
  affine (Neg a) h = affine a h
  affine (Add a b) h =
      let p = shape_parts (found a) (found b) h in
      and_true (affine a p.0) (affine b p.1)
  affine (Sub a b) h =
      let p = shape_parts (found a) (found b) h in
      and_true (affine a p.0) (affine b p.1)
  affine (Mul a b) h =
      let literal = rule (is_of_literals a || is_of_literals b) in
      let p = shape_parts (both (found a) (found b)) literal h in
      let q = shape_parts (found a) (found b) p.0 in
      and_true (keeps_rules literal p.1) (and_true (affine a q.0) (affine b q.1))
  affine (Div a c) h =
      let p = shape_parts (found a) (found_in_divisor c) h in
      and_true (positive c p.1) (affine a p.0)
  affine (Mod a c) h =
      let p = shape_parts (found a) (found_in_divisor c) h in
      and_true (positive c p.1) (affine a p.0)

  two : (a b : Control) → HasShape (both (found a) (found b))
      → (is_affine (allowed_in fields scope).numbers a
      && is_affine (allowed_in fields scope).numbers b)
      ≡ true
  two a b h =
      let p = shape_parts (found a) (found b) h in
      and_true (affine a p.0) (affine b p.1)

  abbrev found_of : Condition → Findings
  found_of = found_in_condition (field_kind fields) with_both scope

  inside : (c : Condition) → HasShape (found_of c)
      → is_affine_condition (allowed_in fields scope) c ≡ true
  inside True h = refl
  inside False h = refl
  inside (Flag x) h = suits_use is_flag (sort_in scope x) h
  inside (FieldFlag f) h = keeps_rules (found_of (FieldFlag f)) h
  inside (Lt a b) h = two a b h
  inside (Le a b) h = two a b h
  inside (Gt a b) h = two a b h
  inside (Ge a b) h = two a b h
  inside (Eq a b) h = two a b h
  inside (And c d) h =
      let p = shape_parts (found_of c) (found_of d) h in
      and_true (inside c p.0) (inside d p.1)
  inside (Or c d) h =
      let p = shape_parts (found_of c) (found_of d) h in
      and_true (inside c p.0) (inside d p.1)

  pub shape_is_affine : (c : Condition)
      → HasShape (findings_of_condition (field_kind fields) with_both scope c)
      → is_affine_condition (allowed_in fields scope) c ≡ true
  shape_is_affine c h =
      inside c (shape_parts (found_of c) (limit (is_small_condition c)) h).0
