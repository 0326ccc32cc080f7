-- A condition that keeps the rules mentions no name that is not in scope.
use Rattle.std.proofs.Common.{◌≡◌, ℕ, ◌==◌, Bool, true, false, ◌&&◌, ◌||◌, true≢false, Option}
use Rattle.std.proofs.Common.{None, refl, sym, ap, ap₂, ◌∙◌, eqb-true}
use Rattle.exo_tree.specs.Tree.{Kind, Control, Lit, Var, Field, StrideOf, Neg, Add, Sub, Mul, Div, Mod}
use Rattle.exo_tree.specs.Tree.{Condition, True, False, Flag, FieldFlag, Lt, Le, Gt, Ge, Eq, And, Or}
use Rattle.exo_meaning.specs.Units.{Reads, Sort, Scope, sort_in, is_number, is_flag, has_dimension}
use Rattle.exo_meaning.specs.Units.{is_of_literals, is_control, is_condition}
use Rattle.exo_meaning.specs.Unseen.{in_control, in_condition}
use Rattle.meaning_laws.proofs.Substitute.{and_parts}

module _ (fields : ℕ → Option Kind) (may : Reads) (scope : Scope) (x : ℕ)
    (gone : sort_in scope x ≡ None) where
  other_name : (y : ℕ) (test : Option Sort → Bool) → test None ≡ false
      → test (sort_in scope y) ≡ true → (y == x) ≡ false
  other_name y test none h = by (y == x) refl
    where
      by : (t : Bool) → (y == x) ≡ t → t ≡ false
      by true e =
          absurd (true≢false
          (sym h ∙ ap (λ z. test (sort_in scope z)) (eqb-true y x e) ∙ ap test gone ∙ none))
      by false e = refl

  abbrev is_it : ℕ → Bool
  is_it y = y == x

  control_lacks : (e : Control) → is_control fields may scope e ≡ true → in_control is_it e ≡ false
  control_lacks (Lit n) h = refl
  control_lacks (Var y) h = other_name y is_number refl h
  control_lacks (Field f) h = refl
  control_lacks (StrideOf y k) h =
      other_name y (has_dimension k) refl (and_parts may.strides _ h).1
  control_lacks (Neg a) h = control_lacks a h
  control_lacks (Add a b) h =
      let p = and_parts (is_control fields may scope a) (is_control fields may scope b) h in
      ap₂ ◌||◌ (control_lacks a p.0) (control_lacks b p.1)
  control_lacks (Sub a b) h =
      let p = and_parts (is_control fields may scope a) (is_control fields may scope b) h in
      ap₂ ◌||◌ (control_lacks a p.0) (control_lacks b p.1)
  control_lacks (Mul a b) h =
      let q = and_parts (is_control fields may scope a && is_control fields may scope b)
      (is_of_literals a || is_of_literals b) h in
      let p = and_parts (is_control fields may scope a) (is_control fields may scope b) q.0 in
      ap₂ ◌||◌ (control_lacks a p.0) (control_lacks b p.1)
  control_lacks (Div a c) h = control_lacks a (and_parts (is_control fields may scope a) _ h).0
  control_lacks (Mod a c) h = control_lacks a (and_parts (is_control fields may scope a) _ h).0

  two_lack : (a b : Control)
      → (is_control fields may scope a && is_control fields may scope b) ≡ true
      → (in_control is_it a || in_control is_it b) ≡ false
  two_lack a b h =
      let p = and_parts (is_control fields may scope a) (is_control fields may scope b) h in
      ap₂ ◌||◌ (control_lacks a p.0) (control_lacks b p.1)

  pub condition_lacks : (c : Condition) → is_condition fields may scope c ≡ true
      → in_condition is_it c ≡ false
  condition_lacks True h = refl
  condition_lacks False h = refl
  condition_lacks (Flag y) h = other_name y is_flag refl h
  condition_lacks (FieldFlag f) h = refl
  condition_lacks (Lt a b) h = two_lack a b h
  condition_lacks (Le a b) h = two_lack a b h
  condition_lacks (Gt a b) h = two_lack a b h
  condition_lacks (Ge a b) h = two_lack a b h
  condition_lacks (Eq a b) h = two_lack a b h
  condition_lacks (And c d) h =
      let p = and_parts (is_condition fields may scope c) (is_condition fields may scope d) h in
      ap₂ ◌||◌ (condition_lacks c p.0) (condition_lacks d p.1)
  condition_lacks (Or c d) h =
      let p = and_parts (is_condition fields may scope c) (is_condition fields may scope d) h in
      ap₂ ◌||◌ (condition_lacks c p.0) (condition_lacks d p.1)
