-- Forms over variables alone have the numbers of a scene.
use Rattle.std.proofs.Common.{◌≡◌, ◌≤ℤ◌, ℕ, pos, ◌-ℤ◌, int_le, int_lt, true, false, true≢false, ◌&&◌, ◌||◌, Option, Some, None, refl, sym, ap, ◌∙◌, arith}
use Rattle.std.specs.Prelude.{is_some}
use Rattle.std.proofs.lemmas.Int.{ints}
use Rattle.std.specs.Int.{is_positive}
use Rattle.exo_tree.specs.Tree.{Kind, Control, Lit, Var, Field, StrideOf, Neg, Add, Sub, Mul, Div, Mod, Condition, True, False, Flag, FieldFlag, Lt, Le, Gt, Ge, Eq, And, Or}
use Rattle.exo_meaning.specs.Scene.{Scene, number, holds, is_set}
use Rattle.exo_meaning.specs.Units.{Sort, Scope, with_fields, plainly, sort_in, is_number, is_flag, is_of_literals, is_literal_number, is_control, is_condition}
use Rattle.meaning_laws.specs.Substitute.{is_plain}
use Rattle.meaning_laws.specs.Facts.{is_plain_condition}
use Rattle.affine_forms.specs.Atoms.{Valuation, Variable, only, value}
use Rattle.affine_forms.specs.Forms.{is_affine}
use Rattle.affine_forms.specs.Formulas.{AllowedFlags, is_affine_condition, own_flag, moved, is_met}
use Rattle.affine_forms.proofs.FormulaValues.{flag_is}
use Rattle.affine_forms.specs.Laws.{NormalLaw, FormulaLaw}
use Rattle.affine_places.specs.Readings.{extent_reading}
use Rattle.check_laws.proofs.OfFacts.Truths.{parts, joined}
use Rattle.check_laws.proofs.OfFacts.Affine.{Allows, affine}
use Rattle.exo_effects.specs.Accesses.{own_flags, plain_form, plain_formula}
use Rattle.effect_laws.specs.Covers.{names_in}

pub number_named : (o : Option Sort) → is_number o ≡ true → is_some o ≡ true
number_named None h = absurd (true≢false (sym h))
number_named (Some s) h = refl

pub flag_named : (o : Option Sort) → is_flag o ≡ true → is_some o ≡ true
flag_named None h = absurd (true≢false (sym h))
flag_named (Some s) h = refl

-- what a bound, an index or a coordinate may read
pub plainly_allows : (fields : ℕ → Option Kind) (scope : Scope) → Allows fields plainly scope (names_in scope)
plainly_allows fields scope = record {
  variables = λ x h. number_named (sort_in scope x) h;
  of_fields = λ f h. h;
  strides = λ x k h. h;
}

pub bound_is_affine : (fields : ℕ → Option Kind) (scope : Scope) (e : Control) → is_control fields plainly scope e ≡ true → is_affine (names_in scope) e ≡ true
bound_is_affine fields scope = affine fields plainly scope (names_in scope) (plainly_allows fields scope)

-- ---- conditions without fields

abbrev pub flags_in : Scope → AllowedFlags
flags_in scope = record { numbers = names_in scope; variable = λ x. is_flag (sort_in scope x); field = λ f. false }

module _ (fields : ℕ → Option Kind) (scope : Scope) where
  side_is_affine : (e : Control) → is_control fields with_fields scope e ≡ true → is_plain e ≡ true → is_affine (names_in scope) e ≡ true
  side_is_affine (Lit n) h k = refl
  side_is_affine (Var x) h k = number_named (sort_in scope x) h
  side_is_affine (Field f) h k = absurd (true≢false (sym k))
  side_is_affine (StrideOf x j) h k = absurd (true≢false (sym k))
  side_is_affine (Neg a) h k = side_is_affine a h k
  side_is_affine (Add a b) h k =
      let p = parts (is_control fields with_fields scope a) (is_control fields with_fields scope b) h in
      let q = parts (is_plain a) (is_plain b) k in
      joined (is_affine (names_in scope) a) (is_affine (names_in scope) b) (side_is_affine a p.0 q.0) (side_is_affine b p.1 q.1)
  side_is_affine (Sub a b) h k =
      let p = parts (is_control fields with_fields scope a) (is_control fields with_fields scope b) h in
      let q = parts (is_plain a) (is_plain b) k in
      joined (is_affine (names_in scope) a) (is_affine (names_in scope) b) (side_is_affine a p.0 q.0) (side_is_affine b p.1 q.1)
  side_is_affine (Mul a b) h k =
      let o = parts (is_control fields with_fields scope a && is_control fields with_fields scope b) (is_of_literals a || is_of_literals b) h in
      let p = parts (is_control fields with_fields scope a) (is_control fields with_fields scope b) o.0 in
      let q = parts (is_plain a) (is_plain b) k in
      joined (is_of_literals a || is_of_literals b) (is_affine (names_in scope) a && is_affine (names_in scope) b) o.1
      (joined (is_affine (names_in scope) a) (is_affine (names_in scope) b) (side_is_affine a p.0 q.0) (side_is_affine b p.1 q.1))
  side_is_affine (Div a c) h k =
      let p = parts (is_control fields with_fields scope a) (is_literal_number c && int_lt (pos 0) c) h in
      joined (is_positive c) (is_affine (names_in scope) a) (parts (is_literal_number c) (int_lt (pos 0) c) p.1).1 (side_is_affine a p.0 k)
  side_is_affine (Mod a c) h k =
      let p = parts (is_control fields with_fields scope a) (is_literal_number c && int_lt (pos 0) c) h in
      joined (is_positive c) (is_affine (names_in scope) a) (parts (is_literal_number c) (int_lt (pos 0) c) p.1).1 (side_is_affine a p.0 k)

  sides_are_affine : (a b : Control) → (is_control fields with_fields scope a && is_control fields with_fields scope b) ≡ true → (is_plain a && is_plain b) ≡ true → (is_affine (names_in scope) a && is_affine (names_in scope) b) ≡ true
  sides_are_affine a b h k =
      let p = parts (is_control fields with_fields scope a) (is_control fields with_fields scope b) h in
      let q = parts (is_plain a) (is_plain b) k in
      joined (is_affine (names_in scope) a) (is_affine (names_in scope) b) (side_is_affine a p.0 q.0) (side_is_affine b p.1 q.1)

  pub condition_is_affine : (c : Condition) → is_condition fields with_fields scope c ≡ true → is_plain_condition c ≡ true → is_affine_condition (flags_in scope) c ≡ true
  condition_is_affine True h k = refl
  condition_is_affine False h k = refl
  condition_is_affine (Flag x) h k = h
  condition_is_affine (FieldFlag f) h k = absurd (true≢false (sym k))
  condition_is_affine (Lt a b) h k = sides_are_affine a b h k
  condition_is_affine (Le a b) h k = sides_are_affine a b h k
  condition_is_affine (Gt a b) h k = sides_are_affine a b h k
  condition_is_affine (Ge a b) h k = sides_are_affine a b h k
  condition_is_affine (Eq a b) h k = sides_are_affine a b h k
  condition_is_affine (And c d) h k =
      let p = parts (is_condition fields with_fields scope c) (is_condition fields with_fields scope d) h in
      let q = parts (is_plain_condition c) (is_plain_condition d) k in
      joined (is_affine_condition (flags_in scope) c) (is_affine_condition (flags_in scope) d) (condition_is_affine c p.0 q.0) (condition_is_affine d p.1 q.1)
  condition_is_affine (Or c d) h k =
      let p = parts (is_condition fields with_fields scope c) (is_condition fields with_fields scope d) h in
      let q = parts (is_plain_condition c) (is_plain_condition d) k in
      joined (is_affine_condition (flags_in scope) c) (is_affine_condition (flags_in scope) d) (condition_is_affine c p.0 q.0) (condition_is_affine d p.1 q.1)

-- ---- values

only_value : (v : Valuation) (x : ℕ) → value v (only (Variable x)) ≡ v.variable x
only_value v x = omega (arith, ints)

-- with the numbers of a scene for the variables, whatever stands for other atoms
module _ (normal : NormalLaw) (scope : Scope) (v : Valuation) (scene : Scene) (same : (x : ℕ) → v.variable x ≡ scene.control x) where
  pub value_is : (e : Control) → is_affine (names_in scope) e ≡ true → value v (plain_form e) ≡ number scene e
  value_is e h = normal (names_in scope) v extent_reading scene e (record {
    variables = λ x k. only_value v x ∙ same x;
    fields = λ f k. absurd (true≢false (sym k));
    strides = λ x j k. absurd (true≢false (sym k));
  }) h

module _ (formulas : FormulaLaw) (scope : Scope) (v : Valuation) (scene : Scene) (same : (x : ℕ) → v.variable x ≡ scene.control x) (flags : (x : ℕ) → is_flag (sort_in scope x) ≡ true → pos 0 ≤ℤ scene.control x) where
  pub met_is : (c : Condition) → is_affine_condition (flags_in scope) c ≡ true → is_met v (plain_formula c) ≡ holds scene c
  met_is c h = formulas (flags_in scope) v extent_reading own_flags scene c (record {
    numbers = record {
      variables = λ x k. only_value v x ∙ same x;
      fields = λ f k. absurd (true≢false (sym k));
      strides = λ x j k. absurd (true≢false (sym k));
    };
    variables = λ x k. own x (flags x k);
    fields = λ f k. absurd (true≢false (sym k));
  }) h
    where
      less_one : (x : ℕ) → value v (moved (pos 1) (only (Variable x))) ≡ scene.control x -ℤ pos 1
      less_one x = let e = same x in omega (arith, ints, e)

      own : (x : ℕ) → pos 0 ≤ℤ scene.control x → is_met v (own_flag x) ≡ is_set (scene.control x)
      own x k = ap (int_le (pos 0)) (less_one x) ∙ flag_is (scene.control x) k
