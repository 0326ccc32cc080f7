-- Written values that agree have the same number in every scene in which names have the strides of their roots.
use Rattle.std.proofs.Common.{◌≡◌, ℕ, ℤ, pos, ◌+ℤ◌, int_lt, int_le, true, true≢false, ◌&&◌, ◌||◌, List, [], Option, Some, None, refl, sym, ap, ap₂, ◌∙◌, eqb-true}
use Rattle.std.specs.Prelude.{IsSome}
use Rattle.std.specs.Ordering.{int_eq}
use Rattle.exo_tree.specs.Tree.{Control, Condition, True, False, Flag, FieldFlag, Lt, Le, Gt, Ge, Eq, And, Or, ControlArg, ConditionArg, Whole, Window, Procedure, Program}
use Rattle.exo_meaning.specs.Scene.{Scene, number, holds, is_set}
use Rattle.exo_meaning.specs.Calls.{truth}
use Rattle.exo_meaning.specs.Units as units
use Rattle.exo_meaning.specs.Units.{Scope, field_kind}
use Rattle.meaning_laws.specs.PlaceFacts.{HasStrides, AgreeWell}
use Rattle.affine_forms.specs.Atoms.{Valuation, Linear, value, same_terms, same_form}
use Rattle.affine_forms.specs.Forms.{Reading, is_affine, normal}
use Rattle.affine_forms.specs.Formulas.{AllowedFlags, is_affine_condition}
use Rattle.affine_forms.proofs.Values.{int_eq_same, same_terms_value}
use Rattle.affine_places.specs.Roots.{Rooted, roots_of, has_extents}
use Rattle.affine_places.specs.Readings.{entry_reading}
use Rattle.affine_places.specs.Laws.{but_flag_fields, stride_in, NormalAtPlace}
use Rattle.affine_places.specs.Agreement.{agree, agreement_fits, sides_agree, conditions_agree, conditions_fit}
use Rattle.check_facts.specs.Contexts.{values_agree}
use Rattle.check_laws.proofs.OfFacts.Truths.{parts}
use Rattle.check_laws.proofs.OfFacts.Affine.{same_number}
use Rattle.check_laws.proofs.OfFacts.Founded.{AllFounded}
use Rattle.check_laws.proofs.OfFacts.Model.{model, model_is_made, model_sees, model_strides, strides}
use Rattle.check_laws.proofs.OfFacts.Told.{is_rooted, allowed, may}

pub rooted_some : (o : Option Rooted) → is_rooted o ≡ true → IsSome o
rooted_some None h = absurd (true≢false (sym h))
rooted_some (Some r) h = refl

same_form_value : (v : Valuation) (k l : Linear) → same_form k l ≡ true → value v k ≡ value v l
same_form_value v k l h =
    let p = parts (int_eq k.constant l.constant) (same_terms k.terms l.terms) h in
    ap₂ ◌+ℤ◌ (int_eq_same k.constant l.constant p.0) (sym (same_terms_value v k.terms l.terms p.1))

module _ (normal_law : NormalAtPlace) (u : Program) (p : Procedure) (params : Scope) (extents : has_extents p ≡ true) (founded : (x : ℕ) → AllFounded (roots_of p) x) (first : Scene) where
  abbrev in_all : AllowedFlags
  in_all = but_flag_fields (allowed u.fields (roots_of p) params)

  abbrev steps : (ℕ → ℤ) → ℕ → List ℤ
  steps = strides (roots_of p) founded first

  abbrev at : Reading
  at = entry_reading u.fields (roots_of p)

  module _ (scene : Scene) (have : HasStrides steps scene) where
    abbrev there : Scene
    there = model (roots_of p) founded first scene.control scene.fields

    abbrev atoms : Valuation
    atoms = record { variable = scene.control; entry = λ f kind. pos 0; unknown = λ f kind path. pos 0; stride = stride_in there }

    number_there : (e : Control) → is_affine in_all.numbers e ≡ true → number scene e ≡ value atoms (normal at e)
    number_there e h =
        same_number in_all.numbers scene there (record { control = λ x k. refl; fields = λ f k. refl; strides = λ x j k. have x j ∙ sym (model_strides (roots_of p) founded first scene.control scene.fields x j) }) e h
        ∙ sym (normal_law u.fields p [] in_all.numbers atoms there e extents (record {
          variables = λ x. refl;
          buffers = λ b d. refl;
          made = model_is_made (roots_of p) founded first scene.control scene.fields;
          strides = λ x j k. model_sees (roots_of p) founded first scene.control scene.fields x (rooted_some (roots_of p x) k);
          told = λ f k. absurd (true≢false (sym k));
        }) h)

    numbers_same : (a b : Control) → agree at a b ≡ true → is_affine in_all.numbers a ≡ true → is_affine in_all.numbers b ≡ true → number scene a ≡ number scene b
    numbers_same a b h k l = number_there a k ∙ same_form_value atoms (normal at a) (normal at b) h ∙ sym (number_there b l)

    sides_same : {A : Type 0} (op : ℤ → ℤ → A) (a b x y : Control) → sides_agree at a b x y ≡ true → (is_affine in_all.numbers a && is_affine in_all.numbers b) ≡ true → (is_affine in_all.numbers x && is_affine in_all.numbers y) ≡ true → op (number scene a) (number scene b) ≡ op (number scene x) (number scene y)
    sides_same op a b x y h k l =
        let s = parts (agree at a x) (agree at b y) h in
        let m = parts (is_affine in_all.numbers a) (is_affine in_all.numbers b) k in
        let n = parts (is_affine in_all.numbers x) (is_affine in_all.numbers y) l in
        ap₂ op (numbers_same a x s.0 m.0 n.0) (numbers_same b y s.1 m.1 n.1)

    conditions_same : (c d : Condition) → conditions_agree at c d ≡ true → is_affine_condition in_all c ≡ true → is_affine_condition in_all d ≡ true → holds scene c ≡ holds scene d
    conditions_same True True h k l = refl
    conditions_same False False h k l = refl
    conditions_same (Flag x) (Flag y) h k l = ap (λ z. is_set (scene.control z)) (eqb-true x y h)
    conditions_same (FieldFlag f) (FieldFlag g) h k l = ap (λ z. is_set (scene.fields z)) (eqb-true f g h)
    conditions_same (Lt a b) (Lt x y) h k l = sides_same int_lt a b x y h k l
    conditions_same (Le a b) (Le x y) h k l = sides_same int_le a b x y h k l
    conditions_same (Gt a b) (Gt x y) h k l = sides_same (λ m n. int_lt n m) a b x y h k l
    conditions_same (Ge a b) (Ge x y) h k l = sides_same (λ m n. int_le n m) a b x y h k l
    conditions_same (Eq a b) (Eq x y) h k l = sides_same int_eq a b x y h k l
    conditions_same (And a b) (And x y) h k l =
        let s = parts (conditions_agree at a x) (conditions_agree at b y) h in
        let m = parts (is_affine_condition in_all a) (is_affine_condition in_all b) k in
        let n = parts (is_affine_condition in_all x) (is_affine_condition in_all y) l in
        ap₂ ◌&&◌ (conditions_same a x s.0 m.0 n.0) (conditions_same b y s.1 m.1 n.1)
    conditions_same (Or a b) (Or x y) h k l =
        let s = parts (conditions_agree at a x) (conditions_agree at b y) h in
        let m = parts (is_affine_condition in_all a) (is_affine_condition in_all b) k in
        let n = parts (is_affine_condition in_all x) (is_affine_condition in_all y) l in
        ap₂ ◌||◌ (conditions_same a x s.0 m.0 n.0) (conditions_same b y s.1 m.1 n.1)
    conditions_same _ _ h k l = absurd (true≢false (sym h))

  pub agree_well : AgreeWell steps (may u.fields (roots_of p) params) (values_agree at)
  agree_well f (ControlArg a) (ControlArg b) one two h scene have =
      let number_field = units.is_number_field (field_kind u.fields) (field_kind u.fields f) in
      numbers_same scene have a b (parts (agreement_fits at a b) (agree at a b) h).1 (parts number_field (is_affine in_all.numbers a) one).1 (parts number_field (is_affine in_all.numbers b) two).1
  agree_well f (ConditionArg c) (ConditionArg d) one two h scene have =
      let flag_field = units.is_flag_field (field_kind u.fields) (field_kind u.fields f) in
      ap truth (conditions_same scene have c d (parts (conditions_fit at c d) (conditions_agree at c d) h).1 (parts flag_field (is_affine_condition in_all c) one).1 (parts flag_field (is_affine_condition in_all d) two).1)
  agree_well f (ControlArg a) (ConditionArg d) one two h scene have = absurd (true≢false (sym h))
  agree_well f (ControlArg a) (Whole y) one two h scene have = absurd (true≢false (sym h))
  agree_well f (ControlArg a) (Window y ds) one two h scene have = absurd (true≢false (sym h))
  agree_well f (ConditionArg c) (ControlArg b) one two h scene have = absurd (true≢false (sym h))
  agree_well f (ConditionArg c) (Whole y) one two h scene have = absurd (true≢false (sym h))
  agree_well f (ConditionArg c) (Window y ds) one two h scene have = absurd (true≢false (sym h))
  agree_well f (Whole x) b one two h scene have = absurd (true≢false (sym h))
  agree_well f (Window x cs) b one two h scene have = absurd (true≢false (sym h))
