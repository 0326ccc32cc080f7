-- Normal forms and formulas at a place have their values.
use Rattle.std.proofs.Common.{◌≡◌, ◌≤ℤ◌, ℕ, ℤ, pos, ◌+ℤ◌, ◌-ℤ◌, ◌*ℤ◌, int_le, true, List, Option, Some, None, arith, sym, ap, ◌∙◌, true≢false}
use Rattle.std.proofs.lemmas.Int.{ints}
use Rattle.exo_tree.specs.Tree.{ControlArg, ConditionArg, Whole, Window, ConfigField, Procedure}
use Rattle.exo_meaning.specs.Scene.{Scene, is_set}
use Rattle.affine_forms.specs.Atoms.{Atom, Variable, EntryField, UnknownField, Valuation, atom_value, value}
use Rattle.affine_forms.specs.Forms.{Allowed}
use Rattle.affine_forms.specs.Formulas.{AllowedFlags, is_met}
use Rattle.affine_forms.specs.Laws.{ReadsAt, ReadsFlagsAt}
use Rattle.affine_forms.proofs.NormalForm.{form_value, normal_law}
use Rattle.affine_forms.proofs.FormulaValues.{flag_is, formula_law}
use Rattle.affine_places.specs.Roots.{roots_of, has_extents}
use Rattle.affine_places.specs.Facts.{Fact, Known, UnknownAt, FieldFact, fact_of, kind_of}
use Rattle.affine_places.specs.Readings.{entry_reading, entry_flags, flag_atom, field_form, field_formula, place_reading, place_flags}
use Rattle.affine_places.specs.Laws.{but_fields, IsTold, IsPlace, NormalAtPlace, but_flag_fields, IsFlagTold, IsPlaceOfFlags, FormulaAtPlace}
use Rattle.affine_places.proofs.PlainRoots.{roots_have_extents}
use Rattle.affine_places.proofs.StrideValues.{only_value, stride_value}

set_value : (v : Valuation) (a : Atom) (z : ℤ) → atom_value v a ≡ z → pos 0 ≤ℤ z → is_met v (flag_atom a) ≡ is_set z
set_value v a z e h = ap (λ n. int_le (pos 0) n) less ∙ flag_is z h
  where
    less : ((pos 0 -ℤ pos 1) +ℤ ((pos 1 *ℤ atom_value v a) +ℤ pos 0)) ≡ z -ℤ pos 1
    less = omega (arith, ints, e)

module _ (fields : List ConfigField) (p : Procedure) (facts : List FieldFact) (v : Valuation) (scene : Scene) (extents : has_extents p ≡ true) where
  module _ (may : Allowed) (at : IsPlace fields p facts may v scene) where
    entry_reads : ReadsAt (but_fields may) v (entry_reading fields (roots_of p)) scene
    entry_reads = record {
      variables = λ x h. only_value v (Variable x) ∙ at.variables x;
      fields = λ f h. absurd (true≢false (sym h));
      strides = λ x k h. stride_value v scene at.variables at.buffers (roots_of p) (roots_have_extents p extents) at.made x k (at.strides x k h);
    }

    told : (f : ℕ) (o : Option Fact) → IsTold fields may v scene f o → value v (field_form fields (roots_of p) f o) ≡ scene.fields f
    told f None t = only_value v (EntryField f (kind_of fields f)) ∙ t
    told f (Some (Known (ControlArg e))) t = form_value (but_fields may) v (entry_reading fields (roots_of p)) scene entry_reads e t.0 ∙ t.1
    told f (Some (Known (ConditionArg c))) t = absurd t
    told f (Some (Known (Whole x))) t = absurd t
    told f (Some (Known (Window x cs))) t = absurd t
    told f (Some (UnknownAt path)) t = only_value v (UnknownField f (kind_of fields f) path) ∙ t

    place_reads : ReadsAt may v (place_reading fields (roots_of p) facts) scene
    place_reads = record {
      variables = λ x h. only_value v (Variable x) ∙ at.variables x;
      fields = λ f h. told f (fact_of facts f) (at.told f h);
      strides = λ x k h. stride_value v scene at.variables at.buffers (roots_of p) (roots_have_extents p extents) at.made x k (at.strides x k h);
    }

  module _ (may : AllowedFlags) (at : IsPlaceOfFlags fields p facts may v scene) where
    own_flags : (x : ℕ) → may.variable x ≡ true → is_met v (flag_atom (Variable x)) ≡ is_set (scene.control x)
    own_flags x h = set_value v (Variable x) (scene.control x) (at.numbers.variables x) (at.variables x h)

    entry_flags_read : ReadsFlagsAt (but_flag_fields may) v (entry_reading fields (roots_of p)) (entry_flags fields) scene
    entry_flags_read = record {
      numbers = entry_reads may.numbers at.numbers;
      variables = own_flags;
      fields = λ f h. absurd (true≢false (sym h));
    }

    flag_told : (f : ℕ) (o : Option Fact) → IsFlagTold fields may v scene f o → is_met v (field_formula fields (roots_of p) f o) ≡ is_set (scene.fields f)
    flag_told f None t = set_value v (EntryField f (kind_of fields f)) (scene.fields f) t.0 t.1
    flag_told f (Some (Known (ControlArg e))) t = absurd t
    flag_told f (Some (Known (ConditionArg c))) t = formula_law (but_flag_fields may) v (entry_reading fields (roots_of p)) (entry_flags fields) scene c entry_flags_read t.0 ∙ t.1
    flag_told f (Some (Known (Whole x))) t = absurd t
    flag_told f (Some (Known (Window x cs))) t = absurd t
    flag_told f (Some (UnknownAt path)) t = set_value v (UnknownField f (kind_of fields f) path) (scene.fields f) t.0 t.1

    place_flags_read : ReadsFlagsAt may v (place_reading fields (roots_of p) facts) (place_flags fields (roots_of p) facts) scene
    place_flags_read = record {
      numbers = place_reads may.numbers at.numbers;
      variables = own_flags;
      fields = λ f h. flag_told f (fact_of facts f) (at.told f h);
    }

pub normal_at_place : NormalAtPlace
normal_at_place fields p facts may v scene e extents at h = normal_law may v (place_reading fields (roots_of p) facts) scene e (place_reads fields p facts v scene extents may at) h

pub formula_at_place : FormulaAtPlace
formula_at_place fields p facts may v scene c extents at h = formula_law may v (place_reading fields (roots_of p) facts) (place_flags fields (roots_of p) facts) scene c (place_flags_read fields p facts v scene extents may at) h
