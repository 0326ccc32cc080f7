-- A formula is met where its condition holds.
use Rattle.std.proofs.Common.{◌≡◌, zero, suc, ℤ, pos, negsuc, ◌-ℤ◌, ◌≤ℤ◌, int_le, int_lt, Bool, true, ◌&&◌, ◌||◌, arith, refl, ap, ap₂, ◌∙◌}
use Rattle.std.proofs.lemmas.Int.{ints}
use Rattle.std.specs.Ordering.{int_eq}
use Rattle.exo_tree.specs.Tree.{Control, Condition, True, False, Flag, FieldFlag, Lt, Le, Gt, Ge, Eq, And, Or}
use Rattle.exo_meaning.specs.Scene.{Scene, number, is_set, holds}
use Rattle.affine_forms.specs.Atoms.{Linear, Valuation, value, subtracted}
use Rattle.affine_forms.specs.Forms.{Reading, normal, is_affine}
use Rattle.affine_forms.specs.Formulas.{difference, less, at_most, equal, moved, Flags, formula, AllowedFlags, is_affine_condition, is_met}
use Rattle.affine_forms.specs.Laws.{ReadsFlagsAt, FormulaLaw}
use Rattle.affine_forms.proofs.Values.{and_parts, subtracted_value, present_value}
use Rattle.affine_forms.proofs.NormalForm.{normal_law}

lt_is : (a b : ℤ) → int_le (pos 0) ((b -ℤ a) -ℤ pos 1) ≡ int_lt a b
lt_is a b = grind (arith, ints)

le_is : (a b : ℤ) → int_le (pos 0) (b -ℤ a) ≡ int_le a b
le_is a b = grind (arith, ints)

eq_is : (a b : ℤ) → int_eq (a -ℤ b) (pos 0) ≡ int_eq a b
eq_is a b = grind (arith, ints)

-- a number that is not negative is set where it is at least 1
pub flag_is : (z : ℤ) → pos 0 ≤ℤ z → int_le (pos 0) (z -ℤ pos 1) ≡ is_set z
flag_is (pos zero) h = refl
flag_is (pos (suc n)) h = grind (arith, ints)
flag_is (negsuc n) h = absurd (omega (arith, ints))

module _ (v : Valuation) where
  difference_value : (k l : Linear) → value v (difference k l) ≡ value v k -ℤ value v l
  difference_value k l = omega (arith, ints, subtracted_value v k l, present_value v (subtracted k l).terms)

  pub less_met : (a b : Linear) → is_met v (less a b) ≡ int_lt (value v a) (value v b)
  less_met a b =
      let is : value v (moved (pos 1) (difference b a)) ≡ (value v b -ℤ value v a) -ℤ pos 1 = omega (arith, ints, difference_value b a) in
      ap (int_le (pos 0)) is ∙ lt_is (value v a) (value v b)

  pub at_most_met : (a b : Linear) → is_met v (at_most a b) ≡ int_le (value v a) (value v b)
  at_most_met a b = ap (int_le (pos 0)) (difference_value b a) ∙ le_is (value v a) (value v b)

  pub equal_met : (a b : Linear) → is_met v (equal a b) ≡ int_eq (value v a) (value v b)
  equal_met a b = ap (λ z. int_eq z (pos 0)) (difference_value a b) ∙ eq_is (value v a) (value v b)

module _ (may : AllowedFlags) (v : Valuation) (at : Reading) (flags : Flags) (scene : Scene) (reads : ReadsFlagsAt may v at flags scene) where
  normal_is : (e : Control) → is_affine may.numbers e ≡ true → value v (normal at e) ≡ number scene e
  normal_is e h = normal_law may.numbers v at scene e reads.numbers h

  sides : (test : ℤ → ℤ → Bool) (a b : Control) → (is_affine may.numbers a && is_affine may.numbers b) ≡ true → test (value v (normal at a)) (value v (normal at b)) ≡ test (number scene a) (number scene b)
  sides test a b h = let k = and_parts (is_affine may.numbers a) (is_affine may.numbers b) h in ap₂ test (normal_is a k.0) (normal_is b k.1)

  formula_is : (c : Condition) → is_affine_condition may c ≡ true → is_met v (formula at flags c) ≡ holds scene c
  formula_is True h = refl
  formula_is False h = refl
  formula_is (Flag x) h = reads.variables x h
  formula_is (FieldFlag f) h = reads.fields f h
  formula_is (Lt a b) h = less_met v (normal at a) (normal at b) ∙ sides int_lt a b h
  formula_is (Le a b) h = at_most_met v (normal at a) (normal at b) ∙ sides int_le a b h
  formula_is (Gt a b) h = less_met v (normal at b) (normal at a) ∙ sides (λ x y. int_lt y x) a b h
  formula_is (Ge a b) h = at_most_met v (normal at b) (normal at a) ∙ sides (λ x y. int_le y x) a b h
  formula_is (Eq a b) h = equal_met v (normal at a) (normal at b) ∙ sides int_eq a b h
  formula_is (And c d) h = let k = and_parts (is_affine_condition may c) (is_affine_condition may d) h in ap₂ (λ p q. p && q) (formula_is c k.0) (formula_is d k.1)
  formula_is (Or c d) h = let k = and_parts (is_affine_condition may c) (is_affine_condition may d) h in ap₂ (λ p q. p || q) (formula_is c k.0) (formula_is d k.1)

pub formula_law : FormulaLaw
formula_law may v at flags scene c reads h = formula_is may v at flags scene reads c h
