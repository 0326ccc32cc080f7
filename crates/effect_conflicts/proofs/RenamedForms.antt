-- The forms of expressions that are read over other variables.
use Rattle.std.proofs.Common.{◌≡◌, ℕ, negsuc, Bool, true, false, ◌&&◌, refl, sym, ap, ap₂, ◌∙◌}
use Rattle.exo_tree.specs.Tree.{Control, Lit, Var, Field, StrideOf, Neg, Add, Sub, Mul, Div, Mod, Condition, True, False, Flag, FieldFlag, Lt, Le, Gt, Ge, Eq, And, Or}
use Rattle.exo_meaning.specs.Units.{is_of_literals}
use Rattle.affine_forms.specs.Atoms.{Linear, added, scaled, subtracted, quotient}
use Rattle.affine_forms.specs.Forms.{form, normal, times, without_zeros, is_short_form, is_writable}
use Rattle.affine_forms.specs.Formulas.{Both, Either, less, at_most, equal, formula, is_writable_condition}
use Rattle.affine_places.specs.Readings.{extent_reading}
use Rattle.exo_effects.specs.Accesses.{plain_form, plain_formula, plain_fits, plain_formula_fits}
use Rattle.effect_conflicts.specs.Copies.{reading_by, flags_by}
use Rattle.exo_effects.specs.Renamed.{re_linear, re_formula}
use Rattle.effect_conflicts.proofs.RenamedTerms.{KeepsApart, re_scaled, re_without_zeros, re_short}
use Rattle.effect_conflicts.proofs.RenamedTerms.{re_added, re_subtracted, re_quotient, re_less}
use Rattle.effect_conflicts.proofs.RenamedTerms.{re_at_most, re_equal}

module _ (r : ℕ → ℕ) (apart : KeepsApart r) where
  abbrev over : Linear → Linear
  over l = re_linear r l

  re_times : (by_left : Bool) (k l : Linear) → over (times by_left k l) ≡ times by_left (over k) (over l)
  re_times true k l = re_scaled r k.constant l
  re_times false k l = re_scaled r l.constant k

  re_form : (e : Control) → over (form extent_reading e) ≡ form (reading_by r) e
  re_form (Lit n) = refl
  re_form (Var x) = refl
  re_form (Field f) = refl
  re_form (StrideOf x k) = refl
  re_form (Neg a) = re_scaled r (negsuc 0) (form extent_reading a) ∙ ap (scaled (negsuc 0)) (re_form a)
  re_form (Add a b) = re_added r apart (form extent_reading a) (form extent_reading b) ∙ ap₂ added (re_form a) (re_form b)
  re_form (Sub a b) = re_subtracted r apart (form extent_reading a) (form extent_reading b) ∙ ap₂ subtracted (re_form a) (re_form b)
  re_form (Mul a b) = re_times (is_of_literals a) (form extent_reading a) (form extent_reading b) ∙ ap₂ (times (is_of_literals a)) (re_form a) (re_form b)
  re_form (Div a c) = re_quotient r apart (form extent_reading a) c ∙ ap (λ l. quotient l c) (re_form a)
  re_form (Mod a c) =
      let l = form extent_reading a in
      re_subtracted r apart l (scaled c (quotient l c))
      ∙ ap (subtracted (over l)) (re_scaled r c (quotient l c) ∙ ap (scaled c) (re_quotient r apart l c))
      ∙ ap (λ k. subtracted k (scaled c (quotient k c))) (re_form a)

  -- the law of renamed forms
  pub re_normal : (e : Control) → re_linear r (plain_form e) ≡ normal (reading_by r) e
  re_normal e = re_without_zeros r (form extent_reading e) ∙ ap without_zeros (re_form e)

  short_over : (k l : Linear) → over k ≡ l → is_short_form l ≡ is_short_form k
  short_over k l h = ap is_short_form (sym h) ∙ re_short r k

  pub re_writable : (e : Control) → is_writable (reading_by r) e ≡ plain_fits e
  re_writable (Lit n) = refl
  re_writable (Var x) = refl
  re_writable (Field f) = refl
  re_writable (StrideOf x k) = refl
  re_writable (Neg a) = ap₂ (λ s t. s && t) (re_writable a) (short_over (form extent_reading (Neg a)) (form (reading_by r) (Neg a)) (re_form (Neg a)))
  re_writable (Add a b) = ap₂ (λ s t. s && t) (ap₂ (λ s t. s && t) (re_writable a) (re_writable b)) (short_over (form extent_reading (Add a b)) (form (reading_by r) (Add a b)) (re_form (Add a b)))
  re_writable (Sub a b) = ap₂ (λ s t. s && t) (ap₂ (λ s t. s && t) (re_writable a) (re_writable b)) (short_over (form extent_reading (Sub a b)) (form (reading_by r) (Sub a b)) (re_form (Sub a b)))
  re_writable (Mul a b) = ap₂ (λ s t. s && t) (ap₂ (λ s t. s && t) (re_writable a) (re_writable b)) (short_over (form extent_reading (Mul a b)) (form (reading_by r) (Mul a b)) (re_form (Mul a b)))
  re_writable (Div a c) = ap₂ (λ s t. s && t) (re_writable a) (short_over (form extent_reading (Div a c)) (form (reading_by r) (Div a c)) (re_form (Div a c)))
  re_writable (Mod a c) =
      let l = form extent_reading a in
      let k = form (reading_by r) a in
      let q : over (quotient l c) ≡ quotient k c = re_quotient r apart l c ∙ ap (λ z. quotient z c) (re_form a) in
      let m : over (scaled c (quotient l c)) ≡ scaled c (quotient k c) = re_scaled r c (quotient l c) ∙ ap (scaled c) q in
      ap₂ (λ s t. s && t) (re_writable a)
      (ap₂ (λ s t. s && t)
      (ap₂ (λ s t. s && t) (short_over (quotient l c) (quotient k c) q) (short_over (scaled c (quotient l c)) (scaled c (quotient k c)) m))
      (short_over (form extent_reading (Mod a c)) (form (reading_by r) (Mod a c)) (re_form (Mod a c))))

  pub re_plain_formula : (c : Condition) → re_formula r (plain_formula c) ≡ formula (reading_by r) (flags_by r) c
  re_plain_formula True = refl
  re_plain_formula False = refl
  re_plain_formula (Flag x) = refl
  re_plain_formula (FieldFlag f) = refl
  re_plain_formula (Lt a b) = re_less r apart (plain_form a) (plain_form b) ∙ ap₂ less (re_normal a) (re_normal b)
  re_plain_formula (Le a b) = re_at_most r apart (plain_form a) (plain_form b) ∙ ap₂ at_most (re_normal a) (re_normal b)
  re_plain_formula (Gt a b) = re_less r apart (plain_form b) (plain_form a) ∙ ap₂ less (re_normal b) (re_normal a)
  re_plain_formula (Ge a b) = re_at_most r apart (plain_form b) (plain_form a) ∙ ap₂ at_most (re_normal b) (re_normal a)
  re_plain_formula (Eq a b) = re_equal r apart (plain_form a) (plain_form b) ∙ ap₂ equal (re_normal a) (re_normal b)
  re_plain_formula (And c d) = ap₂ Both (re_plain_formula c) (re_plain_formula d)
  re_plain_formula (Or c d) = ap₂ Either (re_plain_formula c) (re_plain_formula d)

  pub re_condition_writable : (c : Condition) → is_writable_condition (reading_by r) (λ f. true) c ≡ plain_formula_fits c
  re_condition_writable True = refl
  re_condition_writable False = refl
  re_condition_writable (Flag x) = refl
  re_condition_writable (FieldFlag f) = refl
  re_condition_writable (Lt a b) = ap₂ (λ s t. s && t) (re_writable a) (re_writable b)
  re_condition_writable (Le a b) = ap₂ (λ s t. s && t) (re_writable a) (re_writable b)
  re_condition_writable (Gt a b) = ap₂ (λ s t. s && t) (re_writable b) (re_writable a)
  re_condition_writable (Ge a b) = ap₂ (λ s t. s && t) (re_writable b) (re_writable a)
  re_condition_writable (Eq a b) = ap₂ (λ s t. s && t) (re_writable a) (re_writable b)
  re_condition_writable (And c d) = ap₂ (λ s t. s && t) (re_condition_writable c) (re_condition_writable d)
  re_condition_writable (Or c d) = ap₂ (λ s t. s && t) (re_condition_writable c) (re_condition_writable d)
