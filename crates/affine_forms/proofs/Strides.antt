-- The form of a product of extents has its value.
use Rattle.std.proofs.Common.{◌≡◌, pos, ◌*ℤ◌, Bool, true, false, cond, List, [], ◌∷◌, arith, refl, sym, ap, ap₂, ◌∙◌, true≢false}
use Rattle.std.proofs.lemmas.Int.{ints}
use Rattle.std.proofs.Math.IntN.{*ℤ_comm}
use Rattle.exo_tree.specs.Tree.{Control, Lit, Var, Field, StrideOf, Neg, Add, Sub, Mul, Div, Mod}
use Rattle.exo_meaning.specs.Scene.{Scene}
use Rattle.affine_forms.specs.Atoms.{none, Linear, Valuation, terms_value, value, terms_scaled}
use Rattle.affine_forms.specs.Forms.{Reading, Allowed, is_affine, times, form}
use Rattle.affine_forms.specs.Strides.{are_numbers, is_one_open, product_form, all_affine, product_of}
use Rattle.affine_forms.specs.Laws.{ReadsAt, StrideLaw}
use Rattle.affine_forms.proofs.Values.{and_parts, scaled_value}
use Rattle.affine_forms.proofs.NormalForm.{form_value, literal_terms}
use Rattle.exo_meaning.specs.Units.{is_of_literals, is_literal}

number_is_literal : (e : Control) → is_literal e ≡ true → is_of_literals e ≡ true
number_is_literal (Lit n) h = refl
number_is_literal (Var x) h = absurd (true≢false (sym h))
number_is_literal (Field f) h = absurd (true≢false (sym h))
number_is_literal (StrideOf x k) h = absurd (true≢false (sym h))
number_is_literal (Neg a) h = absurd (true≢false (sym h))
number_is_literal (Add a b) h = absurd (true≢false (sym h))
number_is_literal (Sub a b) h = absurd (true≢false (sym h))
number_is_literal (Mul a b) h = absurd (true≢false (sym h))
number_is_literal (Div a c) h = absurd (true≢false (sym h))
number_is_literal (Mod a c) h = absurd (true≢false (sym h))

-- a product of literals has no terms
product_terms : (at : Reading) (es : List Control) → are_numbers es ≡ true → (product_form at es).terms ≡ none
product_terms at [] h = refl
product_terms at (e ∷ es) h =
    let p = and_parts (is_literal e) (are_numbers es) h in
    ap (λ t. (times t (form at e) (product_form at es)).terms) p.0 ∙ ap (terms_scaled (form at e).constant) (product_terms at es p.1)

module _ (may : Allowed) (v : Valuation) (at : Reading) (scene : Scene) (reads : ReadsAt may v at scene) where
  alone : (l : Linear) → l.terms ≡ none → value v l ≡ l.constant
  alone l h = let z : terms_value v l.terms ≡ pos 0 = ap (terms_value v) h in omega (arith, ints, z)

  step : (e : Control) (es : List Control) (t : Bool) → is_literal e ≡ t → (t ≡ false → are_numbers es ≡ true) → value v (times t (form at e) (product_form at es)) ≡ value v (form at e) *ℤ value v (product_form at es)
  step e es true h k = scaled_value v (form at e).constant (product_form at es) ∙ ap (λ z. z *ℤ value v (product_form at es)) (sym (alone (form at e) (literal_terms at e (number_is_literal e h))))
  step e es false h k = scaled_value v (product_form at es).constant (form at e) ∙ *ℤ_comm (product_form at es).constant (value v (form at e)) ∙ ap (λ z. value v (form at e) *ℤ z) (sym (alone (product_form at es) (product_terms at es (k refl))))

  numbers_open : (es : List Control) → are_numbers es ≡ true → is_one_open es ≡ true
  numbers_open [] h = refl
  numbers_open (e ∷ es) h = let p = and_parts (is_literal e) (are_numbers es) h in ap (λ t. cond t (is_one_open es) (are_numbers es)) p.0 ∙ numbers_open es p.1

  rest_open : (es : List Control) (t : Bool) → cond t (is_one_open es) (are_numbers es) ≡ true → is_one_open es ≡ true
  rest_open es true h = h
  rest_open es false h = numbers_open es h

  product_value : (es : List Control) → all_affine may es ≡ true → is_one_open es ≡ true → value v (product_form at es) ≡ product_of scene es
  product_value [] a h = omega (arith, ints)
  product_value (e ∷ es) a h =
      let p = and_parts (is_affine may e) (all_affine may es) a in
      step e es (is_literal e) refl (λ f. sym (ap (λ t. cond t (is_one_open es) (are_numbers es)) f) ∙ h)
      ∙ ap₂ ◌*ℤ◌ (form_value may v at scene reads e p.0) (product_value es p.1 (rest_open es (is_literal e) h))

pub stride_law : StrideLaw
stride_law may v at scene extents reads a h = product_value may v at scene reads extents a h
