-- Bounds that agree are equal numbers.
use Rattle.std.proofs.Common.{◌≡◌, ℕ, ℤ, pos, ◌+ℤ◌, ◌*ℤ◌, true, true≢false, Option, refl, sym}
use Rattle.std.proofs.Common.{ap₂, ◌∙◌, arith}
use Rattle.std.proofs.lemmas.Int.{ints}
use Rattle.std.specs.Ordering.{int_eq}
use Rattle.exo_tree.specs.Tree.{Kind, Control}
use Rattle.exo_meaning.specs.Scene.{Scene, number}
use Rattle.exo_meaning.specs.Units.{Scope, plainly, is_control}
use Rattle.affine_forms.specs.Atoms.{Linear, value, same_terms, same_form}
use Rattle.affine_forms.specs.Forms.{is_affine, normal}
use Rattle.affine_forms.specs.Laws.{ReadsAt}
use Rattle.affine_forms.proofs.NormalForm.{normal_law}
use Rattle.affine_forms.proofs.Values.{and_parts, int_eq_same, same_terms_value}
use Rattle.affine_places.specs.Agreement.{agree}
use Rattle.affine_places.specs.Readings.{extent_reading}
use Rattle.affine_places.specs.Roots.{variables}
use Rattle.check_laws.proofs.OfFacts.Affine.{affine}
use Rattle.match_laws.specs.Simplify.Simplified.{values_in}

reads_variables : (scene : Scene) → ReadsAt variables (values_in scene) extent_reading scene
reads_variables scene = record {
  variables = λ x h. alone (scene.control x);
  fields = λ f h. absurd (true≢false (sym h));
  strides = λ x k h. absurd (true≢false (sym h));
}
  where
    alone : (n : ℤ) → pos 0 +ℤ ((pos 1 *ℤ n) +ℤ pos 0) ≡ n
    alone n = omega (arith, ints)

bound_is_affine : (fields : ℕ → Option Kind) (scope : Scope) (e : Control)
    → is_control fields plainly scope e ≡ true → is_affine variables e ≡ true
bound_is_affine fields scope e h =
    affine fields plainly scope variables
    (record {
      variables = λ x k. refl;
      of_fields = λ f k. absurd (true≢false (sym k));
      strides = λ x d k. absurd (true≢false (sym k));
    }) e h

same_value : (scene : Scene) (k l : Linear) → same_form k l ≡ true
    → value (values_in scene) k ≡ value (values_in scene) l
same_value scene k l h =
    let p = and_parts (int_eq k.constant l.constant) (same_terms k.terms l.terms) h in
    ap₂ ◌+ℤ◌ (int_eq_same k.constant l.constant p.0)
    (sym (same_terms_value (values_in scene) k.terms l.terms p.1))

pub agreeing_numbers : (fields : ℕ → Option Kind) (scope : Scope) (scene : Scene) (a b : Control)
    → is_control fields plainly scope a ≡ true → is_control fields plainly scope b ≡ true
    → agree extent_reading a b ≡ true → number scene b ≡ number scene a
agreeing_numbers fields scope scene a b i j h =
    let of_form = λ (e : Control) (k : is_affine variables e ≡ true).
    normal_law variables (values_in scene) extent_reading scene e (reads_variables scene) k in
    sym (of_form b (bound_is_affine fields scope b j))
    ∙ sym (same_value scene (normal extent_reading a) (normal extent_reading b) h)
    ∙ of_form a (bound_is_affine fields scope a i)
