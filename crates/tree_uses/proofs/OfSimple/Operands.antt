-- A simplified expression is its normal form written out, or has its operands simplified.
use Rattle.std.proofs.Common.{◌≡◌, Bool, true, false, if◌then◌else◌, refl, sym, ap, ◌∙◌}
use Rattle.exo_tree.specs.Tree.{Control, Lit, Var, Field, StrideOf, Neg, Add, Sub, Mul, Div, Mod}
use Rattle.affine_forms.specs.Atoms.{Linear}
use Rattle.affine_forms.specs.Forms.{Reading, normal}
use Rattle.match_laws.specs.Simplify.Simplified.{is_without_quotients, written, simplified, written_or}
use Rattle.tree_uses.specs.Simple.Operands.{with_simple_operands}

simplified_is : (at : Reading) (e : Control)
    → simplified at e ≡ written_or (normal at e) (with_simple_operands at e)
simplified_is at (Lit n) = refl
simplified_is at (Var x) = refl
simplified_is at (Field f) = refl
simplified_is at (StrideOf x k) = refl
simplified_is at (Neg a) = refl
simplified_is at (Add a b) = refl
simplified_is at (Sub a b) = refl
simplified_is at (Mul a b) = refl
simplified_is at (Div a c) = refl
simplified_is at (Mod a c) = refl

module _ (at : Reading) (e : Control) (l : Linear) (same : l ≡ normal at e) where
  abbrev chosen : Bool → Control
  chosen b = if b then written l else with_simple_operands at e

  by_form : chosen (is_without_quotients l.terms) ≡ simplified at e
  by_form =
      ap (λ (k : Linear). written_or k (with_simple_operands at e)) same ∙ sym (simplified_is at e)

  pub written_out : is_without_quotients l.terms ≡ true → written l ≡ simplified at e
  written_out h = sym (ap chosen h) ∙ by_form

  pub kept_top : is_without_quotients l.terms ≡ false → with_simple_operands at e ≡ simplified at e
  kept_top h = sym (ap chosen h) ∙ by_form
