-- What is formed of forms that were formed.
use Rattle.std.proofs.Common.{◌≡◌, Bool, true, ◌&&◌, Result, sym, subst}
use Rattle.exo_tree.specs.Tree.{Control}
use Rattle.affine_forms.specs.declared.error.FormError.{FormError}
use Rattle.affine_forms.specs.Atoms.{Linear}
use Rattle.affine_forms.specs.Forms.{Reading, is_short_form, form, is_writable}
use Rattle.affine_forms.specs.Outcomes.{Formed}

pub formed_under : (r : Result Linear FormError) (p s : Bool) (k : Linear) → p ≡ true → Formed r s k → Formed r (p && s) k
formed_under r p s k e h = subst (λ b. Formed r (b && s) k) (sym e) h

formed_under_two : (r : Result Linear FormError) (p q s : Bool) (k : Linear) → p ≡ true → q ≡ true → Formed r s k →
    Formed r ((p && q) && s) k
formed_under_two r p q s k e f h = subst (λ b. Formed r ((b && q) && s) k) (sym e) (formed_under r q s k f h)

-- a form of the forms of two parts
pub formed_of_two : (op : Linear → Linear → Linear) (at : Reading) (a b : Control) (left right : Linear) (r : Result Linear FormError) →
    (is_writable at a ≡ true) × (left ≡ form at a) → (is_writable at b ≡ true) × (right ≡ form at b) →
    Formed r (is_short_form (op left right)) (op left right) →
    Formed r ((is_writable at a && is_writable at b) && is_short_form (op (form at a) (form at b))) (op (form at a) (form at b))
formed_of_two op at a b left right r l m h =
    formed_under_two r (is_writable at a) (is_writable at b) (is_short_form (op (form at a) (form at b)))
    (op (form at a) (form at b)) l.0 m.0
    (subst (λ x. Formed r (is_short_form (op x (form at b))) (op x (form at b))) l.1
    (subst (λ y. Formed r (is_short_form (op left y)) (op left y)) m.1 h))

-- a form of the form of one part
pub formed_of_one : (fits : Linear → Bool) (op : Linear → Linear) (at : Reading) (a : Control) (l : Linear) (r : Result Linear FormError) →
    (is_writable at a ≡ true) × (l ≡ form at a) → Formed r (fits l) (op l) →
    Formed r (is_writable at a && fits (form at a)) (op (form at a))
formed_of_one fits op at a l r m h =
    formed_under r (is_writable at a) (fits (form at a)) (op (form at a)) m.0 (subst (λ x. Formed r (fits x) (op x)) m.1 h)
