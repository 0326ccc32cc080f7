-- Expressions that agree have one number, and conditions that agree hold together.
use Rattle.std.proofs.Common.{◌≡◌, ◌+ℤ◌, int_lt, int_le, Bool, true, false, ◌&&◌, ◌||◌}
use Rattle.std.proofs.Common.{if◌then◌else◌, refl, sym, ap, ap₂, ◌∙◌, true≢false, eqb-true}
use Rattle.std.specs.Ordering.{int_eq}
use Rattle.exo_tree.specs.Tree.{Control, Condition, True, False, Flag, FieldFlag, Lt, Le, Gt, Ge}
use Rattle.exo_tree.specs.Tree.{Eq, And, Or}
use Rattle.exo_meaning.specs.Scene.{Scene, number, holds, is_set}
use Rattle.affine_forms.specs.Atoms.{Linear, value, same_terms, same_form}
use Rattle.affine_forms.specs.Forms.{Reading, Allowed, is_affine, keeps_rules, normal}
use Rattle.affine_forms.specs.Formulas.{AllowedFlags, is_affine_condition}
use Rattle.affine_forms.specs.Laws.{ReadsAt}
use Rattle.affine_forms.proofs.Values.{and_parts, int_eq_same, same_terms_value}
use Rattle.affine_forms.proofs.NormalForm.{normal_law}
use Rattle.match_laws.specs.Simplify.Simplified.{simplified, values_in}
use Rattle.match_laws.proofs.OfSimplify.Simplified.{simplified_law}
use Rattle.match_laws.specs.Moved.{agree, simpler, conditions_agree, AgreeLaw, ConditionsAgreeLaw}

same_value : (scene : Scene) (k l : Linear) → same_form k l ≡ true
    → value (values_in scene) k ≡ value (values_in scene) l
same_value scene k l h =
    let p = and_parts (int_eq k.constant l.constant) (same_terms k.terms l.terms) h in
    ap₂ ◌+ℤ◌ (int_eq_same k.constant l.constant p.0)
    (sym (same_terms_value (values_in scene) k.terms l.terms p.1))

forms_same : (at : Reading) (a b : Control) → agree at a b ≡ true
    → same_form (normal at a) (normal at b) ≡ true
forms_same at a b h =
    let same = same_form (normal at a) (normal at b) in
    (and_parts (keeps_rules b) same (and_parts (keeps_rules a) (keeps_rules b && same) h).1).1

pub agree_law : AgreeLaw
agree_law may at scene a b reads i j h =
    sym (normal_law may (values_in scene) at scene a reads i)
    ∙ same_value scene (normal at a) (normal at b) (forms_same at a b h)
    ∙ normal_law may (values_in scene) at scene b reads j

-- what is written more simply has the same number
pub simpler_law : (may : Allowed) (at : Reading) (scene : Scene) (e : Control)
    → ReadsAt may (values_in scene) at scene → is_affine may e ≡ true
    → number scene (simpler at e) ≡ number scene e
simpler_law may at scene e reads i = go (keeps_rules e)
  where
    go : (t : Bool) → number scene (if t then simplified at e else e) ≡ number scene e
    go true = simplified_law may at scene e reads i
    go false = refl

module _ (may : AllowedFlags) (at : Reading) (scene : Scene)
    (reads : ReadsAt may.numbers (values_in scene) at scene) where
  sides : (a b c d : Control) → (is_affine may.numbers a && is_affine may.numbers b) ≡ true
      → (is_affine may.numbers c && is_affine may.numbers d) ≡ true
      → (agree at a c && agree at b d) ≡ true
      → (number scene a ≡ number scene c) × (number scene b ≡ number scene d)
  sides a b c d i j h =
      let p = and_parts (is_affine may.numbers a) (is_affine may.numbers b) i in
      let q = and_parts (is_affine may.numbers c) (is_affine may.numbers d) j in
      let r = and_parts (agree at a c) (agree at b d) h in (
        agree_law may.numbers at scene a c reads p.0 q.0 r.0,
        agree_law may.numbers at scene b d reads p.1 q.1 r.1,
      )

  same : (c d : Condition) → is_affine_condition may c ≡ true → is_affine_condition may d ≡ true
      → conditions_agree at c d ≡ true → holds scene c ≡ holds scene d
  same True True i j h = refl
  same False False i j h = refl
  same (Flag x) (Flag y) i j h = ap (λ z. is_set (scene.control z)) (eqb-true x y h)
  same (FieldFlag f) (FieldFlag g) i j h = ap (λ z. is_set (scene.fields z)) (eqb-true f g h)
  same (Lt a b) (Lt c d) i j h = let p = sides a b c d i j h in ap₂ int_lt p.0 p.1
  same (Le a b) (Le c d) i j h = let p = sides a b c d i j h in ap₂ int_le p.0 p.1
  same (Gt a b) (Gt c d) i j h = let p = sides a b c d i j h in ap₂ int_lt p.1 p.0
  same (Ge a b) (Ge c d) i j h = let p = sides a b c d i j h in ap₂ int_le p.1 p.0
  same (Eq a b) (Eq c d) i j h = let p = sides a b c d i j h in ap₂ int_eq p.0 p.1
  same (And a b) (And c d) i j h =
      let p = and_parts (is_affine_condition may a) (is_affine_condition may b) i in
      let q = and_parts (is_affine_condition may c) (is_affine_condition may d) j in
      let r = and_parts (conditions_agree at a c) (conditions_agree at b d) h in
      ap₂ ◌&&◌ (same a c p.0 q.0 r.0) (same b d p.1 q.1 r.1)
  same (Or a b) (Or c d) i j h =
      let p = and_parts (is_affine_condition may a) (is_affine_condition may b) i in
      let q = and_parts (is_affine_condition may c) (is_affine_condition may d) j in
      let r = and_parts (conditions_agree at a c) (conditions_agree at b d) h in
      ap₂ ◌||◌ (same a c p.0 q.0 r.0) (same b d p.1 q.1 r.1)
  same c d i j h = absurd (true≢false (sym h))

pub conditions_agree_law : ConditionsAgreeLaw
conditions_agree_law may at scene c d reads i j h = same may at scene reads c d i j h
