-- Extents keep the rules of affine expressions.
use Rattle.std.proofs.Common.{◌≡◌, Bool, true, ◌&&◌, ◌||◌, List, [], ◌∷◌, length, refl, ap₂}
use Rattle.std.specs.Int.{is_positive}
use Rattle.exo_tree.specs.Tree.{Control, Lit, Var, Field, StrideOf, Neg, Add, Sub, Mul, Div, Mod}
use Rattle.exo_meaning.specs.Units.{is_rank}
use Rattle.exo_meaning.specs.Units.{is_of_literals}
use Rattle.affine_forms.specs.Forms.{Allowed, is_affine, keeps_rules}
use Rattle.affine_forms.specs.Strides.{all_affine, all_keep_rules}
use Rattle.affine_forms.proofs.Values.{and_parts}
use Rattle.affine_places.specs.Roots.{variables, are_extents}

both : (a b c d : Bool) → (a ≡ true → c ≡ true) → (b ≡ true → d ≡ true) → a && b ≡ true → c && d ≡ true
both a b c d f g h = let p = and_parts a b h in ap₂ ◌&&◌ (f p.0) (g p.1)

module _ (may : Allowed) where
  pub rules_kept : (e : Control) → is_affine may e ≡ true → keeps_rules e ≡ true
  rules_kept (Lit n) h = refl
  rules_kept (Var x) h = refl
  rules_kept (Field f) h = refl
  rules_kept (StrideOf x k) h = refl
  rules_kept (Neg a) h = rules_kept a h
  rules_kept (Add a b) h = both (is_affine may a) (is_affine may b) (keeps_rules a) (keeps_rules b) (rules_kept a) (rules_kept b) h
  rules_kept (Sub a b) h = both (is_affine may a) (is_affine may b) (keeps_rules a) (keeps_rules b) (rules_kept a) (rules_kept b) h
  rules_kept (Mul a b) h = both (is_of_literals a || is_of_literals b) (is_affine may a && is_affine may b) (is_of_literals a || is_of_literals b) (keeps_rules a && keeps_rules b) (λ p. p) (both (is_affine may a) (is_affine may b) (keeps_rules a) (keeps_rules b) (rules_kept a) (rules_kept b)) h
  rules_kept (Div a c) h = both (is_positive c) (is_affine may a) (is_positive c) (keeps_rules a) (λ p. p) (rules_kept a) h
  rules_kept (Mod a c) h = both (is_positive c) (is_affine may a) (is_positive c) (keeps_rules a) (λ p. p) (rules_kept a) h

  pub all_rules_kept : (es : List Control) → all_affine may es ≡ true → all_keep_rules es ≡ true
  all_rules_kept [] h = refl
  all_rules_kept (e ∷ es) h = both (is_affine may e) (all_affine may es) (keeps_rules e) (all_keep_rules es) (rules_kept e) (all_rules_kept es) h

pub extents_keep_rules : (es : List Control) → are_extents es ≡ true → all_keep_rules es ≡ true
extents_keep_rules es h = all_rules_kept variables es (and_parts (is_rank (length es)) (all_affine variables es) h).1
