-- Expressions as they are written.
use Rattle.std.proofs.Common.{◌≡◌, Bool, true, false, ◌&&◌, ◌||◌, not, cond, List, [], ◌∷◌}
use Rattle.std.proofs.Common.{refl, sym, ap, ap₂, ◌∙◌, subst}
use Rattle.std.specs.Int.{is_positive}
use Rattle.exo_tree.specs.Tree.{Control, Lit, Var, Field, StrideOf, Neg, Add, Sub, Mul, Div, Mod}
use Rattle.exo_tree.specs.Tree.{Coord, At, Span}
use Rattle.exo_meaning.specs.Units.{is_of_literals}
use Rattle.meaning_laws.specs.Substitute.{is_plain}
use Rattle.meaning_laws.proofs.Substitute.{and_parts}
use Rattle.affine_forms.specs.Forms.{is_affine, is_writable, keeps_rules}
use Rattle.affine_forms.specs.Outcomes.{IsWide}
use Rattle.affine_forms.specs.declared.error.FormError.{FormError}
use Rattle.affine_forms.specs.declared.error.FormError.TheVariants.{TooManyCases, SystemTooLarge}
use Rattle.affine_forms.specs.declared.error.FormError.TheVariants.{WideNumber, TooManySystems, Memory}
use Rattle.affine_places.specs.Roots.{variables}
use Rattle.affine_places.proofs.Rules.{rules_kept}
use Rattle.match_laws.specs.Simplify.Simplified.{simplified}
use Rattle.buffer_laws.specs.MadeIndices.{as_themselves}
use Rattle.buffer_laws.specs.Simplified.{simpler, all_simpler, coords_simpler}
use Rattle.step_rules.specs.Rule.{Writing, AsMade, Simplified}
use Rattle.alloc_laws.specs.Stage.Written.{written_as, is_written, are_written, coords_written}

-- ---- errors

-- an error that is handed on, where the same can be written down
pub wide_same : (x y : FormError) (part whole : Bool) → x ≡ y → whole ≡ part → IsWide y part
    → IsWide x whole
wide_same x y part whole same is w = subst (λ e. IsWide e whole) (sym same) (subst (IsWide y) (sym is) w)

-- and of two parts
pub first_wide : (x y : FormError) (p q : Bool) → x ≡ y → IsWide y p → IsWide x (p && q)
first_wide x y p q same w = subst (λ e. IsWide e (p && q)) (sym same) (by y w)
  where
    by : (e : FormError) → IsWide e p → IsWide e (p && q)
    by TooManyCases h = h
    by SystemTooLarge h = h
    by WideNumber h = ap (λ (b : Bool). b && q) h
    by TooManySystems h = h
    by Memory h = h

pub second_wide : (x y : FormError) (p q : Bool) → x ≡ y → p ≡ true → IsWide y q
    → IsWide x (p && q)
second_wide x y p q same h = wide_same x y q (p && q) same (ap (λ (b : Bool). b && q) h)

-- ---- one expression

both : (a b : Control)
    → (is_affine variables a ≡ true → is_plain a ≡ true)
    → (is_affine variables b ≡ true → is_plain b ≡ true)
    → (is_affine variables a && is_affine variables b) ≡ true
    → (is_plain a && is_plain b) ≡ true
both a b f g h =
    let p = and_parts (is_affine variables a) (is_affine variables b) h in
    ap₂ ◌&&◌ (f p.0) (g p.1)

-- an affine expression of variables reads neither fields nor strides
plain_affine : (e : Control) → is_affine variables e ≡ true → is_plain e ≡ true
plain_affine (Lit n) h = refl
plain_affine (Var x) h = refl
plain_affine (Field f) h = h
plain_affine (StrideOf x k) h = h
plain_affine (Neg a) h = plain_affine a h
plain_affine (Add a b) h = both a b (plain_affine a) (plain_affine b) h
plain_affine (Sub a b) h = both a b (plain_affine a) (plain_affine b) h
plain_affine (Mul a b) h =
    both a b (plain_affine a) (plain_affine b)
    (and_parts (is_of_literals a || is_of_literals b)
    (is_affine variables a && is_affine variables b) h).1
plain_affine (Div a c) h =
    plain_affine a (and_parts (is_positive c) (is_affine variables a) h).1
plain_affine (Mod a c) h =
    plain_affine a (and_parts (is_positive c) (is_affine variables a) h).1

-- the same on both sides
chosen : {A : Type 0} (b : Bool) (x : A) → cond b x x ≡ x
chosen true x = refl
chosen false x = refl

module _ (e : Control) where
  abbrev affine : Bool
  affine = is_affine variables e

  pub keeps_all : affine ≡ true → keeps_rules e ≡ true
  keeps_all h = rules_kept variables e h

  pub simpler_stays : (g : Control) → affine ≡ false → g ≡ e → g ≡ simpler (written_as Simplified) e
  simpler_stays g h same =
      same
      ∙ sym (chosen (is_plain e) e)
      ∙ sym (ap (λ (b : Bool). cond (is_plain e) (cond b (simplified as_themselves e) e) e) h)

  pub simpler_made : (g : Control) → affine ≡ true → g ≡ simplified as_themselves e
      → g ≡ simpler (written_as Simplified) e
  simpler_made g h same =
      same
      ∙ sym (ap (λ (b : Bool). cond b (simplified as_themselves e) e) h)
      ∙ sym (ap (λ (b : Bool). cond b (cond affine (simplified as_themselves e) e) e)
      (plain_affine e h))

  pub stays_fits : affine ≡ false → is_written Simplified e ≡ true
  stays_fits h = ap (λ (b : Bool). not b || is_writable as_themselves e) h

  pub made_fits : affine ≡ true → is_written Simplified e ≡ is_writable as_themselves e
  made_fits h = ap (λ (b : Bool). not b || is_writable as_themselves e) h

  pub made_wide : (x y : FormError) → x ≡ y → affine ≡ true → IsWide y (is_writable as_themselves e)
      → IsWide x (is_written Simplified e)
  made_wide x y same h = wide_same x y (is_writable as_themselves e) (is_written Simplified e) same (made_fits h)

-- ---- lists that are the same

pub list_wide : (how : Writing) (x y : FormError) (es ds : List Control) → x ≡ y → es ≡ ds
    → IsWide y (are_written how es)
    → IsWide x (are_written how ds)
list_wide how x y es ds same is =
    wide_same x y (are_written how es) (are_written how ds) same (ap (are_written how) (sym is))

-- ---- lists, as they are made

pub all_stay : (es : List Control) → es ≡ all_simpler (written_as AsMade) es
all_stay [] = refl
all_stay (e ∷ es) = ap₂ ◌∷◌ (sym (chosen (is_plain e) e)) (all_stay es)

pub all_fit : (es : List Control) → are_written AsMade es ≡ true
all_fit [] = refl
all_fit (e ∷ es) = all_fit es

pub coords_stay : (cs : List Coord) → cs ≡ coords_simpler (written_as AsMade) cs
coords_stay [] = refl
coords_stay (At e ∷ cs) =
    ap₂ (λ z rest. At z ∷ rest) (sym (chosen (is_plain e) e)) (coords_stay cs)
coords_stay (Span a b ∷ cs) =
    let p = sym (chosen (is_plain a) a) in
    let q = sym (chosen (is_plain b) b) in
    let rest = coords_stay cs in
    λ j. Span (p j) (q j) ∷ rest j

pub coords_fit : (cs : List Coord) → coords_written AsMade cs ≡ true
coords_fit [] = refl
coords_fit (At e ∷ cs) = coords_fit cs
coords_fit (Span a b ∷ cs) = coords_fit cs
