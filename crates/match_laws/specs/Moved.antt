-- Expressions of a callee, in the names of the block that it is matched with.
use Rattle.std.specs.Prelude.{◌≡◌, ℕ, Bool, true, false, ◌&&◌, ◌==◌, if◌then◌else◌, Option, Some}
use Rattle.std.specs.Prelude.{None}
use Rattle.exo_tree.specs.Tree.{Control, Lit, Var, Field, StrideOf, Neg, Add, Sub, Mul, Div, Mod}
use Rattle.exo_tree.specs.Tree.{Condition, True, False, Flag, FieldFlag, Lt, Le, Gt, Ge, Eq, And}
use Rattle.exo_tree.specs.Tree.{Or}
use Rattle.affine_forms.specs.Atoms.{same_form}
use Rattle.exo_meaning.specs.Scene.{Scene, number, holds}
use Rattle.affine_forms.specs.Forms.{Reading, Allowed, is_affine, keeps_rules, normal}
use Rattle.affine_forms.specs.Formulas.{AllowedFlags, is_affine_condition}
use Rattle.affine_forms.specs.Laws.{ReadsAt}
use Rattle.match_laws.specs.Simplify.Simplified.{simplified, values_in}

-- what stands for a variable, a bool and a stride; None is not known yet
pub record Moving : Type 0 where
  pub variable : ℕ → Option Control
  pub flag : ℕ → Option Condition
  pub stride : ℕ → ℕ → Option Control

abbrev pub both : {A B C : Type 0} → (A → B → C) → Option A → Option B → Option C
both f None o = None
both f (Some a) None = None
both f (Some a) (Some b) = Some (f a b)

abbrev pub one : {A B : Type 0} → (A → B) → Option A → Option B
one f None = None
one f (Some a) = Some (f a)

abbrev pub moved : Moving → Control → Option Control
moved m (Lit n) = Some (Lit n)
moved m (Var x) = m.variable x
moved m (Field f) = Some (Field f)
moved m (StrideOf x k) = m.stride x k
moved m (Neg a) = one Neg (moved m a)
moved m (Add a b) = both Add (moved m a) (moved m b)
moved m (Sub a b) = both Sub (moved m a) (moved m b)
moved m (Mul a b) = both Mul (moved m a) (moved m b)
moved m (Div a c) = one (λ e. Div e c) (moved m a)
moved m (Mod a c) = one (λ e. Mod e c) (moved m a)

abbrev pub moved_condition : Moving → Condition → Option Condition
moved_condition m True = Some True
moved_condition m False = Some False
moved_condition m (Flag x) = m.flag x
moved_condition m (FieldFlag f) = Some (FieldFlag f)
moved_condition m (Lt a b) = both Lt (moved m a) (moved m b)
moved_condition m (Le a b) = both Le (moved m a) (moved m b)
moved_condition m (Gt a b) = both Gt (moved m a) (moved m b)
moved_condition m (Ge a b) = both Ge (moved m a) (moved m b)
moved_condition m (Eq a b) = both Eq (moved m a) (moved m b)
moved_condition m (And c d) = both And (moved_condition m c) (moved_condition m d)
moved_condition m (Or c d) = both Or (moved_condition m c) (moved_condition m d)

-- ---- agreement

-- expressions agree where their normal forms are equal; of what breaks the rules of expressions no
-- form is asked, and it agrees with nothing
abbrev pub agree : Reading → Control → Control → Bool
agree at a b = keeps_rules a && (keeps_rules b && same_form (normal at a) (normal at b))

-- what breaks the rules stays as it is
abbrev pub simpler : Reading → Control → Control
simpler at e = if keeps_rules e then simplified at e else e

-- conditions agree where they are one tree, and the sides of their comparisons agree
abbrev pub conditions_agree : Reading → Condition → Condition → Bool
conditions_agree at True True = true
conditions_agree at False False = true
conditions_agree at (Flag x) (Flag y) = x == y
conditions_agree at (FieldFlag f) (FieldFlag g) = f == g
conditions_agree at (Lt a b) (Lt c d) = agree at a c && agree at b d
conditions_agree at (Le a b) (Le c d) = agree at a c && agree at b d
conditions_agree at (Gt a b) (Gt c d) = agree at a c && agree at b d
conditions_agree at (Ge a b) (Ge c d) = agree at a c && agree at b d
conditions_agree at (Eq a b) (Eq c d) = agree at a c && agree at b d
conditions_agree at (And a b) (And c d) = conditions_agree at a c && conditions_agree at b d
conditions_agree at (Or a b) (Or c d) = conditions_agree at a c && conditions_agree at b d
conditions_agree at a b = false

-- where what is read has its numbers, expressions that agree have one number
abbrev pub AgreeLaw : Type 0
AgreeLaw =
    (may : Allowed) (at : Reading) (scene : Scene) (a b : Control)
    → ReadsAt may (values_in scene) at scene
    → is_affine may a ≡ true
    → is_affine may b ≡ true
    → agree at a b ≡ true
    → number scene a ≡ number scene b

-- and conditions that agree hold together
abbrev pub ConditionsAgreeLaw : Type 0
ConditionsAgreeLaw =
    (may : AllowedFlags) (at : Reading) (scene : Scene) (c d : Condition)
    → ReadsAt may.numbers (values_in scene) at scene
    → is_affine_condition may c ≡ true
    → is_affine_condition may d ≡ true
    → conditions_agree at c d ≡ true
    → holds scene c ≡ holds scene d
