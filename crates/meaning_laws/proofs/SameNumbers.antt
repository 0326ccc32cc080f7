-- Expressions have the same number in scenes that agree on the names and fields that they use.
use Rattle.std.proofs.Common.{◌≡◌, ℕ, ℤ, pos, neg_ℤ, ◌+ℤ◌, ◌-ℤ◌, ◌*ℤ◌, int_lt, int_le, Bool, true, false, ◌&&◌, ◌||◌, List, [], Option, Some, None, refl, ap, ap₂, eq-eqb}
use Rattle.std.specs.Prelude.{get_or}
use Rattle.std.specs.Int.{int_div_euclid, int_rem_euclid}
use Rattle.std.specs.Ordering.{int_eq}
use Rattle.exo_tree.specs.Tree.{Control, Lit, Var, Field, StrideOf, Neg, Add, Sub, Mul, Div, Mod, Condition, True, False, Flag, FieldFlag, Lt, Le, Gt, Ge, Eq, And, Or, Argument, ControlArg, ConditionArg, Whole, Window}
use Rattle.exo_meaning.specs.Calls.{truth}
use Rattle.exo_meaning.specs.Scene.{Scene, Seen, is_set, number, holds, stride_at, strides_seen}
use Rattle.exo_meaning.specs.Unseen.{in_control, in_condition, in_argument}
use Rattle.exo_meaning.proofs.Frame.{or_parts}
use Rattle.meaning_laws.specs.Live.{read_by_control, read_by_condition, read_by_argument}
use Rattle.meaning_laws.specs.Scoped.{is_not}
use Rattle.meaning_laws.specs.PlaceFacts.{argument_value}
use Rattle.meaning_laws.proofs.Scoped.{not_false}
use Rattle.meaning_laws.proofs.PathOrder.{either_left, either_right}

-- the strides of a name
abbrev pub name_strides : Scene → ℕ → List ℤ
name_strides scene x = elim (scene.views x) [ None ↦ [] | Some seen ↦ strides_seen scene seen ]

pub stride_is : (scene : Scene) (x k : ℕ) → stride_at scene (scene.views x) k ≡ get_or (name_strides scene x) k (pos 0)
stride_is scene x k = go (scene.views x)
  where
    go : (o : Option Seen) → stride_at scene o k ≡ get_or (elim o as (λ o. List ℤ) [ None ↦ [] | Some seen ↦ strides_seen scene seen ]) k (pos 0)
    go None = refl
    go (Some seen) = refl

-- the name has the same control value and the same strides
pub record IsSameIn (s t : Scene) (x : ℕ) : Type 0 where
  pub control : s.control x ≡ t.control x
  pub strides : (k : ℕ) → stride_at s (s.views x) k ≡ stride_at t (t.views x) k

module _ (bound : ℕ → Bool) (s t : Scene) (names : (x : ℕ) → bound x ≡ true → IsSameIn s t x) where
  of_name : (x : ℕ) → is_not bound x ≡ false → IsSameIn s t x
  of_name x h = names x (not_false (bound x) h)

  abbrev Fields : (ℕ → Bool) → Type 0
  Fields reads = (f : ℕ) → reads f ≡ true → s.fields f ≡ t.fields f

  left_fields : (p q : ℕ → Bool) → Fields (λ f. p f || q f) → Fields p
  left_fields p q h f k = h f (either_left (p f) (q f) k)

  right_fields : (p q : ℕ → Bool) → Fields (λ f. p f || q f) → Fields q
  right_fields p q h f k = h f (either_right (p f) (q f) k)

  both_sides : {A : Type 0} (op : ℤ → ℤ → A) (a b : Control) → (in_control (is_not bound) a || in_control (is_not bound) b) ≡ false → Fields (λ f. read_by_control f a || read_by_control f b) → (in_control (is_not bound) a ≡ false → Fields (λ f. read_by_control f a) → number s a ≡ number t a) → (in_control (is_not bound) b ≡ false → Fields (λ f. read_by_control f b) → number s b ≡ number t b) → op (number s a) (number s b) ≡ op (number t a) (number t b)
  both_sides op a b h r one other =
      let p = or_parts (in_control (is_not bound) a) (in_control (is_not bound) b) h in
      ap₂ op (one p.0 (left_fields (λ f. read_by_control f a) (λ f. read_by_control f b) r)) (other p.1 (right_fields (λ f. read_by_control f a) (λ f. read_by_control f b) r))

  pub number_same : (e : Control) → in_control (is_not bound) e ≡ false → Fields (λ f. read_by_control f e) → number s e ≡ number t e
  number_same (Lit n) h r = refl
  number_same (Var x) h r = (of_name x h).control
  number_same (Field f) h r = r f (eq-eqb f f refl)
  number_same (StrideOf x k) h r = (of_name x h).strides k
  number_same (Neg a) h r = ap neg_ℤ (number_same a h r)
  number_same (Add a b) h r = both_sides ◌+ℤ◌ a b h r (number_same a) (number_same b)
  number_same (Sub a b) h r = both_sides ◌-ℤ◌ a b h r (number_same a) (number_same b)
  number_same (Mul a b) h r = both_sides ◌*ℤ◌ a b h r (number_same a) (number_same b)
  number_same (Div a c) h r = ap (λ n. int_div_euclid n c) (number_same a h r)
  number_same (Mod a c) h r = ap (λ n. int_rem_euclid n c) (number_same a h r)

  sides : {A : Type 0} (op : ℤ → ℤ → A) (a b : Control) → (in_control (is_not bound) a || in_control (is_not bound) b) ≡ false → Fields (λ f. read_by_control f a || read_by_control f b) → op (number s a) (number s b) ≡ op (number t a) (number t b)
  sides op a b h r = both_sides op a b h r (number_same a) (number_same b)

  pub holds_same : (c : Condition) → in_condition (is_not bound) c ≡ false → Fields (λ f. read_by_condition f c) → holds s c ≡ holds t c
  holds_same True h r = refl
  holds_same False h r = refl
  holds_same (Flag x) h r = ap is_set (of_name x h).control
  holds_same (FieldFlag f) h r = ap is_set (r f (eq-eqb f f refl))
  holds_same (Lt a b) h r = sides int_lt a b h r
  holds_same (Le a b) h r = sides int_le a b h r
  holds_same (Gt a b) h r = sides (λ m n. int_lt n m) a b h r
  holds_same (Ge a b) h r = sides (λ m n. int_le n m) a b h r
  holds_same (Eq a b) h r = sides int_eq a b h r
  holds_same (And c d) h r =
      let p = or_parts (in_condition (is_not bound) c) (in_condition (is_not bound) d) h in
      ap₂ ◌&&◌ (holds_same c p.0 (left_fields (λ f. read_by_condition f c) (λ f. read_by_condition f d) r)) (holds_same d p.1 (right_fields (λ f. read_by_condition f c) (λ f. read_by_condition f d) r))
  holds_same (Or c d) h r =
      let p = or_parts (in_condition (is_not bound) c) (in_condition (is_not bound) d) h in
      ap₂ ◌||◌ (holds_same c p.0 (left_fields (λ f. read_by_condition f c) (λ f. read_by_condition f d) r)) (holds_same d p.1 (right_fields (λ f. read_by_condition f c) (λ f. read_by_condition f d) r))

  pub value_same : (a : Argument) → in_argument (is_not bound) a ≡ false → Fields (λ f. read_by_argument f a) → argument_value s a ≡ argument_value t a
  value_same (ControlArg e) h r = number_same e h r
  value_same (ConditionArg c) h r = ap truth (holds_same c h r)
  value_same (Whole x) h r = refl
  value_same (Window x coords) h r = refl
