-- Expressions of which all names are known, and others.
use Rattle.std.proofs.Common.{◌≡◌, ℕ, Bool, true, false, ◌&&◌, Option, Some, None, refl, ap, ap₂}
use Rattle.std.proofs.Common.{sym, ◌∙◌, if◌then◌else◌}
use Rattle.std.specs.Prelude.{is_some}
use Rattle.exo_tree.specs.Tree.{Control, Lit, Var, Field, StrideOf, Neg, Add, Sub, Mul, Div, Mod}
use Rattle.exo_tree.specs.Tree.{Condition, True, False, Flag, FieldFlag, Lt, Le, Gt, Ge, Eq, And}
use Rattle.exo_tree.specs.Tree.{Or, Argument, ControlArg, ConditionArg, Whole, Window}
use Rattle.inplace_laws.specs.Windows.{nth_span, root_in, coords_of}
use Rattle.match_laws.specs.Inline.AtOnce.{Put, put_control}
use Rattle.match_laws.specs.Matched.{moving, stride_in}
use Rattle.match_laws.specs.Matched.{stride_for}
use Rattle.match_laws.specs.Moved.{Moving, both, one, moved, moved_condition}
use Rattle.tree_uses.specs.Putting.{putting}
use Rattle.tree_uses.specs.Uses.{used_condition}
use Rattle.block_matches.specs.Known.{knows, knows_condition, puts_by, number_or, truth_or}
use Rattle.block_matches.specs.Known.{buffer_or, name_or}

abbrev known_if : {A : Type 0} → Bool → A → Option A
known_if t a = if t then Some a else None

one_if : {A B : Type 0} (f : A → B) (t : Bool) (a : A) → one f (known_if t a) ≡ known_if t (f a)
one_if f true a = refl
one_if f false a = refl

both_if : {A B C : Type 0} (f : A → B → C) (s t : Bool) (a : A) (b : B)
    → both f (known_if s a) (known_if t b) ≡ known_if (s && t) (f a b)
both_if f true true a b = refl
both_if f true false a b = refl
both_if f false t a b = refl

number_if : (x : ℕ) (o : Option Control) → o ≡ known_if (is_some o) (number_or x o)
number_if x None = refl
number_if x (Some e) = refl

truth_if : (x : ℕ) (o : Option Condition) → o ≡ known_if (is_some o) (truth_or x o)
truth_if x None = refl
truth_if x (Some c) = refl

abbrev stride_of : ℕ → ℕ → Argument → Control
stride_of x k a = StrideOf (root_in a x) (nth_span (coords_of a) k)

given_if : (x k : ℕ) (o : Option Argument)
    → stride_in o k ≡ known_if (is_some (stride_in o 0)) (stride_of x k (buffer_or x o))
given_if x k None = refl
given_if x k (Some (ControlArg e)) = refl
given_if x k (Some (ConditionArg c)) = refl
given_if x k (Some (Whole y)) = refl
given_if x k (Some (Window y cs)) = refl

partner_if : (x k : ℕ) (o : Option ℕ)
    → stride_for o k ≡ known_if (is_some (stride_for o 0)) (stride_of x k (name_or x o))
partner_if x k None = refl
partner_if x k (Some y) = refl

module _ (params : ℕ → Bool) (to : ℕ → Option ℕ) (given : ℕ → Option Argument) where
  abbrev m : Moving
  m = moving params to given

  abbrev put : Put
  put = puts_by params to given

  stride_if : (x k : ℕ) → m.stride x k ≡ known_if (is_some (m.stride x 0)) (stride_of x k (put.name x))
  stride_if x k = go (params x)
    where
      go : (t : Bool) → (if t then stride_in (given x) k else stride_for (to x) k)
          ≡ known_if (is_some (if t then stride_in (given x) 0 else stride_for (to x) 0))
          (stride_of x k (if t then buffer_or x (given x) else name_or x (to x)))
      go true = given_if x k (given x)
      go false = partner_if x k (to x)

  two : (f : Control → Control → Control) (a b : Control)
      → moved m a ≡ known_if (knows m a) (put_control put a)
      → moved m b ≡ known_if (knows m b) (put_control put b)
      → both f (moved m a) (moved m b)
      ≡ known_if (knows m a && knows m b) (f (put_control put a) (put_control put b))
  two f a b h l =
      ap₂ (both f) h l ∙ both_if f (knows m a) (knows m b) (put_control put a) (put_control put b)

  moved_if : (e : Control) → moved m e ≡ known_if (knows m e) (put_control put e)
  moved_if (Lit n) = refl
  moved_if (Var x) = number_if x (m.variable x)
  moved_if (Field f) = refl
  moved_if (StrideOf x k) = stride_if x k
  moved_if (Neg a) = ap (one Neg) (moved_if a) ∙ one_if Neg (knows m a) (put_control put a)
  moved_if (Add a b) = two Add a b (moved_if a) (moved_if b)
  moved_if (Sub a b) = two Sub a b (moved_if a) (moved_if b)
  moved_if (Mul a b) = two Mul a b (moved_if a) (moved_if b)
  moved_if (Div a c) =
      ap (one (λ e. Div e c)) (moved_if a) ∙ one_if (λ e. Div e c) (knows m a) (put_control put a)
  moved_if (Mod a c) =
      ap (one (λ e. Mod e c)) (moved_if a) ∙ one_if (λ e. Mod e c) (knows m a) (put_control put a)

  pub is_moved : (e g : Control) → knows m e ≡ true → g ≡ put_control put e → Some g ≡ moved m e
  is_moved e g h made =
      ap (λ f. Some f) made ∙ sym (moved_if e ∙ ap (λ t. known_if t (put_control put e)) h)

  pub is_unknown : (e : Control) → knows m e ≡ false → None ≡ moved m e
  is_unknown e h = sym (moved_if e ∙ ap (λ t. known_if t (put_control put e)) h)

  -- ---- conditions

  abbrev used : Condition → Condition
  used c = used_condition (putting (λ x. x) put) c

  sides : (f : Control → Control → Condition) (a b : Control)
      → both f (moved m a) (moved m b)
      ≡ known_if (knows m a && knows m b) (f (put_control put a) (put_control put b))
  sides f a b =
      ap₂ (both f) (moved_if a) (moved_if b)
      ∙ both_if f (knows m a) (knows m b) (put_control put a) (put_control put b)

  halves : (f : Condition → Condition → Condition) (c d : Condition)
      → moved_condition m c ≡ known_if (knows_condition m c) (used c)
      → moved_condition m d ≡ known_if (knows_condition m d) (used d)
      → both f (moved_condition m c) (moved_condition m d)
      ≡ known_if (knows_condition m c && knows_condition m d) (f (used c) (used d))
  halves f c d h l =
      ap₂ (both f) h l ∙ both_if f (knows_condition m c) (knows_condition m d) (used c) (used d)

  condition_if : (c : Condition) → moved_condition m c ≡ known_if (knows_condition m c) (used c)
  condition_if True = refl
  condition_if False = refl
  condition_if (Flag x) = truth_if x (m.flag x)
  condition_if (FieldFlag f) = refl
  condition_if (Lt a b) = sides Lt a b
  condition_if (Le a b) = sides Le a b
  condition_if (Gt a b) = sides Gt a b
  condition_if (Ge a b) = sides Ge a b
  condition_if (Eq a b) = sides Eq a b
  condition_if (And c d) = halves And c d (condition_if c) (condition_if d)
  condition_if (Or c d) = halves Or c d (condition_if c) (condition_if d)

  pub condition_moved : (c r : Condition) → knows_condition m c ≡ true
      → r ≡ used_condition (putting (λ x. x) put) c
      → Some r ≡ moved_condition m c
  condition_moved c r h made =
      ap (λ d. Some d) made ∙ sym (condition_if c ∙ ap (λ t. known_if t (used c)) h)

  pub condition_unknown : (c : Condition) → knows_condition m c ≡ false
      → None ≡ moved_condition m c
  condition_unknown c h = sym (condition_if c ∙ ap (λ t. known_if t (used c)) h)
