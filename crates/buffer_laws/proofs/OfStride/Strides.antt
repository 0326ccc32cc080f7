-- What does not look at a stride is the same whatever the strides are.
use Rattle.std.proofs.Common.{◌≡◌, ℕ, ℤ, pos, neg_ℤ, ◌+ℤ◌, ◌-ℤ◌, ◌*ℤ◌, ◌==◌, int_lt, int_le, Bool}
use Rattle.std.proofs.Common.{true, false, true≢false, ◌&&◌, ◌||◌, List, [], ◌∷◌, Option, Some, None}
use Rattle.std.proofs.Common.{IfSome, option_map, get_or, refl, sym, ap, ap₂, ◌∙◌, subst, eq-eqb}
use Rattle.std.proofs.Math.Path.{fun_ext}
use Rattle.std.specs.Ordering.{int_eq}
use Rattle.std.specs.Int.{int_div_euclid, int_rem_euclid}
use Rattle.exo_tree.specs.Tree.{Control, Lit, Var, Field, StrideOf, Neg, Add, Sub, Mul, Div, Mod}
use Rattle.exo_tree.specs.Tree.{Condition, True, False, Flag, FieldFlag, Lt, Le, Gt, Ge, Eq, And, Or}
use Rattle.exo_tree.specs.Tree.{Datum, Const, Read, Negated, Relu, Plus, Minus, Times, Select}
use Rattle.exo_tree.specs.Tree.{Coord, At, Span, Argument, ControlArg, ConditionArg, Whole, Window}
use Rattle.exo_meaning.specs.Value.{Value, stored_as, on_one, on_two, on_four, relu, selected}
use Rattle.exo_meaning.specs.Scene.{is_set, Shape, Seen, Side, Point, Range, then_do, number}
use Rattle.exo_meaning.specs.Scene.{numbers, holds, stride_at, strides_seen, strides_of, where_true}
use Rattle.exo_meaning.specs.Scene.{window, narrowed, cell_at, is_below}
use Rattle.exo_meaning.specs.State.{State, Place, place, held, changed, put, value}
use Rattle.exo_meaning.specs.Run.{argument_number}
use Rattle.exo_meaning.specs.Calls.{GivenNumber, GivenView, given, all_given, truth}
use Rattle.exo_meaning.specs.Laws.{HasRoots}
use Rattle.exo_meaning.specs.Refines.{Both}
use Rattle.exo_meaning.proofs.Frame.{or_parts}
use Rattle.inplace_laws.specs.Uses.{in_control, in_controls, in_condition, in_datum, in_coords}
use Rattle.buffer_laws.specs.Stride.Strides.{argument_uses, arguments_use, HaveOneSize}
use Rattle.buffer_laws.specs.Stride.Strides.{SameButStrides, WhereBoth, UsesNone}
use Rattle.buffer_laws.specs.Staging.Alone.{has_root}
use Rattle.inplace_laws.specs.CallInPlace.{no_name}

-- ---- both ends

pub where_none : {A B : Type 0} (R : A → B → Type 0) (o : Option A) → WhereBoth R o None
where_none R None = tt
where_none R (Some a) = tt

pub where_then : {A B C D : Type 0} (R : A → B → Type 0) (Q : C → D → Type 0) (o : Option A)
    (p : Option B) (f : A → Option C) (g : B → Option D) → WhereBoth R o p
    → ((a : A) (b : B) → R a b → WhereBoth Q (f a) (g b))
    → WhereBoth Q (then_do o f) (then_do p g)
where_then R Q None p f g h k = tt
where_then R Q (Some a) None f g h k = where_none Q (f a)
where_then R Q (Some a) (Some b) f g h k = k a b h

pub where_map : {A B C D : Type 0} (R : A → B → Type 0) (Q : C → D → Type 0) (o : Option A)
    (p : Option B) (f : A → C) (g : B → D) → WhereBoth R o p
    → ((a : A) (b : B) → R a b → Q (f a) (g b)) → WhereBoth Q (option_map f o) (option_map g p)
where_map R Q None p f g h k = tt
where_map R Q (Some a) None f g h k = tt
where_map R Q (Some a) (Some b) f g h k = k a b h

pub where_and : {A B : Type 0} (P : A → Type 0) (R : A → B → Type 0) (o : Option A) (p : Option B)
    → IfSome o P → WhereBoth R o p → WhereBoth (λ a b. P a × R a b) o p
where_and P R None p h k = tt
where_and P R (Some a) None h k = tt
where_and P R (Some a) (Some b) h k = (h, k)

pub where_tests : {A B : Type 0} (R : A → B → Type 0) (t u : Bool) (o : Option A) (p : Option B)
    → WhereBoth R o p → WhereBoth R (where_true t o) (where_true u p)
where_tests R false u o p h = tt
where_tests R true false o p h = where_none R o
where_tests R true true o p h = h

pub where_equal : {A : Type 0} (o q : Option A) → o ≡ q → WhereBoth (λ a b. a ≡ b) o q
where_equal o q e = subst (WhereBoth (λ a b. a ≡ b) o) e (same o)
  where
    same : {A : Type 0} (o : Option A) → WhereBoth (λ a b. a ≡ b) o o
    same None = tt
    same (Some a) = refl

-- ---- uses in parts

pub first_none : (blind f g : ℕ → Bool) → UsesNone blind (λ y. f y || g y) → UsesNone blind f
first_none blind f g h y k = (or_parts (f y) (g y) (h y k)).0

pub second_none : (blind f g : ℕ → Bool) → UsesNone blind (λ y. f y || g y) → UsesNone blind g
second_none blind f g h y k = (or_parts (f y) (g y) (h y k)).1

module _ (root : ℕ → ℕ) (blind : ℕ → Bool) (s t : State) (roots : HasRoots root s.scene)
    (h : SameButStrides blind s t) where
  -- whether it looks at a stride of y
  abbrev control_of : Control → ℕ → Bool
  control_of e y = in_control no_name (has_root root y) e

  abbrev controls_of : List Control → ℕ → Bool
  controls_of es y = in_controls no_name (has_root root y) es

  abbrev condition_of : Condition → ℕ → Bool
  condition_of c y = in_condition no_name (has_root root y) c

  abbrev coords_of : List Coord → ℕ → Bool
  coords_of cs y = in_coords no_name (has_root root y) cs

  abbrev datum_of : Datum → ℕ → Bool
  datum_of d y = in_datum no_name (has_root root y) d

  pub strides_same : (seen : Seen) → blind seen.buffer ≡ false
      → strides_seen s.scene seen ≡ strides_seen t.scene seen
  strides_same seen k = ap (λ o. elim o as (λ x. List ℤ)
      [ None ↦ [] | Some shape ↦ strides_of seen.sides shape.strides ]) (h.buffers seen.buffer k)

  -- a name whose strides are looked at sees no blind buffer
  open_name : (x : ℕ) → UsesNone blind (λ y. y == root x) → (seen : Seen)
      → s.scene.views x ≡ Some seen → (b : Bool) → blind seen.buffer ≡ b → b ≡ false
  open_name x u seen i false k = refl
  open_name x u seen i true k = absurd (true≢false
      (sym (eq-eqb seen.buffer (root x) (roots x seen i)) ∙ u seen.buffer k))

  stride_same : (x k : ℕ) → UsesNone blind (λ y. y == root x)
      → stride_at s.scene (s.scene.views x) k ≡ stride_at t.scene (t.scene.views x) k
  stride_same x k u = go (s.scene.views x) refl ∙ ap (λ v. stride_at t.scene (v x) k) h.views
    where
      go : (o : Option Seen) → s.scene.views x ≡ o → stride_at s.scene o k ≡ stride_at t.scene o k
      go None i = refl
      go (Some seen) i = ap (λ l. get_or l k (pos 0))
          (strides_same seen (open_name x u seen i (blind seen.buffer) refl))

  pub number_same : (e : Control) → UsesNone blind (control_of e)
      → number s.scene e ≡ number t.scene e
  number_same (Lit n) u = refl
  number_same (Var x) u = ap (λ f. f x) h.control
  number_same (Field f) u = ap (λ g. g f) h.fields
  number_same (StrideOf x k) u = stride_same x k u
  number_same (Neg a) u = ap neg_ℤ (number_same a u)
  number_same (Add a b) u = ap₂ ◌+ℤ◌
      (number_same a (first_none blind (control_of a) (control_of b) u))
      (number_same b (second_none blind (control_of a) (control_of b) u))
  number_same (Sub a b) u = ap₂ ◌-ℤ◌
      (number_same a (first_none blind (control_of a) (control_of b) u))
      (number_same b (second_none blind (control_of a) (control_of b) u))
  number_same (Mul a b) u = ap₂ ◌*ℤ◌
      (number_same a (first_none blind (control_of a) (control_of b) u))
      (number_same b (second_none blind (control_of a) (control_of b) u))
  number_same (Div a c) u = ap (λ n. int_div_euclid n c) (number_same a u)
  number_same (Mod a c) u = ap (λ n. int_rem_euclid n c) (number_same a u)

  pub numbers_same : (es : List Control) → UsesNone blind (controls_of es)
      → numbers s.scene es ≡ numbers t.scene es
  numbers_same [] u = refl
  numbers_same (e ∷ es) u = ap₂ ◌∷◌
      (number_same e (first_none blind (control_of e) (controls_of es) u))
      (numbers_same es (second_none blind (control_of e) (controls_of es) u))

  two_same : (f : ℤ → ℤ → Bool) (a b : Control)
      → UsesNone blind (λ y. control_of a y || control_of b y)
      → f (number s.scene a) (number s.scene b) ≡ f (number t.scene a) (number t.scene b)
  two_same f a b u = ap₂ f (number_same a (first_none blind (control_of a) (control_of b) u))
      (number_same b (second_none blind (control_of a) (control_of b) u))

  pub holds_same : (c : Condition) → UsesNone blind (condition_of c)
      → holds s.scene c ≡ holds t.scene c
  holds_same True u = refl
  holds_same False u = refl
  holds_same (Flag x) u = ap (λ f. is_set (f x)) h.control
  holds_same (FieldFlag f) u = ap (λ g. is_set (g f)) h.fields
  holds_same (Lt a b) u = two_same int_lt a b u
  holds_same (Le a b) u = two_same int_le a b u
  holds_same (Gt a b) u = two_same (λ m n. int_lt n m) a b u
  holds_same (Ge a b) u = two_same (λ m n. int_le n m) a b u
  holds_same (Eq a b) u = two_same int_eq a b u
  holds_same (And c d) u = ap₂ ◌&&◌
      (holds_same c (first_none blind (condition_of c) (condition_of d) u))
      (holds_same d (second_none blind (condition_of c) (condition_of d) u))
  holds_same (Or c d) u = ap₂ ◌||◌
      (holds_same c (first_none blind (condition_of c) (condition_of d) u))
      (holds_same d (second_none blind (condition_of c) (condition_of d) u))

  narrowed_same : (sides : List Side) (coords : List Coord) → UsesNone blind (coords_of coords)
      → narrowed s.scene sides coords ≡ narrowed t.scene sides coords
  narrowed_same [] [] u = refl
  narrowed_same [] (c ∷ cs) u = refl
  narrowed_same (Point p ∷ sides) cs u = ap (option_map (λ rest. Point p ∷ rest))
      (narrowed_same sides cs u)
  narrowed_same (Range lo n ∷ sides) [] u = refl
  narrowed_same (Range lo n ∷ sides) (At a ∷ cs) u =
      ap₂ (λ i o. where_true (is_below i n) (option_map (λ rest. Point (lo +ℤ i) ∷ rest) o))
      (number_same a (first_none blind (control_of a) (coords_of cs) u))
      (narrowed_same sides cs (second_none blind (control_of a) (coords_of cs) u))
  narrowed_same (Range lo n ∷ sides) (Span a b ∷ cs) u =
      let v = second_none blind (control_of a) (λ y. control_of b y || coords_of cs y) u in
      ap (λ i. where_true (int_le (pos 0) i && int_lt i (number s.scene b)
      && int_le (number s.scene b) n) (option_map (λ rest.
      Range (lo +ℤ i) (number s.scene b -ℤ i) ∷ rest) (narrowed s.scene sides cs)))
      (number_same a (first_none blind (control_of a) (λ y. control_of b y || coords_of cs y) u))
      ∙ ap₂ (λ j o. where_true (int_le (pos 0) (number t.scene a) && int_lt (number t.scene a) j
      && int_le j n) (option_map (λ rest.
      Range (lo +ℤ number t.scene a) (j -ℤ number t.scene a) ∷ rest) o))
      (number_same b (first_none blind (control_of b) (coords_of cs) v))
      (narrowed_same sides cs (second_none blind (control_of b) (coords_of cs) v))

  pub window_same : (x : ℕ) (coords : List Coord) → UsesNone blind (coords_of coords)
      → window s.scene x coords ≡ window t.scene x coords
  window_same x coords u = ap₂ (λ v f. then_do (v x) (λ seen. option_map (λ sides. record {
    buffer = seen.buffer;
    sides = sides;
  }) (f seen))) h.views (fun_ext (λ (seen : Seen). narrowed_same seen.sides coords u))

  pub place_same : (x : ℕ) (is : List Control) → UsesNone blind (controls_of is)
      → place s.scene x is ≡ place t.scene x is
  place_same x is u = ap₂ (λ v js. then_do (v x) (λ seen. option_map (λ at. record {
    buffer = seen.buffer;
    at = at;
  }) (cell_at seen.sides js))) h.views (numbers_same is u)

  pub value_same : (d : Datum) → UsesNone blind (datum_of d) → value s d ≡ value t d
  value_same (Const n) u = refl
  value_same (Read x is) u = ap₂ (λ c o. option_map (held c) o) h.cells (place_same x is u)
  value_same (Negated a) u = ap (option_map (on_one (λ m. pos 0 -ℤ m))) (value_same a u)
  value_same (Relu a) u = ap (option_map (on_one relu)) (value_same a u)
  value_same (Plus a b) u = ap₂ (λ o q. then_do o (λ v. option_map (on_two ◌+ℤ◌ v) q))
      (value_same a (first_none blind (datum_of a) (datum_of b) u))
      (value_same b (second_none blind (datum_of a) (datum_of b) u))
  value_same (Minus a b) u = ap₂ (λ o q. then_do o (λ v. option_map (on_two ◌-ℤ◌ v) q))
      (value_same a (first_none blind (datum_of a) (datum_of b) u))
      (value_same b (second_none blind (datum_of a) (datum_of b) u))
  value_same (Times a b) u = ap₂ (λ o q. then_do o (λ v. option_map (on_two ◌*ℤ◌ v) q))
      (value_same a (first_none blind (datum_of a) (datum_of b) u))
      (value_same b (second_none blind (datum_of a) (datum_of b) u))
  value_same (Select a b c d) u =
      let v = second_none blind (datum_of a)
      (λ y. datum_of b y || (datum_of c y || datum_of d y)) u in
      let w = second_none blind (datum_of b) (λ y. datum_of c y || datum_of d y) v in
      ap₂ (λ o q. then_do o (λ x. then_do q (λ m. then_do (value s c) (λ y.
      option_map (on_four selected x m y) (value s d)))))
      (value_same a (first_none blind (datum_of a)
      (λ y. datum_of b y || (datum_of c y || datum_of d y)) u))
      (value_same b (first_none blind (datum_of b) (λ y. datum_of c y || datum_of d y) v))
      ∙ ap₂ (λ o q. then_do (value t a) (λ x. then_do (value t b) (λ m. then_do o (λ y.
      option_map (on_four selected x m y) q))))
      (value_same c (first_none blind (datum_of c) (datum_of d) w))
      (value_same d (second_none blind (datum_of c) (datum_of d) w))

  -- ---- arguments

  pub argument_same : (g : Argument) → UsesNone blind (λ y. argument_uses root y g)
      → argument_number s.scene g ≡ argument_number t.scene g
  argument_same (ControlArg e) u = ap Some (number_same e u)
  argument_same (ConditionArg c) u = ap (λ b. Some (truth b)) (holds_same c u)
  argument_same (Whole x) u = refl
  argument_same (Window x coords) u = refl

  given_same : (g : Argument) → UsesNone blind (λ y. argument_uses root y g)
      → given s.scene g ≡ given t.scene g
  given_same (ControlArg e) u = ap (λ n. Some (GivenNumber n)) (number_same e u)
  given_same (ConditionArg c) u = ap (λ b. Some (GivenNumber (truth b))) (holds_same c u)
  given_same (Whole x) u = ap (λ v. option_map GivenView (v x)) h.views
  given_same (Window x coords) u = ap (option_map GivenView) (window_same x coords u)

  pub all_given_same : (gs : List Argument) → UsesNone blind (λ y. arguments_use root y gs)
      → all_given s.scene gs ≡ all_given t.scene gs
  all_given_same [] u = refl
  all_given_same (g ∷ gs) u = ap₂ (λ o q. then_do o (λ z. option_map (λ zs. z ∷ zs) q))
      (given_same g (first_none blind (λ y. argument_uses root y g)
      (λ y. arguments_use root y gs) u))
      (all_given_same gs (second_none blind (λ y. argument_uses root y g)
      (λ y. arguments_use root y gs) u))

  -- ---- stores

  put_where : (f : Value → Value) (p : Place)
      → WhereBoth (SameButStrides blind) (put s f p) (put t f p)
  put_where f p = go (s.scene.buffers p.buffer) (t.scene.buffers p.buffer) (h.sizes p.buffer)
    where
      go : (o q : Option Shape) → Both HaveOneSize o q → WhereBoth (SameButStrides blind)
          (option_map (λ shape. record s {
            cells = changed s.cells p (λ old. stored_as shape.cell (f old));
          }) o) (option_map (λ shape. record t {
            cells = changed t.cells p (λ old. stored_as shape.cell (f old));
          }) q)
      go None q k = tt
      go (Some a) None k = tt
      go (Some a) (Some b) k = record {
        control = h.control;
        views = h.views;
        fields = h.fields;
        buffers = h.buffers;
        sizes = h.sizes;
        cells = ap₂ (λ c e. changed c p (λ old. stored_as e (f old))) h.cells k.cell;
      }

  pub store_where : (x : ℕ) (is : List Control) (d : Datum) (f : Value → Value → Value)
      → UsesNone blind (λ y. controls_of is y || datum_of d y)
      → WhereBoth (SameButStrides blind)
      (then_do (place s.scene x is) (λ p. then_do (value s d) (λ v. put s (f v) p)))
      (then_do (place t.scene x is) (λ p. then_do (value t d) (λ v. put t (f v) p)))
  store_where x is d f u = go (place s.scene x is) (place t.scene x is) (value s d) (value t d)
      (place_same x is (first_none blind (controls_of is) (datum_of d) u))
      (value_same d (second_none blind (controls_of is) (datum_of d) u))
    where
      go : (o q : Option Place) (v w : Option Value) → o ≡ q → v ≡ w
          → WhereBoth (SameButStrides blind) (then_do o (λ p. then_do v (λ n. put s (f n) p)))
          (then_do q (λ p. then_do w (λ n. put t (f n) p)))
      go o q v w i j = where_then (λ a b. a ≡ b) (SameButStrides blind) o q
          (λ p. then_do v (λ n. put s (f n) p)) (λ p. then_do w (λ n. put t (f n) p))
          (where_equal o q i) (λ p r k. where_then (λ a b. a ≡ b) (SameButStrides blind) v w
          (λ n. put s (f n) p) (λ n. put t (f n) r) (where_equal v w j) (λ n m l.
          at_same n m p r k l))
        where
          at_same : (n m : Value) (p r : Place) → p ≡ r → n ≡ m
              → WhereBoth (SameButStrides blind) (put s (f n) p) (put t (f m) r)
          at_same n m p r k l = subst (λ z. WhereBoth (SameButStrides blind) (put s (f n) p)
              (put t (f z) r)) l (subst (λ z. WhereBoth (SameButStrides blind) (put s (f n) p)
              (put t (f n) z)) k (put_where (f n) p))
