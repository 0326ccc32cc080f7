-- A run does not see ids that the block does not mention.
use Rattle.std.proofs.Common.{◌≡◌, ℕ, ℤ, pos, neg_ℤ, ◌+ℤ◌, ◌-ℤ◌, ◌*ℤ◌, ◌==◌, int_lt, int_le, Bool, true, false, cond, ◌&&◌, ◌||◌, List, [], ◌∷◌, Option, Some, None, IfSome, option_map, get_or, refl, sym, ap, ap₂, ◌∙◌, subst}
use Rattle.std.proofs.Math.Path.{fun_ext}
use Rattle.std.specs.Ordering.{int_eq}
use Rattle.std.specs.Int.{int_div_euclid, int_rem_euclid}
use Rattle.exo_tree.specs.Tree.{Cell, Param, ParamKind, ControlParam, TensorParam, WindowParam, Control, Lit, Var, Field, StrideOf, Neg, Add, Sub, Mul, Div, Mod, Condition, True, False, Flag, FieldFlag, Lt, Le, Gt, Ge, Eq, And, Or, Datum, Const, Read, Negated, Relu, Plus, Minus, Times, Select, Coord, At, Span, Argument, ControlArg, ConditionArg, Whole, Window, Statement, Assign, Reduce, Config, Pass, If, For, Alloc, View, Call, Block, end, next}
use Rattle.exo_meaning.specs.Value.{Value, Undefined, stored_as, on_one, on_two, on_four, relu, selected}
use Rattle.exo_meaning.specs.Scene.{is_set, Shape, Seen, Side, Point, Range, then_do, number, numbers, holds, stride_at, strides_seen, strides_of, where_true, window, narrowed, cell_at, updated, is_below, whole, extents, index_of}
use Rattle.exo_meaning.specs.State.{State, Cells, Place, place, held, is_there, same_index, changed, put, value, kept, left, scoped, on_scene, with_control, with_field, with_view, with_contents, with_buffer}
use Rattle.exo_meaning.specs.Run.{World, run, step, argument_number, turn, turns, turns_of, range, count, choose, call_to, tensor}
use Rattle.exo_meaning.specs.Calls.{Callee, given_all_apart, keeps_apart, copied_call, Given, GivenNumber, GivenView, given, all_given, suits, all_positive, truth, bind_numbers, copy_in, bind_buffer, bind_buffers, bare, entered, held_at, value_or, copy_back, copied_back, returned, run_asserted, call}
use Rattle.exo_meaning.specs.Refines.{Both, Respects}
use Rattle.exo_meaning.specs.Unseen.{in_control, in_controls, in_condition, in_datum, in_coords, in_argument, in_arguments, in_statement, in_block, SameBut, RunsIgnoreUnmentioned}
use Rattle.exo_meaning.proofs.Both.{both_then, both_map, both_then_same, both_map_same, both_where}
use Rattle.exo_meaning.proofs.Frame.{or_parts, if_then, if_map, if_weaken, any, here}

module _ (hidden : ℕ → Bool) (s t : State) (h : SameBut hidden s t) where
  -- the strides of a name that is not hidden
  strides_same : (seen : Seen) → hidden seen.buffer ≡ false → strides_seen s.scene seen ≡ strides_seen t.scene seen
  strides_same seen k = ap (λ o. elim o as (λ x. List ℤ) [ None ↦ [] | Some shape ↦ strides_of seen.sides shape.strides ]) (h.buffers seen.buffer k)

  stride_same : (x k : ℕ) → hidden x ≡ false → stride_at s.scene (s.scene.views x) k ≡ stride_at t.scene (t.scene.views x) k
  stride_same x k e = go (s.scene.views x) refl ∙ ap (λ o. stride_at t.scene o k) (h.views x e)
    where
      go : (o : Option Seen) → s.scene.views x ≡ o → stride_at s.scene o k ≡ stride_at t.scene o k
      go None i = refl
      go (Some seen) i = ap (λ l. get_or l k (pos 0)) (strides_same seen (h.seen x seen e i))

  pub number_same : (e : Control) → in_control hidden e ≡ false → number s.scene e ≡ number t.scene e
  number_same (Lit n) k = refl
  number_same (Var x) k = h.control x k
  number_same (Field f) k = ap (λ g. g f) h.fields
  number_same (StrideOf x n) k = stride_same x n k
  number_same (Neg a) k = ap neg_ℤ (number_same a k)
  number_same (Add a b) k = let p = or_parts (in_control hidden a) (in_control hidden b) k in ap₂ ◌+ℤ◌ (number_same a p.0) (number_same b p.1)
  number_same (Sub a b) k = let p = or_parts (in_control hidden a) (in_control hidden b) k in ap₂ ◌-ℤ◌ (number_same a p.0) (number_same b p.1)
  number_same (Mul a b) k = let p = or_parts (in_control hidden a) (in_control hidden b) k in ap₂ ◌*ℤ◌ (number_same a p.0) (number_same b p.1)
  number_same (Div a c) k = ap (λ n. int_div_euclid n c) (number_same a k)
  number_same (Mod a c) k = ap (λ n. int_rem_euclid n c) (number_same a k)

  pub numbers_same : (es : List Control) → in_controls hidden es ≡ false → numbers s.scene es ≡ numbers t.scene es
  numbers_same [] k = refl
  numbers_same (e ∷ es) k = let p = or_parts (in_control hidden e) (in_controls hidden es) k in ap₂ ◌∷◌ (number_same e p.0) (numbers_same es p.1)

  two_same : {A : Type 0} (f : ℤ → ℤ → A) (a b : Control) → (in_control hidden a || in_control hidden b) ≡ false → f (number s.scene a) (number s.scene b) ≡ f (number t.scene a) (number t.scene b)
  two_same f a b k = let p = or_parts (in_control hidden a) (in_control hidden b) k in ap₂ f (number_same a p.0) (number_same b p.1)

  pub holds_same : (c : Condition) → in_condition hidden c ≡ false → holds s.scene c ≡ holds t.scene c
  holds_same True k = refl
  holds_same False k = refl
  holds_same (Flag x) k = ap is_set (h.control x k)
  holds_same (FieldFlag f) k = ap (λ g. is_set (g f)) h.fields
  holds_same (Lt a b) k = two_same int_lt a b k
  holds_same (Le a b) k = two_same int_le a b k
  holds_same (Gt a b) k = two_same (λ m n. int_lt n m) a b k
  holds_same (Ge a b) k = two_same (λ m n. int_le n m) a b k
  holds_same (Eq a b) k = two_same int_eq a b k
  holds_same (And c d) k = let p = or_parts (in_condition hidden c) (in_condition hidden d) k in ap₂ ◌&&◌ (holds_same c p.0) (holds_same d p.1)
  holds_same (Or c d) k = let p = or_parts (in_condition hidden c) (in_condition hidden d) k in ap₂ ◌||◌ (holds_same c p.0) (holds_same d p.1)

  narrowed_same : (sides : List Side) (coords : List Coord) → in_coords hidden coords ≡ false → narrowed s.scene sides coords ≡ narrowed t.scene sides coords
  narrowed_same [] [] k = refl
  narrowed_same [] (c ∷ cs) k = refl
  narrowed_same (Point p ∷ sides) cs k = ap (option_map (λ rest. Point p ∷ rest)) (narrowed_same sides cs k)
  narrowed_same (Range lo n ∷ sides) [] k = refl
  narrowed_same (Range lo n ∷ sides) (At a ∷ cs) k =
      let p = or_parts (in_control hidden a) (in_coords hidden cs) k in
      ap₂ (λ i o. where_true (is_below i n) (option_map (λ rest. Point (lo +ℤ i) ∷ rest) o)) (number_same a p.0) (narrowed_same sides cs p.1)
  narrowed_same (Range lo n ∷ sides) (Span a b ∷ cs) k =
      let p = or_parts (in_control hidden a) (in_control hidden b || in_coords hidden cs) k in
      let q = or_parts (in_control hidden b) (in_coords hidden cs) p.1 in
      ap (λ i. where_true (int_le (pos 0) i && int_lt i (number s.scene b) && int_le (number s.scene b) n) (option_map (λ rest. Range (lo +ℤ i) (number s.scene b -ℤ i) ∷ rest) (narrowed s.scene sides cs))) (number_same a p.0)
      ∙ ap₂ (λ j o. where_true (int_le (pos 0) (number t.scene a) && int_lt (number t.scene a) j && int_le j n) (option_map (λ rest. Range (lo +ℤ number t.scene a) (j -ℤ number t.scene a) ∷ rest) o)) (number_same b q.0) (narrowed_same sides cs q.1)

  window_same : (x : ℕ) (coords : List Coord) → (hidden x || in_coords hidden coords) ≡ false → window s.scene x coords ≡ window t.scene x coords
  window_same x coords k =
      let p = or_parts (hidden x) (in_coords hidden coords) k in
      ap₂ (λ o f. then_do o (λ seen. option_map (λ sides. record { buffer = seen.buffer; sides = sides }) (f seen))) (h.views x p.0) (fun_ext (λ seen. narrowed_same seen.sides coords p.1))

  place_same : (x : ℕ) (is : List Control) → hidden x ≡ false → in_controls hidden is ≡ false → place s.scene x is ≡ place t.scene x is
  place_same x is e k = ap₂ (λ o js. then_do o (λ seen. option_map (λ at. record { buffer = seen.buffer; at = at }) (cell_at seen.sides js))) (h.views x e) (numbers_same is k)

  -- the place is in a buffer that is not hidden
  place_open : (x : ℕ) (is : List Control) → hidden x ≡ false → IfSome (place s.scene x is) (λ p. hidden p.buffer ≡ false)
  place_open x is e = if_then (λ seen. hidden seen.buffer ≡ false) (λ p. hidden p.buffer ≡ false) (s.scene.views x) _ (if_weaken (λ seen. s.scene.views x ≡ Some seen) (λ seen. hidden seen.buffer ≡ false) (s.scene.views x) (here (s.scene.views x)) (λ seen i. h.seen x seen e i)) (λ seen i.
      if_map (λ at. Unit {0}) (λ p. hidden p.buffer ≡ false) (cell_at seen.sides (numbers s.scene is)) (λ at. record { buffer = seen.buffer; at = at }) (any (cell_at seen.sides (numbers s.scene is))) (λ at u. i))

  window_open : (x : ℕ) (coords : List Coord) → hidden x ≡ false → IfSome (window s.scene x coords) (λ seen. hidden seen.buffer ≡ false)
  window_open x coords e = if_then (λ seen. hidden seen.buffer ≡ false) (λ seen. hidden seen.buffer ≡ false) (s.scene.views x) _ (if_weaken (λ seen. s.scene.views x ≡ Some seen) (λ seen. hidden seen.buffer ≡ false) (s.scene.views x) (here (s.scene.views x)) (λ seen i. h.seen x seen e i)) (λ seen i.
      if_map (λ sides. Unit {0}) (λ z. hidden z.buffer ≡ false) (narrowed s.scene seen.sides coords) (λ sides. record { buffer = seen.buffer; sides = sides }) (any (narrowed s.scene seen.sides coords)) (λ sides u. i))

  held_alike : (o : Option Place) → IfSome o (λ p. hidden p.buffer ≡ false) → option_map (held s.cells) o ≡ option_map (held t.cells) o
  held_alike None k = refl
  held_alike (Some p) k = ap (λ c. Some (c p.at)) (h.cells p.buffer k)

  value_same : (e : Datum) → in_datum hidden e ≡ false → value s e ≡ value t e
  value_same (Const n) k = refl
  value_same (Read x is) k = let p = or_parts (hidden x) (in_controls hidden is) k in held_alike (place s.scene x is) (place_open x is p.0) ∙ ap (option_map (held t.cells)) (place_same x is p.0 p.1)
  value_same (Negated a) k = ap (option_map (on_one (λ m. pos 0 -ℤ m))) (value_same a k)
  value_same (Relu a) k = ap (option_map (on_one relu)) (value_same a k)
  value_same (Plus a b) k = let p = or_parts (in_datum hidden a) (in_datum hidden b) k in ap₂ (λ o q. then_do o (λ u. option_map (on_two ◌+ℤ◌ u) q)) (value_same a p.0) (value_same b p.1)
  value_same (Minus a b) k = let p = or_parts (in_datum hidden a) (in_datum hidden b) k in ap₂ (λ o q. then_do o (λ u. option_map (on_two ◌-ℤ◌ u) q)) (value_same a p.0) (value_same b p.1)
  value_same (Times a b) k = let p = or_parts (in_datum hidden a) (in_datum hidden b) k in ap₂ (λ o q. then_do o (λ u. option_map (on_two ◌*ℤ◌ u) q)) (value_same a p.0) (value_same b p.1)
  value_same (Select a b c d) k =
      let p = or_parts (in_datum hidden a) (in_datum hidden b || (in_datum hidden c || in_datum hidden d)) k in
      let q = or_parts (in_datum hidden b) (in_datum hidden c || in_datum hidden d) p.1 in
      let z = or_parts (in_datum hidden c) (in_datum hidden d) q.1 in
      ap₂ (λ o w. then_do o (λ x. then_do w (λ v. then_do (value s c) (λ y. option_map (on_four selected x v y) (value s d))))) (value_same a p.0) (value_same b q.0)
      ∙ ap₂ (λ o w. then_do (value t a) (λ x. then_do (value t b) (λ v. then_do o (λ y. option_map (on_four selected x v y) w)))) (value_same c z.0) (value_same d z.1)

  -- ---- stores

  put_alike : (f : Value → Value) (p : Place) → hidden p.buffer ≡ false → Both (SameBut hidden) (put s f p) (put t f p)
  put_alike f p e = subst (λ o. Both (SameBut hidden) (put s f p) (option_map (λ shape. record t { cells = changed t.cells p (λ old. stored_as shape.cell (f old)) }) o)) (h.buffers p.buffer e) (both_map_same (SameBut hidden) (s.scene.buffers p.buffer) _ _ (λ shape. record {
    control = h.control;
    buffers = h.buffers;
    views = h.views;
    fields = h.fields;
    seen = h.seen;
    cells = λ x k. ap (λ c. λ (at : List ℤ). cond (is_there p x at) (stored_as shape.cell (f (c at))) (c at)) (h.cells x k);
  }))

  store_alike : (x : ℕ) (is : List Control) (e : Datum) (f : Value → Value → Value) → (hidden x || (in_controls hidden is || in_datum hidden e)) ≡ false → Both (SameBut hidden) (then_do (place s.scene x is) (λ p. then_do (value s e) (λ v. put s (f v) p))) (then_do (place t.scene x is) (λ p. then_do (value t e) (λ v. put t (f v) p)))
  store_alike x is e f k =
      let p = or_parts (hidden x) (in_controls hidden is || in_datum hidden e) k in
      let q = or_parts (in_controls hidden is) (in_datum hidden e) p.1 in
      subst (λ o. Both (SameBut hidden) (then_do (place s.scene x is) (λ p. then_do (value s e) (λ v. put s (f v) p))) (then_do o (λ p. then_do (value t e) (λ v. put t (f v) p)))) (place_same x is p.0 q.0)
      (subst (λ o. Both (SameBut hidden) (then_do (place s.scene x is) (λ p. then_do (value s e) (λ v. put s (f v) p))) (then_do (place s.scene x is) (λ p. then_do o (λ v. put t (f v) p)))) (value_same e q.1)
      (go (place s.scene x is) (place_open x is p.0) (value s e)))
    where
      go : (o : Option Place) → IfSome o (λ p. hidden p.buffer ≡ false) → (w : Option Value) → Both (SameBut hidden) (then_do o (λ p. then_do w (λ v. put s (f v) p))) (then_do o (λ p. then_do w (λ v. put t (f v) p)))
      go None i w = tt
      go (Some p) i None = tt
      go (Some p) i (Some v) = put_alike (f v) p i

  pub control_alike : (i : ℕ) (n : ℤ) → SameBut hidden (on_scene (with_control i n) s) (on_scene (with_control i n) t)
  control_alike i n = record {
    control = λ x k. ap (λ m. cond (x == i) n m) (h.control x k);
    buffers = h.buffers;
    views = h.views;
    fields = h.fields;
    cells = h.cells;
    seen = h.seen;
  }

  field_alike : (f : ℕ) (n : ℤ) → SameBut hidden (on_scene (with_field f n) s) (on_scene (with_field f n) t)
  field_alike f n = record {
    control = h.control;
    buffers = h.buffers;
    views = h.views;
    cells = h.cells;
    seen = h.seen;
    fields = ap (λ g. updated g f n) h.fields;
  }

  view_alike : (w : ℕ) (z : Seen) → hidden z.buffer ≡ false → SameBut hidden (on_scene (with_view w z) s) (on_scene (with_view w z) t)
  view_alike w z e = record {
    control = h.control;
    buffers = h.buffers;
    fields = h.fields;
    cells = h.cells;
    views = λ x k. ap (λ o. cond (x == w) (Some z) o) (h.views x k);
    seen = λ x y k i. go x y k (x == w) i;
  }
    where
      go : (x : ℕ) (y : Seen) → hidden x ≡ false → (b : Bool) → cond b (Some z) (s.scene.views x) ≡ Some y → hidden y.buffer ≡ false
      go x y k true i = ap (λ (u : Seen). hidden u.buffer) (sym (one_value z y i)) ∙ e
        where
          one_value : {A : Type 0} (a b : A) → Some a ≡ Some b → a ≡ b
          one_value a b e = cc
      go x y k false i = h.seen x y k i

  made_alike : (x : ℕ) (shape : Shape) → hidden x ≡ false → SameBut hidden (with_contents x (λ at. Undefined) (on_scene (with_buffer x shape) s)) (with_contents x (λ at. Undefined) (on_scene (with_buffer x shape) t))
  made_alike x shape e =
      let v = view_alike x (record { buffer = x; sides = whole shape.dims }) e in
      record {
        control = h.control;
        fields = h.fields;
        views = v.views;
        seen = v.seen;
        buffers = λ y k. ap (λ o. cond (y == x) (Some shape) o) (h.buffers y k);
        cells = λ y k. ap (λ c. cond {A = List ℤ → Value} (y == x) (λ at. Undefined) c) (h.cells y k);
      }

  pub left_alike : (a b : State) → SameBut hidden a b → SameBut hidden (left s a) (left t b)
  left_alike a b k = record {
    control = h.control;
    buffers = h.buffers;
    views = h.views;
    seen = h.seen;
    fields = k.fields;
    cells = λ x e. ap₂ (λ o c. λ (at : List ℤ). kept o c at) (h.buffers x e) (k.cells x e);
  }

  argument_same : (a : Argument) → in_argument hidden a ≡ false → argument_number s.scene a ≡ argument_number t.scene a
  argument_same (ControlArg a) k = ap Some (number_same a k)
  argument_same (ConditionArg c) k = ap (λ b. Some (truth b)) (holds_same c k)
  argument_same (Whole x) k = refl
  argument_same (Window x coords) k = refl

-- ---- calls

abbrev IsOpen : (ℕ → Bool) → Given → Type 0
IsOpen hidden (GivenNumber n) = Unit {0}
IsOpen hidden (GivenView seen) = hidden seen.buffer ≡ false

abbrev AreOpen : (ℕ → Bool) → List Given → Type 0
AreOpen hidden [] = Unit {0}
AreOpen hidden (g ∷ gs) = IsOpen hidden g × AreOpen hidden gs

module _ (hidden : ℕ → Bool) (s t : State) (h : SameBut hidden s t) where
  given_same : (a : Argument) → in_argument hidden a ≡ false → given s.scene a ≡ given t.scene a
  given_same (ControlArg a) k = ap (λ n. Some (GivenNumber n)) (number_same hidden s t h a k)
  given_same (ConditionArg c) k = ap (λ b. Some (GivenNumber (truth b))) (holds_same hidden s t h c k)
  given_same (Whole x) k = ap (option_map GivenView) (h.views x k)
  given_same (Window x coords) k = ap (option_map GivenView) (window_same hidden s t h x coords k)

  given_open : (a : Argument) → in_argument hidden a ≡ false → IfSome (given s.scene a) (IsOpen hidden)
  given_open (ControlArg a) k = tt
  given_open (ConditionArg c) k = tt
  given_open (Whole x) k = if_map (λ z. s.scene.views x ≡ Some z) (IsOpen hidden) (s.scene.views x) GivenView (here (s.scene.views x)) (λ z i. h.seen x z k i)
  given_open (Window x coords) k = if_map (λ z. hidden z.buffer ≡ false) (IsOpen hidden) (window s.scene x coords) GivenView (window_open hidden s t h x coords (or_parts (hidden x) (in_coords hidden coords) k).0) (λ z i. i)

  all_given_same : (args : List Argument) → in_arguments hidden args ≡ false → all_given s.scene args ≡ all_given t.scene args
  all_given_same [] k = refl
  all_given_same (a ∷ args) k = let p = or_parts (in_argument hidden a) (in_arguments hidden args) k in ap₂ (λ o q. then_do o (λ g. option_map (λ gs. g ∷ gs) q)) (given_same a p.0) (all_given_same args p.1)

  all_given_open : (args : List Argument) → in_arguments hidden args ≡ false → IfSome (all_given s.scene args) (AreOpen hidden)
  all_given_open [] k = tt
  all_given_open (a ∷ args) k =
      let p = or_parts (in_argument hidden a) (in_arguments hidden args) k in
      if_then (IsOpen hidden) (AreOpen hidden) (given s.scene a) _ (given_open a p.0) (λ g i. if_map (AreOpen hidden) (AreOpen hidden) (all_given s.scene args) (λ gs. g ∷ gs) (all_given_open args p.1) (λ gs j. (i, j)))

  copy_in_same : (x : ℕ) (cell : Cell) (dims : List ℤ) (g : Given) (inner : State) → IsOpen hidden g → copy_in s x cell dims g inner ≡ copy_in t x cell dims g inner
  copy_in_same x cell dims (GivenNumber n) inner k = refl
  copy_in_same x cell dims (GivenView seen) inner k =
      ap₂ (λ c l. where_true (same_index dims (extents seen.sides) && all_positive dims) (Some (with_contents x (λ is. held_at c (cell_at seen.sides is)) (on_scene (with_buffer x (record { cell = cell; dims = dims; strides = l })) inner)))) (h.cells seen.buffer k) (strides_same hidden s t h seen k)

  bind_buffer_same : (x : ℕ) (kind : ParamKind) (g : Given) (inner : State) → IsOpen hidden g → bind_buffer s x kind g inner ≡ bind_buffer t x kind g inner
  bind_buffer_same x (ControlParam kind) g inner k = refl
  bind_buffer_same x (TensorParam cell dims memory) g inner k = copy_in_same x cell (numbers inner.scene dims) g inner k
  bind_buffer_same x (WindowParam cell dims memory) g inner k = copy_in_same x cell (numbers inner.scene dims) g inner k

  bind_buffers_same : (ps : List Param) (gs : List Given) (inner : State) → AreOpen hidden gs → bind_buffers s ps gs inner ≡ bind_buffers t ps gs inner
  bind_buffers_same [] gs inner k = refl
  bind_buffers_same (p ∷ ps) [] inner k = refl
  bind_buffers_same (p ∷ ps) (g ∷ gs) inner k = ap₂ (λ o f. then_do o f) (bind_buffer_same p.binder.id p.kind g inner k.0) (fun_ext (λ u. bind_buffers_same ps gs u k.1))

  entered_same : (ps : List Param) (gs : List Given) → AreOpen hidden gs → entered ps gs s ≡ entered ps gs t
  entered_same ps gs k =
      ap (λ f. then_do (bind_numbers ps gs (λ x. pos 0)) f) (fun_ext (λ c. bind_buffers_same ps gs (bare c s.scene.fields) k ∙ ap (λ f. bind_buffers t ps gs (bare c f)) h.fields))

  back_same : (b : Bool) (g : Given) (copy : List ℤ → Value) (c d : Cells) → ((x : ℕ) → hidden x ≡ false → c x ≡ d x) → (x : ℕ) → hidden x ≡ false → copy_back b g copy c x ≡ copy_back b g copy d x
  back_same false g copy c d k x e = k x e
  back_same true (GivenNumber n) copy c d k x e = k x e
  back_same true (GivenView seen) copy c d k x e = ap (λ f. λ (at : List ℤ). cond (x == seen.buffer) (value_or (index_of seen.sides at) copy (f at)) (f at)) (k x e)

  all_back_same : (w : ℕ → Bool) (ps : List Param) (gs : List Given) (copies c d : Cells) → ((x : ℕ) → hidden x ≡ false → c x ≡ d x) → (x : ℕ) → hidden x ≡ false → copied_back w ps gs copies c x ≡ copied_back w ps gs copies d x
  all_back_same w [] gs copies c d k = k
  all_back_same w (p ∷ ps) [] copies c d k = k
  all_back_same w (p ∷ ps) (g ∷ gs) copies c d k = all_back_same w ps gs copies (copy_back (w p.binder.id) g (copies p.binder.id) c) (copy_back (w p.binder.id) g (copies p.binder.id) d) (back_same (w p.binder.id) g (copies p.binder.id) c d k)

  call_same : (o : Option Callee) (args : List Argument) → in_arguments hidden args ≡ false → Both (SameBut hidden) (call_to o args s) (call_to o args t)
  call_same None args k = tt
  call_same (Some callee) args k =
      subst (λ q. Both (SameBut hidden) (call callee args s) (where_true (given_all_apart callee.writes callee.procedure.params q) (then_do q (λ gs. then_do (entered callee.procedure.params gs t) (λ inner. option_map (returned callee gs t) (run_asserted callee inner)))))) (all_given_same args k)
      (both_where (SameBut hidden) (keeps_apart callee s.scene args) (copied_call callee args s) _
      (by_given (all_given s.scene args) (all_given_open args k)))
    where
      by_entered : (gs : List Given) (o : Option State) → Both (SameBut hidden) (then_do o (λ inner. option_map (returned callee gs s) (run_asserted callee inner))) (then_do o (λ inner. option_map (returned callee gs t) (run_asserted callee inner)))
      by_entered gs o = both_then_same (SameBut hidden) o _ _ (λ inner. both_map_same (SameBut hidden) (run_asserted callee inner) (returned callee gs s) (returned callee gs t) (λ done. record {
        control = h.control;
        buffers = h.buffers;
        views = h.views;
        seen = h.seen;
        fields = refl;
        cells = all_back_same callee.writes callee.procedure.params gs done.cells s.cells t.cells h.cells;
      }))

      by_given : (o : Option (List Given)) → IfSome o (AreOpen hidden) → Both (SameBut hidden) (then_do o (λ gs. then_do (entered callee.procedure.params gs s) (λ inner. option_map (returned callee gs s) (run_asserted callee inner)))) (then_do o (λ gs. then_do (entered callee.procedure.params gs t) (λ inner. option_map (returned callee gs t) (run_asserted callee inner))))
      by_given None k = tt
      by_given (Some gs) k = subst (λ z. Both (SameBut hidden) (then_do (entered callee.procedure.params gs s) (λ inner. option_map (returned callee gs s) (run_asserted callee inner))) (then_do z (λ inner. option_map (returned callee gs t) (run_asserted callee inner)))) (entered_same callee.procedure.params gs k) (by_entered gs (entered callee.procedure.params gs s))

module _ (hidden : ℕ → Bool) where
  choose_alike : (b : Bool) (f g : State → Option State) → Respects (SameBut hidden) f → Respects (SameBut hidden) g → Respects (SameBut hidden) (choose b f g)
  choose_alike true f g h k = h
  choose_alike false f g h k = k

  pub turns_alike : (i : ℕ) (f : State → Option State) → Respects (SameBut hidden) f → (ns : List ℤ) → Respects (SameBut hidden) (turns (turn i f) ns)
  turns_alike i f k [] s t h = h
  turns_alike i f k (n ∷ ns) s t h =
      both_then (SameBut hidden) (SameBut hidden) (turn i f n s) (turn i f n t) (turns (turn i f) ns) (turns (turn i f) ns)
      (both_map (SameBut hidden) (SameBut hidden) (f (on_scene (with_control i n) s)) (f (on_scene (with_control i n) t)) (left s) (left t) (k _ _ (control_alike hidden s t h i n)) (left_alike hidden s t h))
      (turns_alike i f k ns)

  viewed : (s t : State) → SameBut hidden s t → (w : ℕ) (o : Option Seen) → IfSome o (λ seen. hidden seen.buffer ≡ false) → Both (SameBut hidden) (then_do o (λ seen. Some (on_scene (with_view w seen) s))) (then_do o (λ seen. Some (on_scene (with_view w seen) t)))
  viewed s t h w None e = tt
  viewed s t h w (Some seen) e = view_alike hidden s t h w seen e

  module _ (world : World) where
    mutual
      pub run_alike : (b : Block) → in_block hidden b ≡ false → Respects (SameBut hidden) (run world b)
      run_alike end k = λ s t h. h
      run_alike (next a b) k = λ s t h.
          let p = or_parts (in_statement hidden a) (in_block hidden b) k in
          both_then (SameBut hidden) (SameBut hidden) (step world a s) (step world a t) (run world b) (run world b) (step_alike a p.0 s t h) (run_alike b p.1)

      pub step_alike : (a : Statement) → in_statement hidden a ≡ false → Respects (SameBut hidden) (step world a)
      step_alike (Assign x is e) k = λ s t h. store_alike hidden s t h x is e (λ v old. v) k
      step_alike (Reduce x is e) k = λ s t h. store_alike hidden s t h x is e (λ v old. on_two ◌+ℤ◌ old v) k
      step_alike (Config f a) k = λ s t h.
          subst (λ o. Both (SameBut hidden) (step world (Config f a) s) (then_do o (λ n. where_true (suits (world.kinds f) n) (Some (on_scene (with_field f n) t))))) (argument_same hidden s t h a k)
          (both_then_same (SameBut hidden) (argument_number s.scene a) _ _ (λ n. both_where (SameBut hidden) (suits (world.kinds f) n) (Some (on_scene (with_field f n) s)) (Some (on_scene (with_field f n) t)) (field_alike hidden s t h f n)))
      step_alike Pass k = λ s t h. h
      step_alike (If c a b) k = λ s t h.
          let p = or_parts (in_condition hidden c) (in_block hidden a || in_block hidden b) k in
          let q = or_parts (in_block hidden a) (in_block hidden b) p.1 in
          subst (λ z. Both (SameBut hidden) (step world (If c a b) s) (scoped (choose z (run world a) (run world b)) t)) (holds_same hidden s t h c p.0)
          (both_map (SameBut hidden) (SameBut hidden) (choose (holds s.scene c) (run world a) (run world b) s) (choose (holds s.scene c) (run world a) (run world b) t) (left s) (left t) (choose_alike (holds s.scene c) (run world a) (run world b) (run_alike a q.0) (run_alike b q.1) s t h) (left_alike hidden s t h))
      step_alike (For i lo hi b) k = λ s t h.
          let p = or_parts (hidden i.id) (in_control hidden lo || (in_control hidden hi || in_block hidden b)) k in
          let q = or_parts (in_control hidden lo) (in_control hidden hi || in_block hidden b) p.1 in
          let z = or_parts (in_control hidden hi) (in_block hidden b) q.1 in
          subst (λ ns. Both (SameBut hidden) (step world (For i lo hi b) s) (turns (turn i.id (run world b)) ns t)) (ap₂ (λ m n. range m (count (n -ℤ m))) (number_same hidden s t h lo q.0) (number_same hidden s t h hi z.0))
          (turns_alike i.id (run world b) (run_alike b z.1) (turns_of s.scene lo hi) s t h)
      step_alike (Alloc x cell dims memory) k = λ s t h.
          let p = or_parts (hidden x.id) (in_controls hidden dims) k in
          subst (λ ds. Both (SameBut hidden) (step world (Alloc x cell dims memory) s) (where_true (all_positive ds) (Some (with_contents x.id (λ at. Undefined) (on_scene (with_buffer x.id (tensor cell ds)) t))))) (numbers_same hidden s t h dims p.1)
          (both_where (SameBut hidden) (all_positive (numbers s.scene dims)) (Some (with_contents x.id (λ at. Undefined) (on_scene (with_buffer x.id (tensor cell (numbers s.scene dims))) s))) (Some (with_contents x.id (λ at. Undefined) (on_scene (with_buffer x.id (tensor cell (numbers s.scene dims))) t))) (made_alike hidden s t h x.id (tensor cell (numbers s.scene dims)) p.0))
      step_alike (View w x coords) k = λ s t h.
          let p = or_parts (hidden w.id) (hidden x || in_coords hidden coords) k in
          let q = or_parts (hidden x) (in_coords hidden coords) p.1 in
          subst (λ o. Both (SameBut hidden) (step world (View w x coords) s) (then_do o (λ seen. Some (on_scene (with_view w.id seen) t)))) (window_same hidden s t h x coords p.1)
          (viewed s t h w.id (window s.scene x coords) (window_open hidden s t h x coords q.0))
      step_alike (Call q args) k = λ s t h. call_same hidden s t h (world.callees q) args k

pub runs_ignore_unmentioned : RunsIgnoreUnmentioned
runs_ignore_unmentioned hidden world b k = run_alike hidden world b k
