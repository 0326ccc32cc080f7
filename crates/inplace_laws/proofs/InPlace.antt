-- A run on parts of buffers.
use Rattle.std.proofs.Common.{◌⊎◌, inl, inr, ⊎_elim, ◌≡◌, ℕ, ℤ, pos, neg_ℤ, ◌+ℤ◌, ◌-ℤ◌, ◌*ℤ◌, ◌==◌, int_lt, int_le, Bool, true, false, cond, not, ◌&&◌, ◌||◌, List, [], ◌∷◌, Option, Some, None, IfSome, IsSome, option_map, get_or, refl, sym, ap, ap₂, ◌∙◌, subst, true≢false, eqb-true, eq-eqb}
use Rattle.std.proofs.Math.Path.{fun_ext}
use Rattle.std.specs.Ordering.{int_eq}
use Rattle.std.specs.Int.{int_div_euclid, int_rem_euclid}
use Rattle.exo_tree.specs.Tree.{Cell, Param, ParamKind, ControlParam, TensorParam, WindowParam, Control, Lit, Var, Field, StrideOf, Neg, Add, Sub, Mul, Div, Mod, Condition, True, False, Flag, FieldFlag, Lt, Le, Gt, Ge, Eq, And, Or, Datum, Const, Read, Negated, Relu, Plus, Minus, Times, Select, Coord, At, Span, Argument, ControlArg, ConditionArg, Whole, Window, Statement, Assign, Reduce, Config, Pass, If, For, Alloc, View, Call, Block, end, next}
use Rattle.exo_meaning.specs.Value.{Value, Undefined, stored_as, on_one, on_two, on_four, relu, selected}
use Rattle.exo_meaning.specs.Scene.{is_set, Shape, Seen, Side, Point, Range, Scene, then_do, number, numbers, holds, stride_at, strides_seen, strides_of, where_true, are_apart, window, narrowed, cell_at, updated, is_below, whole, extents, index_of}
use Rattle.exo_meaning.specs.State.{State, Cells, Place, place, held, same_index, changed, put, value, kept, left, scoped, on_scene, with_control, with_field, with_view, with_contents, with_buffer}
use Rattle.exo_meaning.specs.Run.{World, run, step, argument_number, turn, turns, turns_of, range, count, choose, call_to, tensor, roots_after, is_root, call_writes, call_to_writes, writes, step_writes}
use Rattle.exo_meaning.specs.Calls.{keeps_apart, copied_call, given_all_apart, given_apart, apart_from, all_apart, call, Callee, Given, GivenNumber, GivenView, given, all_given, suits, all_positive, truth, bind_number, bind_numbers, copy_in, bind_buffer, bind_buffers, bare, entered, held_at, value_or, copy_back, copied_back, returned, run_asserted, contents}
use Rattle.exo_meaning.specs.Refines.{Both}
use Rattle.exo_meaning.specs.Laws.{HasRoots}
use Rattle.inplace_laws.specs.Uses.{in_control, in_controls, in_condition, in_datum, in_coords, in_argument, in_arguments, in_statement, in_block}
use Rattle.exo_meaning.proofs.Both.{both_then, both_map, both_then_same, both_map_same, both_where}
use Rattle.exo_meaning.proofs.Frame.{if_where, or_parts, if_then, if_map, if_weaken, any, here, more_roots, root_of, window_root, place_root}
use Rattle.exo_meaning.proofs.Windows.{one_value}
use Rattle.inplace_laws.specs.InPlace.{buffer_through, sides_through, cell_through, through, held_through, IsWithin, IsPlacing, SeenStands, BufferStands, CellsStand, StandsFor, makes, step_makes, InPlace}
use Rattle.inplace_laws.proofs.Passed.{apart_same}
use Rattle.inplace_laws.proofs.Sides.{strides_composed}
use Rattle.inplace_laws.proofs.Bulk.{cell_at_through, seen_through, extents_through, narrowed_through, within_through, back_seen, one_seen, at_buffer, changed_is, differ, bulk_stands}

abbrev strides_in : List Side → Option Shape → List ℤ
strides_in sides o = elim o [ None ↦ [] | Some shape ↦ strides_of sides shape.strides ]

module _ (hidden written blind strided : ℕ → Bool) (base : ℕ → Option Seen) (first : State) (placing : IsPlacing hidden written strided base) where
  abbrev Sees : Seen → Seen → Type 0
  Sees = SeenStands hidden written blind strided base first

  abbrev Stands : State → State → Type 0
  Stands = StandsFor hidden written blind strided base first

  abbrev Buffer : Option Seen → Option Shape → (ℕ → Option Shape) → ℕ → Type 0
  Buffer = BufferStands hidden written blind strided base first

  module _ (s t : State) (h : Stands s t) where
    strides_through : (b : ℕ) (sides : List Side) (o : Option Seen) → Buffer o (s.scene.buffers b) t.scene.buffers b → IsWithin o sides → strided b ≡ true → strides_in sides (s.scene.buffers b) ≡ strides_in (sides_through o sides) (t.scene.buffers (buffer_through o b))
    strides_through b sides None k w st = ap (strides_in sides) k
    strides_through b sides (Some z) (shape, to, i, j, c, e) w st =
        ap (strides_in sides) i ∙ ap (strides_of sides) (e st) ∙ sym (strides_composed z.sides sides to.strides w) ∙ sym (ap (strides_in (sides_through (Some z) sides)) j)

    seen_strides : (a b : Seen) → Sees a b → strided a.buffer ≡ true → strides_seen s.scene a ≡ strides_seen t.scene b
    seen_strides a b (i, w, e) st = strides_through a.buffer a.sides (base a.buffer) (h.buffers a.buffer i) w st ∙ ap (strides_seen t.scene) (sym e)

    stride_same : (x k : ℕ) → (hidden x || blind x) ≡ false → stride_at s.scene (s.scene.views x) k ≡ stride_at t.scene (t.scene.views x) k
    stride_same x k e = let p = or_parts (hidden x) (blind x) e in go (s.scene.views x) (t.scene.views x) (h.views x p.0) (λ z i. h.names x z p.0 p.1 i)
      where
        go : (o q : Option Seen) → Both Sees o q → ((z : Seen) → o ≡ Some z → strided z.buffer ≡ true) → stride_at s.scene o k ≡ stride_at t.scene q k
        go None None i n = refl
        go None (Some b) i n = absurd i
        go (Some a) None i n = absurd i
        go (Some a) (Some b) i n = ap (λ l. get_or l k (pos 0)) (seen_strides a b i (n a refl))

    number_same : (e : Control) → in_control hidden blind e ≡ false → number s.scene e ≡ number t.scene e
    number_same (Lit n) k = refl
    number_same (Var x) k = h.control x k
    number_same (Field f) k = ap (λ g. g f) h.fields
    number_same (StrideOf x n) k = stride_same x n k
    number_same (Neg a) k = ap neg_ℤ (number_same a k)
    number_same (Add a b) k = let p = or_parts (in_control hidden blind a) (in_control hidden blind b) k in ap₂ ◌+ℤ◌ (number_same a p.0) (number_same b p.1)
    number_same (Sub a b) k = let p = or_parts (in_control hidden blind a) (in_control hidden blind b) k in ap₂ ◌-ℤ◌ (number_same a p.0) (number_same b p.1)
    number_same (Mul a b) k = let p = or_parts (in_control hidden blind a) (in_control hidden blind b) k in ap₂ ◌*ℤ◌ (number_same a p.0) (number_same b p.1)
    number_same (Div a c) k = ap (λ n. int_div_euclid n c) (number_same a k)
    number_same (Mod a c) k = ap (λ n. int_rem_euclid n c) (number_same a k)

    numbers_same : (es : List Control) → in_controls hidden blind es ≡ false → numbers s.scene es ≡ numbers t.scene es
    numbers_same [] k = refl
    numbers_same (e ∷ es) k = let p = or_parts (in_control hidden blind e) (in_controls hidden blind es) k in ap₂ ◌∷◌ (number_same e p.0) (numbers_same es p.1)

    two_same : {A : Type 0} (f : ℤ → ℤ → A) (a b : Control) → (in_control hidden blind a || in_control hidden blind b) ≡ false → f (number s.scene a) (number s.scene b) ≡ f (number t.scene a) (number t.scene b)
    two_same f a b k = let p = or_parts (in_control hidden blind a) (in_control hidden blind b) k in ap₂ f (number_same a p.0) (number_same b p.1)

    holds_same : (c : Condition) → in_condition hidden blind c ≡ false → holds s.scene c ≡ holds t.scene c
    holds_same True k = refl
    holds_same False k = refl
    holds_same (Flag x) k = ap is_set (h.control x k)
    holds_same (FieldFlag f) k = ap (λ g. is_set (g f)) h.fields
    holds_same (Lt a b) k = two_same int_lt a b k
    holds_same (Le a b) k = two_same int_le a b k
    holds_same (Gt a b) k = two_same (λ m n. int_lt n m) a b k
    holds_same (Ge a b) k = two_same (λ m n. int_le n m) a b k
    holds_same (Eq a b) k = two_same int_eq a b k
    holds_same (And c d) k = let p = or_parts (in_condition hidden blind c) (in_condition hidden blind d) k in ap₂ ◌&&◌ (holds_same c p.0) (holds_same d p.1)
    holds_same (Or c d) k = let p = or_parts (in_condition hidden blind c) (in_condition hidden blind d) k in ap₂ ◌||◌ (holds_same c p.0) (holds_same d p.1)

    argument_same : (a : Argument) → in_argument hidden blind a ≡ false → argument_number s.scene a ≡ argument_number t.scene a
    argument_same (ControlArg a) k = ap Some (number_same a k)
    argument_same (ConditionArg c) k = ap (λ b. Some (truth b)) (holds_same c k)
    argument_same (Whole x) k = refl
    argument_same (Window x coords) k = refl

    -- ---- windows

    narrowed_same : (sides : List Side) (coords : List Coord) → in_coords hidden blind coords ≡ false → narrowed s.scene sides coords ≡ narrowed t.scene sides coords
    narrowed_same [] [] k = refl
    narrowed_same [] (c ∷ cs) k = refl
    narrowed_same (Point p ∷ sides) cs k = ap (option_map (λ rest. Point p ∷ rest)) (narrowed_same sides cs k)
    narrowed_same (Range lo n ∷ sides) [] k = refl
    narrowed_same (Range lo n ∷ sides) (At a ∷ cs) k =
        let p = or_parts (in_control hidden blind a) (in_coords hidden blind cs) k in
        ap₂ (λ i o. where_true (is_below i n) (option_map (λ rest. Point (lo +ℤ i) ∷ rest) o)) (number_same a p.0) (narrowed_same sides cs p.1)
    narrowed_same (Range lo n ∷ sides) (Span a b ∷ cs) k =
        let p = or_parts (in_control hidden blind a) (in_control hidden blind b || in_coords hidden blind cs) k in
        let q = or_parts (in_control hidden blind b) (in_coords hidden blind cs) p.1 in
        ap (λ i. where_true (int_le (pos 0) i && int_lt i (number s.scene b) && int_le (number s.scene b) n) (option_map (λ rest. Range (lo +ℤ i) (number s.scene b -ℤ i) ∷ rest) (narrowed s.scene sides cs))) (number_same a p.0)
        ∙ ap₂ (λ j o. where_true (int_le (pos 0) (number t.scene a) && int_lt (number t.scene a) j && int_le j n) (option_map (λ rest. Range (lo +ℤ number t.scene a) (j -ℤ number t.scene a) ∷ rest) o)) (number_same b q.0) (narrowed_same sides cs q.1)

    abbrev part_of : ℕ → List Side → Seen
    part_of b sides = record { buffer = b; sides = sides }

    window_stands : (x : ℕ) (coords : List Coord) → hidden x ≡ false → in_coords hidden blind coords ≡ false → Both Sees (window s.scene x coords) (window t.scene x coords)
    window_stands x coords e k = go (s.scene.views x) (t.scene.views x) (h.views x e)
      where
        parts : (b : ℕ) → hidden b ≡ false → (q : Option (List Side)) → IfSome q (IsWithin (base b)) → Both Sees (option_map (part_of b) q) (option_map (part_of (buffer_through (base b) b)) (option_map (sides_through (base b)) q))
        parts b i None w = tt
        parts b i (Some l) w = (i, w, refl)

        at : (a : Seen) → hidden a.buffer ≡ false → IsWithin (base a.buffer) a.sides → Both Sees (option_map (part_of a.buffer) (narrowed s.scene a.sides coords)) (option_map (part_of (buffer_through (base a.buffer) a.buffer)) (narrowed t.scene (sides_through (base a.buffer) a.sides) coords))
        at a i w = subst (λ q. Both Sees (option_map (part_of a.buffer) (narrowed s.scene a.sides coords)) (option_map (part_of (buffer_through (base a.buffer) a.buffer)) q))
            (ap (option_map (sides_through (base a.buffer))) (narrowed_same a.sides coords k) ∙ sym (narrowed_through t.scene (base a.buffer) a.sides coords w))
            (parts a.buffer i (narrowed s.scene a.sides coords) (within_through s.scene (base a.buffer) a.sides coords w))

        go : (o q : Option Seen) → Both Sees o q → Both Sees (then_do o (λ seen. option_map (part_of seen.buffer) (narrowed s.scene seen.sides coords))) (then_do q (λ seen. option_map (part_of seen.buffer) (narrowed t.scene seen.sides coords)))
        go None None i = tt
        go None (Some b) i = absurd i
        go (Some a) None i = absurd i
        go (Some a) (Some b) (i, w, e) = subst (λ (z : Seen). Both Sees (option_map (part_of a.buffer) (narrowed s.scene a.sides coords)) (option_map (part_of z.buffer) (narrowed t.scene z.sides coords))) (sym e) (at a i w)

    -- ---- places

    abbrev PlaceStands : Place → Place → Type 0
    PlaceStands p q = (hidden p.buffer ≡ false) × (q.buffer ≡ buffer_through (base p.buffer) p.buffer) × (cell_through (base p.buffer) p.at ≡ Some q.at)

    abbrev place_at : ℕ → List ℤ → Place
    place_at b at = record { buffer = b; at = at }

    place_stands : (x : ℕ) (is : List Control) → hidden x ≡ false → in_controls hidden blind is ≡ false → Both PlaceStands (place s.scene x is) (place t.scene x is)
    place_stands x is e k = go (s.scene.views x) (t.scene.views x) (h.views x e)
      where
        spots : (b : ℕ) → hidden b ≡ false → (q : Option (List ℤ)) → ((at : List ℤ) → q ≡ Some at → (r : List ℤ) × (cell_through (base b) at ≡ Some r)) → Both PlaceStands (option_map (place_at b) q) (option_map (place_at (buffer_through (base b) b)) (then_do q (cell_through (base b))))
        spots b i None w = tt
        spots b i (Some at) w = let u = w at refl in subst (λ z. Both PlaceStands (Some (place_at b at)) (option_map (place_at (buffer_through (base b) b)) z)) (sym u.1) (i, refl, u.1)

        at : (a : Seen) → hidden a.buffer ≡ false → IsWithin (base a.buffer) a.sides → Both PlaceStands (option_map (place_at a.buffer) (cell_at a.sides (numbers s.scene is))) (option_map (place_at (buffer_through (base a.buffer) a.buffer)) (cell_at (sides_through (base a.buffer) a.sides) (numbers t.scene is)))
        at a i w = subst (λ q. Both PlaceStands (option_map (place_at a.buffer) (cell_at a.sides (numbers s.scene is))) (option_map (place_at (buffer_through (base a.buffer) a.buffer)) q))
            (ap (λ ns. then_do (cell_at a.sides ns) (cell_through (base a.buffer))) (numbers_same is k) ∙ sym (cell_at_through (base a.buffer) a.sides (numbers t.scene is) w))
            (spots a.buffer i (cell_at a.sides (numbers s.scene is)) (λ c j. seen_through (base a.buffer) a.sides (numbers s.scene is) c w j))

        go : (o q : Option Seen) → Both Sees o q → Both PlaceStands (then_do o (λ seen. option_map (place_at seen.buffer) (cell_at seen.sides (numbers s.scene is)))) (then_do q (λ seen. option_map (place_at seen.buffer) (cell_at seen.sides (numbers t.scene is))))
        go None None i = tt
        go None (Some b) i = absurd i
        go (Some a) None i = absurd i
        go (Some a) (Some b) (i, w, e) = subst (λ (z : Seen). Both PlaceStands (option_map (place_at a.buffer) (cell_at a.sides (numbers s.scene is))) (option_map (place_at z.buffer) (cell_at z.sides (numbers t.scene is)))) (sym e) (at a i w)

    held_same : (p q : Place) → PlaceStands p q → held s.cells p ≡ held t.cells q
    held_same p q (i, e, k) = h.cells.own p.buffer i p.at ∙ ap (held_at (t.cells (buffer_through (base p.buffer) p.buffer))) k ∙ ap (λ b. t.cells b q.at) (sym e)

    read_same : (o q : Option Place) → Both PlaceStands o q → option_map (held s.cells) o ≡ option_map (held t.cells) q
    read_same None None k = refl
    read_same None (Some q) k = absurd k
    read_same (Some p) None k = absurd k
    read_same (Some p) (Some q) k = ap Some (held_same p q k)

    value_same : (e : Datum) → in_datum hidden blind e ≡ false → value s e ≡ value t e
    value_same (Const n) k = refl
    value_same (Read x is) k = let p = or_parts (hidden x) (in_controls hidden blind is) k in read_same (place s.scene x is) (place t.scene x is) (place_stands x is p.0 p.1)
    value_same (Negated a) k = ap (option_map (on_one (λ m. pos 0 -ℤ m))) (value_same a k)
    value_same (Relu a) k = ap (option_map (on_one relu)) (value_same a k)
    value_same (Plus a b) k = let p = or_parts (in_datum hidden blind a) (in_datum hidden blind b) k in ap₂ (λ o q. then_do o (λ u. option_map (on_two ◌+ℤ◌ u) q)) (value_same a p.0) (value_same b p.1)
    value_same (Minus a b) k = let p = or_parts (in_datum hidden blind a) (in_datum hidden blind b) k in ap₂ (λ o q. then_do o (λ u. option_map (on_two ◌-ℤ◌ u) q)) (value_same a p.0) (value_same b p.1)
    value_same (Times a b) k = let p = or_parts (in_datum hidden blind a) (in_datum hidden blind b) k in ap₂ (λ o q. then_do o (λ u. option_map (on_two ◌*ℤ◌ u) q)) (value_same a p.0) (value_same b p.1)
    value_same (Select a b c d) k =
        let p = or_parts (in_datum hidden blind a) (in_datum hidden blind b || (in_datum hidden blind c || in_datum hidden blind d)) k in
        let q = or_parts (in_datum hidden blind b) (in_datum hidden blind c || in_datum hidden blind d) p.1 in
        let z = or_parts (in_datum hidden blind c) (in_datum hidden blind d) q.1 in
        ap₂ (λ o w. then_do o (λ x. then_do w (λ v. then_do (value s c) (λ y. option_map (on_four selected x v y) (value s d))))) (value_same a p.0) (value_same b q.0)
        ∙ ap₂ (λ o w. then_do (value t a) (λ x. then_do (value t b) (λ v. then_do o (λ y. option_map (on_four selected x v y) w)))) (value_same c z.0) (value_same d z.1)

    -- ---- stores

    with_cells : (c d : Cells) → CellsStand hidden written blind strided base first c d → Stands (record s { cells = c }) (record t { cells = d })
    with_cells c d k = record { control = h.control; fields = h.fields; views = h.views; names = h.names; buffers = h.buffers; others = h.others; cells = k }

    -- the shape of a buffer holds cells of the same type on both sides
    same_type : (b : ℕ) (o : Option Seen) → Buffer o (s.scene.buffers b) t.scene.buffers b → Both (λ (x y : Shape). x.cell ≡ y.cell) (s.scene.buffers b) (t.scene.buffers (buffer_through o b))
    same_type b None k = subst (λ q. Both (λ (x y : Shape). x.cell ≡ y.cell) (s.scene.buffers b) q) k (same (s.scene.buffers b))
      where
        same : (o : Option Shape) → Both (λ (x y : Shape). x.cell ≡ y.cell) o o
        same None = tt
        same (Some x) = refl
    same_type b (Some z) (shape, to, i, j, c, e) = subst (λ q. Both (λ (x y : Shape). x.cell ≡ y.cell) q (t.scene.buffers z.buffer)) (sym i) (subst (λ q. Both (λ (x y : Shape). x.cell ≡ y.cell) (Some shape) q) (sym j) c)

    put_stands : (f : Value → Value) (p q : Place) → PlaceStands p q → written p.buffer ≡ true → Both Stands (put s f p) (put t f q)
    put_stands f p q (i, e, k) w =
        both_map (λ (x y : Shape). x.cell ≡ y.cell) Stands (s.scene.buffers p.buffer) (t.scene.buffers q.buffer) _ _
        (subst (λ b. Both (λ (x y : Shape). x.cell ≡ y.cell) (s.scene.buffers p.buffer) (t.scene.buffers b)) (sym e) (same_type p.buffer (base p.buffer) (h.buffers p.buffer i)))
        (λ x y c. with_cells (changed s.cells p (λ old. stored_as x.cell (f old))) (changed t.cells q (λ old. stored_as y.cell (f old)))
        (subst (λ cell. CellsStand hidden written blind strided base first (changed s.cells p (λ old. stored_as x.cell (f old))) (changed t.cells q (λ old. stored_as cell (f old)))) c (stores (λ old. stored_as x.cell (f old)))))
      where
        stores : (g : Value → Value) → CellsStand hidden written blind strided base first (changed s.cells p g) (changed t.cells q g)
        stores g =
            subst (λ c. CellsStand hidden written blind strided base first c (changed t.cells q g)) (sym (changed_is s.cells p g))
            (subst (λ d. CellsStand hidden written blind strided base first (at_buffer p.buffer (λ at v. cond (same_index at p.at) (g v) v) s.cells) d) (ap (λ b. at_buffer b (λ at v. cond (same_index at q.at) (g v) v) t.cells) (sym e) ∙ sym (changed_is t.cells q g))
            (bulk_stands hidden written blind strided base first placing p.buffer (λ at v. cond (same_index at p.at) (g v) v) (λ at v. cond (same_index at q.at) (g v) v) s.cells t.cells i w (one_seen (base p.buffer) p.at q.at g k) h.cells))

    store_stands : (x : ℕ) (is : List Control) (e : Datum) (f : Value → Value → Value) → (hidden x || (in_controls hidden blind is || in_datum hidden blind e)) ≡ false → IfSome (place s.scene x is) (λ p. written p.buffer ≡ true) → Both Stands (then_do (place s.scene x is) (λ p. then_do (value s e) (λ v. put s (f v) p))) (then_do (place t.scene x is) (λ p. then_do (value t e) (λ v. put t (f v) p)))
    store_stands x is e f k w =
        let p = or_parts (hidden x) (in_controls hidden blind is || in_datum hidden blind e) k in
        let q = or_parts (in_controls hidden blind is) (in_datum hidden blind e) p.1 in
        subst (λ o. Both Stands (then_do (place s.scene x is) (λ p. then_do (value s e) (λ v. put s (f v) p))) (then_do (place t.scene x is) (λ p. then_do o (λ v. put t (f v) p)))) (value_same e q.1)
        (go (place s.scene x is) (place t.scene x is) (place_stands x is p.0 q.0) w (value s e))
      where
        go : (o q : Option Place) → Both PlaceStands o q → IfSome o (λ p. written p.buffer ≡ true) → (v : Option Value) → Both Stands (then_do o (λ p. then_do v (λ v. put s (f v) p))) (then_do q (λ p. then_do v (λ v. put t (f v) p)))
        go None None i w v = tt
        go None (Some q) i w v = absurd i
        go (Some p) None i w v = absurd i
        go (Some p) (Some q) i w None = tt
        go (Some p) (Some q) i w (Some v) = put_stands (f v) p q i w

    -- ---- names

    control_stands : (i : ℕ) (n : ℤ) → Stands (on_scene (with_control i n) s) (on_scene (with_control i n) t)
    control_stands i n = record {
      control = λ x k. ap (λ m. cond (x == i) n m) (h.control x k);
      fields = h.fields;
      views = h.views;
      names = h.names;
      buffers = h.buffers;
      others = h.others;
      cells = h.cells;
    }

    field_stands : (f : ℕ) (n : ℤ) → Stands (on_scene (with_field f n) s) (on_scene (with_field f n) t)
    field_stands f n = record {
      control = h.control;
      views = h.views;
      names = h.names;
      buffers = h.buffers;
      others = h.others;
      cells = h.cells;
      fields = ap (λ g. updated g f n) h.fields;
    }

    view_stands : (w : ℕ) (a b : Seen) → Sees a b → (blind w ≡ false → strided a.buffer ≡ true) → Stands (on_scene (with_view w a) s) (on_scene (with_view w b) t)
    view_stands w a b k st = record {
      control = h.control;
      fields = h.fields;
      buffers = h.buffers;
      others = h.others;
      cells = h.cells;
      views = λ x e. go x e (x == w);
      names = λ x z e n i. named x z e n (x == w) refl i;
    }
      where
        named : (x : ℕ) (z : Seen) → hidden x ≡ false → blind x ≡ false → (q : Bool) → (x == w) ≡ q → cond q (Some a) (s.scene.views x) ≡ Some z → strided z.buffer ≡ true
        named x z e n true j i = ap (λ (y : Seen). strided y.buffer) (sym (one_value a z i)) ∙ st (ap blind (sym (eqb-true x w j)) ∙ n)
        named x z e n false j i = h.names x z e n i

        go : (x : ℕ) → hidden x ≡ false → (q : Bool) → Both Sees (cond q (Some a) (s.scene.views x)) (cond q (Some b) (t.scene.views x))
        go x e true = k
        go x e false = h.views x e

    made_stands : (x : ℕ) (shape : Shape) → hidden x ≡ false → base x ≡ None → Stands (with_contents x (λ at. Undefined) (on_scene (with_buffer x shape) s)) (with_contents x (λ at. Undefined) (on_scene (with_buffer x shape) t))
    made_stands x shape e none =
        let v = view_stands x (record { buffer = x; sides = whole shape.dims }) (record { buffer = x; sides = whole shape.dims }) (e, subst (λ o. IsWithin o (whole shape.dims)) (sym none) tt, ap (λ o. through o (record { buffer = x; sides = whole shape.dims })) (sym none)) (λ n. placing.whole x none) in
        record {
          control = h.control;
          fields = h.fields;
          views = v.views;
          names = v.names;
          buffers = λ b k. by_buffer b k (b == x) refl;
          others = λ b k. ap (λ q. cond q (Some shape) (t.scene.buffers b)) (not_made b k) ∙ h.others b k;
          cells = record {
            own = λ b k at. by_cell b k at (b == x) refl;
            left = λ b at k i l. ap (λ q. cond {A = List ℤ → Value} q (λ at. Undefined) (t.cells b) at) (not_made b k) ∙ h.cells.left b at k i l;
          };
        }
      where
        not_made : (b : ℕ) → hidden b ≡ true → (b == x) ≡ false
        not_made b k = go (b == x) refl
          where
            go : (q : Bool) → (b == x) ≡ q → q ≡ false
            go false i = refl
            go true i = absurd (differ hidden written blind strided base first placing b x k e (eqb-true b x i))

        moved : (b : ℕ) → hidden b ≡ false → (b == x) ≡ false → (o : Option Seen) → base b ≡ o → (buffer_through o b == x) ≡ false
        moved b k n None i = n
        moved b k n (Some z) i = not_made z.buffer (placing.outside b z i)

        kept_buffer : (b : ℕ) → hidden b ≡ false → (b == x) ≡ false → (o : Option Seen) → base b ≡ o → Buffer o (s.scene.buffers b) t.scene.buffers b → Buffer o (s.scene.buffers b) (with_buffer x shape t.scene).buffers b
        kept_buffer b k n None i l = l ∙ sym (ap (λ q. cond q (Some shape) (t.scene.buffers b)) n)
        kept_buffer b k n (Some z) i (sh, to, u, v, c, d) = (sh, to, u, ap (λ q. cond q (Some shape) (t.scene.buffers z.buffer)) (not_made z.buffer (placing.outside b z i)) ∙ v, c, d)

        by_buffer : (b : ℕ) → hidden b ≡ false → (q : Bool) → (b == x) ≡ q → Buffer (base b) (cond q (Some shape) (s.scene.buffers b)) (with_buffer x shape t.scene).buffers b
        by_buffer b k true i = subst (λ y. Buffer (base y) (Some shape) (with_buffer x shape t.scene).buffers y) (sym (eqb-true b x i)) (subst (λ o. Buffer o (Some shape) (with_buffer x shape t.scene).buffers x) (sym none) (sym (ap (λ q. cond q (Some shape) (t.scene.buffers x)) (eq-eqb x x refl))))
        by_buffer b k false i = kept_buffer b k i (base b) refl (h.buffers b k)

        by_cell : (b : ℕ) → hidden b ≡ false → (at : List ℤ) (q : Bool) → (b == x) ≡ q → cond {A = List ℤ → Value} q (λ at. Undefined) (s.cells b) at ≡ held_through (base b) (updated t.cells x (λ at. Undefined)) b at
        by_cell b k at true i = subst (λ y. Undefined ≡ held_through (base y) (updated t.cells x (λ at. Undefined)) y at) (sym (eqb-true b x i)) (subst (λ o. Undefined ≡ held_through o (updated t.cells x (λ at. Undefined)) x at) (sym none) (sym (ap (λ q. cond {A = List ℤ → Value} q (λ at. Undefined) (t.cells x) at) (eq-eqb x x refl))))
        by_cell b k at false i = h.cells.own b k at ∙ ap (λ q. held_at (cond {A = List ℤ → Value} q (λ at. Undefined) (t.cells (buffer_through (base b) b))) (cell_through (base b) at)) (sym (moved b k i (base b) refl))

    left_stands : (a b : State) → Stands a b → Stands (left s a) (left t b)
    left_stands a b k = record {
      control = h.control;
      views = h.views;
      names = h.names;
      others = h.others;
      fields = k.fields;
      buffers = h.buffers;
      cells = record {
        own = λ x e at. go x at (base x) (h.buffers x e) (k.cells.own x e at);
        left = λ x at e i l. was x at (t.scene.buffers x) (h.others x e) i ∙ k.cells.left x at e i l;
      };
    }
      where
        go : (x : ℕ) (at : List ℤ) (o : Option Seen) → Buffer o (s.scene.buffers x) t.scene.buffers x → a.cells x at ≡ held_through o b.cells x at → kept (s.scene.buffers x) (a.cells x) at ≡ held_through o (λ y. kept (t.scene.buffers y) (b.cells y)) x at
        go x at None i e = ap (λ o. kept o (a.cells x) at) i ∙ both (t.scene.buffers x)
          where
            both : (o : Option Shape) → kept o (a.cells x) at ≡ kept o (b.cells x) at
            both None = refl
            both (Some shape) = e
        go x at (Some z) (shape, to, i, j, c, d) e = ap (λ o. kept o (a.cells x) at) i ∙ e ∙ ap (λ o. held_at (kept o (b.cells z.buffer)) (cell_at z.sides at)) (sym j)

        was : (x : ℕ) (at : List ℤ) (o : Option Shape) → o ≡ first.scene.buffers x → IsSome (first.scene.buffers x) → kept o (b.cells x) at ≡ b.cells x at
        was x at None e i = absurd (true≢false (sym (subst IsSome (sym e) i)))
        was x at (Some shape) e i = refl

  -- ---- calls

  abbrev GivenStands : Given → Given → Type 0
  GivenStands (GivenNumber m) (GivenNumber n) = m ≡ n
  GivenStands (GivenNumber m) (GivenView b) = ⊥
  GivenStands (GivenView a) (GivenNumber n) = ⊥
  GivenStands (GivenView a) (GivenView b) = Sees a b × (strided a.buffer ≡ true)

  abbrev GivensStand : List Given → List Given → Type 0
  GivensStand [] [] = Unit {0}
  GivensStand [] (h ∷ hs) = ⊥
  GivensStand (g ∷ gs) [] = ⊥
  GivensStand (g ∷ gs) (h ∷ hs) = GivenStands g h × GivensStand gs hs

  abbrev IsWritten : Given → Type 0
  IsWritten (GivenNumber n) = Unit {0}
  IsWritten (GivenView a) = written a.buffer ≡ true

  abbrev AreWritten : (ℕ → Bool) → List Param → List Given → Type 0
  AreWritten w [] gs = Unit {0}
  AreWritten w (p ∷ ps) [] = Unit {0}
  AreWritten w (p ∷ ps) (g ∷ gs) = (w p.binder.id ≡ true → IsWritten g) × AreWritten w ps gs

  -- it writes nothing else
  abbrev Only : (ℕ → Bool) → Type 0
  Only f = (y : ℕ) → written y ≡ false → f y ≡ false

  root_written : (r : ℕ) → Only (λ y. y == r) → written r ≡ true
  root_written r k = go (written r) refl
    where
      go : (t : Bool) → written r ≡ t → t ≡ true
      go true e = refl
      go false e = absurd (true≢false (sym (eq-eqb r r refl) ∙ k r e))

  only_left : (f g : ℕ → Bool) → Only (λ y. f y || g y) → Only f
  only_left f g k = λ y e. (or_parts (f y) (g y) (k y e)).0

  only_right : (f g : ℕ → Bool) → Only (λ y. f y || g y) → Only g
  only_right f g k = λ y e. (or_parts (f y) (g y) (k y e)).1

  module _ (root : ℕ → ℕ) (scene : Scene) (roots : HasRoots root scene) where
    view_written : (x : ℕ) (o : Option Seen) → IfSome o (λ a. a.buffer ≡ root x) → Only (λ y. y == root x) → IfSome o (λ a. written a.buffer ≡ true)
    view_written x None i k = tt
    view_written x (Some a) i k = ap written i ∙ root_written (root x) k

    seen_written : (o : Option Seen) → IfSome o (λ a. written a.buffer ≡ true) → IfSome (option_map GivenView o) IsWritten
    seen_written None i = tt
    seen_written (Some a) i = i

    given_written : (t : Bool) (a : Argument) → Only (λ y. t && is_root root y a) → IfSome (given scene a) (λ g. t ≡ true → IsWritten g)
    given_written false a k = if_weaken (λ g. Unit {0}) (λ g. false ≡ true → IsWritten g) (given scene a) (any (given scene a)) (λ g u e. absurd (true≢false (sym e)))
    given_written true (ControlArg a) k = λ e. tt
    given_written true (ConditionArg c) k = λ e. tt
    given_written true (Whole x) k = if_weaken IsWritten (λ g. true ≡ true → IsWritten g) (option_map GivenView (scene.views x)) (seen_written (scene.views x) (view_written x (scene.views x) (root_of root scene roots x) k)) (λ g w e. w)
    given_written true (Window x coords) k = if_weaken IsWritten (λ g. true ≡ true → IsWritten g) (option_map GivenView (window scene x coords)) (seen_written (window scene x coords) (view_written x (window scene x coords) (window_root root scene roots x coords) k)) (λ g w e. w)

    all_written : (w : ℕ → Bool) (ps : List Param) (args : List Argument) → Only (λ y. call_writes w root y ps args) → IfSome (all_given scene args) (AreWritten w ps)
    all_written w [] args k = if_weaken (λ g. Unit {0}) (AreWritten w []) (all_given scene args) (any (all_given scene args)) (λ g u. tt)
    all_written w (p ∷ ps) [] k = tt
    all_written w (p ∷ ps) (a ∷ rest) k =
        if_then (λ g. w p.binder.id ≡ true → IsWritten g) (AreWritten w (p ∷ ps)) (given scene a) (λ g. option_map (λ gs. g ∷ gs) (all_given scene rest)) (given_written (w p.binder.id) a (only_left (λ y. w p.binder.id && is_root root y a) (λ y. call_writes w root y ps rest) k)) (λ g i.
        if_map (AreWritten w ps) (AreWritten w (p ∷ ps)) (all_given scene rest) (λ gs. g ∷ gs) (all_written w ps rest (only_right (λ y. w p.binder.id && is_root root y a) (λ y. call_writes w root y ps rest) k)) (λ gs j. (i, j)))

  both_given : (o q : Option Seen) → Both Sees o q → IfSome o (λ z. strided z.buffer ≡ true) → Both GivenStands (option_map GivenView o) (option_map GivenView q)
  both_given None None k n = tt
  both_given None (Some b) k n = absurd k
  both_given (Some a) None k n = absurd k
  both_given (Some a) (Some b) k n = (k, n)

  module _ (s t : State) (h : Stands s t) where
    name_strided : (x : ℕ) → hidden x ≡ false → blind x ≡ false → IfSome (s.scene.views x) (λ z. strided z.buffer ≡ true)
    name_strided x e n = if_weaken (λ z. s.scene.views x ≡ Some z) (λ z. strided z.buffer ≡ true) (s.scene.views x) (here (s.scene.views x)) (λ z i. h.names x z e n i)

    window_strided : (x : ℕ) (coords : List Coord) → hidden x ≡ false → blind x ≡ false → IfSome (window s.scene x coords) (λ z. strided z.buffer ≡ true)
    window_strided x coords e n = if_then (λ z. strided z.buffer ≡ true) (λ z. strided z.buffer ≡ true) (s.scene.views x) (λ seen. option_map (λ sides. record { buffer = seen.buffer; sides = sides }) (narrowed s.scene seen.sides coords)) (name_strided x e n) (λ z i.
        if_map (λ l. Unit {0}) (λ (y : Seen). strided y.buffer ≡ true) (narrowed s.scene z.sides coords) (λ sides. record { buffer = z.buffer; sides = sides }) (any (narrowed s.scene z.sides coords)) (λ l w. i))

    given_stands : (a : Argument) → in_argument hidden blind a ≡ false → Both GivenStands (given s.scene a) (given t.scene a)
    given_stands (ControlArg a) k = number_same s t h a k
    given_stands (ConditionArg c) k = ap truth (holds_same s t h c k)
    given_stands (Whole x) k = let p = or_parts (hidden x) (blind x) k in both_given (s.scene.views x) (t.scene.views x) (h.views x p.0) (name_strided x p.0 p.1)
    given_stands (Window x coords) k =
        let q = or_parts (hidden x || blind x) (in_coords hidden blind coords) k in
        let p = or_parts (hidden x) (blind x) q.0 in
        both_given (window s.scene x coords) (window t.scene x coords) (window_stands s t h x coords p.0 q.1) (window_strided x coords p.0 p.1)

    all_stand : (args : List Argument) → in_arguments hidden blind args ≡ false → Both GivensStand (all_given s.scene args) (all_given t.scene args)
    all_stand [] k = tt
    all_stand (a ∷ args) k =
        let p = or_parts (in_argument hidden blind a) (in_arguments hidden blind args) k in
        both_then GivenStands GivensStand (given s.scene a) (given t.scene a) _ _ (given_stands a p.0) (λ g i u. both_map GivensStand GivensStand (all_given s.scene args) (all_given t.scene args) (λ gs. g ∷ gs) (λ gs. i ∷ gs) (all_stand args p.1) (λ gs hs v. (u, v)))

    contents_same : (a b : Seen) → Sees a b → contents s.cells a ≡ contents t.cells b
    contents_same a b (i, w, e) = fun_ext (λ is. go is (cell_at a.sides is) ∙ ap (held_at (t.cells (buffer_through (base a.buffer) a.buffer))) (sym (cell_at_through (base a.buffer) a.sides is w))) ∙ ap (contents t.cells) (sym e)
      where
        go : (is : List ℤ) (o : Option (List ℤ)) → held_at (s.cells a.buffer) o ≡ held_at (t.cells (buffer_through (base a.buffer) a.buffer)) (then_do o (cell_through (base a.buffer)))
        go is None = refl
        go is (Some at) = h.cells.own a.buffer i at

    bind_number_same : (x : ℕ) (kind : ParamKind) (g i : Given) (c : ℕ → ℤ) → GivenStands g i → bind_number x kind g c ≡ bind_number x kind i c
    bind_number_same x (ControlParam k) (GivenNumber m) (GivenNumber n) c u = ap (λ z. bind_number x (ControlParam k) (GivenNumber z) c) u
    bind_number_same x (ControlParam k) (GivenNumber m) (GivenView b) c u = absurd u
    bind_number_same x (ControlParam k) (GivenView a) (GivenNumber n) c u = absurd u
    bind_number_same x (ControlParam k) (GivenView a) (GivenView b) c u = refl
    bind_number_same x (TensorParam cell dims memory) g i c u = refl
    bind_number_same x (WindowParam cell dims memory) g i c u = refl

    bind_numbers_same : (ps : List Param) (gs is : List Given) (c : ℕ → ℤ) → GivensStand gs is → bind_numbers ps gs c ≡ bind_numbers ps is c
    bind_numbers_same [] [] [] c u = refl
    bind_numbers_same [] [] (i ∷ is) c u = absurd u
    bind_numbers_same [] (g ∷ gs) [] c u = absurd u
    bind_numbers_same [] (g ∷ gs) (i ∷ is) c u = refl
    bind_numbers_same (p ∷ ps) [] [] c u = refl
    bind_numbers_same (p ∷ ps) [] (i ∷ is) c u = absurd u
    bind_numbers_same (p ∷ ps) (g ∷ gs) [] c u = absurd u
    bind_numbers_same (p ∷ ps) (g ∷ gs) (i ∷ is) c u = ap₂ (λ o f. then_do o f) (bind_number_same p.binder.id p.kind g i c u.0) (fun_ext (λ d. bind_numbers_same ps gs is d u.1))

    copy_in_same : (x : ℕ) (cell : Cell) (dims : List ℤ) (g i : Given) (inner : State) → GivenStands g i → copy_in s x cell dims g inner ≡ copy_in t x cell dims i inner
    copy_in_same x cell dims (GivenNumber m) (GivenNumber n) inner u = refl
    copy_in_same x cell dims (GivenNumber m) (GivenView b) inner u = absurd u
    copy_in_same x cell dims (GivenView a) (GivenNumber n) inner u = absurd u
    copy_in_same x cell dims (GivenView a) (GivenView b) inner u =
        ap (λ l. where_true (same_index dims l && all_positive dims) (Some (with_contents x (contents s.cells a) (on_scene (with_buffer x (record { cell = cell; dims = dims; strides = strides_seen s.scene a })) inner)))) (sym (extents_through (base a.buffer) a.sides u.0.1) ∙ ap (λ (z : Seen). extents z.sides) (sym u.0.2))
        ∙ ap₂ (λ c l. where_true (same_index dims (extents b.sides) && all_positive dims) (Some (with_contents x c (on_scene (with_buffer x (record { cell = cell; dims = dims; strides = l })) inner)))) (contents_same a b u.0) (seen_strides s t h a b u.0 u.1)

    bind_buffer_same : (x : ℕ) (kind : ParamKind) (g i : Given) (inner : State) → GivenStands g i → bind_buffer s x kind g inner ≡ bind_buffer t x kind i inner
    bind_buffer_same x (ControlParam k) g i inner u = refl
    bind_buffer_same x (TensorParam cell dims memory) g i inner u = copy_in_same x cell (numbers inner.scene dims) g i inner u
    bind_buffer_same x (WindowParam cell dims memory) g i inner u = copy_in_same x cell (numbers inner.scene dims) g i inner u

    bind_buffers_same : (ps : List Param) (gs is : List Given) (inner : State) → GivensStand gs is → bind_buffers s ps gs inner ≡ bind_buffers t ps is inner
    bind_buffers_same [] gs is inner u = refl
    bind_buffers_same (p ∷ ps) [] [] inner u = refl
    bind_buffers_same (p ∷ ps) [] (i ∷ is) inner u = absurd u
    bind_buffers_same (p ∷ ps) (g ∷ gs) [] inner u = absurd u
    bind_buffers_same (p ∷ ps) (g ∷ gs) (i ∷ is) inner u = ap₂ (λ o f. then_do o f) (bind_buffer_same p.binder.id p.kind g i inner u.0) (fun_ext (λ v. bind_buffers_same ps gs is v u.1))

    entered_same : (ps : List Param) (gs is : List Given) → GivensStand gs is → entered ps gs s ≡ entered ps is t
    entered_same ps gs is u =
        ap₂ (λ o f. then_do o f) (bind_numbers_same ps gs is (λ x. pos 0) u) (fun_ext (λ c. bind_buffers_same ps gs is (bare c s.scene.fields) u ∙ ap (λ f. bind_buffers t ps is (bare c f)) h.fields))

  back_stands : (w : Bool) (g i : Given) (copy : List ℤ → Value) (c d : Cells) → GivenStands g i → (w ≡ true → IsWritten g) → CellsStand hidden written blind strided base first c d → CellsStand hidden written blind strided base first (copy_back w g copy c) (copy_back w i copy d)
  back_stands false g i copy c d u k l = l
  back_stands true (GivenNumber m) (GivenNumber n) copy c d u k l = l
  back_stands true (GivenNumber m) (GivenView b) copy c d u k l = absurd u
  back_stands true (GivenView a) (GivenNumber n) copy c d u k l = absurd u
  back_stands true (GivenView a) (GivenView b) copy c d ((i, w, e), st) k l =
      subst (λ (z : Seen). CellsStand hidden written blind strided base first (copy_back true (GivenView a) copy c) (copy_back true (GivenView z) copy d)) (sym e)
      (bulk_stands hidden written blind strided base first placing a.buffer (λ at v. value_or (index_of a.sides at) copy v) (λ r v. value_or (index_of (sides_through (base a.buffer) a.sides) r) copy v) c d i (k refl) (back_seen (base a.buffer) a.sides copy w) l)

  all_back_stand : (w : ℕ → Bool) (ps : List Param) (gs is : List Given) (copies c d : Cells) → GivensStand gs is → AreWritten w ps gs → CellsStand hidden written blind strided base first c d → CellsStand hidden written blind strided base first (copied_back w ps gs copies c) (copied_back w ps is copies d)
  all_back_stand w [] gs is copies c d u k l = l
  all_back_stand w (p ∷ ps) [] [] copies c d u k l = l
  all_back_stand w (p ∷ ps) [] (i ∷ is) copies c d u k l = absurd u
  all_back_stand w (p ∷ ps) (g ∷ gs) [] copies c d u k l = absurd u
  all_back_stand w (p ∷ ps) (g ∷ gs) (i ∷ is) copies c d u k l = all_back_stand w ps gs is copies (copy_back (w p.binder.id) g (copies p.binder.id) c) (copy_back (w p.binder.id) i (copies p.binder.id) d) u.1 k.1 (back_stands (w p.binder.id) g i (copies p.binder.id) c d u.0 k.0 l)

  both_if : {A B : Type 0} (R : A → B → Type 0) (P : A → Type 0) (o : Option A) (q : Option B) → Both R o q → IfSome o P → Both (λ a b. R a b × P a) o q
  both_if R P None None u k = tt
  both_if R P None (Some b) u k = absurd u
  both_if R P (Some a) None u k = absurd u
  both_if R P (Some a) (Some b) u k = (u, k)

  both_or : (x y : Bool) → (x || y) ≡ true → (x ≡ true) ⊎ (y ≡ true)
  both_or true y e = inl refl
  both_or false y e = inr e

  pair_same : (w : ℕ → Bool) (x y : ℕ) (g h i j : Given) → GivenStands g i → GivenStands h j → (w x ≡ true → IsWritten g) → (w y ≡ true → IsWritten h) → (not (w x || w y) || given_apart g h) ≡ (not (w x || w y) || given_apart i j)
  pair_same w x y (GivenNumber m) h (GivenNumber n) j u v a b = refl
  pair_same w x y (GivenNumber m) h (GivenView z) j u v a b = absurd u
  pair_same w x y (GivenView z) h (GivenNumber n) j u v a b = absurd u
  pair_same w x y (GivenView z) (GivenNumber m) (GivenView r) (GivenNumber n) u v a b = refl
  pair_same w x y (GivenView z) (GivenNumber m) (GivenView r) (GivenView q) u v a b = absurd v
  pair_same w x y (GivenView z) (GivenView o) (GivenView r) (GivenNumber n) u v a b = absurd v
  pair_same w x y (GivenView z) (GivenView o) (GivenView r) (GivenView q) ((hz, wz, ez), sz) ((ho, wo, eo), so) a b = go (w x || w y) refl
    where
      go : (t : Bool) → (w x || w y) ≡ t → (not t || are_apart z o) ≡ (not t || are_apart r q)
      go false e = refl
      go true e = apart_same hidden written blind strided base first placing z o hz ho wz wo (⊎_elim (λ f. inl (a f)) (λ f. inr (b f)) (both_or (w x) (w y) e)) ∙ ap₂ are_apart (sym ez) (sym eo)

  from_same : (w : ℕ → Bool) (x : ℕ) (g i : Given) (ps : List Param) (gs is : List Given) → GivenStands g i → (w x ≡ true → IsWritten g) → GivensStand gs is → AreWritten w ps gs → apart_from w x g ps gs ≡ apart_from w x i ps is
  from_same w x g i [] gs is u a v b = refl
  from_same w x g i (q ∷ qs) [] [] u a v b = refl
  from_same w x g i (q ∷ qs) [] (j ∷ js) u a v b = absurd v
  from_same w x g i (q ∷ qs) (h ∷ hs) [] u a v b = absurd v
  from_same w x g i (q ∷ qs) (h ∷ hs) (j ∷ js) u a v b = ap₂ ◌&&◌ (pair_same w x q.binder.id g h i j u v.0 a b.0) (from_same w x g i qs hs js u a v.1 b.1)

  givens_same : (w : ℕ → Bool) (ps : List Param) (gs is : List Given) → GivensStand gs is → AreWritten w ps gs → all_apart w ps gs ≡ all_apart w ps is
  givens_same w [] gs is v b = refl
  givens_same w (p ∷ ps) [] [] v b = refl
  givens_same w (p ∷ ps) [] (j ∷ js) v b = absurd v
  givens_same w (p ∷ ps) (h ∷ hs) [] v b = absurd v
  givens_same w (p ∷ ps) (h ∷ hs) (j ∷ js) v b = ap₂ ◌&&◌ (from_same w p.binder.id h j ps hs js v.0 b.0 v.1 b.1) (givens_same w ps hs js v.1 b.1)

  -- whether windows are apart is the same on the parts
  passed_same : (w : ℕ → Bool) (ps : List Param) (o q : Option (List Given)) → Both (λ gs is. GivensStand gs is × AreWritten w ps gs) o q → given_all_apart w ps o ≡ given_all_apart w ps q
  passed_same w ps None None b = refl
  passed_same w ps None (Some is) b = absurd b
  passed_same w ps (Some gs) None b = absurd b
  passed_same w ps (Some gs) (Some is) b = givens_same w ps gs is b.0 b.1

  call_stands : (root : ℕ → ℕ) (o : Option Callee) (args : List Argument) (s t : State) → in_arguments hidden blind args ≡ false → Only (λ y. call_to_writes o root y args) → HasRoots root s.scene → Stands s t → Both Stands (call_to o args s) (call_to o args t)
  call_stands root None args s t k l r h = tt
  call_stands root (Some callee) args s t k l r h =
      let both = both_if GivensStand (AreWritten callee.writes callee.procedure.params) (all_given s.scene args) (all_given t.scene args) (all_stand s t h args k) (all_written root s.scene r callee.writes callee.procedure.params args l) in
      subst (λ q. Both Stands (call callee args s) (where_true q (copied_call callee args t))) (passed_same callee.writes callee.procedure.params (all_given s.scene args) (all_given t.scene args) both)
      (both_where Stands (keeps_apart callee s.scene args) (copied_call callee args s) (copied_call callee args t)
      (both_then (λ gs is. GivensStand gs is × AreWritten callee.writes callee.procedure.params gs) Stands (all_given s.scene args) (all_given t.scene args) _ _ both
      (λ gs is u. subst (λ z. Both Stands (then_do (entered callee.procedure.params gs s) (λ inner. option_map (returned callee gs s) (run_asserted callee inner))) (then_do z (λ inner. option_map (returned callee is t) (run_asserted callee inner)))) (entered_same s t h callee.procedure.params gs is u.0)
      (both_then_same Stands (entered callee.procedure.params gs s) _ _ (λ inner. both_map_same Stands (run_asserted callee inner) (returned callee gs s) (returned callee is t) (λ done. record {
        control = h.control;
        views = h.views;
        names = h.names;
        buffers = h.buffers;
        others = h.others;
        fields = refl;
        cells = all_back_stand callee.writes callee.procedure.params gs is done.cells s.cells t.cells u.0 u.1 h.cells;
      }))))))

  -- ---- trees

  if_two : {A : Type 0} (P Q : A → Type 0) (o : Option A) → IfSome o P → IfSome o Q → IfSome o (λ a. P a × Q a)
  if_two P Q None h k = tt
  if_two P Q (Some a) h k = (h, k)

  view_strided : (s t : State) → Stands s t → (w x : ℕ) (coords : List Coord) → hidden x ≡ false → (not (blind w) && blind x) ≡ false → IfSome (window s.scene x coords) (λ a. blind w ≡ false → strided a.buffer ≡ true)
  view_strided s t h w x coords e k = go (blind w) refl k (blind x) refl
    where
      go : (p : Bool) → blind w ≡ p → (not p && blind x) ≡ false → (q : Bool) → blind x ≡ q → IfSome (window s.scene x coords) (λ a. blind w ≡ false → strided a.buffer ≡ true)
      go true i j q n = if_weaken (λ a. Unit {0}) (λ (a : Seen). blind w ≡ false → strided a.buffer ≡ true) (window s.scene x coords) (any (window s.scene x coords)) (λ a u v. absurd (true≢false (sym i ∙ v)))
      go false i j true n = absurd (true≢false (sym n ∙ j))
      go false i j false n = if_weaken (λ (a : Seen). strided a.buffer ≡ true) (λ (a : Seen). blind w ≡ false → strided a.buffer ≡ true) (window s.scene x coords) (window_strided s t h x coords e n) (λ a u v. u)

  record After (root : ℕ → ℕ) (s t : State) : Type 0 where
    stands : Stands s t
    roots : HasRoots root s.scene

  abbrev NoneMade : (ℕ → Bool) → Type 0
  NoneMade f = (x : ℕ) → f x ≡ true → base x ≡ None

  or_left : (a b : Bool) → a ≡ true → (a || b) ≡ true
  or_left true b e = refl
  or_left false b e = absurd (true≢false (sym e))

  or_right : (a b : Bool) → b ≡ true → (a || b) ≡ true
  or_right true b e = refl
  or_right false b e = e

  made_left : (f g : ℕ → Bool) → NoneMade (λ y. f y || g y) → NoneMade f
  made_left f g k = λ y e. k y (or_left (f y) (g y) e)

  made_right : (f g : ℕ → Bool) → NoneMade (λ y. f y || g y) → NoneMade g
  made_right f g k = λ y e. k y (or_right (f y) (g y) e)

  abbrev Follows : (ℕ → ℕ) → (State → Option State) → Type 0
  Follows root f = (s t : State) → HasRoots root s.scene → Stands s t → Both Stands (f s) (f t)

  scoped_stands : (root : ℕ → ℕ) (f : State → Option State) → Follows root f → (s t : State) → HasRoots root s.scene → Stands s t → Both (After root) (scoped f s) (scoped f t)
  scoped_stands root f k s t r h = both_map Stands (After root) (f s) (f t) (left s) (left t) (k s t r h) (λ a b u. record { stands = left_stands s t h a b u; roots = r })

  turn_stands : (root : ℕ → ℕ) (i : ℕ) (f : State → Option State) (n : ℤ) → Follows root f → (s t : State) → HasRoots root s.scene → Stands s t → Both (After root) (turn i f n s) (turn i f n t)
  turn_stands root i f n k s t r h = both_map Stands (After root) (f (on_scene (with_control i n) s)) (f (on_scene (with_control i n) t)) (left s) (left t) (k (on_scene (with_control i n) s) (on_scene (with_control i n) t) r (control_stands s t h i n)) (λ a b u. record { stands = left_stands s t h a b u; roots = r })

  turns_stand : (root : ℕ → ℕ) (i : ℕ) (f : State → Option State) (ns : List ℤ) → Follows root f → (s t : State) → HasRoots root s.scene → Stands s t → Both (After root) (turns (turn i f) ns s) (turns (turn i f) ns t)
  turns_stand root i f [] k s t r h = record { stands = h; roots = r }
  turns_stand root i f (n ∷ ns) k s t r h = both_then (After root) (After root) (turn i f n s) (turn i f n t) (turns (turn i f) ns) (turns (turn i f) ns) (turn_stands root i f n k s t r h) (λ a b u. turns_stand root i f ns k a b u.roots u.stands)

  choose_stands : (root : ℕ → ℕ) (q : Bool) (f g : State → Option State) → Follows root f → Follows root g → Follows root (choose q f g)
  choose_stands root true f g k l = k
  choose_stands root false f g k l = l

  with_roots : (root : ℕ → ℕ) (o q : Option State) → Both Stands o q → IfSome o (λ a. HasRoots root a.scene) → Both (After root) o q
  with_roots root None None u k = tt
  with_roots root None (Some b) u k = absurd u
  with_roots root (Some a) None u k = absurd u
  with_roots root (Some a) (Some b) u k = record { stands = u; roots = k }

  place_written : (root : ℕ → ℕ) (scene : Scene) (r : HasRoots root scene) (x : ℕ) (is : List Control) → Only (λ y. y == root x) → IfSome (place scene x is) (λ p. written p.buffer ≡ true)
  place_written root scene r x is k = if_weaken (λ p. p.buffer ≡ root x) (λ p. written p.buffer ≡ true) (place scene x is) (place_root root scene r x is) (λ p e. ap written e ∙ root_written (root x) k)

  put_roots : (root : ℕ → ℕ) (s : State) → HasRoots root s.scene → (o : Option Place) (v : Option Value) (f : Value → Value → Value) → IfSome (then_do o (λ p. then_do v (λ v. put s (f v) p))) (λ a. HasRoots root a.scene)
  put_roots root s r None v f = tt
  put_roots root s r (Some p) None f = tt
  put_roots root s r (Some p) (Some v) f = if_map (λ z. Unit {0}) (λ (a : State). HasRoots root a.scene) (s.scene.buffers p.buffer) _ (any (s.scene.buffers p.buffer)) (λ z u. r)

  call_roots : (root : ℕ → ℕ) (s : State) → HasRoots root s.scene → (o : Option Callee) (args : List Argument) → IfSome (call_to o args s) (λ a. HasRoots root a.scene)
  call_roots root s r None args = tt
  call_roots root s r (Some c) args =
      if_where (λ (a : State). HasRoots root a.scene) (keeps_apart c s.scene args) (copied_call c args s) (if_then (λ z. Unit {0}) (λ (a : State). HasRoots root a.scene) (all_given s.scene args) _ (any (all_given s.scene args)) (λ gs u.
      if_then (λ z. Unit {0}) (λ (a : State). HasRoots root a.scene) (entered c.procedure.params gs s) _ (any (entered c.procedure.params gs s)) (λ inner v.
      if_map (λ z. Unit {0}) (λ (a : State). HasRoots root a.scene) (run_asserted c inner) (returned c gs s) (any (run_asserted c inner)) (λ done w. r))))

  module _ (world : World) where
    mutual
      run_stands : (b : Block) (root : ℕ → ℕ) → in_block hidden blind b ≡ false → Only (writes world root b) → NoneMade (makes b) → Follows root (run world b)
      run_stands end root k l m = λ s t r h. h
      run_stands (next a b) root k l m = λ s t r h.
          let p = or_parts (in_statement hidden blind a) (in_block hidden blind b) k in
          both_then (After (roots_after a root)) Stands (step world a s) (step world a t) (run world b) (run world b)
          (step_stands a root p.0 (only_left (step_writes world root a) (writes world (roots_after a root) b) l) (made_left (step_makes a) (makes b) m) s t r h)
          (λ c d u. run_stands b (roots_after a root) p.1 (only_right (step_writes world root a) (writes world (roots_after a root) b) l) (made_right (step_makes a) (makes b) m) c d u.roots u.stands)

      step_stands : (a : Statement) (root : ℕ → ℕ) → in_statement hidden blind a ≡ false → Only (step_writes world root a) → NoneMade (step_makes a) → (s t : State) → HasRoots root s.scene → Stands s t → Both (After (roots_after a root)) (step world a s) (step world a t)
      step_stands (Assign x is e) root k l m = λ s t r h. with_roots root _ _ (store_stands s t h x is e (λ v old. v) k (place_written root s.scene r x is l)) (put_roots root s r (place s.scene x is) (value s e) (λ v old. v))
      step_stands (Reduce x is e) root k l m = λ s t r h. with_roots root _ _ (store_stands s t h x is e (λ v old. on_two ◌+ℤ◌ old v) k (place_written root s.scene r x is l)) (put_roots root s r (place s.scene x is) (value s e) (λ v old. on_two ◌+ℤ◌ old v))
      step_stands (Config f a) root k l m = λ s t r h.
          subst (λ o. Both (After root) (step world (Config f a) s) (then_do o (λ n. where_true (suits (world.kinds f) n) (Some (on_scene (with_field f n) t))))) (argument_same s t h a k)
          (both_then_same (After root) (argument_number s.scene a) _ _ (λ n. both_where (After root) (suits (world.kinds f) n) (Some (on_scene (with_field f n) s)) (Some (on_scene (with_field f n) t)) (record { stands = field_stands s t h f n; roots = r })))
      step_stands Pass root k l m = λ s t r h. record { stands = h; roots = r }
      step_stands (If c a b) root k l m = λ s t r h.
          let p = or_parts (in_condition hidden blind c) (in_block hidden blind a || in_block hidden blind b) k in
          let q = or_parts (in_block hidden blind a) (in_block hidden blind b) p.1 in
          subst (λ z. Both (After root) (step world (If c a b) s) (scoped (choose z (run world a) (run world b)) t)) (holds_same s t h c p.0)
          (scoped_stands root (choose (holds s.scene c) (run world a) (run world b)) (choose_stands root (holds s.scene c) (run world a) (run world b)
          (run_stands a root q.0 (only_left (writes world root a) (writes world root b) l) (made_left (makes a) (makes b) m))
          (run_stands b root q.1 (only_right (writes world root a) (writes world root b) l) (made_right (makes a) (makes b) m))) s t r h)
      step_stands (For i lo hi b) root k l m = λ s t r h.
          let p = or_parts (hidden i.id) (in_control hidden blind lo || (in_control hidden blind hi || in_block hidden blind b)) k in
          let q = or_parts (in_control hidden blind lo) (in_control hidden blind hi || in_block hidden blind b) p.1 in
          let z = or_parts (in_control hidden blind hi) (in_block hidden blind b) q.1 in
          subst (λ ns. Both (After root) (step world (For i lo hi b) s) (turns (turn i.id (run world b)) ns t)) (ap₂ (λ m n. range m (count (n -ℤ m))) (number_same s t h lo q.0) (number_same s t h hi z.0))
          (turns_stand root i.id (run world b) (turns_of s.scene lo hi) (run_stands b root z.1 l m) s t r h)
      step_stands (Alloc x cell dims memory) root k l m = λ s t r h.
          let p = or_parts (hidden x.id) (in_controls hidden blind dims) k in
          let shape : Shape = tensor cell (numbers s.scene dims) in
          subst (λ ds. Both (After (updated root x.id x.id)) (step world (Alloc x cell dims memory) s) (where_true (all_positive ds) (Some (with_contents x.id (λ at. Undefined) (on_scene (with_buffer x.id (tensor cell ds)) t))))) (numbers_same s t h dims p.1)
          (both_where (After (updated root x.id x.id)) (all_positive (numbers s.scene dims)) (Some (with_contents x.id (λ at. Undefined) (on_scene (with_buffer x.id shape) s))) (Some (with_contents x.id (λ at. Undefined) (on_scene (with_buffer x.id shape) t))) (record {
            stands = made_stands s t h x.id shape p.0 (m x.id (eq-eqb x.id x.id refl));
            roots = more_roots root s.scene r x.id _ x.id refl;
          }))
      step_stands (View w x coords) root k l m = λ s t r h.
          let o = or_parts (not (blind w.id) && blind x) (hidden w.id || (hidden x || in_coords hidden blind coords)) k in
          let p = or_parts (hidden w.id) (hidden x || in_coords hidden blind coords) o.1 in
          let q = or_parts (hidden x) (in_coords hidden blind coords) p.1 in
          both_then (λ a b. Sees a b × ((a.buffer ≡ root x) × (blind w.id ≡ false → strided a.buffer ≡ true))) (After (updated root w.id (root x))) (window s.scene x coords) (window t.scene x coords) (λ seen. Some (on_scene (with_view w.id seen) s)) (λ seen. Some (on_scene (with_view w.id seen) t))
          (both_if Sees (λ a. (a.buffer ≡ root x) × (blind w.id ≡ false → strided a.buffer ≡ true)) (window s.scene x coords) (window t.scene x coords) (window_stands s t h x coords q.0 q.1) (if_two (λ (a : Seen). a.buffer ≡ root x) (λ (a : Seen). blind w.id ≡ false → strided a.buffer ≡ true) (window s.scene x coords) (window_root root s.scene r x coords) (view_strided s t h w.id x coords q.0 o.0)))
          (λ a b u. record { stands = view_stands s t h w.id a b u.0 u.1.1; roots = more_roots root s.scene r w.id a (root x) u.1.0 })
      step_stands (Call n args) root k l m = λ s t r h. with_roots root _ _ (call_stands root (world.callees n) args s t k l r h) (call_roots root s r (world.callees n) args)

pub in_place : InPlace
in_place world hidden written blind strided base root b first s t placing k l m r h = run_stands hidden written blind strided base first placing world b root k l m s t r h
