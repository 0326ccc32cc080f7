-- A window in the place of a name.
use Rattle.meaning_laws.specs.Scoped.{has_binder, step_has_binder}
use Rattle.std.proofs.Common.{◌≡◌, ◌⊎◌, inl, inr, ℕ, zero, suc, ℤ, pos, neg_ℤ, ◌+ℤ◌, ◌-ℤ◌, ◌*ℤ◌, ◌==◌, int_lt, int_le, Bool, true, false, cond, ◌&&◌, ◌||◌, List, [], ◌∷◌, Option, Some, None, IfSome, option_map, get_or, refl, sym, ap, ap₂, ◌∙◌, subst, true≢false, eqb-true, arith}
use Rattle.std.proofs.lemmas.Int.{ints}
use Rattle.std.specs.Ordering.{int_eq}
use Rattle.std.specs.Int.{int_div_euclid, int_rem_euclid}
use Rattle.exo_tree.specs.Tree.{Control, Lit, Var, Field, StrideOf, Neg, Add, Sub, Mul, Div, Mod, Condition, True, False, Flag, FieldFlag, Lt, Le, Gt, Ge, Eq, And, Or, Datum, Const, Read, Negated, Relu, Plus, Minus, Times, Select, Coord, At, Span, Argument, ControlArg, ConditionArg, Whole, Window, Statement, Assign, Reduce, Config, Pass, If, For, Alloc, View, Call, Block, end, next}
use Rattle.exo_meaning.specs.Value.{Value, on_one, on_two, on_four, relu, selected}
use Rattle.exo_meaning.specs.Scene.{Shape, Seen, Side, Point, Range, Scene, then_do, number, numbers, holds, stride_at, strides_of, where_true, window, narrowed, cell_at, is_below}
use Rattle.exo_meaning.specs.State.{State, Place, place, held, put, value, left, scoped, on_scene, with_control, with_field}
use Rattle.exo_meaning.specs.Run.{World, run, step, argument_number, turn, turns, turns_of, range, count, choose, call_to, allocate}
use Rattle.exo_meaning.specs.Calls.{call, all_apart, given_all_apart, Given, Callee, Given, GivenView, GivenNumber, given, all_given, truth, entered, returned, run_asserted, suits}
use Rattle.exo_meaning.proofs.Frame.{or_parts}
use Rattle.exo_meaning.proofs.Windows.{none_is_some, one_value, where_parts, map_parts, sum_is}
use Rattle.meaning_laws.specs.Sound.{IsSameName, binds}
use Rattle.meaning_laws.specs.Substitute.{is_plain, has_variable}
use Rattle.meaning_laws.proofs.Substitute.{plain_same, and_parts}
use Rattle.meaning_laws.proofs.Names.{if_gives, step_names, turn_names}
use Rattle.inplace_laws.specs.Windows.{shifted, joined_coords, nth_span, root_in, coords_of, view_of, to_name, coords_at, in_control, in_controls, in_condition, in_datum, in_coords, in_argument, in_arguments, in_statement, in_block, are_plain, coords_have, WindowLaw}

-- ---- what gives something gives the same

abbrev pub Goes : {A : Type 0} → Option A → Option A → Type 0
Goes o q = IfSome o (λ a. q ≡ Some a)

pub goes_same : {A : Type 0} (o : Option A) → Goes o o
goes_same None = tt
goes_same (Some a) = refl

pub goes_then : {A B : Type 0} (o q : Option A) (f g : A → Option B) → Goes o q → ((a : A) → o ≡ Some a → Goes (f a) (g a)) → Goes (then_do o f) (then_do q g)
goes_then None q f g h k = tt
goes_then (Some a) q f g h k = subst (λ z. Goes (f a) (then_do z g)) (sym h) (k a refl)

pub goes_map : {A B : Type 0} (o q : Option A) (f : A → B) → Goes o q → Goes (option_map f o) (option_map f q)
goes_map None q f h = tt
goes_map (Some a) q f h = ap (option_map f) h

pub goes_equal : {A : Type 0} (o p q : Option A) → p ≡ q → Goes o p → Goes o q
goes_equal o p q e h = subst (λ z. Goes o z) e h

pub goes_on : {A : Type 0} (o p q : Option A) → Goes o p → Goes p q → Goes o q
goes_on None p q h k = tt
goes_on (Some a) p q h k = subst (λ z. IfSome z (λ a. q ≡ Some a)) h k

-- ---- a window's places, windows and strides

module _ (scene : Scene) where
  inside : (i j k n : ℤ) → (int_le (pos 0) i && int_lt i j && int_le j n) ≡ true → is_below k (j -ℤ i) ≡ true → is_below (i +ℤ k) n ≡ true
  inside i j k n h e = grind (arith, ints)

  inside_both : (i j k l n : ℤ) → (int_le (pos 0) i && int_lt i j && int_le j n) ≡ true → (int_le (pos 0) k && int_lt k l && int_le l (j -ℤ i)) ≡ true → (int_le (pos 0) (i +ℤ k) && int_lt (i +ℤ k) (i +ℤ l) && int_le (i +ℤ l) n) ≡ true
  inside_both i j k l n h e = grind (arith, ints)

  same_length : (i k l : ℤ) → (i +ℤ l) -ℤ (i +ℤ k) ≡ l -ℤ k
  same_length i k l = omega (arith, ints)

  pub place_on : (sides ts : List Side) (cs : List Coord) (is : List Control) (at : List ℤ) → narrowed scene sides cs ≡ Some ts → cell_at ts (numbers scene is) ≡ Some at → cell_at sides (numbers scene (shifted cs is)) ≡ Some at
  place_on [] ts [] is at e k = ap (λ l. cell_at l (numbers scene is)) (one_value [] ts e) ∙ k
  place_on [] ts (c ∷ cs) is at e k = absurd (none_is_some e)
  place_on (Point p ∷ sides) ts cs is at e k =
      let m = map_parts (λ rest. Point p ∷ rest) (narrowed scene sides cs) ts e in
      let q = map_parts (λ rest. p ∷ rest) (cell_at m.0 (numbers scene is)) at (ap (λ l. cell_at l (numbers scene is)) m.2 ∙ k) in
      ap (option_map (λ rest. p ∷ rest)) (place_on sides m.0 cs is q.0 m.1 q.1) ∙ ap Some q.2
  place_on (Range lo n ∷ sides) ts [] is at e k = absurd (none_is_some e)
  place_on (Range lo n ∷ sides) ts (At a ∷ cs) is at e k =
      let i = number scene a in
      let w = where_parts (is_below i n) (option_map (λ rest. Point (lo +ℤ i) ∷ rest) (narrowed scene sides cs)) ts e in
      let m = map_parts (λ rest. Point (lo +ℤ i) ∷ rest) (narrowed scene sides cs) ts w.1 in
      let q = map_parts (λ rest. (lo +ℤ i) ∷ rest) (cell_at m.0 (numbers scene is)) at (ap (λ l. cell_at l (numbers scene is)) m.2 ∙ k) in
      ap (λ t. where_true t (option_map (λ rest. (lo +ℤ i) ∷ rest) (cell_at sides (numbers scene (shifted cs is))))) w.0 ∙ ap (option_map (λ rest. (lo +ℤ i) ∷ rest)) (place_on sides m.0 cs is q.0 m.1 q.1) ∙ ap Some q.2
  place_on (Range lo n ∷ sides) ts (Span a b ∷ cs) [] at e k =
      let i = number scene a in
      let j = number scene b in
      let w = where_parts (int_le (pos 0) i && int_lt i j && int_le j n) (option_map (λ rest. Range (lo +ℤ i) (j -ℤ i) ∷ rest) (narrowed scene sides cs)) ts e in
      let m = map_parts (λ rest. Range (lo +ℤ i) (j -ℤ i) ∷ rest) (narrowed scene sides cs) ts w.1 in
      absurd (none_is_some (ap (λ l. cell_at l []) m.2 ∙ k))
  place_on (Range lo n ∷ sides) ts (Span a b ∷ cs) (c ∷ is) at e k =
      let i = number scene a in
      let j = number scene b in
      let l = number scene c in
      let w = where_parts (int_le (pos 0) i && int_lt i j && int_le j n) (option_map (λ rest. Range (lo +ℤ i) (j -ℤ i) ∷ rest) (narrowed scene sides cs)) ts e in
      let m = map_parts (λ rest. Range (lo +ℤ i) (j -ℤ i) ∷ rest) (narrowed scene sides cs) ts w.1 in
      let u = where_parts (is_below l (j -ℤ i)) (option_map (λ rest. ((lo +ℤ i) +ℤ l) ∷ rest) (cell_at m.0 (numbers scene is))) at (ap (λ l. cell_at l (numbers scene (c ∷ is))) m.2 ∙ k) in
      let q = map_parts (λ rest. ((lo +ℤ i) +ℤ l) ∷ rest) (cell_at m.0 (numbers scene is)) at u.1 in
      ap (λ t. where_true t (option_map (λ rest. (lo +ℤ (i +ℤ l)) ∷ rest) (cell_at sides (numbers scene (shifted cs is))))) (inside i j l n w.0 u.0) ∙ ap (option_map (λ rest. (lo +ℤ (i +ℤ l)) ∷ rest)) (place_on sides m.0 cs is q.0 m.1 q.1) ∙ ap (λ z. Some (z ∷ q.0)) (sym (sum_is lo i l)) ∙ ap Some q.2

  window_on : (sides ts us : List Side) (cs ds : List Coord) → narrowed scene sides cs ≡ Some ts → narrowed scene ts ds ≡ Some us → narrowed scene sides (joined_coords cs ds) ≡ Some us
  window_on [] ts us [] ds e k = ap (λ l. narrowed scene l ds) (one_value [] ts e) ∙ k
  window_on [] ts us (c ∷ cs) ds e k = absurd (none_is_some e)
  window_on (Point p ∷ sides) ts us cs ds e k =
      let m = map_parts (λ rest. Point p ∷ rest) (narrowed scene sides cs) ts e in
      let q = map_parts (λ rest. Point p ∷ rest) (narrowed scene m.0 ds) us (ap (λ l. narrowed scene l ds) m.2 ∙ k) in
      ap (option_map (λ rest. Point p ∷ rest)) (window_on sides m.0 q.0 cs ds m.1 q.1) ∙ ap Some q.2
  window_on (Range lo n ∷ sides) ts us [] ds e k = absurd (none_is_some e)
  window_on (Range lo n ∷ sides) ts us (At a ∷ cs) ds e k =
      let i = number scene a in
      let w = where_parts (is_below i n) (option_map (λ rest. Point (lo +ℤ i) ∷ rest) (narrowed scene sides cs)) ts e in
      let m = map_parts (λ rest. Point (lo +ℤ i) ∷ rest) (narrowed scene sides cs) ts w.1 in
      let q = map_parts (λ rest. Point (lo +ℤ i) ∷ rest) (narrowed scene m.0 ds) us (ap (λ l. narrowed scene l ds) m.2 ∙ k) in
      ap (λ t. where_true t (option_map (λ rest. Point (lo +ℤ i) ∷ rest) (narrowed scene sides (joined_coords cs ds)))) w.0 ∙ ap (option_map (λ rest. Point (lo +ℤ i) ∷ rest)) (window_on sides m.0 q.0 cs ds m.1 q.1) ∙ ap Some q.2
  window_on (Range lo n ∷ sides) ts us (Span a b ∷ cs) [] e k =
      let i = number scene a in
      let j = number scene b in
      let w = where_parts (int_le (pos 0) i && int_lt i j && int_le j n) (option_map (λ rest. Range (lo +ℤ i) (j -ℤ i) ∷ rest) (narrowed scene sides cs)) ts e in
      let m = map_parts (λ rest. Range (lo +ℤ i) (j -ℤ i) ∷ rest) (narrowed scene sides cs) ts w.1 in
      absurd (none_is_some (ap (λ l. narrowed scene l []) m.2 ∙ k))
  window_on (Range lo n ∷ sides) ts us (Span a b ∷ cs) (At c ∷ ds) e k =
      let i = number scene a in
      let j = number scene b in
      let l = number scene c in
      let w = where_parts (int_le (pos 0) i && int_lt i j && int_le j n) (option_map (λ rest. Range (lo +ℤ i) (j -ℤ i) ∷ rest) (narrowed scene sides cs)) ts e in
      let m = map_parts (λ rest. Range (lo +ℤ i) (j -ℤ i) ∷ rest) (narrowed scene sides cs) ts w.1 in
      let u = where_parts (is_below l (j -ℤ i)) (option_map (λ rest. Point ((lo +ℤ i) +ℤ l) ∷ rest) (narrowed scene m.0 ds)) us (ap (λ l. narrowed scene l (At c ∷ ds)) m.2 ∙ k) in
      let q = map_parts (λ rest. Point ((lo +ℤ i) +ℤ l) ∷ rest) (narrowed scene m.0 ds) us u.1 in
      ap (λ t. where_true t (option_map (λ rest. Point (lo +ℤ (i +ℤ l)) ∷ rest) (narrowed scene sides (joined_coords cs ds)))) (inside i j l n w.0 u.0) ∙ ap (option_map (λ rest. Point (lo +ℤ (i +ℤ l)) ∷ rest)) (window_on sides m.0 q.0 cs ds m.1 q.1) ∙ ap (λ z. Some (Point z ∷ q.0)) (sym (sum_is lo i l)) ∙ ap Some q.2
  window_on (Range lo n ∷ sides) ts us (Span a b ∷ cs) (Span c d ∷ ds) e k =
      let i = number scene a in
      let j = number scene b in
      let l = number scene c in
      let r = number scene d in
      let w = where_parts (int_le (pos 0) i && int_lt i j && int_le j n) (option_map (λ rest. Range (lo +ℤ i) (j -ℤ i) ∷ rest) (narrowed scene sides cs)) ts e in
      let m = map_parts (λ rest. Range (lo +ℤ i) (j -ℤ i) ∷ rest) (narrowed scene sides cs) ts w.1 in
      let u = where_parts (int_le (pos 0) l && int_lt l r && int_le r (j -ℤ i)) (option_map (λ rest. Range ((lo +ℤ i) +ℤ l) (r -ℤ l) ∷ rest) (narrowed scene m.0 ds)) us (ap (λ l. narrowed scene l (Span c d ∷ ds)) m.2 ∙ k) in
      let q = map_parts (λ rest. Range ((lo +ℤ i) +ℤ l) (r -ℤ l) ∷ rest) (narrowed scene m.0 ds) us u.1 in
      ap (λ t. where_true t (option_map (λ rest. Range (lo +ℤ (i +ℤ l)) ((i +ℤ r) -ℤ (i +ℤ l)) ∷ rest) (narrowed scene sides (joined_coords cs ds)))) (inside_both i j l r n w.0 u.0) ∙ ap (option_map (λ rest. Range (lo +ℤ (i +ℤ l)) ((i +ℤ r) -ℤ (i +ℤ l)) ∷ rest)) (window_on sides m.0 q.0 cs ds m.1 q.1) ∙ ap₂ (λ z y. Some (Range z y ∷ q.0)) (sym (sum_is lo i l)) (same_length i l r) ∙ ap Some q.2

  no_stride : (k : ℕ) → get_or [] k (pos 0) ≡ pos 0
  no_stride zero = refl
  no_stride (suc k) = refl

  empty_strides : (sides : List Side) (k : ℕ) → get_or (strides_of sides []) k (pos 0) ≡ pos 0
  empty_strides [] k = no_stride k
  empty_strides (x ∷ sides) k = no_stride k

  stride_on : (sides ts : List Side) (cs : List Coord) (strides : List ℤ) (k : ℕ) → narrowed scene sides cs ≡ Some ts → get_or (strides_of ts strides) k (pos 0) ≡ get_or (strides_of sides strides) (nth_span cs k) (pos 0)
  stride_on [] ts [] strides k e = ap (λ l. get_or (strides_of l strides) k (pos 0)) (sym (one_value [] ts e))
  stride_on [] ts (c ∷ cs) strides k e = absurd (none_is_some e)
  stride_on (x ∷ sides) ts cs [] k e = empty_strides ts k ∙ sym (empty_strides (x ∷ sides) (nth_span cs k))
  stride_on (Point p ∷ sides) ts cs (t ∷ strides) k e =
      let m = map_parts (λ rest. Point p ∷ rest) (narrowed scene sides cs) ts e in
      ap (λ l. get_or (strides_of l (t ∷ strides)) k (pos 0)) (sym m.2) ∙ stride_on sides m.0 cs strides k m.1
  stride_on (Range lo n ∷ sides) ts [] (t ∷ strides) k e = absurd (none_is_some e)
  stride_on (Range lo n ∷ sides) ts (At a ∷ cs) (t ∷ strides) k e =
      let i = number scene a in
      let w = where_parts (is_below i n) (option_map (λ rest. Point (lo +ℤ i) ∷ rest) (narrowed scene sides cs)) ts e in
      let m = map_parts (λ rest. Point (lo +ℤ i) ∷ rest) (narrowed scene sides cs) ts w.1 in
      ap (λ l. get_or (strides_of l (t ∷ strides)) k (pos 0)) (sym m.2) ∙ stride_on sides m.0 cs strides k m.1
  stride_on (Range lo n ∷ sides) ts (Span a b ∷ cs) (t ∷ strides) zero e =
      let i = number scene a in
      let j = number scene b in
      let w = where_parts (int_le (pos 0) i && int_lt i j && int_le j n) (option_map (λ rest. Range (lo +ℤ i) (j -ℤ i) ∷ rest) (narrowed scene sides cs)) ts e in
      let m = map_parts (λ rest. Range (lo +ℤ i) (j -ℤ i) ∷ rest) (narrowed scene sides cs) ts w.1 in
      ap (λ l. get_or (strides_of l (t ∷ strides)) zero (pos 0)) (sym m.2)
  stride_on (Range lo n ∷ sides) ts (Span a b ∷ cs) (t ∷ strides) (suc k) e =
      let i = number scene a in
      let j = number scene b in
      let w = where_parts (int_le (pos 0) i && int_lt i j && int_le j n) (option_map (λ rest. Range (lo +ℤ i) (j -ℤ i) ∷ rest) (narrowed scene sides cs)) ts e in
      let m = map_parts (λ rest. Range (lo +ℤ i) (j -ℤ i) ∷ rest) (narrowed scene sides cs) ts w.1 in
      ap (λ l. get_or (strides_of l (t ∷ strides)) (suc k) (pos 0)) (sym m.2) ∙ stride_on sides m.0 cs strides k m.1

-- ---- a state in which the window stands for the name

abbrev part_with : ℕ → List Side → Seen
part_with b sides = record { buffer = b; sides = sides }

-- r is seen where the name with these coordinates stood for a
abbrev Via : Scene → Seen → Seen → List Coord → Type 0
Via scene r a cs = ((cs ≡ []) × (r ≡ a)) ⊎ ((r.buffer ≡ a.buffer) × (narrowed scene r.sides cs ≡ Some a.sides))

window_parts : (scene : Scene) (x : ℕ) (coords : List Coord) (a : Seen) → window scene x coords ≡ Some a → (r : Seen) × (scene.views x ≡ Some r) × (r.buffer ≡ a.buffer) × (narrowed scene r.sides coords ≡ Some a.sides)
window_parts scene x coords a e = go (scene.views x) refl e
  where
    go : (o : Option Seen) → scene.views x ≡ o → then_do o (λ seen. option_map (λ sides. record { buffer = seen.buffer; sides = sides }) (narrowed scene seen.sides coords)) ≡ Some a → (r : Seen) × (scene.views x ≡ Some r) × (r.buffer ≡ a.buffer) × (narrowed scene r.sides coords ≡ Some a.sides)
    go None i e = absurd (none_is_some e)
    go (Some r) i e =
        let m = map_parts (λ sides. record { buffer = r.buffer; sides = sides }) (narrowed scene r.sides coords) a e in
        (r, i, ap (λ (z : Seen). z.buffer) m.2, m.1 ∙ ap (λ (z : Seen). Some z.sides) m.2)

module _ (w : ℕ) (t : Argument) where
  module _ (scene : Scene) (seen : Seen) (name : scene.views w ≡ Some seen) (stands : view_of scene t ≡ Some seen) where
    root_via : (t : Argument) → view_of scene t ≡ Some seen → (r : Seen) × (scene.views (root_in t w) ≡ Some r) × Via scene r seen (coords_of t)
    root_via (ControlArg a) e = absurd (none_is_some e)
    root_via (ConditionArg c) e = absurd (none_is_some e)
    root_via (Whole x) e = (seen, e, inl (refl, refl))
    root_via (Window x coords) e = let p = window_parts scene x coords seen e in (p.0, p.1, inr (p.2, p.3))

    via : (y : ℕ) (a : Seen) → scene.views y ≡ Some a → (r : Seen) × (scene.views (to_name w t y) ≡ Some r) × Via scene r a (coords_at w t y)
    via y a e = go (y == w) refl
      where
        go : (q : Bool) → (y == w) ≡ q → (r : Seen) × (scene.views (cond q (root_in t w) y) ≡ Some r) × Via scene r a (cond q (coords_of t) [])
        go false i = (a, e, inl (refl, refl))
        go true i =
            let same : seen ≡ a = one_value seen a (sym name ∙ ap scene.views (sym (eqb-true y w i)) ∙ e) in
            let p = root_via t stands in
            (p.0, p.1, subst (λ z. Via scene p.0 z (coords_of t)) same p.2)

    stride_via : (r a : Seen) (cs : List Coord) (k : ℕ) → Via scene r a cs → stride_at scene (Some a) k ≡ stride_at scene (Some r) (nth_span cs k)
    stride_via r a cs k (inl (i, j)) = ap (λ z. stride_at scene (Some z) k) (sym j) ∙ ap (λ l. stride_at scene (Some r) (nth_span l k)) (sym i)
    stride_via r a cs k (inr (i, j)) = ap (λ b. stride_at scene (Some (record { buffer = b; sides = a.sides })) k) (sym i) ∙ go (scene.buffers r.buffer)
      where
        go : (o : Option Shape) → get_or (elim o as (λ x. List ℤ) [ None ↦ [] | Some shape ↦ strides_of a.sides shape.strides ]) k (pos 0) ≡ get_or (elim o as (λ x. List ℤ) [ None ↦ [] | Some shape ↦ strides_of r.sides shape.strides ]) (nth_span cs k) (pos 0)
        go None = no_stride scene k ∙ sym (no_stride scene (nth_span cs k))
        go (Some shape) = stride_on scene r.sides a.sides cs shape.strides k j

    stride_in : (y k : ℕ) → stride_at scene (scene.views y) k ≡ stride_at scene (scene.views (to_name w t y)) (nth_span (coords_at w t y) k)
    stride_in y k = by_name (y == w) refl
      where
        by_name : (q : Bool) → (y == w) ≡ q → stride_at scene (scene.views y) k ≡ stride_at scene (scene.views (cond q (root_in t w) y)) (nth_span (cond q (coords_of t) []) k)
        by_name false i = refl
        by_name true i =
            let p = root_via t stands in
            ap (λ z. stride_at scene (scene.views z) k) (eqb-true y w i) ∙ ap (λ o. stride_at scene o k) name ∙ stride_via p.0 seen (coords_of t) k p.2 ∙ ap (λ o. stride_at scene o (nth_span (coords_of t) k)) (sym p.1)

    number_in : (e : Control) → number scene e ≡ number scene (in_control w t e)
    number_in (Lit n) = refl
    number_in (Var x) = refl
    number_in (Field f) = refl
    number_in (StrideOf y k) = stride_in y k
    number_in (Neg a) = ap neg_ℤ (number_in a)
    number_in (Add a b) = ap₂ ◌+ℤ◌ (number_in a) (number_in b)
    number_in (Sub a b) = ap₂ ◌-ℤ◌ (number_in a) (number_in b)
    number_in (Mul a b) = ap₂ ◌*ℤ◌ (number_in a) (number_in b)
    number_in (Div a c) = ap (λ n. int_div_euclid n c) (number_in a)
    number_in (Mod a c) = ap (λ n. int_rem_euclid n c) (number_in a)

    numbers_in : (es : List Control) → numbers scene es ≡ numbers scene (in_controls w t es)
    numbers_in [] = refl
    numbers_in (e ∷ es) = ap₂ ◌∷◌ (number_in e) (numbers_in es)

    holds_in : (c : Condition) → holds scene c ≡ holds scene (in_condition w t c)
    holds_in True = refl
    holds_in False = refl
    holds_in (Flag x) = refl
    holds_in (FieldFlag f) = refl
    holds_in (Lt a b) = ap₂ int_lt (number_in a) (number_in b)
    holds_in (Le a b) = ap₂ int_le (number_in a) (number_in b)
    holds_in (Gt a b) = ap₂ int_lt (number_in b) (number_in a)
    holds_in (Ge a b) = ap₂ int_le (number_in b) (number_in a)
    holds_in (Eq a b) = ap₂ int_eq (number_in a) (number_in b)
    holds_in (And c d) = ap₂ ◌&&◌ (holds_in c) (holds_in d)
    holds_in (Or c d) = ap₂ ◌||◌ (holds_in c) (holds_in d)

    narrowed_in : (sides : List Side) (cs : List Coord) → narrowed scene sides cs ≡ narrowed scene sides (in_coords w t cs)
    narrowed_in [] [] = refl
    narrowed_in [] (At a ∷ cs) = refl
    narrowed_in [] (Span a b ∷ cs) = refl
    narrowed_in (Point p ∷ sides) cs = ap (option_map (λ rest. Point p ∷ rest)) (narrowed_in sides cs)
    narrowed_in (Range lo n ∷ sides) [] = refl
    narrowed_in (Range lo n ∷ sides) (At a ∷ cs) = ap₂ (λ i o. where_true (is_below i n) (option_map (λ rest. Point (lo +ℤ i) ∷ rest) o)) (number_in a) (narrowed_in sides cs)
    narrowed_in (Range lo n ∷ sides) (Span a b ∷ cs) =
        ap (λ i. where_true (int_le (pos 0) i && int_lt i (number scene b) && int_le (number scene b) n) (option_map (λ rest. Range (lo +ℤ i) (number scene b -ℤ i) ∷ rest) (narrowed scene sides cs))) (number_in a)
        ∙ ap₂ (λ j o. where_true (int_le (pos 0) (number scene (in_control w t a)) && int_lt (number scene (in_control w t a)) j && int_le j n) (option_map (λ rest. Range (lo +ℤ number scene (in_control w t a)) (j -ℤ number scene (in_control w t a)) ∷ rest) o)) (number_in b) (narrowed_in sides cs)

    some_goes : {A : Type 0} (o q : Option A) → ((a : A) → o ≡ Some a → q ≡ Some a) → Goes o q
    some_goes None q h = tt
    some_goes (Some a) q h = h a refl

    abbrev part_of : ℕ → List Side → Seen
    part_of b sides = record { buffer = b; sides = sides }

    abbrev place_at : ℕ → List ℤ → Place
    place_at b at = record { buffer = b; at = at }

    place_in : (y : ℕ) (is : List Control) → Goes (place scene y is) (place scene (to_name w t y) (shifted (coords_at w t y) (in_controls w t is)))
    place_in y is = go (scene.views y) refl
      where
        found : (a r : Seen) → Via scene r a (coords_at w t y) → (at : List ℤ) → cell_at a.sides (numbers scene is) ≡ Some at → then_do (Some r) (λ z. option_map (place_at z.buffer) (cell_at z.sides (numbers scene (shifted (coords_at w t y) (in_controls w t is))))) ≡ Some (place_at a.buffer at)
        found a r (inl (i, j)) at e =
            ap (λ (z : Seen). option_map (place_at z.buffer) (cell_at z.sides (numbers scene (shifted (coords_at w t y) (in_controls w t is))))) j
            ∙ ap (λ l. option_map (place_at a.buffer) (cell_at a.sides (numbers scene (shifted l (in_controls w t is))))) i
            ∙ ap (option_map (place_at a.buffer)) (ap (cell_at a.sides) (sym (numbers_in is)) ∙ e)
        found a r (inr (i, j)) at e =
            ap (option_map (place_at r.buffer)) (place_on scene r.sides a.sides (coords_at w t y) (in_controls w t is) at j (ap (cell_at a.sides) (sym (numbers_in is)) ∙ e)) ∙ ap (λ b. Some (place_at b at)) i

        at_seen : (a r : Seen) → Via scene r a (coords_at w t y) → (o : Option (List ℤ)) → cell_at a.sides (numbers scene is) ≡ o → Goes (option_map (place_at a.buffer) o) (then_do (Some r) (λ z. option_map (place_at z.buffer) (cell_at z.sides (numbers scene (shifted (coords_at w t y) (in_controls w t is))))))
        at_seen a r v None e = tt
        at_seen a r v (Some at) e = found a r v at e

        go : (o : Option Seen) → scene.views y ≡ o → Goes (then_do o (λ z. option_map (place_at z.buffer) (cell_at z.sides (numbers scene is)))) (place scene (to_name w t y) (shifted (coords_at w t y) (in_controls w t is)))
        go None i = tt
        go (Some a) i =
            let p = via y a i in
            subst (λ o. Goes (option_map (place_at a.buffer) (cell_at a.sides (numbers scene is))) (then_do o (λ z. option_map (place_at z.buffer) (cell_at z.sides (numbers scene (shifted (coords_at w t y) (in_controls w t is))))))) (sym p.1) (at_seen a p.0 p.2 (cell_at a.sides (numbers scene is)) refl)

    window_in : (y : ℕ) (cs : List Coord) → Goes (window scene y cs) (window scene (to_name w t y) (joined_coords (coords_at w t y) (in_coords w t cs)))
    window_in y cs = go (scene.views y) refl
      where
        found : (a r : Seen) → Via scene r a (coords_at w t y) → (us : List Side) → narrowed scene a.sides cs ≡ Some us → then_do (Some r) (λ z. option_map (part_of z.buffer) (narrowed scene z.sides (joined_coords (coords_at w t y) (in_coords w t cs)))) ≡ Some (part_of a.buffer us)
        found a r (inl (i, j)) us e =
            ap (λ (z : Seen). option_map (part_of z.buffer) (narrowed scene z.sides (joined_coords (coords_at w t y) (in_coords w t cs)))) j
            ∙ ap (λ l. option_map (part_of a.buffer) (narrowed scene a.sides (joined_coords l (in_coords w t cs)))) i
            ∙ ap (option_map (part_of a.buffer)) (sym (narrowed_in a.sides cs) ∙ e)
        found a r (inr (i, j)) us e =
            ap (option_map (part_of r.buffer)) (window_on scene r.sides a.sides us (coords_at w t y) (in_coords w t cs) j (sym (narrowed_in a.sides cs) ∙ e)) ∙ ap (λ b. Some (part_of b us)) i

        at_seen : (a r : Seen) → Via scene r a (coords_at w t y) → (o : Option (List Side)) → narrowed scene a.sides cs ≡ o → Goes (option_map (part_of a.buffer) o) (then_do (Some r) (λ z. option_map (part_of z.buffer) (narrowed scene z.sides (joined_coords (coords_at w t y) (in_coords w t cs)))))
        at_seen a r v None e = tt
        at_seen a r v (Some us) e = found a r v us e

        go : (o : Option Seen) → scene.views y ≡ o → Goes (then_do o (λ z. option_map (part_of z.buffer) (narrowed scene z.sides cs))) (window scene (to_name w t y) (joined_coords (coords_at w t y) (in_coords w t cs)))
        go None i = tt
        go (Some a) i =
            let p = via y a i in
            subst (λ o. Goes (option_map (part_of a.buffer) (narrowed scene a.sides cs)) (then_do o (λ z. option_map (part_of z.buffer) (narrowed scene z.sides (joined_coords (coords_at w t y) (in_coords w t cs)))))) (sym p.1) (at_seen a p.0 p.2 (narrowed scene a.sides cs) refl)

    given_in : (a : Argument) → Goes (given scene a) (given scene (in_argument w t a))
    given_in (ControlArg a) = ap (λ n. Some (GivenNumber n)) (sym (number_in a))
    given_in (ConditionArg c) = ap (λ b. Some (GivenNumber (truth b))) (sym (holds_in c))
    given_in (Whole y) = some_goes (option_map GivenView (scene.views y)) (given scene (cond (y == w) t (Whole y))) (λ g e. go (y == w) refl g e)
      where
        viewed : (t : Argument) → view_of scene t ≡ Some seen → given scene t ≡ Some (GivenView seen)
        viewed (ControlArg a) i = absurd (none_is_some i)
        viewed (ConditionArg c) i = absurd (none_is_some i)
        viewed (Whole x) i = ap (option_map GivenView) i
        viewed (Window x coords) i = ap (option_map GivenView) i

        go : (q : Bool) → (y == w) ≡ q → (g : Given) → option_map GivenView (scene.views y) ≡ Some g → given scene (cond q t (Whole y)) ≡ Some g
        go false i g e = e
        go true i g e = viewed t stands ∙ ap (option_map GivenView) (sym name) ∙ ap (λ z. option_map GivenView (scene.views z)) (sym (eqb-true y w i)) ∙ e
    given_in (Window y coords) = goes_map (window scene y coords) (window scene (to_name w t y) (joined_coords (coords_at w t y) (in_coords w t coords))) GivenView (window_in y coords)

    all_given_in : (args : List Argument) → Goes (all_given scene args) (all_given scene (in_arguments w t args))
    all_given_in [] = refl
    all_given_in (a ∷ args) = goes_then (given scene a) (given scene (in_argument w t a)) _ _ (given_in a) (λ g e. goes_map (all_given scene args) (all_given scene (in_arguments w t args)) (λ gs. g ∷ gs) (all_given_in args))

    number_argument : (a : Argument) → Goes (argument_number scene a) (argument_number scene (in_argument w t a))
    number_argument (ControlArg a) = ap Some (sym (number_in a))
    number_argument (ConditionArg c) = ap (λ b. Some (truth b)) (sym (holds_in c))
    number_argument (Whole x) = tt
    number_argument (Window x coords) = tt

  -- ---- states

  module _ (s : State) (seen : Seen) (name : s.scene.views w ≡ Some seen) (stands : view_of s.scene t ≡ Some seen) where
    value_in : (e : Datum) → Goes (value s e) (value s (in_datum w t e))
    value_in (Const n) = refl
    value_in (Read y is) = goes_map (place s.scene y is) (place s.scene (to_name w t y) (shifted (coords_at w t y) (in_controls w t is))) (held s.cells) (place_in s.scene seen name stands y is)
    value_in (Negated a) = goes_map (value s a) (value s (in_datum w t a)) (on_one (λ m. pos 0 -ℤ m)) (value_in a)
    value_in (Relu a) = goes_map (value s a) (value s (in_datum w t a)) (on_one relu) (value_in a)
    value_in (Plus a b) = goes_then (value s a) (value s (in_datum w t a)) _ _ (value_in a) (λ u e. goes_map (value s b) (value s (in_datum w t b)) (on_two ◌+ℤ◌ u) (value_in b))
    value_in (Minus a b) = goes_then (value s a) (value s (in_datum w t a)) _ _ (value_in a) (λ u e. goes_map (value s b) (value s (in_datum w t b)) (on_two ◌-ℤ◌ u) (value_in b))
    value_in (Times a b) = goes_then (value s a) (value s (in_datum w t a)) _ _ (value_in a) (λ u e. goes_map (value s b) (value s (in_datum w t b)) (on_two ◌*ℤ◌ u) (value_in b))
    value_in (Select a b c d) =
        goes_then (value s a) (value s (in_datum w t a)) _ _ (value_in a) (λ x e. goes_then (value s b) (value s (in_datum w t b)) _ _ (value_in b) (λ v e. goes_then (value s c) (value s (in_datum w t c)) _ _ (value_in c) (λ y e. goes_map (value s d) (value s (in_datum w t d)) (on_four selected x v y) (value_in d))))

    store_in : (y : ℕ) (is : List Control) (e : Datum) (f : Value → Value → Value) → Goes (then_do (place s.scene y is) (λ p. then_do (value s e) (λ v. put s (f v) p))) (then_do (place s.scene (to_name w t y) (shifted (coords_at w t y) (in_controls w t is))) (λ p. then_do (value s (in_datum w t e)) (λ v. put s (f v) p)))
    store_in y is e f = goes_then (place s.scene y is) (place s.scene (to_name w t y) (shifted (coords_at w t y) (in_controls w t is))) _ _ (place_in s.scene seen name stands y is) (λ p i. goes_then (value s e) (value s (in_datum w t e)) _ _ (value_in e) (λ v j. goes_same (put s (f v) p)))

    call_in : (o : Option Callee) (args : List Argument) → Goes (call_to o args s) (call_to o (in_arguments w t args) s)
    call_in None args = tt
    call_in (Some c) args = go (all_given s.scene args) (all_given_in s.scene seen name stands args)
      where
        go : (o : Option (List Given)) → Goes o (all_given s.scene (in_arguments w t args)) → Goes (where_true (given_all_apart c.writes c.procedure.params o) (then_do o (λ gs. then_do (entered c.procedure.params gs s) (λ inner. option_map (returned c gs s) (run_asserted c inner))))) (call c (in_arguments w t args) s)
        go None k = tt
        go (Some gs) k = subst (λ q. Goes (where_true (all_apart c.writes c.procedure.params gs) (then_do (entered c.procedure.params gs s) (λ inner. option_map (returned c gs s) (run_asserted c inner)))) (where_true (given_all_apart c.writes c.procedure.params q) (then_do q (λ gs. then_do (entered c.procedure.params gs s) (λ inner. option_map (returned c gs s) (run_asserted c inner)))))) (sym k) (goes_same _)

  -- ---- trees

  module _ (plain : are_plain (coords_of t) ≡ true) where
    record Ready (bound : ℕ → Bool) (s : State) : Type 0 where
      seen : Seen
      name : s.scene.views w ≡ Some seen
      window : view_of s.scene t ≡ Some seen
      own : bound w ≡ false
      root : bound (root_in t w) ≡ false
      variables : (y : ℕ) → coords_have (coords_of t) y ≡ true → bound y ≡ false

    fewer : (f g : ℕ → Bool) (s : State) → ((y : ℕ) → f y ≡ false → g y ≡ false) → Ready f s → Ready g s
    fewer f g s k h = record { seen = h.seen; name = h.name; window = h.window; own = k w h.own; root = k (root_in t w) h.root; variables = λ y e. k y (h.variables y e) }

    left_bound : (f g : ℕ → Bool) (s : State) → Ready (λ y. f y || g y) s → Ready f s
    left_bound f g s h = fewer (λ y. f y || g y) f s (λ y e. (or_parts (f y) (g y) e).0) h

    right_bound : (f g : ℕ → Bool) (s : State) → Ready (λ y. f y || g y) s → Ready g s
    right_bound f g s h = fewer (λ y. f y || g y) g s (λ y e. (or_parts (f y) (g y) e).1) h

    or_true : (a b : Bool) → b ≡ true → (a || b) ≡ true
    or_true true b k = refl
    or_true false b k = k

    or_first : (a b : Bool) → a ≡ true → (a || b) ≡ true
    or_first true b k = refl
    or_first false b k = absurd (true≢false (sym k))

    narrowed_kept : (s u : Scene) (sides : List Side) (cs : List Coord) → are_plain cs ≡ true → ((y : ℕ) → coords_have cs y ≡ true → s.control y ≡ u.control y) → narrowed s sides cs ≡ narrowed u sides cs
    narrowed_kept s u [] [] p k = refl
    narrowed_kept s u [] (c ∷ cs) p k = refl
    narrowed_kept s u (Point q ∷ sides) cs p k = ap (option_map (λ rest. Point q ∷ rest)) (narrowed_kept s u sides cs p k)
    narrowed_kept s u (Range lo n ∷ sides) [] p k = refl
    narrowed_kept s u (Range lo n ∷ sides) (At a ∷ cs) p k =
        let q = and_parts (is_plain a) (are_plain cs) p in
        ap₂ (λ i o. where_true (is_below i n) (option_map (λ rest. Point (lo +ℤ i) ∷ rest) o)) (plain_same a s u q.0 (λ y e. k y (or_first (has_variable a y) (coords_have cs y) e))) (narrowed_kept s u sides cs q.1 (λ y e. k y (or_true (has_variable a y) (coords_have cs y) e)))
    narrowed_kept s u (Range lo n ∷ sides) (Span a b ∷ cs) p k =
        let q = and_parts (is_plain a) (is_plain b && are_plain cs) p in
        let r = and_parts (is_plain b) (are_plain cs) q.1 in
        ap (λ i. where_true (int_le (pos 0) i && int_lt i (number s b) && int_le (number s b) n) (option_map (λ rest. Range (lo +ℤ i) (number s b -ℤ i) ∷ rest) (narrowed s sides cs))) (plain_same a s u q.0 (λ y e. k y (or_first (has_variable a y) (has_variable b y || coords_have cs y) e)))
        ∙ ap₂ (λ j o. where_true (int_le (pos 0) (number u a) && int_lt (number u a) j && int_le j n) (option_map (λ rest. Range (lo +ℤ number u a) (j -ℤ number u a) ∷ rest) o)) (plain_same b s u r.0 (λ y e. k y (or_true (has_variable a y) (has_variable b y || coords_have cs y) (or_first (has_variable b y) (coords_have cs y) e)))) (narrowed_kept s u sides cs r.1 (λ y e. k y (or_true (has_variable a y) (has_variable b y || coords_have cs y) (or_true (has_variable b y) (coords_have cs y) e))))

    pub view_kept : (t : Argument) (s u : Scene) → are_plain (coords_of t) ≡ true → s.views (root_in t w) ≡ u.views (root_in t w) → ((y : ℕ) → coords_have (coords_of t) y ≡ true → s.control y ≡ u.control y) → view_of s t ≡ view_of u t
    view_kept (ControlArg a) s u p e k = refl
    view_kept (ConditionArg c) s u p e k = refl
    view_kept (Whole x) s u p e k = e
    view_kept (Window x coords) s u p e k = ap (λ o. then_do o (λ z. option_map (part_with z.buffer) (narrowed s z.sides coords))) e ∙ go (u.views x)
      where
        go : (o : Option Seen) → then_do o (λ z. option_map (part_with z.buffer) (narrowed s z.sides coords)) ≡ then_do o (λ z. option_map (part_with z.buffer) (narrowed u z.sides coords))
        go None = refl
        go (Some z) = ap (option_map (part_with z.buffer)) (narrowed_kept s u z.sides coords p k)

    moved : (bound : ℕ → Bool) (s u : State) → ((y : ℕ) → bound y ≡ false → IsSameName y s u) → Ready bound s → Ready bound u
    moved bound s u k h = record {
      seen = h.seen;
      name = sym (k w h.own).views ∙ h.name;
      window = sym (view_kept t s.scene u.scene plain (k (root_in t w) h.root).views (λ y e. (k y (h.variables y e)).control)) ∙ h.window;
      own = h.own;
      root = h.root;
      variables = h.variables;
    }

    not_top : (a : Statement) (y : ℕ) → step_has_binder a y ≡ false → binds a y ≡ false
    not_top (Assign x is e) y k = refl
    not_top (Reduce x is e) y k = refl
    not_top (Config f a) y k = refl
    not_top Pass y k = refl
    not_top (If c a b) y k = refl
    not_top (For i lo hi b) y k = refl
    not_top (Alloc x cell dims memory) y k = k
    not_top (View v x coords) y k = k
    not_top (Call n args) y k = refl

    abbrev InStead : (ℕ → Bool) → (State → Option State) → (State → Option State) → Type 0
    InStead bound f g = (s : State) → Ready bound s → Goes (f s) (g s)

    turn_in : (i : ℕ) (bound : ℕ → Bool) (f g : State → Option State) (n : ℤ) → InStead bound f g → InStead (λ y. (y == i) || bound y) (turn i f n) (turn i g n)
    turn_in i bound f g n k s h = goes_map (f (on_scene (with_control i n) s)) (g (on_scene (with_control i n) s)) (left s) (k (on_scene (with_control i n) s) (right_bound (λ y. y == i) bound (on_scene (with_control i n) s) (moved (λ y. (y == i) || bound y) s (on_scene (with_control i n) s) (λ y e. record {
      control = sym (ap (λ q. cond q n (s.scene.control y)) (or_parts (y == i) (bound y) e).0);
      buffers = refl;
      views = refl;
    }) h)))

    turns_in : (i : ℕ) (bound : ℕ → Bool) (f g : State → Option State) (ns : List ℤ) → InStead bound f g → InStead (λ y. (y == i) || bound y) (turns (turn i f) ns) (turns (turn i g) ns)
    turns_in i bound f g [] k s h = refl
    turns_in i bound f g (n ∷ ns) k s h = goes_then (turn i f n s) (turn i g n s) (turns (turn i f) ns) (turns (turn i g) ns) (turn_in i bound f g n k s h) (λ u e.
        turns_in i bound f g ns k u (moved (λ y. (y == i) || bound y) s u (λ y d. if_gives (λ u. (x : ℕ) → IsSameName x s u) (turn i f n s) u (turn_names i f n s) e y) h))

    choose_in : (q : Bool) (bound : ℕ → Bool) (f f' g g' : State → Option State) → InStead bound f f' → InStead bound g g' → InStead bound (choose q f g) (choose q f' g')
    choose_in true bound f f' g g' h k = h
    choose_in false bound f f' g g' h k = k

    module _ (world : World) where
      mutual
        run_in : (b : Block) → InStead (has_binder b) (run world b) (run world (in_block w t b))
        run_in end = λ s h. refl
        run_in (next a b) = λ s h.
            goes_then (step world a s) (step world (in_statement w t a) s) (run world b) (run world (in_block w t b)) (step_in a s (left_bound (step_has_binder a) (has_binder b) s h)) (λ u e.
            run_in b u (right_bound (step_has_binder a) (has_binder b) u (moved (λ y. step_has_binder a y || has_binder b y) s u (λ y d. if_gives (λ u. (x : ℕ) → binds a x ≡ false → IsSameName x s u) (step world a s) u (step_names world a s) e y (not_top a y (or_parts (step_has_binder a y) (has_binder b y) d).0)) h)))

        step_in : (a : Statement) → InStead (step_has_binder a) (step world a) (step world (in_statement w t a))
        step_in (Assign y is e) = λ s h. store_in s h.seen h.name h.window y is e (λ v old. v)
        step_in (Reduce y is e) = λ s h. store_in s h.seen h.name h.window y is e (λ v old. on_two ◌+ℤ◌ old v)
        step_in (Config f a) = λ s h. goes_then (argument_number s.scene a) (argument_number s.scene (in_argument w t a)) _ _ (number_argument s.scene h.seen h.name h.window a) (λ n e. goes_same (where_true (suits (world.kinds f) n) (Some (on_scene (with_field f n) s))))
        step_in Pass = λ s h. refl
        step_in (If c a b) = λ s h.
            subst (λ q. Goes (step world (If c a b) s) (scoped (choose q (run world (in_block w t a)) (run world (in_block w t b))) s)) (holds_in s.scene h.seen h.name h.window c)
            (goes_map (choose (holds s.scene c) (run world a) (run world b) s) (choose (holds s.scene c) (run world (in_block w t a)) (run world (in_block w t b)) s) (left s)
            (choose_in (holds s.scene c) (λ y. has_binder a y || has_binder b y) (run world a) (run world (in_block w t a)) (run world b) (run world (in_block w t b)) (λ u k. run_in a u (left_bound (has_binder a) (has_binder b) u k)) (λ u k. run_in b u (right_bound (has_binder a) (has_binder b) u k)) s h))
        step_in (For i lo hi b) = λ s h.
            subst (λ ns. Goes (step world (For i lo hi b) s) (turns (turn i.id (run world (in_block w t b))) ns s)) (ap₂ (λ m n. range m (count (n -ℤ m))) (number_in s.scene h.seen h.name h.window lo) (number_in s.scene h.seen h.name h.window hi))
            (turns_in i.id (has_binder b) (run world b) (run world (in_block w t b)) (turns_of s.scene lo hi) (run_in b) s h)
        step_in (Alloc x cell dims memory) = λ s h. goes_equal (allocate x.id cell (numbers s.scene dims) s) (allocate x.id cell (numbers s.scene dims) s) (allocate x.id cell (numbers s.scene (in_controls w t dims)) s) (ap (λ ds. allocate x.id cell ds s) (numbers_in s.scene h.seen h.name h.window dims)) (goes_same (allocate x.id cell (numbers s.scene dims) s))
        step_in (View v y coords) = λ s h. goes_then (window s.scene y coords) (window s.scene (to_name w t y) (joined_coords (coords_at w t y) (in_coords w t coords))) _ _ (window_in s.scene h.seen h.name h.window y coords) (λ z e. refl)
        step_in (Call k args) = λ s h. call_in s h.seen h.name h.window (world.callees k) args

pub window_law : WindowLaw
window_law world w t b s may = run_in w t may.plain world b s (record { seen = may.seen; name = may.name; window = may.window; own = may.own; root = may.root; variables = may.variables })
