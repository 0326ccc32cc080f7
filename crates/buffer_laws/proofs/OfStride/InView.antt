-- Accesses that lie within a window, through a view of the window.
use Rattle.std.proofs.Common.{◌≡◌, ℕ, ℤ, pos, neg_ℤ, ◌+ℤ◌, ◌-ℤ◌, ◌*ℤ◌, int_le, int_lt, ◌==◌, ◌&&◌}
use Rattle.std.proofs.Common.{◌||◌, Bool, true, false, cond, List, [], ◌∷◌, Option, Some, None}
use Rattle.std.proofs.Common.{option_map, refl, sym, ap, ap₂, ◌∙◌, eq-eqb, arith}
use Rattle.std.proofs.lemmas.Int.{ints}
use Rattle.std.specs.Int.{int_div_euclid, int_rem_euclid}
use Rattle.std.specs.Ordering.{int_eq}
use Rattle.exo_tree.specs.Tree.{Control, Lit, Var, Field, StrideOf, Neg, Add, Sub, Mul, Div, Mod}
use Rattle.exo_tree.specs.Tree.{Condition, True, False, Flag, FieldFlag, Lt, Le, Gt, Ge, Eq, And}
use Rattle.exo_tree.specs.Tree.{Or, Coord, At, Span}
use Rattle.exo_meaning.specs.Scene.{Side, Point, Range, Seen, Scene, then_do, number, numbers, holds}
use Rattle.exo_meaning.specs.Scene.{stride_at, narrowed, window, cell_at, is_below, where_true}
use Rattle.exo_meaning.specs.State.{Place, place, with_view}
use Rattle.exo_meaning.specs.Unseen.{in_control as control_mentions}
use Rattle.exo_meaning.specs.Unseen.{in_controls as controls_mention}
use Rattle.exo_meaning.specs.Unseen.{in_condition as condition_mentions}
use Rattle.exo_meaning.specs.Unseen.{in_coords as coords_mention}
use Rattle.exo_meaning.proofs.Frame.{or_parts, updated_other}
use Rattle.exo_meaning.proofs.Windows.{none_is_some, one_value, where_parts, map_parts}
use Rattle.buffer_laws.specs.Staging.Converted.{indices_on, coords_on, IndicesFit, CoordsFit}
use Rattle.buffer_laws.proofs.OfStaging.Stores.{under}
use Rattle.buffer_laws.specs.StageMem.{asked_of_indices, asked_of_coords}
use Rattle.buffer_laws.specs.Stride.OnView.{AllHold}

-- ---- what does not mention a

module _ (a : ℕ) (seen : Seen) (scene : Scene) where
  abbrev new : ℕ → Bool
  new y = y == a

  abbrev viewed : Scene
  viewed = with_view a seen scene

  stride_same : (o : Option Seen) (k : ℕ) → stride_at viewed o k ≡ stride_at scene o k
  stride_same None k = refl
  stride_same (Some z) k = refl

  pub number_same : (e : Control) → control_mentions new e ≡ false
      → number viewed e ≡ number scene e
  number_same (Lit n) h = refl
  number_same (Var y) h = refl
  number_same (Field f) h = refl
  number_same (StrideOf y k) h =
      ap (λ o. stride_at viewed o k) (updated_other scene.views a (Some seen) y h)
      ∙ stride_same (scene.views y) k
  number_same (Neg e) h = ap neg_ℤ (number_same e h)
  number_same (Add e f) h = let p = or_parts (control_mentions new e) (control_mentions new f) h in
      ap₂ ◌+ℤ◌ (number_same e p.0) (number_same f p.1)
  number_same (Sub e f) h = let p = or_parts (control_mentions new e) (control_mentions new f) h in
      ap₂ ◌-ℤ◌ (number_same e p.0) (number_same f p.1)
  number_same (Mul e f) h = let p = or_parts (control_mentions new e) (control_mentions new f) h in
      ap₂ ◌*ℤ◌ (number_same e p.0) (number_same f p.1)
  number_same (Div e c) h = ap (λ n. int_div_euclid n c) (number_same e h)
  number_same (Mod e c) h = ap (λ n. int_rem_euclid n c) (number_same e h)

  pub numbers_same : (is : List Control) → controls_mention new is ≡ false
      → numbers viewed is ≡ numbers scene is
  numbers_same [] h = refl
  numbers_same (e ∷ is) h =
      let p = or_parts (control_mentions new e) (controls_mention new is) h in
      ap₂ ◌∷◌ (number_same e p.0) (numbers_same is p.1)

  two_same : (f : ℤ → ℤ → Bool) (d e : Control)
      → (control_mentions new d || control_mentions new e) ≡ false
      → f (number viewed d) (number viewed e) ≡ f (number scene d) (number scene e)
  two_same f d e h = let p = or_parts (control_mentions new d) (control_mentions new e) h in
      ap₂ f (number_same d p.0) (number_same e p.1)

  pub holds_same : (c : Condition) → condition_mentions new c ≡ false
      → holds viewed c ≡ holds scene c
  holds_same True h = refl
  holds_same False h = refl
  holds_same (Flag y) h = refl
  holds_same (FieldFlag f) h = refl
  holds_same (Lt d e) h = two_same int_lt d e h
  holds_same (Le d e) h = two_same int_le d e h
  holds_same (Gt d e) h = two_same (λ m n. int_lt n m) d e h
  holds_same (Ge d e) h = two_same (λ m n. int_le n m) d e h
  holds_same (Eq d e) h = two_same int_eq d e h
  holds_same (And c d) h =
      let p = or_parts (condition_mentions new c) (condition_mentions new d) h in
      ap₂ ◌&&◌ (holds_same c p.0) (holds_same d p.1)
  holds_same (Or c d) h =
      let p = or_parts (condition_mentions new c) (condition_mentions new d) h in
      ap₂ ◌||◌ (holds_same c p.0) (holds_same d p.1)

  pub narrowed_same : (sides : List Side) (ds : List Coord) → coords_mention new ds ≡ false
      → narrowed viewed sides ds ≡ narrowed scene sides ds
  narrowed_same [] [] h = refl
  narrowed_same [] (d ∷ ds) h = refl
  narrowed_same (Point p ∷ sides) ds h =
      ap (option_map (λ rest. Point p ∷ rest)) (narrowed_same sides ds h)
  narrowed_same (Range lo n ∷ sides) [] h = refl
  narrowed_same (Range lo n ∷ sides) (At e ∷ ds) h =
      let p = or_parts (control_mentions new e) (coords_mention new ds) h in
      ap₂ (λ i o. where_true (is_below i n) (option_map (λ rest. Point (lo +ℤ i) ∷ rest) o))
      (number_same e p.0) (narrowed_same sides ds p.1)
  narrowed_same (Range lo n ∷ sides) (Span e f ∷ ds) h =
      let p = or_parts (control_mentions new e) (control_mentions new f || coords_mention new ds)
      h in
      let q = or_parts (control_mentions new f) (coords_mention new ds) p.1 in
      ap (λ i. where_true (int_le (pos 0) i && int_lt i (number viewed f)
      && int_le (number viewed f) n) (option_map (λ rest. Range (lo +ℤ i)
      (number viewed f -ℤ i) ∷ rest) (narrowed viewed sides ds))) (number_same e p.0)
      ∙ ap₂ (λ j o. where_true (int_le (pos 0) (number scene e) && int_lt (number scene e) j
      && int_le j n) (option_map (λ rest. Range (lo +ℤ number scene e)
      (j -ℤ number scene e) ∷ rest) o)) (number_same f q.0) (narrowed_same sides ds q.1)

-- ---- indices and windows that lie within

inside : (i j n e : ℤ) → (int_le (pos 0) i && int_lt i j && int_le j n) ≡ true
    → int_le i e ≡ true → int_lt e j ≡ true → is_below (e -ℤ i) (j -ℤ i) ≡ is_below e n
inside i j n e h k l = grind (arith, ints)

span_inside : (i j n e f : ℤ) → (int_le (pos 0) i && int_lt i j && int_le j n) ≡ true
    → int_le i e ≡ true → int_le f j ≡ true
    → (int_le (pos 0) (e -ℤ i) && int_lt (e -ℤ i) (f -ℤ i) && int_le (f -ℤ i) (j -ℤ i))
    ≡ (int_le (pos 0) e && int_lt e f && int_le f n)
span_inside i j n e f h k l = grind (arith, ints)

there_and_back : (lo i e : ℤ) → (lo +ℤ i) +ℤ (e -ℤ i) ≡ lo +ℤ e
there_and_back lo i e = omega (arith, ints)

same_length : (i e f : ℤ) → (f -ℤ i) -ℤ (e -ℤ i) ≡ f -ℤ e
same_length i e f = omega (arith, ints)

module _ (scene : Scene) where
  cells_within : (sides ts : List Side) (cs : List Coord) (is : List Control)
      → narrowed scene sides cs ≡ Some ts → IndicesFit scene cs is
      → AllHold scene (asked_of_indices cs is)
      → cell_at ts (numbers scene (indices_on cs is)) ≡ cell_at sides (numbers scene is)
  cells_within [] ts [] [] e fit ask =
      ap (λ l. cell_at l []) (sym (one_value [] ts e))
  cells_within [] ts [] (i ∷ is) e fit ask = absurd fit
  cells_within [] ts (c ∷ cs) is e fit ask = absurd (none_is_some e)
  cells_within (Point p ∷ sides) ts cs is e fit ask =
      let m = map_parts (λ rest. Point p ∷ rest) (narrowed scene sides cs) ts e in
      ap (λ l. cell_at l (numbers scene (indices_on cs is))) (sym m.2)
      ∙ ap (option_map (λ at. p ∷ at)) (cells_within sides m.0 cs is m.1 fit ask)
  cells_within (Range lo n ∷ sides) ts [] is e fit ask = absurd (none_is_some e)
  cells_within (Range lo n ∷ sides) ts (At u ∷ cs) [] e fit ask = absurd fit
  cells_within (Range lo n ∷ sides) ts (Span u v ∷ cs) [] e fit ask = absurd fit
  cells_within (Range lo n ∷ sides) ts (At u ∷ cs) (f ∷ is) e fit ask =
      let i = number scene u in
      let w = where_parts (is_below i n) (option_map (λ rest. Point (lo +ℤ i) ∷ rest)
      (narrowed scene sides cs)) ts e in
      let m = map_parts (λ rest. Point (lo +ℤ i) ∷ rest) (narrowed scene sides cs) ts w.1 in
      ap (λ l. cell_at l (numbers scene (indices_on cs is))) (sym m.2)
      ∙ ap (option_map (λ at. (lo +ℤ i) ∷ at)) (cells_within sides m.0 cs is m.1 fit.1 ask.1)
      ∙ ap (λ t. where_true t (option_map (λ at. (lo +ℤ i) ∷ at)
      (cell_at sides (numbers scene is)))) (sym w.0)
      ∙ ap (λ k. where_true (is_below k n) (option_map (λ at. (lo +ℤ k) ∷ at)
      (cell_at sides (numbers scene is)))) (sym fit.0)
  cells_within (Range lo n ∷ sides) ts (Span u v ∷ cs) (f ∷ is) e fit ask =
      let i = number scene u in
      let j = number scene v in
      let k = number scene f in
      let w = where_parts (int_le (pos 0) i && int_lt i j && int_le j n)
      (option_map (λ rest. Range (lo +ℤ i) (j -ℤ i) ∷ rest) (narrowed scene sides cs)) ts e in
      let m = map_parts (λ rest. Range (lo +ℤ i) (j -ℤ i) ∷ rest) (narrowed scene sides cs) ts
      w.1 in
      ap (λ l. cell_at l ((k -ℤ i) ∷ numbers scene (indices_on cs is))) (sym m.2)
      ∙ ap₂ (λ t o. where_true t (option_map (λ at. ((lo +ℤ i) +ℤ (k -ℤ i)) ∷ at) o))
      (inside i j n k w.0 ask.0 ask.1.0) (cells_within sides m.0 cs is m.1 fit ask.1.1)
      ∙ ap (λ q. where_true (is_below k n) (option_map (λ at. q ∷ at)
      (cell_at sides (numbers scene is)))) (there_and_back lo i k)

  spans_within : (sides ts : List Side) (cs ds : List Coord)
      → narrowed scene sides cs ≡ Some ts → CoordsFit scene cs ds
      → AllHold scene (asked_of_coords cs ds)
      → narrowed scene ts (coords_on cs ds) ≡ narrowed scene sides ds
  spans_within [] ts [] [] e fit ask =
      ap (λ l. narrowed scene l []) (sym (one_value [] ts e))
  spans_within [] ts [] (d ∷ ds) e fit ask = absurd fit
  spans_within [] ts (c ∷ cs) ds e fit ask = absurd (none_is_some e)
  spans_within (Point p ∷ sides) ts cs ds e fit ask =
      let m = map_parts (λ rest. Point p ∷ rest) (narrowed scene sides cs) ts e in
      ap (λ l. narrowed scene l (coords_on cs ds)) (sym m.2)
      ∙ ap (option_map (λ rest. Point p ∷ rest)) (spans_within sides m.0 cs ds m.1 fit ask)
  spans_within (Range lo n ∷ sides) ts [] ds e fit ask = absurd (none_is_some e)
  spans_within (Range lo n ∷ sides) ts (At u ∷ cs) [] e fit ask = absurd fit
  spans_within (Range lo n ∷ sides) ts (Span u v ∷ cs) [] e fit ask = absurd fit
  spans_within (Range lo n ∷ sides) ts (At u ∷ cs) (Span f g ∷ ds) e fit ask = absurd fit
  spans_within (Range lo n ∷ sides) ts (At u ∷ cs) (At f ∷ ds) e fit ask =
      let i = number scene u in
      let w = where_parts (is_below i n) (option_map (λ rest. Point (lo +ℤ i) ∷ rest)
      (narrowed scene sides cs)) ts e in
      let m = map_parts (λ rest. Point (lo +ℤ i) ∷ rest) (narrowed scene sides cs) ts w.1 in
      ap (λ l. narrowed scene l (coords_on cs ds)) (sym m.2)
      ∙ ap (option_map (λ rest. Point (lo +ℤ i) ∷ rest))
      (spans_within sides m.0 cs ds m.1 fit.1 ask.1)
      ∙ ap (λ t. where_true t (option_map (λ rest. Point (lo +ℤ i) ∷ rest)
      (narrowed scene sides ds))) (sym w.0)
      ∙ ap (λ k. where_true (is_below k n) (option_map (λ rest. Point (lo +ℤ k) ∷ rest)
      (narrowed scene sides ds))) (sym fit.0)
  spans_within (Range lo n ∷ sides) ts (Span u v ∷ cs) (At f ∷ ds) e fit ask =
      let i = number scene u in
      let j = number scene v in
      let k = number scene f in
      let w = where_parts (int_le (pos 0) i && int_lt i j && int_le j n)
      (option_map (λ rest. Range (lo +ℤ i) (j -ℤ i) ∷ rest) (narrowed scene sides cs)) ts e in
      let m = map_parts (λ rest. Range (lo +ℤ i) (j -ℤ i) ∷ rest) (narrowed scene sides cs) ts
      w.1 in
      ap (λ l. narrowed scene l (At (Sub f u) ∷ coords_on cs ds)) (sym m.2)
      ∙ ap₂ (λ t o. where_true t (option_map (λ rest. Point ((lo +ℤ i) +ℤ (k -ℤ i)) ∷ rest) o))
      (inside i j n k w.0 ask.0 ask.1.0) (spans_within sides m.0 cs ds m.1 fit ask.1.1)
      ∙ ap (λ q. where_true (is_below k n) (option_map (λ rest. Point q ∷ rest)
      (narrowed scene sides ds))) (there_and_back lo i k)
  spans_within (Range lo n ∷ sides) ts (Span u v ∷ cs) (Span f g ∷ ds) e fit ask =
      let i = number scene u in
      let j = number scene v in
      let k = number scene f in
      let l = number scene g in
      let w = where_parts (int_le (pos 0) i && int_lt i j && int_le j n)
      (option_map (λ rest. Range (lo +ℤ i) (j -ℤ i) ∷ rest) (narrowed scene sides cs)) ts e in
      let m = map_parts (λ rest. Range (lo +ℤ i) (j -ℤ i) ∷ rest) (narrowed scene sides cs) ts
      w.1 in
      ap (λ q. narrowed scene q (Span (Sub f u) (Sub g u) ∷ coords_on cs ds)) (sym m.2)
      ∙ ap₂ (λ t o. where_true t (option_map (λ rest. Range ((lo +ℤ i) +ℤ (k -ℤ i))
      ((l -ℤ i) -ℤ (k -ℤ i)) ∷ rest) o))
      (span_inside i j n k l w.0 ask.0 ask.1.0) (spans_within sides m.0 cs ds m.1 fit ask.1.1)
      ∙ ap₂ (λ q r. where_true (int_le (pos 0) k && int_lt k l && int_le l n)
      (option_map (λ rest. Range q r ∷ rest) (narrowed scene sides ds))) (there_and_back lo i k)
      (same_length i k l)

-- ---- of x and of a

abbrev seen_on : ℕ → List Side → Seen
seen_on b sides = record { buffer = b; sides = sides }

abbrev spot : ℕ → List ℤ → Place
spot b at = record { buffer = b; at = at }

module _ (a x : ℕ) (coords : List Coord) (seen : Seen) (scene : Scene)
    (there : window scene x coords ≡ Some seen) where
  own : (with_view a seen scene).views a ≡ Some seen
  own = ap (λ t. cond t (Some seen) (scene.views a)) (eq-eqb a a refl)

  pub place_within : (is : List Control)
      → controls_mention (λ y. y == a) (indices_on coords is) ≡ false
      → IndicesFit scene coords is → AllHold scene (asked_of_indices coords is)
      → place (with_view a seen scene) a (indices_on coords is) ≡ place scene x is
  place_within is unused fit ask =
      let u = under scene x coords seen there in
      ap₂ (λ o ns. then_do o (λ z. option_map (spot z.buffer) (cell_at z.sides ns))) own
      (numbers_same a seen scene (indices_on coords is) unused)
      ∙ ap (option_map (spot seen.buffer))
      (cells_within scene u.root.sides seen.sides coords is u.sides fit ask)
      ∙ ap (λ b. option_map (spot b) (cell_at u.root.sides (numbers scene is))) (sym u.same)
      ∙ ap (λ o. then_do o (λ z. option_map (spot z.buffer) (cell_at z.sides (numbers scene is))))
      (sym u.name)

  pub window_within : (ds : List Coord)
      → coords_mention (λ y. y == a) (coords_on coords ds) ≡ false
      → CoordsFit scene coords ds → AllHold scene (asked_of_coords coords ds)
      → window (with_view a seen scene) a (coords_on coords ds) ≡ window scene x ds
  window_within ds unused fit ask =
      let u = under scene x coords seen there in
      ap (λ o. then_do o (λ z. option_map (seen_on z.buffer)
      (narrowed (with_view a seen scene) z.sides (coords_on coords ds)))) own
      ∙ ap (option_map (seen_on seen.buffer))
      (narrowed_same a seen scene seen.sides (coords_on coords ds) unused
      ∙ spans_within scene u.root.sides seen.sides coords ds u.sides fit ask)
      ∙ ap (λ b. option_map (seen_on b) (narrowed scene u.root.sides ds)) (sym u.same)
      ∙ ap (λ o. then_do o (λ z. option_map (seen_on z.buffer) (narrowed scene z.sides ds)))
      (sym u.name)
