-- A window that is bound to a name or handed on is the same on both sides.
use Rattle.std.proofs.Common.{◌≡◌, ◌^◌, ◌==◌, ℕ, zero, suc, ℤ, pos, ◌+ℤ◌, ◌-ℤ◌, ◌≤ℤ◌, true, ◌&&◌, List, [], ◌∷◌, map, length, Option, Some, None, option_map, refl, sym, ap, ◌∙◌, subst, arith, int_lt, int_le, ⊎_elim, eq-eqb}
use Rattle.std.specs.Prelude.{IfSome}
use Rattle.std.proofs.lemmas.Int.{ints}
use Rattle.std.proofs.lemmas.Bool.{and_from, and_parts}
use Rattle.exo_tree.specs.Tree.{Cell, Control, Coord, At, Span}
use Rattle.exo_meaning.specs.Scene.{then_do, where_true, Shape, Seen, Scene, Side, Point, Range, is_below, cell_at, whole, extents, strides_of, LieWithin, number, numbers, narrowed, window}
use Rattle.exo_meaning.specs.State.{Place, place}
use Rattle.exo_meaning.specs.Calls.{all_positive}
use Rattle.exo_meaning.specs.Run.{product, row_major, tensor}
use Rattle.exo_meaning.specs.Laws.{HasRoots}
use Rattle.exo_meaning.specs.Units.{same_cell}
use Rattle.inplace_laws.proofs.Sides.{narrowed_within}
use Rattle.c_tree.specs.CTree.{Number64}
use Rattle.c_unit_laws.specs.Follows.Machine.Machine.{Outcome, Done, Fault, NoStore, after}
use Rattle.c_unit_laws.specs.Follows.Machine.Machine.{where_good, Pointer, Thing, IsWindow, Setting}
use Rattle.c_unit_laws.specs.Follows.Machine.Machine.{spot, all_numbers64, holds_cells}
use Rattle.c_unit_laws.specs.Follows.Machine.CRun.{thing, window_from}
use Rattle.c_lowering.specs.Made.Lowered.{Naming, Forms, TensorForm, WindowForm, at_spans}
use Rattle.c_lowering.specs.Made.Lowered.{lower_end, strides_in, window_strides, row_strides}
use Rattle.c_lowering.specs.Made.Lowered.{dims_of, cell_at_of, window_of}
use Rattle.c_unit_laws.specs.Follows.Simulation.{Follows, Layout, HaveForms, beginning, lower_ends}
use Rattle.c_unit_laws.specs.Follows.Simulation.{spot_of, HaveNumbers}
use Rattle.c_unit_laws.specs.Follows.Good.{IsBufferOf, AreGood, AreGoodCoords}
use Rattle.c_unit_laws.proofs.OfFollows.Steps.{follows_none, follows_both}
use Rattle.c_unit_laws.proofs.OfFollows.Windows.{ArePlaced, some_same, no_some, mapped, tested}
use Rattle.c_unit_laws.proofs.OfFollows.Windows.{strides_length, window_strides_are}
use Rattle.c_unit_laws.proofs.OfFollows.Places.{AreOne, cell_follows, tensor_here, window_here}
use Rattle.c_unit_laws.proofs.OfFollows.Open.{whole_strides, rows_have}
use Rattle.exo_tree.specs.Cells.{same_itself}

-- ---- windows of the source

below_end : (i j n : ℤ) → ((int_le (pos 0) i && int_lt i j) && int_le j n) ≡ true → is_below i n ≡ true
below_end i j n h =
    let p = and_parts (int_le (pos 0) i && int_lt i j) (int_le j n) h in
    let q = and_parts (int_le (pos 0) i) (int_lt i j) p.0 in
    and_from (int_le (pos 0) i) (int_lt i n) q.0 (further i j n q.1 p.1)
  where
    further : (a b c : ℤ) → int_lt a b ≡ true → int_le b c ≡ true → int_lt a c ≡ true
    further a b c e f = grind (arith, ints)

some_cells : (i j n : ℤ) → ((int_le (pos 0) i && int_lt i j) && int_le j n) ≡ true → int_le (pos 1) (j -ℤ i) ≡ true
some_cells i j n h = one i j (and_parts (int_le (pos 0) i) (int_lt i j) (and_parts (int_le (pos 0) i && int_lt i j) (int_le j n) h).0).1
  where
    one : (a b : ℤ) → int_lt a b ≡ true → int_le (pos 1) (b -ℤ a) ≡ true
    one a b e = grind (arith, ints)

module _ (scene : Scene) where
  -- the first cell of a window is at its lower ends
  pub first_at : (sides : List Side) (cs : List Coord) (result : List Side) → narrowed scene sides cs ≡ Some result → cell_at sides (numbers scene (map lower_end cs)) ≡ Some (lower_ends result)
  first_at [] [] result e = ap (λ r. Some (lower_ends r)) (some_same e)
  first_at [] (c ∷ cs) result e = absurd (no_some e)
  first_at (Point p ∷ sides) cs result e =
      let m = mapped (λ rest. Point p ∷ rest) (narrowed scene sides cs) result e in
      ap (option_map (λ at. p ∷ at)) (first_at sides cs m.0 m.1) ∙ ap (λ r. Some (lower_ends r)) (sym m.2)
  first_at (Range lo n ∷ sides) [] result e = absurd (no_some e)
  first_at (Range lo n ∷ sides) (At a ∷ cs) result e =
      let t = tested (is_below (number scene a) n) _ result e in
      let m = mapped (λ rest. Point (lo +ℤ number scene a) ∷ rest) (narrowed scene sides cs) result t.1 in
      ap (λ b. where_true b (option_map (λ at. (lo +ℤ number scene a) ∷ at) (cell_at sides (numbers scene (map lower_end cs))))) t.0
      ∙ ap (option_map (λ at. (lo +ℤ number scene a) ∷ at)) (first_at sides cs m.0 m.1) ∙ ap (λ r. Some (lower_ends r)) (sym m.2)
  first_at (Range lo n ∷ sides) (Span a b ∷ cs) result e =
      let t = tested ((int_le (pos 0) (number scene a) && int_lt (number scene a) (number scene b)) && int_le (number scene b) n) _ result e in
      let m = mapped (λ rest. Range (lo +ℤ number scene a) (number scene b -ℤ number scene a) ∷ rest) (narrowed scene sides cs) result t.1 in
      ap (λ b. where_true b (option_map (λ at. (lo +ℤ number scene a) ∷ at) (cell_at sides (numbers scene (map lower_end cs))))) (below_end (number scene a) (number scene b) n t.0)
      ∙ ap (option_map (λ at. (lo +ℤ number scene a) ∷ at)) (first_at sides cs m.0 m.1) ∙ ap (λ r. Some (lower_ends r)) (sym m.2)

  -- no window is empty
  full_result : (sides : List Side) (cs : List Coord) (result : List Side) → narrowed scene sides cs ≡ Some result → all_positive (extents result) ≡ true
  full_result [] [] result e = ap (λ r. all_positive (extents r)) (sym (some_same e))
  full_result [] (c ∷ cs) result e = absurd (no_some e)
  full_result (Point p ∷ sides) cs result e =
      let m = mapped (λ rest. Point p ∷ rest) (narrowed scene sides cs) result e in
      ap (λ r. all_positive (extents r)) m.2 ∙ full_result sides cs m.0 m.1
  full_result (Range lo n ∷ sides) [] result e = absurd (no_some e)
  full_result (Range lo n ∷ sides) (At a ∷ cs) result e =
      let t = tested (is_below (number scene a) n) _ result e in
      let m = mapped (λ rest. Point (lo +ℤ number scene a) ∷ rest) (narrowed scene sides cs) result t.1 in
      ap (λ r. all_positive (extents r)) m.2 ∙ full_result sides cs m.0 m.1
  full_result (Range lo n ∷ sides) (Span a b ∷ cs) result e =
      let t = tested ((int_le (pos 0) (number scene a) && int_lt (number scene a) (number scene b)) && int_le (number scene b) n) _ result e in
      let m = mapped (λ rest. Range (lo +ℤ number scene a) (number scene b -ℤ number scene a) ∷ rest) (narrowed scene sides cs) result t.1 in
      ap (λ r. all_positive (extents r)) m.2 ∙ and_from (int_le (pos 1) (number scene b -ℤ number scene a)) (all_positive (extents m.0)) (some_cells (number scene a) (number scene b) n t.0) (full_result sides cs m.0 m.1)

  -- ---- the strides of the spans

  module _ (s : Setting) where
    none_have : (cs : List Coord) (r : List Side) → HaveNumbers s (at_spans cs []) (strides_of r [])
    none_have [] [] = tt
    none_have [] (side ∷ r) = tt
    none_have (c ∷ cs) [] = tt
    none_have (c ∷ cs) (side ∷ r) = tt

    pub spans_have : (sides : List Side) (cs : List Coord) (result : List Side) → narrowed scene sides cs ≡ Some result → (es : List Number64) (ts : List ℤ) → HaveNumbers s es (strides_of sides ts) → HaveNumbers s (at_spans cs es) (strides_of result ts)
    spans_have [] [] result e es ts h = subst (λ r. HaveNumbers s [] (strides_of r ts)) (some_same e) tt
    spans_have [] (c ∷ cs) result e es ts h = absurd (no_some e)
    spans_have (side ∷ sides) cs result e [] [] h = none_have cs result
    spans_have (side ∷ sides) cs result e (x ∷ es) [] h = absurd h
    spans_have (Point p ∷ sides) cs result e es (t ∷ ts) h =
        let m = mapped (λ rest. Point p ∷ rest) (narrowed scene sides cs) result e in
        subst (λ r. HaveNumbers s (at_spans cs es) (strides_of r (t ∷ ts))) (sym m.2) (spans_have sides cs m.0 m.1 es ts h)
    spans_have (Range lo n ∷ sides) [] result e es (t ∷ ts) h = absurd (no_some e)
    spans_have (Range lo n ∷ sides) (c ∷ cs) result e [] (t ∷ ts) h = absurd h
    spans_have (Range lo n ∷ sides) (At a ∷ cs) result e (x ∷ es) (t ∷ ts) h =
        let b = tested (is_below (number scene a) n) _ result e in
        let m = mapped (λ rest. Point (lo +ℤ number scene a) ∷ rest) (narrowed scene sides cs) result b.1 in
        subst (λ r. HaveNumbers s (at_spans cs es) (strides_of r (t ∷ ts))) (sym m.2) (spans_have sides cs m.0 m.1 es ts h.1)
    spans_have (Range lo n ∷ sides) (Span a b ∷ cs) result e (x ∷ es) (t ∷ ts) h =
        let d = tested ((int_le (pos 0) (number scene a) && int_lt (number scene a) (number scene b)) && int_le (number scene b) n) _ result e in
        let m = mapped (λ rest. Range (lo +ℤ number scene a) (number scene b -ℤ number scene a) ∷ rest) (narrowed scene sides cs) result d.1 in
        subst (λ r. HaveNumbers s (x ∷ at_spans cs es) (strides_of r (t ∷ ts))) (sym m.2) (h.0, spans_have sides cs m.0 m.1 es ts h.1)

pub all_numbers : (s : Setting) (es : List Number64) (ns : List ℤ) → HaveNumbers s es ns → all_numbers64 s es ≡ Done ns
all_numbers s [] [] h = refl
all_numbers s [] (n ∷ ns) h = absurd h
all_numbers s (e ∷ es) [] h = absurd h
all_numbers s (e ∷ es) (n ∷ ns) h =
    ap (λ o. after o (λ k. after (all_numbers64 s es) (λ ks. Done (k ∷ ks)))) h.0 ∙ ap (λ o. after o (λ ks. Done (n ∷ ks))) (all_numbers s es ns h.1)

pub have_length : (s : Setting) (es : List Number64) (ns : List ℤ) → HaveNumbers s es ns → length es ≡ length ns
have_length s [] [] h = refl
have_length s [] (n ∷ ns) h = absurd h
have_length s (e ∷ es) [] h = absurd h
have_length s (e ∷ es) (n ∷ ns) h = ap suc (have_length s es ns h.1)

-- ---- what a name of a buffer sees

pub whole_in_whole : (ds : List ℤ) → LieWithin (whole ds) (whole ds)
whole_in_whole [] = tt
whole_in_whole (d ∷ ds) = (omega (arith, ints), up_to d, whole_in_whole ds)
  where
    up_to : (z : ℤ) → (pos 0 +ℤ z) ≤ℤ z
    up_to z = omega (arith, ints)

-- a tensor or a window, with the strides that the C writes for it
pub record SeesPart (naming : Naming) (forms : Forms) (scene : Scene) (setting : Setting) (x : ℕ) (cell : Cell) : Type 0 where
  pub seen : Seen
  pub shape : Shape
  pub view : scene.views x ≡ Some seen
  pub buffer : scene.buffers seen.buffer ≡ Some shape
  pub within : LieWithin (whole shape.dims) seen.sides
  pub cell_is : shape.cell ≡ cell
  pub strides : HaveNumbers setting (strides_in naming x (forms x)) (strides_of seen.sides shape.strides)

-- a window is the same on both sides
pub record IsHanded (layout : Layout) (scene : Scene) (base : ℕ) (cell : Cell) (rank : ℕ) (seen : Seen) (t : Thing) : Type 0 where
  pub shape : Shape
  pub of_root : seen.buffer ≡ base
  pub buffer : scene.buffers seen.buffer ≡ Some shape
  pub within : LieWithin (whole shape.dims) seen.sides
  pub full : all_positive (extents seen.sides) ≡ true
  pub rank_is : length (extents seen.sides) ≡ rank
  pub cell_is : shape.cell ≡ cell
  pub thing_is : t ≡ IsWindow (beginning layout shape seen) (strides_of seen.sides shape.strides)

-- what is done whatever store there is
surely : {A B : Type 0} (R : A → B → Type 0) (a : A) (o : Outcome B) → Follows (Unit {0}) R (Some a) o → (b : B) × (o ≡ Done b) × R a b
surely R a (Done b) h = (b, refl, h)
surely R a Fault h = absurd h
surely R a NoStore h = absurd (h tt)

pub good_ends : (forms : Forms) (most : ℕ → ℕ) (cs : List Coord) → AreGoodCoords forms most cs → AreGood forms most (map lower_end cs)
good_ends forms most [] h = (tt, tt)
good_ends forms most (At a ∷ cs) h = let rest = good_ends forms most cs h.1 in ((h.0.0, rest.0), (h.0.1, rest.1))
good_ends forms most (Span a b ∷ cs) h = let rest = good_ends forms most cs h.1 in ((h.0.0.0, rest.0), (h.0.0.1, rest.1))

ends_length : (cs : List Coord) → length cs ≡ length (map lower_end cs)
ends_length [] = refl
ends_length (c ∷ cs) = ap suc (ends_length cs)

module _ (naming : Naming) (forms : Forms) (most : ℕ → ℕ) (layout : Layout) (scene : Scene) (setting : Setting) (match : HaveForms naming forms most layout scene setting.names) (placed : ArePlaced layout scene setting) where
  tensor_sees : (x : ℕ) (cell : Cell) (dims : List Control) (lanes : ℕ) → forms x ≡ TensorForm cell dims lanes → SeesPart naming forms scene setting x cell
  tensor_sees x cell dims lanes e =
      let t = tensor_here naming forms most layout scene setting match x cell dims lanes e in
      let same = t.numbers_are scene refl in
      let rows = rows_have naming forms most layout scene setting match placed dims t.plain t.narrow (ap all_positive same ∙ t.positive) (few_here t.extents (numbers scene dims) same t.few) in
      record {
        seen = record { buffer = x; sides = whole t.extents };
        shape = tensor cell t.extents;
        view = t.view;
        buffer = t.shape;
        within = whole_in_whole t.extents;
        cell_is = refl;
        strides = subst (λ f. HaveNumbers setting (strides_in naming x f) (strides_of (whole t.extents) (row_major t.extents))) (sym e) (subst (HaveNumbers setting (row_strides (dims_of naming dims))) (ap row_major same ∙ sym (whole_strides t.extents)) rows);
      }
    where
      few_here : (ds es : List ℤ) → es ≡ ds → product ds ≤ℤ pos (2 ^ 48) → product es ≤ℤ pos (2 ^ 48)
      few_here ds es k h = subst (λ z. product z ≤ℤ pos (2 ^ 48)) (sym k) h

  window_sees : (x : ℕ) (cell : Cell) (rank : ℕ) → forms x ≡ WindowForm cell rank → SeesPart naming forms scene setting x cell
  window_sees x cell rank e =
      let w = window_here naming forms most layout scene setting match x cell rank e in
      let rank_is = strides_length w.shape.dims w.shape.strides w.seen.sides w.within (placed w.seen.buffer w.shape w.buffer).ranks ∙ w.rank_is in
      record {
        seen = w.seen;
        shape = w.shape;
        view = w.view;
        buffer = w.buffer;
        within = w.within;
        cell_is = w.cell_is;
        strides = subst (λ f. HaveNumbers setting (strides_in naming x f) (strides_of w.seen.sides w.shape.strides)) (sym e) (subst (λ r. HaveNumbers setting (window_strides (naming.binder x) 0 r) (strides_of w.seen.sides w.shape.strides)) rank_is (window_strides_are setting (naming.binder x) (beginning layout w.shape w.seen) (strides_of w.seen.sides w.shape.strides) w.name));
      }

  pub sees : (x : ℕ) (cell : Cell) (rank : ℕ) → IsBufferOf forms x cell rank → SeesPart naming forms scene setting x cell
  sees x cell rank h = ⊎_elim (λ w. window_sees x cell rank w.0) (λ t. tensor_sees x cell t.0 zero t.1) h

  module _ (root : ℕ → ℕ) (roots : HasRoots root scene) (Few : Type 0) (x : ℕ) (cell : Cell) (cs : List Coord) (h : IsBufferOf forms x cell (length cs)) (good : AreGoodCoords forms most cs) where
    abbrev pub own : SeesPart naming forms scene setting x cell
    own = sees x cell (length cs) h

    abbrev texts : List Number64
    texts = at_spans cs (strides_in naming x (forms x))

    abbrev Handed : Seen → Thing → Type 0
    Handed = IsHanded layout scene (root x) cell (length texts)

    abbrev seen_by : List Side → Seen
    seen_by sides = record { buffer = own.seen.buffer; sides = sides }

    pub window_is : window scene x cs ≡ option_map (λ sides. record { buffer = own.seen.buffer; sides = sides }) (narrowed scene own.seen.sides cs)
    window_is = ap (λ o. then_do o (λ seen. option_map (λ sides. record { buffer = seen.buffer; sides = sides }) (narrowed scene seen.sides cs))) own.view

    module _ (sides : List Side) (e : narrowed scene own.seen.sides cs ≡ Some sides) where
      abbrev strides : List ℤ
      strides = strides_of sides own.shape.strides

      abbrev first_place : Place
      first_place = record { buffer = own.seen.buffer; at = lower_ends sides }

      place_is : place scene x (map lower_end cs) ≡ Some first_place
      place_is =
          ap (λ o. then_do o (λ seen. option_map (λ at. record { buffer = seen.buffer; at = at }) (cell_at seen.sides (numbers scene (map lower_end cs))))) own.view
          ∙ ap (option_map (λ at. record { buffer = own.seen.buffer; at = at })) (first_at scene own.seen.sides cs sides e)

      abbrev One : Place → Pointer → Type 0
      One = AreOne layout scene setting (root x) cell

      first_cell : (q : Pointer) × (spot setting (cell_at_of naming forms x (map lower_end cs)) ≡ Done q) × One first_place q
      first_cell =
          surely One first_place (spot setting (cell_at_of naming forms x (map lower_end cs)))
          (subst (λ o. Follows (Unit {0}) One o (spot setting (cell_at_of naming forms x (map lower_end cs)))) place_is
          (cell_follows naming forms most layout scene setting match placed root roots (Unit {0}) x (map lower_end cs) (cell, subst (IsBufferOf forms x cell) (ends_length cs) h) (good_ends forms most cs good)))

      strides_are : HaveNumbers setting texts strides
      strides_are = spans_have scene setting own.seen.sides cs sides e (strides_in naming x (forms x)) own.shape.strides own.strides

      begins : first_cell.0 ≡ beginning layout own.shape (seen_by sides)
      begins = sym first_cell.2.lies ∙ ap (λ z. spot_of layout own.seen.buffer z (lower_ends sides)) (some_same (sym first_cell.2.buffer ∙ own.buffer))

      fits_struct : (holds_cells (setting.objects first_cell.0.object) cell && (length strides == length texts)) ≡ true
      fits_struct =
          and_from (holds_cells (setting.objects first_cell.0.object) cell) (length strides == length texts)
          (ap (λ o. holds_cells o cell) first_cell.2.there ∙ ap (λ c. same_cell c cell) first_cell.2.cell_there ∙ same_itself cell)
          (eq-eqb (length strides) (length texts) (sym (have_length setting texts strides strides_are)))

      -- the pointer to the first cell
      pub first_spot : spot setting (cell_at_of naming forms x (map lower_end cs)) ≡ Done (beginning layout own.shape (seen_by sides))
      first_spot = first_cell.1 ∙ ap Done begins

      pub thing_is : thing setting (window_of naming forms x cell cs) ≡ Done (IsWindow (beginning layout own.shape (seen_by sides)) strides)
      thing_is =
          ap (λ o. after o (λ p. after (all_numbers64 setting texts) (window_from (length texts) cell setting.objects p))) first_cell.1
          ∙ ap (λ o. after o (window_from (length texts) cell setting.objects first_cell.0)) (all_numbers setting texts strides strides_are)
          ∙ ap (λ t. where_good t (Done (IsWindow first_cell.0 strides))) fits_struct
          ∙ ap (λ p. Done (IsWindow p strides)) begins

      pub within_is : LieWithin (whole own.shape.dims) sides
      within_is = subst (λ o. IfSome o (LieWithin (whole own.shape.dims))) e (narrowed_within scene (whole own.shape.dims) own.seen.sides cs own.within)

      handed : Handed (seen_by sides) (IsWindow (beginning layout own.shape (seen_by sides)) strides)
      handed = record {
        shape = own.shape;
        of_root = roots x own.seen own.view;
        buffer = own.buffer;
        within = within_is;
        full = full_result scene own.seen.sides cs sides e;
        rank_is = sym (strides_length own.shape.dims own.shape.strides sides within_is (placed own.seen.buffer own.shape own.buffer).ranks) ∙ sym (have_length setting texts strides strides_are);
        cell_is = own.cell_is;
        thing_is = refl;
      }

    pub window_follows : Follows Few Handed (window scene x cs) (thing setting (window_of naming forms x cell cs))
    window_follows = go (narrowed scene own.seen.sides cs) refl
      where
        go : (o : Option (List Side)) → narrowed scene own.seen.sides cs ≡ o → Follows Few Handed (window scene x cs) (thing setting (window_of naming forms x cell cs))
        go None e = follows_none Few Handed _ _ (window_is ∙ ap (option_map (λ sides. record { buffer = own.seen.buffer; sides = sides })) e)
        go (Some sides) e = follows_both Few Handed _ _ (seen_by sides) _ (window_is ∙ ap (option_map (λ sides. record { buffer = own.seen.buffer; sides = sides })) e) (thing_is sides e) (handed sides e)
