-- Parts of buffers with lanes as arguments of an instruction: the offset in vectors is that in cells.
use Rattle.std.proofs.Common.{◌≡◌, ◌≤◌, ◌==◌, ◌*◌, ◌+◌, ◌^◌, ℕ, suc, ℤ, pos, ◌+ℤ◌, ◌*ℤ◌, ◌≤ℤ◌, Bool, true, false, ◌&&◌, List, [], ◌∷◌, map, length, Option, Some, None, option_map, refl, sym, ap, ap₂, ◌∙◌, subst, arith, true≢false, ⊎_elim, eq-eqb}
use Rattle.std.specs.Prelude.{IfSome}
use Rattle.std.proofs.lemmas.Int.{ints}
use Rattle.std.proofs.lemmas.Bool.{and_from, and_parts}
use Rattle.exo_tree.specs.Tree.{Cell, Control, Coord, Window, ParamKind, WindowParam}
use Rattle.exo_meaning.specs.Scene.{then_do, Scene, Seen, Side, is_below, whole, strides_of, LieWithin, numbers, narrowed}
use Rattle.exo_meaning.specs.State.{State}
use Rattle.exo_meaning.specs.Calls.{Given, GivenView, given}
use Rattle.exo_meaning.specs.Run.{product, row_major, tensor}
use Rattle.exo_meaning.specs.Units.{spans, same_cell}
use Rattle.inplace_laws.proofs.Sides.{narrowed_within}
use Rattle.c_tree.specs.CTree.{Number64, WindowOf, InArray}
use Rattle.c_unit_laws.specs.Follows.Machine.Machine.{Outcome, Done, after, where_good, Pointer}
use Rattle.c_unit_laws.specs.Follows.Machine.Machine.{Thing, IsWindow, Machine, number64, moved}
use Rattle.c_unit_laws.specs.Follows.Machine.Machine.{inside, spot_by, all_numbers64, holds_cells}
use Rattle.c_unit_laws.specs.Follows.Machine.CRun.{thing_by, window_from}
use Rattle.c_lowering.specs.Made.Lowered.{Form, Forms, TensorForm, actual_of, at_spans, lower_end}
use Rattle.c_lowering.specs.Made.Lowered.{strides_in, cell_ref, numbers_of, front, offset, dims_of}
use Rattle.c_lowering.specs.Made.Lowered.{row_strides}
use Rattle.c_unit_laws.specs.Follows.Simulation.{Ground, Follows, Layout, Matches, IsTensor}
use Rattle.c_unit_laws.specs.Follows.Simulation.{HaveNumbers, EndsIn, beginning, lower_ends, dot}
use Rattle.c_unit_laws.specs.Follows.Simulation.{in_range}
use Rattle.c_unit_laws.specs.Follows.Good.{AreGoodCoords, EndsInSpan}
use Rattle.c_unit_laws.proofs.OfFollows.Steps.{follows_none, follows_both}
use Rattle.c_unit_laws.proofs.OfFollows.Offsets.{index_of}
use Rattle.c_unit_laws.proofs.OfFollows.Numbers.{same_numbers, offset_value}
use Rattle.c_unit_laws.proofs.OfFollows.Windows.{some_same, no_some}
use Rattle.c_unit_laws.proofs.OfFollows.Places.{whole_cell, cell_inside, tensor_here}
use Rattle.c_unit_laws.proofs.OfFollows.Open.{whole_strides}
use Rattle.exo_tree.specs.Cells.{same_itself}
use Rattle.c_unit_laws.proofs.OfFollows.Handed.{first_at, spans_have, good_ends, all_numbers}
use Rattle.c_unit_laws.proofs.OfFollows.Handed.{have_length, whole_in_whole}
use Rattle.c_unit_laws.proofs.OfFollows.Given.{IsPart, IsGivenAs}
use Rattle.c_unit_laws.proofs.OfFollows.Reading.{Reads}
use Rattle.c_unit_laws.proofs.OfFollows.Arguments.{narrowed_spans}
use Rattle.c_unit_laws.proofs.OfFollows.Wholes.{front_have, strides_are}

-- ---- vectors and cells

abbrev IsLastZero : List ℤ → Type 0
IsLastZero [] = ⊥
IsLastZero (i ∷ []) = i ≡ pos 0
IsLastZero (i ∷ (j ∷ is)) = IsLastZero (j ∷ is)

-- the offset in vectors, and in cells
record IsInVectors (n : ℕ) (is ds : List ℤ) : Type 0 where
  at : ℕ
  size : ℕ
  at_is : dot (front is) (row_major (front ds)) ≡ pos at
  size_is : product (front ds) ≡ pos size
  cells_at : dot is (row_major ds) ≡ pos (at * suc n)
  cells : product ds ≡ pos (size * suc n)
  inner : in_range (front is) (front ds) ≡ true

in_vectors : (n : ℕ) (is ds : List ℤ) → EndsIn (suc n) ds → in_range is ds ≡ true → IsLastZero is → IsInVectors n is ds
in_vectors n is [] h r z = absurd h
in_vectors n [] (d ∷ ds) h r z = absurd z
in_vectors n (i ∷ []) (d ∷ []) h r z = record {
  at = 0;
  size = 1;
  at_is = refl;
  size_is = refl;
  cells_at = ap (λ k. (k *ℤ pos 1) +ℤ pos 0) z ∙ ap (λ k. pos k) (no_time (suc n));
  cells = ap (λ k. k *ℤ pos 1) h ∙ ap (λ k. pos k) (one_time (suc n));
  inner = refl;
}
  where
    one_time : (k : ℕ) → k * 1 ≡ 1 * k
    one_time k = omega arith

    no_time : (k : ℕ) → 0 ≡ 0 * k
    no_time k = omega arith
in_vectors n (i ∷ (j ∷ is)) (d ∷ []) h r z = absurd (true≢false (sym (and_parts (is_below i d) false r).1))
in_vectors n (i ∷ []) (d ∷ (e ∷ ds)) h r z = absurd (true≢false (sym (and_parts (is_below i d) false r).1))
in_vectors n (i ∷ (j ∷ is)) (d ∷ (e ∷ ds)) h r z =
    let parts = and_parts (is_below i d) (in_range (j ∷ is) (e ∷ ds)) r in
    let first = index_of i d parts.0 in
    let rest = in_vectors n (j ∷ is) (e ∷ ds) h parts.1 z in
    record {
      at = first.at * rest.size + rest.at;
      size = first.of * rest.size;
      at_is = ap₂ (λ a b. a +ℤ b) (ap₂ (λ a b. a *ℤ b) first.at_is rest.size_is) rest.at_is;
      size_is = ap₂ (λ a b. a *ℤ b) first.of_is rest.size_is;
      cells_at = ap₂ (λ a b. a +ℤ b) (ap₂ (λ a b. a *ℤ b) first.at_is rest.cells) rest.cells_at ∙ ap (λ k. pos k) (both first.at rest.size rest.at (suc n));
      cells = ap₂ (λ a b. a *ℤ b) first.of_is rest.cells ∙ ap (λ k. pos k) (times first.of rest.size (suc n));
      inner = and_from (is_below i d) (in_range (front (j ∷ is)) (front (e ∷ ds))) parts.0 rest.inner;
    }
  where
    both : (a f o l : ℕ) → a * (f * l) + o * l ≡ (a * f + o) * l
    both a f o l = omega arith

    times : (a f l : ℕ) → a * (f * l) ≡ a * f * l
    times a f l = omega arith

-- the last lower end is that of the span of all lanes
ends_zero : (scene : Scene) (n : ℕ) (cs : List Coord) → EndsInSpan (suc n) cs → IsLastZero (numbers scene (map lower_end cs))
ends_zero scene n [] h = absurd h
ends_zero scene n (c ∷ []) h = subst (λ (d : Coord). IsLastZero (numbers scene (lower_end d ∷ []))) (sym h) refl
ends_zero scene n (c ∷ (d ∷ cs)) h = ends_zero scene n (d ∷ cs) h

module _ (Few : Type 0) (g : Ground) (forms : Forms) (most : ℕ → ℕ) (root : ℕ → ℕ) (layout : Layout) (s : State) (m : Machine) (match : Matches g forms most root layout s m) (from : Option Thing → ℤ → Outcome Pointer) (seen_as : Thing → Thing) (function : Bool) (reads : Reads from seen_as function) (template : function ≡ false) where
  abbrev Same : ℕ → ParamKind → Given → Thing → Type 0
  Same bound kind v t = IsGivenAs layout s.scene bound kind v (seen_as t)

  module _ (x : ℕ) (cell : Cell) (dims : List Control) (n : ℕ) (form : forms x ≡ TensorForm cell dims (suc n)) (cs : List Coord) (good : AreGoodCoords forms most cs) (last : EndsInSpan (suc n) cs) where
    abbrev t : IsTensor g.naming forms most layout s.scene.control s.scene.buffers s.scene.views m.setting.names x cell dims (suc n)
    t = tensor_here g.naming forms most layout s.scene m.setting match.names x cell dims (suc n) form

    abbrev is : List ℤ
    is = numbers s.scene (map lower_end cs)

    abbrev seen_on : List Side → Seen
    seen_on sides = record { buffer = x; sides = sides }

    view_is : given s.scene (Window x cs) ≡ option_map (λ sides. GivenView (seen_on sides)) (narrowed s.scene (whole t.extents) cs)
    view_is = ap (λ o. option_map GivenView (then_do o (λ seen. option_map (λ sides. record { buffer = seen.buffer; sides = sides }) (narrowed s.scene seen.sides cs)))) t.view ∙ twice (narrowed s.scene (whole t.extents) cs)
      where
        twice : (o : Option (List Side)) → option_map GivenView (option_map seen_on o) ≡ option_map (λ sides. GivenView (seen_on sides)) o
        twice None = refl
        twice (Some sides) = refl

    abbrev texts : List Number64
    texts = at_spans cs (row_strides (dims_of g.naming dims))

    abbrev es : List Number64
    es = numbers_of g.naming forms (map lower_end cs)

    module _ (sides : List Side) (e : narrowed s.scene (whole t.extents) cs ≡ Some sides) where
      abbrev strides : List ℤ
      strides = strides_of sides (row_major t.extents)

      -- the lower ends are the indices
      at_first_cell : (in_range is t.extents ≡ true) × (lower_ends sides ≡ is)
      at_first_cell =
          let first = first_at s.scene (whole t.extents) cs sides e in
          ⊎_elim (λ h. absurd (no_some (sym h ∙ first))) (λ h. (h.0, some_same (sym first ∙ h.1))) (whole_cell is t.extents)

      abbrev part : IsPart s.scene cell (seen_on sides)
      part = record {
        shape = tensor cell t.extents;
        buffer = t.shape;
        within = subst (λ o. IfSome o (LieWithin (whole t.extents))) e (narrowed_within s.scene (whole t.extents) (whole t.extents) cs (whole_in_whole t.extents));
        cell_is = refl;
      }

      abbrev first : Pointer
      first = beginning layout (tensor cell t.extents) (seen_on sides)

      vectors : IsInVectors n is t.extents
      vectors = in_vectors n is t.extents t.last at_first_cell.0 (ends_zero s.scene n cs last)

      few : product (front t.extents) ≤ℤ pos (2 ^ 48)
      few = subst (λ z. z ≤ℤ pos (2 ^ 48)) (sym vectors.size_is) (below vectors.size n (subst (λ z. z ≤ℤ pos (2 ^ 48)) vectors.cells t.few))
        where
          below : (a k : ℕ) → pos (a * suc k) ≤ℤ pos (2 ^ 48) → pos a ≤ℤ pos (2 ^ 48)
          below a k h = let less : a ≤ a * suc k = omega arith in omega (arith, ints)

      offset_is : number64 m.setting (offset (front es) (front (dims_of g.naming dims))) ≡ Done (pos vectors.at)
      offset_is =
          let ends = good_ends forms most cs good in
          let dims_have = subst (HaveNumbers m.setting (dims_of g.naming dims)) (t.numbers_are s.scene refl) (same_numbers g.naming forms most layout s.scene m.setting match.names _ dims t.plain t.narrow) in
          let ends_have = same_numbers g.naming forms most layout s.scene m.setting match.names _ (map lower_end cs) ends.0 ends.1 in
          offset_value m.setting (front es) (front (dims_of g.naming dims)) (front is) (front t.extents) (front_have m.setting es is ends_have) (front_have m.setting (dims_of g.naming dims) t.extents dims_have) vectors.inner few
          ∙ ap (λ z. Done z) vectors.at_is

      first_is : spot_by from m.setting (InArray (g.naming.binder x) (offset (front es) (front (dims_of g.naming dims)))) ≡ Done first
      first_is =
          ap (λ o. after o (λ k. after (from (m.setting.names (g.naming.binder x)) k) (inside m.setting))) offset_is
          ∙ ap (λ o. after (from o (pos vectors.at)) (inside m.setting)) t.name
          ∙ ap (λ o. after o (inside m.setting)) (reads.vectors template (layout x) (suc n) (pos vectors.at) ∙ ap (λ z. Done (moved (layout x) z)) (sym vectors.cells_at))
          ∙ cell_inside layout s.scene m.setting match.placed x (tensor cell t.extents) t.shape is at_first_cell.0
          ∙ ap (λ l. Done (moved (layout x) (dot l (row_major t.extents)))) (sym at_first_cell.1)

      texts_have : HaveNumbers m.setting texts strides
      texts_have =
          spans_have s.scene m.setting (whole t.extents) cs sides e (row_strides (dims_of g.naming dims)) (row_major t.extents)
          (subst (HaveNumbers m.setting (row_strides (dims_of g.naming dims))) (sym (whole_strides t.extents)) (strides_are Few g forms most root layout s m match from seen_as function reads x cell dims (suc n) form (λ k. absurd (true≢false (sym k ∙ template)))))

      fits : (holds_cells (m.setting.objects first.object) cell && (length strides == length texts)) ≡ true
      fits =
          let h = match.placed x (tensor cell t.extents) t.shape in
          and_from (holds_cells (m.setting.objects first.object) cell) (length strides == length texts)
          (ap (λ o. holds_cells o cell) h.there ∙ ap (λ c. same_cell c cell) h.same_cell ∙ same_itself cell)
          (eq-eqb (length strides) (length texts) (sym (have_length m.setting texts strides texts_have)))

      abbrev text_by : Form → Outcome Thing
      text_by f = let ts = at_spans cs (strides_in g.naming x f) in thing_by from m.setting (WindowOf (length ts) cell (cell_ref g.naming x f es) ts)

      window_is : text_by (forms x) ≡ Done (IsWindow first strides)
      window_is =
          ap text_by form
          ∙ ap (λ o. after o (λ p. after (all_numbers64 m.setting texts) (window_from (length texts) cell m.setting.objects p))) first_is
          ∙ ap (λ o. after o (window_from (length texts) cell m.setting.objects first)) (all_numbers m.setting texts strides texts_have)
          ∙ ap (λ b. where_good b (Done (IsWindow first strides))) fits

    pub lanes_follow : (bound memory : ℕ) (ds : List Control) → spans cs ≡ length ds → Follows Few (Same bound (WindowParam cell ds memory)) (given s.scene (Window x cs)) (thing_by from m.setting (actual_of g.naming forms (WindowParam cell ds memory) (Window x cs)))
    lanes_follow bound memory ds rank = go (narrowed s.scene (whole t.extents) cs) refl
      where
        go : (o : Option (List Side)) → narrowed s.scene (whole t.extents) cs ≡ o → Follows Few (Same bound (WindowParam cell ds memory)) (given s.scene (Window x cs)) (thing_by from m.setting (actual_of g.naming forms (WindowParam cell ds memory) (Window x cs)))
        go None e = follows_none Few (Same bound (WindowParam cell ds memory)) _ _ (view_is ∙ ap (option_map (λ sides. GivenView (seen_on sides))) e)
        go (Some sides) e =
            follows_both Few (Same bound (WindowParam cell ds memory)) _ _ (GivenView (seen_on sides)) (IsWindow (first sides e) (strides sides e)) (view_is ∙ ap (option_map (λ sides. GivenView (seen_on sides))) e) (window_is sides e)
            (record { part = part sides e; thing = reads.window_is (first sides e) (strides sides e) }, narrowed_spans s.scene (whole t.extents) cs sides e ∙ rank)
