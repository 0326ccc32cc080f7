-- The text in a hole names what is passed for its parameter.
use Rattle.std.proofs.Common.{◌≡◌, ◌<◌, ℕ, zero, suc, ℤ, pos, negsuc, ◌+ℤ◌, Bool, true, false, ◌&&◌, cond, List, [], ◌∷◌, map, length, Option, Some, None, option_map, refl, sym, ap, ◌∙◌, subst, arith, int_le, true≢false, ◌⊎◌, ⊎_elim, slice_get}
use Rattle.std.proofs.lemmas.Int.{ints}
use Rattle.std.proofs.lemmas.Bool.{and_parts}
use Rattle.exo_tree.specs.Tree.{Cell, Control, Lit, Coord, Argument, ControlArg, ConditionArg, Whole, Window, Param, ParamKind, ControlParam, TensorParam, WindowParam}
use Rattle.exo_meaning.specs.Scene.{where_true, Scene, Side, Point, Range, is_below, cell_at, extents, strides_of, numbers}
use Rattle.exo_meaning.specs.State.{State}
use Rattle.exo_meaning.specs.Calls.{all_positive}
use Rattle.exo_meaning.specs.Units.{is_hole_of}
use Rattle.c_tree.specs.CTree.{Name, Number64, Literal, CellRef, InWindow, Actual, Alone, Address, WindowOf, Piece, Filled, FirstCell}
use Rattle.c_unit_laws.specs.Follows.Machine.Machine.{Outcome, Done, Fault, NoStore, after}
use Rattle.c_unit_laws.specs.Follows.Machine.Machine.{where_good, Pointer, Thing, IsArray, IsWindow}
use Rattle.c_unit_laws.specs.Follows.Machine.Machine.{Object, Machine, all_numbers64, from_elements}
use Rattle.c_unit_laws.specs.Follows.Machine.Machine.{spot_by, holds_cells}
use Rattle.c_unit_laws.specs.Follows.Machine.CRun.{as_cells, thing_by, thing_alone, window_from}
use Rattle.c_lowering.specs.Made.Lowered.{Naming, Form, NoForm, NumberForm, TensorForm, WindowForm}
use Rattle.c_lowering.specs.Made.Lowered.{Forms, InBraces, numbers_of, at_spans, cell_ref}
use Rattle.c_lowering.specs.Made.Lowered.{cell_at_of, lower_end, strides_in, row_strides, dims_of}
use Rattle.c_lowering.specs.Made.Lowered.{window_strides, scaled, zeros, whole_window, actual_of}
use Rattle.c_lowering.specs.Made.Lowered.{actuals_of, first_cell, piece_for, piece_named, piece_of}
use Rattle.c_unit_laws.specs.Follows.Simulation.{Ground, Layout, Matches, array_at, beginning}
use Rattle.c_unit_laws.specs.Follows.Simulation.{lower_ends}
use Rattle.c_unit_laws.specs.Follows.Good.{IsAnyBuffer, IsBufferOf, IsHandedWhole, IsHandedTensor}
use Rattle.c_unit_laws.specs.Follows.Good.{AreGood, IsGoodArgument, AreGoodArguments}
use Rattle.c_unit_laws.specs.Follows.Holes.{begins, NamesFirstCell, IsTextOf}
use Rattle.c_unit_laws.specs.Follows.Holes.{HolesNameTheirArguments}
use Rattle.c_unit_laws.proofs.OfFollows.Steps.{done_is, fault_is_not_done, no_store_is_not_done}
use Rattle.c_unit_laws.proofs.OfFollows.Places.{tensor_here, window_here, window_spot}
use Rattle.c_unit_laws.proofs.OfFollows.Reading.{reads_cells}
use Rattle.c_unit_laws.proofs.OfFollows.Wholes.{array_alone, first_is}

array_begins : (lanes : ℕ) (p : Pointer) → begins (array_at lanes p) ≡ Some p
array_begins zero p = refl
array_begins (suc n) p = refl

-- ---- the first index

zero_indices : ℕ → List Control
zero_indices zero = []
zero_indices (suc n) = Lit (pos 0) ∷ zero_indices n

zero_texts : (naming : Naming) (forms : Forms) (w : Name) (k n : ℕ) → numbers_of naming forms (zero_indices n) ≡ zeros (window_strides w k n)
unfolding zero_indices
zero_texts naming forms w k zero = refl
zero_texts naming forms w k (suc n) = ap (λ l. Literal (pos 0) ∷ l) (zero_texts naming forms w (suc k) n)

zeros_good : (forms : Forms) (most : ℕ → ℕ) (n : ℕ) → AreGood forms most (zero_indices n)
unfolding zero_indices
zeros_good forms most zero = (tt, tt)
zeros_good forms most (suc n) = let rest = zeros_good forms most n in ((tt, rest.0), (omega arith, rest.1))

-- of a name that has cells it is that of the lower ends
zeros_begin : (scene : Scene) (sides : List Side) (n : ℕ) → length (extents sides) ≡ n → all_positive (extents sides) ≡ true → cell_at sides (numbers scene (zero_indices n)) ≡ Some (lower_ends sides)
unfolding zero_indices
zeros_begin scene [] zero h k = refl
zeros_begin scene [] (suc n) h k = absurd (omega (arith, h))
zeros_begin scene (Point p ∷ sides) n h k = ap (option_map (λ at. p ∷ at)) (zeros_begin scene sides n h k)
zeros_begin scene (Range lo e ∷ sides) zero h k = absurd (omega (arith, h))
zeros_begin scene (Range lo e ∷ sides) (suc n) h k =
    let parts = and_parts (int_le (pos 1) e) (all_positive (extents sides)) k in
    ap (λ b. where_true b (option_map (λ at. (lo +ℤ pos 0) ∷ at) (cell_at sides (numbers scene (zero_indices n))))) (some_below e parts.0)
    ∙ (ap (option_map (λ at. (lo +ℤ pos 0) ∷ at)) (zeros_begin scene sides n (omega (arith, h)) parts.1)
    ∙ ap (λ z. Some (z ∷ lower_ends sides)) (plus_zero lo))
  where
    some_below : (z : ℤ) → int_le (pos 1) z ≡ true → is_below (pos 0) z ≡ true
    some_below z b = grind (arith, ints)

    plus_zero : (z : ℤ) → z +ℤ pos 0 ≡ z
    plus_zero z = omega (arith, ints)

module _ (g : Ground) (forms : Forms) (most : ℕ → ℕ) (root : ℕ → ℕ) (layout : Layout) (s : State) (m : Machine) (match : Matches g forms most root layout s m) where
  abbrev Begins : Thing → CellRef → Type 0
  Begins t ref = (p : Pointer) × (begins t ≡ Some p) × (spot_by from_elements m.setting ref ≡ Done p)

  abbrev Tells : Actual → CellRef → Type 0
  Tells a ref = (t : Thing) → thing_by from_elements m.setting a ≡ Done t → Begins t ref

  -- ---- where the text is the same

  address_tells : (ref : CellRef) → Tells (Address ref) ref
  address_tells ref t e = go (spot_by from_elements m.setting ref) refl e
    where
      go : (o : Outcome Pointer) → spot_by from_elements m.setting ref ≡ o → after o (λ p. Done (IsArray p)) ≡ Done t → Begins t ref
      go (Done p) k i = (p, ap begins (sym (done_is i)), k)
      go Fault k i = absurd (fault_is_not_done i)
      go NoStore k i = absurd (no_store_is_not_done i)

  window_tells : (rank : ℕ) (cell : Cell) (ref : CellRef) (strides : List Number64) → Tells (WindowOf rank cell ref strides) ref
  window_tells rank cell ref strides t e = go (spot_by from_elements m.setting ref) refl e
    where
      fits : (b : Bool) (p : Pointer) (ns : List ℤ) → spot_by from_elements m.setting ref ≡ Done p → where_good b (Done (IsWindow p ns)) ≡ Done t → Begins t ref
      fits true p ns k i = (p, ap begins (sym (done_is i)), k)
      fits false p ns k i = absurd (fault_is_not_done i)

      with_strides : (p : Pointer) (o : Outcome (List ℤ)) → spot_by from_elements m.setting ref ≡ Done p → after o (window_from rank cell m.setting.objects p) ≡ Done t → Begins t ref
      with_strides p (Done ns) k i = fits _ p ns k i
      with_strides p Fault k i = absurd (fault_is_not_done i)
      with_strides p NoStore k i = absurd (no_store_is_not_done i)

      go : (o : Outcome Pointer) → spot_by from_elements m.setting ref ≡ o → after o (λ p. after (all_numbers64 m.setting strides) (window_from rank cell m.setting.objects p)) ≡ Done t → Begins t ref
      go (Done p) k i = with_strides p (all_numbers64 m.setting strides) k i
      go Fault k i = absurd (fault_is_not_done i)
      go NoStore k i = absurd (no_store_is_not_done i)

  -- ---- a name alone

  abbrev own_ref : ℕ → Form → CellRef
  own_ref x f = cell_ref g.naming x f (zeros (strides_in g.naming x f))

  tensor_tells : (x : ℕ) (cell : Cell) (dims : List Control) (lanes : ℕ) → forms x ≡ TensorForm cell dims lanes → Tells (Alone (g.naming.binder x)) (own_ref x (forms x))
  tensor_tells x cell dims lanes form t e =
      let h = tensor_here g.naming forms most layout s.scene m.setting match.names x cell dims lanes form in
      let there = ap (thing_alone m.setting (g.naming.binder x)) h.name ∙ array_alone m.setting (g.naming.binder x) lanes (layout x) in (
        layout x,
        ap begins (sym (done_is (sym there ∙ e))) ∙ array_begins lanes (layout x),
        ap (λ f. spot_by from_elements m.setting (own_ref x f)) form ∙ first_is (Unit {0}) g forms most root layout s m match from_elements as_cells false reads_cells x cell dims lanes form (λ k. absurd (true≢false (sym k))),
      )

  window_alone_tells : (x : ℕ) (cell : Cell) (rank : ℕ) → forms x ≡ WindowForm cell rank → Tells (Alone (g.naming.binder x)) (own_ref x (forms x))
  window_alone_tells x cell rank form t e =
      let w = window_here g.naming forms most layout s.scene m.setting match.names x cell rank form in
      let strides = strides_of w.seen.sides w.shape.strides in
      let there = ap (thing_alone m.setting (g.naming.binder x)) w.name in
      let at_lower = zeros_begin s.scene w.seen.sides rank w.rank_is w.full in (
        beginning layout w.shape w.seen,
        ap begins (sym (done_is (sym there ∙ e))),
        ap (λ f. spot_by from_elements m.setting (own_ref x f)) form
            ∙ (ap (λ es. spot_by from_elements m.setting (InWindow (g.naming.binder x) (scaled es (window_strides (g.naming.binder x) 0 rank)))) (sym (zero_texts g.naming forms (g.naming.binder x) 0 rank))
            ∙ window_spot g.naming forms most layout s.scene m.setting match.names match.placed root match.roots x cell (zero_indices rank) (zeros_good forms most rank) rank w (lower_ends w.seen.sides) at_lower),
      )

  -- ---- each argument

  -- a buffer of no dimensions has no strides
  point_ref : (x : ℕ) (cell : Cell) → IsBufferOf forms x cell 0 → first_cell g.naming forms (Whole x) ≡ cell_at_of g.naming forms x []
  point_ref x cell h = ap (λ es. cell_ref g.naming x (forms x) es) (none (forms x) h)
    where
      none : (f : Form) → ((f ≡ WindowForm cell 0) × (◌≡◌ {A = ℕ} 0 0)) ⊎ ((dims : List Control) × (f ≡ TensorForm cell dims 0) × (length dims ≡ 0)) → zeros (strides_in g.naming x f) ≡ []
      none f k = ⊎_elim
          (λ w. ap (λ z. zeros (strides_in g.naming x z)) w.0)
          (λ t. ap (λ z. zeros (strides_in g.naming x z)) t.1 ∙ short t.0 t.2)
          k
        where
          short : (dims : List Control) → length dims ≡ 0 → zeros (row_strides (dims_of g.naming dims)) ≡ []
          short [] i = refl
          short (d ∷ dims) i = absurd (omega (arith, i))

  abbrev TextOf : ParamKind → Argument → Type 0
  TextOf kind a = IsTextOf m.setting kind (actual_of g.naming forms kind a) (piece_for g.naming forms kind a)

  -- of a whole buffer, for a window
  whole_text : (memory x : ℕ) (cell : Cell) (ds : List Control) → IsHandedWhole forms false cell (length ds) x → TextOf (WindowParam cell ds memory) (Whole x)
  whole_text memory x cell ds h =
      ⊎_elim
      (λ w. (own_ref x (forms x), refl, subst (λ f. Tells (whole_window g.naming x cell f) (own_ref x (forms x))) (sym w.0) (window_alone_tells x cell (length ds) w.0)))
      (λ k. (own_ref x (forms x), refl, subst (λ f. Tells (whole_window g.naming x cell f) (own_ref x f)) (sym k.1) (let form = TensorForm cell k.0 h.0 in window_tells (length (strides_in g.naming x form)) cell (own_ref x form) (strides_in g.naming x form))))
      h.1

  text_is : (bound : ℕ) (kind : ParamKind) (a : Argument) → IsGoodArgument g.declared forms most bound false kind a → TextOf kind a
  text_is bound (ControlParam kind) a h = refl
  text_is bound (TensorParam cell [] memory) (ControlArg a) h = absurd h
  text_is bound (TensorParam cell [] memory) (ConditionArg c) h = absurd h
  text_is bound (TensorParam cell [] memory) (Whole x) h = (first_cell g.naming forms (Whole x), refl, subst (Tells (Address (cell_at_of g.naming forms x []))) (sym (point_ref x cell h)) (address_tells (cell_at_of g.naming forms x [])))
  text_is bound (TensorParam cell [] memory) (Window x cs) h = (cell_at_of g.naming forms x (map lower_end cs), refl, address_tells (cell_at_of g.naming forms x (map lower_end cs)))
  text_is bound (TensorParam cell (d ∷ ds) memory) (ControlArg a) h = absurd h
  text_is bound (TensorParam cell (d ∷ ds) memory) (ConditionArg c) h = absurd h
  text_is bound (TensorParam cell (d ∷ ds) memory) (Whole x) h = (own_ref x (forms x), refl, tensor_tells x cell h.0 h.1 h.2)
  text_is bound (TensorParam cell (d ∷ ds) memory) (Window x cs) h = absurd h
  text_is bound (WindowParam cell ds memory) (ControlArg a) h = absurd h
  text_is bound (WindowParam cell ds memory) (ConditionArg c) h = absurd h
  text_is bound (WindowParam cell ds memory) (Whole x) h = whole_text memory x cell ds h
  text_is bound (WindowParam cell ds memory) (Window x cs) h = (cell_at_of g.naming forms x (map lower_end cs), refl, (let strides = at_spans cs (strides_in g.naming x (forms x)) in window_tells (length strides) cell (cell_at_of g.naming forms x (map lower_end cs)) strides))

  -- ---- the first parameter that the hole may name

  abbrev Named : (ℕ → ℕ) → List Param → List Argument → List ℕ → ℕ → Param → Type 0
  Named bounds ps args name j p =
      AreGoodArguments g.declared forms most bounds false ps args
      → slice_get ps j ≡ Some p
      → is_hole_of name p ≡ true
      → ((i : ℕ) (q : Param) → i < j → slice_get ps i ≡ Some q → is_hole_of name q ≡ false)
      → (a : Actual)
      × (slice_get (actuals_of g.naming forms ps args) j ≡ Some a)
      × IsTextOf m.setting p.kind a (piece_named g.naming forms ps args name)

  named : (bounds : ℕ → ℕ) (ps : List Param) (args : List Argument) (name : List ℕ) (j : ℕ) (p : Param) → Named bounds ps args name j p
  named bounds [] args name zero p good e is before = absurd (none_some e)
    where
      none_some : {A : Type 0} {a : A} → None ≡ Some a → ⊥
      none_some k = cc
  named bounds [] args name (suc j) p good e is before = absurd (none_some e)
    where
      none_some : {A : Type 0} {a : A} → None ≡ Some a → ⊥
      none_some k = cc
  named bounds (q ∷ ps) [] name j p good e is before = absurd good
  named bounds (q ∷ ps) (a ∷ args) name zero p good e is before =
      let same = some_same e in (
        actual_of g.naming forms q.kind a,
        refl,
        subst (λ r. IsTextOf m.setting r.kind (actual_of g.naming forms q.kind a) (cond (is_hole_of name q) (piece_for g.naming forms q.kind a) (piece_named g.naming forms ps args name))) same
            (subst (λ b. IsTextOf m.setting q.kind (actual_of g.naming forms q.kind a) (cond b (piece_for g.naming forms q.kind a) (piece_named g.naming forms ps args name))) (sym (ap (is_hole_of name) same ∙ is))
            (text_is (bounds q.binder.id) q.kind a good.0)),
      )
    where
      some_same : {A : Type 0} {x y : A} → Some x ≡ Some y → x ≡ y
      some_same k = cc
  named bounds (q ∷ ps) (a ∷ args) name (suc j) p good e is before =
      let rest = named bounds ps args name j p good.1 e is (λ i r b k. before (suc i) r (omega (arith, b)) k) in (
        rest.0,
        rest.1,
        subst (λ b. IsTextOf m.setting p.kind rest.0 (cond b (piece_for g.naming forms q.kind a) (piece_named g.naming forms ps args name))) (sym (before zero q (omega arith) refl)) rest.2,
      )

pub holes_name_their_arguments : HolesNameTheirArguments
holes_name_their_arguments g forms most root layout s m bounds ps args name j p match good e is before = named g forms most root layout s m match bounds ps args name j p good e is before
