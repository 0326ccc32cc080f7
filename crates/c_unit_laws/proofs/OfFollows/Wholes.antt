-- Whole buffers as arguments, with lanes and without.
use Rattle.std.proofs.Common.{◌≡◌, ◌≤◌, ◌==◌, ◌^◌, ℕ, zero, suc, ℤ, pos, ◌+ℤ◌, ◌*ℤ◌, ◌≤ℤ◌, Bool, true, false, ◌&&◌, List, [], ◌∷◌, length, Option, Some, option_map, refl, sym, ap, ap₂, ◌∙◌, subst, arith, int_le, ⊎_elim, eq-eqb, unsigned_abs}
use Rattle.std.proofs.lemmas.Int.{ints}
use Rattle.std.proofs.lemmas.Bool.{and_from, and_parts}
use Rattle.std.proofs.Math.IntN.{zero-*ℤ}
use Rattle.exo_tree.specs.Tree.{Cell, Control, Whole, ParamKind, TensorParam, WindowParam}
use Rattle.exo_meaning.specs.Scene.{Seen, is_below, whole, extents, strides_of, numbers}
use Rattle.exo_meaning.specs.State.{State}
use Rattle.exo_meaning.specs.Calls.{Given, GivenView, given, all_positive}
use Rattle.exo_meaning.specs.Run.{product, row_major, tensor}
use Rattle.exo_meaning.specs.Units.{same_cell}
use Rattle.c_tree.specs.CTree.{Name, Number64, Sum, Product, Literal, InArray}
use Rattle.c_unit_laws.specs.Follows.Machine.Machine.{Outcome, Done, after, where_good, Pointer}
use Rattle.c_unit_laws.specs.Follows.Machine.Machine.{Thing, IsArray, IsVectors, IsWindow, Setting}
use Rattle.c_unit_laws.specs.Follows.Machine.Machine.{Machine, number64, inside, spot_by}
use Rattle.c_unit_laws.specs.Follows.Machine.Machine.{all_numbers64, holds_cells}
use Rattle.c_unit_laws.specs.Follows.Machine.CRun.{thing_by, thing_alone, window_from}
use Rattle.c_lowering.specs.Made.Lowered.{Forms, TensorForm, WindowForm, actual_of, whole_window}
use Rattle.c_lowering.specs.Made.Lowered.{zeros, front, without_lanes, offset, horner, dims_of}
use Rattle.c_lowering.specs.Made.Lowered.{row_strides}
use Rattle.c_unit_laws.specs.Follows.Simulation.{Ground, Follows, Layout, Matches, IsTensor}
use Rattle.c_unit_laws.specs.Follows.Simulation.{HaveNumbers, array_at, beginning, lower_ends, dot}
use Rattle.c_unit_laws.specs.Follows.Simulation.{in_range}
use Rattle.c_unit_laws.specs.Follows.Good.{IsHandedWhole, IsHandedTensor}
use Rattle.c_unit_laws.proofs.OfFollows.Steps.{follows_both}
use Rattle.c_unit_laws.proofs.OfFollows.Numbers.{same_numbers, on_both_done}
use Rattle.c_unit_laws.proofs.OfFollows.Places.{cell_inside, tensor_here, window_here}
use Rattle.c_unit_laws.proofs.OfFollows.Open.{whole_strides, rows_have}
use Rattle.exo_tree.specs.Cells.{same_itself}
use Rattle.c_unit_laws.proofs.OfFollows.Handed.{all_numbers, have_length, whole_in_whole}
use Rattle.c_unit_laws.proofs.OfFollows.Begun.{whole_begins, all_extents, at_first}
use Rattle.c_unit_laws.proofs.OfFollows.Given.{IsPart, IsGivenAs}
use Rattle.c_unit_laws.proofs.OfFollows.Reading.{Reads}
use Rattle.c_unit_laws.proofs.OfFollows.Arguments.{numbers_length}

-- ---- the first cell

module _ (s : Setting) where
  zero_horner : (a : Number64) → number64 s a ≡ Done (pos 0) → (es ds : List Number64) (ns : List ℤ) → HaveNumbers s ds ns → number64 s (horner a (zeros es) ds) ≡ Done (pos 0)
  zero_horner a h [] ds ns k = h
  zero_horner a h (e ∷ es) [] ns k = h
  zero_horner a h (e ∷ es) (d ∷ ds) [] k = absurd k
  zero_horner a h (e ∷ es) (d ∷ ds) (n ∷ ns) k =
      let times : number64 s (Product a d) ≡ Done (pos 0) = on_both_done ◌*ℤ◌ (number64 s a) (number64 s d) (pos 0) n h k.0 (subst (λ z. unsigned_abs z ≤ 2 ^ 62) (sym (zero-*ℤ n)) (omega arith)) ∙ ap (λ z. Done z) (zero-*ℤ n) in
      let plus : number64 s (Sum (Product a d) (Literal (pos 0))) ≡ Done (pos 0) = on_both_done ◌+ℤ◌ (number64 s (Product a d)) (Done (pos 0)) (pos 0) (pos 0) times refl (omega arith) in
      zero_horner (Sum (Product a d) (Literal (pos 0))) plus es ds ns k.1

  zero_offset : (es ds : List Number64) (ns : List ℤ) → HaveNumbers s ds ns → number64 s (offset (zeros es) ds) ≡ Done (pos 0)
  zero_offset [] ds ns k = refl
  zero_offset (e ∷ es) [] ns k = zero_horner (Literal (pos 0)) refl es [] [] tt
  zero_offset (e ∷ es) (d ∷ ds) [] k = absurd k
  zero_offset (e ∷ es) (d ∷ ds) (n ∷ ns) k = zero_horner (Literal (pos 0)) refl es ds ns k.1

  pub front_have : (es : List Number64) (ns : List ℤ) → HaveNumbers s es ns → HaveNumbers s (front es) (front ns)
  front_have [] [] k = tt
  front_have [] (n ∷ ns) k = absurd k
  front_have (e ∷ es) [] k = absurd k
  front_have (e ∷ []) (n ∷ []) k = tt
  front_have (e ∷ []) (n ∷ (o ∷ ns)) k = absurd k.1
  front_have (e ∷ (f ∷ es)) (n ∷ []) k = absurd k.1
  front_have (e ∷ (f ∷ es)) (n ∷ (o ∷ ns)) k = (k.0, front_have (f ∷ es) (o ∷ ns) k.1)

  zeros_front : (es : List Number64) → front (zeros es) ≡ zeros (front es)
  zeros_front [] = refl
  zeros_front (e ∷ []) = refl
  zeros_front (e ∷ (f ∷ es)) = ap (λ l. Literal (pos 0) ∷ l) (zeros_front (f ∷ es))

  zero_first : (lanes : ℕ) (es ds : List Number64) (ns : List ℤ) → HaveNumbers s ds ns → number64 s (offset (without_lanes lanes (zeros es)) (without_lanes lanes ds)) ≡ Done (pos 0)
  zero_first zero es ds ns k = zero_offset es ds ns k
  zero_first (suc n) es ds ns k = ap (λ l. number64 s (offset l (front ds))) (zeros_front es) ∙ zero_offset (front es) (front ds) (front ns) (front_have ds ns k)

origin : List ℤ → List ℤ
origin [] = []
origin (d ∷ ds) = pos 0 ∷ origin ds

origin_in : (ds : List ℤ) → all_positive ds ≡ true → in_range (origin ds) ds ≡ true
unfolding origin
origin_in [] h = refl
origin_in (d ∷ ds) h = let q = and_parts (int_le (pos 1) d) (all_positive ds) h in and_from (is_below (pos 0) d) (in_range (origin ds) ds) (some_there d q.0) (origin_in ds q.1)
  where
    some_there : (d : ℤ) → int_le (pos 1) d ≡ true → is_below (pos 0) d ≡ true
    some_there d h = grind (arith, ints)

origin_first : (ds ts : List ℤ) → dot (origin ds) ts ≡ pos 0
unfolding origin
origin_first [] ts = refl
origin_first (d ∷ ds) [] = refl
origin_first (d ∷ ds) (t ∷ ts) = ap₂ (λ a b. a +ℤ b) (zero-*ℤ t) (origin_first ds ts)

pub array_alone : (s : Setting) (x : Name) (lanes : ℕ) (p : Pointer) → thing_alone s x (Some (array_at lanes p)) ≡ Done (array_at lanes p)
array_alone s x zero p = refl
array_alone s x (suc n) p = refl

module _ (Few : Type 0) (g : Ground) (forms : Forms) (most : ℕ → ℕ) (root : ℕ → ℕ) (layout : Layout) (s : State) (m : Machine) (match : Matches g forms most root layout s m) (from : Option Thing → ℤ → Outcome Pointer) (seen_as : Thing → Thing) (function : Bool) (reads : Reads from seen_as function) where
  abbrev Same : ℕ → ParamKind → Given → Thing → Type 0
  Same bound kind v t = IsGivenAs layout s.scene bound kind v (seen_as t)

  suc_zero : (n : ℕ) → suc n ≡ 0 → ⊥
  suc_zero n e = omega (arith, e)

  seen_array : (lanes : ℕ) (p : Pointer) → (function ≡ true → lanes ≡ 0) → seen_as (array_at lanes p) ≡ IsArray p
  seen_array zero p h = reads.array_is p
  seen_array (suc n) p h = go function refl
    where
      go : (b : Bool) → function ≡ b → seen_as (IsVectors p (suc n)) ≡ IsArray p
      go true e = absurd (suc_zero n (h e))
      go false e = reads.cells_are e p (suc n)

  -- a pointer to the first cell
  first_from : (lanes : ℕ) (p : Pointer) → (function ≡ true → lanes ≡ 0) → from (Some (array_at lanes p)) (pos 0) ≡ Done p
  first_from zero p h = reads.array p (pos 0) ∙ ap (λ q. Done q) (at_first p (pos 0) refl)
  first_from (suc n) p h = go function refl
    where
      go : (b : Bool) → function ≡ b → from (Some (IsVectors p (suc n))) (pos 0) ≡ Done p
      go true e = absurd (suc_zero n (h e))
      go false e = reads.vectors e p (suc n) (pos 0) ∙ ap (λ q. Done q) (at_first p (pos 0 *ℤ pos (suc n)) (zero-*ℤ (pos (suc n))))

  module _ (x : ℕ) (cell : Cell) (dims : List Control) (lanes : ℕ) (form : forms x ≡ TensorForm cell dims lanes) (plain : function ≡ true → lanes ≡ 0) where
    abbrev t : IsTensor g.naming forms most layout s.scene.control s.scene.buffers s.scene.views m.setting.names x cell dims lanes
    t = tensor_here g.naming forms most layout s.scene m.setting match.names x cell dims lanes form

    abbrev all : Seen
    all = record { buffer = x; sides = whole t.extents }

    abbrev part : IsPart s.scene cell all
    part = record { shape = tensor cell t.extents; buffer = t.shape; within = whole_in_whole t.extents; cell_is = refl }

    begins : beginning layout (tensor cell t.extents) all ≡ layout x
    begins = at_first (layout x) (dot (lower_ends (whole t.extents)) (row_major t.extents)) (whole_begins t.extents (row_major t.extents))

    rank_is : (rank : ℕ) → length dims ≡ rank → length (extents (whole t.extents)) ≡ rank
    rank_is rank h = ap (λ l. length l) (all_extents t.extents ∙ sym (t.numbers_are s.scene refl)) ∙ numbers_length s.scene dims ∙ h

    -- as a tensor
    tensor_follows : (bound memory : ℕ) (e : Control) (ds : List Control) → Follows Few (Same bound (TensorParam cell (e ∷ ds) memory)) (given s.scene (Whole x)) (thing_by from m.setting (actual_of g.naming forms (TensorParam cell (e ∷ ds) memory) (Whole x)))
    tensor_follows bound memory e ds =
        follows_both Few (Same bound (TensorParam cell (e ∷ ds) memory)) _ _ (GivenView all) (array_at lanes (layout x)) (ap (option_map GivenView) t.view)
        (ap (thing_alone m.setting (g.naming.binder x)) t.name ∙ array_alone m.setting (g.naming.binder x) lanes (layout x))
        (record {
          part = part;
          rows = whole_strides t.extents ∙ ap row_major (sym (all_extents t.extents));
          few = subst (λ l. product l ≤ℤ pos (2 ^ 48)) (sym (all_extents t.extents)) t.few;
          thing = seen_array lanes (layout x) plain ∙ ap (λ p. IsArray p) (sym begins);
        })

    -- as a window
    abbrev strides : List Number64
    strides = row_strides (dims_of g.naming dims)

    pub first_is : spot_by from m.setting (InArray (g.naming.binder x) (offset (without_lanes lanes (zeros strides)) (without_lanes lanes (dims_of g.naming dims)))) ≡ Done (layout x)
    first_is =
        let back = at_first (layout x) (dot (origin t.extents) (row_major t.extents)) (origin_first t.extents (row_major t.extents)) in
        ap (λ o. after o (λ k. after (from (m.setting.names (g.naming.binder x)) k) (inside m.setting))) (zero_first m.setting lanes strides (dims_of g.naming dims) (numbers s.scene dims) (same_numbers g.naming forms most layout s.scene m.setting match.names _ dims t.plain t.narrow))
        ∙ ap (λ o. after (from o (pos 0)) (inside m.setting)) t.name
        ∙ ap (λ o. after o (inside m.setting)) (first_from lanes (layout x) plain)
        ∙ subst (λ p. inside m.setting p ≡ Done p) back (cell_inside layout s.scene m.setting match.placed x (tensor cell t.extents) t.shape (origin t.extents) (origin_in t.extents t.positive))

    pub strides_are : HaveNumbers m.setting strides (row_major t.extents)
    strides_are =
        let same = t.numbers_are s.scene refl in
        subst (λ l. HaveNumbers m.setting strides (row_major l)) same (rows_have g.naming forms most layout s.scene m.setting match.names match.placed dims t.plain t.narrow (ap all_positive same ∙ t.positive) (subst (λ l. product l ≤ℤ pos (2 ^ 48)) (sym same) t.few))

    fits : (holds_cells (m.setting.objects (layout x).object) cell && (length (row_major t.extents) == length strides)) ≡ true
    fits =
        let h = match.placed x (tensor cell t.extents) t.shape in
        and_from (holds_cells (m.setting.objects (layout x).object) cell) (length (row_major t.extents) == length strides)
        (ap (λ o. holds_cells o cell) h.there ∙ ap (λ c. same_cell c cell) h.same_cell ∙ same_itself cell)
        (eq-eqb (length (row_major t.extents)) (length strides) (sym (have_length m.setting strides (row_major t.extents) strides_are)))

    window_is : thing_by from m.setting (whole_window g.naming x cell (TensorForm cell dims lanes)) ≡ Done (IsWindow (layout x) (row_major t.extents))
    window_is =
        ap (λ o. after o (λ p. after (all_numbers64 m.setting strides) (window_from (length strides) cell m.setting.objects p))) first_is
        ∙ ap (λ o. after o (window_from (length strides) cell m.setting.objects (layout x))) (all_numbers m.setting strides (row_major t.extents) strides_are)
        ∙ ap (λ b. where_good b (Done (IsWindow (layout x) (row_major t.extents)))) fits

    as_window : (bound memory : ℕ) (ds : List Control) → length dims ≡ length ds → Follows Few (Same bound (WindowParam cell ds memory)) (given s.scene (Whole x)) (thing_by from m.setting (actual_of g.naming forms (WindowParam cell ds memory) (Whole x)))
    as_window bound memory ds rank =
        follows_both Few (Same bound (WindowParam cell ds memory)) _ _ (GivenView all) (IsWindow (layout x) (row_major t.extents)) (ap (option_map GivenView) t.view)
        (ap (λ f. thing_by from m.setting (whole_window g.naming x cell f)) form ∙ window_is)
        (record { part = part; thing = reads.window_is (layout x) (row_major t.extents) ∙ ap₂ (λ p r. IsWindow p r) (sym begins) (sym (whole_strides t.extents)) }, rank_is (length ds) rank)

  -- a window alone
  window_alone : (bound memory : ℕ) (x : ℕ) (cell : Cell) (ds : List Control) → forms x ≡ WindowForm cell (length ds) → Follows Few (Same bound (WindowParam cell ds memory)) (given s.scene (Whole x)) (thing_by from m.setting (actual_of g.naming forms (WindowParam cell ds memory) (Whole x)))
  window_alone bound memory x cell ds form =
      let w = window_here g.naming forms most layout s.scene m.setting match.names x cell (length ds) form in
      let strides = strides_of w.seen.sides w.shape.strides in
      let p = beginning layout w.shape w.seen in
      follows_both Few (Same bound (WindowParam cell ds memory)) _ _ (GivenView w.seen) (IsWindow p strides) (ap (option_map GivenView) w.view)
      (ap (λ f. thing_by from m.setting (whole_window g.naming x cell f)) form ∙ ap (thing_alone m.setting (g.naming.binder x)) w.name)
      (record { part = record { shape = w.shape; buffer = w.buffer; within = w.within; cell_is = w.cell_is }; thing = reads.window_is p strides }, w.rank_is)

  pub whole_tensor_follows : (bound memory : ℕ) (x : ℕ) (cell : Cell) (e : Control) (ds : List Control) → IsHandedTensor forms function cell (length (e ∷ ds)) x → Follows Few (Same bound (TensorParam cell (e ∷ ds) memory)) (given s.scene (Whole x)) (thing_by from m.setting (actual_of g.naming forms (TensorParam cell (e ∷ ds) memory) (Whole x)))
  whole_tensor_follows bound memory x cell e ds h = tensor_follows x cell h.0 h.1 h.2 h.4 bound memory e ds

  pub whole_window_follows : (bound memory : ℕ) (x : ℕ) (cell : Cell) (ds : List Control) → IsHandedWhole forms function cell (length ds) x → Follows Few (Same bound (WindowParam cell ds memory)) (given s.scene (Whole x)) (thing_by from m.setting (actual_of g.naming forms (WindowParam cell ds memory) (Whole x)))
  whole_window_follows bound memory x cell ds h =
      ⊎_elim
      (λ w. window_alone bound memory x cell ds w.0)
      (λ k. as_window x cell k.0 h.0 k.1 h.2 bound memory ds k.2)
      h.1
