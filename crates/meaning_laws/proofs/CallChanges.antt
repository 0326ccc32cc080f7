-- A run with calls is a change that goes by its footprint.
use Rattle.std.proofs.Common.{◌≡◌, ℕ, ℤ, pos, ◌==◌, Bool, true, false, true≢false, cond, not, ◌&&◌, ◌||◌, List, [], ◌∷◌, ◌++◌, Option, Some, None, IfSome, option_map, refl, sym, ap, ap₂, ◌∙◌, subst, eqb-true, eq-eqb}
use Rattle.std.proofs.Math.Path.{fun_ext}
use Rattle.std.specs.Cmp.Rules.{signed_items}
use Rattle.exo_tree.specs.Tree.{Binder, Cell, Kind, Index, Argument, Statement, Assign, Reduce, Config, Pass, If, For, Alloc, View, Call, Block, end, next, Param, ParamKind, ControlParam, TensorParam, WindowParam, Procedure}
use Rattle.exo_meaning.specs.Value.{Value, Undefined}
use Rattle.exo_meaning.specs.Scene.{Shape, Seen, then_do, where_true, numbers, holds, window, index_of, extents, strides_seen}
use Rattle.exo_meaning.specs.State.{State, Cells, Place, place, is_there, value, same_index, on_scene, with_control, with_field, with_view, with_contents, with_buffer}
use Rattle.exo_meaning.specs.Calls.{keeps_apart, copied_call, Callee, Given, GivenNumber, GivenView, all_given, suits, all_positive, held_at, contents, bind_numbers, bind_buffer, bind_buffers, bare, entered, value_or, copy_back, copied_back, returned, all_hold, run_asserted}
use Rattle.exo_meaning.specs.Run.{World, run, step, call_to, turn, turns, turns_of, choose, argument_number, tensor}
use Rattle.exo_meaning.specs.Inputs.{IsAdmissible, IsArgument, AreArguments, is_buffer_of}
use Rattle.exo_meaning.specs.Footprint.{Entry, Reads, Writes, Reduces, Made, further, chosen, turns_touch, step_footprint, reads, Change, under, stores_one, stores, overwrites_one, overwrites, IsTidy, IsSum, ChangesBy}
use Rattle.exo_meaning.specs.Orders.{Each}
use Rattle.exo_meaning.specs.Units.{Sort, ControlName, Scope, sort_in, is_new, with_name, with_fields, plainly, is_control, is_condition, are_for, is_call, scope_after, is_empty, is_short, is_block, is_statement, param_sort, scope_of}
use Rattle.exo_meaning.proofs.Cells.{there_is}
use Rattle.exo_meaning.proofs.Frame.{if_then, if_map, if_where, any, if_weaken, or_parts, updated_other}
use Rattle.exo_meaning.proofs.Windows.{cell_at_index}
use Rattle.exo_meaning.proofs.Changes.{stores_parts, overwrites_parts, changes_then, changes_none, assigned, reduced_to, ScopedChanges, scoped_changes, choose_changes, made_changes}
use Rattle.meaning_laws.specs.Sound.{IsSound}
use Rattle.meaning_laws.specs.Sorted.{IsSorted, Ends}
use Rattle.meaning_laws.specs.Touched.{IsCovered, Reading, Writing, Reducing, Modes, window_entries, buffer_entries, param_entries, all_entries, given_entries, entries_to, call_entries, touched}
use Rattle.meaning_laws.proofs.Parts.{none_some}
use Rattle.meaning_laws.proofs.Names.{if_gives}
use Rattle.meaning_laws.proofs.Substitute.{and_parts}
use Rattle.meaning_laws.proofs.Sound.{AreThere, all_there, step_sound, turn_sound}
use Rattle.meaning_laws.proofs.Copies.{if_both}
use Rattle.meaning_laws.proofs.FirstState.{Differ, params_differ, Matches, AllMatch, all_match, enters}
use Rattle.meaning_laws.proofs.Sorted.{Next, IsGood, step_next, run_ends, inside, turn_next, found}
use Rattle.meaning_laws.proofs.Covered.{or_left, or_right}
use Rattle.meaning_laws.proofs.CallExchanges.{each_window}

-- ---- what the modes say of the changes

-- from s to t, by a change that leaves alone what is not written or reduced, and adds where nothing is written
pub record ModeChanges (outer : Scope) (all : Modes) (s t : State) : Type 0 where
  pub change : Change
  pub cells : t.cells ≡ under change s.cells
  pub idle : (x : ℕ) (sort : Sort) → sort_in outer x ≡ Some sort → all Writing x ≡ false → all Reducing x ≡ false → (at : List ℤ) (v : Value) → change x at v ≡ v
  pub sums : (x : ℕ) (sort : Sort) → sort_in outer x ≡ Some sort → all Writing x ≡ false → (shape : Shape) → s.scene.buffers x ≡ Some shape → (at : List ℤ) → IsSum shape.cell (change x at)

module _ (outer : Scope) (all : Modes) where
  elsewhere : (x b : ℕ) (at q : List ℤ) → all Writing x ≡ false → all Writing b ≡ true → is_there (record { buffer = b; at = q }) x at ≡ false
  elsewhere x b at q h k = go (is_there (record { buffer = b; at = q }) x at) (there_is (record { buffer = b; at = q }) x at)
    where
      go : (t : Bool) → (t ≡ true → (x ≡ b) × (at ≡ q)) → t ≡ false
      go true same = absurd (true≢false (sym k ∙ ap (all Writing) (sym (same refl).0) ∙ h))
      go false same = refl

  not_added : (x b : ℕ) (at q : List ℤ) → all Reducing x ≡ false → all Reducing b ≡ true → is_there (record { buffer = b; at = q }) x at ≡ false
  not_added x b at q h k = go (is_there (record { buffer = b; at = q }) x at) (there_is (record { buffer = b; at = q }) x at)
    where
      go : (t : Bool) → (t ≡ true → (x ≡ b) × (at ≡ q)) → t ≡ false
      go true same = absurd (true≢false (sym k ∙ ap (all Reducing) (sym (same refl).0) ∙ h))
      go false same = refl

  not_made : (x y : ℕ) (sort : Sort) → sort_in outer x ≡ Some sort → sort_in outer y ≡ None → (x == y) ≡ false
  not_made x y sort e k = go (x == y) (eqb-true x y)
    where
      go : (t : Bool) → (t ≡ true → x ≡ y) → t ≡ false
      go true same = absurd (none_some (sym k ∙ ap (sort_in outer) (sym (same refl)) ∙ e))
      go false same = refl

  not_overwritten : (es : List Entry) → Each (IsCovered outer all) es → (x : ℕ) (sort : Sort) → sort_in outer x ≡ Some sort → all Writing x ≡ false → (at : List ℤ) → overwrites (record { buffer = x; at = at }) es ≡ false
  not_overwritten [] h x sort e w at = refl
  not_overwritten (f ∷ es) h x sort e w at = ap₂ (λ a b. a || b) (one f h.0) (not_overwritten es h.1 x sort e w at)
    where
      one : (f : Entry) → IsCovered outer all f → overwrites_one (record { buffer = x; at = at }) f ≡ false
      one (Reads q) c = refl
      one (Writes q) c = elsewhere x q.buffer at q.at w c
      one (Reduces cell q) c = refl
      one (Made y) c = not_made x y sort e c

  not_stored : (es : List Entry) → Each (IsCovered outer all) es → (x : ℕ) (sort : Sort) → sort_in outer x ≡ Some sort → all Writing x ≡ false → all Reducing x ≡ false → (at : List ℤ) → stores (record { buffer = x; at = at }) es ≡ false
  not_stored [] h x sort e w r at = refl
  not_stored (f ∷ es) h x sort e w r at = ap₂ (λ a b. a || b) (one f h.0) (not_stored es h.1 x sort e w r at)
    where
      one : (f : Entry) → IsCovered outer all f → stores_one (record { buffer = x; at = at }) f ≡ false
      one (Reads q) c = refl
      one (Writes q) c = elsewhere x q.buffer at q.at w c
      one (Reduces cell q) c = not_added x q.buffer at q.at r c.0
      one (Made y) c = not_made x y sort e c

  pub by_modes : (es : List Entry) (s t : State) → Each (IsCovered outer all) es → ChangesBy es s t → ModeChanges outer all s t
  by_modes es s t h c = record {
    change = c.change;
    cells = c.cells;
    idle = λ x sort e w r at v. c.idle (record { buffer = x; at = at }) (not_stored es h x sort e w r at) v;
    sums = λ x sort e w shape b at. c.sums (record { buffer = x; at = at }) shape b (not_overwritten es h x sort e w at);
  }

-- ---- the copies of a call

module _ (s : State) where
  abbrev IsCopy : ParamKind → Given → (List ℤ → Value) → Type 0
  IsCopy (ControlParam kind) g f = Unit {0}
  IsCopy (TensorParam cell dims memory) (GivenNumber n) f = Unit {0}
  IsCopy (TensorParam cell dims memory) (GivenView z) f = f ≡ contents s.cells z
  IsCopy (WindowParam cell dims memory) (GivenNumber n) f = Unit {0}
  IsCopy (WindowParam cell dims memory) (GivenView z) f = f ≡ contents s.cells z

  abbrev AreCopies : List Param → List Given → Cells → Type 0
  AreCopies [] gs c = Unit {0}
  AreCopies (p ∷ ps) [] c = Unit {0}
  AreCopies (p ∷ ps) (g ∷ gs) c = IsCopy p.kind g (c p.binder.id) × AreCopies ps gs c

  abbrev OneCopied : ℕ → ParamKind → Given → State → State → Type 0
  OneCopied x kind g t u = ((b : ℕ) → (b == x) ≡ false → u.cells b ≡ t.cells b) × IsCopy kind g (u.cells x)

  one_copied : (x : ℕ) (kind : ParamKind) (g : Given) (t : State) → IfSome (bind_buffer s x kind g t) (OneCopied x kind g t)
  one_copied x (ControlParam kind) g t = (λ b e. refl, tt)
  one_copied x (TensorParam cell dims memory) (GivenNumber n) t = tt
  one_copied x (TensorParam cell dims memory) (GivenView z) t = if_where (OneCopied x (TensorParam cell dims memory) (GivenView z) t) (same_index (numbers t.scene dims) (extents z.sides) && all_positive (numbers t.scene dims)) (Some (with_contents x (contents s.cells z) (on_scene (with_buffer x (record { cell = cell; dims = numbers t.scene dims; strides = strides_seen s.scene z })) t))) (λ b e. updated_other t.cells x (contents s.cells z) b e, ap (λ q. cond {A = List ℤ → Value} q (contents s.cells z) (t.cells x)) (eq-eqb x x refl))
  one_copied x (WindowParam cell dims memory) (GivenNumber n) t = tt
  one_copied x (WindowParam cell dims memory) (GivenView z) t = if_where (OneCopied x (WindowParam cell dims memory) (GivenView z) t) (same_index (numbers t.scene dims) (extents z.sides) && all_positive (numbers t.scene dims)) (Some (with_contents x (contents s.cells z) (on_scene (with_buffer x (record { cell = cell; dims = numbers t.scene dims; strides = strides_seen s.scene z })) t))) (λ b e. updated_other t.cells x (contents s.cells z) b e, ap (λ q. cond {A = List ℤ → Value} q (contents s.cells z) (t.cells x)) (eq-eqb x x refl))

  kept_copy : (kind : ParamKind) (g : Given) (f h : List ℤ → Value) → h ≡ f → IsCopy kind g f → IsCopy kind g h
  kept_copy kind g f h e k = subst (IsCopy kind g) (sym e) k

  abbrev Copied : List Param → List Given → State → State → Type 0
  Copied ps gs t u = ((b : ℕ) → is_buffer_of b ps ≡ false → u.cells b ≡ t.cells b) × AreCopies ps gs u.cells

  all_copied : (ps : List Param) (gs : List Given) (t : State) → Differ ps → IfSome (bind_buffers s ps gs t) (Copied ps gs t)
  all_copied [] gs t df = (λ b e. refl, tt)
  all_copied (p ∷ ps) [] t df = tt
  all_copied (p ∷ ps) (g ∷ gs) t df =
      if_then (OneCopied p.binder.id p.kind g t) (Copied (p ∷ ps) (g ∷ gs) t) (bind_buffer s p.binder.id p.kind g t) (bind_buffers s ps gs) (one_copied p.binder.id p.kind g t) (λ u k.
      if_weaken (Copied ps gs u) (Copied (p ∷ ps) (g ∷ gs) t) (bind_buffers s ps gs u) (all_copied ps gs u df.1) (λ w l.
      (λ b e. let q = or_parts (b == p.binder.id) (is_buffer_of b ps) e in l.0 b q.1 ∙ k.0 b q.0, (kept_copy p.kind g (u.cells p.binder.id) (w.cells p.binder.id) (l.0 p.binder.id df.0) k.1, l.1))))

  pub entered_copies : (ps : List Param) (gs : List Given) → Differ ps → IfSome (entered ps gs s) (λ inner. AreCopies ps gs inner.cells)
  entered_copies ps gs df = if_then (λ c. Unit {0}) (λ (inner : State). AreCopies ps gs inner.cells) (bind_numbers ps gs (λ x. pos 0)) _ (any (bind_numbers ps gs (λ x. pos 0))) (λ c u. if_weaken (Copied ps gs (bare c s.scene.fields)) (λ (inner : State). AreCopies ps gs inner.cells) (bind_buffers s ps gs (bare c s.scene.fields)) (all_copied ps gs (bare c s.scene.fields) df) (λ inner k. k.1))

-- ---- the change that a call makes

abbrev seen_change : Option (List ℤ) → (List ℤ → Value → Value) → (Value → Value) → Value → Value
seen_change None m f v = f v
seen_change (Some is) m f v = m is v

abbrev one_change : Bool → Given → (List ℤ → Value → Value) → Change → Change
one_change false g m f b at v = f b at v
one_change true (GivenNumber n) m f b at v = f b at v
one_change true (GivenView z) m f b at v = cond {A = Value → Value} (b == z.buffer) (seen_change (index_of z.sides at) m (f b at)) (f b at) v

abbrev call_change : (ℕ → Bool) → List Param → List Given → Change → Change → Change
call_change w [] gs m f = f
call_change w (p ∷ ps) [] m f = f
call_change w (p ∷ ps) (g ∷ gs) m f = call_change w ps gs m (one_change (w p.binder.id) g (m p.binder.id) f)

-- numbers for control parameters, and windows for the others
abbrev IsPair : ParamKind → Given → Type 0
IsPair (ControlParam kind) (GivenNumber n) = Unit {0}
IsPair (ControlParam kind) (GivenView z) = ⊥
IsPair (TensorParam cell dims memory) (GivenNumber n) = ⊥
IsPair (TensorParam cell dims memory) (GivenView z) = Unit {0}
IsPair (WindowParam cell dims memory) (GivenNumber n) = ⊥
IsPair (WindowParam cell dims memory) (GivenView z) = Unit {0}

abbrev ArePairs : List Param → List Given → Type 0
ArePairs [] gs = Unit {0}
ArePairs (p ∷ ps) [] = ⊥
ArePairs (p ∷ ps) (g ∷ gs) = IsPair p.kind g × ArePairs ps gs

copy_is : (s : State) (kind : ParamKind) (z : Seen) (f : List ℤ → Value) → IsPair kind (GivenView z) → IsCopy s kind (GivenView z) f → f ≡ contents s.cells z
copy_is s (ControlParam kind) z f p c = absurd p
copy_is s (TensorParam cell dims memory) z f p c = c
copy_is s (WindowParam cell dims memory) z f p c = c

module _ (s : State) (inner : Cells) (m : Change) where
  -- the way back is that change
  one_back : (t : Bool) (kind : ParamKind) (x : ℕ) (g : Given) (c : Cells) (f : Change) → IsPair kind g → IsCopy s kind g (inner x) → c ≡ under f s.cells → copy_back t g (under m inner x) c ≡ under (one_change t g (m x) f) s.cells
  one_back false kind x g c f p k e = e
  one_back true kind x (GivenNumber n) c f p k e = e
  one_back true kind x (GivenView z) c f p k e = fun_ext (λ b. fun_ext (λ at. go b at (b == z.buffer) (eqb-true b z.buffer) (index_of z.sides at) refl))
    where
      at_cell : (b : ℕ) (at : List ℤ) → c b at ≡ f b at (s.cells b at)
      at_cell b at = ap (λ (y : Cells). y b at) e

      go : (b : ℕ) (at : List ℤ) (t : Bool) → (t ≡ true → b ≡ z.buffer) → (o : Option (List ℤ)) → index_of z.sides at ≡ o → cond t (value_or o (under m inner x) (c b at)) (c b at) ≡ cond {A = Value → Value} t (seen_change o (m x) (f b at)) (f b at) (s.cells b at)
      go b at false same o i = at_cell b at
      go b at true same None i = at_cell b at
      go b at true same (Some is) i = ap (m x is) (ap (λ (y : List ℤ → Value). y is) (copy_is s kind z (inner x) p k) ∙ ap (held_at (s.cells z.buffer)) (cell_at_index z.sides at is i) ∙ ap (λ y. s.cells y at) (sym (same refl)))

  all_back : (w : ℕ → Bool) (ps : List Param) (gs : List Given) (c : Cells) (f : Change) → ArePairs ps gs → AreCopies s ps gs inner → c ≡ under f s.cells → copied_back w ps gs (under m inner) c ≡ under (call_change w ps gs m f) s.cells
  all_back w [] gs c f p k e = e
  all_back w (p ∷ ps) [] c f pair k e = e
  all_back w (p ∷ ps) (g ∷ gs) c f pair k e = all_back w ps gs (copy_back (w p.binder.id) g (under m inner p.binder.id) c) (one_change (w p.binder.id) g (m p.binder.id) f) pair.1 k.1 (one_back (w p.binder.id) p.kind p.binder.id g c f pair.0 k.0 e)

-- ---- what the entries of a call say of a cell

same_index_self : (at : List ℤ) → same_index at at ≡ true
same_index_self at = (signed_items at at).1 refl

there_self : (b : ℕ) (at : List ℤ) → is_there (record { buffer = b; at = at }) b at ≡ true
there_self b at = ap₂ (λ u v. u && v) (eq-eqb b b refl) (same_index_self at)

none_stores : (p : Place) (es : List Entry) → stores p es ≡ false → Each (λ e. stores_one p e ≡ false) es
none_stores p [] h = tt
none_stores p (e ∷ es) h = let q = or_parts (stores_one p e) (stores p es) h in (q.0, none_stores p es q.1)

none_overwrites : (p : Place) (es : List Entry) → overwrites p es ≡ false → Each (λ e. overwrites_one p e ≡ false) es
none_overwrites p [] h = tt
none_overwrites p (e ∷ es) h = let q = or_parts (overwrites_one p e) (overwrites p es) h in (q.0, none_overwrites p es q.1)

chosen_true : (P : Entry → Type 0) (t : Bool) (es : List Entry) → Each P (chosen t es []) → t ≡ true → Each P es
chosen_true P true es h e = h
chosen_true P false es h e = absurd (true≢false (sym e))

module _ (modes : Modes) (x : ℕ) (cell : Cell) (z : Seen) (is at : List ℤ) (seen : index_of z.sides at ≡ Some is) where
  abbrev spot : Place
  spot = record { buffer = z.buffer; at = at }

  abbrev writing : List Entry
  writing = chosen (modes Writing x) (window_entries Writes z) []

  abbrev reducing : List Entry
  reducing = chosen (modes Reducing x) (window_entries (Reduces cell) z) []

  -- where the window sees the cell, a mode that writes stores in it
  not_writing : stores spot (buffer_entries modes x cell (GivenView z)) ≡ false → modes Writing x ≡ false
  not_writing h = go (modes Writing x) refl
    where
      parts : stores spot writing ≡ false
      parts = (stores_parts spot writing reducing (stores_parts spot (chosen (modes Reading x) (window_entries Reads z) []) (writing ++ reducing) h).1).0

      go : (t : Bool) → modes Writing x ≡ t → t ≡ false
      go false e = refl
      go true e = absurd (true≢false (sym (there_self z.buffer at) ∙ each_window (λ e. stores_one spot e ≡ false) Writes z (chosen_true (λ e. stores_one spot e ≡ false) (modes Writing x) (window_entries Writes z) (none_stores spot writing parts) e) is at (cell_at_index z.sides at is seen)))

  not_reducing : stores spot (buffer_entries modes x cell (GivenView z)) ≡ false → modes Reducing x ≡ false
  not_reducing h = go (modes Reducing x) refl
    where
      parts : stores spot reducing ≡ false
      parts = (stores_parts spot writing reducing (stores_parts spot (chosen (modes Reading x) (window_entries Reads z) []) (writing ++ reducing) h).1).1

      go : (t : Bool) → modes Reducing x ≡ t → t ≡ false
      go false e = refl
      go true e = absurd (true≢false (sym (there_self z.buffer at) ∙ each_window (λ e. stores_one spot e ≡ false) (Reduces cell) z (chosen_true (λ e. stores_one spot e ≡ false) (modes Reducing x) (window_entries (Reduces cell) z) (none_stores spot reducing parts) e) is at (cell_at_index z.sides at is seen)))

  not_overwriting : overwrites spot (buffer_entries modes x cell (GivenView z)) ≡ false → modes Writing x ≡ false
  not_overwriting h = go (modes Writing x) refl
    where
      parts : overwrites spot writing ≡ false
      parts = (overwrites_parts spot writing reducing (overwrites_parts spot (chosen (modes Reading x) (window_entries Reads z) []) (writing ++ reducing) h).1).0

      go : (t : Bool) → modes Writing x ≡ t → t ≡ false
      go false e = refl
      go true e = absurd (true≢false (sym (there_self z.buffer at) ∙ each_window (λ e. overwrites_one spot e ≡ false) Writes z (chosen_true (λ e. overwrites_one spot e ≡ false) (modes Writing x) (window_entries Writes z) (none_overwrites spot writing parts) e) is at (cell_at_index z.sides at is seen)))

-- what is copied back is written or reduced
abbrev pub WritesAre : Callee → Modes → Type 0
WritesAre c modes = (x : ℕ) → c.writes x ≡ true → (modes Writing x || modes Reducing x) ≡ true

-- ---- the change of a call goes by its entries

module _ (w : ℕ → Bool) (modes : Modes) (writes_are : (x : ℕ) → w x ≡ true → (modes Writing x || modes Reducing x) ≡ true) (m : Change) where
  in_window : (x : ℕ) (cell : Cell) (z : Seen) (f : Change) (b : ℕ) (at : List ℤ) (v : Value) → stores (record { buffer = b; at = at }) (buffer_entries modes x cell (GivenView z)) ≡ false → (t : Bool) → w x ≡ t → one_change t (GivenView z) (m x) f b at v ≡ f b at v
  in_window x cell z f b at v h false e = refl
  in_window x cell z f b at v h true e = go (b == z.buffer) (eqb-true b z.buffer) (index_of z.sides at) refl
    where
      go : (t : Bool) → (t ≡ true → b ≡ z.buffer) → (o : Option (List ℤ)) → index_of z.sides at ≡ o → cond {A = Value → Value} t (seen_change o (m x) (f b at)) (f b at) v ≡ f b at v
      go false same o i = refl
      go true same None i = refl
      go true same (Some is) i =
          let k : stores (record { buffer = z.buffer; at = at }) (buffer_entries modes x cell (GivenView z)) ≡ false = ap (λ y. stores (record { buffer = y; at = at }) (buffer_entries modes x cell (GivenView z))) (sym (same refl)) ∙ h in
          absurd (true≢false (sym (writes_are x e) ∙ ap₂ (λ u v. u || v) (not_writing modes x cell z is at i k) (not_reducing modes x cell z is at i k)))

  call_idle : (ps : List Param) (gs : List Given) (f : Change) (b : ℕ) (at : List ℤ) (v : Value) → ArePairs ps gs → stores (record { buffer = b; at = at }) (all_entries modes ps gs) ≡ false → call_change w ps gs m f b at v ≡ f b at v
  call_idle [] gs f b at v pair h = refl
  call_idle (p ∷ ps) [] f b at v pair h = refl
  call_idle (p ∷ ps) (g ∷ gs) f b at v pair h =
      let q = stores_parts (record { buffer = b; at = at }) (param_entries modes p.binder.id p.kind g) (all_entries modes ps gs) h in
      call_idle ps gs (one_change (w p.binder.id) g (m p.binder.id) f) b at v pair.1 q.1 ∙ one p.kind g pair.0 q.0
    where
      same_number : (t : Bool) (n : ℤ) → one_change t (GivenNumber n) (m p.binder.id) f b at v ≡ f b at v
      same_number false n = refl
      same_number true n = refl

      one : (kind : ParamKind) (g : Given) → IsPair kind g → stores (record { buffer = b; at = at }) (param_entries modes p.binder.id kind g) ≡ false → one_change (w p.binder.id) g (m p.binder.id) f b at v ≡ f b at v
      one (ControlParam kind) (GivenNumber n) k h = same_number (w p.binder.id) n
      one (ControlParam kind) (GivenView z) k h = absurd k
      one (TensorParam cell dims memory) (GivenNumber n) k h = absurd k
      one (TensorParam cell dims memory) (GivenView z) k h = in_window p.binder.id cell z f b at v h (w p.binder.id) refl
      one (WindowParam cell dims memory) (GivenNumber n) k h = absurd k
      one (WindowParam cell dims memory) (GivenView z) k h = in_window p.binder.id cell z f b at v h (w p.binder.id) refl

  module _ (s : State) (b : ℕ) (at : List ℤ) (shape : Shape) (there : s.scene.buffers b ≡ Some shape) where
    -- in its own type, a parameter that is not written only adds
    abbrev Adds : ParamKind → ℕ → Given → Type 0
    Adds (ControlParam kind) x g = Unit {0}
    Adds (TensorParam cell dims memory) x (GivenNumber n) = Unit {0}
    Adds (TensorParam cell dims memory) x (GivenView z) = (modes Writing x ≡ false → (is : List ℤ) → IsSum cell (m x is)) × ((sh : Shape) → s.scene.buffers z.buffer ≡ Some sh → cell ≡ sh.cell)
    Adds (WindowParam cell dims memory) x (GivenNumber n) = Unit {0}
    Adds (WindowParam cell dims memory) x (GivenView z) = (modes Writing x ≡ false → (is : List ℤ) → IsSum cell (m x is)) × ((sh : Shape) → s.scene.buffers z.buffer ≡ Some sh → cell ≡ sh.cell)

    abbrev AllAdd : List Param → List Given → Type 0
    AllAdd [] gs = Unit {0}
    AllAdd (p ∷ ps) [] = Unit {0}
    AllAdd (p ∷ ps) (g ∷ gs) = Adds p.kind p.binder.id g × AllAdd ps gs

    sum_window : (x : ℕ) (cell : Cell) (z : Seen) (f : Change) → overwrites (record { buffer = b; at = at }) (buffer_entries modes x cell (GivenView z)) ≡ false → (modes Writing x ≡ false → (is : List ℤ) → IsSum cell (m x is)) → ((sh : Shape) → s.scene.buffers z.buffer ≡ Some sh → cell ≡ sh.cell) → IsSum shape.cell (f b at) → (t : Bool) → IsSum shape.cell (one_change t (GivenView z) (m x) f b at)
    sum_window x cell z f h sums ty k false = k
    sum_window x cell z f h sums ty k true = go (b == z.buffer) (eqb-true b z.buffer) (index_of z.sides at) refl
      where
        go : (t : Bool) → (t ≡ true → b ≡ z.buffer) → (o : Option (List ℤ)) → index_of z.sides at ≡ o → IsSum shape.cell (λ v. cond {A = Value → Value} t (seen_change o (m x) (f b at)) (f b at) v)
        go false same o i = k
        go true same None i = k
        go true same (Some is) i =
            let over : overwrites (record { buffer = z.buffer; at = at }) (buffer_entries modes x cell (GivenView z)) ≡ false = ap (λ y. overwrites (record { buffer = y; at = at }) (buffer_entries modes x cell (GivenView z))) (sym (same refl)) ∙ h in
            subst (λ y. IsSum y (m x is)) (ty shape (ap s.scene.buffers (sym (same refl)) ∙ there)) (sums (not_overwriting modes x cell z is at i over) is)

    call_sums : (ps : List Param) (gs : List Given) (f : Change) → ArePairs ps gs → AllAdd ps gs → overwrites (record { buffer = b; at = at }) (all_entries modes ps gs) ≡ false → IsSum shape.cell (f b at) → IsSum shape.cell (call_change w ps gs m f b at)
    call_sums [] gs f pair adds h k = k
    call_sums (p ∷ ps) [] f pair adds h k = k
    call_sums (p ∷ ps) (g ∷ gs) f pair adds h k =
        let q = overwrites_parts (record { buffer = b; at = at }) (param_entries modes p.binder.id p.kind g) (all_entries modes ps gs) h in
        call_sums ps gs (one_change (w p.binder.id) g (m p.binder.id) f) pair.1 adds.1 q.1 (one p.kind g pair.0 adds.0 q.0)
      where
        same_number : (t : Bool) (n : ℤ) → IsSum shape.cell (one_change t (GivenNumber n) (m p.binder.id) f b at)
        same_number false n = k
        same_number true n = k

        one : (kind : ParamKind) (g : Given) → IsPair kind g → Adds kind p.binder.id g → overwrites (record { buffer = b; at = at }) (param_entries modes p.binder.id kind g) ≡ false → IsSum shape.cell (one_change (w p.binder.id) g (m p.binder.id) f b at)
        one (ControlParam kind) (GivenNumber n) j a h = same_number (w p.binder.id) n
        one (ControlParam kind) (GivenView z) j a h = absurd j
        one (TensorParam cell dims memory) (GivenNumber n) j a h = absurd j
        one (TensorParam cell dims memory) (GivenView z) j a h = sum_window p.binder.id cell z f h a.0 a.1 k (w p.binder.id)
        one (WindowParam cell dims memory) (GivenNumber n) j a h = absurd j
        one (WindowParam cell dims memory) (GivenView z) j a h = sum_window p.binder.id cell z f h a.0 a.1 k (w p.binder.id)

-- ---- calls

module _ (kinds : ℕ → Kind) where
  -- a procedure changes the cells as its modes say
  abbrev pub ChangesWell : Callee → Modes → Type 0
  ChangesWell c modes = (world : World) (s : State) → world.kinds ≡ kinds → IsAdmissible world c.procedure s → IfSome (c.run s) (ModeChanges (scope_of [] c.procedure.params) modes s)

  module _ (fields : ℕ → Option Kind) (scope : Scope) (s : State) (sorted : IsSorted kinds scope s) where
    pairs : (ps : List Param) (gs : List Given) → AllMatch fields kinds scope s sorted ps gs → ArePairs ps gs
    pairs [] gs m = tt
    pairs (p ∷ ps) [] m = m
    pairs (p ∷ ps) (g ∷ gs) m = (one p.kind g m.0, pairs ps gs m.1)
      where
        one : (kind : ParamKind) (g : Given) → Matches fields kinds scope s sorted kind g → IsPair kind g
        one (ControlParam kind) (GivenNumber n) m = tt
        one (ControlParam kind) (GivenView z) m = m
        one (TensorParam cell dims memory) (GivenNumber n) m = m
        one (TensorParam cell dims memory) (GivenView z) m = tt
        one (WindowParam cell dims memory) (GivenNumber n) m = m
        one (WindowParam cell dims memory) (GivenView z) m = tt

    module _ (q : Procedure) (modes : Modes) (df : Differ q.params) (inner w : State) (arguments : AreArguments inner.scene q.params) (mc : ModeChanges (scope_of [] q.params) modes inner w) (b : ℕ) (at : List ℤ) (shape : Shape) (there : s.scene.buffers b ≡ Some shape) (writes : ℕ → Bool) (writes_are : (x : ℕ) → writes x ≡ true → (modes Writing x || modes Reducing x) ≡ true) where
      all_add : (ps : List Param) (gs : List Given) → ((x : ℕ) → is_buffer_of x ps ≡ true → is_buffer_of x q.params ≡ true) → AllMatch fields kinds scope s sorted ps gs → AreArguments inner.scene ps → AllAdd writes modes writes_are mc.change s b at shape there ps gs
      all_add [] gs sub m a = tt
      all_add (p ∷ ps) [] sub m a = tt
      all_add (p ∷ ps) (g ∷ gs) sub m a = (one p.kind g m.0 a.0, all_add ps gs (λ x k. sub x (or_right (x == p.binder.id) (is_buffer_of x ps) k)) m.1 a.1)
        where
          sums : (sh : Shape) → inner.scene.buffers p.binder.id ≡ Some sh → modes Writing p.binder.id ≡ false → (is : List ℤ) → IsSum sh.cell (mc.change p.binder.id is)
          sums sh e wr is =
              let f = found inner.scene q.params [] df arguments p.binder.id (sub p.binder.id (or_left (p.binder.id == p.binder.id) (is_buffer_of p.binder.id ps) (eq-eqb p.binder.id p.binder.id refl))) in
              mc.sums p.binder.id (param_sort f.0) f.2 wr sh e is

          one : (kind : ParamKind) (g : Given) → Matches fields kinds scope s sorted kind g → IsArgument inner.scene p.binder.id kind → Adds writes modes writes_are mc.change s b at shape there kind p.binder.id g
          one (ControlParam kind) g m a = tt
          one (TensorParam cell dims memory) (GivenNumber n) m a = tt
          one (TensorParam cell dims memory) (GivenView z) m a = (sums _ a.0, m.0)
          one (WindowParam cell dims memory) (GivenNumber n) m a = tt
          one (WindowParam cell dims memory) (GivenView z) m a = (sums _ a.1.0, m)

    module _ (sound : IsSound s) (memories : ℕ) (world : World) (same : world.kinds ≡ kinds) where
      call_changes : (c : Callee) (modes : Modes) → IsGood kinds fields memories c → ChangesWell c modes → WritesAre c modes → (root : ℕ → ℕ) (args : List Argument) → is_call fields scope root (Some c) args ≡ true → IfSome (call_to (Some c) args s) (λ t. IsTidy t → ChangesBy (entries_to (Some c) modes args s) s t)
      call_changes c modes good ch wr root args ok =
          if_where (λ t. IsTidy t → ChangesBy (entries_to (Some c) modes args s) s t) (keeps_apart c s.scene args) (copied_call c args s)
          (at_givens (all_given s.scene args) (all_match fields kinds scope s sorted c.procedure.params args (and_parts (are_for fields scope c.procedure.params args) _ ok).0) (all_there s args sound))
        where
          df : Differ c.procedure.params
          df = params_differ fields memories c.procedure.params [] good.0

          asserted : (inner : State) → (all_hold inner.scene c.procedure.asserts ≡ true → IsAdmissible world c.procedure inner) → IfSome (run_asserted c inner) (λ w. AreArguments inner.scene c.procedure.params × ModeChanges (scope_of [] c.procedure.params) modes inner w)
          asserted inner begins = go (all_hold inner.scene c.procedure.asserts) refl
            where
              go : (t : Bool) → all_hold inner.scene c.procedure.asserts ≡ t → IfSome (where_true t (c.run inner)) (λ w. AreArguments inner.scene c.procedure.params × ModeChanges (scope_of [] c.procedure.params) modes inner w)
              go false e = tt
              go true e = let a = begins e in if_weaken (ModeChanges (scope_of [] c.procedure.params) modes inner) (λ w. AreArguments inner.scene c.procedure.params × ModeChanges (scope_of [] c.procedure.params) modes inner w) (c.run inner) (ch world inner same a) (λ w z. (a.arguments, z))

          ends : (gs : List Given) → AllMatch fields kinds scope s sorted c.procedure.params gs → (inner w : State) → AreCopies s c.procedure.params gs inner.cells → AreArguments inner.scene c.procedure.params → ModeChanges (scope_of [] c.procedure.params) modes inner w → IsTidy (returned c gs s w) → ChangesBy (all_entries modes c.procedure.params gs) s (returned c gs s w)
          ends gs m inner w copies a mc tidy = record {
            change = call_change c.writes c.procedure.params gs mc.change (λ b at v. v);
            cells = ap (λ y. copied_back c.writes c.procedure.params gs y s.cells) mc.cells ∙ all_back s inner.cells mc.change c.writes c.procedure.params gs s.cells (λ b at v. v) (pairs c.procedure.params gs m) copies refl;
            idle = λ p h v. call_idle c.writes modes wr mc.change c.procedure.params gs (λ b at v. v) p.buffer p.at v (pairs c.procedure.params gs m) h;
            sums = λ p shape e h. call_sums c.writes modes wr mc.change s p.buffer p.at shape e c.procedure.params gs (λ b at v. v) (pairs c.procedure.params gs m) (all_add c.procedure modes df inner w a mc p.buffer p.at shape e c.writes wr c.procedure.params gs (λ x k. k) m a) h ([], λ v. refl);
            shapes = λ p h. refl;
            tidy = tidy;
          }

          at_givens : (o : Option (List Given)) → IfSome o (AllMatch fields kinds scope s sorted c.procedure.params) → IfSome o (AreThere s) → IfSome (then_do o (λ gs. then_do (entered c.procedure.params gs s) (λ inner. option_map (returned c gs s) (run_asserted c inner)))) (λ t. IsTidy t → ChangesBy (given_entries modes c.procedure.params o) s t)
          at_givens None m i = tt
          at_givens (Some gs) m i =
              let Begins = λ (inner : State). all_hold inner.scene c.procedure.asserts ≡ true → IsAdmissible world c.procedure inner in
              let Copies = λ (inner : State). AreCopies s c.procedure.params gs inner.cells in
              let Goal = λ (t : State). IsTidy t → ChangesBy (all_entries modes c.procedure.params gs) s t in
              if_then (λ (inner : State). Begins inner × Copies inner) Goal (entered c.procedure.params gs s) _
              (if_both Begins Copies (λ inner. Begins inner × Copies inner) (entered c.procedure.params gs s) (enters fields kinds scope s sorted sound memories world same c.procedure good.0 gs m i) (entered_copies s c.procedure.params gs df) (λ inner b k. (b, k)))
              (λ inner both. if_map (λ w. AreArguments inner.scene c.procedure.params × ModeChanges (scope_of [] c.procedure.params) modes inner w) Goal (run_asserted c inner) (returned c gs s) (asserted inner both.0) (λ w z tidy. ends gs m inner w both.1 z.0 z.1 tidy))

  -- ---- trees

  module _ (fields : ℕ → Option Kind) (agree : (f : ℕ) (k : Kind) → fields f ≡ Some k → kinds f ≡ k) (memories : ℕ) (world : World) (same : world.kinds ≡ kinds) (good : (k : ℕ) (c : Callee) → world.callees k ≡ Some c → IsGood kinds fields memories c) (modes : ℕ → Modes) (ch : (k : ℕ) (c : Callee) → world.callees k ≡ Some c → ChangesWell c (modes k) × WritesAre c (modes k)) where
    changes_further : (xs : List Entry) (s : State) (o : Option State) (g : State → Option State) (touch : State → List Entry) → IfSome o (ChangesBy xs s) → ((t : State) → o ≡ Some t → IfSome (g t) (ChangesBy (touch t) t)) → IfSome (then_do o g) (ChangesBy (xs ++ further o touch) s)
    changes_further xs s None g touch m k = tt
    changes_further xs s (Some t) g touch m k = if_weaken (ChangesBy (touch t) t) (ChangesBy (xs ++ touch t) s) (g t) (k t refl) (λ u n. changes_then xs (touch t) s t u m n)

    called : (o : Option Callee) (m : Modes) → ((c : Callee) → o ≡ Some c → IsGood kinds fields memories c) → ((c : Callee) → o ≡ Some c → ChangesWell c m × WritesAre c m) → (scope : Scope) (root : ℕ → ℕ) (args : List Argument) → is_call fields scope root o args ≡ true → (s : State) → IsSound s → IsSorted kinds scope s → IfSome (call_to o args s) (λ t. IsTidy t → ChangesBy (entries_to o m args s) s t)
    called None m g c scope root args ok s sound sorted = tt
    called (Some c) m g h scope root args ok s sound sorted = call_changes fields scope s sorted sound memories world same c m (g c refl) (h c refl).0 (h c refl).1 root args ok

    turns_change : (i : Binder) (body : State → Option State) (touch : State → List Entry) (scope : Scope) → is_new scope i ≡ true → ((t : State) → IsSound t → IsSorted kinds (with_name scope i (ControlName Index)) t → IfSome (body t) (Ends kinds t)) → ((t : State) → IsSound t → IsSorted kinds (with_name scope i (ControlName Index)) t → IfSome (body t) (ChangesBy (touch t) t)) → (ns : List ℤ) (s : State) → IsSound s → IsSorted kinds scope s → IfSome (turns (turn i.id body) ns s) (ChangesBy (turns_touch (turn i.id body) (λ n t. touch (on_scene (with_control i.id n) t)) ns s) s)
    turns_change i body touch scope new run_ok k [] s sound sorted = changes_none [] s s refl refl sound.tidy
    turns_change i body touch scope new run_ok k (n ∷ ns) s sound sorted =
        let t0 = on_scene (with_control i.id n) s in
        changes_further (touch t0) s (turn i.id body n s) (turns (turn i.id body) ns) (turns_touch (turn i.id body) (λ n t. touch (on_scene (with_control i.id n) t)) ns)
        (if_weaken (ScopedChanges (touch t0) s) (ChangesBy (touch t0) s) (turn i.id body n s) (scoped_changes (touch t0) body s t0 sound.tidy refl refl (k t0 (record { tidy = sound.tidy; seen = sound.seen }) (inside kinds scope i n s new sorted))) (λ t c. c.changes))
        (λ t e. turns_change i body touch scope new run_ok k ns t (if_gives IsSound (turn i.id body n s) t (turn_sound i.id body n s sound) e) (if_gives (Next kinds scope s) (turn i.id body n s) t (turn_next kinds fields agree memories world same good i body scope new run_ok n s sound sorted) e).sorted)

    mutual
      pub run_changes : (b : Block) (scope : Scope) (root : ℕ → ℕ) → is_block fields memories world.callees scope root b ≡ true → (s : State) → IsSound s → IsSorted kinds scope s → IfSome (run world b s) (ChangesBy (touched world modes b s) s)
      run_changes end scope root ok = λ s sound sorted. changes_none [] s s refl refl sound.tidy
      run_changes (next a b) scope root ok = λ s sound sorted.
          let p = and_parts (is_statement fields memories world.callees scope root a) _ ok in
          changes_further (step_footprint world (call_entries world.callees modes) a s) s (step world a s) (run world b) (touched world modes b) (step_changes a scope root p.0 s sound sorted) (λ t e.
          run_changes b _ _ p.1 t (if_gives IsSound (step world a s) t (step_sound world a s sound) e) (if_gives (Next kinds (scope_after a scope) s) (step world a s) t (step_next kinds fields agree memories world same good a scope root p.0 s sound sorted) e).sorted)

      step_changes : (a : Statement) (scope : Scope) (root : ℕ → ℕ) → is_statement fields memories world.callees scope root a ≡ true → (s : State) → IsSound s → IsSorted kinds scope s → IfSome (step world a s) (ChangesBy (step_footprint world (call_entries world.callees modes) a s) s)
      step_changes (Assign x is e) scope root ok = λ s sound sorted. assigned s sound.tidy (reads s.scene e) (place s.scene x is) (value s e)
      step_changes (Reduce x is e) scope root ok = λ s sound sorted. reduced_to s sound.tidy (reads s.scene e) (place s.scene x is) (value s e)
      step_changes (Config f a) scope root ok = λ s sound sorted.
          if_then (λ n. Unit {0}) (ChangesBy [] s) (argument_number s.scene a) _ (any (argument_number s.scene a)) (λ n u. if_where (ChangesBy [] s) (suits (world.kinds f) n) (Some (on_scene (with_field f n) s)) (changes_none [] s (on_scene (with_field f n) s) refl refl sound.tidy))
      step_changes Pass scope root ok = λ s sound sorted. changes_none [] s s refl refl sound.tidy
      step_changes (If c a b) scope root ok = λ s sound sorted.
          let p = and_parts (is_condition fields with_fields scope c) _ ok in
          let q = and_parts (not (is_empty a) && (is_short a && is_short b)) _ p.1 in
          let r = and_parts (is_block fields memories world.callees scope root a) (is_block fields memories world.callees scope root b) q.1 in
          let es = chosen (holds s.scene c) (touched world modes a s) (touched world modes b s) in
          if_weaken (ScopedChanges es s) (ChangesBy es s) (step world (If c a b) s) (scoped_changes es (choose (holds s.scene c) (run world a) (run world b)) s s sound.tidy refl refl (choose_changes (holds s.scene c) (run world a) (run world b) (touched world modes a s) (touched world modes b s) s (run_changes a scope root r.0 s sound sorted) (run_changes b scope root r.1 s sound sorted))) (λ t c. c.changes)
      step_changes (For i lo hi b) scope root ok = λ s sound sorted.
          let p = and_parts (is_new scope i) _ ok in
          let q = and_parts (is_control fields plainly scope lo && is_control fields plainly scope hi) _ p.1 in
          let r = and_parts (not (is_empty b) && is_short b) _ q.1 in
          turns_change i (run world b) (touched world modes b) scope p.0 (run_ends kinds fields agree memories world same good b (with_name scope i (ControlName Index)) root r.1) (run_changes b (with_name scope i (ControlName Index)) root r.1) (turns_of s.scene lo hi) s sound sorted
      step_changes (Alloc x cell dims memory) scope root ok = λ s sound sorted.
          if_where (ChangesBy (Made x.id ∷ []) s) (all_positive (numbers s.scene dims)) (Some (with_contents x.id (λ at. Undefined) (on_scene (with_buffer x.id (tensor cell (numbers s.scene dims))) s))) (made_changes s x.id (tensor cell (numbers s.scene dims)) sound.tidy)
      step_changes (View w x coords) scope root ok = λ s sound sorted. if_then (λ seen. Unit {0}) (ChangesBy [] s) (window s.scene x coords) _ (any (window s.scene x coords)) (λ seen u. changes_none [] s (on_scene (with_view w.id seen) s) refl refl sound.tidy)
      step_changes (Call k args) scope root ok = λ s sound sorted.
          let es = entries_to (world.callees k) (modes k) args s in
          if_both IsSound (λ t. IsTidy t → ChangesBy es s t) (ChangesBy es s) (call_to (world.callees k) args s) (step_sound world (Call k args) s sound) (called (world.callees k) (modes k) (good k) (ch k) scope root args ok s sound sorted) (λ t i c. c i.tidy)
