-- A run with calls exchanges with a change of cells that it does not see.
use Rattle.std.proofs.Common.{◌≡◌, ℕ, zero, suc, ℤ, pos, negsuc, ◌+ℤ◌, ◌<◌, arith, ◌==◌, Bool, true, false, true≢false, cond, not, ◌&&◌, ◌||◌, List, [], ◌∷◌, ◌++◌, map, length, Option, Some, None, IfSome, option_map, refl, sym, ap, ap₂, ◌∙◌, subst, eqb-true, eq-eqb}
use Rattle.std.proofs.Math.Path.{fun_ext}
use Rattle.std.proofs.lemmas.Int.{ints}
use Rattle.exo_tree.specs.Tree.{Binder, Cell, Kind, Index, Argument, Statement, Assign, Reduce, Config, Pass, If, For, Alloc, View, Call, Block, end, next, Param, ParamKind, ControlParam, TensorParam, WindowParam}
use Rattle.exo_meaning.specs.Value.{Value, Undefined}
use Rattle.exo_meaning.specs.Scene.{Side, Point, Range, Seen, Scene, then_do, where_true, numbers, holds, window, updated, cell_at, index_of, extents, strides_seen, is_below}
use Rattle.exo_meaning.specs.State.{State, Cells, Place, left, same_index, on_scene, with_control, with_contents, with_buffer}
use Rattle.exo_meaning.specs.Calls.{keeps_apart, copied_call, Callee, Given, GivenNumber, GivenView, all_given, all_positive, held_at, contents, copy_in, bind_numbers, bind_buffer, bind_buffers, bare, entered, value_or, copy_back, copied_back, returned, all_hold, run_asserted}
use Rattle.exo_meaning.specs.Run.{World, run, step, call_to, turn, turns, turns_of, choose, argument_number, tensor, range, count}
use Rattle.exo_meaning.specs.Inputs.{IsAdmissible, IsArgument, AreArguments, is_buffer_of}
use Rattle.exo_meaning.specs.Footprint.{Entry, Reads, Writes, Reduces, Made, further, chosen, turns_touch, step_footprint, Change, under, changed_by, Passes, LeavesOthers, Exchanges, added}
use Rattle.exo_meaning.specs.Orders.{Each}
use Rattle.exo_meaning.specs.Units.{Sort, ControlName, BufferName, Scope, sort_in, is_new, with_name, with_fields, plainly, is_control, is_condition, are_for, is_call, scope_after, is_empty, is_short, is_block, is_statement, param_sort, scope_of}
use Rattle.exo_meaning.proofs.Frame.{if_map, any, or_parts}
use Rattle.exo_meaning.proofs.Windows.{where_parts, cell_at_index}
use Rattle.exo_meaning.proofs.Deltas.{each_append, exchange_then, exchange_where, each_further, assign_exchanges, reduce_exchanges, others_later, made_exchanges, configure_exchanges, view_exchanges, choose_exchanges, scoped_exchanges, Grows, step_grows}
use Rattle.meaning_laws.specs.Sound.{IsSound}
use Rattle.meaning_laws.specs.Sorted.{IsSorted, Ends}
use Rattle.meaning_laws.specs.Touched.{IsCovered, Reading, Writing, Reducing, Modes, crossed, cells_of, window_entries, buffer_entries, param_entries, all_entries, given_entries, entries_to, call_entries, touched}
use Rattle.meaning_laws.proofs.Parts.{none_some, some_injective, map_gives}
use Rattle.meaning_laws.proofs.Names.{if_gives}
use Rattle.meaning_laws.proofs.Substitute.{and_parts}
use Rattle.meaning_laws.proofs.Sound.{AreThere, all_there, step_sound, turn_sound}
use Rattle.meaning_laws.proofs.FirstState.{Differ, params_differ, Matches, AllMatch, all_match, enters}
use Rattle.meaning_laws.proofs.Sorted.{Next, IsGood, step_next, run_ends, inside, turn_next, scope_else}
use Rattle.meaning_laws.proofs.Covered.{or_left, or_right}

-- ---- the cells that a name sees are listed

pub unmap : {T U : Type 0} (P : U → Type 0) (f : T → U) (xs : List T) → Each P (map f xs) → Each (λ x. P (f x)) xs
unmap P f [] h = tt
unmap P f (x ∷ xs) h = (h.0, unmap P f xs h.1)

crossed_range : (P : List ℤ → Type 0) (ats : List (List ℤ)) (lo : ℤ) (m k : ℕ) → k < m → Each P (crossed (range lo m) ats) → Each (λ at. P ((lo +ℤ pos k) ∷ at)) ats
crossed_range P ats lo zero k l h = absurd (none l)
  where
    none : k < 0 → ⊥
    none l = omega arith
crossed_range P ats lo (suc m) zero l h =
    let e : lo ≡ lo +ℤ pos 0 = omega (arith, ints) in
    subst (λ j. Each (λ at. P (j ∷ at)) ats) e (unmap P (λ at. lo ∷ at) ats (each_append P (map (λ at. lo ∷ at) ats) (crossed (range (lo +ℤ pos 1) m) ats) h).0)
crossed_range P ats lo (suc m) (suc k) l h =
    let less : k < m = omega arith in
    let e : (lo +ℤ pos 1) +ℤ pos k ≡ lo +ℤ pos (suc k) = omega (arith, ints) in
    subst (λ j. Each (λ at. P (j ∷ at)) ats) e (crossed_range P ats (lo +ℤ pos 1) m k less (each_append P (map (λ at. lo ∷ at) ats) (crossed (range (lo +ℤ pos 1) m) ats) h).1)

-- a number below an extent, as a natural number below its count
below_count : (i n : ℤ) → is_below i n ≡ true → (k : ℕ) × (i ≡ pos k) × (k < count n)
below_count (pos k) (pos n) h = (k, refl, less k n h)
  where
    less : (k n : ℕ) → is_below (pos k) (pos n) ≡ true → k < n
    less k n h = grind (arith, ints)
below_count (pos k) (negsuc n) h = absurd (no k n h)
  where
    no : (k n : ℕ) → is_below (pos k) (negsuc n) ≡ true → ⊥
    no k n h = grind (arith, ints)
below_count (negsuc k) n h = absurd (no k n h)
  where
    no : (k : ℕ) (n : ℤ) → is_below (negsuc k) n ≡ true → ⊥
    no k n h = grind (arith, ints)

pub each_cell : (P : List ℤ → Type 0) (sides : List Side) → Each P (cells_of sides) → (is at : List ℤ) → cell_at sides is ≡ Some at → P at
each_cell P [] h [] at e = subst P (some_injective [] at e) h.0
each_cell P [] h (i ∷ is) at e = absurd (none_some e)
each_cell P (Point p ∷ sides) h is at e =
    let m = map_gives (cell_at sides is) (λ at. p ∷ at) at e in
    subst P m.2 (each_cell (λ at. P (p ∷ at)) sides (unmap P (λ at. p ∷ at) (cells_of sides) (each_append P (map (λ at. p ∷ at) (cells_of sides)) [] h).0) is m.0 m.1)
each_cell P (Range lo n ∷ sides) h [] at e = absurd (none_some e)
each_cell P (Range lo n ∷ sides) h (i ∷ is) at e =
    let w = where_parts (is_below i n) (option_map (λ at. (lo +ℤ i) ∷ at) (cell_at sides is)) at e in
    let m = map_gives (cell_at sides is) (λ at. (lo +ℤ i) ∷ at) at w.1 in
    let k = below_count i n w.0 in
    let there : Each (λ at. P ((lo +ℤ i) ∷ at)) (cells_of sides) = subst (λ j. Each (λ at. P ((lo +ℤ j) ∷ at)) (cells_of sides)) (sym k.1) (crossed_range P (cells_of sides) lo (count n) k.0 k.2 h) in
    subst P m.2 (each_cell (λ at. P ((lo +ℤ i) ∷ at)) sides there is m.0 m.1)

pub each_window : (P : Entry → Type 0) (f : Place → Entry) (z : Seen) → Each P (window_entries f z) → (is at : List ℤ) → cell_at z.sides is ≡ Some at → P (f (record { buffer = z.buffer; at = at }))
each_window P f z h is at e = each_cell (λ at. P (f (record { buffer = z.buffer; at = at }))) z.sides (unmap P (λ at. f (record { buffer = z.buffer; at = at })) (cells_of z.sides) h) is at e

-- ---- what the body may not see

-- identity where the body reads, writes or makes, and exchanging with additions where it reduces
pub record Obeys (outer : Scope) (all : Modes) (D : Change) : Type 0 where
  pub idle : (x : ℕ) → sort_in outer x ≡ None → (at : List ℤ) (v : Value) → D x at v ≡ v
  pub read : (x : ℕ) → all Reading x ≡ true → (at : List ℤ) (v : Value) → D x at v ≡ v
  pub write : (x : ℕ) → all Writing x ≡ true → (at : List ℤ) (v : Value) → D x at v ≡ v
  pub add : (x : ℕ) (cell : Cell) (r : ℕ) (f : Bool) → sort_in outer x ≡ Some (BufferName cell r f) → all Reducing x ≡ true → (at : List ℤ) (u v : Value) → D x at (added cell u v) ≡ added cell u (D x at v)

covered_passes : (outer : Scope) (all : Modes) (D : Change) → Obeys outer all D → (e : Entry) → IsCovered outer all e → Passes D e
covered_passes outer all D o (Reads q) c = o.read q.buffer c q.at
covered_passes outer all D o (Writes q) c = o.write q.buffer c q.at
covered_passes outer all D o (Made x) c = o.idle x c
covered_passes outer all D o (Reduces cell q) c = go (sort_in outer q.buffer) refl
  where
    go : (s : Option Sort) → sort_in outer q.buffer ≡ s → Passes D (Reduces cell q)
    go None e = λ u v. o.idle q.buffer e q.at (added cell u v) ∙ ap (added cell u) (sym (o.idle q.buffer e q.at v))
    go (Some sort) e = λ u v. let z = c.1 sort e in o.add q.buffer cell z.0 z.1 (e ∙ ap Some z.2) c.0 q.at u v

pub all_pass : (outer : Scope) (all : Modes) (D : Change) → Obeys outer all D → (es : List Entry) → Each (IsCovered outer all) es → Each (Passes D) es
all_pass outer all D o [] h = tt
all_pass outer all D o (e ∷ es) h = (covered_passes outer all D o e h.0, all_pass outer all D o es h.1)

-- ---- the change seen through a window

module _ (d : Change) where
  abbrev pub at_seen : ℕ → Option (List ℤ) → Value → Value
  at_seen b None v = v
  at_seen b (Some at) v = d b at v

  -- the change of the copy of a window
  abbrev pub through : Given → List ℤ → Value → Value
  through (GivenNumber n) is v = v
  through (GivenView z) is v = at_seen z.buffer (cell_at z.sides is) v

  abbrev pub through_kind : ParamKind → Given → List ℤ → Value → Value
  through_kind (ControlParam kind) g is v = v
  through_kind (TensorParam cell dims memory) g is v = through g is v
  through_kind (WindowParam cell dims memory) g is v = through g is v

  abbrev pub inner_change : List Param → List Given → Change
  inner_change [] gs x is v = v
  inner_change (p ∷ ps) [] x is v = v
  inner_change (p ∷ ps) (g ∷ gs) x is v = cond {A = List ℤ → Value → Value} (x == p.binder.id) (through_kind p.kind g) (inner_change ps gs x) is v

  -- the change of each copy is that of its window
  abbrev pub AllThrough : Change → List Param → List Given → Type 0
  AllThrough D [] gs = Unit {0}
  AllThrough D (p ∷ ps) [] = Unit {0}
  AllThrough D (p ∷ ps) (g ∷ gs) = (D p.binder.id ≡ through_kind p.kind g) × AllThrough D ps gs

  all_through : (D : Change) (ps : List Param) (gs : List Given) → Differ ps → ((x : ℕ) → is_buffer_of x ps ≡ true → D x ≡ inner_change ps gs x) → AllThrough D ps gs
  all_through D [] gs df h = tt
  all_through D (p ∷ ps) [] df h = tt
  all_through D (p ∷ ps) (g ∷ gs) df h = (
    h p.binder.id (ap (λ t. t || is_buffer_of p.binder.id ps) self) ∙ ap (λ t. cond {A = List ℤ → Value → Value} t (through_kind p.kind g) (inner_change ps gs p.binder.id)) self,
    all_through D ps gs df.1 (λ x k. h x (or_later x k) ∙ other x k (x == p.binder.id) (eqb-true x p.binder.id)),
  )
    where
      self : (p.binder.id == p.binder.id) ≡ true
      self = eq-eqb p.binder.id p.binder.id refl

      or_later : (x : ℕ) → is_buffer_of x ps ≡ true → ((x == p.binder.id) || is_buffer_of x ps) ≡ true
      or_later x k = or_right (x == p.binder.id) (is_buffer_of x ps) k

      other : (x : ℕ) → is_buffer_of x ps ≡ true → (t : Bool) → (t ≡ true → x ≡ p.binder.id) → cond {A = List ℤ → Value → Value} t (through_kind p.kind g) (inner_change ps gs x) ≡ inner_change ps gs x
      other x k false same = refl
      other x k true same = absurd (true≢false (sym k ∙ ap (λ y. is_buffer_of y ps) (same refl) ∙ df.0))

  -- ---- from the entries of a call

  chosen_true : (t : Bool) (es : List Entry) → Each (Passes d) (chosen t es []) → t ≡ true → Each (Passes d) es
  chosen_true true es h e = h
  chosen_true false es h e = absurd (true≢false (sym e))

  module _ (modes : Modes) (x : ℕ) (cell : Cell) (z : Seen) (h : Each (Passes d) (buffer_entries modes x cell (GivenView z))) where
    parts : Each (Passes d) (chosen (modes Reading x) (window_entries Reads z) []) × (Each (Passes d) (chosen (modes Writing x) (window_entries Writes z) []) × Each (Passes d) (chosen (modes Reducing x) (window_entries (Reduces cell) z) []))
    parts =
        let p = each_append (Passes d) (chosen (modes Reading x) (window_entries Reads z) []) (chosen (modes Writing x) (window_entries Writes z) [] ++ chosen (modes Reducing x) (window_entries (Reduces cell) z) []) h in
        (p.0, each_append (Passes d) (chosen (modes Writing x) (window_entries Writes z) []) (chosen (modes Reducing x) (window_entries (Reduces cell) z) []) p.1)

    seen_read : modes Reading x ≡ true → (is : List ℤ) (v : Value) → through (GivenView z) is v ≡ v
    seen_read e is v = go (cell_at z.sides is) refl
      where
        go : (o : Option (List ℤ)) → cell_at z.sides is ≡ o → at_seen z.buffer o v ≡ v
        go None k = refl
        go (Some at) k = each_window (Passes d) Reads z (chosen_true (modes Reading x) (window_entries Reads z) parts.0 e) is at k v

    seen_written : modes Writing x ≡ true → (is : List ℤ) (v : Value) → through (GivenView z) is v ≡ v
    seen_written e is v = go (cell_at z.sides is) refl
      where
        go : (o : Option (List ℤ)) → cell_at z.sides is ≡ o → at_seen z.buffer o v ≡ v
        go None k = refl
        go (Some at) k = each_window (Passes d) Writes z (chosen_true (modes Writing x) (window_entries Writes z) parts.1.0 e) is at k v

    seen_added : modes Reducing x ≡ true → (is : List ℤ) (u v : Value) → through (GivenView z) is (added cell u v) ≡ added cell u (through (GivenView z) is v)
    seen_added e is u v = go (cell_at z.sides is) refl
      where
        go : (o : Option (List ℤ)) → cell_at z.sides is ≡ o → at_seen z.buffer o (added cell u v) ≡ added cell u (at_seen z.buffer o v)
        go None k = refl
        go (Some at) k = each_window (Passes d) (Reduces cell) z (chosen_true (modes Reducing x) (window_entries (Reduces cell) z) parts.1.1 e) is at k u v

  -- one parameter
  record OneObeys (modes : Modes) (x : ℕ) (kind : ParamKind) (D : List ℤ → Value → Value) : Type 0 where
    read : modes Reading x ≡ true → (at : List ℤ) (v : Value) → D at v ≡ v
    write : modes Writing x ≡ true → (at : List ℤ) (v : Value) → D at v ≡ v
    add : (cell : Cell) (r : ℕ) (f : Bool) → param_sort kind ≡ BufferName cell r f → modes Reducing x ≡ true → (at : List ℤ) (u v : Value) → D at (added cell u v) ≡ added cell u (D at v)

  nothing_obeys : (modes : Modes) (x : ℕ) (kind : ParamKind) → OneObeys modes x kind (λ at v. v)
  nothing_obeys modes x kind = record { read = λ e at v. refl; write = λ e at v. refl; add = λ cell r f k e at u v. refl }

  sort_cell : (a : Cell) (n : ℕ) (b : Bool) (cell : Cell) (r : ℕ) (f : Bool) → BufferName a n b ≡ BufferName cell r f → a ≡ cell
  sort_cell a n b cell r f e = cc

  one_obeys : (modes : Modes) (x : ℕ) (kind : ParamKind) (g : Given) → Each (Passes d) (param_entries modes x kind g) → OneObeys modes x kind (through_kind kind g)
  one_obeys modes x (ControlParam k) g h = nothing_obeys modes x (ControlParam k)
  one_obeys modes x (TensorParam cell dims memory) (GivenNumber n) h = nothing_obeys modes x (TensorParam cell dims memory)
  one_obeys modes x (TensorParam cell dims memory) (GivenView z) h = record {
    read = λ e at v. seen_read modes x cell z h e at v;
    write = λ e at v. seen_written modes x cell z h e at v;
    add = λ c r f k e at u v. subst (λ y. through (GivenView z) at (added y u v) ≡ added y u (through (GivenView z) at v)) (sort_cell cell (length dims) true c r f k) (seen_added modes x cell z h e at u v);
  }
  one_obeys modes x (WindowParam cell dims memory) (GivenNumber n) h = nothing_obeys modes x (WindowParam cell dims memory)
  one_obeys modes x (WindowParam cell dims memory) (GivenView z) h = record {
    read = λ e at v. seen_read modes x cell z h e at v;
    write = λ e at v. seen_written modes x cell z h e at v;
    add = λ c r f k e at u v. subst (λ y. through (GivenView z) at (added y u v) ≡ added y u (through (GivenView z) at v)) (sort_cell cell (length dims) false c r f k) (seen_added modes x cell z h e at u v);
  }

  -- a given for each parameter
  abbrev pub Paired : List Param → List Given → Type 0
  Paired [] gs = Unit {0}
  Paired (p ∷ ps) [] = ⊥
  Paired (p ∷ ps) (g ∷ gs) = Paired ps gs

  pub not_param : (ps : List Param) (gs : List Given) (x : ℕ) → is_buffer_of x ps ≡ false → inner_change ps gs x ≡ (λ at v. v)
  not_param [] gs x h = refl
  not_param (p ∷ ps) [] x h = refl
  not_param (p ∷ ps) (g ∷ gs) x h =
      let q = or_parts (x == p.binder.id) (is_buffer_of x ps) h in
      ap (λ t. cond {A = List ℤ → Value → Value} t (through_kind p.kind g) (inner_change ps gs x)) q.0 ∙ not_param ps gs x q.1

  -- a parameter is in scope by its kind, and its change obeys its modes
  obeys_at : (modes : Modes) (ps : List Param) (gs : List Given) (scope : Scope) → Differ ps → Paired ps gs → Each (Passes d) (all_entries modes ps gs) → (x : ℕ) → is_buffer_of x ps ≡ true → (kind : ParamKind) × (sort_in (scope_of scope ps) x ≡ Some (param_sort kind)) × OneObeys modes x kind (inner_change ps gs x)
  obeys_at modes [] gs scope df pair h x k = absurd (true≢false (sym k))
  obeys_at modes (p ∷ ps) [] scope df pair h x k = absurd pair
  obeys_at modes (p ∷ ps) (g ∷ gs) scope df pair h x k =
      let q = each_append (Passes d) (param_entries modes p.binder.id p.kind g) (all_entries modes ps gs) h in
      go q.0 (obeys_at modes ps gs (with_name scope p.binder (param_sort p.kind)) df.1 pair q.1 x) (x == p.binder.id) (eqb-true x p.binder.id) refl k
    where
      go : Each (Passes d) (param_entries modes p.binder.id p.kind g) → (is_buffer_of x ps ≡ true → (kind : ParamKind) × (sort_in (scope_of (with_name scope p.binder (param_sort p.kind)) ps) x ≡ Some (param_sort kind)) × OneObeys modes x kind (inner_change ps gs x)) → (t : Bool) → (t ≡ true → x ≡ p.binder.id) → (x == p.binder.id) ≡ t → (t || is_buffer_of x ps) ≡ true → (kind : ParamKind) × (sort_in (scope_of (with_name scope p.binder (param_sort p.kind)) ps) x ≡ Some (param_sort kind)) × OneObeys modes x kind (cond {A = List ℤ → Value → Value} t (through_kind p.kind g) (inner_change ps gs x))
      go now below true same e k = (p.kind, scope_else ps (with_name scope p.binder (param_sort p.kind)) x (ap (λ y. is_buffer_of y ps) (same refl) ∙ df.0) ∙ ap (λ t. cond t (Some (param_sort p.kind)) (sort_in scope x)) e, subst (λ y. OneObeys modes y p.kind (through_kind p.kind g)) (sym (same refl)) (one_obeys modes p.binder.id p.kind g now))
      go now below false same e k = below k

  pub inner_obeys : (modes : Modes) (ps : List Param) (gs : List Given) → Differ ps → Paired ps gs → Each (Passes d) (all_entries modes ps gs) → Obeys (scope_of [] ps) modes (inner_change ps gs)
  inner_obeys modes ps gs df pair h = record {
    idle = λ x e at v. idle x e at v (is_buffer_of x ps) refl;
    read = λ x e at v. read x e at v (is_buffer_of x ps) refl;
    write = λ x e at v. write x e at v (is_buffer_of x ps) refl;
    add = λ x cell r f e k at u v. add x cell r f e k at u v (is_buffer_of x ps) refl;
  }
    where
      elsewhere : (x : ℕ) → is_buffer_of x ps ≡ false → (at : List ℤ) (v : Value) → inner_change ps gs x at v ≡ v
      elsewhere x k at v = ap (λ (f : List ℤ → Value → Value). f at v) (not_param ps gs x k)

      sort_is : (a b : Sort) → Some a ≡ Some b → a ≡ b
      sort_is a b e = cc

      idle : (x : ℕ) → sort_in (scope_of [] ps) x ≡ None → (at : List ℤ) (v : Value) (t : Bool) → is_buffer_of x ps ≡ t → inner_change ps gs x at v ≡ v
      idle x e at v false k = elsewhere x k at v
      idle x e at v true k = absurd (none_some (sym e ∙ (obeys_at modes ps gs [] df pair h x k).1))

      read : (x : ℕ) → modes Reading x ≡ true → (at : List ℤ) (v : Value) (t : Bool) → is_buffer_of x ps ≡ t → inner_change ps gs x at v ≡ v
      read x e at v false k = elsewhere x k at v
      read x e at v true k = (obeys_at modes ps gs [] df pair h x k).2.read e at v

      write : (x : ℕ) → modes Writing x ≡ true → (at : List ℤ) (v : Value) (t : Bool) → is_buffer_of x ps ≡ t → inner_change ps gs x at v ≡ v
      write x e at v false k = elsewhere x k at v
      write x e at v true k = (obeys_at modes ps gs [] df pair h x k).2.write e at v

      add : (x : ℕ) (cell : Cell) (r : ℕ) (f : Bool) → sort_in (scope_of [] ps) x ≡ Some (BufferName cell r f) → modes Reducing x ≡ true → (at : List ℤ) (u v : Value) (t : Bool) → is_buffer_of x ps ≡ t → inner_change ps gs x at (added cell u v) ≡ added cell u (inner_change ps gs x at v)
      add x cell r f e k at u v false j = elsewhere x j at (added cell u v) ∙ ap (added cell u) (sym (elsewhere x j at v))
      add x cell r f e k at u v true j = let z = obeys_at modes ps gs [] df pair h x j in z.2.add cell r f (sort_is (param_sort z.0) (BufferName cell r f) (sym z.1 ∙ e)) k at u v

  -- buffers that are not there stay undefined
  inner_leaves : (scene : Scene) (ps : List Param) (gs : List Given) → AreArguments scene ps → LeavesOthers (inner_change ps gs) scene
  inner_leaves scene [] gs a x e at = refl
  inner_leaves scene (p ∷ ps) [] a x e at = refl
  inner_leaves scene (p ∷ ps) (g ∷ gs) a x e at = go (inner_leaves scene ps gs a.1 x e at) (x == p.binder.id) (eqb-true x p.binder.id)
    where
      by_kind : (kind : ParamKind) → IsArgument scene p.binder.id kind → scene.buffers p.binder.id ≡ None → through_kind kind g at Undefined ≡ Undefined
      by_kind (ControlParam kind) a k = refl
      by_kind (TensorParam cell dims memory) a k = absurd (none_some (sym k ∙ a.0))
      by_kind (WindowParam cell dims memory) a k = absurd (none_some (sym k ∙ a.1.0))

      go : inner_change ps gs x at Undefined ≡ Undefined → (t : Bool) → (t ≡ true → x ≡ p.binder.id) → cond {A = List ℤ → Value → Value} t (through_kind p.kind g) (inner_change ps gs x) at Undefined ≡ Undefined
      go below true same = by_kind p.kind a.0 (ap scene.buffers (sym (same refl)) ∙ e)
      go below false same = below

  -- ---- the way in

  contents_through : (c : Cells) (z : Seen) → contents (under d c) z ≡ (λ is. through (GivenView z) is (contents c z is))
  contents_through c z = fun_ext (λ is. go (cell_at z.sides is))
    where
      go : (o : Option (List ℤ)) → held_at (under d c z.buffer) o ≡ at_seen z.buffer o (held_at (c z.buffer) o)
      go None = refl
      go (Some at) = refl

  module _ (s : State) (D : Change) where
    -- the cells of a state while the parameters of the list are not bound yet: elsewhere they are changed
    record Agree (ps : List Param) (t : State) (c : Cells) : Type 0 where
      bound : (b : ℕ) → is_buffer_of b ps ≡ false → c b ≡ (λ at. D b at (t.cells b at))
      open_yet : (b : ℕ) → is_buffer_of b ps ≡ true → c b ≡ t.cells b

    copied_agree : (p : Param) (ps : List Param) (f : List ℤ → Value) (t : State) (c : Cells) (scene : Scene) → is_buffer_of p.binder.id ps ≡ false → Agree (p ∷ ps) t c → Agree ps (record { scene = scene; cells = updated t.cells p.binder.id f }) (updated c p.binder.id (λ at. D p.binder.id at (f at)))
    copied_agree p ps f t c scene df h = record { bound = λ b e. bound b e (b == p.binder.id) (eqb-true b p.binder.id) refl; open_yet = λ b e. open_yet b e (b == p.binder.id) (eqb-true b p.binder.id) }
      where
        bound : (b : ℕ) → is_buffer_of b ps ≡ false → (t' : Bool) → (t' ≡ true → b ≡ p.binder.id) → (b == p.binder.id) ≡ t' → cond {A = List ℤ → Value} t' (λ at. D p.binder.id at (f at)) (c b) ≡ (λ at. D b at (cond {A = List ℤ → Value} t' f (t.cells b) at))
        bound b e true same k = ap {B = List ℤ → Value} (λ (y : ℕ) (at : List ℤ). D y at (f at)) (sym (same refl))
        bound b e false same k = h.bound b (ap₂ (λ u v. u || v) k e)

        open_yet : (b : ℕ) → is_buffer_of b ps ≡ true → (t' : Bool) → (t' ≡ true → b ≡ p.binder.id) → cond {A = List ℤ → Value} t' (λ at. D p.binder.id at (f at)) (c b) ≡ cond {A = List ℤ → Value} t' f (t.cells b)
        open_yet b e true same = absurd (true≢false (sym e ∙ ap (λ y. is_buffer_of y ps) (same refl) ∙ df))
        open_yet b e false same = h.open_yet b (or_right (b == p.binder.id) (is_buffer_of b ps) e)

    number_agree : (p : Param) (ps : List Param) (t : State) (c : Cells) → is_buffer_of p.binder.id ps ≡ false → D p.binder.id ≡ (λ at v. v) → Agree (p ∷ ps) t c → Agree ps t c
    number_agree p ps t c df idle h = record { bound = λ b e. bound b e (b == p.binder.id) (eqb-true b p.binder.id) refl; open_yet = λ b e. h.open_yet b (or_right (b == p.binder.id) (is_buffer_of b ps) e) }
      where
        bound : (b : ℕ) → is_buffer_of b ps ≡ false → (t' : Bool) → (t' ≡ true → b ≡ p.binder.id) → (b == p.binder.id) ≡ t' → c b ≡ (λ at. D b at (t.cells b at))
        bound b e true same k = h.open_yet b (or_left (b == p.binder.id) (is_buffer_of b ps) k) ∙ ap {B = List ℤ → Value} (λ (g : List ℤ → Value → Value) (at : List ℤ). g at (t.cells b at)) (sym (ap D (same refl) ∙ idle))
        bound b e false same k = h.bound b (ap₂ (λ u v. u || v) k e)

    -- one copy
    copied_in : (p : Param) (ps : List Param) (cell : Cell) (ds : List ℤ) (g : Given) (gs : List Given) (t : State) (c : Cells) → D p.binder.id ≡ through g → is_buffer_of p.binder.id ps ≡ false → Agree (p ∷ ps) t c → ((u : State) (e : Cells) → Agree ps u e → bind_buffers (changed_by d s) ps gs (record { scene = u.scene; cells = e }) ≡ option_map (changed_by D) (bind_buffers s ps gs u)) → then_do (copy_in (changed_by d s) p.binder.id cell ds g (record { scene = t.scene; cells = c })) (bind_buffers (changed_by d s) ps gs) ≡ option_map (changed_by D) (then_do (copy_in s p.binder.id cell ds g t) (bind_buffers s ps gs))
    copied_in p ps cell ds (GivenNumber n) gs t c e df h more = refl
    copied_in p ps cell ds (GivenView z) gs t c e df h more = go (same_index ds (extents z.sides) && all_positive ds)
      where
        copy_is : contents (under d s.cells) z ≡ (λ is. D p.binder.id is (contents s.cells z is))
        copy_is = contents_through s.cells z ∙ ap {B = List ℤ → Value} (λ (f : List ℤ → Value → Value) (is : List ℤ). f is (contents s.cells z is)) (sym e)

        go : (test : Bool) → then_do (where_true test (Some (with_contents p.binder.id (contents (under d s.cells) z) (on_scene (with_buffer p.binder.id (record { cell = cell; dims = ds; strides = strides_seen s.scene z })) (record { scene = t.scene; cells = c }))))) (bind_buffers (changed_by d s) ps gs) ≡ option_map (changed_by D) (then_do (where_true test (Some (with_contents p.binder.id (contents s.cells z) (on_scene (with_buffer p.binder.id (record { cell = cell; dims = ds; strides = strides_seen s.scene z })) t)))) (bind_buffers s ps gs))
        go false = refl
        go true =
            let made = with_buffer p.binder.id (record { cell = cell; dims = ds; strides = strides_seen s.scene z }) t.scene in
            ap (λ f. bind_buffers (changed_by d s) ps gs (record { scene = made; cells = updated c p.binder.id f })) copy_is
            ∙ more (record { scene = made; cells = updated t.cells p.binder.id (contents s.cells z) }) (updated c p.binder.id (λ is. D p.binder.id is (contents s.cells z is))) (copied_agree p ps (contents s.cells z) t c made df h)

    all_bound_in : (ps : List Param) (gs : List Given) (t : State) (c : Cells) → Differ ps → Paired ps gs → AllThrough D ps gs → Agree ps t c → bind_buffers (changed_by d s) ps gs (record { scene = t.scene; cells = c }) ≡ option_map (changed_by D) (bind_buffers s ps gs t)
    all_bound_in [] gs t c df pair h a = ap (λ e. Some (record { scene = t.scene; cells = e })) (fun_ext (λ b. a.bound b refl))
    all_bound_in (p ∷ ps) [] t c df pair h a = absurd pair
    all_bound_in (p ∷ ps) (g ∷ gs) t c df pair h a = one p.kind (λ u e k. all_bound_in ps gs u e df.1 pair h.1 k) h.0
      where
        one : (kind : ParamKind) → ((u : State) (e : Cells) → Agree ps u e → bind_buffers (changed_by d s) ps gs (record { scene = u.scene; cells = e }) ≡ option_map (changed_by D) (bind_buffers s ps gs u)) → D p.binder.id ≡ through_kind kind g → then_do (bind_buffer (changed_by d s) p.binder.id kind g (record { scene = t.scene; cells = c })) (bind_buffers (changed_by d s) ps gs) ≡ option_map (changed_by D) (then_do (bind_buffer s p.binder.id kind g t) (bind_buffers s ps gs))
        one (ControlParam kind) more e = more t c (number_agree p ps t c df.0 e a)
        one (TensorParam cell dims memory) more e = copied_in p ps cell (numbers t.scene dims) g gs t c e df.0 a more
        one (WindowParam cell dims memory) more e = copied_in p ps cell (numbers t.scene dims) g gs t c e df.0 a more

    enters_changed : (ps : List Param) (gs : List Given) → Differ ps → Paired ps gs → AllThrough D ps gs → ((x : ℕ) → is_buffer_of x ps ≡ false → D x ≡ (λ at v. v)) → entered ps gs (changed_by d s) ≡ option_map (changed_by D) (entered ps gs s)
    enters_changed ps gs df pair h idle = go (bind_numbers ps gs (λ x. pos 0))
      where
        go : (o : Option (ℕ → ℤ)) → then_do o (λ control. bind_buffers (changed_by d s) ps gs (bare control s.scene.fields)) ≡ option_map (changed_by D) (then_do o (λ control. bind_buffers s ps gs (bare control s.scene.fields)))
        go None = refl
        go (Some c) = all_bound_in ps gs (bare c s.scene.fields) (λ b at. Undefined) df pair h (record { bound = λ b e. ap {B = List ℤ → Value} (λ (f : List ℤ → Value → Value) (at : List ℤ). f at Undefined) (sym (idle b e)); open_yet = λ b e. refl })

  -- ---- the way back

  back_changed : (t : Bool) (g : Given) (f : List ℤ → Value) (c : Cells) → copy_back t g (λ is. through g is (f is)) (under d c) ≡ under d (copy_back t g f c)
  back_changed false g f c = refl
  back_changed true (GivenNumber n) f c = refl
  back_changed true (GivenView z) f c = fun_ext (λ b. fun_ext (λ at. go b at (b == z.buffer) (eqb-true b z.buffer) (index_of z.sides at) refl))
    where
      go : (b : ℕ) (at : List ℤ) (t : Bool) → (t ≡ true → b ≡ z.buffer) → (o : Option (List ℤ)) → index_of z.sides at ≡ o → cond t (value_or o (λ is. at_seen z.buffer (cell_at z.sides is) (f is)) (d b at (c b at))) (d b at (c b at)) ≡ d b at (cond t (value_or o f (c b at)) (c b at))
      go b at false same o k = refl
      go b at true same None k = refl
      go b at true same (Some is) k = ap (λ q. at_seen z.buffer q (f is)) (cell_at_index z.sides at is k) ∙ ap (λ y. d y at (f is)) (sym (same refl))

  -- numbers come where no buffer is asked
  abbrev pub Fitting : List Param → List Given → Type 0
  Fitting [] gs = Unit {0}
  Fitting (p ∷ ps) [] = Unit {0}
  Fitting (p ∷ ps) (g ∷ gs) = (through_kind p.kind g ≡ through g) × Fitting ps gs

  all_back_changed : (D : Change) (w : ℕ → Bool) (ps : List Param) (gs : List Given) (copies c : Cells) → AllThrough D ps gs → Fitting ps gs → copied_back w ps gs (under D copies) (under d c) ≡ under d (copied_back w ps gs copies c)
  all_back_changed D w [] gs copies c h k = refl
  all_back_changed D w (p ∷ ps) [] copies c h k = refl
  all_back_changed D w (p ∷ ps) (g ∷ gs) copies c h k =
      ap (copied_back w ps gs (under D copies)) (ap (λ (f : List ℤ → Value → Value). copy_back (w p.binder.id) g (λ is. f is (copies p.binder.id is)) (under d c)) (h.0 ∙ k.0) ∙ back_changed (w p.binder.id) g (copies p.binder.id) c)
      ∙ all_back_changed D w ps gs copies (copy_back (w p.binder.id) g (copies p.binder.id) c) h.1 k.1

-- ---- calls

module _ (kinds : ℕ → Kind) where
  -- a procedure exchanges with each change that obeys its modes
  abbrev pub ExchangesWell : Callee → Modes → Type 0
  ExchangesWell c modes = (world : World) (s : State) → world.kinds ≡ kinds → IsAdmissible world c.procedure s → (D : Change) → Obeys (scope_of [] c.procedure.params) modes D → LeavesOthers D s.scene → Exchanges D c.run s

  module _ (fields : ℕ → Option Kind) (scope : Scope) (s : State) (sorted : IsSorted kinds scope s) where
    pub paired : (d : Change) (ps : List Param) (gs : List Given) → AllMatch fields kinds scope s sorted ps gs → Paired d ps gs
    paired d [] gs m = tt
    paired d (p ∷ ps) [] m = m
    paired d (p ∷ ps) (g ∷ gs) m = paired d ps gs m.1

    fitting : (d : Change) (ps : List Param) (gs : List Given) → AllMatch fields kinds scope s sorted ps gs → Fitting d ps gs
    fitting d [] gs m = tt
    fitting d (p ∷ ps) [] m = tt
    fitting d (p ∷ ps) (g ∷ gs) m = (one p.kind g m.0, fitting d ps gs m.1)
      where
        one : (kind : ParamKind) (g : Given) → Matches fields kinds scope s sorted kind g → through_kind d kind g ≡ through d g
        one (ControlParam kind) (GivenNumber n) m = refl
        one (ControlParam kind) (GivenView z) m = absurd m
        one (TensorParam cell dims memory) g m = refl
        one (WindowParam cell dims memory) g m = refl

    module _ (sound : IsSound s) (memories : ℕ) (world : World) (same : world.kinds ≡ kinds) (d : Change) where
      call_exchanges : (c : Callee) (modes : Modes) → IsGood kinds fields memories c → ExchangesWell c modes → (root : ℕ → ℕ) (args : List Argument) → is_call fields scope root (Some c) args ≡ true → Each (Passes d) (entries_to (Some c) modes args s) → Exchanges d (call_to (Some c) args) s
      call_exchanges c modes good ex root args ok h =
          exchange_where d (keeps_apart c s.scene args) _ (copied_call c args s) (at_givens (all_given s.scene args) h (all_match fields kinds scope s sorted c.procedure.params args (and_parts (are_for fields scope c.procedure.params args) _ ok).0) (all_there s args sound))
        where
          df : Differ c.procedure.params
          df = params_differ fields memories c.procedure.params [] good.0

          at_end : (gs : List Given) → AllMatch fields kinds scope s sorted c.procedure.params gs → (o : Option State) → option_map (returned c gs (changed_by d s)) (option_map (changed_by (inner_change d c.procedure.params gs)) o) ≡ option_map (changed_by d) (option_map (returned c gs s) o)
          at_end gs m None = refl
          at_end gs m (Some w) = ap (λ e. Some (record { scene = record s.scene { fields = w.scene.fields }; cells = e })) (all_back_changed d (inner_change d c.procedure.params gs) c.writes c.procedure.params gs w.cells s.cells (all_through d (inner_change d c.procedure.params gs) c.procedure.params gs df (λ x k. refl)) (fitting d c.procedure.params gs m))

          asserted : (gs : List Given) (inner : State) → AllMatch fields kinds scope s sorted c.procedure.params gs → Each (Passes d) (all_entries modes c.procedure.params gs) → (all_hold inner.scene c.procedure.asserts ≡ true → IsAdmissible world c.procedure inner) → run_asserted c (changed_by (inner_change d c.procedure.params gs) inner) ≡ option_map (changed_by (inner_change d c.procedure.params gs)) (run_asserted c inner)
          asserted gs inner m h begins = go (all_hold inner.scene c.procedure.asserts) refl
            where
              go : (t : Bool) → all_hold inner.scene c.procedure.asserts ≡ t → where_true t (c.run (changed_by (inner_change d c.procedure.params gs) inner)) ≡ option_map (changed_by (inner_change d c.procedure.params gs)) (where_true t (c.run inner))
              go false e = refl
              go true e =
                  let a = begins e in
                  ex world inner same a (inner_change d c.procedure.params gs) (inner_obeys d modes c.procedure.params gs df (paired d c.procedure.params gs m) h) (inner_leaves d inner.scene c.procedure.params gs a.arguments)

          at_entered : (gs : List Given) → AllMatch fields kinds scope s sorted c.procedure.params gs → Each (Passes d) (all_entries modes c.procedure.params gs) → (o : Option State) → IfSome o (λ inner. all_hold inner.scene c.procedure.asserts ≡ true → IsAdmissible world c.procedure inner) → then_do (option_map (changed_by (inner_change d c.procedure.params gs)) o) (λ inner. option_map (returned c gs (changed_by d s)) (run_asserted c inner)) ≡ option_map (changed_by d) (then_do o (λ inner. option_map (returned c gs s) (run_asserted c inner)))
          at_entered gs m h None b = refl
          at_entered gs m h (Some inner) b = ap (option_map (returned c gs (changed_by d s))) (asserted gs inner m h b) ∙ at_end gs m (run_asserted c inner)

          at_givens : (o : Option (List Given)) → Each (Passes d) (given_entries modes c.procedure.params o) → IfSome o (AllMatch fields kinds scope s sorted c.procedure.params) → IfSome o (AreThere s) → then_do o (λ gs. then_do (entered c.procedure.params gs (changed_by d s)) (λ inner. option_map (returned c gs (changed_by d s)) (run_asserted c inner))) ≡ option_map (changed_by d) (then_do o (λ gs. then_do (entered c.procedure.params gs s) (λ inner. option_map (returned c gs s) (run_asserted c inner))))
          at_givens None h m i = refl
          at_givens (Some gs) h m i =
              ap (λ o. then_do o (λ inner. option_map (returned c gs (changed_by d s)) (run_asserted c inner))) (enters_changed d s (inner_change d c.procedure.params gs) c.procedure.params gs df (paired d c.procedure.params gs m) (all_through d (inner_change d c.procedure.params gs) c.procedure.params gs df (λ x k. refl)) (not_param d c.procedure.params gs))
              ∙ at_entered gs m h (entered c.procedure.params gs s) (enters fields kinds scope s sorted sound memories world same c.procedure good.0 gs m i)

  -- ---- trees

  module _ (fields : ℕ → Option Kind) (agree : (f : ℕ) (k : Kind) → fields f ≡ Some k → kinds f ≡ k) (memories : ℕ) (world : World) (same : world.kinds ≡ kinds) (good : (k : ℕ) (c : Callee) → world.callees k ≡ Some c → IsGood kinds fields memories c) (modes : ℕ → Modes) (ex : (k : ℕ) (c : Callee) → world.callees k ≡ Some c → ExchangesWell c (modes k)) (d : Change) where
    call_to_exchanges : (o : Option Callee) (m : Modes) → ((c : Callee) → o ≡ Some c → IsGood kinds fields memories c) → ((c : Callee) → o ≡ Some c → ExchangesWell c m) → (scope : Scope) (root : ℕ → ℕ) (args : List Argument) → is_call fields scope root o args ≡ true → (s : State) → IsSound s → IsSorted kinds scope s → Each (Passes d) (entries_to o m args s) → Exchanges d (call_to o args) s
    call_to_exchanges None m g x scope root args ok s sound sorted h = refl
    call_to_exchanges (Some c) m g x scope root args ok s sound sorted h = call_exchanges fields scope s sorted sound memories world same d c m (g c refl) (x c refl) root args ok h

    turns_exchange : (i : Binder) (body : State → Option State) (touch : State → List Entry) (scope : Scope) → is_new scope i ≡ true → ((t : State) → IsSound t → IsSorted kinds (with_name scope i (ControlName Index)) t → IfSome (body t) (Ends kinds t)) → ((t : State) → IsSound t → IsSorted kinds (with_name scope i (ControlName Index)) t → LeavesOthers d t.scene → Each (Passes d) (touch t) → Exchanges d body t) → (ns : List ℤ) (s : State) → IsSound s → IsSorted kinds scope s → LeavesOthers d s.scene → Each (Passes d) (turns_touch (turn i.id body) (λ n t. touch (on_scene (with_control i.id n) t)) ns s) → Exchanges d (turns (turn i.id body) ns) s
    turns_exchange i body touch scope new run_ok k [] s sound sorted l h = refl
    turns_exchange i body touch scope new run_ok k (n ∷ ns) s sound sorted l h =
        let t0 = on_scene (with_control i.id n) s in
        let parts = each_append (Passes d) (touch t0) (further (turn i.id body n s) (turns_touch (turn i.id body) (λ n t. touch (on_scene (with_control i.id n) t)) ns)) h in
        exchange_then d (turn i.id body n) (turns (turn i.id body) ns) s (scoped_exchanges d body s t0 l (k t0 (record { tidy = sound.tidy; seen = sound.seen }) (inside kinds scope i n s new sorted) l parts.0)) (λ t e.
        turns_exchange i body touch scope new run_ok k ns t
        (if_gives IsSound (turn i.id body n s) t (turn_sound i.id body n s sound) e)
        (if_gives (Next kinds scope s) (turn i.id body n s) t (turn_next kinds fields agree memories world same good i body scope new run_ok n s sound sorted) e).sorted
        (others_later d s (turn i.id body n s) l (if_map (λ t. Unit {0}) (Grows s) (body t0) (left s) (any (body t0)) (λ t u x e. e)) t e)
        (each_further d (Passes d) (turn i.id body n s) (turns_touch (turn i.id body) (λ n t. touch (on_scene (with_control i.id n) t)) ns) parts.1 t e))

    mutual
      pub run_exchanges : (b : Block) (scope : Scope) (root : ℕ → ℕ) → is_block fields memories world.callees scope root b ≡ true → (s : State) → IsSound s → IsSorted kinds scope s → LeavesOthers d s.scene → Each (Passes d) (touched world modes b s) → Exchanges d (run world b) s
      run_exchanges end scope root ok = λ s sound sorted l h. refl
      run_exchanges (next a b) scope root ok = λ s sound sorted l h.
          let p = and_parts (is_statement fields memories world.callees scope root a) _ ok in
          let parts = each_append (Passes d) (step_footprint world (call_entries world.callees modes) a s) (further (step world a s) (touched world modes b)) h in
          exchange_then d (step world a) (run world b) s (step_exchanges a scope root p.0 s sound sorted l parts.0) (λ t e.
          run_exchanges b _ _ p.1 t (if_gives IsSound (step world a s) t (step_sound world a s sound) e) (if_gives (Next kinds (scope_after a scope) s) (step world a s) t (step_next kinds fields agree memories world same good a scope root p.0 s sound sorted) e).sorted (others_later d s (step world a s) l (step_grows world a s) t e) (each_further d (Passes d) (step world a s) (touched world modes b) parts.1 t e))

      step_exchanges : (a : Statement) (scope : Scope) (root : ℕ → ℕ) → is_statement fields memories world.callees scope root a ≡ true → (s : State) → IsSound s → IsSorted kinds scope s → LeavesOthers d s.scene → Each (Passes d) (step_footprint world (call_entries world.callees modes) a s) → Exchanges d (step world a) s
      step_exchanges (Assign x is e) scope root ok = λ s sound sorted l h. assign_exchanges d x is e s h
      step_exchanges (Reduce x is e) scope root ok = λ s sound sorted l h. reduce_exchanges d x is e s h
      step_exchanges (Config f a) scope root ok = λ s sound sorted l h. configure_exchanges d world f s (argument_number s.scene a)
      step_exchanges Pass scope root ok = λ s sound sorted l h. refl
      step_exchanges (If c a b) scope root ok = λ s sound sorted l h.
          let p = and_parts (is_condition fields with_fields scope c) _ ok in
          let q = and_parts (not (is_empty a) && (is_short a && is_short b)) _ p.1 in
          let r = and_parts (is_block fields memories world.callees scope root a) (is_block fields memories world.callees scope root b) q.1 in
          scoped_exchanges d (choose (holds s.scene c) (run world a) (run world b)) s s l (choose_exchanges d (holds s.scene c) (run world a) (run world b) (touched world modes a s) (touched world modes b s) s (run_exchanges a scope root r.0 s sound sorted l) (run_exchanges b scope root r.1 s sound sorted l) h)
      step_exchanges (For i lo hi b) scope root ok = λ s sound sorted l h.
          let p = and_parts (is_new scope i) _ ok in
          let q = and_parts (is_control fields plainly scope lo && is_control fields plainly scope hi) _ p.1 in
          let r = and_parts (not (is_empty b) && is_short b) _ q.1 in
          turns_exchange i (run world b) (touched world modes b) scope p.0 (run_ends kinds fields agree memories world same good b (with_name scope i (ControlName Index)) root r.1) (run_exchanges b (with_name scope i (ControlName Index)) root r.1) (turns_of s.scene lo hi) s sound sorted l h
      step_exchanges (Alloc x cell dims memory) scope root ok = λ s sound sorted l h.
          exchange_where d (all_positive (numbers s.scene dims)) _ (Some (with_contents x.id (λ at. Undefined) (on_scene (with_buffer x.id (tensor cell (numbers s.scene dims))) s))) (ap (λ c. Some (record { scene = with_buffer x.id (tensor cell (numbers s.scene dims)) s.scene; cells = c })) (made_exchanges d x.id s.cells h.0))
      step_exchanges (View w x coords) scope root ok = λ s sound sorted l h. view_exchanges d w.id s (window s.scene x coords)
      step_exchanges (Call k args) scope root ok = λ s sound sorted l h. call_to_exchanges (world.callees k) (modes k) (good k) (ex k) scope root args ok s sound sorted h
