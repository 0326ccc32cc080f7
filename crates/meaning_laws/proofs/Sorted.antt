-- In a well-formed unit runs keep what cells, fields and names hold.
use Rattle.std.proofs.Common.{◌≡◌, ℕ, zero, suc, ℤ, ◌+ℤ◌, ◌==◌, Bool, true, false, true≢false, cond, not, ◌&&◌, ◌||◌, List, [], ◌∷◌, ◌++◌, length, Option, Some, None, IfSome, option_map, refl, sym, ap, ◌∙◌, subst, eqb-true, eq-eqb}
use Rattle.std.specs.Prelude.{IsSome, slice_get}
use Rattle.exo_tree.specs.Tree.{Binder, Cell, Kind, Index, Coord, Argument, Statement, Assign, Reduce, Config, Pass, If, For, Alloc, View, Call, Block, end, next, Param, ParamKind, ControlParam, TensorParam, WindowParam, Procedure, ConfigField}
use Rattle.exo_tree.specs.Context.{Context, Here, After, InLoop, InThen, InElse, fill}
use Rattle.exo_meaning.specs.Value.{Value, Undefined, Number, on_two, stored_as}
use Rattle.exo_meaning.proofs.Wrap.{wrap_laws}
use Rattle.exo_meaning.specs.Scene.{Shape, Seen, Scene, where_true, then_do, numbers, holds, window, narrowed, whole, index_of}
use Rattle.exo_meaning.specs.State.{State, Cells, Place, place, is_there, put, value, kept, left, on_scene, with_control, with_field, with_view, with_contents, with_buffer}
use Rattle.exo_meaning.specs.Calls.{keeps_apart, copied_call, Callee, Given, GivenNumber, GivenView, all_given, entered, returned, run_asserted, all_hold, suits, all_positive, copy_back, copied_back, value_or}
use Rattle.exo_meaning.specs.Run.{World, run, step, call_to, turn, turns, turns_of, choose, argument_number, tensor, row_major, roots_after, world_of, callees, callee_in, kinds_of, unit_world}
use Rattle.exo_meaning.specs.Inputs.{IsAdmissible, IsOfKind, FitsCell, IsBuffer, IsArgument, AreArguments, is_buffer_of}
use Rattle.exo_meaning.specs.Units.{Sort, ControlName, BufferName, Scope, sort_in, is_new, with_name, has_rank, with_strides, with_fields, plainly, is_control, is_condition, is_window, are_for, is_call, is_write, view_sort, scope_after, is_empty, is_short, is_block, is_statement, spans, param_sort, are_params, scope_of, field_kind, IsProcedure, AreProcedures}
use Rattle.exo_meaning.proofs.Cells.{there_is}
use Rattle.exo_meaning.proofs.Frame.{if_then, if_map, if_where, any, if_weaken, or_parts, here}
use Rattle.meaning_laws.specs.Context.{ComesToTurn, now, later, ComesTo}
use Rattle.meaning_laws.specs.Sound.{IsSound}
use Rattle.meaning_laws.specs.Sorted.{CellsFit, FieldsFit, Sees, IsSorted, Ends, FitLaw, FitsAtLaw, scope_at}
use Rattle.meaning_laws.proofs.Parts.{none_some, some_injective, then_gives, map_gives}
use Rattle.meaning_laws.proofs.Names.{if_gives}
use Rattle.meaning_laws.proofs.Substitute.{and_parts}
use Rattle.meaning_laws.proofs.Sound.{AreThere, all_there, step_sound, turn_sound}
use Rattle.meaning_laws.proofs.Copies.{if_both, admissible_sound}
use Rattle.meaning_laws.proofs.FirstState.{new_is_none, Differ, params_differ, number_of_kind, HasType, Matches, AllMatch, all_match, enters}

stored_fits : (cell : Cell) (v : Value) → FitsCell cell (stored_as cell v)
stored_fits cell Undefined = tt
stored_fits cell (Number n) = wrap_laws.twice cell n

-- a new name is none that is in scope
pub is_other : (scope : Scope) (x : Binder) → is_new scope x ≡ true → (y : ℕ) (sort : Sort) → sort_in scope y ≡ Some sort → (y == x.id) ≡ false
is_other scope x new y sort e = go (y == x.id) (eqb-true y x.id)
  where
    go : (t : Bool) → (t ≡ true → y ≡ x.id) → t ≡ false
    go true same = absurd (none_some (sym (new_is_none scope x new) ∙ ap (sort_in scope) (sym (same refl)) ∙ e))
    go false same = refl

module _ (kinds : ℕ → Kind) where
  abbrev Kept : State → State → Type 0
  Kept s t = (b : ℕ) (shape : Shape) → s.scene.buffers b ≡ Some shape → t.scene.buffers b ≡ Some shape

  -- after a statement
  pub record Next (scope : Scope) (s t : State) : Type 0 where
    pub sorted : IsSorted kinds scope t
    pub kept_buffers : Kept s t

  next_self : (scope : Scope) (s : State) → IsSorted kinds scope s → Next scope s s
  next_self scope s h = record { sorted = h; kept_buffers = λ b shape e. e }

  pub ends_of : (scope : Scope) (s t : State) → IsSorted kinds scope t → Ends kinds t t
  ends_of scope s t h = record { kept = λ b shape e. e; cells = h.cells; fields = h.fields }

  pub left_next : (scope : Scope) (s t : State) → IsSorted kinds scope s → Kept s t → CellsFit t → FieldsFit kinds t → Next scope s (left s t)
  left_next scope s t h k fit fields = record {
    sorted = record {
      buffers = h.buffers;
      views = h.views;
      cells = λ b shape e at. subst (λ o. FitsCell shape.cell (kept o (t.cells b) at)) (sym e) (fit b shape (k b shape e) at);
      fields = fields;
    };
    kept_buffers = λ b shape e. e;
  }

  -- ---- stores

  put_next : (scope : Scope) (s : State) (f : Value → Value) (p : Place) → IsSorted kinds scope s → IfSome (put s f p) (Next scope s)
  put_next scope s f p h = if_map (λ shape. s.scene.buffers p.buffer ≡ Some shape) (Next scope s) (s.scene.buffers p.buffer) _ (here (s.scene.buffers p.buffer)) (λ shape e. record {
    sorted = record { buffers = h.buffers; views = h.views; cells = λ b sh k at. go shape e b sh at k (is_there p b at) (there_is p b at); fields = h.fields };
    kept_buffers = λ b sh k. k;
  })
    where
      go : (shape : Shape) → s.scene.buffers p.buffer ≡ Some shape → (b : ℕ) (sh : Shape) (at : List ℤ) → s.scene.buffers b ≡ Some sh → (t : Bool) → (t ≡ true → (b ≡ p.buffer) × (at ≡ p.at)) → FitsCell sh.cell (cond t (stored_as shape.cell (f (s.cells b at))) (s.cells b at))
      go shape e b sh at k false there = h.cells b sh k at
      go shape e b sh at k true there = subst (λ (z : Shape). FitsCell z.cell (stored_as shape.cell (f (s.cells b at)))) (some_injective shape sh (sym e ∙ ap s.scene.buffers (sym (there refl).0) ∙ k)) (stored_fits shape.cell (f (s.cells b at)))

  store_next : (scope : Scope) (s : State) (o : Option Place) (r : Option Value) (f : Value → Value → Value) → IsSorted kinds scope s → IfSome (then_do o (λ p. then_do r (λ v. put s (f v) p))) (Next scope s)
  store_next scope s o r f h = if_then (λ p. Unit {0}) (Next scope s) o _ (any o) (λ p u. if_then (λ v. Unit {0}) (Next scope s) r _ (any r) (λ v w. put_next scope s (f v) p h))

  -- ---- names

  made_next : (scope : Scope) (x : Binder) (cell : Cell) (rank : ℕ) (dims : List ℤ) (s : State) → is_new scope x ≡ true → IsSound s → IsSorted kinds scope s → Next (with_name scope x (BufferName cell rank true)) s (with_contents x.id (λ at. Undefined) (on_scene (with_buffer x.id (tensor cell dims)) s))
  made_next scope x cell rank dims s new sound h = record {
    sorted = record {
      buffers = λ b shape e. buffer b shape (b == x.id) refl e;
      views = λ y c r dense seen sort v shape e. seen_by y c r dense seen shape (y == x.id) (seen.buffer == x.id) refl (eqb-true seen.buffer x.id) sort v e;
      cells = λ b shape e at. fits b shape at (b == x.id) e;
      fields = h.fields;
    };
    kept_buffers = λ b shape e. let z = h.buffers b shape e in ap (λ t. cond t (Some (tensor cell dims)) (s.scene.buffers b)) (is_other scope x new b _ z.2) ∙ e;
  }
    where
      buffer : (b : ℕ) (shape : Shape) (t : Bool) → (b == x.id) ≡ t → cond t (Some (tensor cell dims)) (s.scene.buffers b) ≡ Some shape → (r : ℕ) × (dense : Bool) × (cond (b == x.id) (Some (BufferName cell rank true)) (sort_in scope b) ≡ Some (BufferName shape.cell r dense))
      buffer b shape true k e = (rank, true, ap (λ t. cond t (Some (BufferName cell rank true)) (sort_in scope b)) k ∙ ap (λ (z : Shape). Some (BufferName z.cell rank true)) (some_injective (tensor cell dims) shape e))
      buffer b shape false k e = let z = h.buffers b shape e in (z.0, z.1, ap (λ t. cond t (Some (BufferName cell rank true)) (sort_in scope b)) k ∙ z.2)

      cell_of : (c : Cell) (r : ℕ) (d : Bool) (e : Cell) (q : ℕ) (f : Bool) → Some (BufferName c r d) ≡ Some (BufferName e q f) → e ≡ c
      cell_of c r d e q f k = cc

      seen_by : (y : ℕ) (c : Cell) (r : ℕ) (dense : Bool) (seen : Seen) (shape : Shape) (t q : Bool) → (seen.buffer == x.id) ≡ q → (q ≡ true → seen.buffer ≡ x.id) → cond t (Some (BufferName cell rank true)) (sort_in scope y) ≡ Some (BufferName c r dense) → cond t (Some (record { buffer = x.id; sides = whole dims })) (s.scene.views y) ≡ Some seen → cond q (Some (tensor cell dims)) (s.scene.buffers seen.buffer) ≡ Some shape → Sees c dense seen shape
      seen_by y c r dense seen shape true true k same sort v e =
          let is_shape = some_injective (tensor cell dims) shape e in
          let is_seen = some_injective (record { buffer = x.id; sides = whole dims }) seen v in
          record {
            cell_is = cell_of cell rank true c r dense sort ∙ ap (λ (z : Shape). z.cell) is_shape;
            all = λ d. (ap (λ (z : Seen). z.sides) (sym is_seen) ∙ ap (λ (z : Shape). whole z.dims) is_shape, ap (λ (z : Shape). z.strides) (sym is_shape) ∙ ap (λ (z : Shape). row_major z.dims) is_shape);
          }
      seen_by y c r dense seen shape true false k same sort v e = absurd (true≢false (sym (eq-eqb seen.buffer x.id (ap (λ (z : Seen). z.buffer) (sym (some_injective (record { buffer = x.id; sides = whole dims }) seen v)))) ∙ k))
      seen_by y c r dense seen shape false true k same sort v e = absurd (old (s.scene.buffers seen.buffer) refl (sound.seen y seen v))
        where
          old : (o : Option Shape) → s.scene.buffers seen.buffer ≡ o → IsSome o → ⊥
          old None b i = true≢false (sym i)
          old (Some z) b i = true≢false (sym k ∙ is_other scope x new seen.buffer _ (h.buffers seen.buffer z b).2)
      seen_by y c r dense seen shape false false k same sort v e = h.views y c r dense seen sort v shape e

      fits : (b : ℕ) (shape : Shape) (at : List ℤ) (t : Bool) → cond t (Some (tensor cell dims)) (s.scene.buffers b) ≡ Some shape → FitsCell shape.cell (cond {A = List ℤ → Value} t (λ at. Undefined) (s.cells b) at)
      fits b shape at true e = tt
      fits b shape at false e = h.cells b shape e at

  viewed_next : (scope : Scope) (w : Binder) (x : ℕ) (coords : List Coord) (rank : ℕ) (s : State) → is_new scope w ≡ true → has_rank (length coords) (sort_in scope x) ≡ true → IsSorted kinds scope s → (seen : Seen) → window s.scene x coords ≡ Some seen → Next (with_name scope w (view_sort (sort_in scope x) rank)) s (on_scene (with_view w.id seen) s)
  viewed_next scope w x coords rank s new has h seen e = record {
    sorted = record {
      buffers = λ b shape k. let z = h.buffers b shape k in (z.0, z.1, ap (λ t. cond t (Some (view_sort (sort_in scope x) rank)) (sort_in scope b)) (is_other scope w new b _ z.2) ∙ z.2);
      views = λ y c r dense z sort v shape b. by_name y c r dense z shape (y == w.id) sort v b;
      cells = h.cells;
      fields = h.fields;
    };
    kept_buffers = λ b shape k. k;
  }
    where
      view_is : (o : Option Sort) → sort_in scope x ≡ o → has_rank (length coords) o ≡ true → (c : Cell) (r : ℕ) (dense : Bool) (z : Seen) (shape : Shape) → Some (view_sort o rank) ≡ Some (BufferName c r dense) → seen ≡ z → s.scene.buffers z.buffer ≡ Some shape → Sees c dense z shape
      view_is None k i c r dense z shape sort same b = absurd (true≢false (sym i))
      view_is (Some (ControlName kind)) k i c r dense z shape sort same b = absurd (true≢false (sym i))
      view_is (Some (BufferName d q f)) k i c r dense z shape sort same b =
          let p = then_gives (s.scene.views x) (λ seen. option_map (λ sides. record { buffer = seen.buffer; sides = sides }) (narrowed s.scene seen.sides coords)) seen e in
          let m = map_gives (narrowed s.scene p.0.sides coords) (λ sides. record { buffer = p.0.buffer; sides = sides }) seen p.2 in
          let root : s.scene.buffers p.0.buffer ≡ Some shape = ap (λ (y : Seen). s.scene.buffers y.buffer) (m.2 ∙ same) ∙ b in
          record { cell_is = cells_are d rank c r dense sort ∙ (h.views x d q f p.0 k p.1 shape root).cell_is; all = λ t. absurd (true≢false (sym t ∙ not_dense d rank c r dense sort)) }
        where
          cells_are : (d : Cell) (n : ℕ) (c : Cell) (r : ℕ) (dense : Bool) → Some (BufferName d n false) ≡ Some (BufferName c r dense) → c ≡ d
          cells_are d n c r dense k = cc

          not_dense : (d : Cell) (n : ℕ) (c : Cell) (r : ℕ) (dense : Bool) → Some (BufferName d n false) ≡ Some (BufferName c r dense) → dense ≡ false
          not_dense d n c r dense k = cc

      by_name : (y : ℕ) (c : Cell) (r : ℕ) (dense : Bool) (z : Seen) (shape : Shape) (t : Bool) → cond t (Some (view_sort (sort_in scope x) rank)) (sort_in scope y) ≡ Some (BufferName c r dense) → cond t (Some seen) (s.scene.views y) ≡ Some z → s.scene.buffers z.buffer ≡ Some shape → Sees c dense z shape
      by_name y c r dense z shape true sort v b = view_is (sort_in scope x) refl has c r dense z shape sort (some_injective seen z v) b
      by_name y c r dense z shape false sort v b = h.views y c r dense z sort v shape b

  pub inside : (scope : Scope) (i : Binder) (n : ℤ) (s : State) → is_new scope i ≡ true → IsSorted kinds scope s → IsSorted kinds (with_name scope i (ControlName Index)) (on_scene (with_control i.id n) s)
  inside scope i n s new h = record {
    buffers = λ b shape k. let z = h.buffers b shape k in (z.0, z.1, ap (λ t. cond t (Some (ControlName Index)) (sort_in scope b)) (is_other scope i new b _ z.2) ∙ z.2);
    views = λ y c r dense z sort v shape b. go y c r dense z shape (y == i.id) sort v b;
    cells = h.cells;
    fields = h.fields;
  }
    where
      no_buffer : (c : Cell) (r : ℕ) (dense : Bool) → Some (ControlName Index) ≡ Some (BufferName c r dense) → ⊥
      no_buffer c r dense e = cc

      go : (y : ℕ) (c : Cell) (r : ℕ) (dense : Bool) (z : Seen) (shape : Shape) (t : Bool) → cond t (Some (ControlName Index)) (sort_in scope y) ≡ Some (BufferName c r dense) → s.scene.views y ≡ Some z → s.scene.buffers z.buffer ≡ Some shape → Sees c dense z shape
      go y c r dense z shape true sort v b = absurd (no_buffer c r dense sort)
      go y c r dense z shape false sort v b = h.views y c r dense z sort v shape b

  -- ---- admissible inputs

  -- what a procedure does from each admissible input
  abbrev pub IsGood : (ℕ → Option Kind) → ℕ → Callee → Type 0
  IsGood fields memories c = (are_params fields memories [] c.procedure.params ≡ true) × ((world : World) (s : State) → world.kinds ≡ kinds → IsAdmissible world c.procedure s → IfSome (c.run s) (Ends kinds s))

  -- ---- the way back of a call

  module _ (fields : ℕ → Option Kind) (scope : Scope) (s : State) (h : IsSorted kinds scope s) where
    abbrev AllFit : Cells → Type 0
    AllFit c = (b : ℕ) (shape : Shape) → s.scene.buffers b ≡ Some shape → (at : List ℤ) → FitsCell shape.cell (c b at)

    back_fits : (t : Bool) (cell : Cell) (z : Seen) → HasType fields kinds scope s h cell z → (f : List ℤ → Value) → ((at : List ℤ) → FitsCell cell (f at)) → (c : Cells) → AllFit c → AllFit (copy_back t (GivenView z) f c)
    back_fits false cell z ty f fit c k = k
    back_fits true cell z ty f fit c k = λ b shape e at. go b shape e at (b == z.buffer) (eqb-true b z.buffer) (index_of z.sides at)
      where
        go : (b : ℕ) (shape : Shape) → s.scene.buffers b ≡ Some shape → (at : List ℤ) → (t : Bool) → (t ≡ true → b ≡ z.buffer) → (o : Option (List ℤ)) → FitsCell shape.cell (cond t (value_or o f (c b at)) (c b at))
        go b shape e at false same o = k b shape e at
        go b shape e at true same None = k b shape e at
        go b shape e at true same (Some is) = subst (λ (y : Cell). FitsCell y (f is)) (ty shape (ap s.scene.buffers (sym (same refl)) ∙ e)) (fit is)

    -- a copy holds what the parameter's type can hold
    abbrev Copy : ParamKind → (List ℤ → Value) → Type 0
    Copy (ControlParam kind) f = Unit {0}
    Copy (TensorParam cell dims memory) f = (at : List ℤ) → FitsCell cell (f at)
    Copy (WindowParam cell dims memory) f = (at : List ℤ) → FitsCell cell (f at)

    abbrev CopiesFit : List Param → Cells → Type 0
    CopiesFit [] d = Unit {0}
    CopiesFit (p ∷ ps) d = Copy p.kind (d p.binder.id) × CopiesFit ps d

    all_back_fit : (w : ℕ → Bool) (ps : List Param) (gs : List Given) (d c : Cells) → AllMatch fields kinds scope s h ps gs → CopiesFit ps d → AllFit c → AllFit (copied_back w ps gs d c)
    all_back_fit w [] gs d c m f k = k
    all_back_fit w (p ∷ ps) [] d c m f k = absurd m
    all_back_fit w (p ∷ ps) (g ∷ gs) d c m f k = all_back_fit w ps gs d (copy_back (w p.binder.id) g (d p.binder.id) c) m.1 f.1 (one (w p.binder.id) p.kind g m.0 f.0)
      where
        one : (t : Bool) (kind : ParamKind) (g : Given) → Matches fields kinds scope s h kind g → Copy kind (d p.binder.id) → AllFit (copy_back t g (d p.binder.id) c)
        one true kind (GivenNumber n) m f = k
        one false kind (GivenNumber n) m f = k
        one t (ControlParam kind) (GivenView z) m f = absurd m
        one t (TensorParam cell dims memory) (GivenView z) m f = back_fits t cell z m.0 (d p.binder.id) f c k
        one t (WindowParam cell dims memory) (GivenView z) m f = back_fits t cell z m (d p.binder.id) f c k

    copies_fit : (ps : List Param) (inner w : State) → AreArguments inner.scene ps → Ends kinds inner w → CopiesFit ps w.cells
    copies_fit [] inner w a e = tt
    copies_fit (p ∷ ps) inner w a e = (one p.kind a.0, copies_fit ps inner w a.1 e)
      where
        one : (kind : ParamKind) → IsArgument inner.scene p.binder.id kind → Copy kind (w.cells p.binder.id)
        one (ControlParam kind) a = tt
        one (TensorParam cell dims memory) a = e.cells p.binder.id (record { cell = cell; dims = numbers inner.scene dims; strides = row_major (numbers inner.scene dims) }) (e.kept p.binder.id _ a.0)
        one (WindowParam cell dims memory) a = e.cells p.binder.id (record { cell = cell; dims = numbers inner.scene dims; strides = a.0 }) (e.kept p.binder.id _ a.1.0)

    module _ (sound : IsSound s) (memories : ℕ) (world : World) (same : world.kinds ≡ kinds) where
      call_next : (o : Option Callee) → ((c : Callee) → o ≡ Some c → IsGood fields memories c) → (root : ℕ → ℕ) (args : List Argument) → is_call fields scope root o args ≡ true → IfSome (call_to o args s) (Next scope s)
      call_next None good root args ok = tt
      call_next (Some c) good root args ok =
          let g = good c refl in
          let q = and_parts (are_for fields scope c.procedure.params args) _ ok in
          let Fine = λ (gs : List Given). AllMatch fields kinds scope s h c.procedure.params gs × AreThere s gs in
          if_where (Next scope s) (keeps_apart c s.scene args) (copied_call c args s) (if_then Fine (Next scope s) (all_given s.scene args) _ (if_both (AllMatch fields kinds scope s h c.procedure.params) (AreThere s) Fine (all_given s.scene args) (all_match fields kinds scope s h c.procedure.params args q.0) (all_there s args sound) (λ gs m i. (m, i))) (λ gs fine.
          let Begins = λ (inner : State). all_hold inner.scene c.procedure.asserts ≡ true → IsAdmissible world c.procedure inner in
          if_then Begins (Next scope s) (entered c.procedure.params gs s) _ (enters fields kinds scope s h sound memories world same c.procedure g.0 gs fine.0 fine.1) (λ inner begins.
          if_map (λ w. (AreArguments inner.scene c.procedure.params) × Ends kinds inner w) (Next scope s) (run_asserted c inner) (returned c gs s) (asserted c inner (λ hold. begins hold) (g.1 world)) (λ w z. record {
            sorted = record {
              buffers = h.buffers;
              views = h.views;
              cells = all_back_fit c.writes c.procedure.params gs w.cells s.cells fine.0 (copies_fit c.procedure.params inner w z.0 z.1) h.cells;
              fields = z.1.fields;
            };
            kept_buffers = λ b shape e. e;
          }))))
        where
          asserted : (c : Callee) (inner : State) → (all_hold inner.scene c.procedure.asserts ≡ true → IsAdmissible world c.procedure inner) → ((s : State) → world.kinds ≡ kinds → IsAdmissible world c.procedure s → IfSome (c.run s) (Ends kinds s)) → IfSome (run_asserted c inner) (λ w. (AreArguments inner.scene c.procedure.params) × Ends kinds inner w)
          asserted c inner begins runs = go (all_hold inner.scene c.procedure.asserts) refl
            where
              go : (t : Bool) → all_hold inner.scene c.procedure.asserts ≡ t → IfSome (where_true t (c.run inner)) (λ w. (AreArguments inner.scene c.procedure.params) × Ends kinds inner w)
              go false e = tt
              go true e = let a = begins e in if_weaken (Ends kinds inner) (λ w. (AreArguments inner.scene c.procedure.params) × Ends kinds inner w) (c.run inner) (runs inner same a) (λ w z. (a.arguments, z))

  -- ---- trees

  module _ (fields : ℕ → Option Kind) (agree : (f : ℕ) (k : Kind) → fields f ≡ Some k → kinds f ≡ k) (memories : ℕ) (world : World) (same : world.kinds ≡ kinds) (good : (k : ℕ) (c : Callee) → world.callees k ≡ Some c → IsGood fields memories c) where
    abbrev Both : Scope → State → State → Type 0
    Both scope s t = IsSound t × Next scope s t

    configured : (scope : Scope) (f : ℕ) (a : Argument) (s : State) → is_write fields scope (fields f) a ≡ true → IsSorted kinds scope s → IfSome (step world (Config f a) s) (Next scope s)
    configured scope f a s ok h = if_then (λ n. argument_number s.scene a ≡ Some n) (Next scope s) (argument_number s.scene a) _ (here (argument_number s.scene a)) (λ n e. go n e (suits (world.kinds f) n) refl)
      where
        of_kind : (n : ℤ) → argument_number s.scene a ≡ Some n → suits (kinds f) n ≡ true → (o : Option Kind) → fields f ≡ o → is_write fields scope o a ≡ true → IsOfKind (kinds f) n
        of_kind n e u None k ok = absurd (true≢false (sym ok))
        of_kind n e u (Some kind) k ok =
            let is = agree f kind k in
            subst (λ z. IsOfKind z n) (sym is) (number_of_kind fields with_strides scope s.scene kind a n ok e (subst (λ z. suits z n ≡ true) is u))

        go : (n : ℤ) → argument_number s.scene a ≡ Some n → (t : Bool) → suits (world.kinds f) n ≡ t → IfSome (where_true t (Some (on_scene (with_field f n) s))) (Next scope s)
        go n e false k = tt
        go n e true k = record {
          sorted = record {
            buffers = h.buffers;
            views = h.views;
            cells = h.cells;
            fields = λ g. at_field g (g == f) (eqb-true g f);
          };
          kept_buffers = λ b shape e. e;
        }
          where
            at_field : (g : ℕ) (t : Bool) → (t ≡ true → g ≡ f) → IsOfKind (kinds g) (cond t n (s.scene.fields g))
            at_field g false same_f = h.fields g
            at_field g true same_f = subst (λ y. IsOfKind (kinds y) n) (sym (same_f refl)) (of_kind n e (subst (λ (z : ℕ → Kind). suits (z f) n ≡ true) same k) (fields f) refl ok)

    chosen : (t : Bool) (f g : State → Option State) (s : State) → IfSome (f s) (Ends kinds s) → IfSome (g s) (Ends kinds s) → IfSome (choose t f g s) (Ends kinds s)
    chosen true f g s h k = h
    chosen false f g s h k = k

    pub turn_next : (i : Binder) (body : State → Option State) (scope : Scope) → is_new scope i ≡ true → ((s : State) → IsSound s → IsSorted kinds (with_name scope i (ControlName Index)) s → IfSome (body s) (Ends kinds s)) → (n : ℤ) (s : State) → IsSound s → IsSorted kinds scope s → IfSome (turn i.id body n s) (Next scope s)
    turn_next i body scope new k n s sound h =
        let inner = on_scene (with_control i.id n) s in
        if_map (Ends kinds inner) (Next scope s) (body inner) (left s) (k inner (record { tidy = sound.tidy; seen = sound.seen }) (inside scope i n s new h)) (λ t e. left_next scope s t h e.kept e.cells e.fields)

    turns_next : (i : Binder) (body : State → Option State) (scope : Scope) → is_new scope i ≡ true → ((s : State) → IsSound s → IsSorted kinds (with_name scope i (ControlName Index)) s → IfSome (body s) (Ends kinds s)) → (ns : List ℤ) (s : State) → IsSound s → IsSorted kinds scope s → IfSome (turns (turn i.id body) ns s) (Next scope s)
    turns_next i body scope new k [] = λ s sound h. next_self scope s h
    turns_next i body scope new k (n ∷ ns) = λ s sound h.
        if_then (λ t. IsSound t × Next scope s t) (Next scope s) (turn i.id body n s) (turns (turn i.id body) ns)
        (if_both IsSound (Next scope s) (λ t. IsSound t × Next scope s t) (turn i.id body n s) (turn_sound i.id body n s sound) (turn_next i body scope new k n s sound h) (λ t a b. (a, b)))
        (λ t z. if_weaken (Next scope t) (Next scope s) (turns (turn i.id body) ns t) (turns_next i body scope new k ns t z.0 z.1.sorted) (λ u e. record { sorted = e.sorted; kept_buffers = λ c shape m. e.kept_buffers c shape (z.1.kept_buffers c shape m) }))

    mutual
      pub run_ends : (b : Block) (scope : Scope) (root : ℕ → ℕ) → is_block fields memories world.callees scope root b ≡ true → (s : State) → IsSound s → IsSorted kinds scope s → IfSome (run world b s) (Ends kinds s)
      run_ends end scope root ok = λ s sound h. record { kept = λ b shape e. e; cells = h.cells; fields = h.fields }
      run_ends (next a b) scope root ok = λ s sound h.
          let p = and_parts (is_statement fields memories world.callees scope root a) (is_block fields memories world.callees (scope_after a scope) (roots_after a root) b) ok in
          if_then (λ t. IsSound t × Next (scope_after a scope) s t) (Ends kinds s) (step world a s) (run world b)
          (if_both IsSound (Next (scope_after a scope) s) (λ t. IsSound t × Next (scope_after a scope) s t) (step world a s) (step_sound world a s sound) (step_next a scope root p.0 s sound h) (λ t i n. (i, n)))
          (λ t z. if_weaken (Ends kinds t) (Ends kinds s) (run world b t) (run_ends b (scope_after a scope) (roots_after a root) p.1 t z.0 z.1.sorted) (λ u e. record { kept = λ c shape k. e.kept c shape (z.1.kept_buffers c shape k); cells = e.cells; fields = e.fields }))

      pub step_next : (a : Statement) (scope : Scope) (root : ℕ → ℕ) → is_statement fields memories world.callees scope root a ≡ true → (s : State) → IsSound s → IsSorted kinds scope s → IfSome (step world a s) (Next (scope_after a scope) s)
      step_next (Assign x is e) scope root ok = λ s sound h. store_next scope s (place s.scene x is) (value s e) (λ v old. v) h
      step_next (Reduce x is e) scope root ok = λ s sound h. store_next scope s (place s.scene x is) (value s e) (λ v old. on_two ◌+ℤ◌ old v) h
      step_next (Config f a) scope root ok = λ s sound h. configured scope f a s ok h
      step_next Pass scope root ok = λ s sound h. next_self scope s h
      step_next (If c a b) scope root ok = λ s sound h.
          let p = and_parts (is_condition fields with_fields scope c) _ ok in
          let q = and_parts (not (is_empty a) && (is_short a && is_short b)) _ p.1 in
          let r = and_parts (is_block fields memories world.callees scope root a) (is_block fields memories world.callees scope root b) q.1 in
          if_map (Ends kinds s) (Next scope s) (choose (holds s.scene c) (run world a) (run world b) s) (left s) (chosen (holds s.scene c) (run world a) (run world b) s (run_ends a scope root r.0 s sound h) (run_ends b scope root r.1 s sound h)) (λ t e. left_next scope s t h e.kept e.cells e.fields)
      step_next (For i lo hi b) scope root ok = λ s sound h.
          let p = and_parts (is_new scope i) _ ok in
          let q = and_parts (is_control fields plainly scope lo && is_control fields plainly scope hi) _ p.1 in
          let r = and_parts (not (is_empty b) && is_short b) _ q.1 in
          turns_next i (run world b) scope p.0 (run_ends b (with_name scope i (ControlName Index)) root r.1) (turns_of s.scene lo hi) s sound h
      step_next (Alloc x cell dims memory) scope root ok = λ s sound h.
          let p = and_parts (is_new scope x) _ ok in
          if_where (Next (with_name scope x (BufferName cell (length dims) true)) s) (all_positive (numbers s.scene dims)) (Some (with_contents x.id (λ at. Undefined) (on_scene (with_buffer x.id (tensor cell (numbers s.scene dims))) s))) (made_next scope x cell (length dims) (numbers s.scene dims) s p.0 sound h)
      step_next (View w x coords) scope root ok = λ s sound h.
          let p = and_parts (is_new scope w) _ ok in
          let q = and_parts (is_window fields scope x coords) _ p.1 in
          let r = and_parts (has_rank (length coords) (sort_in scope x)) _ q.0 in
          if_then (λ seen. window s.scene x coords ≡ Some seen) (Next (scope_after (View w x coords) scope) s) (window s.scene x coords) _ (here (window s.scene x coords)) (λ seen e. viewed_next scope w x coords (spans coords) s p.0 r.0 h seen e)
      step_next (Call k args) scope root ok = λ s sound h. call_next fields scope s h sound memories world same (world.callees k) (good k) root args ok

    -- ---- on the way

    come_to_turn : (i : Binder) (body : State → Option State) (scope : Scope) → is_new scope i ≡ true → ((s : State) → IsSound s → IsSorted kinds (with_name scope i (ControlName Index)) s → IfSome (body s) (Ends kinds s)) → (ns : List ℤ) (s : State) (n : ℤ) (u : State) → ComesToTurn (turn i.id body) ns s n u → IsSound s → IsSorted kinds scope s → IsSound u × IsSorted kinds scope u
    come_to_turn i body scope new k [] s n u z = elim z [ ]
    come_to_turn i body scope new k (m ∷ ns) s n u now = λ sound h. (sound, h)
    come_to_turn i body scope new k (m ∷ ns) s n u (later {t} e z) = λ sound h.
        let one = turns_next i body scope new k (m ∷ []) s sound h in
        let next = if_gives (Next scope s) (then_do (turn i.id body m s) (λ t. Some t)) t one (ap (λ o. then_do o (λ t. Some t)) e) in
        come_to_turn i body scope new k ns t n u z (if_gives IsSound (turn i.id body m s) t (turn_sound i.id body m s sound) e) next.sorted

    module _ (old : Block) where
      pub come_sorted : (c : Context) (scope : Scope) (root : ℕ → ℕ) → is_block fields memories world.callees scope root (fill c old) ≡ true → (s u : State) → ComesTo world old c s u → IsSound s → IsSorted kinds scope s → IsSorted kinds (scope_at c scope) u
      come_sorted (Here rest) scope root ok s u z sound h = subst (IsSorted kinds scope) (sym z) h
      come_sorted (After a c) scope root ok s u z sound h =
          let p = and_parts (is_statement fields memories world.callees scope root a) _ ok in
          come_sorted c (scope_after a scope) (roots_after a root) p.1 z.0 u z.2 (if_gives IsSound (step world a s) z.0 (step_sound world a s sound) z.1) (if_gives (Next (scope_after a scope) s) (step world a s) z.0 (step_next a scope root p.0 s sound h) z.1).sorted
      come_sorted (InLoop i lo hi c rest) scope root ok s u z sound h =
          let o = and_parts (is_statement fields memories world.callees scope root (For i lo hi (fill c old))) _ ok in
          let p = and_parts (is_new scope i) _ o.0 in
          let q = and_parts (is_control fields plainly scope lo && is_control fields plainly scope hi) _ p.1 in
          let r = and_parts (not (is_empty (fill c old)) && is_short (fill c old)) _ q.1 in
          let v = come_to_turn i (run world (fill c old)) scope p.0 (run_ends (fill c old) (with_name scope i (ControlName Index)) root r.1) (turns_of s.scene lo hi) s z.0 z.1 z.2 sound h in
          come_sorted c (with_name scope i (ControlName Index)) root r.1 (on_scene (with_control i.id z.0) z.1) u z.3 (record { tidy = v.0.tidy; seen = v.0.seen }) (inside scope i z.0 z.1 p.0 v.1)
      come_sorted (InThen t c other rest) scope root ok s u z sound h =
          let o = and_parts (is_statement fields memories world.callees scope root (If t (fill c old) other)) _ ok in
          let p = and_parts (is_condition fields with_fields scope t) _ o.0 in
          let q = and_parts (not (is_empty (fill c old)) && (is_short (fill c old) && is_short other)) _ p.1 in
          let r = and_parts (is_block fields memories world.callees scope root (fill c old)) (is_block fields memories world.callees scope root other) q.1 in
          come_sorted c scope root r.0 s u z.1 sound h
      come_sorted (InElse t other c rest) scope root ok s u z sound h =
          let o = and_parts (is_statement fields memories world.callees scope root (If t other (fill c old))) _ ok in
          let p = and_parts (is_condition fields with_fields scope t) _ o.0 in
          let q = and_parts (not (is_empty other) && (is_short other && is_short (fill c old))) _ p.1 in
          let r = and_parts (is_block fields memories world.callees scope root other) (is_block fields memories world.callees scope root (fill c old)) q.1 in
          come_sorted c scope root r.1 s u z.1 sound h

-- ---- admissible inputs

pub scope_else : (ps : List Param) (scope : Scope) (x : ℕ) → is_buffer_of x ps ≡ false → sort_in (scope_of scope ps) x ≡ sort_in scope x
scope_else [] scope x h = refl
scope_else (p ∷ ps) scope x h =
    let q = or_parts (x == p.binder.id) (is_buffer_of x ps) h in
    scope_else ps (with_name scope p.binder (param_sort p.kind)) x q.1 ∙ ap (λ t. cond t (Some (param_sort p.kind)) (sort_in scope x)) q.0

-- a parameter is in scope by its kind
pub found : (scene : Scene) (ps : List Param) (scope : Scope) → Differ ps → AreArguments scene ps → (x : ℕ) → is_buffer_of x ps ≡ true → (kind : ParamKind) × IsArgument scene x kind × (sort_in (scope_of scope ps) x ≡ Some (param_sort kind))
found scene [] scope d a x h = absurd (true≢false (sym h))
found scene (p ∷ ps) scope d a x h = go (found scene ps (with_name scope p.binder (param_sort p.kind)) d.1 a.1 x) (x == p.binder.id) (eqb-true x p.binder.id) refl h
  where
    go : (is_buffer_of x ps ≡ true → (kind : ParamKind) × IsArgument scene x kind × (sort_in (scope_of (with_name scope p.binder (param_sort p.kind)) ps) x ≡ Some (param_sort kind))) → (t : Bool) → (t ≡ true → x ≡ p.binder.id) → (x == p.binder.id) ≡ t → (t || is_buffer_of x ps) ≡ true → (kind : ParamKind) × IsArgument scene x kind × (sort_in (scope_of (with_name scope p.binder (param_sort p.kind)) ps) x ≡ Some (param_sort kind))
    go below true same e k = (p.kind, subst (λ y. IsArgument scene y p.kind) (sym (same refl)) a.0, scope_else ps (with_name scope p.binder (param_sort p.kind)) x (ap (λ y. is_buffer_of y ps) (same refl) ∙ d.0) ∙ ap (λ t. cond t (Some (param_sort p.kind)) (sort_in scope x)) e)
    go below false same e k = below k

module _ (kinds : ℕ → Kind) (fields : ℕ → Option Kind) (memories : ℕ) (world : World) (same : world.kinds ≡ kinds) (p : Procedure) (ok : are_params fields memories [] p.params ≡ true) (s : State) (good : IsAdmissible world p s) where
  abbrev scope : Scope
  scope = scope_of [] p.params

  buffer_sort : (b : ℕ) (shape : Shape) → s.scene.buffers b ≡ Some shape → (rank : ℕ) × (dense : Bool) × (sort_in scope b ≡ Some (BufferName shape.cell rank dense))
  buffer_sort b shape e = go (is_buffer_of b p.params) refl
    where
      by_kind : (kind : ParamKind) → IsArgument s.scene b kind → sort_in scope b ≡ Some (param_sort kind) → (rank : ℕ) × (dense : Bool) × (sort_in scope b ≡ Some (BufferName shape.cell rank dense))
      by_kind (ControlParam kind) a k = absurd (none_some (sym a.1 ∙ e))
      by_kind (TensorParam cell dims memory) a k = (length dims, true, k ∙ ap (λ (z : Shape). Some (BufferName z.cell (length dims) true)) (some_injective _ shape (sym a.0 ∙ e)))
      by_kind (WindowParam cell dims memory) a k = (length dims, false, k ∙ ap (λ (z : Shape). Some (BufferName z.cell (length dims) false)) (some_injective _ shape (sym a.1.0 ∙ e)))

      go : (t : Bool) → is_buffer_of b p.params ≡ t → (rank : ℕ) × (dense : Bool) × (sort_in scope b ≡ Some (BufferName shape.cell rank dense))
      go false k = absurd (none_some (sym (good.no_others b k).1 ∙ e))
      go true k = let f = found s.scene p.params [] (params_differ fields memories p.params [] ok) good.arguments b k in by_kind f.0 f.1 f.2

  view_sees : (x : ℕ) (c : Cell) (rank : ℕ) (dense : Bool) (seen : Seen) → sort_in scope x ≡ Some (BufferName c rank dense) → s.scene.views x ≡ Some seen → (shape : Shape) → s.scene.buffers seen.buffer ≡ Some shape → Sees c dense seen shape
  view_sees x c rank dense seen sort v shape b = go (is_buffer_of x p.params) refl
    where
      cells_are : (d : Cell) (n : ℕ) (f : Bool) → Some (BufferName d n f) ≡ Some (BufferName c rank dense) → c ≡ d
      cells_are d n f k = cc

      dense_is : (d : Cell) (n : ℕ) (f : Bool) → Some (BufferName d n f) ≡ Some (BufferName c rank dense) → f ≡ dense
      dense_is d n f k = cc

      -- the name sees the whole of its own buffer
      shape_is : (whole_shape : Shape) → IsBuffer s.scene x whole_shape → whole_shape ≡ shape
      shape_is z a = some_injective z shape (sym a.0 ∙ ap (λ (y : Seen). s.scene.buffers y.buffer) (some_injective (record { buffer = x; sides = whole z.dims }) seen (sym a.1 ∙ v)) ∙ b)

      sides_are : (z : Shape) → IsBuffer s.scene x z → seen.sides ≡ whole z.dims
      sides_are z a = ap (λ (y : Seen). y.sides) (some_injective seen (record { buffer = x; sides = whole z.dims }) (sym v ∙ a.1))

      by_kind : (kind : ParamKind) → IsArgument s.scene x kind → sort_in scope x ≡ Some (param_sort kind) → Sees c dense seen shape
      by_kind (ControlParam kind) a k = absurd (none_some (sym a.2 ∙ v))
      by_kind (TensorParam cell dims memory) a k =
          let z : Shape = record { cell = cell; dims = numbers s.scene dims; strides = row_major (numbers s.scene dims) } in
          let is = shape_is z a in
          record {
            cell_is = cells_are cell (length dims) true (sym k ∙ sort) ∙ ap (λ (y : Shape). y.cell) is;
            all = λ d. (sides_are z a ∙ ap (λ (y : Shape). whole y.dims) is, ap (λ (y : Shape). y.strides) (sym is) ∙ ap (λ (y : Shape). row_major y.dims) is);
          }
      by_kind (WindowParam cell dims memory) a k =
          let z : Shape = record { cell = cell; dims = numbers s.scene dims; strides = a.0 } in
          record {
            cell_is = cells_are cell (length dims) false (sym k ∙ sort) ∙ ap (λ (y : Shape). y.cell) (shape_is z a.1);
            all = λ d. absurd (true≢false (sym (dense_is cell (length dims) false (sym k ∙ sort) ∙ d)));
          }

      go : (t : Bool) → is_buffer_of x p.params ≡ t → Sees c dense seen shape
      go false k = absurd (none_some (sym (good.no_others x k).2 ∙ v))
      go true k = let f = found s.scene p.params [] (params_differ fields memories p.params [] ok) good.arguments x k in by_kind f.0 f.1 f.2

  pub admissible_sorted : IsSorted kinds scope s
  admissible_sorted = record { buffers = buffer_sort; views = view_sees; cells = good.cells; fields = λ f. subst (λ (z : ℕ → Kind). IsOfKind (z f) (s.scene.fields f)) same (good.fields f) }

-- ---- units

pub agrees : (fields : List ConfigField) (f : ℕ) (k : Kind) → field_kind fields f ≡ Some k → kinds_of fields f ≡ k
agrees [] zero k e = absurd (none_some e)
agrees [] (suc f) k e = absurd (none_some e)
agrees (field ∷ fields) zero k e = some_injective field.kind k e
agrees (field ∷ fields) (suc f) k e = agrees fields f k e

module _ (fields : List ConfigField) (memories : ℕ) where
  abbrev kinds_are : ℕ → Kind
  kinds_are = kinds_of fields

  abbrev AllGood : List Callee → Type 0
  AllGood cs = (k : ℕ) (c : Callee) → slice_get cs k ≡ Some c → IsGood kinds_are (field_kind fields) memories c

  all_good_more : (cs : List Callee) (c : Callee) → AllGood cs → IsGood kinds_are (field_kind fields) memories c → AllGood (cs ++ c ∷ [])
  all_good_more [] c h k zero d e = subst (λ o. IfSome o (IsGood kinds_are (field_kind fields) memories)) e k
  all_good_more [] c h k (suc n) d e = absurd (none_some e)
  all_good_more (x ∷ cs) c h k zero d e = h zero d e
  all_good_more (x ∷ cs) c h k (suc n) d e = all_good_more cs c (λ m. h (suc m)) k n d e

  pub good_callee : (above : List Callee) (p : Procedure) → AllGood above → IsProcedure (field_kind fields) memories (slice_get above) p → IsGood kinds_are (field_kind fields) memories (callee_in (world_of kinds_are above) p)
  good_callee above p h ok = (ok.params, λ world s same adm. run_ends kinds_are (field_kind fields) (agrees fields) memories (world_of kinds_are above) refl h p.body (scope_of [] p.params) (λ x. x) ok.body s (admissible_sound world p s adm) (admissible_sorted kinds_are (field_kind fields) memories world same p ok.params s adm))

  all_good : (above : List Callee) (ps : List Procedure) → AllGood above → AreProcedures fields memories above ps → AllGood (callees kinds_are above ps)
  all_good above [] h u = h
  all_good above (p ∷ ps) h u = all_good (above ++ callee_in (world_of kinds_are above) p ∷ []) ps (all_good_more above (callee_in (world_of kinds_are above) p) h (good_callee above p h u.0)) u.1

  pub unit_good : (ps : List Procedure) → AreProcedures fields memories [] ps → AllGood (callees kinds_are [] ps)
  unit_good ps u = all_good [] ps (λ k c e. absurd (nothing k e)) u
    where
      nothing : {c : Callee} (k : ℕ) → slice_get [] k ≡ Some c → ⊥
      nothing zero e = none_some e
      nothing (suc k) e = none_some e

pub fit_law : FitLaw
fit_law fields memories ps p may s good =
    let kinds = kinds_of fields in
    let world = unit_world kinds ps in
    run_ends kinds (field_kind fields) (agrees fields) memories world refl (unit_good fields memories ps may.unit) p.body (scope_of [] p.params) (λ x. x) may.procedure.body s (admissible_sound world p s good) (admissible_sorted kinds (field_kind fields) memories world refl p may.procedure.params s good)

pub fits_at_law : FitsAtLaw
fits_at_law fields memories ps p c old may was s u good come =
    let kinds = kinds_of fields in
    let world = unit_world kinds ps in
    come_sorted kinds (field_kind fields) (agrees fields) memories world refl (unit_good fields memories ps may.unit) old c (scope_of [] p.params) (λ x. x) (subst (λ b. is_block (field_kind fields) memories world.callees (scope_of [] p.params) (λ x. x) b ≡ true) was may.procedure.body) s u come (admissible_sound world p s good) (admissible_sorted kinds (field_kind fields) memories world refl p may.procedure.params s good)
