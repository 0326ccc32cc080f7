-- A call by copies, and one in place: where the callee begins, its state and the machine match.
use Rattle.std.proofs.Common.{◌≡◌, ◌≤◌, ◌^◌, ◌==◌, ℕ, ℤ, pos, ◌≤ℤ◌, Bool, true, false, List, [], ◌∷◌, length, Option, Some, refl, sym, ap, ap₂, ◌∙◌, subst, ⊎_elim, eqb-true, unsigned_abs}
use Rattle.exo_tree.specs.Tree.{Cell, Control, Param, ParamKind, ControlParam, TensorParam, WindowParam}
use Rattle.exo_meaning.specs.Value.{Value}
use Rattle.exo_meaning.specs.Scene.{then_do, Shape, Seen, AreApart, cell_at, index_of, whole, extents, strides_of, strides_seen, numbers}
use Rattle.exo_meaning.specs.State.{State}
use Rattle.exo_meaning.specs.Calls.{Given, GivenNumber, GivenView, entered, all_positive}
use Rattle.exo_meaning.specs.Run.{product, row_major}
use Rattle.exo_meaning.specs.Inputs.{is_buffer_of}
use Rattle.exo_meaning.specs.Laws.{HasRoots}
use Rattle.exo_meaning.proofs.Windows.{index_at_cell}
use Rattle.inplace_laws.specs.CallInPlace.{base_of, seen_of, AreDistinct}
use Rattle.inplace_laws.specs.Addresses.{stored, spots_through}
use Rattle.inplace_laws.proofs.Addresses.{entry_law}
use Rattle.c_tree.specs.CTree.{Name}
use Rattle.c_unit_laws.specs.Follows.Machine.Machine.{Thing, IsNumber, IsField, IsFunction, IsArray}
use Rattle.c_unit_laws.specs.Follows.Machine.Machine.{IsWindow, Machine, holds_cells, same_name}
use Rattle.exo_meaning.specs.Units.{same_cell}
use Rattle.c_unit_laws.specs.Follows.Machine.CRun.{with_names}
use Rattle.c_lowering.specs.Made.Lowered.{Forms, Form, NoForm, TensorForm, WindowForm, form_of}
use Rattle.c_lowering.specs.Made.Lowered.{param_forms}
use Rattle.c_unit_laws.specs.Follows.Simulation.{Ground, AreSameFields, Layout, HasForm, IsPlaced}
use Rattle.c_unit_laws.specs.Follows.Simulation.{Matches, IsHeld, AreApartIn, beginning, lower_ends}
use Rattle.c_unit_laws.specs.Follows.Simulation.{dot, in_range, spot_of}
use Rattle.c_unit_laws.specs.Follows.Good.{AreGood, IsGoodParam, AreGoodParams, AreNamedApart}
use Rattle.c_unit_laws.proofs.OfFollows.Windows.{ArePlaced, some_same, no_some, strides_length}
use Rattle.c_unit_laws.proofs.OfFollows.Scopes.{numbers_by_control}
use Rattle.exo_tree.specs.Cells.{same_itself}
use Rattle.c_unit_laws.proofs.OfFollows.Handed.{whole_in_whole}
use Rattle.c_unit_laws.proofs.OfFollows.Bound.{Suits, AreSuited, named_by, bound_here}
use Rattle.c_unit_laws.proofs.OfFollows.Bound.{bound_elsewhere, names_differ, params_other}
use Rattle.c_unit_laws.proofs.OfFollows.Bound.{param_there, thing_of}
use Rattle.c_unit_laws.proofs.OfFollows.Begun.{whole_begins, all_strides, all_extents, at_first}
use Rattle.c_unit_laws.proofs.OfFollows.Entered.{IsNumbered, IsBound, IsCopy, HasEntered}
use Rattle.c_unit_laws.proofs.OfFollows.Entered.{has_entered}
use Rattle.c_unit_laws.proofs.OfFollows.Given.{IsPart, IsDense, IsSeen, IsGivenAs, AreGivenAs}
use Rattle.c_unit_laws.proofs.OfFollows.Given.{IsParam, param_found, no_param}
use Rattle.c_unit_laws.proofs.OfFollows.Composed.{callee_layout, strides_here, lies_at, IsOnPart}
use Rattle.c_unit_laws.proofs.OfFollows.Composed.{on_part, is_param, IsAtCell, at_cell, part_placed}

-- ---- what is asked of a call

-- The callee's ground has the caller's fields and functions, its arguments are the same on both sides, and what it writes
-- the caller may store in, apart from its other arguments.
pub record Enters (g own : Ground) (layout : Layout) (s inner : State) (globals : Name → Option Thing) (bounds : ℕ → ℕ) (ps : List Param) (gs : List Given) (ts : List Thing) : Type 0 where
  pub field : own.naming.field ≡ g.naming.field
  pub declared : own.declared ≡ g.declared
  pub function : own.function ≡ g.function
  pub named : AreNamedApart own (param_forms ps)
  pub distinct : AreDistinct ps
  pub good : AreGoodParams (param_forms ps) bounds ps
  pub entered : entered ps gs s ≡ Some inner
  pub given : AreGivenAs layout s.scene bounds ps gs ts
  pub fields_seen : (f : ℕ) → g.declared f ≡ true → globals (g.naming.field f) ≡ Some IsField
  pub functions_seen : (f : Name) → g.function f ≡ true → globals f ≡ Some IsFunction
  pub may : (x : ℕ) (z : Seen) → own.stored x ≡ true → base_of ps gs x ≡ Some z → g.stored z.buffer ≡ true
  pub apart : (b c : ℕ) (z y : Seen) → own.stored b ≡ true → (b == c) ≡ false → base_of ps gs b ≡ Some z → base_of ps gs c ≡ Some y → AreApart z y

-- ---- parameters take the things

module _ (layout : Layout) (s : State) (m : Machine) (placed : ArePlaced layout s.scene m.setting) where
  part_holds : (cell : Cell) (z : Seen) (part : IsPart s.scene cell z) → holds_cells (m.setting.objects (beginning layout part.shape z).object) cell ≡ true
  part_holds cell z part =
      let h = placed z.buffer part.shape part.buffer in
      ap (λ o. holds_cells o cell) h.there ∙ ap (λ c. same_cell c cell) (h.same_cell ∙ part.cell_is) ∙ same_itself cell

  one_suits : (bound : ℕ) (kind : ParamKind) (g : Given) (t : Thing) → IsGivenAs layout s.scene bound kind g t → Suits m.setting.objects kind t
  one_suits bound (ControlParam kind) (GivenNumber n) t h = (n, h.0)
  one_suits bound (ControlParam kind) (GivenView z) t h = absurd h
  one_suits bound (TensorParam cell dims memory) (GivenNumber n) t h = absurd h
  one_suits bound (TensorParam cell dims memory) (GivenView z) t h = (beginning layout h.part.shape z, h.thing, part_holds cell z h.part)
  one_suits bound (WindowParam cell dims memory) (GivenNumber n) t h = absurd h
  one_suits bound (WindowParam cell dims memory) (GivenView z) t h =
      let part = h.0.part in
      let ranks = (placed z.buffer part.shape part.buffer).ranks in
      (beginning layout part.shape z, strides_of z.sides part.shape.strides, h.0.thing, part_holds cell z part, strides_length part.shape.dims part.shape.strides z.sides part.within ranks ∙ h.1)

  pub all_suit : (bounds : ℕ → ℕ) (ps : List Param) (gs : List Given) (ts : List Thing) → AreGivenAs layout s.scene bounds ps gs ts → AreSuited m.setting.objects ps ts
  all_suit bounds [] [] [] h = tt
  all_suit bounds [] [] (t ∷ ts) h = absurd h
  all_suit bounds [] (g ∷ gs) ts h = absurd h
  all_suit bounds (p ∷ ps) [] ts h = absurd h
  all_suit bounds (p ∷ ps) (g ∷ gs) [] h = absurd h
  all_suit bounds (p ∷ ps) (g ∷ gs) (t ∷ ts) h = (one_suits (bounds p.binder.id) p.kind g t h.0, all_suit bounds ps gs ts h.1)

-- ---- the match

module _ (g own : Ground) (forms : Forms) (most : ℕ → ℕ) (root : ℕ → ℕ) (layout : Layout) (s inner : State) (m : Machine) (match : Matches g forms most root layout s m) (globals : Name → Option Thing) (bounds : ℕ → ℕ) (ps : List Param) (gs : List Given) (ts : List Thing) (e : Enters g own layout s inner globals bounds ps gs ts) where
  abbrev pub inside : Layout
  inside = callee_layout layout s inner ps gs

  abbrev pub names : Name → Option Thing
  names = named_by own.naming ps ts globals

  pub has : HasEntered s ps gs inner
  has = has_entered (param_forms ps) bounds ps gs s inner e.distinct e.good e.entered

  param : (x : ℕ) → is_buffer_of x ps ≡ true → IsParam layout s inner (param_forms ps) bounds ps gs ts x
  param = param_found layout s inner (param_forms ps) bounds ps gs ts e.given has.numbered has.bound e.good

  pub part : (x : ℕ) (shape : Shape) → inner.scene.buffers x ≡ Some shape → IsOnPart layout s inner ps gs x shape
  part = on_part layout s inner ps gs (param_forms ps) bounds ts e.given e.good has

  pub placed_under : (x : ℕ) (shape : Shape) (q : IsOnPart layout s inner ps gs x shape) → IsPlaced layout m.setting.objects m.setting.free q.seen.buffer q.part.shape
  placed_under x shape q = match.placed q.seen.buffer q.part.shape q.part.buffer

  pub cell_under : (x : ℕ) (shape : Shape) (q : IsOnPart layout s inner ps gs x shape) (is : List ℤ) → in_range is shape.dims ≡ true → IsAtCell layout s inner ps gs x shape q is
  cell_under x shape q is r = at_cell layout s inner ps gs m.setting.objects m.setting.free x shape q (placed_under x shape q) is r

  -- ---- names

  there : (q : ℕ) → is_buffer_of q ps ≡ true → param_forms ps q ≡ NoForm → ⊥
  there = param_there ps

  name_is : (x : ℕ) (t : Thing) → is_buffer_of x ps ≡ true → thing_of ps ts x ≡ Some t → names (own.naming.binder x) ≡ Some t
  name_is x t i k = bound_here own.naming m.setting.objects ps ts globals (all_suit layout s m match.placed bounds ps gs ts e.given) (names_differ own (param_forms ps) e.named ps there e.distinct) x i ∙ k

  global_is : (y : Name) → ((x : ℕ) → (param_forms ps x ≡ NoForm → ⊥) → same_name y (own.naming.binder x) ≡ false) → names y ≡ globals y
  global_is y h = bound_elsewhere own.naming ps ts globals y (params_other own.naming (param_forms ps) y h ps there)

  abbrev Stands : ℕ → Form → Type 0
  Stands = HasForm own.naming (param_forms ps) bounds inside inner.scene.control inner.scene.buffers inner.scene.views names

  tensor_stands : (x : ℕ) (cell : Cell) (dims : List Control) (z : Seen) (t : Thing) → IsDense layout s.scene cell z t → IsCopy s inner.scene x cell dims z → AreGood (param_forms ps) bounds dims → base_of ps gs x ≡ Some z → names (own.naming.binder x) ≡ Some t → Stands x (TensorForm cell dims 0)
  tensor_stands x cell dims z t a b good base name =
      let ds = numbers inner.scene dims in
      record {
        extents = ds;
        plain = good.0;
        narrow = good.1;
        numbers_are = λ scene k. numbers_by_control (param_forms ps) scene inner.scene k dims good.0;
        shape = b.buffer ∙ ap (λ r. Some (record { cell = cell; dims = ds; strides = r })) (strides_here s cell z a.part ∙ a.rows ∙ ap row_major (sym b.dims_are));
        view = b.view;
        positive = b.positive;
        few = subst (λ es. product es ≤ℤ pos (2 ^ 48)) (sym b.dims_are) a.few;
        last = tt;
        name = name ∙ ap (λ u. Some u) a.thing ∙ ap (λ p. Some (IsArray p)) (sym (lies_at layout s inner ps gs x cell z a.part base));
      }

  window_stands : (x : ℕ) (cell : Cell) (dims : List Control) (z : Seen) (t : Thing) → IsSeen layout s.scene cell z t → length (extents z.sides) ≡ length dims → IsCopy s inner.scene x cell dims z → base_of ps gs x ≡ Some z → names (own.naming.binder x) ≡ Some t → Stands x (WindowForm cell (length dims))
  window_stands x cell dims z t a rank b base name =
      let ds = numbers inner.scene dims in
      let strides = strides_seen s.scene z in
      let same = strides_here s cell z a.part in
      let under = match.placed z.buffer a.part.shape a.part.buffer in
      let ranks : length strides ≡ length ds = ap (λ r. length r) same ∙ strides_length a.part.shape.dims a.part.shape.strides z.sides a.part.within under.ranks ∙ sym (ap (λ r. length r) b.dims_are) in
      record {
        seen = record { buffer = x; sides = whole ds };
        shape = record { cell = cell; dims = ds; strides = strides };
        view = b.view;
        buffer = b.buffer;
        within = whole_in_whole ds;
        full = ap all_positive (all_extents ds) ∙ b.positive;
        rank_is = ap (λ r. length r) (all_extents ds) ∙ ap (λ r. length r) b.dims_are ∙ rank;
        cell_is = refl;
        name =
            name ∙ ap (λ u. Some u) a.thing
            ∙ ap₂ (λ p r. Some (IsWindow p r)) (sym (lies_at layout s inner ps gs x cell z a.part base) ∙ sym (at_first (inside x) (dot (lower_ends (whole ds)) strides) (whole_begins ds strides))) (sym same ∙ sym (all_strides ds strides ranks));
      }

  kind_stands : (x : ℕ) (kind : ParamKind) (v : Given) (t : Thing) → IsGivenAs layout s.scene (bounds x) kind v t → IsNumbered inner.scene.control x kind v → IsBound s inner.scene x kind v → IsGoodParam (param_forms ps) bounds kind → base_of ps gs x ≡ seen_of v → names (own.naming.binder x) ≡ Some t → Stands x (form_of kind)
  kind_stands x (ControlParam kind) (GivenNumber n) t a number b good base name = record { name = name ∙ ap (λ u. Some u) a.0 ∙ ap (λ z. Some (IsNumber z)) (sym number); small = subst (λ z. unsigned_abs z ≤ bounds x) (sym number) a.1 }
  kind_stands x (ControlParam kind) (GivenView z) t a number b good base name = absurd a
  kind_stands x (TensorParam cell dims memory) (GivenNumber n) t a number b good base name = absurd a
  kind_stands x (TensorParam cell dims memory) (GivenView z) t a number b good base name = tensor_stands x cell dims z t a b good base name
  kind_stands x (WindowParam cell dims memory) (GivenNumber n) t a number b good base name = absurd a
  kind_stands x (WindowParam cell dims memory) (GivenView z) t a number b good base name = window_stands x cell dims z t a.0 a.1 b base name

  all_stand : (x : ℕ) → Stands x (param_forms ps x)
  all_stand x = go (is_buffer_of x ps) refl
    where
      go : (d : Bool) → is_buffer_of x ps ≡ d → Stands x (param_forms ps x)
      go false i = subst (Stands x) (sym (no_param ps x i)) tt
      go true i = let q = param x i in subst (Stands x) (sym q.form) (kind_stands x q.kind q.given q.thing q.as_given q.numbered q.bound q.good q.base (name_is x q.thing i q.named))

  -- ---- fields and functions

  fields_stand : AreSameFields own.naming own.declared inner.scene.fields names m.setting.fields
  fields_stand f h =
      let known = sym (ap (λ d. d f) e.declared) ∙ h in
      record {
        name = global_is (own.naming.field f) (λ x k. ⊎_elim (λ n. absurd (k n)) (λ n. n) (e.named.no_field x f h)) ∙ ap (λ n. globals (n f)) e.field ∙ e.fields_seen f known;
        same = ap (λ n. m.setting.fields (n f)) e.field ∙ (match.fields f known).same ∙ ap (λ z. z f) (sym has.fields);
        small = subst (λ z. unsigned_abs (z f) ≤ 2 ^ 48) (sym has.fields) (match.fields f known).small;
      }

  functions_stand : (f : Name) → own.function f ≡ true → names f ≡ Some IsFunction
  functions_stand f h = global_is f (λ x k. ⊎_elim (λ n. absurd (k n)) (λ n. n) (e.named.no_function x f h)) ∙ e.functions_seen f (sym (ap (λ d. d f) e.function) ∙ h)

  -- ---- cells

  abbrev one_spot : ℕ → List ℤ → Option (ℕ × List ℤ)
  one_spot b at = Some (b, at)

  abbrev held_there : ℕ × List ℤ → Value
  held_there t = s.cells t.0 t.1

  cells_there : (x : ℕ) (shape : Shape) → inner.scene.buffers x ≡ Some shape → (is : List ℤ) → in_range is shape.dims ≡ true → IsHeld (inner.cells x is) (m.contents (spot_of inside x shape is).object (spot_of inside x shape is).offset)
  cells_there x shape k is r =
      let q = part x shape k in
      let c = cell_under x shape q is r in
      let value : inner.cells x is ≡ s.cells q.seen.buffer c.at =
      entry_law (ℕ × List ℤ) one_spot held_there ps gs s inner e.distinct e.entered (λ b at. refl) x is
      ∙ ap (λ o. stored held_there (spots_through one_spot o is)) q.base
      ∙ ap (λ o. stored held_there (then_do o (one_spot q.seen.buffer))) c.seen in
      subst (λ p. IsHeld (inner.cells x is) (m.contents p.object p.offset)) (sym c.spot)
      (subst (λ v. IsHeld v (m.contents (spot_of layout q.seen.buffer q.part.shape c.at).object (spot_of layout q.seen.buffer q.part.shape c.at).offset)) (sym value)
      (match.cells q.seen.buffer q.part.shape q.part.buffer c.at c.inside))

  apart_there : AreApartIn own.stored inside inner.scene.buffers
  apart_there b c shape other k l may is js r q same =
      let pb = part b shape k in
      let pc = part c other l in
      let cb = cell_under b shape pb is r in
      let cd = cell_under c other pc js q in
      let one = match.apart pb.seen.buffer pc.seen.buffer pb.part.shape pc.part.shape pb.part.buffer pc.part.buffer (e.may c pc.seen may pc.base) cb.at cd.at cb.inside cd.inside (sym cb.spot ∙ same ∙ cd.spot) in
      go pb.seen pc.seen pb.base pc.base cb.at cd.at cb.seen cd.seen one.0 one.1 (c == b) refl
    where
      go : (z y : Seen) → base_of ps gs b ≡ Some z → base_of ps gs c ≡ Some y → (at to : List ℤ) → cell_at z.sides is ≡ Some at → cell_at y.sides js ≡ Some to → z.buffer ≡ y.buffer → at ≡ to → (d : Bool) → (c == b) ≡ d → (b ≡ c) × (is ≡ js)
      go z y u v at to f h i j false d = absurd (e.apart c b y z may d v u js is to (sym i) h (f ∙ ap (λ w. Some w) j))
      go z y u v at to f h i j true d =
          let id = eqb-true c b d in
          let seen : z ≡ y = some_same (sym u ∙ ap (base_of ps gs) (sym id) ∙ v) in
          (sym id, some_same (sym (index_at_cell z.sides is at f) ∙ ap₂ (λ (w : Seen) l. index_of w.sides l) seen j ∙ index_at_cell y.sides js to h))

  -- ---- roots

  kind_rooted : (x : ℕ) (kind : ParamKind) (v : Given) (seen : Seen) → IsBound s inner.scene x kind v → inner.scene.views x ≡ Some seen → seen.buffer ≡ x
  kind_rooted x (ControlParam kind) v seen b k = absurd (no_some (sym b.1 ∙ k))
  kind_rooted x (TensorParam cell dims memory) (GivenNumber n) seen b k = absurd b
  kind_rooted x (TensorParam cell dims memory) (GivenView z) seen b k = ap (λ w. w.buffer) (some_same (sym k ∙ b.view))
  kind_rooted x (WindowParam cell dims memory) (GivenNumber n) seen b k = absurd b
  kind_rooted x (WindowParam cell dims memory) (GivenView z) seen b k = ap (λ w. w.buffer) (some_same (sym k ∙ b.view))

  roots_there : HasRoots (λ x. x) inner.scene
  roots_there x seen k = go (is_buffer_of x ps) refl
    where
      go : (d : Bool) → is_buffer_of x ps ≡ d → seen.buffer ≡ x
      go false i = absurd (no_some (sym (has.no_others x i).1 ∙ k))
      go true i = let q = param x i in kind_rooted x q.kind q.given seen q.bound k

  pub entered_match : Matches own (param_forms ps) bounds (λ x. x) inside inner (with_names names m)
  entered_match = record {
    names = all_stand;
    fields = fields_stand;
    functions = functions_stand;
    cells = cells_there;
    known = λ b shape k. there b (is_param layout s inner ps gs has b shape k);
    placed = λ b shape k. let q = part b shape k in part_placed layout s inner ps gs m.setting.objects m.setting.free b shape q (placed_under b shape q);
    apart = apart_there;
    roots = roots_there;
  }
