-- From the same input a state and a machine match where a function begins.
use Rattle.std.proofs.Common.{◌≡◌, ◌^◌, ◌==◌, ◌||◌, ℕ, suc, ℤ, pos, ◌+ℤ◌, ◌≤ℤ◌, Bool, true, false, cond, List, [], ◌∷◌, length, Option, Some, refl, sym, ap, ap₂, ◌∙◌, subst, arith, true≢false, eqb-true}
use Rattle.std.proofs.lemmas.Int.{ints}
use Rattle.std.proofs.lemmas.Bool.{and_parts}
use Rattle.std.proofs.Math.IntN.{+ℤ_idl, *ℤ_comm, *ℤ-zero}
use Rattle.exo_tree.specs.Tree.{Cell, I32, Control, Param, ParamKind, ControlParam, TensorParam, WindowParam, Procedure}
use Rattle.exo_meaning.specs.Value.{Value, Undefined, Number, wrap}
use Rattle.exo_meaning.specs.Scene.{Shape, Seen, whole, extents, strides_of, LieWithin, numbers}
use Rattle.exo_meaning.specs.State.{State}
use Rattle.exo_meaning.specs.Calls.{all_positive}
use Rattle.exo_meaning.specs.Run.{World, product, row_major, tensor}
use Rattle.exo_meaning.specs.Inputs.{AreArguments, IsArgument, is_buffer_of, FitsCell, IsValid, IsBetween, has_extents, all_have_extents}
use Rattle.exo_meaning.specs.Orders.{Each}
use Rattle.exo_meaning.specs.Laws.{HasRoots}
use Rattle.c_tree.specs.CTree.{Name}
use Rattle.c_unit_laws.specs.Follows.Machine.Machine.{Pointer, Thing, IsFunction, IsWindow, Machine}
use Rattle.c_unit_laws.specs.Follows.Machine.Machine.{moved}
use Rattle.c_unit_laws.specs.Follows.Machine.CRun.{with_names}
use Rattle.c_lowering.specs.Made.Lowered.{Naming, Forms, form_of, param_forms}
use Rattle.c_unit_laws.specs.Follows.Simulation.{Ground, AreSameFields, Layout, HasForm, IsPlaced}
use Rattle.c_unit_laws.specs.Follows.Simulation.{Matches, IsHeld, lower_ends, dot, in_range}
use Rattle.c_unit_laws.specs.Follows.Simulation.{spot_of}
use Rattle.c_unit_laws.specs.Follows.Good.{IsGoodParam, AreGoodParams}
use Rattle.c_unit_laws.specs.Follows.SameInput.{IsSame, IsSameTensor, IsSameWindow, AreSame}
use Rattle.c_unit_laws.specs.Follows.SameInput.{AreSeparate}
use Rattle.c_unit_laws.specs.Follows.Functions.{IsSmall, AreSmall}
use Rattle.exo_meaning.proofs.Wrap.{wrap_laws}
use Rattle.c_unit_laws.proofs.OfFollows.Offsets.{injective}
use Rattle.c_unit_laws.proofs.OfFollows.Windows.{some_same, no_some}
use Rattle.c_unit_laws.proofs.OfFollows.Scopes.{numbers_by_control}
use Rattle.c_unit_laws.proofs.OfFollows.Counts.{rows_small, row_ranks, row_inside}
use Rattle.c_unit_laws.proofs.OfFollows.Handed.{whole_in_whole}
use Rattle.c_unit_laws.proofs.OfFollows.Bound.{thing_of, param_there}

-- a number that fits a cell fits 32 bits
fits_held : (cell : Cell) (v w : Value) → FitsCell cell v → w ≡ v → IsHeld v w
fits_held cell Undefined w h e = tt
fits_held cell (Number n) w h e = (e, ap (wrap I32) (sym h) ∙ wrap_laws.narrow cell n ∙ h)

-- ---- the whole of a buffer

pub whole_begins : (ds ts : List ℤ) → dot (lower_ends (whole ds)) ts ≡ pos 0
whole_begins [] ts = refl
whole_begins (d ∷ ds) [] = refl
whole_begins (d ∷ ds) (t ∷ ts) = ap₂ (λ a b. a +ℤ b) (*ℤ_comm (pos 0) t ∙ *ℤ-zero t) (whole_begins ds ts)

pub all_strides : (ds ts : List ℤ) → length ts ≡ length ds → strides_of (whole ds) ts ≡ ts
all_strides [] [] e = refl
all_strides [] (t ∷ ts) e = absurd (omega (arith, e))
all_strides (d ∷ ds) [] e = absurd (omega (arith, e))
all_strides (d ∷ ds) (t ∷ ts) e = ap (λ us. t ∷ us) (all_strides ds ts (omega (arith, e)))

pub all_extents : (ds : List ℤ) → extents (whole ds) ≡ ds
all_extents [] = refl
all_extents (d ∷ ds) = ap (λ es. d ∷ es) (all_extents ds)

plus_zero : (z : ℤ) → z +ℤ pos 0 ≡ z
plus_zero z = omega (arith, ints)

up_to : (a b c : ℤ) → a ≤ℤ b → b ≤ℤ c → a ≤ℤ c
up_to a b c h k = omega (arith, ints, h, k)

pub at_first : (p : Pointer) (k : ℤ) → k ≡ pos 0 → moved p k ≡ p
at_first p k e = ap (λ z. record { object = p.object; offset = z }) (ap (λ z. p.offset +ℤ z) e ∙ plus_zero p.offset)

module _ (layout : Layout) (s : State) (m : Machine) where
  -- ---- what a buffer is

  -- where it lies, and what it holds there
  record IsHere (b : ℕ) (shape : Shape) : Type 0 where
    placed : IsPlaced layout m.setting.objects m.setting.free b shape
    contents : (at : List ℤ) → in_range at shape.dims ≡ true → m.contents (layout b).object ((layout b).offset +ℤ dot at shape.strides) ≡ s.cells b at
    apart : (at bt : List ℤ) → in_range at shape.dims ≡ true → in_range bt shape.dims ≡ true → dot at shape.strides ≡ dot bt shape.strides → at ≡ bt

  module _ (few : (b : ℕ) (shape : Shape) → s.scene.buffers b ≡ Some shape → product shape.dims ≤ℤ pos (2 ^ 48)) (strides : (b : ℕ) (shape : Shape) → s.scene.buffers b ≡ Some shape → Each (IsBetween (pos 0) (pos (2 ^ 48))) shape.strides) where
    tensor_here : (x : ℕ) (cell : Cell) (ds : List ℤ) (t : Thing) → s.scene.buffers x ≡ Some (tensor cell ds) → all_positive ds ≡ true → IsSameTensor layout s m x cell ds t → IsHere x (tensor cell ds)
    tensor_here x cell ds t e above h = record {
      placed = record {
        object = h.object;
        there = h.there;
        below = h.below;
        same_cell = h.same_cell;
        few = h.few;
        above = subst (λ z. pos 0 ≤ℤ z) (sym h.begins) (omega (arith, ints));
        positive = above;
        ranks = row_ranks ds;
        strides = rows_small ds above (few x (tensor cell ds) e);
        inside = λ at r. subst (λ z. ((z +ℤ dot at (row_major ds)) +ℤ pos 1) ≤ℤ h.object.size) (sym h.begins) (up_to _ (product ds) h.object.size (row_inside at ds (product ds) refl r) h.room);
      };
      contents = λ at r. ap (λ z. m.contents (layout x).object (z +ℤ dot at (row_major ds))) h.begins ∙ ap (λ z. m.contents (layout x).object z) (+ℤ_idl (dot at (row_major ds))) ∙ h.contents at r;
      apart = λ at bt r q k. injective at bt ds r q k;
    }

    window_here : (x : ℕ) (cell : Cell) (ds ts : List ℤ) (t : Thing) → s.scene.buffers x ≡ Some (record { cell = cell; dims = ds; strides = ts }) → all_positive ds ≡ true → IsSameWindow layout s m x cell ds t → IsHere x (record { cell = cell; dims = ds; strides = ts })
    window_here x cell ds ts t e above h =
        let same : h.shape.strides ≡ ts = ap (λ z. z.strides) (some_same (sym h.buffer ∙ e)) in
        record {
          placed = record {
            object = h.object;
            there = h.there;
            below = h.below;
            same_cell = h.same_cell;
            few = h.few;
            above = h.above;
            positive = above;
            ranks = sym (ap (λ z. length z) same) ∙ h.ranks;
            strides = strides x (record { cell = cell; dims = ds; strides = ts }) e;
            inside = λ at r. subst (λ z. (((layout x).offset +ℤ dot at z) +ℤ pos 1) ≤ℤ h.object.size) same (h.inside at r);
          };
          contents = λ at r. ap (λ z. m.contents (layout x).object ((layout x).offset +ℤ dot at z)) (sym same) ∙ h.contents at r;
          apart = λ at bt r q k. h.apart at bt r q (ap (λ z. dot at z) same ∙ k ∙ sym (ap (λ z. dot bt z) same));
        }

    kind_here : (x : ℕ) (kind : ParamKind) (t : Thing) (shape : Shape) → IsArgument s.scene x kind → IsSame layout s m x kind t → has_extents s.scene kind ≡ true → s.scene.buffers x ≡ Some shape → IsHere x shape
    kind_here x (ControlParam kind) t shape a h i e = absurd (no_some (sym a.1 ∙ e))
    kind_here x (TensorParam cell dims memory) t shape a h i e = subst (IsHere x) (some_same (sym a.0 ∙ e)) (tensor_here x cell (numbers s.scene dims) t a.0 i h)
    kind_here x (WindowParam cell dims memory) t shape a h i e = subst (IsHere x) (some_same (sym a.1.0 ∙ e)) (window_here x cell (numbers s.scene dims) a.0 t a.1.0 i h)

    param_here : (ps : List Param) (ts : List Thing) → AreArguments s.scene ps → AreSame layout s m ps ts → all_have_extents s.scene ps ≡ true → (b : ℕ) (shape : Shape) → is_buffer_of b ps ≡ true → s.scene.buffers b ≡ Some shape → IsHere b shape
    param_here [] ts a h i b shape j e = absurd (true≢false (sym j))
    param_here (p ∷ ps) [] a h i b shape j e = absurd h
    param_here (p ∷ ps) (t ∷ ts) a h i b shape j e = pick (b == p.binder.id) refl j (λ k. param_here ps ts a.1 h.1 parts.1 b shape k e)
      where
        parts : (has_extents s.scene p.kind ≡ true) × (all_have_extents s.scene ps ≡ true)
        parts = and_parts (has_extents s.scene p.kind) (all_have_extents s.scene ps) i

        pick : (d : Bool) → (b == p.binder.id) ≡ d → (d || is_buffer_of b ps) ≡ true → (is_buffer_of b ps ≡ true → IsHere b shape) → IsHere b shape
        pick true d k rest =
            let same = eqb-true b p.binder.id d in
            kind_here b p.kind t shape (subst (λ y. IsArgument s.scene y p.kind) (sym same) a.0) (subst (λ y. IsSame layout s m y p.kind t) (sym same) h.0) parts.0 e
        pick false d k rest = rest k

    -- ---- what a name is

    module _ (naming : Naming) (forms : Forms) (most : ℕ → ℕ) (names : Name → Option Thing) where
      abbrev Form : ℕ → ParamKind → Type 0
      Form x kind = HasForm naming forms most layout s.scene.control s.scene.buffers s.scene.views names x (form_of kind)

      numbers_length : (dims : List Control) → length (numbers s.scene dims) ≡ length dims
      numbers_length [] = refl
      numbers_length (d ∷ dims) = ap suc (numbers_length dims)

      form_here : (x : ℕ) (kind : ParamKind) (t : Thing) → IsArgument s.scene x kind → IsSame layout s m x kind t → IsGoodParam forms most kind → has_extents s.scene kind ≡ true → IsSmall s most x kind → names (naming.binder x) ≡ Some t → Form x kind
      form_here x (ControlParam kind) t a h g i small e = record { name = e ∙ ap (λ z. Some z) h; small = small }
      form_here x (TensorParam cell dims memory) t a h g i small e = record {
        extents = numbers s.scene dims;
        plain = g.0;
        narrow = g.1;
        numbers_are = λ scene k. numbers_by_control forms scene s.scene k dims g.0;
        shape = a.0;
        view = a.1;
        positive = i;
        few = few x _ a.0;
        last = tt;
        name = e ∙ ap (λ z. Some z) h.thing;
      }
      form_here x (WindowParam cell dims memory) t a h g i small e =
          let same = some_same (sym h.buffer ∙ a.1.0) in
          let ds = numbers s.scene dims in
          record {
            seen = record { buffer = x; sides = whole ds };
            shape = h.shape;
            view = a.1.1;
            buffer = h.buffer;
            within = subst (λ z. LieWithin (whole z) (whole ds)) (sym (ap (λ z. z.dims) same)) (whole_in_whole ds);
            full = ap all_positive (all_extents ds) ∙ i;
            rank_is = ap (λ z. length z) (all_extents ds) ∙ numbers_length dims;
            cell_is = ap (λ z. z.cell) same;
            name = e ∙ ap (λ z. Some z) h.thing ∙ ap₂ (λ p z. Some (IsWindow p z)) (sym (at_first (layout x) (dot (lower_ends (whole ds)) h.shape.strides) (whole_begins ds h.shape.strides))) (sym (all_strides ds h.shape.strides h.ranks));
          }

      names_here : (ps : List Param) (ts : List Thing) → AreArguments s.scene ps → AreSame layout s m ps ts → AreGoodParams forms most ps → all_have_extents s.scene ps ≡ true → AreSmall s most ps → (x : ℕ) → (is_buffer_of x ps ≡ true → names (naming.binder x) ≡ thing_of ps ts x) → HasForm naming forms most layout s.scene.control s.scene.buffers s.scene.views names x (param_forms ps x)
      names_here [] ts a h g i small x e = tt
      names_here (p ∷ ps) [] a h g i small x e = absurd h
      names_here (p ∷ ps) (t ∷ ts) a h g i small x e = pick (x == p.binder.id) refl e (λ k. names_here ps ts a.1 h.1 g.1 parts.1 small.1 x k)
        where
          parts : (has_extents s.scene p.kind ≡ true) × (all_have_extents s.scene ps ≡ true)
          parts = and_parts (has_extents s.scene p.kind) (all_have_extents s.scene ps) i

          or_right : (a b : Bool) → b ≡ true → (a || b) ≡ true
          or_right true b k = refl
          or_right false b k = k

          pick : (d : Bool) → (x == p.binder.id) ≡ d → ((d || is_buffer_of x ps) ≡ true → names (naming.binder x) ≡ cond d (Some t) (thing_of ps ts x)) → ((is_buffer_of x ps ≡ true → names (naming.binder x) ≡ thing_of ps ts x) → HasForm naming forms most layout s.scene.control s.scene.buffers s.scene.views names x (param_forms ps x)) → HasForm naming forms most layout s.scene.control s.scene.buffers s.scene.views names x (cond d (form_of p.kind) (param_forms ps x))
          pick true d k rest =
              let same = eqb-true x p.binder.id d in
              form_here x p.kind t (subst (λ y. IsArgument s.scene y p.kind) (sym same) a.0) (subst (λ y. IsSame layout s m y p.kind t) (sym same) h.0) g.0 parts.0 (subst (λ y. IsSmall s most y p.kind) (sym same) small.0) (k refl)
          pick false d k rest = rest (λ j. k (or_right false (is_buffer_of x ps) j))

-- ---- roots

kind_rooted : (s : State) (x : ℕ) (kind : ParamKind) (seen : Seen) → IsArgument s.scene x kind → s.scene.views x ≡ Some seen → seen.buffer ≡ x
kind_rooted s x (ControlParam kind) seen a e = absurd (no_some (sym a.2 ∙ e))
kind_rooted s x (TensorParam cell dims memory) seen a e = ap (λ z. z.buffer) (some_same (sym e ∙ a.1))
kind_rooted s x (WindowParam cell dims memory) seen a e = ap (λ z. z.buffer) (some_same (sym e ∙ a.1.1))

-- a parameter sees a buffer of its own
rooted : (s : State) (ps : List Param) → AreArguments s.scene ps → (x : ℕ) (seen : Seen) → is_buffer_of x ps ≡ true → s.scene.views x ≡ Some seen → seen.buffer ≡ x
rooted s [] a x seen i e = absurd (true≢false (sym i))
rooted s (p ∷ ps) a x seen i e = pick (x == p.binder.id) refl i (λ k. rooted s ps a.1 x seen k e)
  where
    pick : (d : Bool) → (x == p.binder.id) ≡ d → (d || is_buffer_of x ps) ≡ true → (is_buffer_of x ps ≡ true → seen.buffer ≡ x) → seen.buffer ≡ x
    pick true d k rest = kind_rooted s x p.kind seen (subst (λ y. IsArgument s.scene y p.kind) (sym (eqb-true x p.binder.id d)) a.0) e
    pick false d k rest = rest k

-- ---- the match

-- A valid input of a procedure, and the same things for its function; the names stand for these things, for the fields
-- and for the functions.
pub begun : (g : Ground) (most : ℕ → ℕ) (layout : Layout) (world : World) (p : Procedure) (s : State) (m : Machine) (ts : List Thing) (names : Name → Option Thing) → IsValid world p s → all_have_extents s.scene p.params ≡ true → AreSame layout s m p.params ts → AreSeparate layout s → AreSmall s most p.params → AreGoodParams (param_forms p.params) most p.params → ((x : ℕ) → is_buffer_of x p.params ≡ true → names (g.naming.binder x) ≡ thing_of p.params ts x) → AreSameFields g.naming g.declared s.scene.fields names m.setting.fields → ((f : Name) → g.function f ≡ true → names f ≡ Some IsFunction) → Matches g (param_forms p.params) most (λ x. x) layout s (with_names names m)
begun g most layout world p s m ts names valid extents_are same separate small good named fields functions = record {
  names = λ x. names_here layout s m valid.cells valid.strides g.naming (param_forms p.params) most names p.params ts valid.admissible.arguments same good extents_are small x (named x);
  fields = fields;
  functions = functions;
  cells = λ b shape e at r. fits_held shape.cell (s.cells b at) _ (valid.admissible.cells b shape e at) ((here b shape e).contents at r);
  known = λ b shape e. param_there p.params b (is_param b shape e);
  placed = λ b shape e. (here b shape e).placed;
  apart = λ b c shape other e f may at bt r q one. apart_here b c shape other e f at bt r q one;
  roots = roots_here;
}
  where
    is_param : (b : ℕ) (shape : Shape) → s.scene.buffers b ≡ Some shape → is_buffer_of b p.params ≡ true
    is_param b shape e = pick (is_buffer_of b p.params) refl
      where
        pick : (t : Bool) → is_buffer_of b p.params ≡ t → t ≡ true
        pick true i = refl
        pick false i = absurd (no_some (sym (valid.admissible.no_others b i).1 ∙ e))

    here : (b : ℕ) (shape : Shape) → s.scene.buffers b ≡ Some shape → IsHere layout s m b shape
    here b shape e = param_here layout s m valid.cells valid.strides p.params ts valid.admissible.arguments same extents_are b shape (is_param b shape e) e

    apart_here : (b c : ℕ) (shape other : Shape) → s.scene.buffers b ≡ Some shape → s.scene.buffers c ≡ Some other → (at bt : List ℤ) → in_range at shape.dims ≡ true → in_range bt other.dims ≡ true → spot_of layout b shape at ≡ spot_of layout c other bt → (b ≡ c) × (at ≡ bt)
    apart_here b c shape other e f at bt r q one =
        let id = separate b c shape other e f at bt r q one in
        let shapes : shape ≡ other = some_same (sym e ∙ ap s.scene.buffers id ∙ f) in
        let there : (layout b).offset +ℤ dot at shape.strides ≡ (layout b).offset +ℤ dot bt shape.strides = ap (λ z. z.offset) one ∙ ap₂ (λ k z. (layout k).offset +ℤ dot bt z.strides) (sym id) (sym shapes) in
        (id, (here b shape e).apart at bt r (subst (λ z. in_range bt z.dims ≡ true) (sym shapes) q) (without (layout b).offset (dot at shape.strides) (dot bt shape.strides) there))
      where
        without : (a b c : ℤ) → a +ℤ b ≡ a +ℤ c → b ≡ c
        without a b c k = omega (arith, ints, k)

    is_name : (x : ℕ) (seen : Seen) → s.scene.views x ≡ Some seen → is_buffer_of x p.params ≡ true
    is_name x seen e = pick (is_buffer_of x p.params) refl
      where
        pick : (t : Bool) → is_buffer_of x p.params ≡ t → t ≡ true
        pick true i = refl
        pick false i = absurd (no_some (sym (valid.admissible.no_others x i).2 ∙ e))

    roots_here : HasRoots (λ x. x) s.scene
    roots_here x seen e = rooted s p.params valid.admissible.arguments x seen (is_name x seen e) e
