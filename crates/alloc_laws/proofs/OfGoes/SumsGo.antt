-- A block that only adds to a window and may leave names of its own, on a buffer from 0.
use Rattle.std.proofs.Common.{◌≡◌, ◌==◌, ◌||◌, ℕ, ℤ, pos, Bool, true, false, cond, List}
use Rattle.std.proofs.Common.{Some, IsSome, option_map, true≢false, eqb-true, refl, sym, ap, ap₂, ◌∙◌, subst}
use Rattle.exo_tree.specs.Tree.{Cell, Binder, Control, Coord, Alloc, Assign, Reduce, Const, Read}
use Rattle.exo_tree.specs.Tree.{Block, end, next, joined, Procedure, ConfigField}
use Rattle.exo_meaning.specs.Value.{Value}
use Rattle.exo_meaning.specs.Scene.{Seen, Scene, updated, window, extents}
use Rattle.exo_meaning.specs.State.{State, on_scene, with_view}
use Rattle.exo_meaning.specs.Footprint.{changed_by, added}
use Rattle.exo_meaning.specs.Run.{World, run, writes, tensor, kinds_of, unit_world}
use Rattle.exo_meaning.specs.Laws.{IsKept}
use Rattle.exo_meaning.specs.Units.{Scope}
use Rattle.exo_meaning.specs.Unseen.{SameBut}
use Rattle.exo_meaning.proofs.Compose.{compose}
use Rattle.exo_meaning.proofs.Frame.{or_parts, updated_other, others_are_kept}
use Rattle.meaning_laws.specs.Context.{RefinedBut}
use Rattle.meaning_laws.proofs.Names.{if_gives}
use Rattle.meaning_laws.proofs.Parts.{then_gives, some_injective, map_gives, both_back}
use Rattle.inplace_laws.specs.Filled.{Loop}
use Rattle.inplace_laws.specs.Staged.{staged}
use Rattle.inplace_laws.specs.Windows.{shifted}
use Rattle.place_laws.specs.Scope.Scopes.{top_binders, HasNone}
use Rattle.place_laws.proofs.OfScope.Scopes.{joined_binders}
use Rattle.buffer_laws.specs.Staging.Stores.{variables}
use Rattle.buffer_laws.specs.Staging.Alone.{has_root}
use Rattle.buffer_laws.specs.Staging.Stage.{AreAlike}
use Rattle.buffer_laws.proofs.OfStaging.ReadsOn.{other}
use Rattle.buffer_laws.specs.Staging.Converted.{converted}
use Rattle.buffer_laws.specs.Staging.Known.{AreMade, IsKnown}
use Rattle.buffer_laws.specs.Staging.Readers.{IsLoaded}
use Rattle.buffer_laws.specs.Accumulated.{from_zero, adding}
use Rattle.buffer_laws.specs.StageAccum.{OnlyAdds}
use Rattle.buffer_laws.specs.StageMem.{roots_behind}
use Rattle.buffer_laws.specs.Sums.{zero_nest, sum_nest, zeroed, zeros, sums, between_sums}
use Rattle.buffer_laws.proofs.SumEnds.{IsApart, both}
use Rattle.buffer_laws.proofs.Shown.{block}
use Rattle.buffer_laws.proofs.SumsStand.{no_names, sees as window_is_there, loaded, exchanged}
use Rattle.buffer_laws.proofs.SumsStand.{first_is, last_is, Stands, all_alike}
use Rattle.buffer_laws.specs.Stride.OnView.{LiesWithin}
use Rattle.buffer_laws.specs.Stride.Passed.{ArePassed}
use Rattle.buffer_laws.specs.Stride.Staged.{MayStageBlind}
use Rattle.buffer_laws.proofs.OfStride.Passed.{may_stage}
use Rattle.buffer_laws.specs.Stride.Strides.{WhereBoth, CallsAreBlind}
use Rattle.buffer_laws.proofs.OfStride.PassedSums.{no_known, no_made, zero_may, zero_converts, zero_lies}
use Rattle.buffer_laws.proofs.OfStride.PassedSums.{stands}
use Rattle.buffer_laws.proofs.OfStride.ViewedRuns.{on_view_law}
use Rattle.alloc_laws.specs.Goes.EndsStand.{EndsStand}
use Rattle.alloc_laws.specs.Goes.Goes.{goes, EndsWell, SumsGo, UnseenGoes}
use Rattle.alloc_laws.proofs.OfGoes.EndsStand.{names_stand}
use Rattle.alloc_laws.proofs.OfGoes.Bound.{not_left}
use Rattle.alloc_laws.proofs.OfGoes.Goes.{NamesKeep, refined}
use Rattle.alloc_laws.proofs.OfGoes.StagedGoes.{copy_other, within, inner_binders, is_its_root}
use Rattle.alloc_laws.proofs.OfGoes.StagedGoes.{root_there, left_shown}

module _ (fields : List ConfigField) (memories : ℕ) (ps : List Procedure) (scope : Scope)
    (sees : ℕ → ℕ → Bool) (root : ℕ → ℕ) (a : Binder) (cell : Cell) (dims sides : List Control)
    (memory x : ℕ) (coords : List Coord) (ls ks : List Loop) (b : Block) (s : State)
    (calls : CallsAreBlind (unit_world (kinds_of fields) ps) sees)
    (made : ArePassed (unit_world (kinds_of fields) ps).callees sees root a dims x coords ls ks b)
    (known : IsKnown (unit_world (kinds_of fields) ps) root a cell x coords b s)
    (lies : LiesWithin (unit_world (kinds_of fields) ps) x sides coords b s)
    (adds : OnlyAdds fields memories ps scope root x b s) where
  abbrev world : World
  world = unit_world (kinds_of fields) ps

  abbrev inner : Block
  inner = converted a.id x coords b

  abbrev is_new : ℕ → Bool
  is_new y = y == a.id

  abbrev first_part : Block
  first_part = next (Alloc a cell dims memory) (zero_nest a.id ls)

  abbrev sum_part : Block
  sum_part = sum_nest a.id x coords ks

  abbrev its_known : IsKnown world root a cell x coords end s
  its_known = no_known fields memories ps scope sees root a cell dims sides memory x coords ls ks b
      s calls made known lies adds

  abbrev its_made : AreMade is_new root a dims x coords ls ks end
  its_made = no_made fields memories ps scope sees root a cell dims sides memory x coords ls ks b
      s calls made known lies adds

  abbrev IsThere : Type 0
  IsThere = IsLoaded is_new world root a cell dims x coords ls end s

  module _ (k : IsThere) where
    abbrev seen : Seen
    seen = k.seen

    abbrev hidden : ℕ → Bool
    hidden = has_root (updated root a.id a.id) seen.buffer

    abbrev zero : State
    zero = from_zero seen.buffer s

    abbrev beside : State
    beside = zeroed a.id seen k.to s

    abbrev on_zeros : State
    on_zeros = staged a.id seen k.to zero

    its_root : seen.buffer ≡ root x
    its_root = is_its_root world sees root a cell dims memory x coords ls ks b s made known k

    it_stands : Stands fields memories ps scope is_new root a cell dims memory x coords ls ks b inner
        s its_made its_known adds made.name k
    it_stands = stands fields memories ps scope sees root a cell dims sides memory x coords ls ks b
        s calls made known lies adds k

    may : MayStageBlind hidden world sees (updated root a.id a.id) a.id seen k.to inner s
    may = may_stage world sees root a cell dims memory x coords ls ks b s made known k

    apart : IsApart hidden world (updated root a.id a.id) a.id seen k.to inner s
    apart = record {
      sound = may.sound;
      there = may.there;
      new = may.new;
      shown = may.shown;
      hides = may.hides;
      only = may.only;
      views = may.views;
      names = sym (block hidden inner) ∙ may.names;
      roots = may.roots;
      not_written = may.not_written;
    }

    added_there : (cells : List ℤ → Value) (o : State) (y : ℕ) (at : List ℤ)
        → (y == seen.buffer) ≡ false
        → (changed_by (adding k.to.cell cells seen.buffer) o).cells y at ≡ o.cells y at
    added_there cells o y at h = ap (λ r. cond r
        (added k.to.cell (cells at) (o.cells y at)) (o.cells y at)) h

    module _ (u o z : State) (old : run world b zero ≡ Some o)
        (zeroes : run world inner on_zeros ≡ Some z) (like : SameBut hidden z u) where
      stand : EndsStand hidden a.id seen z (on_scene (with_view a.id seen) o)
      stand = subst (λ p. WhereBoth (EndsStand hidden a.id seen) (Some z) p)
          (on_view_law world a.id x seen sides coords b zero
          (zero_converts fields memories ps scope sees root a cell dims sides memory x coords ls ks
          b s calls made known lies adds k)
          (zero_lies fields memories ps scope sees root a cell dims sides memory x coords ls ks b s
          calls made known lies adds k)
          ∙ ap (option_map (on_scene (with_view a.id seen))) old)
          (subst (λ p. WhereBoth (EndsStand hidden a.id seen) p
          (run world inner (on_scene (with_view a.id seen) zero))) zeroes
          (names_stand hidden world sees (updated root a.id a.id) a.id seen k.to inner zero calls
          (zero_may fields memories ps scope sees root a cell dims sides memory x coords ls ks b s
          calls made known lies adds k)))

      keeps : (t v : State) → t.scene ≡ o.scene
          → ((y : ℕ) (at : List ℤ) → (y == seen.buffer) ≡ false → t.cells y at ≡ o.cells y at)
          → v.scene ≡ u.scene
          → ((y : ℕ) (at : List ℤ) → (y == seen.buffer) ≡ false → v.cells y at ≡ u.cells y at)
          → NamesKeep hidden a.id (root x) t v
      keeps t v from cells_from same cells = record {
        control = λ y h n. ap (λ (w : Scene). w.control y) from ∙ sym (stand.control y h)
            ∙ like.control y h ∙ ap (λ (w : Scene). w.control y) (sym same);
        buffers = λ y h n. ap (λ (w : Scene). w.buffers y) from ∙ sym (stand.buffers y h n)
            ∙ like.buffers y h ∙ ap (λ (w : Scene). w.buffers y) (sym same);
        views = λ y h n q.
            let other = updated_other o.scene.views a.id (Some seen) y n in
            ap (λ (w : Scene). w.views y) from ∙ sym other
            ∙ sym (stand.views y h (λ w m. ap (λ i. w.buffer == i) its_root
            ∙ q w (ap (λ (c : Scene). c.views y) from ∙ sym other ∙ m)))
            ∙ like.views y h ∙ ap (λ (w : Scene). w.views y) (sym same);
        cells = λ y h n r at.
            let apart = ap (λ i. y == i) its_root ∙ r in
            cells_from y at apart ∙ sym (stand.cells y h n at)
            ∙ ap (λ c. c at) (like.cells y h) ∙ sym (cells y at apart);
      }

    all_keep : (u t v : State) → run world inner beside ≡ Some u → run world b s ≡ Some t
        → run world sum_part u ≡ Some v → NamesKeep hidden a.id (root x) t v
    all_keep u t v f e g =
        let old = map_gives (run world b zero)
        (changed_by (adding k.to.cell (s.cells seen.buffer) seen.buffer)) t
        (sym (exchanged fields memories ps scope is_new root a cell dims memory x coords ls ks b
        inner s its_made its_known adds made.name k) ∙ e) in
        let z = both_back (SameBut hidden) (run world inner on_zeros) (run world inner beside) u f
        (both hidden world (updated root a.id a.id) a.id seen k.to inner s apart) in
        let is = some_injective _ v (sym (last_is fields memories ps scope is_new root a cell dims
        memory x coords ls ks b inner s its_made its_known adds made.name k it_stands.between u f)
        ∙ g) in
        keeps u old.0 z.0 old.1 z.1 z.2 t v (ap (λ (w : State). w.scene) (sym old.2))
        (λ y at h. ap (λ (w : State). w.cells y at) (sym old.2)
        ∙ added_there (s.cells seen.buffer) old.0 y at h)
        (ap (λ (w : State). w.scene) (sym is))
        (λ y at h. ap (λ (w : State). w.cells y at) (sym is)
        ∙ copy_other seen (sums k.to.cell (u.cells a.id) u.cells seen) u.cells y at h)

  abbrev new : Block
  new = between_sums a cell dims memory x coords ls ks inner

  new_binders : (y : ℕ) → ((y == a.id) || top_binders b y) ≡ false → top_binders new y ≡ false
  new_binders y h =
      let p = or_parts (y == a.id) (top_binders b y) h in
      joined_binders first_part (joined inner sum_part) y
      ∙ ap₂ ◌||◌ (ap₂ ◌||◌ p.0 (no_names ls (Assign a.id (variables ls) (Const (pos 0))) y refl))
      (joined_binders inner sum_part y ∙ ap₂ ◌||◌
      (inner_binders world sees root a cell dims memory x coords ls ks b s made known y p.1)
      (no_names ks (Reduce x (shifted coords (variables ks)) (Read a.id (variables ks))) y refl))

  pub all_go : HasNone (λ y. (y == a.id) || top_binders b y) s → (t v : State)
      → run world b s ≡ Some t → EndsWell root b t → run world new s ≡ Some v
      → RefinedBut (goes root a.id x b) t v
  all_go none t v e ends f =
      let m = then_gives (run world first_part s) (run world (joined inner sum_part)) v
      (sym (compose world first_part (joined inner sum_part) s) ∙ f) in
      let n = then_gives (run world inner m.0) (run world sum_part) v
      (sym (compose world inner sum_part m.0) ∙ m.2) in
      let k : IsThere = loaded fields memories ps scope is_new root a cell dims memory x coords ls
      ks b inner s its_made its_known adds made.name _ refl
      (window_is_there fields memories ps scope is_new root a cell dims memory x coords ls ks b inner
      s its_made its_known adds made.name m.0 n.0 v m.1 n.1 n.2) in
      let goes_on = subst (λ z. run world inner z ≡ Some n.0)
      (some_injective m.0 (zeroed a.id k.seen k.to s) (sym m.1
      ∙ first_is fields memories ps scope is_new root a cell dims memory x coords ls ks b inner s
      its_made its_known adds made.name k)) n.1 in
      refined world root a.id x b new s (has_root (updated root a.id a.id) k.seen.buffer) none
      known.roots (root_there world sees root a cell dims memory x coords ls ks b s made known k)
      (not_left a.id b made.new.block) new_binders
      (left_shown world sees root a cell dims memory x coords ls ks b s made known k) t v e f
      ends.own_roots
      (all_alike fields memories ps scope is_new root a cell dims memory x coords ls ks b inner s
      its_made its_known adds made.name it_stands t v e f)
      (all_keep k n.0 t v goes_on e n.2)

  -- ---- a block that does not touch the window

  module _ (k : IsThere) (silent : writes world root b (root x) ≡ false) (u t : State)
      (f : run world inner (zeroed a.id k.seen k.to s) ≡ Some u) (e : run world b s ≡ Some t) where
    unseen_keep : NamesKeep (has_root (updated root a.id a.id) k.seen.buffer) a.id (root x) t u
        × (u.scene.fields ≡ t.scene.fields)
    unseen_keep =
        let old = map_gives (run world b (zero k))
        (changed_by (adding k.to.cell (s.cells k.seen.buffer) k.seen.buffer)) t
        (sym (exchanged fields memories ps scope is_new root a cell dims memory x coords ls ks b
        inner s its_made its_known adds made.name k) ∙ e) in
        let z = both_back (SameBut (hidden k)) (run world inner (on_zeros k))
        (run world inner (beside k)) u f
        (both (hidden k) world (updated root a.id a.id) a.id k.seen k.to inner s (apart k)) in (
          keeps k u old.0 z.0 old.1 z.1 z.2 t u (ap (λ (w : State). w.scene) (sym old.2))
              (λ y at h. ap (λ (w : State). w.cells y at) (sym old.2)
              ∙ added_there k (s.cells k.seen.buffer) old.0 y at h) refl (λ y at h. refl),
          sym z.2.fields ∙ ((it_stands k).on_zeros old.0 z.0 old.1 z.1).fields
              ∙ ap (λ (w : State). w.scene.fields) old.2,
        )

    there_is : IsSome (s.scene.buffers k.seen.buffer)
    there_is = subst IsSome (sym k.alone.there) refl

    not_a : (y : ℕ) → IsSome (s.scene.buffers y) → (y == a.id) ≡ false
    not_a y i = go (y == a.id) refl
      where
        go : (r : Bool) → (y == a.id) ≡ r → r ≡ false
        go false m = refl
        go true m = absurd (true≢false (sym (subst IsSome (ap s.scene.buffers (eqb-true y a.id m)
            ∙ known.unbound.buffers) i)))

    -- the window's buffer is left alone by both
    kept_by_new : u.cells k.seen.buffer ≡ s.cells k.seen.buffer
    kept_by_new = (if_gives (IsKept k.seen.buffer (beside k)) (run world inner (beside k)) u
        (others_are_kept world (updated root a.id a.id) inner k.seen.buffer (beside k) (may k).roots
        (subst IsSome (sym (updated_other s.scene.buffers a.id
        (Some (tensor k.to.cell (extents k.seen.sides))) k.seen.buffer
        (not_a k.seen.buffer there_is))) there_is) (may k).not_written) f).cells
        ∙ updated_other s.cells a.id (zeros k.seen) k.seen.buffer (not_a k.seen.buffer there_is)

    kept_by_old : t.cells k.seen.buffer ≡ s.cells k.seen.buffer
    kept_by_old = (if_gives (IsKept k.seen.buffer s) (run world b s) t
        (others_are_kept world root b k.seen.buffer s known.roots there_is
        (ap (writes world root b) (its_root k) ∙ silent)) e).cells

    unseen_alike : AreAlike s u t
    unseen_alike = record {
      fields = unseen_keep.1;
      cells = λ y at i. go y at i (y == k.seen.buffer) refl;
    }
      where
        go : (y : ℕ) (at : List ℤ) → IsSome (s.scene.buffers y) → (r : Bool)
            → (y == k.seen.buffer) ≡ r → u.cells y at ≡ t.cells y at
        go y at i true m = subst (λ n. u.cells n at ≡ t.cells n at)
            (sym (eqb-true y k.seen.buffer m))
            (ap (λ c. c at) (kept_by_new ∙ sym kept_by_old))
        go y at i false m = sym (unseen_keep.0.cells y
            (ap (λ n. k.seen.buffer == n) (updated_other root a.id a.id y (not_a y i)
            ∙ known.own_roots y i) ∙ other y k.seen.buffer m) (not_a y i)
            (ap (λ n. y == n) (sym (its_root k)) ∙ m) at)

  abbrev unseen : Block
  unseen = joined first_part inner

  unseen_binders : (y : ℕ) → ((y == a.id) || top_binders b y) ≡ false
      → top_binders unseen y ≡ false
  unseen_binders y h =
      let p = or_parts (y == a.id) (top_binders b y) h in
      joined_binders first_part inner y
      ∙ ap₂ ◌||◌ (ap₂ ◌||◌ p.0 (no_names ls (Assign a.id (variables ls) (Const (pos 0))) y refl))
      (inner_binders world sees root a cell dims memory x coords ls ks b s made known y p.1)

  pub unseen_go : HasNone (λ y. (y == a.id) || top_binders b y) s
      → writes world root b (root x) ≡ false → IsSome (window s.scene x coords) → (t v : State)
      → run world b s ≡ Some t → EndsWell root b t → run world unseen s ≡ Some v
      → RefinedBut (goes root a.id x b) t v
  unseen_go none silent there t v e ends f =
      let m = then_gives (run world first_part s) (run world inner) v
      (sym (compose world first_part inner s) ∙ f) in
      let k : IsThere = loaded fields memories ps scope is_new root a cell dims memory x coords ls
      ks b inner s its_made its_known adds made.name _ refl there in
      let goes_on = subst (λ z. run world inner z ≡ Some v)
      (some_injective m.0 (zeroed a.id k.seen k.to s) (sym m.1
      ∙ first_is fields memories ps scope is_new root a cell dims memory x coords ls ks b inner s
      its_made its_known adds made.name k)) m.2 in
      refined world root a.id x b unseen s (has_root (updated root a.id a.id) k.seen.buffer) none
      known.roots (root_there world sees root a cell dims memory x coords ls ks b s made known k)
      (not_left a.id b made.new.block) unseen_binders
      (left_shown world sees root a cell dims memory x coords ls ks b s made known k) t v e f
      ends.own_roots (unseen_alike k silent v t goes_on e) (unseen_keep k silent v t goes_on e).0

pub sums_go : SumsGo
sums_go fields memories ps scope sees root a cell dims sides memory x coords ls ks b s calls made it
    adds = record {
      fresh = λ y h. (it.none.unbound y
          (within (y == a.id) (top_binders b y) (roots_behind b root y == root x) h)).buffers;
      runs = λ t v e f.
          let there = it.known t v e f in
          all_go fields memories ps scope sees root a cell dims sides memory x coords ls ks b s calls
          made there.known there.lies adds it.none t v e there.ends f;
    }

pub unseen_goes : UnseenGoes
unseen_goes fields memories ps scope sees root a cell dims sides memory x coords ls b s calls made it
    adds silent is_there = record {
      fresh = λ y h. (it.none.unbound y
          (within (y == a.id) (top_binders b y) (roots_behind b root y == root x) h)).buffers;
      runs = λ t v e f.
          let there = it.known t v e f in
          unseen_go fields memories ps scope sees root a cell dims sides memory x coords ls ls b s calls
          made there.known there.lies adds it.none silent (is_there t v e f) t v e there.ends f;
    }
