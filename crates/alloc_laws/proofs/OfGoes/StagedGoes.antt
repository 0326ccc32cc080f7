-- A staged block that may leave names of its own, in the place of the block.
use Rattle.std.proofs.Common.{◌≡◌, ◌==◌, ◌||◌, ◌&&◌, ℕ, ℤ, Bool, true, false, cond, List}
use Rattle.std.proofs.Common.{Option, Some, None, IsSome, option_map, refl, sym, ap, ap₂, ◌∙◌, subst}
use Rattle.exo_tree.specs.Tree.{Cell, Binder, Control, Coord, Alloc, Assign, Read, Block, end, next, joined}
use Rattle.exo_meaning.specs.Value.{Value, Undefined, Number, stored_as}
use Rattle.exo_meaning.specs.Scene.{Seen, Scene, updated, index_of, cell_at}
use Rattle.exo_meaning.specs.State.{State, on_scene, with_view}
use Rattle.exo_meaning.specs.Calls.{GivenView, copy_back, value_or, held_at}
use Rattle.exo_meaning.specs.Inputs.{FitsCell}
use Rattle.exo_meaning.specs.Run.{World, run, writes}
use Rattle.exo_meaning.specs.Unseen.{in_block as mentions}
use Rattle.exo_meaning.proofs.Compose.{compose}
use Rattle.exo_meaning.proofs.Frame.{or_parts, updated_other}
use Rattle.exo_meaning.proofs.Windows.{one_value}
use Rattle.meaning_laws.specs.Context.{RefinedBut}
use Rattle.meaning_laws.proofs.Names.{if_gives, Others}
use Rattle.meaning_laws.proofs.Parts.{then_gives, some_injective}
use Rattle.inplace_laws.specs.Filled.{Loop}
use Rattle.inplace_laws.specs.Staged.{staged}
use Rattle.inplace_laws.specs.Windows.{shifted}
use Rattle.place_laws.specs.Scope.Scopes.{top_binders, HasNone}
use Rattle.place_laws.proofs.OfScope.Scopes.{run_names, joined_binders}
use Rattle.buffer_laws.specs.Staging.Stores.{load_nest, store_nest, variables, FitInto}
use Rattle.buffer_laws.specs.Staging.Alone.{has_root}
use Rattle.buffer_laws.specs.Staging.Stage.{AreAlike}
use Rattle.buffer_laws.specs.Staging.Converted.{converted}
use Rattle.buffer_laws.specs.Staging.Known.{IsKnown, up_to_store}
use Rattle.buffer_laws.specs.Staging.Readers.{IsLoaded}
use Rattle.buffer_laws.specs.Staging.Replaced.{between}
use Rattle.buffer_laws.proofs.OfStaging.Behind.{behind_law, staged_sound, run_names as names_behind}
use Rattle.buffer_laws.proofs.OfStaging.Box.{no_store_law}
use Rattle.buffer_laws.proofs.OfStaging.Known.{over_spans}
use Rattle.buffer_laws.proofs.OfStaging.Stores.{stores_law}
use Rattle.buffer_laws.specs.StageMem.{roots_behind}
use Rattle.buffer_laws.proofs.SumsStand.{no_names}
use Rattle.buffer_laws.specs.Stride.OnView.{LiesWithin}
use Rattle.buffer_laws.specs.Stride.Passed.{ArePassed}
use Rattle.buffer_laws.specs.Stride.Strides.{WhereBoth, CallsAreBlind}
use Rattle.buffer_laws.proofs.OfStride.Passed.{loaded, root_is, lies_between, converts, may_stage, both_end}
use Rattle.buffer_laws.proofs.OfStride.Passed.{first_is, first_staging}
use Rattle.buffer_laws.proofs.OfStride.ViewedRuns.{on_view_law}
use Rattle.alloc_laws.specs.Goes.EndsStand.{EndsStand}
use Rattle.alloc_laws.specs.Goes.Goes.{goes, EndsWell, StagedGoes, ReaderGoes}
use Rattle.alloc_laws.proofs.OfGoes.EndsStand.{names_stand}
use Rattle.alloc_laws.proofs.OfGoes.Bound.{binders_on, bound_shown, not_left, not_top}
use Rattle.alloc_laws.proofs.OfGoes.Goes.{NamesKeep, refined}

-- ---- cells

stored_same : (cell : Cell) (v : Value) → FitsCell cell v → stored_as cell v ≡ v
stored_same cell Undefined h = refl
stored_same cell (Number n) h = ap Number h

held_fits : (cell : Cell) (f : List ℤ → Value) → ((at : List ℤ) → FitsCell cell (f at))
    → (o : Option (List ℤ)) → stored_as cell (held_at f o) ≡ held_at f o
held_fits cell f h None = refl
held_fits cell f h (Some at) = stored_same cell (f at) (h at)

pub copy_other : (seen : Seen) (f : List ℤ → Value) (c : ℕ → List ℤ → Value) (y : ℕ) (at : List ℤ)
    → (y == seen.buffer) ≡ false → copy_back true (GivenView seen) f c y at ≡ c y at
copy_other seen f c y at h =
    ap (λ q. cond q (value_or (index_of seen.sides at) f (c y at)) (c y at)) h

-- ---- the names that go

pub within : (p q r : Bool) → (p || (q && r)) ≡ true → (p || q) ≡ true
within true q r h = refl
within false true r h = refl
within false false r h = h

module _ (world : World) (sees : ℕ → ℕ → Bool) (root : ℕ → ℕ) (a : Binder) (cell : Cell)
    (dims : List Control) (memory x : ℕ) (coords : List Coord) (ls ks : List Loop) (b : Block)
    (s : State) (made : ArePassed world.callees sees root a dims x coords ls ks b)
    (known : IsKnown world root a cell x coords b s) where
  abbrev inner : Block
  inner = converted a.id x coords b

  abbrev is_new : ℕ → Bool
  is_new y = y == a.id

  abbrev first_part : Block
  first_part = next (Alloc a cell dims memory) (load_nest a.id x coords ls)

  abbrev IsThere : Type 0
  IsThere = IsLoaded is_new world root a cell dims x coords ls end s

  -- a part of the block that is made leaves the buffer and the block's names
  pub first_binders : (y : ℕ) → (y == a.id) ≡ false → top_binders first_part y ≡ false
  first_binders y h = ap₂ ◌||◌ h (no_names ls
      (Assign a.id (variables ls) (Read x (shifted coords (variables ls)))) y refl)

  pub inner_binders : (y : ℕ) → top_binders b y ≡ false → top_binders inner y ≡ false
  inner_binders y h = binders_on a.id x coords y b ∙ h

  module _ (k : IsThere) where
    abbrev seen : Seen
    seen = k.seen

    abbrev hidden : ℕ → Bool
    hidden = has_root (updated root a.id a.id) seen.buffer

    abbrev beside : State
    beside = staged a.id seen k.to s

    pub is_its_root : seen.buffer ≡ root x
    is_its_root = root_is world sees root a cell dims memory x coords ls ks b s made known k

    pub root_there : IsSome (s.scene.buffers (root x))
    root_there = subst (λ n. IsSome (s.scene.buffers n)) is_its_root
        (subst IsSome (sym k.alone.there) refl)

    -- what the block binds is no name of the window's buffer
    pub left_shown : (y : ℕ) → top_binders b y ≡ true → hidden y ≡ false
    left_shown y h = bound_shown hidden y inner
        (ap (λ n. mentions (has_root (updated root a.id a.id) n) inner) is_its_root ∙ made.names)
        (binders_on a.id x coords y b ∙ h)

    module _ (sides : List Control) (calls : CallsAreBlind world sees)
        (lies : LiesWithin world x sides coords b s) (u t : State)
        (goes_on : run world inner beside ≡ Some u) (e : run world b s ≡ Some t) where
      abbrev viewed : State
      viewed = on_scene (with_view a.id seen) t

      stand : EndsStand hidden a.id seen u viewed
      stand = subst (λ p. WhereBoth (EndsStand hidden a.id seen) (Some u) p)
          (on_view_law world a.id x seen sides coords b s
          (converts world sees root a cell dims memory x coords ls ks b s made known k) lies
          ∙ ap (option_map (on_scene (with_view a.id seen))) e)
          (subst (λ p. WhereBoth (EndsStand hidden a.id seen) p
          (run world inner (on_scene (with_view a.id seen) s))) goes_on
          (names_stand hidden world sees (updated root a.id a.id) a.id seen k.to inner s calls
          (may_stage world sees root a cell dims memory x coords ls ks b s made known k)))

      -- a state with the names of this end, and its cells outside the window's buffer
      pub keeps : (v : State) → v.scene ≡ u.scene
          → ((y : ℕ) (at : List ℤ) → (y == seen.buffer) ≡ false → v.cells y at ≡ u.cells y at)
          → NamesKeep hidden a.id (root x) t v
      keeps v same cells = record {
        control = λ y h n. sym (ap (λ (z : Scene). z.control y) same ∙ stand.control y h);
        buffers = λ y h n. sym (ap (λ (z : Scene). z.buffers y) same ∙ stand.buffers y h n);
        views = λ y h n q.
            let other = updated_other t.scene.views a.id (Some seen) y n in
            sym (ap (λ (z : Scene). z.views y) same
            ∙ stand.views y h (λ z m. ap (λ i. z.buffer == i) is_its_root ∙ q z (sym other ∙ m))
            ∙ other);
        cells = λ y h n r at.
            sym (cells y at (ap (λ i. y == i) is_its_root ∙ r) ∙ stand.cells y h n at);
      }

      -- the buffer's cells fit those of the window
      pub fits_back : EndsWell root b t → FitInto u a.id seen.buffer
      fits_back ends to at there =
          let between = lies_between world sees root a cell dims memory x coords ls ks b s made known
          k in
          let its = (names_behind world inner beside u seen.buffer goes_on between.root).buffers in
          let staging = first_staging world sees root a cell dims memory x coords ls ks b s made known
          k in
          let same : k.to ≡ to = one_value k.to to (sym k.alone.there
          ∙ sym (updated_other s.scene.buffers a.id _ seen.buffer staging.other) ∙ its ∙ there) in
          let behind : t.scene.buffers seen.buffer ≡ Some to =
          sym (if_gives (Others (top_binders b) s) (run world b s) t (run_names world b s) e
          seen.buffer (sym (binders_on a.id x coords seen.buffer b)
          ∙ not_top seen.buffer inner between.root)).buffers ∙ k.alone.there ∙ ap Some same in
          subst (λ c. stored_as to.cell c ≡ c) (sym (stand.own at))
          (held_fits to.cell (t.cells seen.buffer) (ends.cells seen.buffer to behind)
          (cell_at seen.sides at))

      pub last_is : EndsWell root b t → run world (store_nest a.id x coords ks) u
          ≡ Some (record u { cells = copy_back true (GivenView seen) (u.cells a.id) u.cells })
      last_is ends = stores_law world a.id x seen coords ks u
          (behind_law world a.id x seen coords ks inner beside u
          (staged_sound a.id seen k.to s known.sound)
          (first_staging world sees root a cell dims memory x coords ls ks b s made known k)
          (lies_between world sees root a cell dims memory x coords ls ks b s made known k) goes_on
          (over_spans ks coords made.stores u.scene)) (fits_back ends)

  -- ---- both nests

  abbrev new : Block
  new = between a cell dims memory x coords ls ks inner

  pub new_binders : (y : ℕ) → ((y == a.id) || top_binders b y) ≡ false → top_binders new y ≡ false
  new_binders y h =
      let p = or_parts (y == a.id) (top_binders b y) h in
      let stores = store_nest a.id x coords ks in
      joined_binders first_part (joined inner stores) y
      ∙ ap₂ ◌||◌ (first_binders y p.0) (joined_binders inner stores y
      ∙ ap₂ ◌||◌ (inner_binders y p.1) (no_names ks
      (Assign x (shifted coords (variables ks)) (Read a.id (variables ks))) y refl))

  pub reader_binders : (y : ℕ) → ((y == a.id) || top_binders b y) ≡ false
      → top_binders (up_to_store a cell dims memory x coords ls b) y ≡ false
  reader_binders y h =
      let p = or_parts (y == a.id) (top_binders b y) h in
      joined_binders first_part inner y ∙ ap₂ ◌||◌ (first_binders y p.0) (inner_binders y p.1)

  module _ (sides : List Control) (calls : CallsAreBlind world sees)
      (lies : LiesWithin world x sides coords b s)
      (none : HasNone (λ y. (y == a.id) || top_binders b y) s) (t v : State)
      (e : run world b s ≡ Some t) (ends : EndsWell root b t) where
    pub all_go : run world new s ≡ Some v → RefinedBut (goes root a.id x b) t v
    all_go f =
        let m = then_gives (run world first_part s)
        (run world (joined inner (store_nest a.id x coords ks))) v
        (sym (compose world first_part (joined inner (store_nest a.id x coords ks)) s) ∙ f) in
        let n = then_gives (run world inner m.0) (run world (store_nest a.id x coords ks)) v
        (sym (compose world inner (store_nest a.id x coords ks) m.0) ∙ m.2) in
        let k = loaded world sees root a cell dims memory x coords ls ks b s made known m.0 m.1 in
        let u = n.0 in
        let goes_on = subst (λ z. run world inner z ≡ Some u)
        (some_injective m.0 (staged a.id k.seen k.to s) (sym m.1
        ∙ first_is world sees root a cell dims memory x coords ls ks b s made known k)) n.1 in
        let is : record u { cells = copy_back true (GivenView k.seen) (u.cells a.id) u.cells } ≡ v =
        some_injective _ v (sym (last_is k sides calls lies u t goes_on e ends) ∙ n.2) in
        let h = both_end world sees root a cell dims memory x coords ls ks b s made known k sides
        calls lies u t goes_on e in
        refined world root a.id x b new s (has_root (updated root a.id a.id) k.seen.buffer) none
        known.roots (root_there k) (not_left a.id b made.new.block) new_binders (left_shown k) t v
        e f ends.own_roots
        (subst (λ z. AreAlike s z t) is (record { fields = h.fields; cells = h.cells }))
        (keeps k sides calls lies u t goes_on e v (ap (λ (z : State). z.scene) (sym is))
        (λ y at o. ap (λ (z : State). z.cells y at) (sym is)
        ∙ copy_other k.seen (u.cells a.id) u.cells y at o))

    pub reads_go : writes world (updated root a.id a.id) inner a.id ≡ false
        → run world (up_to_store a cell dims memory x coords ls b) s ≡ Some v
        → RefinedBut (goes root a.id x b) t v
    reads_go silent f =
        let m = then_gives (run world first_part s) (run world inner) v
        (sym (compose world first_part inner s) ∙ f) in
        let k = loaded world sees root a cell dims memory x coords ls ks b s made known m.0 m.1 in
        let goes_on = subst (λ z. run world inner z ≡ Some v)
        (some_injective m.0 (staged a.id k.seen k.to s) (sym m.1
        ∙ first_is world sees root a cell dims memory x coords ls ks b s made known k)) m.2 in
        let h = both_end world sees root a cell dims memory x coords ls ks b s made known k sides
        calls lies v t goes_on e in
        let may = may_stage world sees root a cell dims memory x coords ls ks b s made known k in
        let same = if_gives (λ (z : State). copy_back true (GivenView k.seen) (z.cells a.id) z.cells
        ≡ z.cells) (run world inner (staged a.id k.seen k.to s)) v
        (no_store_law world (updated root a.id a.id) a.id k.seen k.to inner s may.roots
        (subst IsSome (sym k.alone.there) refl)
        (first_staging world sees root a cell dims memory x coords ls ks b s made known k).other
        silent may.not_written) goes_on in
        refined world root a.id x b (up_to_store a cell dims memory x coords ls b) s
        (has_root (updated root a.id a.id) k.seen.buffer) none known.roots (root_there k)
        (not_left a.id b made.new.block) reader_binders (left_shown k) t v e f ends.own_roots
        (record {
          fields = h.fields;
          cells = λ y at i. ap (λ c. c y at) (sym same) ∙ h.cells y at i;
        }) (keeps k sides calls lies v t goes_on e v refl (λ y at o. refl))

pub staged_goes : StagedGoes
staged_goes world sees root a cell dims sides memory x coords ls ks b s calls made it = record {
  fresh = λ y h. (it.none.unbound y
      (within (y == a.id) (top_binders b y) (roots_behind b root y == root x) h)).buffers;
  runs = λ t v e f.
      let there = it.known t v e f in
      all_go world sees root a cell dims memory x coords ls ks b s made there.known sides calls
      there.lies it.none t v e there.ends f;
}

pub reader_goes : ReaderGoes
reader_goes world sees root a cell dims sides memory x coords ls b s calls made silent it = record {
  fresh = λ y h. (it.none.unbound y
      (within (y == a.id) (top_binders b y) (roots_behind b root y == root x) h)).buffers;
  runs = λ t v e f.
      let there = it.known t v e f in
      reads_go world sees root a cell dims memory x coords ls ls b s made there.known sides calls
      there.lies it.none t v e there.ends silent f;
}
