-- A staged block that may pass its buffer on, in the place of the block.
use Rattle.std.proofs.Common.{◌≡◌, ℕ, ◌==◌, Bool, true, false, List, Some}
use Rattle.std.proofs.Common.{IsSome, option_map, refl, sym, ap, ◌∙◌, subst}
use Rattle.exo_tree.specs.Tree.{Cell, Binder, Control, Coord, Alloc, Block, end, next, joined}
use Rattle.exo_meaning.specs.Scene.{Shape, Seen, then_do, extents, updated, window}
use Rattle.exo_meaning.specs.State.{State, on_scene, with_view}
use Rattle.exo_meaning.specs.Calls.{GivenView, copy_back}
use Rattle.exo_meaning.specs.Run.{World, run, writes, tensor, kinds_of, unit_world}
use Rattle.exo_meaning.specs.Units.{field_kind}
use Rattle.exo_meaning.specs.Unseen.{in_block as mentions}
use Rattle.exo_meaning.proofs.Compose.{compose}
use Rattle.exo_meaning.proofs.Frame.{updated_other}
use Rattle.exo_meaning.proofs.Nested.{then_some}
use Rattle.exo_meaning.proofs.Windows.{one_value}
use Rattle.meaning_laws.specs.Scoped.{has_binder}
use Rattle.meaning_laws.specs.Sorted.{Ends}
use Rattle.meaning_laws.proofs.Names.{if_gives}
use Rattle.meaning_laws.proofs.Parts.{then_gives, some_injective}
use Rattle.meaning_laws.proofs.Sorted.{run_ends, agrees, unit_good}
use Rattle.inplace_laws.specs.Filled.{Loop}
use Rattle.inplace_laws.specs.Staged.{staged, StagedAlike, MayStage}
use Rattle.inplace_laws.specs.Uses.{in_block}
use Rattle.buffer_laws.specs.Staging.Stores.{load_nest, store_nest, IsStaging, FitInto}
use Rattle.buffer_laws.specs.Staging.Alone.{has_root}
use Rattle.buffer_laws.specs.Staging.Behind.{IsBetween}
use Rattle.buffer_laws.specs.Staging.Stage.{AreAlike}
use Rattle.buffer_laws.specs.Staging.Converted.{converted}
use Rattle.buffer_laws.specs.Staging.Whole.{MayConvert}
use Rattle.buffer_laws.specs.Staging.Known.{AreMade, IsKnown, FitsBehind, up_to_store}
use Rattle.buffer_laws.specs.Staging.Readers.{IsLoaded}
use Rattle.buffer_laws.specs.Staging.Replaced.{between}
use Rattle.buffer_laws.proofs.OfStaging.Alone.{alone_law, unwritten_law}
use Rattle.buffer_laws.proofs.OfStaging.Behind.{run_names, behind_law, staged_sound}
use Rattle.buffer_laws.proofs.OfStaging.Box.{no_store_law}
use Rattle.buffer_laws.proofs.OfStaging.Known.{over_spans, staging, is_root, updated_own, run_from}
use Rattle.buffer_laws.proofs.OfStaging.Loads.{stage_in_law}
use Rattle.buffer_laws.proofs.OfStaging.Reader.{fit_into_law}
use Rattle.buffer_laws.proofs.OfStaging.Replaced.{alike_replaces}
use Rattle.buffer_laws.proofs.OfStaging.Stores.{stores_law}
use Rattle.buffer_laws.proofs.OfNothing.{known_of_nothing, made_of_nothing, loaded_of_nothing}
use Rattle.buffer_laws.proofs.Shown.{block, not_made}
use Rattle.buffer_laws.specs.Stride.OnView.{LiesWithin}
use Rattle.buffer_laws.specs.Stride.Passed.{ArePassed, PassedReplaces, PassedReaderReplaces}
use Rattle.buffer_laws.specs.Stride.Passed.{FitsBehindPassed}
use Rattle.buffer_laws.specs.Stride.Staged.{MayStageBlind}
use Rattle.buffer_laws.specs.Stride.Strides.{WhereBoth, CallsAreBlind}
use Rattle.buffer_laws.proofs.OfStride.Staged.{blind_staged_law}
use Rattle.buffer_laws.proofs.OfStride.ViewedRuns.{on_view_law}
use Rattle.inplace_laws.specs.CallInPlace.{no_name}

module _ (world : World) (sees : ℕ → ℕ → Bool) (root : ℕ → ℕ) (a : Binder) (cell : Cell)
    (dims : List Control) (memory x : ℕ) (coords : List Coord) (ls ks : List Loop) (b : Block)
    (s : State) (made : ArePassed world.callees sees root a dims x coords ls ks b)
    (known : IsKnown world root a cell x coords b s) where
  abbrev inner : Block
  inner = converted a.id x coords b

  abbrev is_new : ℕ → Bool
  is_new y = y == a.id

  abbrev first_part : Block
  first_part = next (Alloc a cell dims memory) (load_nest a.id x coords ls)

  abbrev IsThere : Type 0
  IsThere = IsLoaded is_new world root a cell dims x coords ls end s

  pub nothing_known : IsKnown world root a cell x coords end s
  nothing_known = known_of_nothing world root a cell x coords b s known

  pub nothing_made : AreMade is_new root a dims x coords ls ks end
  nothing_made = made_of_nothing root a dims x coords made.new.spots made.other made.plain made.sizes
      ls ks made.loads made.stores

  -- what the load nest shows
  pub loaded : (t : State) → run world first_part s ≡ Some t → IsThere
  loaded t e = loaded_of_nothing root a dims x coords made.new.spots made.other made.plain made.sizes
      world cell memory ls s t made.loads nothing_known e

  module _ (k : IsThere) where
    abbrev seen : Seen
    seen = k.seen

    abbrev to : Shape
    to = k.to

    abbrev hidden : ℕ → Bool
    hidden = has_root (updated root a.id a.id) seen.buffer

    abbrev beside : State
    beside = staged a.id seen to s

    pub root_is : seen.buffer ≡ root x
    root_is = is_root is_new world root a cell dims memory x coords ls ks end s nothing_made
        nothing_known seen k.may.window

    pub lies_between : IsBetween a.id x seen coords inner
    lies_between = record {
      own = made.own;
      name = made.name;
      root = ap (has_binder inner) root_is ∙ made.root_name;
      plain = made.plain;
      variables = made.variables;
    }

    pub converts : MayConvert world a.id x seen coords b s
    converts = record {
      sound = known.sound;
      unbound = known.unbound;
      window = k.may.window;
      new = made.new;
      fit = known.fit;
      between = lies_between;
    }

    of_nothing : MayStage hidden is_new world (updated root a.id a.id) a.id seen to end s
    of_nothing = alone_law is_new world root a.id seen to end s k.alone

    shows_none : in_block hidden no_name inner ≡ false
    shows_none = block hidden inner ∙ ap (λ n. mentions (has_root (updated root a.id a.id) n) inner)
        root_is ∙ made.names

    pub may_stage : MayStageBlind hidden world sees (updated root a.id a.id) a.id seen to inner s
    may_stage = record {
      sound = known.sound;
      there = k.alone.there;
      new = known.unbound;
      shown = of_nothing.shown;
      hides = of_nothing.hides;
      only = of_nothing.only;
      views = of_nothing.views;
      names = shows_none;
      not_made = not_made inner a.id made.own;
      roots = of_nothing.roots;
      not_written = unwritten_law hidden no_name world (updated root a.id a.id) inner seen.buffer
          of_nothing.hides (λ y h. h) shows_none;
      strides = made.strides;
    }

    -- the block on the staged buffer, and the block itself, where both come to an end
    pub both_end : (sides : List Control) → CallsAreBlind world sees
        → LiesWithin world x sides coords b s → (u w : State)
        → run world inner beside ≡ Some u → run world b s ≡ Some w → StagedAlike a.id seen s u w
    both_end sides calls lies u w f e =
        let h : StagedAlike a.id seen s u (on_scene (with_view a.id seen) w) =
        subst (λ p. WhereBoth (StagedAlike a.id seen s) (Some u) p)
        (on_view_law world a.id x seen sides coords b s converts lies
        ∙ ap (option_map (on_scene (with_view a.id seen))) e)
        (subst (λ p. WhereBoth (StagedAlike a.id seen s) p
        (run world inner (on_scene (with_view a.id seen) s))) f
        (blind_staged_law hidden world sees (updated root a.id a.id) a.id seen to inner s calls
        may_stage)) in
        record { fields = h.fields; cells = h.cells }

    pub first_is : run world first_part s ≡ Some beside
    first_is = subst (λ c. run world (next (Alloc a c dims memory) (load_nest a.id x coords ls)) s
        ≡ Some beside) k.cell_is (stage_in_law world a dims memory x seen to coords ls s k.sizes
        k.alone.there k.before k.fit)

    pub first_staging : IsStaging a.id x seen coords ks beside
    first_staging =
        let h = staging is_new world root a cell dims memory x coords ls ks end s nothing_made
        nothing_known seen k.may.window to k.alone.there ks made.stores in
        record {
          tidy = (staged_sound a.id seen to s known.sound).tidy;
          name = h.name;
          there = h.there;
          other = h.other;
          window = h.window;
          distinct = h.distinct;
          over = h.over;
        }

    fits_back : FitsBehind world a x coords b s → (u : State) → run world inner beside ≡ Some u
        → FitInto u a.id seen.buffer
    fits_back fits u f =
        let mine = (run_names world inner beside u a.id f made.own).buffers in
        let its = (run_names world inner beside u seen.buffer f lies_between.root).buffers in
        fit_into_law u a.id seen.buffer (tensor to.cell (extents seen.sides))
        (fits seen to u k.may.window k.alone.there f)
        (sym mine ∙ updated_own s.scene.buffers a.id _)
        (λ w m. ap (λ (q : Shape). q.cell) (one_value w to (sym m ∙ sym its
        ∙ updated_other s.scene.buffers a.id _ seen.buffer first_staging.other
        ∙ k.alone.there)))

    last_is : FitsBehind world a x coords b s → (u : State) → run world inner beside ≡ Some u
        → run world (store_nest a.id x coords ks) u ≡ Some (record u {
          cells = copy_back true (GivenView seen) (u.cells a.id) u.cells;
        })
    last_is fits u f = stores_law world a.id x seen coords ks u
        (behind_law world a.id x seen coords ks inner beside u
        (staged_sound a.id seen to s known.sound) first_staging lies_between f
        (over_spans ks coords made.stores u.scene)) (fits_back fits u f)

  -- ---- both nests

  abbrev new : Block
  new = between a cell dims memory x coords ls ks inner

  module _ (sides : List Control) (calls : CallsAreBlind world sees)
      (lies : LiesWithin world x sides coords b s) where
    all_alike : FitsBehind world a x coords b s → (w v : State) → run world b s ≡ Some w
        → run world new s ≡ Some v → AreAlike s v w
    all_alike fits w v e f =
        let m = then_gives (run world first_part s)
        (run world (joined inner (store_nest a.id x coords ks))) v
        (sym (compose world first_part (joined inner (store_nest a.id x coords ks)) s) ∙ f) in
        let n = then_gives (run world inner m.0) (run world (store_nest a.id x coords ks)) v
        (sym (compose world inner (store_nest a.id x coords ks) m.0) ∙ m.2) in
        let k = loaded m.0 m.1 in
        let goes = subst (λ z. run world inner z ≡ Some n.0)
        (some_injective m.0 (staged a.id k.seen k.to s) (sym m.1 ∙ first_is k)) n.1 in
        let h = both_end k sides calls lies n.0 w goes e in
        subst (λ z. AreAlike s z w) (some_injective _ v (sym (last_is k fits n.0 goes) ∙ n.2))
        (record { fields = h.fields; cells = h.cells })

    -- the load nest alone
    read_alike : writes world (updated root a.id a.id) inner a.id ≡ false → (w v : State)
        → run world b s ≡ Some w → run world (up_to_store a cell dims memory x coords ls b) s ≡ Some v
        → AreAlike s v w
    read_alike silent w v e f =
        let m = then_gives (run world first_part s) (run world inner) v
        (sym (compose world first_part inner s) ∙ f) in
        let k = loaded m.0 m.1 in
        let goes = subst (λ z. run world inner z ≡ Some v)
        (some_injective m.0 (staged a.id k.seen k.to s) (sym m.1 ∙ first_is k)) m.2 in
        let h = both_end k sides calls lies v w goes e in
        let may = may_stage k in
        let same = if_gives (λ (t : State). copy_back true (GivenView k.seen) (t.cells a.id) t.cells
        ≡ t.cells) (run world inner (staged a.id k.seen k.to s)) v
        (no_store_law world (updated root a.id a.id) a.id k.seen k.to inner s may.roots
        (subst IsSome (sym k.alone.there) refl) (first_staging k).other silent may.not_written)
        goes in
        record {
          fields = h.fields;
          cells = λ y at i. ap (λ c. c y at) (sym same) ∙ h.cells y at i;
        }

  -- ---- cells behind the block

  module _ (z : Seen) (there : window s.scene x coords ≡ Some z) (to : Shape)
      (has : s.scene.buffers z.buffer ≡ Some to) (u : State)
      (f : run world inner (staged a.id z to s) ≡ Some u) where
    staged_there : run world first_part s ≡ Some (staged a.id z to s)
    staged_there = sym (then_some (run world first_part s)) ∙ sym (compose world first_part end s)
        ∙ run_from is_new world root a cell dims memory x coords ls ks end s nothing_made
        nothing_known z there to has (staged a.id z to s) refl

    pub comes_from : run world (up_to_store a cell dims memory x coords ls b) s ≡ Some u
    comes_from = compose world first_part inner s
        ∙ ap (λ o. then_do o (run world inner)) staged_there ∙ f

pub passed_replaces : PassedReplaces
passed_replaces hidden world sees root a cell dims sides memory x coords ls ks b s calls made hides
    known lies fits =
    alike_replaces world hidden b
    (between a cell dims memory x coords ls ks (converted a.id x coords b)) s hides
    (all_alike world sees root a cell dims memory x coords ls ks b s made known sides calls lies
    fits)

pub passed_reader_replaces : PassedReaderReplaces
passed_reader_replaces hidden world sees root a cell dims sides memory x coords ls b s calls made
    silent hides known lies =
    alike_replaces world hidden b (up_to_store a cell dims memory x coords ls b) s hides
    (read_alike world sees root a cell dims memory x coords ls ls b s made known sides calls lies
    silent)

pub fits_behind_passed : FitsBehindPassed
fits_behind_passed fields memories ps scope sees rules root a cell dims memory x coords ls ks b s
    unit made known sorted ok z to t there has e =
    let world = unit_world (kinds_of fields) ps in
    let new = up_to_store a cell dims memory x coords ls b in
    (if_gives (Ends (kinds_of fields) s) (run world new s) t
    (run_ends (kinds_of fields) (field_kind fields) (agrees fields) memories world refl
    (unit_good fields memories ps unit) new scope rules ok s known.sound sorted)
    (comes_from world sees root a cell dims memory x coords ls ks b s made known z there to has t
    e)).cells
