-- What a block that only adds to a window leaves, and what a block on a buffer from 0 leaves that is
-- added to the window.
use Rattle.std.proofs.Common.{◌≡◌, ℕ, ℤ, pos, ◌==◌, not, Bool, true, false, true≢false}
use Rattle.std.proofs.Common.{◌||◌, List, [], ◌∷◌, Option, Some, None, IsSome, option_map, refl, sym, ap}
use Rattle.std.proofs.Common.{◌∙◌, subst, cond}
use Rattle.exo_tree.specs.Tree.{Cell, Binder, Control, Coord, Const, Read, Statement, Assign, Reduce}
use Rattle.exo_tree.specs.Tree.{Alloc, Block, end, next, joined, Procedure, ConfigField}
use Rattle.exo_meaning.specs.Value.{Value, Undefined}
use Rattle.exo_meaning.specs.Scene.{Shape, Seen, then_do, numbers, window, extents}
use Rattle.exo_meaning.specs.State.{State}
use Rattle.exo_meaning.specs.Calls.{GivenView, copy_back, all_positive}
use Rattle.exo_meaning.specs.Footprint.{changed_by}
use Rattle.exo_meaning.specs.Run.{World, run, step, tensor, unit_world, kinds_of}
use Rattle.exo_meaning.specs.Units.{Scope}
use Rattle.exo_meaning.proofs.Compose.{compose}
use Rattle.exo_meaning.proofs.Frame.{updated_other}
use Rattle.exo_meaning.proofs.Windows.{none_is_some}
use Rattle.meaning_laws.specs.Scoped.{has_binder}
use Rattle.meaning_laws.specs.Sound.{IsSound}
use Rattle.meaning_laws.specs.Touched.{Reading, Writing}
use Rattle.meaning_laws.proofs.Names.{if_gives, SameControl, step_control, Others}
use Rattle.meaning_laws.proofs.Parts.{then_gives, map_gives, some_injective}
use Rattle.meaning_laws.proofs.Scoped.{not_true}
use Rattle.meaning_laws.proofs.Substitute.{and_parts}
use Rattle.inplace_laws.specs.Filled.{Loop, nest}
use Rattle.inplace_laws.specs.Staged.{staged, StagedAlike}
use Rattle.inplace_laws.specs.Windows.{shifted}
use Rattle.place_laws.specs.Scope.Scopes.{top_binders}
use Rattle.place_laws.proofs.OfScope.Scopes.{run_names}
use Rattle.buffer_laws.specs.Staging.Stores.{variables, spans, IsStaging}
use Rattle.buffer_laws.specs.Staging.Behind.{IsBetween}
use Rattle.buffer_laws.specs.Staging.Stage.{AreAlike}
use Rattle.buffer_laws.specs.Staging.Known.{AreMade, IsKnown}
use Rattle.buffer_laws.specs.Staging.Readers.{IsLoaded}
use Rattle.exo_meaning.specs.Scene.{updated}
use Rattle.buffer_laws.proofs.OfStaging.Behind.{run_names as names_behind, behind_law, staged_sound}
use Rattle.buffer_laws.proofs.OfStaging.Inside.{inside_law}
use Rattle.buffer_laws.proofs.OfStaging.Known.{over_spans, spans_same, window_same, allocated, shaped, is_root}
use Rattle.buffer_laws.proofs.OfStaging.Known.{staging, is_loaded}
use Rattle.buffer_laws.proofs.OfStaging.Stage.{uses_law}
use Rattle.buffer_laws.specs.Accumulated.{from_zero, adding}
use Rattle.buffer_laws.specs.StageAccum.{OnlyAdds, touches_of}
use Rattle.buffer_laws.specs.StageMem.{is_only_reduced}
use Rattle.buffer_laws.specs.Sums.{zero_nest, sum_nest, zeros, zeroed, sums, between_sums}
use Rattle.buffer_laws.proofs.Accumulated.{starts, accum_by_modes}
use Rattle.buffer_laws.proofs.SumEnds.{IsApart, sums_end}
use Rattle.buffer_laws.proofs.Sums.{zeros_law, sums_law}

-- a run leaves all control values
run_control : (world : World) (b : Block) (s t : State) → run world b s ≡ Some t
    → SameControl s t
run_control world end s t e = λ y.
    ap (λ (z : State). z.scene.control y) (sym (some_injective s t e))
run_control world (next a b) s t e = λ y.
    let g = then_gives (step world a s) (run world b) t e in
    run_control world b g.0 t g.2 y
    ∙ if_gives (SameControl s) (step world a s) g.0 (step_control world a s) g.1 y

-- a nest leaves no name
pub no_names : (ls : List Loop) (a : Statement) (y : ℕ) → top_binders (next a end) y ≡ false
    → top_binders (nest ls a) y ≡ false
no_names [] a y h = h
no_names (l ∷ ls) a y h = refl

module _ (fields : List ConfigField) (memories : ℕ) (ps : List Procedure) (scope : Scope)
    (blind : ℕ → Bool) (root : ℕ → ℕ) (a : Binder) (cell : Cell) (dims : List Control)
    (memory x : ℕ) (coords : List Coord) (ls ks : List Loop) (b inner : Block) (s : State)
    (made : AreMade blind root a dims x coords ls ks end)
    (known : IsKnown (unit_world (kinds_of fields) ps) root a cell x coords end s)
    (adds : OnlyAdds fields memories ps scope root x b s)
    (name : has_binder inner x ≡ false) where
  abbrev world : World
  world = unit_world (kinds_of fields) ps

  abbrev first_part : Block
  first_part = next (Alloc a cell dims memory) (zero_nest a.id ls)

  -- ---- the window is there

  -- where the block and the second nest run behind the first
  module _ (t u v : State) (e : run world first_part s ≡ Some t)
      (f : run world inner t ≡ Some u) (g : run world (sum_nest a.id x coords ks) u ≡ Some v)
    where
      abbrev Made : Type 0
      Made = (w : State) × (step world (Alloc a cell dims memory) s ≡ Some w)
          × (run world (zero_nest a.id ls) w ≡ Some t)

      made_first : Made
      made_first = then_gives (step world (Alloc a cell dims memory) s)
          (run world (zero_nest a.id ls)) t e

      same_control : (y : ℕ) → u.scene.control y ≡ s.scene.control y
      same_control y = run_control world inner t u f y ∙ run_control world first_part s t e y

      positive : all_positive (numbers u.scene (spans coords)) ≡ true
      positive = ap all_positive (spans_same coords u.scene s.scene made.plain same_control
          ∙ sym (made.sizes s.scene))
          ∙ (allocated blind world root a cell dims memory x coords ls ks end s made known
          made_first.0 made_first.1).0

      same_view : u.scene.views x ≡ s.scene.views x
      same_view =
          sym (names_behind world inner t u x f name).views
          ∙ sym (if_gives (Others (top_binders (zero_nest a.id ls)) made_first.0)
          (run world (zero_nest a.id ls) made_first.0) t
          (run_names world (zero_nest a.id ls) made_first.0) made_first.2 x
          (no_names ls (Assign a.id (variables ls) (Const (pos 0))) x refl)).views
          ∙ sym (if_gives (Others (top_binders (next (Alloc a cell dims memory) end)) s)
          (run world (next (Alloc a cell dims memory) end) s) made_first.0
          (run_names world (next (Alloc a cell dims memory) end) s)
          (ap (λ o. then_do o (λ w. Some w)) made_first.1) x
          (ap (λ r. r || false) made.other)).views

      pub sees : IsSome (window s.scene x coords)
      sees = subst IsSome (window_same x coords made.plain u.scene s.scene same_view same_control)
          (inside_law world x coords ks
          (Reduce x (shifted coords (variables ks)) (Read a.id (variables ks))) u v
          made.stores.distinct (over_spans ks coords made.stores u.scene) positive
          (uses_law world a.id x (shifted coords (variables ks)) (variables ks)
          (Read a.id (variables ks))).2 g)

  pub loaded : (o : Option Seen) → window s.scene x coords ≡ o → IsSome (window s.scene x coords)
      → IsLoaded blind world root a cell dims x coords ls end s
  loaded None e i = absurd (true≢false (sym (subst IsSome e i)))
  loaded (Some seen) e i =
      let to = shaped blind world root a cell dims memory x coords ls ks end s made known seen e in
      is_loaded blind world root a cell dims memory x coords ls ks end s made known seen e to.0 to.1

  -- ---- what follows from the window

  module _ (k : IsLoaded blind world root a cell dims x coords ls end s) where
    abbrev seen : Seen
    seen = k.seen

    abbrev to : Shape
    to = k.to

    abbrev zero : State
    zero = from_zero seen.buffer s

    abbrev beside : State
    beside = zeroed a.id seen to s

    pub its_root : seen.buffer ≡ root x
    its_root = is_root blind world root a cell dims memory x coords ls ks end s made known seen
        k.may.window

    pub zero_sound : IsSound zero
    zero_sound = (starts fields memories ps scope root b s seen.buffer to adds.touches
        k.alone.there).sound

    -- the block on the zeros, and the converted one on a buffer of zeros
    pub record Stands : Type 0 where
      pub hidden : ℕ → Bool
      pub apart : IsApart hidden world (updated root a.id a.id) a.id seen to inner s
      pub between : IsBetween a.id x seen coords inner
      pub on_zeros : (o u : State) → run world b zero ≡ Some o
          → run world inner (staged a.id seen to zero) ≡ Some u
          → StagedAlike a.id seen zero u o

    beside_sound : IsSound beside
    beside_sound = record {
      tidy = λ y e at. tidy y at (y == a.id) e;
      seen = (staged_sound a.id seen to s known.sound).seen;
    }
      where
        tidy : (y : ℕ) (at : List ℤ) (r : Bool)
            → cond {A = Option Shape} r (Some (tensor to.cell (extents seen.sides)))
            (s.scene.buffers y) ≡ None
            → cond {A = List ℤ → Value} r (zeros seen) (s.cells y) at ≡ Undefined
        tidy y at true e = absurd (none_is_some (sym e))
        tidy y at false e = known.sound.tidy y e at

    first_staging : IsStaging a.id x seen coords ks beside
    first_staging =
        let h = staging blind world root a cell dims memory x coords ls ks end s made known seen
        k.may.window to k.alone.there ks made.stores in
        record {
          tidy = beside_sound.tidy;
          name = h.name;
          there = h.there;
          other = h.other;
          window = h.window;
          distinct = h.distinct;
          over = h.over;
        }

    pub first_is : run world first_part s ≡ Some beside
    first_is = subst (λ c. run world (next (Alloc a c dims memory) (zero_nest a.id ls)) s
        ≡ Some beside) k.cell_is (zeros_law world a dims memory x seen to coords ls s k.sizes k.before)

    pub last_is : IsBetween a.id x seen coords inner → (u : State) → run world inner beside ≡ Some u
        → run world (sum_nest a.id x coords ks) u ≡ Some (record u {
          cells = copy_back true (GivenView seen) (sums to.cell (u.cells a.id) u.cells seen) u.cells;
        })
    last_is between u f = sums_law world a.id x seen to coords ks u
        (behind_law world a.id x seen coords ks inner beside u beside_sound first_staging
        between f (over_spans ks coords made.stores u.scene))
        (sym (names_behind world inner beside u seen.buffer f between.root).buffers
        ∙ updated_other s.scene.buffers a.id _ seen.buffer first_staging.other ∙ k.alone.there)

    -- it neither reads nor writes the window's buffer
    without : is_only_reduced (touches_of fields ps root b) seen.buffer ≡ true
    without = ap (is_only_reduced (touches_of fields ps root b)) its_root ∙ adds.only

    pub exchanged : run world b s ≡ option_map
        (changed_by (adding to.cell (s.cells seen.buffer) seen.buffer)) (run world b zero)
    exchanged =
        let p = and_parts (not (touches_of fields ps root b Reading seen.buffer))
        (not (touches_of fields ps root b Writing seen.buffer)) without in
        accum_by_modes fields memories ps scope root b s seen.buffer to adds.touches k.alone.there
        known.roots adds.cells (not_true (touches_of fields ps root b Reading seen.buffer) p.0)
        (not_true (touches_of fields ps root b Writing seen.buffer) p.1)

    ends : Stands → (u v w : State) → run world inner beside ≡ Some u
        → run world (sum_nest a.id x coords ks) u ≡ Some v → run world b s ≡ Some w
        → AreAlike s v w
    ends stands u v w f g e =
        let m = map_gives (run world b zero)
        (changed_by (adding to.cell (s.cells seen.buffer) seen.buffer)) w
        (sym exchanged ∙ e) in
        subst (AreAlike s v) m.2
        (subst (λ z. AreAlike s z
        (changed_by (adding to.cell (s.cells seen.buffer) seen.buffer) m.0))
        (some_injective _ v (sym (last_is stands.between u f) ∙ g))
        (sums_end stands.hidden world (updated root a.id a.id) a.id seen to inner s stands.apart u
        m.0 f (λ z h. stands.on_zeros m.0 z m.1 h)
        (adds.touches.sorted.cells seen.buffer to k.alone.there)))

  abbrev new : Block
  new = between_sums a cell dims memory x coords ls ks inner

  pub all_alike : ((k : IsLoaded blind world root a cell dims x coords ls end s) → Stands k)
      → (w v : State) → run world b s ≡ Some w → run world new s ≡ Some v → AreAlike s v w
  all_alike stands w v e f =
      let m = then_gives (run world first_part s)
      (run world (joined inner (sum_nest a.id x coords ks))) v
      (sym (compose world first_part (joined inner (sum_nest a.id x coords ks)) s) ∙ f) in
      let n = then_gives (run world inner m.0) (run world (sum_nest a.id x coords ks)) v
      (sym (compose world inner (sum_nest a.id x coords ks) m.0) ∙ m.2) in
      let k = loaded (window s.scene x coords) refl (sees m.0 n.0 v m.1 n.1 n.2) in
      ends k (stands k) n.0 v w (subst (λ z. run world inner z ≡ Some n.0)
      (some_injective m.0 (zeroed a.id k.seen k.to s) (sym m.1 ∙ first_is k)) n.1) n.2 e
