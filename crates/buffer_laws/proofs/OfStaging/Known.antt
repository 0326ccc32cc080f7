-- What has to be known of a block at a place, so that it may be staged there.
use Rattle.std.proofs.Common.{◌≡◌, ◌==◌, ℕ, ℤ, ◌-ℤ◌, ◌&&◌, Bool, true, false, true≢false, cond}
use Rattle.std.proofs.Common.{List}
use Rattle.std.proofs.Common.{[], ◌∷◌, Option, Some, None, option_map, IsSome, refl, sym, ap, ap₂}
use Rattle.std.proofs.Common.{◌∙◌, subst}
use Rattle.std.proofs.Common.{eqb-true, eq-eqb}
use Rattle.exo_tree.specs.Tree.{Cell, Binder, Control, Coord, At, Span, Window, Alloc, Assign, Read}
use Rattle.exo_tree.specs.Tree.{Block, next, joined}
use Rattle.exo_meaning.specs.Value.{Value, Undefined}
use Rattle.exo_meaning.specs.Scene.{Shape, Side, Seen, Scene, numbers, narrowed, window, extents}
use Rattle.exo_meaning.specs.Scene.{then_do, updated, where_true}
use Rattle.exo_meaning.specs.State.{State, with_control}
use Rattle.exo_meaning.specs.Calls.{all_positive}
use Rattle.exo_meaning.specs.Footprint.{IsTidy}
use Rattle.exo_meaning.specs.Run.{World, run, step, tensor, kinds_of, unit_world}
use Rattle.exo_meaning.specs.Units.{field_kind}
use Rattle.exo_meaning.proofs.Compose.{compose}
use Rattle.exo_meaning.proofs.Frame.{updated_other}
use Rattle.exo_meaning.proofs.Windows.{none_is_some, one_value, map_parts}
use Rattle.meaning_laws.specs.Scoped.{has_binder}
use Rattle.meaning_laws.specs.Sorted.{Ends}
use Rattle.meaning_laws.specs.Substitute.{is_plain}
use Rattle.meaning_laws.proofs.Names.{if_gives}
use Rattle.meaning_laws.proofs.Parts.{then_gives, some_injective}
use Rattle.meaning_laws.proofs.Sorted.{run_ends, agrees, unit_good}
use Rattle.meaning_laws.proofs.Substitute.{and_parts, plain_same}
use Rattle.inplace_laws.specs.Filled.{Loop}
use Rattle.inplace_laws.specs.Staged.{staged}
use Rattle.inplace_laws.specs.Uses.{in_block}
use Rattle.inplace_laws.specs.Windows.{are_plain, shifted}
use Rattle.inplace_laws.proofs.Windows.{view_kept}
use Rattle.buffer_laws.specs.Staging.Stores.{load_nest, store_nest, variables, AtAny, RunOver, spans}
use Rattle.buffer_laws.specs.Staging.Stores.{IsStaging, FitInto, emptied}
use Rattle.buffer_laws.specs.Staging.Inside.{extents_of, AreOverSpans}
use Rattle.buffer_laws.specs.Staging.Alone.{has_root, IsAlone}
use Rattle.buffer_laws.specs.Staging.Behind.{IsBetween}
use Rattle.buffer_laws.specs.Staging.Converted.{converted}
use Rattle.buffer_laws.specs.Staging.Whole.{MayConvert}
use Rattle.buffer_laws.specs.Staging.Replaced.{IsStaged}
use Rattle.buffer_laws.specs.Staging.Known.{AreOver, AreMade, IsKnown, FitsBehind, KnownLaw}
use Rattle.buffer_laws.specs.Staging.Known.{up_to_store, FitsBehindLaw}
use Rattle.buffer_laws.specs.Staging.Readers.{IsLoaded, KnownReaderLaw}
use Rattle.buffer_laws.proofs.OfStaging.Behind.{run_names}
use Rattle.buffer_laws.proofs.OfStaging.Box.{box_law}
use Rattle.buffer_laws.proofs.OfStaging.Loads.{stage_in_law}
use Rattle.buffer_laws.proofs.OfStaging.Inside.{inside_law, spans_law}
use Rattle.buffer_laws.proofs.OfStaging.Reader.{fit_into_law}
use Rattle.buffer_laws.proofs.OfStaging.Stage.{uses_law}

-- ---- spans in any scene

at_any : (ls : List Loop) (P : Scene → Type 0) → ((z : Scene) → P z) → (scene : Scene)
    → AtAny ls P scene
at_any [] P h scene = h scene
at_any (l ∷ ls) P h scene = λ n. at_any ls P h (with_control l.binder.id n scene)

pub over_spans : (ls : List Loop) (coords : List Coord) → AreOver ls coords → (scene : Scene)
    → AreOverSpans ls coords scene
over_spans ls coords h scene = record {
  apart = h.apart;
  equal = at_any ls (λ z. numbers z (extents_of ls) ≡ numbers z (spans coords)) h.equal scene;
}

-- they depend on control variables alone
pub spans_same : (coords : List Coord) (z w : Scene) → are_plain coords ≡ true
    → ((y : ℕ) → z.control y ≡ w.control y) → numbers z (spans coords) ≡ numbers w (spans coords)
spans_same [] z w p h = refl
spans_same (At e ∷ cs) z w p h = spans_same cs z w (and_parts (is_plain e) (are_plain cs) p).1 h
spans_same (Span e f ∷ cs) z w p h =
    let q = and_parts (is_plain e) (is_plain f && are_plain cs) p in
    let r = and_parts (is_plain f) (are_plain cs) q.1 in
    ap₂ ◌∷◌ (ap₂ ◌-ℤ◌ (plain_same f z w r.0 (λ y k. h y)) (plain_same e z w q.0 (λ y k. h y)))
    (spans_same cs z w r.1 h)

pub updated_own : {A : Type 0} (f : ℕ → A) (k : ℕ) (v : A) → updated f k v k ≡ v
updated_own f k v = ap (λ t. cond t v (f k)) (eq-eqb k k refl)

abbrev with_sides : Seen → List Side → Seen
with_sides z sides = record { buffer = z.buffer; sides = sides }

abbrev part_of : Scene → List Coord → Seen → Option Seen
part_of scene coords z = option_map (with_sides z) (narrowed scene z.sides coords)

module _ (x : ℕ) (coords : List Coord) (plain : are_plain coords ≡ true) where
  -- the window is the same where x and the control variables are
  pub window_same : (z w : Scene) → z.views x ≡ w.views x → ((y : ℕ) → z.control y ≡ w.control y)
      → window z x coords ≡ window w x coords
  window_same z w e h =
      view_kept x (Window x coords) plain (Window x coords) z w plain e (λ y k. h y)

module _ (blind : ℕ → Bool) (world : World) (root : ℕ → ℕ) (a : Binder) (cell : Cell)
    (dims : List Control) (memory x : ℕ) (coords : List Coord) (ls ks : List Loop) (b : Block)
    (s : State) (made : AreMade blind root a dims x coords ls ks b)
    (known : IsKnown world root a cell x coords b s) where
  abbrev inner : Block
  inner = converted a.id x coords b

  -- ---- the window is there

  abbrev empty : State
  empty = emptied a.id cell (numbers s.scene dims) s

  emptied_window : (c : Cell) (ns : List ℤ)
      → window (emptied a.id c ns s).scene x coords ≡ window s.scene x coords
  emptied_window c ns = window_same x coords made.plain (emptied a.id c ns s).scene s.scene
      (updated_other s.scene.views a.id _ x made.other) (λ y. refl)

  pub allocated : (t : State) → step world (Alloc a cell dims memory) s ≡ Some t
      → (all_positive (numbers s.scene dims) ≡ true) × (empty ≡ t)
  allocated t = go (all_positive (numbers s.scene dims)) refl
    where
      go : (p : Bool) → all_positive (numbers s.scene dims) ≡ p
          → step world (Alloc a cell dims memory) s ≡ Some t
          → (all_positive (numbers s.scene dims) ≡ true) × (empty ≡ t)
      go true k e = (k, some_injective empty t (ap (λ p. where_true p (Some empty)) (sym k) ∙ e))
      go false k e = absurd (none_is_some (ap (λ p. where_true p (Some empty)) (sym k) ∙ e))

  loading_shows : (t : State) → all_positive (numbers s.scene dims) ≡ true
      → run world (load_nest a.id x coords ls) empty ≡ Some t → IsSome (window s.scene x coords)
  loading_shows t p e = subst IsSome (emptied_window cell (numbers s.scene dims))
      (inside_law world x coords ls
      (Assign a.id (variables ls) (Read x (shifted coords (variables ls)))) empty t
      made.loads.distinct (over_spans ls coords made.loads empty.scene)
      (subst (λ ns. all_positive ns ≡ true) (made.sizes s.scene
      ∙ spans_same coords s.scene empty.scene made.plain (λ y. refl)) p)
      (uses_law world a.id x (shifted coords (variables ls)) (variables ls)
      (Read x (shifted coords (variables ls)))).0 e)

  abbrev first_part : Block
  first_part = next (Alloc a cell dims memory) (load_nest a.id x coords ls)

  shows : (rest : Block) (u : State) → run world (joined first_part rest) s ≡ Some u
      → IsSome (window s.scene x coords)
  shows rest u e =
      let m = then_gives (step world (Alloc a cell dims memory) s)
      (run world (joined (load_nest a.id x coords ls) rest)) u e in
      let p = allocated m.0 m.1 in
      let f = subst (λ z. run world (joined (load_nest a.id x coords ls) rest) z ≡ Some u)
      (sym p.1) m.2 in
      let n = then_gives (run world (load_nest a.id x coords ls) empty) (run world rest) u
      (sym (compose world (load_nest a.id x coords ls) rest empty) ∙ f) in
      loading_shows n.0 p.0 n.1

  -- ---- what follows from the window

  module _ (seen : Seen) (there : window s.scene x coords ≡ Some seen) where
    abbrev Viewed : Type 0
    Viewed = (z : Seen) × (s.scene.views x ≡ Some z) × (z.buffer ≡ seen.buffer)

    viewed : Viewed
    viewed =
        let z = then_gives (s.scene.views x) (part_of s.scene coords) seen there in
        let m = map_parts (with_sides z.0) (narrowed s.scene z.0.sides coords) seen z.2 in
        (z.0, z.1, ap (λ (w : Seen). w.buffer) m.2)

    pub is_root : seen.buffer ≡ root x
    is_root = sym viewed.2 ∙ known.roots x viewed.0 viewed.1

    abbrev Shaped : Type 0
    Shaped = (to : Shape) × (s.scene.buffers seen.buffer ≡ Some to)

    pub shaped : Shaped
    shaped = go (s.scene.buffers seen.buffer) refl
        (subst (λ k. IsSome (s.scene.buffers k)) viewed.2 (known.sound.seen x viewed.0 viewed.1))
      where
        go : (o : Option Shape) → s.scene.buffers seen.buffer ≡ o
            → IsSome (s.scene.buffers seen.buffer) → Shaped
        go None e i = absurd (true≢false (sym (subst IsSome e i)))
        go (Some to) e i = (to, e)

    module _ (to : Shape) (has : s.scene.buffers seen.buffer ≡ Some to) where
      same_cell : to.cell ≡ cell
      same_cell = known.cell_is viewed.0 to viewed.1 (ap s.scene.buffers viewed.2 ∙ has)

      other_buffer : (seen.buffer == a.id) ≡ false
      other_buffer = go (seen.buffer == a.id) refl
        where
          go : (t : Bool) → (seen.buffer == a.id) ≡ t → t ≡ false
          go false e = refl
          go true e = absurd (none_is_some (sym known.unbound.buffers
              ∙ ap s.scene.buffers (sym (eqb-true seen.buffer a.id e)) ∙ has))

      abbrev first : State
      first = emptied a.id to.cell (extents seen.sides) s

      first_tidy : IsTidy first
      first_tidy y e at = go (y == a.id) e
        where
          go : (t : Bool) → cond {A = Option Shape} t
              (Some (tensor to.cell (extents seen.sides))) (s.scene.buffers y) ≡ None
              → cond {A = List ℤ → Value} t (λ js. Undefined) (s.cells y) at ≡ Undefined
          go true e = refl
          go false e = known.sound.tidy y e at

      first_window : window first.scene x coords ≡ Some seen
      first_window = emptied_window to.cell (extents seen.sides) ∙ there

      pub staging : (js : List Loop) → AreOver js coords → IsStaging a.id x seen coords js first
      staging js over =
          let turns = spans_law x coords js first.scene (over_spans js coords over first.scene) in
          record {
            tidy = first_tidy;
            name = updated_own s.scene.views a.id _;
            there = (to, updated_other s.scene.buffers a.id _ seen.buffer other_buffer ∙ has);
            other = other_buffer;
            window = turns.1 seen first_window;
            distinct = over.distinct;
            over = subst (λ ns. RunOver js ns first.scene)
                (box_law first.scene x coords seen first_window).0 turns.0;
          }

      pub lies_between : IsBetween a.id x seen coords inner
      lies_between = record {
        own = made.own;
        name = made.name;
        root = ap (has_binder inner) is_root ∙ made.root_name;
        plain = made.plain;
        variables = made.variables;
      }

      -- what the load nest makes, and the block after it
      pub run_from : (t : State) → run world inner (staged a.id seen to s) ≡ Some t
          → run world (up_to_store a cell dims memory x coords ls b) s ≡ Some t
      run_from t e = compose world first_part inner s
          ∙ ap (λ o. then_do o (run world inner))
          (subst (λ k. run world (next (Alloc a k dims memory) (load_nest a.id x coords ls)) s
          ≡ Some (staged a.id seen to s)) same_cell
          (stage_in_law world a dims memory x seen to coords ls s
          (made.sizes s.scene ∙ (box_law s.scene x coords seen there).0) has
          (staging ls made.loads)
          (fit_into_law s seen.buffer seen.buffer to known.cells has
          (λ w k. ap (λ (q : Shape). q.cell) (one_value w to (sym k ∙ has)))))) ∙ e

      fits_behind : FitsBehind world a x coords b s → (t : State)
          → run world inner (staged a.id seen to s) ≡ Some t → FitInto t a.id seen.buffer
      fits_behind fits t e =
          let mine = (run_names world inner (staged a.id seen to s) t a.id e made.own).buffers in
          let its = (run_names world inner (staged a.id seen to s) t seen.buffer e
          lies_between.root).buffers in
          fit_into_law t a.id seen.buffer (tensor to.cell (extents seen.sides))
          (fits seen to t there has e)
          (sym mine ∙ updated_own s.scene.buffers a.id _)
          (λ w k. ap (λ (q : Shape). q.cell) (one_value w to (sym k ∙ sym its
          ∙ updated_other s.scene.buffers a.id _ seen.buffer other_buffer ∙ has)))

      sizes_are : numbers s.scene dims ≡ extents seen.sides
      sizes_are = made.sizes s.scene ∙ (box_law s.scene x coords seen there).0

      fits_itself : FitInto s seen.buffer seen.buffer
      fits_itself = fit_into_law s seen.buffer seen.buffer to known.cells has
          (λ w k. ap (λ (q : Shape). q.cell) (one_value w to (sym k ∙ has)))

      converts : MayConvert world a.id x seen coords b s
      converts = record {
        sound = known.sound;
        unbound = known.unbound;
        window = there;
        new = made.new;
        fit = known.fit;
        between = lies_between;
      }

      is_alone : IsAlone blind root a.id seen to inner s
      is_alone = record {
        sound = known.sound;
        roots = known.roots;
        own = known.own_roots;
        there = has;
        new = known.unbound;
        blinds = made.blinds;
        names = subst (λ k. in_block (has_root (updated root a.id a.id) k) blind inner ≡ false)
            (sym is_root) made.names;
        not_made = made.not_made;
      }

      pub is_loaded : IsLoaded blind world root a cell dims x coords ls b s
      is_loaded = record {
        seen = seen;
        to = to;
        cell_is = same_cell;
        may = converts;
        alone = is_alone;
        sizes = sizes_are;
        before = staging ls made.loads;
        fit = fits_itself;
      }

      is_staged : FitsBehind world a x coords b s
          → IsStaged blind world root a cell dims x coords ls ks b s
      is_staged fits = record {
        seen = seen;
        to = to;
        cell_is = same_cell;
        may = converts;
        alone = is_alone;
        round = record {
          sizes = sizes_are;
          before = staging ls made.loads;
          again = staging ks made.stores;
          fit = fits_itself;
          between = lies_between;
          behind = λ t e. (over_spans ks coords made.stores t.scene, fits_behind fits t e);
        };
      }

pub known_law : KnownLaw
known_law blind world root a cell dims memory x coords ls ks b s u made known fits e =
    go (window s.scene x coords) refl
    (shows blind world root a cell dims memory x coords ls ks b s made known
    (joined (converted a.id x coords b) (store_nest a.id x coords ks)) u e)
  where
    go : (o : Option Seen) → window s.scene x coords ≡ o → IsSome (window s.scene x coords)
        → IsStaged blind world root a cell dims x coords ls ks b s
    go None k i = absurd (true≢false (sym (subst IsSome k i)))
    go (Some seen) k i =
        let to = shaped blind world root a cell dims memory x coords ls ks b s made known seen k in
        is_staged blind world root a cell dims memory x coords ls ks b s made known seen k to.0 to.1
        fits

pub known_reader_law : KnownReaderLaw
known_reader_law blind world root a cell dims memory x coords ls b s u made known e =
    go (window s.scene x coords) refl
    (shows blind world root a cell dims memory x coords ls ls b s made known
    (converted a.id x coords b) u e)
  where
    go : (o : Option Seen) → window s.scene x coords ≡ o → IsSome (window s.scene x coords)
        → IsLoaded blind world root a cell dims x coords ls b s
    go None k i = absurd (true≢false (sym (subst IsSome k i)))
    go (Some seen) k i =
        let to = shaped blind world root a cell dims memory x coords ls ls b s made known seen k in
        is_loaded blind world root a cell dims memory x coords ls ls b s made known seen k to.0
        to.1

pub fits_behind_law : FitsBehindLaw
fits_behind_law fields memories ps scope blind rules root a cell dims memory x coords ls ks b s unit
    made known sorted ok z to t there has e =
    let kinds = kinds_of fields in
    let world = unit_world kinds ps in
    let new = up_to_store a cell dims memory x coords ls b in
    (if_gives (Ends kinds s) (run world new s) t
    (run_ends kinds (field_kind fields) (agrees fields) memories world refl
    (unit_good fields memories ps unit) new scope rules ok s known.sound sorted)
    (run_from blind world root a cell dims memory x coords ls ks b s made known z there to has t
    e)).cells
