-- A buffer as a part of a larger one.
use Rattle.std.proofs.Common.{◌≡◌, ◌==◌, ℕ, zero, ℤ, pos, ◌+ℤ◌, ◌-ℤ◌, int_lt, int_le, Bool, true}
use Rattle.std.proofs.Common.{false, ◌&&◌, cond, List, [], ◌∷◌, Option, Some, None, IsSome, IfSome}
use Rattle.std.proofs.Common.{refl, sym, ap, ◌∙◌, subst, true≢false, eqb-true, eq-eqb, arith}
use Rattle.std.proofs.Common.{option_map, ⊎_elim, ◌||◌}
use Rattle.std.proofs.lemmas.Int.{ints}
use Rattle.exo_tree.specs.Tree.{Control, Block}
use Rattle.exo_tree.specs.Context.{fill}
use Rattle.exo_meaning.specs.Value.{Value, Undefined}
use Rattle.exo_meaning.specs.Scene.{Side, Point, Range, Seen, Scene, whole, extents, number}
use Rattle.exo_meaning.specs.Scene.{numbers, narrowed, where_true, is_below, strides_of, then_do}
use Rattle.exo_meaning.specs.Scene.{cell_at, composed}
use Rattle.exo_meaning.specs.State.{State, on_scene, with_view}
use Rattle.exo_meaning.specs.Calls.{all_positive, held_at}
use Rattle.exo_meaning.specs.Laws.{HasRoots}
use Rattle.exo_meaning.specs.Refines.{Both}
use Rattle.exo_meaning.specs.Renaming.{Renaming, re_block, re_state}
use Rattle.exo_meaning.specs.Run.{World, run, step, product, row_major, unit_world}
use Rattle.exo_meaning.specs.Unseen.{SameBut}
use Rattle.exo_meaning.proofs.Frame.{updated_other}
use Rattle.exo_meaning.proofs.Ignored.{run_alike}
use Rattle.exo_meaning.proofs.Windows.{none_is_some, one_value, where_parts}
use Rattle.meaning_laws.specs.Copies.{Moves, IsFree}
use Rattle.meaning_laws.specs.Scoped.{has_binder}
use Rattle.meaning_laws.specs.Sound.{IsSound, IsUnbound}
use Rattle.meaning_laws.specs.Substitute.{is_plain}
use Rattle.meaning_laws.proofs.Copies.{copied_block_law, place_unbound, moves_on}
use Rattle.meaning_laws.proofs.Names.{if_gives}
use Rattle.meaning_laws.proofs.Numbers.{binder_seen}
use Rattle.meaning_laws.proofs.Parts.{then_gives}
use Rattle.meaning_laws.proofs.Sound.{step_sound}
use Rattle.meaning_laws.proofs.Substitute.{plain_same, and_parts}
use Rattle.inplace_laws.specs.CallInPlace.{no_name, every}
use Rattle.inplace_laws.specs.InPlace.{through, held_through, IsWithin, IsPlacing, SeenStands}
use Rattle.inplace_laws.specs.InPlace.{BufferStands, StandsFor, makes}
use Rattle.inplace_laws.specs.InlineWindow.{is_name}
use Rattle.inplace_laws.specs.Windows.{view_of, are_plain as are_plain_coords}
use Rattle.inplace_laws.specs.Windows.{in_block as with_window}
use Rattle.inplace_laws.proofs.InPlace.{in_place}
use Rattle.inplace_laws.proofs.InlineWindow.{viewed_same}
use Rattle.inplace_laws.proofs.Sides.{whole_within, composed_whole}
use Rattle.inplace_laws.proofs.Windows.{window_law}
use Rattle.place_laws.specs.Scope.Scopes.{top_binders}
use Rattle.place_laws.proofs.OfScope.Opened.{leaving_refines}
use Rattle.buffer_laws.specs.Staging.Stage.{AreAlike}
use Rattle.buffer_laws.proofs.OfStaging.Replaced.{alike_replaces}
use Rattle.buffer_laws.specs.Buffers.{Buffer, allocation, is_buffer}
use Rattle.buffer_laws.specs.Expanded.{expanded_buffer, part_coords, part_of, with_id}
use Rattle.buffer_laws.specs.Expanded.{small, enlarged, with_larger, MayExpand, EndsAlike}
use Rattle.buffer_laws.specs.Expanded.{ExpandLaw}
use Rattle.buffer_laws.specs.Expanded.{ExpandUnderIds, ExpandRefines}
use Rattle.buffer_laws.specs.Lifted.{are_plain}
use Rattle.buffer_laws.specs.Simplified.{IsSimplifier}
use Rattle.buffer_laws.proofs.Buffers.{updated_own, shape_of, behind, is_behind}
use Rattle.buffer_laws.proofs.Lifted.{numbers_kept, none_in_all}
use Rattle.buffer_laws.proofs.Simplified.{simplified_law}
use Rattle.buffer_laws.proofs.Shown.{block, not_made}
use Rattle.match_laws.specs.Names.{whole_of}

-- ---- the whole of a buffer

whole_extents : (ds : List ℤ) → extents (whole ds) ≡ ds
whole_extents [] = refl
whole_extents (d ∷ ds) = ap (λ r. d ∷ r) (whole_extents ds)

whole_strides : (ds : List ℤ) → strides_of (whole ds) (row_major ds) ≡ row_major ds
whole_strides [] = refl
whole_strides (d ∷ ds) = ap (λ r. product ds ∷ r) (whole_strides ds)

all_of : (d : ℤ) → int_le (pos 1) d ≡ true
    → (int_le (pos 0) (pos 0) && int_lt (pos 0) d && int_le d d) ≡ true
all_of d h = grind (arith, ints)

from_first : (d : ℤ) → pos 0 +ℤ d ≡ d
from_first d = omega (arith, ints)

less_none : (d : ℤ) → d -ℤ pos 0 ≡ d
less_none d = omega (arith, ints)

is_positive : (i n : ℤ) → is_below i n ≡ true → int_le (pos 1) n ≡ true
is_positive i n h = grind (arith, ints)

-- the side of a span from 0 on
abbrev from_none : ℤ → List Side → List Side
from_none d rest = Range (pos 0 +ℤ pos 0) (d -ℤ pos 0) ∷ rest

spans_are_whole : (scene : Scene) (es : List Control) (ds : List ℤ) → numbers scene es ≡ ds
    → all_positive ds ≡ true
    → narrowed scene (whole ds) (whole_of es) ≡ Some (whole ds)
spans_are_whole scene es ds e h =
    subst (λ z. narrowed scene (whole z) (whole_of es) ≡ Some (whole z)) e
    (go es (ap all_positive e ∙ h))
  where
    go : (es : List Control) → all_positive (numbers scene es) ≡ true
        → narrowed scene (whole (numbers scene es)) (whole_of es)
        ≡ Some (whole (numbers scene es))
    go [] h = refl
    go (e ∷ es) h =
        let d = number scene e in
        let ds = numbers scene es in
        let q = and_parts (int_le (pos 1) d) (all_positive ds) h in
        ap (λ t. where_true t (option_map (from_none d)
        (narrowed scene (whole ds) (whole_of es)))) (all_of d q.0)
        ∙ ap (option_map (from_none d)) (go es q.1)
        ∙ ap (λ z. Some (Range (pos 0) z ∷ whole ds)) (less_none d)

spans_are_plain : (es : List Control) → are_plain es ≡ true
    → are_plain_coords (whole_of es) ≡ true
spans_are_plain [] h = refl
spans_are_plain (e ∷ es) h =
    let q = and_parts (is_plain e) (are_plain es) h in
    ap (λ t. t && are_plain_coords (whole_of es)) q.0 ∙ spans_are_plain es q.1

nothing_held : (o : Option (List ℤ)) → held_at (λ at. Undefined) o ≡ Undefined
nothing_held None = refl
nothing_held (Some at) = refl

-- ---- the two runs

module _ (world : World) (a : ℕ) (n e : Control) (x : Buffer) (rest : Block) (s : State)
    (may : MayExpand a n e x rest s) where
  abbrev dims : List ℤ
  dims = numbers s.scene x.dims

  abbrev point : ℤ
  point = number s.scene e

  abbrev size : ℤ
  size = number s.scene n

  abbrev larger : Buffer
  larger = expanded_buffer n (with_id a x)

  abbrev part : Seen
  part = record { buffer = a; sides = Point point ∷ whole dims }

  -- behind the small allocation, behind the large one, and there with the part for x
  abbrev first : State
  first = behind x s

  abbrev big : State
  big = behind larger s

  abbrev viewed : State
  viewed = on_scene (with_view x.binder.id part) big

  abbrev base : ℕ → Option Seen
  base y = cond (y == x.binder.id) (Some part) None

  other_way : (t : Bool) → (a == x.binder.id) ≡ t → t ≡ false
  other_way false h = refl
  other_way true h = absurd (true≢false
      (sym (eq-eqb x.binder.id a (sym (eqb-true a x.binder.id h))) ∙ may.trees.apart))

  not_x : (a == x.binder.id) ≡ false
  not_x = other_way (a == x.binder.id) refl

  base_x : base x.binder.id ≡ Some part
  base_x = ap (λ t. cond {A = Option Seen} t (Some part) None) (eq-eqb x.binder.id x.binder.id refl)

  is_x : (y : ℕ) (z : Seen) (t : Bool) → (y == x.binder.id) ≡ t
      → cond {A = Option Seen} t (Some part) None ≡ Some z → (y ≡ x.binder.id) × (part ≡ z)
  is_x y z true h k = (eqb-true y x.binder.id h, one_value part z k)
  is_x y z false h k = absurd (none_is_some k)

  placing : IsPlacing (is_name a) every every base
  placing = record {
    whole = λ y h. refl;
    outside = λ y z h. ap (λ (q : Seen). q.buffer == a) (sym (is_x y z (y == x.binder.id) refl h).1)
        ∙ eq-eqb a a refl;
    apart = λ y c z w g m h k. absurd (true≢false (sym (eq-eqb y c
        ((is_x y z (y == x.binder.id) refl h).0
        ∙ sym (is_x c w (c == x.binder.id) refl k).0)) ∙ m));
  }

  none_made : (y : ℕ) → makes rest y ≡ true → base y ≡ None
  none_made y h = go (y == x.binder.id) refl
    where
      go : (t : Bool) → (y == x.binder.id) ≡ t → cond {A = Option Seen} t (Some part) None ≡ None
      go false i = refl
      go true i = absurd (true≢false (sym h ∙ ap (makes rest) (eqb-true y x.binder.id i)
          ∙ not_made rest x.binder.id may.trees.once))

  -- a buffer that is there is neither
  is_other : (c : ℕ) → IsUnbound s c → (y : ℕ) → IsSome (s.scene.buffers y) → (y == c) ≡ false
  is_other c none y i = go (y == c) refl
    where
      go : (t : Bool) → (y == c) ≡ t → t ≡ false
      go false h = refl
      go true h = absurd (true≢false (sym (subst IsSome (ap s.scene.buffers (eqb-true y c h)
          ∙ none.buffers) i)))

  abbrev Sees : Seen → Seen → Type 0
  Sees = SeenStands (is_name a) every no_name every base big

  abbrev sees_whole : Seen
  sees_whole = record { buffer = x.binder.id; sides = whole dims }

  within : IsWithin (Some part) (whole dims)
  within = subst (λ l. IsWithin (Some part) (whole l)) (whole_extents dims)
      (whole_within part.sides)

  composed_part : through (Some part) sees_whole ≡ part
  composed_part = ap (λ l. record { buffer = a; sides = l })
      (ap (λ l. composed part.sides (whole l)) (sym (whole_extents dims))
      ∙ composed_whole part.sides)

  sees_part : Sees sees_whole part
  sees_part = (
    may.trees.apart,
    subst (λ o. IsWithin o (whole dims)) (sym base_x) within,
    sym composed_part ∙ ap (λ o. through o sees_whole) (sym base_x),
  )

  sees_same : (y : ℕ) (o : Option Seen) → s.scene.views y ≡ o → Both Sees o o
  sees_same y None h = tt
  sees_same y (Some z) h =
      let there = may.sound.seen y z h in
      let m = ap (λ t. cond {A = Option Seen} t (Some part) None)
      (is_other x.binder.id may.none z.buffer there) in (
        is_other a may.new z.buffer there,
        subst (λ o. IsWithin o z.sides) (sym m) tt,
        ap (λ o. through o z) (sym m),
      )

  view_stands : (y : ℕ) → (y == a) ≡ false → (t : Bool)
      → Both Sees (cond t (Some sees_whole) (s.scene.views y))
      (cond t (Some part) (big.scene.views y))
  view_stands y k true = sees_part
  view_stands y k false = subst (Both Sees (s.scene.views y))
      (sym (updated_other s.scene.views a _ y k)) (sees_same y (s.scene.views y) refl)

  buffer_stands : (y : ℕ) → (y == a) ≡ false → (t : Bool)
      → BufferStands (is_name a) every no_name every base big
      (cond {A = Option Seen} t (Some part) None)
      (cond t (Some (shape_of x s)) (s.scene.buffers y)) big.scene.buffers y
  buffer_stands y k true = (
    shape_of x s,
    shape_of larger s,
    refl,
    updated_own s.scene.buffers a (Some (shape_of larger s)),
    refl,
    λ st. sym (whole_strides dims),
  )
  buffer_stands y k false = sym (updated_other s.scene.buffers a _ y k)

  cell_stands : (y : ℕ) (at : List ℤ) → (y == a) ≡ false → (t : Bool)
      → cond {A = List ℤ → Value} t (λ js. Undefined) (s.cells y) at
      ≡ held_through (cond {A = Option Seen} t (Some part) None) big.cells y at
  cell_stands y at k true = sym (ap (λ c. held_at c (cell_at part.sides at))
      (updated_own s.cells a (λ js. Undefined)) ∙ nothing_held (cell_at part.sides at))
  cell_stands y at k false = ap (λ c. c at) (sym (updated_other s.cells a (λ js. Undefined) y k))

  stands : StandsFor (is_name a) every no_name every base big first viewed
  stands = record {
    control = λ y k. refl;
    fields = refl;
    others = λ y k. refl;
    views = λ y k. view_stands y k (y == x.binder.id);
    names = λ y z k m i. refl;
    buffers = λ y k. buffer_stands y k (y == x.binder.id);
    cells = record {
      own = λ y k at. cell_stands y at k (y == x.binder.id);
      left = λ y at k i l. refl;
    };
  }

  abbrev buffer_in : Option Seen → ℕ
  buffer_in None = zero
  buffer_in (Some z) = z.buffer

  roots : HasRoots (λ y. buffer_in (first.scene.views y)) first.scene
  roots y z h = ap buffer_in (sym h)

  -- the small one and the part run alike
  both : Both (StandsFor (is_name a) every no_name every base big) (run world rest first)
      (run world rest viewed)
  both = in_place world (is_name a) every no_name every base
      (λ y. buffer_in (first.scene.views y)) rest big first viewed placing
      (block (is_name a) rest ∙ may.trees.unused) (λ y h. absurd (true≢false h)) none_made roots
      stands

  -- ---- the part in the place of the name

  module _ (positive : all_positive dims ≡ true) where
    larger_positive : all_positive (size ∷ dims) ≡ true
    larger_positive = ap (λ t. t && all_positive dims) (is_positive point size may.inside)
        ∙ positive

    made : step world (allocation larger) s ≡ Some big
    made = ap (λ t. where_true t (Some big)) larger_positive

    big_sound : IsSound big
    big_sound = if_gives IsSound (step world (allocation larger) s) big
        (step_sound world (allocation larger) s may.sound) made

    big_none : IsUnbound big x.binder.id
    big_none = record {
      control = may.none.control;
      buffers = updated_other s.scene.buffers a _ x.binder.id may.trees.apart ∙ may.none.buffers;
      views = updated_other s.scene.views a _ x.binder.id may.trees.apart ∙ may.none.views;
    }

    sides_are : narrowed viewed.scene (whole (size ∷ dims)) (part_coords e x)
        ≡ Some part.sides
    sides_are =
        let same = plain_same e viewed.scene s.scene may.trees.plain (λ y h. refl) in
        let sizes = numbers_kept (λ y. false) viewed.scene s.scene (λ y h. refl) x.dims
        may.trees.plain_dims (none_in_all x.dims) in
        let rest_of_it = narrowed viewed.scene (whole dims) (whole_of x.dims) in
        ap (λ i. where_true (is_below i size) (option_map (λ l. Point (pos 0 +ℤ i) ∷ l) rest_of_it))
        same
        ∙ ap (λ t. where_true t (option_map (λ l. Point (pos 0 +ℤ point) ∷ l) rest_of_it))
        may.inside
        ∙ ap (option_map (λ l. Point (pos 0 +ℤ point) ∷ l))
        (spans_are_whole viewed.scene x.dims dims sizes positive)
        ∙ ap (λ i. Some (Point i ∷ whole dims)) (from_first point)

    seen_there : view_of viewed.scene (part_of a e x) ≡ Some part
    seen_there =
        ap (λ o. then_do o (λ z. option_map (λ l. record { buffer = z.buffer; sides = l })
        (narrowed viewed.scene z.sides (part_coords e x))))
        (updated_other big.scene.views x.binder.id (Some part) a not_x
        ∙ updated_own s.scene.views a _)
        ∙ ap (option_map (λ l. record { buffer = a; sides = l })) sides_are

    abbrev new_rest : Block
    new_rest = with_window x.binder.id (part_of a e x) rest

    on_part : (d : State) → run world rest viewed ≡ Some d → run world new_rest viewed ≡ Some d
    on_part d h = if_gives (λ z. run world new_rest viewed ≡ Some z) (run world rest viewed) d
        (window_law world x.binder.id (part_of a e x) rest viewed (record {
          seen = part;
          name = updated_own big.scene.views x.binder.id (Some part);
          window = seen_there;
          plain = ap (λ t. t && are_plain_coords (whole_of x.dims)) may.trees.plain
              ∙ spans_are_plain x.dims may.trees.plain_dims;
          own = may.trees.once;
          root = made_elsewhere (has_binder rest a) refl;
          variables = may.trees.kept;
        })) h
      where
        made_elsewhere : (t : Bool) → has_binder rest a ≡ t → t ≡ false
        made_elsewhere false k = refl
        made_elsewhere true k = absurd (true≢false (sym (eq-eqb a a refl)
            ∙ binder_seen (is_name a) a rest may.trees.unused k))

    without : Both (SameBut (is_buffer x)) (run world new_rest viewed) (run world new_rest big)
    without = run_alike (is_buffer x) world new_rest may.trees.gone viewed big
        (viewed_same x.binder.id part big big_sound big_none)

  -- ---- the ends

  cells_alike : (t d u : State)
      → StandsFor (is_name a) every no_name every base big t d
      → SameBut (is_buffer x) d u → AreAlike s t u
  cells_alike t d u h k = record {
    fields = h.fields ∙ k.fields;
    cells = λ y at i.
        let is_not = is_other x.binder.id may.none y i in
        h.cells.own y (is_other a may.new y i) at
        ∙ ap (λ q. held_through (cond {A = Option Seen} q (Some part) None) d.cells y at) is_not
        ∙ ap (λ c. c at) (k.cells y is_not);
  }

  ends : (t : State) → run world (small x rest) s ≡ Some t
      → EndsAlike s t (run world (enlarged a n e x rest) s)
  ends t h =
      let p = then_gives (step world (allocation x) s) (run world rest) t h in
      let positive = (where_parts (all_positive dims) (Some first) p.0 p.1).0 in
      let go = ap (run world rest) (is_behind world x s p.0 p.1) ∙ p.2 in
      let second = both_on (StandsFor (is_name a) every no_name every base big)
      (run world rest first) (run world rest viewed) t go both in
      let third = both_on (SameBut (is_buffer x)) (run world (new_rest positive) viewed)
      (run world (new_rest positive) big) second.0
      (on_part positive second.0 second.1) (without positive) in (
        third.0,
        ap (λ o. then_do o (run world (new_rest positive))) (made positive) ∙ third.1,
        cells_alike t second.0 third.0 second.2 third.2,
      )
    where
      both_on : {A B : Type 0} (R : A → B → Type 0) (o : Option A) (p : Option B) (b : A)
          → o ≡ Some b → Both R o p → (c : B) × (p ≡ Some c) × R b c
      both_on R None p b h k = absurd (none_is_some h)
      both_on R (Some y) None b h k = absurd k
      both_on R (Some y) (Some c) b h k = (c, refl, subst (λ z. R z c) (one_value y b h) k)

  expands : (o : Option State) → run world (small x rest) s ≡ o
      → IfSome o (λ t. EndsAlike s t (run world (enlarged a n e x rest) s))
  expands None h = tt
  expands (Some t) h = ends t h

pub expand_law : ExpandLaw
expand_law world a n e x rest s may =
    expands world a n e x rest s may (run world (small x rest) s) refl

-- ---- under other ids

module _ (simple : Control → Control) (r : Renaming) (world : World) (a : ℕ) (n e : Control)
    (x : Buffer) (rest : Block) (s : State) (is : IsSimplifier simple)
    (may : MayExpand a n e x rest s) (moves : Moves r (IsUnbound s)) where
  -- a buffer that is there keeps its id
  stays : (y : ℕ) → IsSome (s.scene.buffers y) → r.from y ≡ y
  stays y i = ⊎_elim (λ k. k)
      (λ u. absurd (true≢false (sym (subst IsSome u.0.buffers i)))) (moves y)

  under_ids : (t : State) → EndsAlike s t (run world (enlarged a n e x rest) s)
      → EndsAlike s t (run world (re_block r (with_larger simple a n e x rest)) s)
  under_ids t h = (
    re_state r h.0,
    (copied_block_law r world (with_larger simple a n e x rest) s may.sound moves).0
        ∙ ap (option_map (re_state r))
        (sym (simplified_law world simple (is_name a) (enlarged a n e x rest) s is) ∙ h.1),
    record {
      fields = h.2.fields;
      cells = λ y at i. h.2.cells y at i ∙ ap (λ z. h.0.cells z at) (sym (stays y i));
    },
  )

  all_under_ids : (o : Option State)
      → IfSome o (λ t. EndsAlike s t (run world (enlarged a n e x rest) s))
      → IfSome o (λ t. EndsAlike s t (run world (re_block r (with_larger simple a n e x rest)) s))
  all_under_ids None h = tt
  all_under_ids (Some t) h = under_ids t h

pub expand_under_ids : ExpandUnderIds
expand_under_ids simple r world a n e x rest s is may moves =
    all_under_ids simple r world a n e x rest s is may moves (run world (small x rest) s)
    (expand_law world a n e x rest s may)

-- under other ids, with the indices as they are made
pub under_same : (r : Renaming) (world : World) (a : ℕ) (n e : Control) (x : Buffer)
    (rest : Block) (s : State) → MayExpand a n e x rest s → Moves r (IsUnbound s)
    → IfSome (run world (small x rest) s)
    (λ t. EndsAlike s t (run world (re_block r (enlarged a n e x rest)) s))
under_same r world a n e x rest s may moves =
    subst (λ o. IfSome (run world (small x rest) s) (λ t. EndsAlike s t o))
    ((copied_block_law r world (with_larger same_index a n e x rest) s may.sound moves).0
    ∙ ap (option_map (re_state r))
    (sym (simplified_law world same_index (is_name a) (enlarged a n e x rest) s is_same_index))
    ∙ sym (copied_block_law r world (enlarged a n e x rest) s may.sound moves).0)
    (expand_under_ids same_index r world a n e x rest s is_same_index may moves)
  where
    same_index : Control → Control
    same_index e = e

    is_same_index : IsSimplifier same_index
    is_same_index e scene plain = refl

-- ---- at a place

pub turned_round : (s t u : State) → AreAlike s t u → AreAlike s u t
turned_round s t u h = record {
  fields = sym h.fields;
  cells = λ y at i. sym (h.cells y at i);
}

pub expand_refines : ExpandRefines
expand_refines kinds ps p c hidden simple r a n e x rest was is leaves of_old of_new free moves
    trees inside =
    let world = unit_world kinds ps in
    let old = small x rest in
    let new = re_block r (with_larger simple a n e x rest) in
    leaving_refines kinds ps c old new p (record p { body = fill c new }) hidden was refl leaves
    (λ s u good come none.
    alike_replaces world hidden old new u (record {
      none = none;
      of_old = of_old;
      of_new = of_new;
    }) (λ t v h k.
    let may : MayExpand a n e x rest u = record {
      trees = trees;
      sound = none.sound;
      none = none.unbound x.binder.id (of_old x.binder.id
          (ap (λ b. b || top_binders rest x.binder.id) (eq-eqb x.binder.id x.binder.id refl)));
      new = place_unbound world p old c s u good come a free;
      inside = inside s u good come;
    } in
    let end_of = if_gives (λ t. EndsAlike u t (run world new u)) (run world old u) t
    (expand_under_ids simple r world a n e x rest u is may
    (moves_on r (IsFree p c) (IsUnbound u) (place_unbound world p old c s u good come) moves))
    h in
    turned_round u t v (subst (AreAlike u t) (one_value end_of.0 v (sym end_of.1 ∙ k)) end_of.2)))
