-- From what is asked of accesses to what a staged block has to know of them.
use Rattle.std.proofs.Common.{◌≡◌, ◌==◌, ◌||◌, ◌&&◌, ℕ, suc, ℤ, pos, ◌+ℤ◌, ◌-ℤ◌, int_le, int_lt, Bool, true, false}
use Rattle.std.proofs.Common.{true≢false, cond, List, [], ◌∷◌, ◌++◌, length, Option, Some, None, IsSome}
use Rattle.std.proofs.Common.{option_map, refl, sym, ap, ap₂, ◌∙◌, subst, arith}
use Rattle.std.proofs.lemmas.Int.{ints}
use Rattle.std.specs.Cmp.{signed_Decides}
use Rattle.std.specs.List.{list_any}
use Rattle.std.specs.Ordering.{int_eq}
use Rattle.exo_tree.specs.Tree.{joined}
use Rattle.exo_tree.specs.Tree.{Control, Condition, Datum, Const, Read, Negated, Relu}
use Rattle.exo_tree.specs.Tree.{Plus, Minus, Times, Select, Coord, At, Span, Argument, ControlArg}
use Rattle.exo_tree.specs.Tree.{ConditionArg, Whole, Window, Statement, Assign, Reduce, Config, Pass}
use Rattle.exo_tree.specs.Tree.{If, For, Alloc, View, Call, Block, end, next}
use Rattle.exo_tree.specs.Context.{Context, Here, After, InLoop, InThen, InElse, fill}
use Rattle.exo_meaning.specs.Run.{run, unit_world, kinds_of}
use Rattle.exo_meaning.proofs.Compose.{compose}
use Rattle.exo_meaning.proofs.Frame.{or_parts}
use Rattle.meaning_laws.specs.Scoped.{has_binder, step_has_binder}
use Rattle.meaning_laws.specs.Sound.{on_way, IsSameName}
use Rattle.meaning_laws.proofs.Apart.{binds_less}
use Rattle.meaning_laws.proofs.Names.{come_names}
use Rattle.meaning_laws.proofs.Parts.{then_gives}
use Rattle.inplace_laws.proofs.Windows.{view_kept}
use Rattle.buffer_laws.specs.Staging.Stores.{load_nest}
use Rattle.buffer_laws.proofs.OfNothing.{loaded_of_nothing, made_of_nothing}
use Rattle.buffer_laws.proofs.SumsStand.{sees}
use Rattle.buffer_laws.specs.Sums.{zero_nest, sum_nest}
use Rattle.exo_meaning.specs.Scene.{Side, Point, Range, Seen, Scene, number, numbers, extents}
use Rattle.exo_meaning.specs.Scene.{narrowed, window, then_do}
use Rattle.exo_meaning.proofs.Windows.{none_is_some, one_value, where_parts, map_parts}
use Rattle.buffer_laws.specs.Staging.Converted.{IndicesFit, CoordsFit, IndicesAt, CoordsAt, DatumFits}
use Rattle.buffer_laws.specs.Staging.Converted.{ArgumentFits, ArgumentsFit, StatementFits}
use Rattle.buffer_laws.specs.StageMem.{asked_of_indices, asked_of_coords, asked_of_datum}
use Rattle.buffer_laws.specs.StageMem.{asked_of_arguments, asked_of_statement}
use Rattle.buffer_laws.specs.StageMem.{has_span_at_point}
use Rattle.buffer_laws.specs.Stride.OnView.{AllHold}
use Rattle.buffer_laws.proofs.OfStride.OnView.{hold_parts}
use Rattle.alloc_laws.specs.Goes.Fits.{is_for_field, IndicesMatch, CoordsMatch, DatumMatches}
use Rattle.alloc_laws.specs.Goes.Fits.{ArgumentsMatch, StatementMatches, is_whole, passes_whole}
use Rattle.alloc_laws.specs.Goes.Fits.{IsWhole, WholeLaw, FitsFromLies, BlockMatches, WindowComes}
use Rattle.alloc_laws.specs.Goes.Fits.{WindowShown, SumsShown}
use Rattle.match_laws.specs.Names.{whole_of}

-- ---- x whole

same_end : (i j n d : ℤ) → (int_le (pos 0) i && int_lt i j && int_le j n) ≡ true
    → int_le i (pos 0) ≡ true → int_le d j ≡ true → d ≡ n → (i ≡ pos 0) × (j ≡ n)
same_end i j n d h k l e = (first i j n h k, last i j n d h l e)
  where
    first : (i j n : ℤ) → (int_le (pos 0) i && int_lt i j && int_le j n) ≡ true
        → int_le i (pos 0) ≡ true → i ≡ pos 0
    first i j n h k = grind (arith, ints)

    last : (i j n d : ℤ) → (int_le (pos 0) i && int_lt i j && int_le j n) ≡ true
        → int_le d j ≡ true → d ≡ n → j ≡ n
    last i j n d h l e = grind (arith, ints)

plus_none : (lo : ℤ) → lo +ℤ pos 0 ≡ lo
plus_none lo = omega (arith, ints)

less_none : (n : ℤ) → n -ℤ pos 0 ≡ n
less_none n = omega (arith, ints)

-- ---- lists

too_long : (n : ℕ) → suc n ≡ 0 → ⊥
too_long n k = omega arith

shorter : (m n : ℕ) → suc m ≡ suc n → m ≡ n
shorter m n k = omega arith

first_item : (m n : ℤ) (ms ns : List ℤ) → m ∷ ms ≡ n ∷ ns → m ≡ n
first_item m n ms ns e = cc

later_items : (m n : ℤ) (ms ns : List ℤ) → m ∷ ms ≡ n ∷ ns → ms ≡ ns
later_items m n ms ns e = cc

or_right : (p q : Bool) → q ≡ true → (p || q) ≡ true
or_right true q h = refl
or_right false q h = h

same_number : (m n : ℤ) → int_eq m n ≡ true → m ≡ n
same_number m n e = (signed_Decides m n).0 e

abbrev seen_of : Seen → List Side → Seen
seen_of z sides = record { buffer = z.buffer; sides = sides }

module _ (scene : Scene) where
  abbrev Whole_sides : List Side → List Coord → List Control → Type 0
  Whole_sides sides cs dims =
      numbers scene dims ≡ extents sides
      → length cs ≡ length dims
      → has_span_at_point cs (whole_of dims) ≡ false
      → AllHold scene (asked_of_coords cs (whole_of dims))
      → (o : List Side) → narrowed scene sides cs ≡ Some o
      → o ≡ sides

  whole_sides : (sides : List Side) (cs : List Coord) (dims : List Control)
      → Whole_sides sides cs dims
  whole_sides [] [] dims sizes long spans all o e = sym (one_value [] o e)
  whole_sides [] (c ∷ cs) dims sizes long spans all o e = absurd (none_is_some e)
  whole_sides (Point p ∷ sides) cs dims sizes long spans all o e =
      let m = map_parts (λ rest. Point p ∷ rest) (narrowed scene sides cs) o e in
      sym m.2 ∙ ap (λ l. Point p ∷ l) (whole_sides sides cs dims sizes long spans all m.0 m.1)
  whole_sides (Range lo n ∷ sides) [] dims sizes long spans all o e = absurd (none_is_some e)
  whole_sides (Range lo n ∷ sides) (c ∷ cs) [] sizes long spans all o e = absurd (no_items sizes)
    where
      no_items : [] ≡ n ∷ extents sides → ⊥
      no_items k = cc
  whole_sides (Range lo n ∷ sides) (At a ∷ cs) (d ∷ dims) sizes long spans all o e =
      absurd (true≢false spans)
  whole_sides (Range lo n ∷ sides) (Span u v ∷ cs) (d ∷ dims) sizes long spans all o e =
      let i = number scene u in
      let j = number scene v in
      let w = where_parts (int_le (pos 0) i && int_lt i j && int_le j n)
      (option_map (λ rest. Range (lo +ℤ i) (j -ℤ i) ∷ rest) (narrowed scene sides cs)) o e in
      let m = map_parts (λ rest. Range (lo +ℤ i) (j -ℤ i) ∷ rest) (narrowed scene sides cs) o w.1 in
      let ends = same_end i j n (number scene d) w.0 all.0 all.1.0
      (first_item (number scene d) n (numbers scene dims) (extents sides) sizes) in
      sym m.2 ∙ ap₂ ◌∷◌ (ap₂ Range (ap (λ k. lo +ℤ k) ends.0 ∙ plus_none lo)
      (ap₂ ◌-ℤ◌ ends.1 ends.0 ∙ less_none n))
      (whole_sides sides cs dims
      (later_items (number scene d) n (numbers scene dims) (extents sides) sizes)
      (shorter (length cs) (length dims) long) spans all.1.1 m.0 m.1)

module _ (x : ℕ) (dims : List Control) (coords : List Coord) (scene : Scene)
    (it : IsWhole x dims coords scene)
    (all : AllHold scene (asked_of_coords coords (whole_of dims))) where
  abbrev part : List Side → Seen
  part sides = record { buffer = it.seen.buffer; sides = sides }

  is_part : window scene x coords ≡ option_map part (narrowed scene it.seen.sides coords)
  is_part = ap (λ o. then_do o (λ (z : Seen). option_map (λ sides. seen_of z sides)
      (narrowed scene z.sides coords))) it.there

  is_all : (o : Option (List Side)) → narrowed scene it.seen.sides coords ≡ o
      → IsSome (option_map part o) → option_map part o ≡ Some it.seen
  is_all None e i = absurd (true≢false (sym i))
  is_all (Some r) e i = ap (λ l. Some (part l))
      (whole_sides scene it.seen.sides coords dims it.sizes it.long it.spans all r e)

pub whole_law : WholeLaw
whole_law x dims coords scene it all =
    is_part x dims coords scene it all
    ∙ is_all x dims coords scene it all (narrowed scene it.seen.sides coords) refl
    (subst IsSome (is_part x dims coords scene it all) it.window)
    ∙ sym it.there

-- ---- accesses

hold_where : (z : Scene) (t : Bool) (cs : List Condition) → AllHold z (cond t cs []) → t ≡ true
    → AllHold z cs
hold_where z t cs h e = subst (λ r. AllHold z (cond r cs [])) e h

module _ (scene : Scene) where
  indices_fit : (cs : List Coord) (is : List Control) → length is ≡ length cs
      → AllHold scene (asked_of_indices cs is) → IndicesFit scene cs is
  indices_fit [] [] k all = tt
  indices_fit [] (e ∷ is) k all = absurd (too_long (length is) k)
  indices_fit (At u ∷ cs) [] k all = absurd (too_long (length cs) (sym k))
  indices_fit (Span u v ∷ cs) [] k all = absurd (too_long (length cs) (sym k))
  indices_fit (At u ∷ cs) (e ∷ is) k all = (
    same_number (number scene e) (number scene u) all.0,
    indices_fit cs is (shorter (length is) (length cs) k) all.1,
  )
  indices_fit (Span u v ∷ cs) (e ∷ is) k all =
      indices_fit cs is (shorter (length is) (length cs) k) all.1.1

  coords_fit : (cs ds : List Coord) → length ds ≡ length cs → has_span_at_point cs ds ≡ false
      → AllHold scene (asked_of_coords cs ds) → CoordsFit scene cs ds
  coords_fit [] [] k h all = tt
  coords_fit [] (d ∷ ds) k h all = absurd (too_long (length ds) k)
  coords_fit (At u ∷ cs) [] k h all = absurd (too_long (length cs) (sym k))
  coords_fit (Span u v ∷ cs) [] k h all = absurd (too_long (length cs) (sym k))
  coords_fit (At u ∷ cs) (At e ∷ ds) k h all = (
    same_number (number scene e) (number scene u) all.0,
    coords_fit cs ds (shorter (length ds) (length cs) k) h all.1,
  )
  coords_fit (At u ∷ cs) (Span e f ∷ ds) k h all = absurd (true≢false h)
  coords_fit (Span u v ∷ cs) (At e ∷ ds) k h all =
      coords_fit cs ds (shorter (length ds) (length cs) k) h all.1.1
  coords_fit (Span u v ∷ cs) (Span e f ∷ ds) k h all =
      coords_fit cs ds (shorter (length ds) (length cs) k) h all.1.1

module _ (x : ℕ) (dims : List Control) (coords : List Coord) (scene : Scene) where
  indices_at : (y : ℕ) (is : List Control) → IndicesMatch x coords y is
      → AllHold scene (cond (y == x) (asked_of_indices coords is) []) → IndicesAt x coords scene y is
  indices_at y is m all e = indices_fit scene coords is (m e)
      (hold_where scene (y == x) (asked_of_indices coords is) all e)

  coords_at : (y : ℕ) (ds : List Coord) → CoordsMatch x coords y ds
      → AllHold scene (cond (y == x) (asked_of_coords coords ds) []) → CoordsAt x coords scene y ds
  coords_at y ds m all e = coords_fit scene coords ds (m e).0 (m e).1
      (hold_where scene (y == x) (asked_of_coords coords ds) all e)

  datum_fits : (d : Datum) → DatumMatches x coords d
      → AllHold scene (asked_of_datum x dims coords d) → DatumFits x coords scene d
  datum_fits (Const n) m all = tt
  datum_fits (Read y is) m all = indices_at y is m all
  datum_fits (Negated d) m all = datum_fits d m all
  datum_fits (Relu d) m all = datum_fits d m all
  datum_fits (Plus d e) m all =
      let p = hold_parts scene (asked_of_datum x dims coords d) (asked_of_datum x dims coords e) all
      in (datum_fits d m.0 p.0, datum_fits e m.1 p.1)
  datum_fits (Minus d e) m all =
      let p = hold_parts scene (asked_of_datum x dims coords d) (asked_of_datum x dims coords e) all
      in (datum_fits d m.0 p.0, datum_fits e m.1 p.1)
  datum_fits (Times d e) m all =
      let p = hold_parts scene (asked_of_datum x dims coords d) (asked_of_datum x dims coords e) all
      in (datum_fits d m.0 p.0, datum_fits e m.1 p.1)
  datum_fits (Select d e f g) m all =
      let asked = asked_of_datum x dims coords in
      let p = hold_parts scene (asked d ++ asked e ++ asked f) (asked g) all in
      let q = hold_parts scene (asked d ++ asked e) (asked f) p.0 in
      let r = hold_parts scene (asked d) (asked e) q.0 in
      (datum_fits d m.0 r.0, datum_fits e m.1 r.1, datum_fits f m.2 q.1, datum_fits g m.3 p.1)

  abbrev Wholes : List Argument → Type 0
  Wholes gs = list_any (is_whole x) gs ≡ true → IsWhole x dims coords scene

  arguments_fit : (gs : List Argument) → ArgumentsMatch x coords gs → Wholes gs
      → AllHold scene (asked_of_arguments x dims coords gs) → ArgumentsFit x coords scene gs
  arguments_fit [] m w all = tt
  arguments_fit (ControlArg e ∷ gs) m w all = (tt, arguments_fit gs m.1 w all)
  arguments_fit (ConditionArg c ∷ gs) m w all = (tt, arguments_fit gs m.1 w all)
  arguments_fit (Whole y ∷ gs) m w all =
      let asked = asked_of_coords coords (whole_of dims) in
      let p = hold_parts scene (cond (y == x) asked []) (asked_of_arguments x dims coords gs) all in (
        (λ e. whole_law x dims coords scene (w (ap (λ r. r || list_any (is_whole x) gs) e))
            (hold_where scene (y == x) asked p.0 e)),
        arguments_fit gs m.1 (λ e. w (or_right (y == x) (list_any (is_whole x) gs) e)) p.1,
      )
  arguments_fit (Window y ds ∷ gs) m w all =
      let asked = asked_of_coords coords ds in
      let p = hold_parts scene (cond (y == x) asked []) (asked_of_arguments x dims coords gs) all in
      (coords_at y ds m.0 p.0, arguments_fit gs m.1 w p.1)

  number_fits : (g : Argument) → is_for_field g ≡ true → ArgumentFits x coords scene g
  number_fits (ControlArg e) m = tt
  number_fits (ConditionArg c) m = tt
  number_fits (Whole y) m = absurd (true≢false (sym m))
  number_fits (Window y ds) m = absurd (true≢false (sym m))

  statement_fits : (d : Statement) → StatementMatches x coords d
      → (passes_whole x d ≡ true → IsWhole x dims coords scene)
      → AllHold scene (asked_of_statement x dims coords d) → StatementFits x coords scene d
  statement_fits (Assign y is d) m w all =
      let p = hold_parts scene (cond (y == x) (asked_of_indices coords is) [])
      (asked_of_datum x dims coords d) all in
      (indices_at y is m.0 p.0, datum_fits d m.1 p.1)
  statement_fits (Reduce y is d) m w all =
      let p = hold_parts scene (cond (y == x) (asked_of_indices coords is) [])
      (asked_of_datum x dims coords d) all in
      (indices_at y is m.0 p.0, datum_fits d m.1 p.1)
  statement_fits (Config f g) m w all = number_fits g m
  statement_fits Pass m w all = tt
  statement_fits (If c b d) m w all = tt
  statement_fits (For i lo hi b) m w all = tt
  statement_fits (Alloc y cell ds memory) m w all = tt
  statement_fits (View v y ds) m w all = coords_at y ds m all
  statement_fits (Call k gs) m w all = arguments_fit gs m w all

module _ (x : ℕ) (coords : List Coord) where
  matches_there : (c : Context) (d : Statement) → BlockMatches x coords (fill c (next d end))
      → StatementMatches x coords d
  matches_there (Here rest) d h = h.0
  matches_there (After a c) d h = matches_there c d h.2
  matches_there (InLoop i lo hi c rest) d h = matches_there c d h.1
  matches_there (InThen t c other rest) d h = matches_there c d h.1.0
  matches_there (InElse t other c rest) d h = matches_there c d h.1.1

pub fits_from_lies : FitsFromLies
fits_from_lies world x dims coords b s lies match wholes c d u is come =
    statement_fits x dims coords u.scene d
    (matches_there x coords c d (subst (BlockMatches x coords) is match)) (wholes c d u is come)
    (lies c d u is come)

-- ---- the window

module _ (x : ℕ) where
  -- what is bound on the way to a place is bound by the block
  way_binds : (c : Context) (old : Block) → has_binder (fill c old) x ≡ false
      → on_way c x ≡ false
  way_binds (Here rest) old h = refl
  way_binds (After a c) old h =
      let p = or_parts (step_has_binder a x) (has_binder (fill c old) x) h in
      ap₂ ◌||◌ (binds_less a x p.0) (way_binds c old p.1)
  way_binds (InLoop i lo hi c rest) old h =
      let p = or_parts ((x == i.id) || has_binder (fill c old) x) (has_binder rest x) h in
      let q = or_parts (x == i.id) (has_binder (fill c old) x) p.0 in
      ap₂ ◌||◌ q.0 (way_binds c old q.1)
  way_binds (InThen t c other rest) old h =
      let p = or_parts (has_binder (fill c old) x || has_binder other x) (has_binder rest x) h in
      way_binds c old (or_parts (has_binder (fill c old) x) (has_binder other x) p.0).0
  way_binds (InElse t other c rest) old h =
      let p = or_parts (has_binder other x || has_binder (fill c old) x) (has_binder rest x) h in
      way_binds c old (or_parts (has_binder other x) (has_binder (fill c old) x) p.0).1

pub window_comes : WindowComes
window_comes world x coords b s u c d plain own variables is come =
    let names : (y : ℕ) → has_binder b y ≡ false → IsSameName y s u =
    λ y h. come_names world (next d end) c s u come y
    (way_binds y c (next d end) (subst (λ z. has_binder z y ≡ false) is h)) in
    let view = sym (names x own).views in (
      view_kept x (Window x coords) plain (Window x coords) u.scene s.scene plain view
          (λ y k. sym (names y (variables y k)).control),
      view,
    )

pub window_shown : WindowShown
window_shown world root a cell dims memory x coords ls later s u made known e =
    let first = next (Alloc a cell dims memory) (load_nest a.id x coords ls) in
    let m = then_gives (run world first s) (run world later) u
    (sym (compose world first later s) ∙ e) in
    let k = loaded_of_nothing root a dims x coords made.spots made.other made.plain made.sizes world
    cell memory ls s m.0 made.over known m.1 in
    subst IsSome (sym k.may.window) refl

pub sums_shown : SumsShown
sums_shown fields memories ps scope root a cell dims memory x coords ls ks b inner s u made again known
    adds name e =
    let world = unit_world (kinds_of fields) ps in
    let first = next (Alloc a cell dims memory) (zero_nest a.id ls) in
    let last = sum_nest a.id x coords ks in
    let m = then_gives (run world first s) (run world (joined inner last)) u
    (sym (compose world first (joined inner last) s) ∙ e) in
    let n = then_gives (run world inner m.0) (run world last) u
    (sym (compose world inner last m.0) ∙ m.2) in
    sees fields memories ps scope (λ y. y == a.id) root a cell dims memory x coords ls ks b inner s
    (made_of_nothing root a dims x coords made.spots made.other made.plain made.sizes ls ks made.over
    again) known adds name m.0 n.0 u m.1 n.1 n.2
