-- Loops over the spans of a window, and windows that are there because such loops do not fault.
use Rattle.std.proofs.Common.{◌≡◌, ◌<◌, ◌≤◌, ◌+◌, ℕ, zero, suc, ℤ, pos, neg_ℤ, ◌+ℤ◌, ◌-ℤ◌, ◌*ℤ◌}
use Rattle.std.proofs.Common.{int_le, int_lt, ◌==◌, ◌&&◌, ◌||◌, Bool, true, false, cond, List, []}
use Rattle.std.proofs.Common.{◌∷◌, Option, Some, None, IsSome, option_map, refl, sym, ap, ap₂, ◌∙◌}
use Rattle.std.proofs.Common.{subst, true≢false, eqb-true, eq-eqb, arith}
use Rattle.std.proofs.lemmas.Int.{ints}
use Rattle.std.specs.Int.{int_div_euclid, int_rem_euclid}
use Rattle.exo_tree.specs.Tree.{Control, Lit, Var, Field, StrideOf, Neg, Add, Sub, Mul, Div, Mod}
use Rattle.exo_tree.specs.Tree.{Coord, At, Span, Statement}
use Rattle.exo_meaning.specs.Scene.{Side, Point, Range, Seen, Scene, then_do, stride_at, number}
use Rattle.exo_meaning.specs.Scene.{numbers, cell_at, narrowed, window, whole, extents, where_true}
use Rattle.exo_meaning.specs.Scene.{is_below}
use Rattle.exo_meaning.specs.State.{State, Place, place, with_control, on_scene, left}
use Rattle.exo_meaning.specs.Calls.{all_positive}
use Rattle.exo_meaning.specs.Run.{World, run, step, turn, turns, range, count}
use Rattle.exo_meaning.proofs.Frame.{or_parts}
use Rattle.exo_meaning.proofs.Windows.{none_is_some, one_value, where_parts, map_parts}
use Rattle.meaning_laws.specs.Substitute.{has_variable}
use Rattle.meaning_laws.proofs.Substitute.{and_parts}
use Rattle.meaning_laws.proofs.Parts.{then_gives}
use Rattle.inplace_laws.specs.Windows.{shifted, coords_have}
use Rattle.inplace_laws.specs.Filled.{Loop, nest}
use Rattle.inplace_laws.proofs.Hits.{InBox, set_all, vars, vars_are}
use Rattle.buffer_laws.specs.Staging.Stores.{variables, is_variable, AreDistinct, AtAny, RunOver, spans}
use Rattle.buffer_laws.specs.Staging.Inside.{extents_of, AreOverSpans, SpansLaw, Uses, InsideLaw}
use Rattle.buffer_laws.proofs.OfStaging.Stores.{vars_same, are_new, same_views, box_covers, zero_plus}
use Rattle.buffer_laws.proofs.OfStaging.Loads.{at_all}

abbrev seen_on : ℕ → List Side → Seen
seen_on b sides = record { buffer = b; sides = sides }

abbrev spot : ℕ → List ℤ → Place
spot b at = record { buffer = b; at = at }

-- ---- numbers without a variable

module _ (i : ℕ) (n : ℤ) (scene : Scene) where
  abbrev there : Scene
  there = with_control i n scene

  number_step : (e : Control) → has_variable e i ≡ false → number there e ≡ number scene e
  number_step (Lit m) k = refl
  number_step (Var x) k = ap (λ t. cond t n (scene.control x)) (turned (x == i) refl)
    where
      turned : (t : Bool) → (x == i) ≡ t → t ≡ false
      turned false e = refl
      turned true e = absurd (true≢false (sym (eq-eqb i x (sym (eqb-true x i e))) ∙ k))
  number_step (Field f) k = refl
  number_step (StrideOf x m) k = go (scene.views x)
    where
      go : (o : Option Seen) → stride_at there o m ≡ stride_at scene o m
      go None = refl
      go (Some seen) = refl
  number_step (Neg a) k = ap neg_ℤ (number_step a k)
  number_step (Add a b) k = let q = or_parts (has_variable a i) (has_variable b i) k in ap₂ ◌+ℤ◌
      (number_step a q.0) (number_step b q.1)
  number_step (Sub a b) k = let q = or_parts (has_variable a i) (has_variable b i) k in ap₂ ◌-ℤ◌
      (number_step a q.0) (number_step b q.1)
  number_step (Mul a b) k = let q = or_parts (has_variable a i) (has_variable b i) k in ap₂ ◌*ℤ◌
      (number_step a q.0) (number_step b q.1)
  number_step (Div a c) k = ap (λ m. int_div_euclid m c) (number_step a k)
  number_step (Mod a c) k = ap (λ m. int_rem_euclid m c) (number_step a k)

  spans_step : (cs : List Coord) → coords_have cs i ≡ false
      → numbers there (spans cs) ≡ numbers scene (spans cs)
  spans_step [] k = refl
  spans_step (At a ∷ cs) k = spans_step cs (or_parts (has_variable a i) (coords_have cs i) k).1
  spans_step (Span a b ∷ cs) k =
      let p = or_parts (has_variable a i) (has_variable b i || coords_have cs i) k in
      let q = or_parts (has_variable b i) (coords_have cs i) p.1 in
      ap₂ ◌∷◌ (ap₂ ◌-ℤ◌ (number_step b q.0) (number_step a p.0)) (spans_step cs q.1)

  narrowed_step : (sides : List Side) (cs : List Coord) → coords_have cs i ≡ false
      → narrowed there sides cs ≡ narrowed scene sides cs
  narrowed_step [] [] k = refl
  narrowed_step [] (c ∷ cs) k = refl
  narrowed_step (Point p ∷ sides) cs k =
      ap (option_map (λ rest. Point p ∷ rest)) (narrowed_step sides cs k)
  narrowed_step (Range lo m ∷ sides) [] k = refl
  narrowed_step (Range lo m ∷ sides) (At a ∷ cs) k =
      let p = or_parts (has_variable a i) (coords_have cs i) k in
      ap₂ (λ j o. where_true (is_below j m) (option_map (λ rest. Point (lo +ℤ j) ∷ rest) o))
      (number_step a p.0) (narrowed_step sides cs p.1)
  narrowed_step (Range lo m ∷ sides) (Span a b ∷ cs) k =
      let p = or_parts (has_variable a i) (has_variable b i || coords_have cs i) k in
      let q = or_parts (has_variable b i) (coords_have cs i) p.1 in
      ap₂ (λ j o. where_true (int_le (pos 0) j && int_lt j (number there b)
      && int_le (number there b) m) (option_map (λ rest. Range (lo +ℤ j) (number there b -ℤ j)
      ∷ rest) o)) (number_step a p.0) (narrowed_step sides cs q.1)
      ∙ ap (λ l. where_true (int_le (pos 0) (number scene a) && int_lt (number scene a) l
      && int_le l m) (option_map (λ rest. Range (lo +ℤ number scene a) (l -ℤ number scene a)
      ∷ rest) (narrowed scene sides cs))) (number_step b q.0)

  window_step : (x : ℕ) (cs : List Coord) → coords_have cs i ≡ false
      → window there x cs ≡ window scene x cs
  window_step x cs k = go (scene.views x)
    where
      go : (o : Option Seen) → then_do o (λ r. option_map (seen_on r.buffer) (narrowed there r.sides
          cs)) ≡ then_do o (λ r. option_map (seen_on r.buffer) (narrowed scene r.sides cs))
      go None = refl
      go (Some r) = ap (option_map (seen_on r.buffer)) (narrowed_step r.sides cs k)

-- ---- apart from the loops

abbrev Apart : List Loop → List Coord → Type 0
Apart ls cs = (y : ℕ) → coords_have cs y ≡ true → is_variable y ls ≡ false

not_head : (l : Loop) (ls : List Loop) (cs : List Coord) → Apart (l ∷ ls) cs
    → coords_have cs l.binder.id ≡ false
not_head l ls cs h = go (coords_have cs l.binder.id) refl
  where
    go : (t : Bool) → coords_have cs l.binder.id ≡ t → t ≡ false
    go false e = refl
    go true e =
        absurd (true≢false (sym (ap (λ t. t || is_variable l.binder.id ls)
        (eq-eqb l.binder.id l.binder.id refl)) ∙ h l.binder.id e))

not_tail : (l : Loop) (ls : List Loop) (cs : List Coord) → Apart (l ∷ ls) cs → Apart ls cs
not_tail l ls cs h y e = (or_parts (y == l.binder.id) (is_variable y ls) (h y e)).1

steady : (x : ℕ) (cs : List Coord) (ls : List Loop) (scene : Scene) → Apart ls cs → (seen : Seen)
    → window scene x cs ≡ Some seen → AtAny ls (λ z. window z x cs ≡ Some seen) scene
steady x cs [] scene h seen e = e
steady x cs (l ∷ ls) scene h seen e = λ n. steady x cs ls (with_control l.binder.id n scene)
    (not_tail l ls cs h) seen (window_step l.binder.id n scene x cs (not_head l ls cs h) ∙ e)

-- the numbers of the spans are those of the first scene
spans_first : (es : List Control) (cs : List Coord) (ls : List Loop) (scene : Scene) → Apart ls cs
    → AtAny ls (λ z. numbers z es ≡ numbers z (spans cs)) scene
    → AtAny ls (λ z. numbers z es ≡ numbers scene (spans cs)) scene
spans_first es cs [] scene h k = k
spans_first es cs (l ∷ ls) scene h k =
    λ n. subst (λ ds. AtAny ls (λ z. numbers z es ≡ ds) (with_control l.binder.id n scene))
    (spans_step l.binder.id n scene cs (not_head l ls cs h))
    (spans_first es cs ls (with_control l.binder.id n scene) (not_tail l ls cs h) (k n))

any_map : (ls : List Loop) (P Q : Scene → Type 0) (scene : Scene) → ((z : Scene) → P z → Q z)
    → AtAny ls P scene → AtAny ls Q scene
any_map [] P Q scene f h = f scene h
any_map (l ∷ ls) P Q scene f h = λ n. any_map ls P Q (with_control l.binder.id n scene) f (h n)

abbrev head_of : List ℤ → ℤ
head_of [] = pos 0
head_of (d ∷ ds) = d

abbrev tail_of : List ℤ → List ℤ
tail_of [] = []
tail_of (d ∷ ds) = ds

abbrev is_empty : List ℤ → Bool
is_empty [] = true
is_empty (d ∷ ds) = false

run_over : (ls : List Loop) (ds : List ℤ) (scene : Scene)
    → AtAny ls (λ z. numbers z (extents_of ls) ≡ ds) scene → RunOver ls ds scene
run_over [] [] scene h = tt
run_over [] (d ∷ ds) scene h = absurd (true≢false (ap is_empty h))
run_over (l ∷ ls) ds scene h =
    go ds (at_all (l ∷ ls) (λ z. numbers z (extents_of (l ∷ ls)) ≡ ds) scene h []) h
    (λ ds n. run_over ls ds (with_control l.binder.id n scene))
  where
    go : (ds : List ℤ) → numbers scene (extents_of (l ∷ ls)) ≡ ds
        → AtAny (l ∷ ls) (λ z. numbers z (extents_of (l ∷ ls)) ≡ ds) scene
        → ((ds : List ℤ) (n : ℤ) → AtAny ls (λ z. numbers z (extents_of ls) ≡ ds)
        (with_control l.binder.id n scene) → RunOver ls ds (with_control l.binder.id n scene))
        → RunOver (l ∷ ls) ds scene
    go [] e h more = absurd (true≢false (sym (ap is_empty e)))
    go (d ∷ ds) e h more = (
      ap head_of e,
      λ n. more ds n
          (any_map ls (λ z. numbers z (extents_of (l ∷ ls)) ≡ d ∷ ds)
          (λ z. numbers z (extents_of ls) ≡ ds) (with_control l.binder.id n scene) (λ z. ap tail_of)
          (h n)),
    )

pub spans_law : SpansLaw
spans_law x cs ls scene h = (
  run_over ls (numbers scene (spans cs)) scene
      (spans_first (extents_of ls) cs ls scene h.apart h.equal),
  steady x cs ls scene h.apart,
)

-- ---- a nest that does not fault comes to all of its box

abbrev AllOf : (ℤ → Type 0) → List ℤ → Type 0
AllOf Q [] = Unit {0}
AllOf Q (n ∷ ns) = Q n × AllOf Q ns

in_range : (Q : ℤ → Type 0) (lo m j : ℕ) → AllOf Q (range (pos lo) m) → lo ≤ j → j < lo + m
    → Q (pos j)
in_range Q lo zero j h a b = absurd (omega arith)
in_range Q lo (suc m) j h a b = go (j == lo) refl (in_range Q (suc lo) m j)
  where
    next_is : pos lo +ℤ pos 1 ≡ pos (suc lo)
    next_is = omega (arith, ints)

    above : (j == lo) ≡ false → suc lo ≤ j
    above e = let apart : (j ≡ lo → ⊥) = λ i. true≢false (sym (eq-eqb j lo i) ∙ e) in omega arith

    go : (t : Bool) → (j == lo) ≡ t
        → (AllOf Q (range (pos (suc lo)) m) → suc lo ≤ j → j < suc lo + m → Q (pos j)) → Q (pos j)
    go true e more = subst (λ z. Q (pos z)) (sym (eqb-true j lo e)) h.0
    go false e more = more (subst (λ z. AllOf Q (range z m)) next_is h.1) (above e) (omega arith)

-- a run that keeps the scene, where something holds of the scene unless it faults
abbrev Shows : (Scene → Type 0) → (State → Option State) → Type 0
Shows P f = (u v : State) → f u ≡ Some v → (v.scene ≡ u.scene) × P u.scene

turn_shows : (P : Scene → Type 0) (i : ℕ) (f : State → Option State) (n : ℤ) → Shows P f
    → Shows (λ z. P (with_control i n z)) (turn i f n)
turn_shows P i f n h u v e =
    let m = map_parts (left u) (f (on_scene (with_control i n) u)) v e in
    let k = h (on_scene (with_control i n) u) m.0 m.1 in (
      ap (λ (w : State). w.scene) (sym m.2)
          ∙ ap (λ (z : Scene). record u.scene { fields = z.fields }) k.0,
      k.1,
    )

turns_show : (P : Scene → Type 0) (i : ℕ) (f : State → Option State) (ns : List ℤ) → Shows P f
    → Shows (λ z. AllOf (λ n. P (with_control i n z)) ns) (turns (turn i f) ns)
turns_show P i f [] h u v e = (ap (λ (w : State). w.scene) (sym (one_value u v e)), tt)
turns_show P i f (n ∷ ns) h u v e =
    let g = then_gives (turn i f n u) (turns (turn i f) ns) v e in
    let k = turn_shows P i f n h u g.0 g.1 in
    let l = turns_show P i f ns h g.0 v g.2 in
    (l.0 ∙ k.0, (k.1, subst (λ z. AllOf (λ n. P (with_control i n z)) ns) k.0 l.1))

nest_shows : (world : World) (a : Statement) (P : Scene → Type 0) → Shows P (step world a)
    → (ls : List Loop) → Shows (λ z. (at : List ℤ) → InBox ls at z → P (set_all ls at z))
    (run world (nest ls a))
nest_shows world a P h [] u v e =
    let g = then_gives (step world a u) (λ w. Some w) v e in
    let k = h u g.0 g.1 in
    (ap (λ (w : State). w.scene) (sym (one_value g.0 v g.2)) ∙ k.0, λ at b. k.1)
nest_shows world a P h (l ∷ ls) u v e =
    let f = run world (nest ls a) in
    let ns = range (pos 0) (count (number u.scene l.extent -ℤ pos 0)) in
    let g = then_gives (turns (turn l.binder.id f) ns u) (λ w. Some w) v e in
    let k = turns_show (λ z. (at : List ℤ) → InBox ls at z → P (set_all ls at z)) l.binder.id f ns
    (nest_shows world a P h ls) u g.0 g.1 in
    (ap (λ (w : State). w.scene) (sym (one_value g.0 v g.2)) ∙ k.0, go k.1)
  where
    same : number u.scene l.extent -ℤ pos 0 ≡ number u.scene l.extent
    same = omega (arith, ints)

    go : AllOf (λ n. (at : List ℤ) → InBox ls at (with_control l.binder.id n u.scene)
        → P (set_all ls at (with_control l.binder.id n u.scene)))
        (range (pos 0) (count (number u.scene l.extent -ℤ pos 0))) → (at : List ℤ)
        → InBox (l ∷ ls) at u.scene → P (set_all (l ∷ ls) at u.scene)
    go k [] b = absurd b
    go k (i ∷ at) (j, e, m, b) =
        subst (λ n. (at : List ℤ) → InBox ls at (with_control l.binder.id n u.scene)
        → P (set_all ls at (with_control l.binder.id n u.scene))) (sym e)
        (in_range (λ n. (at : List ℤ) → InBox ls at (with_control l.binder.id n u.scene)
        → P (set_all ls at (with_control l.binder.id n u.scene))) 0
        (count (number u.scene l.extent)) j
        (subst (λ d. AllOf (λ n. (at : List ℤ) → InBox ls at (with_control l.binder.id n
        u.scene) → P (set_all ls at (with_control l.binder.id n u.scene)))
        (range (pos 0) (count d))) same k) (omega arith) (omega arith)) at b

-- ---- the window's corners

-- the first and the last index list of a box
abbrev firsts : List ℤ → List ℤ
firsts [] = []
firsts (d ∷ ds) = pos 0 ∷ firsts ds

abbrev lasts : List ℤ → List ℤ
lasts [] = []
lasts (d ∷ ds) = (d -ℤ pos 1) ∷ lasts ds

abbrev OnWhole : List ℤ → List ℤ → Type 0
OnWhole ds at = cell_at (whole ds) at ≡ Some at

first_below : (d : ℤ) → int_le (pos 1) d ≡ true → is_below (pos 0) d ≡ true
first_below d h = grind (arith, ints)

last_below : (d : ℤ) → int_le (pos 1) d ≡ true → is_below (d -ℤ pos 1) d ≡ true
last_below d h = grind (arith, ints)

one_more : (i d : ℤ) (ds at : List ℤ) → is_below i d ≡ true → OnWhole ds at
    → OnWhole (d ∷ ds) (i ∷ at)
one_more i d ds at h k = ap₂ (λ t o. where_true t (option_map (λ at. (pos 0 +ℤ i) ∷ at) o)) h k
    ∙ ap (λ z. Some (z ∷ at)) (zero_plus i)

firsts_there : (ds : List ℤ) → all_positive ds ≡ true → OnWhole ds (firsts ds)
firsts_there [] h = refl
firsts_there (d ∷ ds) h = let q = and_parts (int_le (pos 1) d) (all_positive ds) h in one_more
    (pos 0) d ds (firsts ds) (first_below d q.0) (firsts_there ds q.1)

lasts_there : (ds : List ℤ) → all_positive ds ≡ true → OnWhole ds (lasts ds)
lasts_there [] h = refl
lasts_there (d ∷ ds) h = let q = and_parts (int_le (pos 1) d) (all_positive ds) h in one_more
    (d -ℤ pos 1) d ds (lasts ds) (last_below d q.0) (lasts_there ds q.1)

extents_whole : (ds : List ℤ) → extents (whole ds) ≡ ds
extents_whole [] = refl
extents_whole (d ∷ ds) = ap (λ r. d ∷ r) (extents_whole ds)

module _ (scene : Scene) where
  abbrev moved : List Coord → List ℤ → List ℤ
  moved [] at = at
  moved (At a ∷ cs) at = number scene a ∷ moved cs at
  moved (Span a b ∷ cs) [] = []
  moved (Span a b ∷ cs) (i ∷ at) = (number scene a +ℤ i) ∷ moved cs at

  low_inside : (i j n : ℤ) → int_le (pos 1) (j -ℤ i) ≡ true → is_below (i +ℤ pos 0) n ≡ true
      → is_below (i +ℤ ((j -ℤ i) -ℤ pos 1)) n ≡ true
      → (int_le (pos 0) i && int_lt i j && int_le j n) ≡ true
  low_inside i j n h k l = grind (arith, ints)

  corners : (sides : List Side) (cs : List Coord) (p q : List ℤ)
      → all_positive (numbers scene (spans cs)) ≡ true
      → cell_at sides (moved cs (firsts (numbers scene (spans cs)))) ≡ Some p
      → cell_at sides (moved cs (lasts (numbers scene (spans cs)))) ≡ Some q
      → (ts : List Side) × (narrowed scene sides cs ≡ Some ts)
  corners [] [] p q h e k = ([], refl)
  corners [] (At a ∷ cs) p q h e k = absurd (none_is_some e)
  corners [] (Span a b ∷ cs) p q h e k = absurd (none_is_some e)
  corners (Point r ∷ sides) cs p q h e k =
      let m = map_parts (λ at. r ∷ at)
      (cell_at sides (moved cs (firsts (numbers scene (spans cs))))) p e in
      let l = map_parts (λ at. r ∷ at) (cell_at sides (moved cs (lasts (numbers scene (spans cs)))))
      q k in
      let t = corners sides cs m.0 l.0 h m.1 l.1 in
      (Point r ∷ t.0, ap (option_map (λ rest. Point r ∷ rest)) t.1)
  corners (Range lo n ∷ sides) [] p q h e k = absurd (none_is_some e)
  corners (Range lo n ∷ sides) (At a ∷ cs) p q h e k =
      let i = number scene a in
      let v = where_parts (is_below i n) (option_map (λ at. (lo +ℤ i) ∷ at)
      (cell_at sides (moved cs (firsts (numbers scene (spans cs)))))) p e in
      let w = where_parts (is_below i n) (option_map (λ at. (lo +ℤ i) ∷ at)
      (cell_at sides (moved cs (lasts (numbers scene (spans cs)))))) q k in
      let m = map_parts (λ at. (lo +ℤ i) ∷ at)
      (cell_at sides (moved cs (firsts (numbers scene (spans cs))))) p v.1 in
      let l = map_parts (λ at. (lo +ℤ i) ∷ at)
      (cell_at sides (moved cs (lasts (numbers scene (spans cs))))) q w.1 in
      let t = corners sides cs m.0 l.0 h m.1 l.1 in (
        Point (lo +ℤ i) ∷ t.0,
        ap₂ (λ t o. where_true t (option_map (λ rest. Point (lo +ℤ i) ∷ rest)
            o)) v.0 t.1,
      )
  corners (Range lo n ∷ sides) (Span a b ∷ cs) p q h e k =
      let i = number scene a in
      let j = number scene b in
      let d = j -ℤ i in
      let g = and_parts (int_le (pos 1) d) (all_positive (numbers scene (spans cs))) h in
      let v = where_parts (is_below (i +ℤ pos 0) n) (option_map (λ at. (lo +ℤ (i +ℤ pos 0)) ∷ at)
      (cell_at sides (moved cs (firsts (numbers scene (spans cs)))))) p e in
      let w = where_parts (is_below (i +ℤ (d -ℤ pos 1)) n)
      (option_map (λ at. (lo +ℤ (i +ℤ (d -ℤ pos 1))) ∷ at)
      (cell_at sides (moved cs (lasts (numbers scene (spans cs)))))) q k in
      let m = map_parts (λ at. (lo +ℤ (i +ℤ pos 0)) ∷ at)
      (cell_at sides (moved cs (firsts (numbers scene (spans cs))))) p v.1 in
      let l = map_parts (λ at. (lo +ℤ (i +ℤ (d -ℤ pos 1))) ∷ at)
      (cell_at sides (moved cs (lasts (numbers scene (spans cs))))) q w.1 in
      let t = corners sides cs m.0 l.0 g.1 m.1 l.1 in (
        Range (lo +ℤ i) d ∷ t.0,
        ap₂ (λ t o. where_true t (option_map (λ rest. Range (lo +ℤ i) d
            ∷ rest) o)) {v = Some t.0} (low_inside i j n g.0 v.0 w.0) t.1,
      )

-- the indices on the root, from the numbers of the variables
moved_step : (i : ℕ) (n : ℤ) (scene : Scene) (cs : List Coord) (at : List ℤ)
    → coords_have cs i ≡ false → moved (with_control i n scene) cs at ≡ moved scene cs at
moved_step i n scene [] at k = refl
moved_step i n scene (At a ∷ cs) at k = let p =
    or_parts (has_variable a i) (coords_have cs i) k in ap₂ ◌∷◌ (number_step i n scene a p.0)
    (moved_step i n scene cs at p.1)
moved_step i n scene (Span a b ∷ cs) [] k = refl
moved_step i n scene (Span a b ∷ cs) (j ∷ at) k =
    let p = or_parts (has_variable a i) (has_variable b i || coords_have cs i) k in
    ap₂ ◌∷◌ (ap (λ z. z +ℤ j) (number_step i n scene a p.0)) (moved_step i n scene cs at
    (or_parts (has_variable b i) (coords_have cs i) p.1).1)

moved_all : (ls : List Loop) (to : List ℤ) (scene : Scene) (cs : List Coord) (at : List ℤ)
    → Apart ls cs → moved (set_all ls to scene) cs at ≡ moved scene cs at
moved_all [] to scene cs at h = refl
moved_all (l ∷ ls) [] scene cs at h = refl
moved_all (l ∷ ls) (n ∷ to) scene cs at h = moved_all ls to (with_control l.binder.id n scene) cs at
    (not_tail l ls cs h) ∙ moved_step l.binder.id n scene cs at (not_head l ls cs h)

shifted_is : (scene : Scene) (cs : List Coord) (is : List Control)
    → numbers scene (shifted cs is) ≡ moved scene cs (numbers scene is)
shifted_is scene [] is = refl
shifted_is scene (At a ∷ cs) is = ap (λ r. number scene a ∷ r) (shifted_is scene cs is)
shifted_is scene (Span a b ∷ cs) [] = refl
shifted_is scene (Span a b ∷ cs) (i ∷ is) =
    ap (λ r. (number scene a +ℤ number scene i) ∷ r) (shifted_is scene cs is)

module _ (world : World) (x : ℕ) (cs : List Coord) (ls : List Loop) (a : Statement) (s t : State)
    (new : AreDistinct ls) (over : AreOverSpans ls cs s.scene)
    (positive : all_positive (numbers s.scene (spans cs)) ≡ true)
    (uses : Uses world x (shifted cs (variables ls)) a)
    (runs : run world (nest ls a) s ≡ Some t) where
  abbrev ds : List ℤ
  ds = numbers s.scene (spans cs)

  runs_over : RunOver ls ds s.scene
  runs_over = (spans_law x cs ls s.scene over).0

  in_box : (at : List ℤ) → OnWhole ds at → InBox ls at s.scene
  in_box at e = box_covers ls (whole ds) s.scene at at (subst (λ d. RunOver ls d s.scene)
      (sym (extents_whole ds)) runs_over) e

  -- x has a cell at the indices of each turn
  has_cell : (at : List ℤ) → OnWhole ds at → (r : Seen) → s.scene.views x ≡ Some r
      → (p : List ℤ) × (cell_at r.sides (moved s.scene cs at) ≡ Some p)
  has_cell at e r k =
      let z = set_all ls at s.scene in
      let b = in_box at e in
      let shown : IsSome (place z x (shifted cs (vars ls))) =
      subst (λ v. IsSome (place z x (shifted cs v))) (vars_same ls)
      ((nest_shows world a (λ z. IsSome (place z x (shifted cs (variables ls)))) uses ls s t
      runs).1 at b) in
      let views : z.views x ≡ Some r = ap (λ f. f x) (same_views ls at s.scene) ∙ k in
      let indices : numbers z (shifted cs (vars ls)) ≡ moved s.scene cs at =
      shifted_is z cs (vars ls) ∙ ap (moved z cs) (vars_are ls at s.scene (are_new ls new) b)
      ∙ moved_all ls at s.scene cs at over.apart in
      found (cell_at r.sides (moved s.scene cs at)) refl
      (subst IsSome (ap (λ o. then_do o (λ y. option_map (spot y.buffer)
      (cell_at y.sides (numbers z (shifted cs (vars ls)))))) views
      ∙ ap (λ l. option_map (spot r.buffer) (cell_at r.sides l)) indices) shown)
    where
      found : (o : Option (List ℤ)) → cell_at r.sides (moved s.scene cs at) ≡ o
          → IsSome (option_map (spot r.buffer) o)
          → (p : List ℤ) × (cell_at r.sides (moved s.scene cs at) ≡ Some p)
      found None i j = absurd (true≢false (sym j))
      found (Some p) i j = (p, i)

  -- so x is there
  has_name : (r : Seen) × (s.scene.views x ≡ Some r)
  has_name =
      let at = firsts ds in
      let b = in_box at (firsts_there ds positive) in
      named (s.scene.views x) refl (subst (λ (f : ℕ → Option Seen). IsSome
      (then_do (f x) (λ y. option_map (spot y.buffer)
      (cell_at y.sides (numbers (set_all ls at s.scene) (shifted cs (variables ls)))))))
      (same_views ls at s.scene) ((nest_shows world a
      (λ z. IsSome (place z x (shifted cs (variables ls)))) uses ls s t runs).1 at b))
    where
      named : (o : Option Seen) → s.scene.views x ≡ o
          → IsSome (then_do o (λ y. option_map (spot y.buffer)
          (cell_at y.sides (numbers (set_all ls (firsts ds) s.scene) (shifted cs (variables ls))))))
          → (r : Seen) × (s.scene.views x ≡ Some r)
      named None i j = absurd (true≢false (sym j))
      named (Some r) i j = (r, i)

  is_there : IsSome (window s.scene x cs)
  is_there =
      let r = has_name in
      let p = has_cell (firsts ds) (firsts_there ds positive) r.0 r.1 in
      let q = has_cell (lasts ds) (lasts_there ds positive) r.0 r.1 in
      let n = corners s.scene r.0.sides cs p.0 q.0 positive p.1 q.1 in
      subst IsSome (sym (ap (λ o. then_do o (λ y. option_map (seen_on y.buffer)
      (narrowed s.scene y.sides cs))) r.1 ∙ ap (option_map (seen_on r.0.buffer)) n.1)) refl

pub inside_law : InsideLaw
inside_law world x cs ls a s t new over positive uses runs =
    is_there world x cs ls a s t new over positive uses runs
