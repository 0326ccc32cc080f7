-- Loops that change each cell of a buffer at one turn at most.
use Rattle.std.proofs.Common.{◌≡◌, ◌<◌, ◌≤◌, ◌+◌, ℕ, zero, suc, ℤ, pos, ◌+ℤ◌, ◌-ℤ◌, ◌==◌, ◌&&◌}
use Rattle.std.proofs.Common.{◌||◌, Bool, true, false, cond, List, [], ◌∷◌, Option, Some, None, IsSome}
use Rattle.std.proofs.Common.{option_map, refl, sym, ap, ◌∙◌, subst, true≢false, eqb-true, eq-eqb}
use Rattle.std.proofs.Common.{arith}
use Rattle.std.proofs.Math.Path.{fun_ext}
use Rattle.std.proofs.lemmas.Int.{ints}
use Rattle.exo_tree.specs.Tree.{Statement}
use Rattle.exo_meaning.specs.Value.{Value, Undefined}
use Rattle.exo_meaning.specs.Scene.{Shape, Scene, then_do, number}
use Rattle.exo_meaning.specs.State.{State, Cells, with_control, left, kept}
use Rattle.exo_meaning.specs.Run.{World, run, step, turn, turns, range, count}
use Rattle.exo_meaning.proofs.Frame.{or_parts, updated_other}
use Rattle.exo_meaning.proofs.Nested.{then_some}
use Rattle.inplace_laws.specs.Filled.{Loop, nest, any_of, at_cells, nest_hits, AtEach}
use Rattle.inplace_laws.proofs.Hits.{is_loop, AreNew}

-- the cells of buffer x that are hit, changed
abbrev pub changed_at : ℕ → (List ℤ → Value → Value) → (List ℤ → Bool) → Cells → Cells
changed_at x change hits c b at = cond ((b == x) && hits at) (change at (c b at)) (c b at)

-- from each state that differs from s in the cells of x alone, it changes the cells that are hit
abbrev pub Changes : ℕ → (List ℤ → Value → Value) → Cells → Scene → (State → Option State)
    → (List ℤ → Bool) → Type 0
Changes x change cells scene f hits =
    (c : Cells) → ((b : ℕ) → (b == x) ≡ false → c b ≡ cells b)
    → f (at_cells scene c) ≡ Some (at_cells scene (changed_at x change hits c))

abbrev NotBoth : (List ℤ → Bool) → (List ℤ → Bool) → Type 0
NotBoth f g = (at : List ℤ) → f at ≡ true → g at ≡ true → ⊥

-- no cell is hit at two turns of a loop
abbrev pub HitsOnce : List Loop → (Scene → List ℤ → Bool) → Scene → Type 0
HitsOnce [] hits scene = Unit {0}
HitsOnce (l ∷ ls) hits scene =
    ((m n : ℤ) (at : List ℤ)
    → nest_hits ls hits (with_control l.binder.id m scene) at ≡ true
    → nest_hits ls hits (with_control l.binder.id n scene) at ≡ true → m ≡ n)
    × ((n : ℤ) → HitsOnce ls hits (with_control l.binder.id n scene))

module _ (x : ℕ) (change : List ℤ → Value → Value) (cells : Cells) where
  changed_more : (f g : List ℤ → Bool) → NotBoth f g → (c : Cells)
      → changed_at x change g (changed_at x change f c)
      ≡ changed_at x change (λ at. f at || g at) c
  changed_more f g apart c =
      fun_ext (λ b. fun_ext (λ at. go at (c b at) (b == x) (f at) (g at) refl refl))
    where
      go : (at : List ℤ) (v : Value) (t p q : Bool) → f at ≡ p → g at ≡ q
          → cond (t && q) (change at (cond (t && p) (change at v) v))
          (cond (t && p) (change at v) v) ≡ cond (t && (p || q)) (change at v) v
      go at v false p q i j = refl
      go at v true true true i j = absurd (apart at i j)
      go at v true true false i j = refl
      go at v true false true i j = refl
      go at v true false false i j = refl

  changed_none : (c : Cells) → changed_at x change (λ at. false) c ≡ c
  changed_none c = fun_ext (λ b. fun_ext (λ at. go (b == x) (change at (c b at)) (c b at)))
    where
      go : (t : Bool) (u v : Value) → cond (t && false) u v ≡ v
      go false u v = refl
      go true u v = refl

  changed_else : (f : List ℤ → Bool) (c : Cells) → ((b : ℕ) → (b == x) ≡ false → c b ≡ cells b)
      → (b : ℕ) → (b == x) ≡ false → changed_at x change f c b ≡ cells b
  changed_else f c k b e =
      fun_ext (λ at. ap (λ t. cond (t && f at) (change at (c b at)) (c b at)) e) ∙ k b e

  -- a later number of those from lo on
  later : (lo m : ℕ) (f : ℤ → Bool) → any_of (range (pos lo) m) f ≡ true
      → (j : ℕ) × (lo ≤ j) × (f (pos j) ≡ true)
  later lo zero f e = absurd (true≢false (sym e))
  later lo (suc m) f e = go (f (pos lo)) refl (later (suc lo) m f)
    where
      next_is : pos lo +ℤ pos 1 ≡ pos (suc lo)
      next_is = omega (arith, ints)

      less : (j : ℕ) → suc lo ≤ j → lo ≤ j
      less j h = omega arith

      go : (t : Bool) → f (pos lo) ≡ t
          → (any_of (range (pos (suc lo)) m) f ≡ true
          → (j : ℕ) × (suc lo ≤ j) × (f (pos j) ≡ true))
          → (j : ℕ) × (lo ≤ j) × (f (pos j) ≡ true)
      go true h more = (lo, omega arith, h)
      go false h more =
          let r = more (ap (λ z. any_of (range z m) f) (sym next_is)
          ∙ ap (λ t. t || any_of (range (pos lo +ℤ pos 1) m) f) (sym h) ∙ e) in
          (r.0, less r.0 r.1, r.2)

  module _ (scene : Scene) (there : IsSome (scene.buffers x))
      (tidy : (b : ℕ) → scene.buffers b ≡ None → (at : List ℤ) → cells b at ≡ Undefined) where
    -- what is left at the end of a turn
    kept_changed : (f : List ℤ → Bool) (c : Cells)
        → ((b : ℕ) → (b == x) ≡ false → c b ≡ cells b)
        → (λ b. kept (scene.buffers b) (changed_at x change f c b)) ≡ changed_at x change f c
    kept_changed f c k = fun_ext (λ b. fun_ext (λ at. go b at (scene.buffers b) refl))
      where
        other : (b : ℕ) → scene.buffers b ≡ None → (t : Bool) → (b == x) ≡ t → t ≡ false
        other b e false i = refl
        other b e true i =
            absurd (true≢false (sym (subst IsSome (ap scene.buffers (sym (eqb-true b x i)) ∙ e)
            there)))

        go : (b : ℕ) (at : List ℤ) (o : Option Shape) → scene.buffers b ≡ o
            → kept o (changed_at x change f c b) at ≡ changed_at x change f c b at
        go b at (Some shape) e = refl
        go b at None e =
            sym (ap (λ d. d at) (changed_else f c k b (other b e (b == x) refl)) ∙ tidy b e at)

    turn_changes : (i : ℕ) (f : State → Option State) (n : ℤ) (hits : List ℤ → Bool)
        → Changes x change cells (with_control i n scene) f hits
        → Changes x change cells scene (turn i f n) hits
    turn_changes i f n hits h c k =
        ap (option_map (left (at_cells scene c))) (h c k)
        ∙ ap (λ d. Some (at_cells scene d)) (kept_changed hits c k)

    -- by the numbers from lo on
    range_changes : (i : ℕ) (f : State → Option State) (lo m : ℕ) (hits : ℤ → List ℤ → Bool)
        → ((j k : ℤ) (at : List ℤ) → hits j at ≡ true → hits k at ≡ true → j ≡ k)
        → ((n : ℤ) (j : ℕ) → n ≡ pos j → j < lo + m
        → Changes x change cells (with_control i n scene) f (hits n))
        → Changes x change cells scene (turns (turn i f) (range (pos lo) m))
        (λ at. any_of (range (pos lo) m) (λ n. hits n at))
    range_changes i f lo zero hits once h c k =
        ap (λ d. Some (at_cells scene d)) (sym (changed_none c))
    range_changes i f lo (suc m) hits once h c k =
        let rest = λ (at : List ℤ). any_of (range (pos (suc lo)) m) (λ n. hits n at) in
        ap (λ o. then_do o (turns (turn i f) (range (pos lo +ℤ pos 1) m)))
        (turn_changes i f (pos lo) (hits (pos lo)) (h (pos lo) lo refl (omega arith)) c k)
        ∙ ap (λ z. turns (turn i f) (range z m)
        (at_cells scene (changed_at x change (hits (pos lo)) c))) next_is
        ∙ range_changes i f (suc lo) m hits once (λ n j e b. h n j e (more j b))
        (changed_at x change (hits (pos lo)) c) (changed_else (hits (pos lo)) c k)
        ∙ ap (λ d. Some (at_cells scene d)) (changed_more (hits (pos lo)) rest apart c)
        ∙ ap (λ z. Some (at_cells scene (changed_at x change
        (λ at. hits (pos lo) at || any_of (range z m) (λ n. hits n at)) c))) (sym next_is)
      where
        more : (j : ℕ) → j < suc lo + m → j < lo + suc m
        more j b = omega arith

        next_is : pos lo +ℤ pos 1 ≡ pos (suc lo)
        next_is = omega (arith, ints)

        apart : NotBoth (hits (pos lo)) (λ at. any_of (range (pos (suc lo)) m) (λ n. hits n at))
        apart at i j =
            let r = later (suc lo) m (λ n. hits n at) j in
            different r.0 r.1 (once (pos lo) (pos r.0) at i r.2)
          where
            different : (j : ℕ) → suc lo ≤ j → pos lo ≡ pos j → ⊥
            different j b e = omega (arith, ints)

  -- a nest changes what its statement changes at each turn
  pub nest_changes : (world : World) (ls : List Loop) (a : Statement)
      (hits : Scene → List ℤ → Bool) (scene : Scene) → IsSome (scene.buffers x)
      → ((b : ℕ) → scene.buffers b ≡ None → (at : List ℤ) → cells b at ≡ Undefined)
      → HitsOnce ls hits scene
      → AtEach ls (λ z. Changes x change cells z (step world a) (hits z)) scene
      → Changes x change cells scene (run world (nest ls a)) (nest_hits ls hits scene)
  nest_changes world [] a hits scene there tidy once h c k =
      then_some (step world a (at_cells scene c)) ∙ h c k
  nest_changes world (l ∷ ls) a hits scene there tidy once h c k =
      let go = run world (nest ls a) in
      then_some (turns (turn l.binder.id go)
      (range (pos 0) (count (number scene l.extent -ℤ pos 0))) (at_cells scene c))
      ∙ ap (λ z. turns (turn l.binder.id go) (range (pos 0) (count z)) (at_cells scene c)) same
      ∙ range_changes scene there tidy l.binder.id go zero (count (number scene l.extent))
      (λ n. nest_hits ls hits (with_control l.binder.id n scene)) once.0
      (λ n j e b. nest_changes world ls a hits (with_control l.binder.id n scene) there tidy
      (once.1 n) (h n j e (less j b))) c k
    where
      less : (j : ℕ) → j < 0 + count (number scene l.extent) → j < count (number scene l.extent)
      less j b = omega arith

      same : number scene l.extent -ℤ pos 0 ≡ number scene l.extent
      same = omega (arith, ints)

-- ---- one turn for each cell

-- a cell that a nest hits is hit by its statement, and the loops change no other variable
abbrev pub Hit : List Loop → (Scene → List ℤ → Bool) → Scene → List ℤ → Type 0
Hit ls hits scene at =
    (z : Scene) × (hits z at ≡ true)
    × ((y : ℕ) → is_loop y ls ≡ false → z.control y ≡ scene.control y)

some_turn : (ns : List ℤ) (f : ℤ → Bool) → any_of ns f ≡ true → (n : ℤ) × (f n ≡ true)
some_turn [] f e = absurd (true≢false (sym e))
some_turn (n ∷ ns) f e = go (f n) refl (some_turn ns f)
  where
    go : (t : Bool) → f n ≡ t → (any_of ns f ≡ true → (m : ℤ) × (f m ≡ true))
        → (m : ℤ) × (f m ≡ true)
    go true h more = (n, h)
    go false h more = more (ap (λ t. t || any_of ns f) (sym h) ∙ e)

pub hit_by : (ls : List Loop) (hits : Scene → List ℤ → Bool) (scene : Scene) (at : List ℤ)
    → nest_hits ls hits scene at ≡ true → Hit ls hits scene at
hit_by [] hits scene at e = (scene, e, λ y k. refl)
hit_by (l ∷ ls) hits scene at e =
    let t = some_turn (range (pos 0) (count (number scene l.extent)))
    (λ n. nest_hits ls hits (with_control l.binder.id n scene) at) e in
    let h = hit_by ls hits (with_control l.binder.id t.0 scene) at t.1 in (
      h.0,
      h.1,
      λ y k.
          let p = or_parts (y == l.binder.id) (is_loop y ls) k in
          h.2 y p.1 ∙ updated_other scene.control l.binder.id t.0 y p.0,
    )

-- where a cell that is hit determines the loops' variables, it is hit once
pub hits_once : (ls : List Loop) (hits : Scene → List ℤ → Bool) (scene : Scene) → AreNew ls
    → ((z w : Scene) (at : List ℤ) → hits z at ≡ true → hits w at ≡ true → (y : ℕ)
    → is_loop y ls ≡ true → z.control y ≡ w.control y) → HitsOnce ls hits scene
hits_once [] hits scene new same = tt
hits_once (l ∷ ls) hits scene new same = (
  λ m n at i j.
      let z = hit_by ls hits (with_control l.binder.id m scene) at i in
      let w = hit_by ls hits (with_control l.binder.id n scene) at j in
      sym (own m) ∙ sym (z.2 l.binder.id new.0)
      ∙ same z.0 w.0 at z.1 w.1 l.binder.id first ∙ w.2 l.binder.id new.0 ∙ own n,
  λ n. hits_once ls hits (with_control l.binder.id n scene) new.1 (λ z w at i j y k.
      same z w at i j y (more (y == l.binder.id) (is_loop y ls) k)),
)
  where
    own : (n : ℤ) → (with_control l.binder.id n scene).control l.binder.id ≡ n
    own n = ap (λ t. cond t n (scene.control l.binder.id))
        (eq-eqb l.binder.id l.binder.id refl)

    first : ((l.binder.id == l.binder.id) || is_loop l.binder.id ls) ≡ true
    first = ap (λ t. t || is_loop l.binder.id ls) (eq-eqb l.binder.id l.binder.id refl)

    more : (t u : Bool) → u ≡ true → (t || u) ≡ true
    more true u k = refl
    more false u k = k
