-- The store nest copies the staged buffer back into the window.
use Rattle.std.proofs.Common.{◌≡◌, ◌<◌, ℕ, ℤ, pos, negsuc, ◌+ℤ◌, ◌==◌, ◌&&◌, ◌||◌, Bool, true}
use Rattle.std.proofs.Common.{false, cond, List, [], ◌∷◌, Option, Some, None, IsSome, option_map}
use Rattle.std.proofs.Common.{refl, sym, ap, ap₂, ◌∙◌, subst, true≢false, eqb-true, eq-eqb, arith}
use Rattle.std.proofs.Math.Path.{fun_ext}
use Rattle.std.proofs.lemmas.Int.{ints}
use Rattle.std.specs.Cmp.Rules.{signed_items}
use Rattle.exo_tree.specs.Tree.{Control, Coord, Var, Assign, Read}
use Rattle.exo_meaning.specs.Value.{Value, stored_as}
use Rattle.exo_meaning.specs.Scene.{Shape, Side, Point, Range, Seen, Scene, then_do, numbers}
use Rattle.exo_meaning.specs.Scene.{number, cell_at, index_of, narrowed, whole, extents, window}
use Rattle.exo_meaning.specs.Scene.{where_true, is_below}
use Rattle.exo_meaning.specs.State.{State, Cells, Place, place, held, put, changed, same_index}
use Rattle.exo_meaning.specs.State.{with_control}
use Rattle.exo_meaning.specs.Calls.{GivenView, copy_back, value_or}
use Rattle.exo_meaning.specs.Run.{World, run, step, count}
use Rattle.exo_meaning.proofs.Windows.{none_is_some, where_parts, map_parts, cell_at_index}
use Rattle.exo_meaning.proofs.Windows.{index_at_cell}
use Rattle.meaning_laws.proofs.Parts.{then_gives}
use Rattle.inplace_laws.specs.Windows.{shifted}
use Rattle.inplace_laws.specs.Filled.{Loop, nest, at_cells, filled, Fills, nest_hits, AtEach}
use Rattle.inplace_laws.proofs.Windows.{place_on}
use Rattle.inplace_laws.proofs.Filled.{nest_fills}
use Rattle.inplace_laws.proofs.Hits.{InBox, set_all, vars, AreNew, is_loop, vars_are, comes_to_box}
use Rattle.buffer_laws.specs.Staging.Stores.{variables, is_variable, AreDistinct, AtAny, RunOver}
use Rattle.buffer_laws.specs.Staging.Stores.{IsStaging, FitInto, StoresLaw}

-- ---- the names of the laws before

pub vars_same : (ls : List Loop) → variables ls ≡ vars ls
vars_same [] = refl
vars_same (l ∷ ls) = ap (λ r. Var l.binder.id ∷ r) (vars_same ls)

is_loop_same : (x : ℕ) (ls : List Loop) → is_loop x ls ≡ is_variable x ls
is_loop_same x [] = refl
is_loop_same x (l ∷ ls) = ap (λ t. (x == l.binder.id) || t) (is_loop_same x ls)

pub are_new : (ls : List Loop) → AreDistinct ls → AreNew ls
are_new [] d = tt
are_new (l ∷ ls) (n, d) = (is_loop_same l.binder.id ls ∙ n, are_new ls d)

-- ---- the box

below_count : (j : ℕ) (d : ℤ) → j < count d → is_below (pos j) d ≡ true
below_count j (pos n) h = grind (arith, ints)
below_count j (negsuc n) h = absurd (omega arith)

count_below : (j : ℕ) (d : ℤ) → is_below (pos j) d ≡ true → j < count d
count_below j (pos n) h = grind (arith, ints)
count_below j (negsuc n) h = grind (arith, ints)

pub zero_plus : (i : ℤ) → pos 0 +ℤ i ≡ i
zero_plus i = omega (arith, ints)

below_extent : (l : Loop) (i d : ℤ) (scene : Scene) → number scene l.extent ≡ d → (j : ℕ)
    → i ≡ pos j → j < count (number scene l.extent) → is_below i d ≡ true
below_extent l i d scene e j k m = ap₂ is_below k (sym e) ∙ below_count j (number scene l.extent) m

-- each index list in the box is one of the buffer
pub in_whole : (ls : List Loop) (ds : List ℤ) (scene : Scene) (at : List ℤ) → RunOver ls ds scene
    → InBox ls at scene → cell_at (whole ds) at ≡ Some at
in_whole [] [] scene [] o b = refl
in_whole [] [] scene (i ∷ at) o b = absurd b
in_whole [] (d ∷ ds) scene at o b = absurd o
in_whole (l ∷ ls) [] scene at o b = absurd o
in_whole (l ∷ ls) (d ∷ ds) scene [] o b = absurd b
in_whole (l ∷ ls) (d ∷ ds) scene (i ∷ at) (e, o) (j, k, m, b) =
    ap₂ (λ t r. where_true t (option_map (λ at. (pos 0 +ℤ i) ∷ at) r)) (below_extent l i d scene e j
    k m) (in_whole ls ds (with_control l.binder.id i scene) at (o i) b)
    ∙ ap (λ z. Some (z ∷ at)) (zero_plus i)

-- and one of the window
pub in_sides : (ls : List Loop) (sides : List Side) (scene : Scene) (at : List ℤ)
    → RunOver ls (extents sides) scene → InBox ls at scene
    → (q : List ℤ) × (cell_at sides at ≡ Some q)
in_sides [] [] scene [] o b = ([], refl)
in_sides [] [] scene (i ∷ at) o b = absurd b
in_sides (l ∷ ls) [] scene at o b = absurd o
in_sides ls (Point p ∷ sides) scene at o b = let q =
    in_sides ls sides scene at o b in (p ∷ q.0, ap (option_map (λ r. p ∷ r)) q.1)
in_sides [] (Range lo n ∷ sides) scene at o b = absurd o
in_sides (l ∷ ls) (Range lo n ∷ sides) scene [] o b = absurd b
in_sides (l ∷ ls) (Range lo n ∷ sides) scene (i ∷ at) (e, o) (j, k, m, b) =
    let q = in_sides ls sides (with_control l.binder.id i scene) at (o i) b in (
      (lo +ℤ i) ∷ q.0,
      ap₂ (λ t r. where_true t (option_map (λ at. (lo +ℤ i) ∷ at) r))
          (below_extent l i n scene e j k m) q.1,
    )

-- no other index list is one of the window
pub box_covers : (ls : List Loop) (sides : List Side) (scene : Scene) (at q : List ℤ)
    → RunOver ls (extents sides) scene → cell_at sides at ≡ Some q → InBox ls at scene
box_covers [] [] scene [] q o e = tt
box_covers (l ∷ ls) [] scene at q o e = absurd o
box_covers [] [] scene (i ∷ at) q o e = absurd (none_is_some e)
box_covers ls (Point p ∷ sides) scene at q o e = let m =
    map_parts (λ r. p ∷ r) (cell_at sides at) q e in box_covers ls sides scene at m.0 o m.1
box_covers [] (Range lo n ∷ sides) scene at q o e = absurd o
box_covers (l ∷ ls) (Range lo n ∷ sides) scene [] q o e = absurd (none_is_some e)
box_covers (l ∷ ls) (Range lo n ∷ sides) scene (pos j ∷ at) q (k, o) e =
    let w = where_parts (is_below (pos j) n) (option_map (λ r. (lo +ℤ pos j) ∷ r)
    (cell_at sides at)) q e in
    let m = map_parts (λ r. (lo +ℤ pos j) ∷ r) (cell_at sides at) q w.1 in (
      j,
      refl,
      count_below j (number scene l.extent) (ap (is_below (pos j)) k ∙ w.0),
      box_covers ls
          sides (with_control l.binder.id (pos j) scene) at m.0 (o (pos j)) m.1,
    )
box_covers (l ∷ ls) (Range lo n ∷ sides) scene (negsuc j ∷ at) q o e = absurd (none_is_some e)

-- ---- at the turns

pub at_any : (ls : List Loop) (P : Scene → Type 0) (scene : Scene) → AtAny ls P scene
    → (at : List ℤ) → InBox ls at scene → P (set_all ls at scene)
at_any [] P scene h at b = h
at_any (l ∷ ls) P scene h [] b = absurd b
at_any (l ∷ ls) P scene h (i ∷ at) (j, k, m, b) =
    at_any ls P (with_control l.binder.id i scene) (h i) at b

pub each_in_box : (ls : List Loop) (P : Scene → Type 0) (scene : Scene)
    → ((at : List ℤ) → InBox ls at scene → P (set_all ls at scene)) → AtEach ls P scene
each_in_box [] P scene h = h [] tt
each_in_box (l ∷ ls) P scene h = λ n i e k. each_in_box ls P (with_control l.binder.id n scene)
    (λ at b. h (n ∷ at) (i, e, k, b))

pub same_views : (ls : List Loop) (at : List ℤ) (scene : Scene)
    → (set_all ls at scene).views ≡ scene.views
same_views [] at scene = refl
same_views (l ∷ ls) [] scene = refl
same_views (l ∷ ls) (i ∷ at) scene = same_views ls at (with_control l.binder.id i scene)

pub same_buffers : (ls : List Loop) (at : List ℤ) (scene : Scene)
    → (set_all ls at scene).buffers ≡ scene.buffers
same_buffers [] at scene = refl
same_buffers (l ∷ ls) [] scene = refl
same_buffers (l ∷ ls) (i ∷ at) scene = same_buffers ls at (with_control l.binder.id i scene)

-- the root and its sides under a window
pub record Under (scene : Scene) (x : ℕ) (coords : List Coord) (seen : Seen) : Type 0 where
  pub root : Seen
  pub name : scene.views x ≡ Some root
  pub same : root.buffer ≡ seen.buffer
  pub sides : narrowed scene root.sides coords ≡ Some seen.sides

pub under : (scene : Scene) (x : ℕ) (coords : List Coord) (seen : Seen)
    → window scene x coords ≡ Some seen → Under scene x coords seen
under scene x coords seen e =
    let r = then_gives (scene.views x)
    (λ r. option_map (λ sides. record { buffer = r.buffer; sides = sides })
    (narrowed scene r.sides coords)) seen e in
    let m = map_parts (λ sides. record { buffer = r.0.buffer; sides = sides })
    (narrowed scene r.0.sides coords) seen r.2 in
    record {
      root = r.0;
      name = r.1;
      same = ap (λ (z : Seen). z.buffer) m.2;
      sides = m.1
          ∙ ap (λ (z : Seen). Some z.sides) m.2;
    }

-- ---- one store

abbrev spot : ℕ → List ℤ → Place
spot b at = record { buffer = b; at = at }

abbrev hit_at : Option (List ℤ) → List ℤ → Bool
hit_at None at = false
hit_at (Some q) at = same_index at q

module _ (cells : Cells) (a : ℕ) (seen : Seen) where
  abbrev goal : List ℤ → Value
  goal at = value_or (index_of seen.sides at) (cells a) (cells seen.buffer at)

  module _ (world : World) (scene : Scene) (x : ℕ) (to : Shape) (coords : List Coord)
      (is : List Control) (q : List ℤ)
      (name : scene.views a ≡ Some (record { buffer = a; sides = whole (extents seen.sides) }))
      (there : scene.buffers seen.buffer ≡ Some to)
      (other : (seen.buffer == a) ≡ false)
      (seen_there : window scene x coords ≡ Some seen)
      (inside : cell_at (whole (extents seen.sides)) (numbers scene is) ≡ Some (numbers scene is))
      (sees : cell_at seen.sides (numbers scene is) ≡ Some q)
      (fits : stored_as to.cell (cells a (numbers scene is)) ≡ cells a (numbers scene is)) where
    place_a : place scene a is ≡ Some (spot a (numbers scene is))
    place_a = ap (λ o. then_do o (λ z. option_map (spot z.buffer)
        (cell_at z.sides (numbers scene is)))) name ∙ ap (option_map (spot a)) inside

    place_x : place scene x (shifted coords is) ≡ Some (spot seen.buffer q)
    place_x =
        let u = under scene x coords seen seen_there in
        ap (λ o. then_do o (λ z. option_map (spot z.buffer)
        (cell_at z.sides (numbers scene (shifted coords is))))) u.name
        ∙ ap (option_map (spot u.root.buffer)) (place_on scene u.root.sides seen.sides coords is q
        u.sides sees) ∙ ap (λ b. Some (spot b q)) u.same

    hit : (c : Cells) → changed c (spot seen.buffer q) (λ old. cells a (numbers scene is)) ≡ filled
        seen.buffer goal (λ at. same_index at q) c
    hit c = fun_ext (λ b. fun_ext (λ at. go (b == seen.buffer) (same_index at q) at
        (λ e. (signed_items at q).0 e) (c b at)))
      where
        go : (t u : Bool) (at : List ℤ) → (u ≡ true → at ≡ q) → (v : Value)
            → cond (t && u) (cells a (numbers scene is)) v ≡ cond (t && u) (goal at) v
        go false u at e v = refl
        go true false at e v = refl
        go true true at e v = sym (ap goal (e refl)
            ∙ ap (λ o. value_or o (cells a) (cells seen.buffer q)) (index_at_cell seen.sides
            (numbers scene is) q sees))

    not_here : (a == seen.buffer) ≡ false
    not_here = go (a == seen.buffer) refl
      where
        go : (t : Bool) → (a == seen.buffer) ≡ t → t ≡ false
        go false e = refl
        go true e = absurd (true≢false (sym (eq-eqb seen.buffer a (sym (eqb-true a seen.buffer e)))
            ∙ other))

    store_one : Fills seen.buffer goal cells scene
        (step world (Assign x (shifted coords is) (Read a is)))
        (hit_at (cell_at seen.sides (numbers scene is)))
    store_one c k =
        ap₂ (λ o v. then_do o (λ p. then_do (option_map (held c) v) (λ v. put (at_cells scene c)
        (λ old. v) p))) place_x place_a
        ∙ ap (λ o. option_map (λ (z : Shape). at_cells scene (changed c (spot seen.buffer q)
        (λ old. stored_as z.cell (c a (numbers scene is))))) o) there
        ∙ ap (λ d. Some (at_cells scene (changed c (spot seen.buffer q) (λ old. stored_as to.cell
        (d (numbers scene is)))))) (k a not_here)
        ∙ ap (λ v. Some (at_cells scene (changed c (spot seen.buffer q) (λ old. v)))) fits
        ∙ ap (λ d. Some (at_cells scene d)) (hit c)
        ∙ ap (λ o. Some (at_cells scene (filled seen.buffer goal (hit_at o) c))) (sym sees)

-- ---- the nest

module _ (world : World) (a x : ℕ) (seen : Seen) (coords : List Coord) (ls : List Loop) (s : State)
    (h : IsStaging a x seen coords ls s) (fit : FitInto s a seen.buffer) where
  abbrev one_hit : Scene → List ℤ → Bool
  one_hit z = hit_at (cell_at seen.sides (numbers z (vars ls)))

  at_turn : (at : List ℤ) → InBox ls at s.scene → Fills seen.buffer (goal s.cells a seen) s.cells
      (set_all ls at s.scene) (step world (Assign x (shifted coords (vars ls)) (Read a (vars ls))))
      (one_hit (set_all ls at s.scene))
  at_turn at b =
      let z = set_all ls at s.scene in
      let v = vars_are ls at s.scene (are_new ls h.distinct) b in
      let q = in_sides ls seen.sides s.scene at h.over b in
      store_one s.cells a seen world z x h.there.0 coords (vars ls) q.0
      (ap (λ f. f a) (same_views ls at s.scene) ∙ h.name) (ap (λ f. f seen.buffer)
      (same_buffers ls at s.scene) ∙ h.there.1) h.other (at_any ls (λ z. window z x coords
      ≡ Some seen) s.scene h.window at b)
      (ap (cell_at (whole (extents seen.sides))) v ∙ in_whole ls (extents seen.sides) s.scene at
      h.over b ∙ ap Some (sym v)) (ap (cell_at seen.sides) v
      ∙ q.1) (fit h.there.0 (numbers z (vars ls)) h.there.1)

  hits : List ℤ → Bool
  hits = nest_hits ls one_hit s.scene

  -- the window's cells are hit
  is_hit : (at js : List ℤ) → cell_at seen.sides js ≡ Some at → hits at ≡ true
  unfolding hits
  is_hit at js e =
      let b = box_covers ls seen.sides s.scene js at h.over e in
      comes_to_box ls one_hit s.scene js at b (ap (λ l. hit_at (cell_at seen.sides l) at)
      (vars_are ls js s.scene (are_new ls h.distinct) b) ∙ ap (λ o. hit_at o at) e
      ∙ (signed_items at at).1 refl)

  all_back : filled seen.buffer (goal s.cells a seen) hits s.cells ≡ copy_back true (GivenView seen)
      (s.cells a) s.cells
  all_back = fun_ext (λ b. fun_ext (λ at. go b at (b == seen.buffer) refl))
    where
      in_window : (at : List ℤ) (o : Option (List ℤ)) → index_of seen.sides at ≡ o → (t : Bool)
          → hits at ≡ t → cond t (value_or o (s.cells a) (s.cells seen.buffer at))
          (s.cells seen.buffer at) ≡ value_or o (s.cells a) (s.cells seen.buffer at)
      in_window at o e true k = refl
      in_window at None e false k = refl
      in_window at (Some js) e false k =
          absurd (true≢false (sym (is_hit at js (cell_at_index seen.sides at js e)) ∙ k))

      go : (b : ℕ) (at : List ℤ) (t : Bool) → (b == seen.buffer) ≡ t
          → cond (t && hits at) (goal s.cells a seen at) (s.cells b at) ≡ cond t
          (value_or (index_of seen.sides at) (s.cells a) (s.cells b at)) (s.cells b at)
      go b at false e = refl
      go b at true e =
          subst (λ y. cond (hits at) (goal s.cells a seen at) (s.cells y at)
          ≡ value_or (index_of seen.sides at) (s.cells a) (s.cells y at))
          (sym (eqb-true b seen.buffer e))
          (in_window at (index_of seen.sides at) refl (hits at) refl)

  stores : run world (nest ls (Assign x (shifted coords (vars ls)) (Read a (vars ls)))) s
      ≡ Some (at_cells s.scene (copy_back true (GivenView seen) (s.cells a) s.cells))
  unfolding hits
  stores =
      nest_fills seen.buffer (goal s.cells a seen) s.cells world ls
      (Assign x (shifted coords (vars ls)) (Read a (vars ls))) one_hit s.scene
      (subst IsSome (sym h.there.1) refl) h.tidy
      (each_in_box ls (λ z. Fills seen.buffer (goal s.cells a seen) s.cells z
      (step world (Assign x (shifted coords (vars ls)) (Read a (vars ls)))) (one_hit z)) s.scene
      at_turn) s.cells (λ b e. refl)
      ∙ ap (λ c. Some (at_cells s.scene c)) all_back

pub stores_law : StoresLaw
stores_law world a x seen coords ls s h fit =
    ap (λ v. run world (nest ls (Assign x (shifted coords v) (Read a v))) s) (vars_same ls)
    ∙ stores world a x seen coords ls s h fit
