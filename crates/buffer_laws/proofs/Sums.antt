-- The nests of a staged buffer that starts at 0 and is added to its window.
use Rattle.std.proofs.Common.{◌≡◌, ℕ, ℤ, pos, ◌+ℤ◌, ◌==◌, ◌&&◌, ◌||◌, Bool, true, false, cond}
use Rattle.std.proofs.Common.{List, [], ◌∷◌, Option, Some, None, IsSome, option_map}
use Rattle.std.proofs.Common.{refl, sym, ap, ap₂, ◌∙◌, subst, true≢false, eqb-true, eq-eqb}
use Rattle.std.proofs.Math.Path.{fun_ext}
use Rattle.std.specs.Cmp.Rules.{signed_items}
use Rattle.exo_tree.specs.Tree.{Coord, Const, Read, Assign, Reduce}
use Rattle.exo_meaning.specs.Value.{Value, Undefined, Number, stored_as, on_two}
use Rattle.exo_meaning.specs.Scene.{Shape, Seen, Scene, then_do, numbers, cell_at, index_of, whole}
use Rattle.exo_meaning.specs.Scene.{extents, window, where_true, updated}
use Rattle.exo_meaning.specs.State.{State, Cells, Place, place, held, put, changed, same_index}
use Rattle.exo_meaning.specs.State.{with_contents, with_buffer}
use Rattle.exo_meaning.specs.Calls.{GivenView, copy_back, value_or, held_at}
use Rattle.exo_meaning.specs.Footprint.{added}
use Rattle.exo_meaning.specs.Run.{World, run, step, allocate, tensor}
use Rattle.exo_meaning.proofs.Windows.{one_value, none_is_some, cell_at_index, index_at_cell}
use Rattle.inplace_laws.specs.Windows.{shifted}
use Rattle.inplace_laws.specs.Filled.{Loop, nest, at_cells, filled, Fills, nest_hits}
use Rattle.inplace_laws.proofs.Windows.{place_on}
use Rattle.inplace_laws.proofs.Filled.{nest_fills}
use Rattle.inplace_laws.proofs.Hits.{InBox, set_all, vars, is_loop, vars_are, comes_to_box}
use Rattle.inplace_laws.proofs.Hits.{box_is_hit}
use Rattle.buffer_laws.specs.Staging.Stores.{IsStaging, emptied}
use Rattle.buffer_laws.proofs.OfStaging.Stores.{vars_same, are_new, in_whole, in_sides, box_covers, at_any}
use Rattle.buffer_laws.proofs.OfStaging.Stores.{each_in_box, same_views, same_buffers, under}
use Rattle.buffer_laws.proofs.OfStaging.Loads.{at_all, set_none, own_there, nothing_there}
use Rattle.buffer_laws.proofs.OfStaging.Box.{box_law}
use Rattle.buffer_laws.specs.Sums.{zero_nest, zeros, zeroed, sums, ZerosLaw, SumsLaw}
use Rattle.exo_meaning.proofs.Wrap.{wrap_laws}
use Rattle.buffer_laws.proofs.Summed.{changed_at, Changes, nest_changes, Hit, hit_by, HitsOnce}
use Rattle.buffer_laws.proofs.Summed.{hits_once}

abbrev spot : ℕ → List ℤ → Place
spot b at = record { buffer = b; at = at }

-- the numbers of all variables are those of each one
variables_same : (ls : List Loop) (z w : Scene) → numbers z (vars ls) ≡ numbers w (vars ls)
    → (y : ℕ) → is_loop y ls ≡ true → z.control y ≡ w.control y
variables_same [] z w e y k = absurd (true≢false (sym k))
variables_same (l ∷ ls) z w e y k =
    go (y == l.binder.id) refl k (variables_same ls z w (rest (z.control l.binder.id) (w.control
    l.binder.id) e) y)
  where
    rest : (m n : ℤ) → (m ∷ numbers z (vars ls)) ≡ (n ∷ numbers w (vars ls))
        → numbers z (vars ls) ≡ numbers w (vars ls)
    rest m n e = cc

    go : (t : Bool) → (y == l.binder.id) ≡ t → (t || is_loop y ls) ≡ true
        → (is_loop y ls ≡ true → z.control y ≡ w.control y) → z.control y ≡ w.control y
    go true i k more = subst (λ v. z.control v ≡ w.control v) (sym (eqb-true y l.binder.id i)) cc
    go false i k more = more k

-- ---- the first nest

module _ (world : World) (a x : ℕ) (to : Shape) (seen : Seen) (coords : List Coord)
    (ls : List Loop) (s : State) (h : IsStaging a x seen coords ls s)
    (there : s.scene.buffers a ≡ Some (tensor to.cell (extents seen.sides)))
    (empty : (at : List ℤ) → s.cells a at ≡ Undefined) where
  abbrev dims : List ℤ
  dims = extents seen.sides

  zero_one : (at : List ℤ) → InBox ls at s.scene
      → Fills a (zeros seen) s.cells (set_all ls at s.scene)
      (step world (Assign a (vars ls) (Const (pos 0))))
      (λ js. same_index js (numbers (set_all ls at s.scene) (vars ls)))
  zero_one at b c k =
      let z = set_all ls at s.scene in
      let v = vars_are ls at s.scene (are_new ls h.distinct) b in
      let inside : cell_at (whole dims) (numbers z (vars ls)) ≡ Some (numbers z (vars ls)) =
      ap (cell_at (whole dims)) v ∙ in_whole ls dims s.scene at h.over b ∙ ap Some (sym v) in
      let q = in_sides ls seen.sides s.scene at h.over b in
      ap (λ o. then_do o (λ p. put (at_cells z c) (λ old. Number (pos 0)) p))
      (ap (λ o. then_do o (λ w. option_map (spot w.buffer) (cell_at w.sides (numbers z (vars ls)))))
      (ap (λ f. f a) (same_views ls at s.scene) ∙ h.name) ∙ ap (option_map (spot a)) inside)
      ∙ ap (option_map (λ (w : Shape). at_cells z (changed c (spot a (numbers z (vars ls)))
      (λ old. stored_as w.cell (Number (pos 0))))))
      (ap (λ f. f a) (same_buffers ls at s.scene) ∙ there)
      ∙ ap (λ n. Some (at_cells z (changed c (spot a (numbers z (vars ls))) (λ old. Number n))))
      (wrap_laws.zero to.cell)
      ∙ ap (λ d. Some (at_cells z d)) (hit c (numbers z (vars ls)) q.0
      (ap (cell_at seen.sides) v ∙ q.1))
    where
      hit : (c : Cells) (is q : List ℤ) → cell_at seen.sides is ≡ Some q
          → changed c (spot a is) (λ old. Number (pos 0))
          ≡ filled a (zeros seen) (λ js. same_index js is) c
      hit c is q e = fun_ext (λ b. fun_ext (λ js. go (b == a) (same_index js is) js
          (λ i. (signed_items js is).0 i) (c b js)))
        where
          go : (t u : Bool) (js : List ℤ) → (u ≡ true → js ≡ is) → (v : Value)
              → cond (t && u) (Number (pos 0)) v ≡ cond (t && u) (zeros seen js) v
          go false u js i v = refl
          go true false js i v = refl
          go true true js i v = sym (ap (zeros seen) (i refl)
              ∙ ap (held_at (λ at. Number (pos 0))) e)

  abbrev at_numbers : Scene → List ℤ → Bool
  at_numbers z js = same_index js (numbers z (vars ls))

  zero_hits : List ℤ → Bool
  zero_hits = nest_hits ls at_numbers s.scene

  -- all of the window, and nothing else
  all_zero : filled a (zeros seen) zero_hits s.cells ≡ updated s.cells a (zeros seen)
  unfolding zero_hits
  all_zero = fun_ext (λ b. fun_ext (λ at. go b at (b == a) refl))
    where
      in_window : (at : List ℤ) (o : Option (List ℤ)) → cell_at seen.sides at ≡ o → (t : Bool)
          → zero_hits at ≡ t → cond t (zeros seen at) (s.cells a at) ≡ zeros seen at
      in_window at o e true k = refl
      in_window at None e false k = empty at ∙ ap (held_at (λ js. Number (pos 0))) (sym e)
      in_window at (Some q) e false k = ap (λ t. cond t (zeros seen at) (s.cells a at)) (sym k
          ∙ box_is_hit ls s.scene at (are_new ls h.distinct)
          (box_covers ls seen.sides s.scene at q h.over e))

      go : (b : ℕ) (at : List ℤ) (t : Bool) → (b == a) ≡ t
          → cond (t && zero_hits at) (zeros seen at) (s.cells b at)
          ≡ cond {A = List ℤ → Value} t (zeros seen) (s.cells b) at
      go b at false e = refl
      go b at true e = ap (λ y. cond (zero_hits at) (zeros seen at) (s.cells y at)) (eqb-true b a e)
          ∙ in_window at (cell_at seen.sides at) refl (zero_hits at) refl

  set_to_zero : run world (zero_nest a ls) s ≡ Some (with_contents a (zeros seen) s)
  unfolding zero_hits
  set_to_zero =
      ap (λ vs. run world (nest ls (Assign a vs (Const (pos 0)))) s) (vars_same ls)
      ∙ nest_fills a (zeros seen) s.cells world ls (Assign a (vars ls) (Const (pos 0))) at_numbers
      s.scene (subst IsSome (sym there) refl) h.tidy
      (each_in_box ls (λ z. Fills a (zeros seen) s.cells z
      (step world (Assign a (vars ls) (Const (pos 0)))) (at_numbers z)) s.scene zero_one)
      s.cells (λ b e. refl)
      ∙ ap (λ c. Some (at_cells s.scene c)) all_zero

  window_there : window s.scene x coords ≡ Some seen
  window_there = subst (λ z. window z x coords ≡ Some seen) (set_none ls s.scene)
      (at_all ls (λ z. window z x coords ≡ Some seen) s.scene h.window [])

-- the buffer as it is made, with contents of its own
contents_twice : (a : ℕ) (seen : Seen) (to : Shape) (s : State)
    → with_contents a (zeros seen) (emptied a to.cell (extents seen.sides) s) ≡ zeroed a seen to s
contents_twice a seen to s = ap (λ c. record {
  scene = with_buffer a (tensor to.cell (extents seen.sides)) s.scene;
  cells = c;
}) (fun_ext (λ b. go b (b == a)))
  where
    go : (b : ℕ) (t : Bool) → cond {A = List ℤ → Value} t (zeros seen)
        (cond {A = List ℤ → Value} t (λ at. Undefined) (s.cells b))
        ≡ cond {A = List ℤ → Value} t (zeros seen) (s.cells b)
    go b true = refl
    go b false = refl

pub zeros_law : ZerosLaw
zeros_law world a ds memory x seen to coords ls s numbers_are h =
    let inner : State = emptied a.id to.cell (extents seen.sides) s in
    let own = own_there a.id seen to s h.other in
    let none = nothing_there a.id seen to s h.other in
    let positive = (box_law inner.scene x coords seen
    (window_there world a.id x to seen coords ls inner h own none)).1 in
    ap (λ ns. then_do (allocate a.id to.cell ns s) (run world (zero_nest a.id ls))) numbers_are
    ∙ ap (λ t. then_do (where_true t (Some inner)) (run world (zero_nest a.id ls))) positive
    ∙ set_to_zero world a.id x to seen coords ls inner h own none
    ∙ ap Some (contents_twice a.id seen to s)

-- ---- the second nest

abbrev hit_at : Option (List ℤ) → List ℤ → Bool
hit_at None at = false
hit_at (Some q) at = same_index at q

module _ (world : World) (a x : ℕ) (seen : Seen) (to : Shape) (coords : List Coord)
    (ls : List Loop) (s : State) (h : IsStaging a x seen coords ls s)
    (there : s.scene.buffers seen.buffer ≡ Some to) where
  -- the buffer's cell is added
  abbrev change : List ℤ → Value → Value
  change at v = added to.cell (value_or (index_of seen.sides at) (s.cells a) Undefined) v

  abbrev one_hit : Scene → List ℤ → Bool
  one_hit z = hit_at (cell_at seen.sides (numbers z (vars ls)))

  -- a cell that is hit is the window's at the variables' numbers
  hit_is : (z : Scene) (at : List ℤ) → one_hit z at ≡ true
      → index_of seen.sides at ≡ Some (numbers z (vars ls))
  hit_is z at e = go (cell_at seen.sides (numbers z (vars ls))) refl e
    where
      go : (o : Option (List ℤ)) → cell_at seen.sides (numbers z (vars ls)) ≡ o
          → hit_at o at ≡ true → index_of seen.sides at ≡ Some (numbers z (vars ls))
      go None k i = absurd (true≢false (sym i))
      go (Some q) k i = ap (index_of seen.sides) ((signed_items at q).0 i)
          ∙ index_at_cell seen.sides (numbers z (vars ls)) q k

  not_here : (a == seen.buffer) ≡ false
  not_here = go (a == seen.buffer) refl
    where
      go : (t : Bool) → (a == seen.buffer) ≡ t → t ≡ false
      go false e = refl
      go true e = absurd (true≢false (sym (eq-eqb seen.buffer a (sym (eqb-true a seen.buffer e)))
          ∙ h.other))

  module _ (at : List ℤ) (b : InBox ls at s.scene) where
    abbrev z : Scene
    z = set_all ls at s.scene

    abbrev is : List ℤ
    is = numbers z (vars ls)

    set_is : is ≡ at
    set_is = vars_are ls at s.scene (are_new ls h.distinct) b

    abbrev Sees : Type 0
    Sees = (q : List ℤ) × (cell_at seen.sides is ≡ Some q)

    sees : Sees
    sees =
        let q = in_sides ls seen.sides s.scene at h.over b in
        (q.0, ap (cell_at seen.sides) set_is ∙ q.1)

    place_a : place z a (vars ls) ≡ Some (spot a is)
    place_a =
        ap (λ o. then_do o (λ w. option_map (spot w.buffer) (cell_at w.sides is)))
        (ap (λ f. f a) (same_views ls at s.scene) ∙ h.name)
        ∙ ap (option_map (spot a)) (ap (cell_at (whole (extents seen.sides))) set_is
        ∙ in_whole ls (extents seen.sides) s.scene at h.over b ∙ ap Some (sym set_is))

    place_x : place z x (shifted coords (vars ls)) ≡ Some (spot seen.buffer sees.0)
    place_x =
        let u = under z x coords seen
        (at_any ls (λ w. window w x coords ≡ Some seen) s.scene h.window at b) in
        ap (λ o. then_do o (λ w. option_map (spot w.buffer)
        (cell_at w.sides (numbers z (shifted coords (vars ls)))))) u.name
        ∙ ap (option_map (spot u.root.buffer))
        (place_on z u.root.sides seen.sides coords (vars ls) sees.0 u.sides sees.1)
        ∙ ap (λ k. Some (spot k sees.0)) u.same

    hit : (c : Cells) → changed c (spot seen.buffer sees.0)
        (λ old. stored_as to.cell (on_two ◌+ℤ◌ old (s.cells a is)))
        ≡ changed_at seen.buffer change (λ js. same_index js sees.0) c
    hit c = fun_ext (λ y. fun_ext (λ js. go (y == seen.buffer) (same_index js sees.0) js
        (λ e. (signed_items js sees.0).0 e) (c y js)))
      where
        go : (t u : Bool) (js : List ℤ) → (u ≡ true → js ≡ sees.0) → (v : Value)
            → cond (t && u) (stored_as to.cell (on_two ◌+ℤ◌ v (s.cells a is))) v
            ≡ cond (t && u) (change js v) v
        go false u js e v = refl
        go true false js e v = refl
        go true true js e v = sym (ap (λ o. added to.cell (value_or o (s.cells a) Undefined) v)
            (ap (index_of seen.sides) (e refl) ∙ index_at_cell seen.sides is sees.0 sees.1))

    sum_one : Changes seen.buffer change s.cells z
        (step world (Reduce x (shifted coords (vars ls)) (Read a (vars ls)))) (one_hit z)
    sum_one c k =
        ap₂ (λ o v. then_do o (λ p. then_do (option_map (held c) v) (λ w. put (at_cells z c)
        (λ old. on_two ◌+ℤ◌ old w) p))) place_x place_a
        ∙ ap (option_map (λ (w : Shape). at_cells z (changed c (spot seen.buffer sees.0)
        (λ old. stored_as w.cell (on_two ◌+ℤ◌ old (c a is))))))
        (ap (λ f. f seen.buffer) (same_buffers ls at s.scene) ∙ there)
        ∙ ap (λ d. Some (at_cells z (changed c (spot seen.buffer sees.0)
        (λ old. stored_as to.cell (on_two ◌+ℤ◌ old (d is)))))) (k a not_here)
        ∙ ap (λ d. Some (at_cells z d)) (hit c)
        ∙ ap (λ o. Some (at_cells z (changed_at seen.buffer change (hit_at o) c))) (sym sees.1)

  sum_hits : List ℤ → Bool
  sum_hits = nest_hits ls one_hit s.scene

  -- the window's cells are hit
  is_hit : (at js : List ℤ) → cell_at seen.sides js ≡ Some at → sum_hits at ≡ true
  unfolding sum_hits
  is_hit at js e =
      let b = box_covers ls seen.sides s.scene js at h.over e in
      comes_to_box ls one_hit s.scene js at b (ap (λ l. hit_at (cell_at seen.sides l) at)
      (vars_are ls js s.scene (are_new ls h.distinct) b) ∙ ap (λ o. hit_at o at) e
      ∙ (signed_items at at).1 refl)

  -- and no other ones
  not_hit : (at : List ℤ) → index_of seen.sides at ≡ None → sum_hits at ≡ true → ⊥
  unfolding sum_hits
  not_hit at e k =
      let q : Hit ls one_hit s.scene at = hit_by ls one_hit s.scene at k in
      none_is_some (sym e ∙ hit_is q.0 at q.1)

  all_added : changed_at seen.buffer change sum_hits s.cells
      ≡ copy_back true (GivenView seen) (sums to.cell (s.cells a) s.cells seen) s.cells
  all_added = fun_ext (λ b. fun_ext (λ at. go b at (b == seen.buffer) refl))
    where
      in_window : (at : List ℤ) (o : Option (List ℤ)) → index_of seen.sides at ≡ o → (t : Bool)
          → sum_hits at ≡ t
          → cond t (added to.cell (value_or o (s.cells a) Undefined) (s.cells seen.buffer at))
          (s.cells seen.buffer at)
          ≡ value_or o (sums to.cell (s.cells a) s.cells seen) (s.cells seen.buffer at)
      in_window at None e true k = absurd (not_hit at e k)
      in_window at None e false k = refl
      in_window at (Some js) e true k = sym (ap (λ p. added to.cell (s.cells a js)
          (held_at (s.cells seen.buffer) p)) (cell_at_index seen.sides at js e))
      in_window at (Some js) e false k =
          absurd (true≢false (sym (is_hit at js (cell_at_index seen.sides at js e)) ∙ k))

      go : (b : ℕ) (at : List ℤ) (t : Bool) → (b == seen.buffer) ≡ t
          → cond (t && sum_hits at) (change at (s.cells b at)) (s.cells b at)
          ≡ cond t (value_or (index_of seen.sides at) (sums to.cell (s.cells a) s.cells seen)
          (s.cells b at)) (s.cells b at)
      go b at false e = refl
      go b at true e =
          subst (λ y. cond (sum_hits at) (change at (s.cells y at)) (s.cells y at)
          ≡ value_or (index_of seen.sides at) (sums to.cell (s.cells a) s.cells seen)
          (s.cells y at)) (sym (eqb-true b seen.buffer e))
          (in_window at (index_of seen.sides at) refl (sum_hits at) refl)

  once : HitsOnce ls one_hit s.scene
  once = hits_once ls one_hit s.scene (are_new ls h.distinct) (λ z w at i j.
      variables_same ls z w (one_value (numbers z (vars ls)) (numbers w (vars ls))
      (sym (hit_is z at i) ∙ hit_is w at j)))

  summed : run world (nest ls (Reduce x (shifted coords (vars ls)) (Read a (vars ls)))) s
      ≡ Some (at_cells s.scene
      (copy_back true (GivenView seen) (sums to.cell (s.cells a) s.cells seen) s.cells))
  unfolding sum_hits
  summed =
      nest_changes seen.buffer change s.cells world ls
      (Reduce x (shifted coords (vars ls)) (Read a (vars ls))) one_hit s.scene
      (subst IsSome (sym there) refl) h.tidy once
      (each_in_box ls (λ z. Changes seen.buffer change s.cells z
      (step world (Reduce x (shifted coords (vars ls)) (Read a (vars ls)))) (one_hit z)) s.scene
      sum_one) s.cells (λ b e. refl)
      ∙ ap (λ c. Some (at_cells s.scene c)) all_added

pub sums_law : SumsLaw
sums_law world a x seen to coords ls s h there =
    ap (λ v. run world (nest ls (Reduce x (shifted coords v) (Read a v))) s) (vars_same ls)
    ∙ summed world a x seen to coords ls s h there
