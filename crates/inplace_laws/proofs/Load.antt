-- The nest that loads a staged buffer.
use Rattle.std.proofs.Common.{◌≡◌, ℕ, ℤ, ◌==◌, ◌&&◌, Bool, true, false, cond, List, [], ◌∷◌, Option, Some, None, IsSome, refl, sym, ap, ◌∙◌, subst, eqb-true}
use Rattle.std.proofs.Math.Path.{fun_ext}
use Rattle.exo_tree.specs.Tree.{Coord, Assign, Read}
use Rattle.exo_meaning.specs.Value.{Value, Undefined, stored_as}
use Rattle.exo_meaning.specs.Scene.{Shape, Seen, Scene, numbers, cell_at, narrowed, whole, updated}
use Rattle.exo_meaning.specs.State.{Cells, with_control, same_index}
use Rattle.exo_meaning.specs.Calls.{contents, held_at}
use Rattle.exo_meaning.specs.Run.{World, run, step}
use Rattle.inplace_laws.specs.Windows.{shifted}
use Rattle.inplace_laws.specs.Filled.{Loop, nest, at_cells, filled, Fills, nest_hits, AtEach}
use Rattle.inplace_laws.proofs.Filled.{nest_fills}
use Rattle.inplace_laws.proofs.LoadOne.{load_one}
use Rattle.inplace_laws.proofs.Hits.{InBox, set_all, vars, AreNew, vars_are, box_is_hit}

each_in_box : (ls : List Loop) (P : Scene → Type 0) (scene : Scene) → ((at : List ℤ) → InBox ls at scene → P (set_all ls at scene)) → AtEach ls P scene
each_in_box [] P scene h = h [] tt
each_in_box (l ∷ ls) P scene h = λ n i e k. each_in_box ls P (with_control l.binder.id n scene) (λ at b. h (n ∷ at) (i, e, k, b))

same_views : (ls : List Loop) (at : List ℤ) (scene : Scene) → (set_all ls at scene).views ≡ scene.views
same_views [] at scene = refl
same_views (l ∷ ls) [] scene = refl
same_views (l ∷ ls) (i ∷ at) scene = same_views ls at (with_control l.binder.id i scene)

same_buffers : (ls : List Loop) (at : List ℤ) (scene : Scene) → (set_all ls at scene).buffers ≡ scene.buffers
same_buffers [] at scene = refl
same_buffers (l ∷ ls) [] scene = refl
same_buffers (l ∷ ls) (i ∷ at) scene = same_buffers ls at (with_control l.binder.id i scene)

module _ (world : World) (scene : Scene) (cells : Cells) (a x : ℕ) (shape : Shape) (seen r : Seen) (coords : List Coord) (ls : List Loop)
    (views : scene.views a ≡ Some (record { buffer = a; sides = whole shape.dims }))
    (there : scene.buffers a ≡ Some shape)
    (root : scene.views x ≡ Some r)
    (same : r.buffer ≡ seen.buffer)
    (other : (seen.buffer == a) ≡ false)
    (new : AreNew ls)
    -- the coordinates do not depend on the loops' variables
    (window : (at : List ℤ) → narrowed (set_all ls at scene) r.sides coords ≡ Some seen.sides)
    -- the loops run over the extents
    (box : (at : List ℤ) → InBox ls at scene → (cell_at (whole shape.dims) at ≡ Some at) × ((q : List ℤ) × (cell_at seen.sides at ≡ Some q)))
    (covers : (at q : List ℤ) → cell_at seen.sides at ≡ Some q → InBox ls at scene)
    -- each cell fits its type
    (fits : (q : List ℤ) → stored_as shape.cell (cells seen.buffer q) ≡ cells seen.buffer q)
    (tidy : (b : ℕ) → scene.buffers b ≡ None → (at : List ℤ) → cells b at ≡ Undefined)
    (empty : (at : List ℤ) → cells a at ≡ Undefined) where
  at_turn : (at : List ℤ) → InBox ls at scene → Fills a (contents cells seen) cells (set_all ls at scene) (step world (Assign a (vars ls) (Read x (shifted coords (vars ls))))) (λ to. same_index to (numbers (set_all ls at scene) (vars ls)))
  at_turn at b =
      let v = vars_are ls at scene new b in
      let i = box at b in
      load_one world (set_all ls at scene) cells a x shape seen r coords (vars ls) i.1.0
      (ap (λ f. f a) (same_views ls at scene) ∙ views) (ap (λ f. f a) (same_buffers ls at scene) ∙ there) (ap (λ f. f x) (same_views ls at scene) ∙ root) same (window at) other
      (ap (cell_at (whole shape.dims)) v ∙ i.0 ∙ ap Some (sym v)) (ap (cell_at seen.sides) v ∙ i.1.1) (fits i.1.0)

  hits : List ℤ → Bool
  hits = nest_hits ls (λ z to. same_index to (numbers z (vars ls))) scene

  -- all of the window, and nothing else
  all_filled : filled a (contents cells seen) hits cells ≡ updated cells a (contents cells seen)
  unfolding hits
  all_filled = fun_ext (λ b. fun_ext (λ at. go b at (b == a) refl))
    where
      in_window : (at : List ℤ) (o : Option (List ℤ)) → cell_at seen.sides at ≡ o → (t : Bool) → hits at ≡ t → cond t (contents cells seen at) (cells a at) ≡ contents cells seen at
      in_window at o e true k = refl
      in_window at None e false k = empty at ∙ ap (held_at (cells seen.buffer)) (sym e)
      in_window at (Some q) e false k = ap (λ t. cond t (contents cells seen at) (cells a at)) (sym k ∙ box_is_hit ls scene at new (covers at q e))

      go : (b : ℕ) (at : List ℤ) (t : Bool) → (b == a) ≡ t → cond (t && hits at) (contents cells seen at) (cells b at) ≡ cond {A = List ℤ → Value} t (contents cells seen) (cells b) at
      go b at false e = refl
      go b at true e = ap (λ y. cond (hits at) (contents cells seen at) (cells y at)) (eqb-true b a e) ∙ in_window at (cell_at seen.sides at) refl (hits at) refl

  -- the load gives the staged buffer the window's contents
  pub loads : run world (nest ls (Assign a (vars ls) (Read x (shifted coords (vars ls))))) (at_cells scene cells) ≡ Some (at_cells scene (updated cells a (contents cells seen)))
  unfolding hits
  loads =
      nest_fills a (contents cells seen) cells world ls (Assign a (vars ls) (Read x (shifted coords (vars ls)))) (λ z to. same_index to (numbers z (vars ls))) scene (subst IsSome (sym there) refl) tidy
      (each_in_box ls (λ z. Fills a (contents cells seen) cells z (step world (Assign a (vars ls) (Read x (shifted coords (vars ls))))) (λ to. same_index to (numbers z (vars ls)))) scene at_turn) cells (λ b e. refl)
      ∙ ap (λ c. Some (at_cells scene c)) all_filled
