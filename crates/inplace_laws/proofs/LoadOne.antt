-- One turn of the nest that loads a staged buffer.
use Rattle.std.proofs.Common.{◌≡◌, ℕ, ℤ, ◌==◌, ◌&&◌, Bool, true, false, cond, List, Some, option_map, refl, sym, ap, ap₂, ◌∙◌}
use Rattle.std.proofs.Math.Path.{fun_ext}
use Rattle.std.specs.Cmp.Rules.{signed_items}
use Rattle.exo_tree.specs.Tree.{Control, Coord, Assign, Read}
use Rattle.exo_meaning.specs.Value.{Value, stored_as}
use Rattle.exo_meaning.specs.Scene.{Shape, Seen, Scene, then_do, numbers, cell_at, narrowed, whole}
use Rattle.exo_meaning.specs.State.{Cells, Place, place, held, put, changed, same_index}
use Rattle.exo_meaning.specs.Calls.{contents, held_at}
use Rattle.exo_meaning.specs.Run.{World, step}
use Rattle.inplace_laws.specs.Windows.{shifted}
use Rattle.inplace_laws.specs.Filled.{at_cells, filled, Fills}
use Rattle.inplace_laws.proofs.Windows.{place_on}

abbrev spot : ℕ → List ℤ → Place
spot b at = record { buffer = b; at = at }

-- the store of one cell, with the indices is of the staged buffer
module _ (world : World) (scene : Scene) (cells : Cells) (a x : ℕ) (shape : Shape) (seen r : Seen) (coords : List Coord) (is : List Control) (q : List ℤ)
    (views : scene.views a ≡ Some (record { buffer = a; sides = whole shape.dims }))
    (there : scene.buffers a ≡ Some shape)
    (root : scene.views x ≡ Some r)
    (same : r.buffer ≡ seen.buffer)
    (window : narrowed scene r.sides coords ≡ Some seen.sides)
    (other : (seen.buffer == a) ≡ false)
    (inside : cell_at (whole shape.dims) (numbers scene is) ≡ Some (numbers scene is))
    (sees : cell_at seen.sides (numbers scene is) ≡ Some q)
    (fits : stored_as shape.cell (cells seen.buffer q) ≡ cells seen.buffer q) where
  place_a : place scene a is ≡ Some (spot a (numbers scene is))
  place_a = ap (λ o. then_do o (λ z. option_map (spot z.buffer) (cell_at z.sides (numbers scene is)))) views ∙ ap (option_map (spot a)) inside

  place_x : place scene x (shifted coords is) ≡ Some (spot seen.buffer q)
  place_x = ap (λ o. then_do o (λ z. option_map (spot z.buffer) (cell_at z.sides (numbers scene (shifted coords is))))) root ∙ ap (option_map (spot r.buffer)) (place_on scene r.sides seen.sides coords is q window sees) ∙ ap (λ b. Some (spot b q)) same

  hit : (c : Cells) → changed c (spot a (numbers scene is)) (λ old. cells seen.buffer q) ≡ filled a (contents cells seen) (λ at. same_index at (numbers scene is)) c
  hit c = fun_ext (λ b. fun_ext (λ at. go (b == a) (same_index at (numbers scene is)) at (λ e. (signed_items at (numbers scene is)).0 e) (c b at)))
    where
      go : (t u : Bool) (at : List ℤ) → (u ≡ true → at ≡ numbers scene is) → (v : Value) → cond (t && u) (cells seen.buffer q) v ≡ cond (t && u) (contents cells seen at) v
      go false u at e v = refl
      go true false at e v = refl
      go true true at e v = sym (ap (λ l. held_at (cells seen.buffer) (cell_at seen.sides l)) (e refl) ∙ ap (held_at (cells seen.buffer)) sees)

  pub load_one : Fills a (contents cells seen) cells scene (step world (Assign a is (Read x (shifted coords is)))) (λ at. same_index at (numbers scene is))
  load_one c k =
      ap₂ (λ o v. then_do o (λ p. then_do (option_map (held c) v) (λ v. put (at_cells scene c) (λ old. v) p))) place_a place_x
      ∙ ap (λ o. option_map (λ (z : Shape). at_cells scene (changed c (spot a (numbers scene is)) (λ old. stored_as z.cell (c seen.buffer q)))) o) there
      ∙ ap (λ d. Some (at_cells scene (changed c (spot a (numbers scene is)) (λ old. stored_as shape.cell (d q))))) (k seen.buffer other)
      ∙ ap (λ v. Some (at_cells scene (changed c (spot a (numbers scene is)) (λ old. v)))) fits
      ∙ ap (λ d. Some (at_cells scene d)) (hit c)
