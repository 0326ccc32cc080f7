-- What is known of a staged block without statements: what does not depend on the block.
use Rattle.std.proofs.Common.{◌≡◌, ◌==◌, ℕ, false, true, List, Some, refl, ap, eq-eqb, ◌∙◌}
use Rattle.exo_tree.specs.Tree.{Cell, Binder, Control, Coord, Statement, Alloc, Block, end, next}
use Rattle.exo_tree.specs.Context.{Context, Here, After, InLoop, InThen, InElse, fill}
use Rattle.exo_meaning.specs.Scene.{Scene, then_do, numbers}
use Rattle.exo_meaning.specs.State.{State}
use Rattle.exo_meaning.specs.Run.{World, run}
use Rattle.exo_meaning.specs.Unseen.{in_coords as coords_mention}
use Rattle.exo_meaning.proofs.Compose.{compose}
use Rattle.inplace_laws.specs.Filled.{Loop}
use Rattle.inplace_laws.specs.Windows.{are_plain}
use Rattle.buffer_laws.specs.Staging.Stores.{spans, load_nest}
use Rattle.buffer_laws.specs.Staging.Known.{AreOver, AreMade, IsKnown}
use Rattle.buffer_laws.specs.Staging.Readers.{IsLoaded}
use Rattle.buffer_laws.proofs.OfStaging.Known.{known_reader_law}

no_statement : (c : Context) (d : Statement) → end ≡ fill c (next d end) → ⊥
no_statement (Here rest) d e = cc
no_statement (After a c) d e = cc
no_statement (InLoop i lo hi c rest) d e = cc
no_statement (InThen t c other rest) d e = cc
no_statement (InElse t other c rest) d e = cc

pub known_of_nothing : (world : World) (root : ℕ → ℕ) (a : Binder) (cell : Cell) (x : ℕ)
    (coords : List Coord) (b : Block) (s : State) → IsKnown world root a cell x coords b s
    → IsKnown world root a cell x coords end s
known_of_nothing world root a cell x coords b s known = record {
  sound = known.sound;
  cells = known.cells;
  unbound = known.unbound;
  roots = known.roots;
  own_roots = known.own_roots;
  cell_is = known.cell_is;
  fit = λ c d u is come. absurd (no_statement c d is);
}

module _ (root : ℕ → ℕ) (a : Binder) (dims : List Control) (x : ℕ) (coords : List Coord)
    (spots : coords_mention (λ y. y == a.id) coords ≡ false) (other : (x == a.id) ≡ false)
    (plain : are_plain coords ≡ true)
    (sizes : (scene : Scene) → numbers scene dims ≡ numbers scene (spans coords)) where
  pub made_of_nothing : (ls ks : List Loop) → AreOver ls coords → AreOver ks coords
      → AreMade (λ y. y == a.id) root a dims x coords ls ks end
  made_of_nothing ls ks loads stores = record {
    new = record { block = refl; spots = spots };
    other = other;
    plain = plain;
    sizes = sizes;
    loads = loads;
    stores = stores;
    blinds = eq-eqb a.id a.id refl;
    names = refl;
    not_made = refl;
    own = refl;
    name = refl;
    root_name = refl;
    variables = λ y e. refl;
  }

  -- the load nest shows what it finds
  pub loaded_of_nothing : (world : World) (cell : Cell) (memory : ℕ) (ls : List Loop)
      (s t : State) → AreOver ls coords → IsKnown world root a cell x coords end s
      → run world (next (Alloc a cell dims memory) (load_nest a.id x coords ls)) s ≡ Some t
      → IsLoaded (λ y. y == a.id) world root a cell dims x coords ls end s
  loaded_of_nothing world cell memory ls s t over known e =
      known_reader_law (λ y. y == a.id) world root a cell dims memory x coords ls end s t
      (made_of_nothing ls ls over over) known
      (compose world (next (Alloc a cell dims memory) (load_nest a.id x coords ls)) end s
      ∙ ap (λ o. then_do o (run world end)) e)
