-- Loops over the spans of a window, and windows that are there because such loops do not fault.
use Rattle.std.specs.Prelude.{◌≡◌, ℕ, true, false, List, [], ◌∷◌, Some, IsSome}
use Rattle.exo_tree.specs.Tree.{Control, Coord, Statement}
use Rattle.exo_meaning.specs.Scene.{Seen, Scene, numbers, window}
use Rattle.exo_meaning.specs.State.{State, place}
use Rattle.exo_meaning.specs.Calls.{all_positive}
use Rattle.exo_meaning.specs.Run.{World, run, step}
use Rattle.inplace_laws.specs.Filled.{Loop, nest}
use Rattle.inplace_laws.specs.Windows.{shifted, coords_have}
use Rattle.buffer_laws.specs.Staging.Stores.{variables, is_variable, AreDistinct, AtAny, RunOver}
use Rattle.buffer_laws.specs.Staging.Stores.{spans}

-- ---- loops over the spans

abbrev pub extents_of : List Loop → List Control
extents_of [] = []
extents_of (l ∷ ls) = l.extent ∷ extents_of ls

-- no coordinate has a variable of the loops, and their extents have the numbers of the spans
pub record AreOverSpans (ls : List Loop) (coords : List Coord) (scene : Scene) : Type 0 where
  pub apart : (y : ℕ) → coords_have coords y ≡ true → is_variable y ls ≡ false
  pub equal : AtAny ls (λ z. numbers z (extents_of ls) ≡ numbers z (spans coords)) scene

-- they run over the spans' numbers, and see the same window at all turns
abbrev pub SpansLaw : Type 0
SpansLaw =
    (x : ℕ) (coords : List Coord) (ls : List Loop) (scene : Scene)
    → AreOverSpans ls coords scene
    → RunOver ls (numbers scene (spans coords)) scene
    × ((seen : Seen)
    → window scene x coords ≡ Some seen
    → AtAny ls (λ z. window z x coords ≡ Some seen) scene)

-- ---- windows that are there

-- where the statement does not fault, x has a cell at these indices, and only cells are changed
abbrev pub Uses : World → ℕ → List Control → Statement → Type 0
Uses world x is a =
    (u v : State) → step world a u ≡ Some v → (v.scene ≡ u.scene) × IsSome (place u.scene x is)

-- where a nest over the spans uses x at the window's coordinates and does not fault,
-- the window is there
abbrev pub InsideLaw : Type 0
InsideLaw =
    (world : World) (x : ℕ) (coords : List Coord) (ls : List Loop) (a : Statement) (s t : State)
    → AreDistinct ls
    → AreOverSpans ls coords s.scene
    → all_positive (numbers s.scene (spans coords)) ≡ true
    → Uses world x (shifted coords (variables ls)) a
    → run world (nest ls a) s ≡ Some t
    → IsSome (window s.scene x coords)
