-- A block whose accesses lie within a window does the same through a view of the window.
use Rattle.std.specs.Prelude.{◌≡◌, ℕ, true, List, [], ◌∷◌, option_map, ⊤}
use Rattle.exo_tree.specs.Tree.{Control, Condition, Coord, Statement, Block, end, next}
use Rattle.exo_tree.specs.Context.{Context, fill}
use Rattle.exo_meaning.specs.Scene.{Seen, Scene, holds}
use Rattle.exo_meaning.specs.State.{State, on_scene, with_view}
use Rattle.exo_meaning.specs.Run.{World, run}
use Rattle.meaning_laws.specs.Context.{ComesTo}
use Rattle.buffer_laws.specs.Staging.Converted.{converted}
use Rattle.buffer_laws.specs.Staging.Whole.{MayConvert}
use Rattle.buffer_laws.specs.StageMem.{asked_of_statement}

abbrev pub AllHold : Scene → List Condition → Type 0
AllHold scene [] = ⊤
AllHold scene (c ∷ cs) = (holds scene c ≡ true) × AllHold scene cs

-- wherever a run of the block comes to a statement, what is asked of its accesses of x holds
abbrev pub LiesWithin : World → ℕ → List Control → List Coord → Block → State → Type 0
LiesWithin world x dims coords b s =
    (c : Context) (d : Statement) (u : State)
    → b ≡ fill c (next d end)
    → ComesTo world (next d end) c s u
    → AllHold u.scene (asked_of_statement x dims coords d)

-- then the converted block does with a as a view of the window what the block does, faults included
abbrev pub OnViewLaw : Type 0
OnViewLaw =
    (world : World) (a x : ℕ) (seen : Seen) (dims : List Control) (coords : List Coord) (b : Block)
    (s : State)
    → MayConvert world a x seen coords b s
    → LiesWithin world x dims coords b s
    → run world (converted a x coords b) (on_scene (with_view a seen) s)
    ≡ option_map (on_scene (with_view a seen)) (run world b s)
