-- Two turns of a nest of two loops commute where their footprints do not clash.
use Rattle.std.specs.Prelude.{◌≡◌, ℕ, ℤ, List, Some}
use Rattle.exo_tree.specs.Tree.{Kind, Block}
use Rattle.exo_meaning.specs.Scene.{Scene}
use Rattle.exo_meaning.specs.State.{State, on_scene, with_control}
use Rattle.exo_meaning.specs.Run.{World, run}
use Rattle.exo_meaning.specs.Laws.{without_calls, no_entries}
use Rattle.exo_meaning.specs.Footprint.{Entry, footprint, IsClear}
use Rattle.exo_meaning.specs.Orders.{Exchange, Each}
use Rattle.exo_meaning.specs.Nests.{both_turns, IsAt}

abbrev pub LeavesFields : World → Block → Type 0
LeavesFields world b = (s t : State) → run world b s ≡ Some t → t.scene.fields ≡ s.scene.fields

-- what the turn of both loops touches
abbrev pub pair_touches : World → ℕ → ℕ → Block → ℤ × ℤ → State → List Entry
pair_touches world i j b x s =
    footprint world no_entries b (on_scene (with_control j x.1) (on_scene (with_control i x.0) s))

-- no access of the one clashes with one of the other
abbrev pub AreClear : Scene → List Entry → List Entry → Type 0
AreClear scene xs ys = Each (IsClear scene ys) xs × Each (IsClear scene xs) ys

-- two turns of both loops commute where their footprints do not clash
abbrev pub PairsCommute : Type 0
PairsCommute =
    (kinds : ℕ → Kind) (i j : ℕ) (b : Block) (u : State) (x y : ℤ × ℤ)
    → let world = without_calls kinds in
    LeavesFields world b
    → ((s : State)
    → IsAt u s
    → AreClear s.scene (pair_touches world i j b x s) (pair_touches world i j b y s))
    → Exchange (IsAt u) (both_turns i j (run world b)) x y
