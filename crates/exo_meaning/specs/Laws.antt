-- The laws of runs, each the contract of a function in `laws`.
use Rattle.std.specs.Prelude.{ℕ, ℤ, ◌≡◌, true, false, List, [], Option, Some, IsSome, IfSome}
use Rattle.exo_tree.specs.Tree.{Kind, Argument, Block, joined, Procedure, Control, Assign, Reduce}
use Rattle.exo_tree.specs.Tree.{Statement, Const, end, next}
use Rattle.exo_meaning.specs.Scene.{then_do, Seen, Scene, are_apart, AreApart}
use Rattle.exo_meaning.specs.State.{State, Place, place, is_there, on_scene, with_control}
use Rattle.exo_meaning.specs.Run.{World, run, world_of, unit_world, writes, turn}
use Rattle.exo_meaning.specs.Footprint.{Entry, footprint, IsTidy, IsClear}
use Rattle.exo_meaning.specs.Orders.{Each, HasScene}
use Rattle.exo_meaning.specs.Refines.{StateRefined, SameScene, Respects}

-- a less defined state gives a less defined one, and faults where the other does
abbrev pub RunsAreMonotone : Type 0
RunsAreMonotone =
    (kinds : ℕ → Kind) (ps : List Procedure) (b : Block)
    → Respects StateRefined (run (unit_world kinds ps) b)

-- whether a run faults, and the names and fields after it, do not depend on the cells
abbrev pub DataIsApart : Type 0
DataIsApart =
    (kinds : ℕ → Kind) (ps : List Procedure) (b : Block)
    → Respects SameScene (run (unit_world kinds ps) b)

abbrev pub RunsCompose : Type 0
RunsCompose =
    (world : World) (a b : Block) (s : State)
    → run world (joined a b) s ≡ then_do (run world a s) (run world b)

-- one statement and then another
abbrev pub both_in_order : World → Statement → Statement → State → Option State
both_in_order world a b s = run world (next a (next b end)) s

-- stores of numbers in different cells
abbrev pub StoresCommute : Type 0
StoresCommute =
    (world : World) (x y : ℕ) (is js : List Control) (m n : ℤ) (s : State) (p q : Place)
    → place s.scene x is ≡ Some p
    → place s.scene y js ≡ Some q
    → is_there p q.buffer q.at ≡ false
    → both_in_order world (Assign x is (Const m)) (Assign y js (Const n)) s
    ≡ both_in_order world (Assign y js (Const n)) (Assign x is (Const m)) s

-- reductions, also into one cell
abbrev pub ReductionsCommute : Type 0
ReductionsCommute =
    (world : World) (x y : ℕ) (is js : List Control) (m n : ℤ) (s : State)
    → both_in_order world (Reduce x is (Const m)) (Reduce y js (Const n)) s
    ≡ both_in_order world (Reduce y js (Const n)) (Reduce x is (Const m)) s

-- the test on windows of one call finds exactly those that have no common cell
abbrev pub WindowsAreTested : Type 0
WindowsAreTested =
    (a b : Seen) → (are_apart a b ≡ true → AreApart a b) × (AreApart a b → are_apart a b ≡ true)

-- each name stands for a part of the buffer that is its root
abbrev pub HasRoots : (ℕ → ℕ) → Scene → Type 0
HasRoots root scene = (x : ℕ) (seen : Seen) → scene.views x ≡ Some seen → seen.buffer ≡ root x

-- buffer y is there with the same shape, and all its cells hold the same
pub record IsKept (y : ℕ) (s t : State) : Type 0 where
  pub shape : t.scene.buffers y ≡ s.scene.buffers y
  pub cells : t.cells y ≡ s.cells y

-- a buffer that a block does not write, reduce or make is left as it was
abbrev pub OthersAreKept : Type 0
OthersAreKept =
    (world : World) (root : ℕ → ℕ) (b : Block) (y : ℕ) (s : State)
    → HasRoots root s.scene
    → IsSome (s.scene.buffers y)
    → writes world root b y ≡ false
    → IfSome (run world b s) (IsKept y s)

-- no procedure can be called
abbrev pub without_calls : (ℕ → Kind) → World
without_calls kinds = world_of kinds []

abbrev pub no_entries : ℕ → List Argument → State → List Entry
no_entries k args s = []

-- what the turn of a loop over i at number n touches
abbrev pub turn_touches : World → ℕ → Block → ℤ → State → List Entry
turn_touches world i b n s = footprint world no_entries b (on_scene (with_control i n) s)

-- turns that write no field commute where no entry of the one clashes with one of the other
abbrev pub TurnsCommute : Type 0
TurnsCommute =
    (kinds : ℕ → Kind) (i j : ℕ) (a b : Block) (m n : ℤ) (s : State)
    → IsTidy s
    → let world = without_calls kinds in
    IfSome (turn i (run world a) m s) (HasScene s.scene)
    → IfSome (turn j (run world b) n s) (HasScene s.scene)
    → Each (IsClear s.scene (turn_touches world j b n s)) (turn_touches world i a m s)
    → Each (IsClear s.scene (turn_touches world i a m s)) (turn_touches world j b n s)
    → then_do (turn i (run world a) m s) (turn j (run world b) n)
    ≡ then_do (turn j (run world b) n s) (turn i (run world a) m)
