-- Two loops, one in the other, may change places where turns within the bounds commute.
use Rattle.std.specs.Prelude.{◌≡◌, ◌≤ℤ◌, ◌<ℤ◌, ◌==◌, ℕ, ℤ, true, false, List, []}
use Rattle.exo_tree.specs.Tree.{Binder, Index, Control, Block, Procedure, ConfigField}
use Rattle.exo_meaning.specs.Scene.{Scene, number}
use Rattle.exo_meaning.specs.State.{State}
use Rattle.exo_meaning.specs.Run.{World, run, step, kinds_of, unit_world}
use Rattle.exo_meaning.specs.Footprint.{IsTidy}
use Rattle.exo_meaning.specs.Orders.{Exchange, Crosses}
use Rattle.exo_meaning.specs.Nests.{both_turns, IsAt, nest}
use Rattle.exo_meaning.specs.Units.{Scope, ControlName, with_name, is_new, is_block, field_kind}
use Rattle.exo_meaning.specs.Units.{AreProcedures}
use Rattle.meaning_laws.specs.Sound.{IsSound}
use Rattle.meaning_laws.specs.Substitute.{is_plain, has_variable}
use Rattle.meaning_laws.specs.Sorted.{IsSorted}
use Rattle.meaning_laws.specs.Pairs.{LeavesFields, AreClear}
use Rattle.meaning_laws.specs.Touched.{unit_modes, pair_touched}

-- two turns of a loop, the first one before the second
abbrev pub IsBefore : Scene → Control → Control → ℤ → ℤ → Type 0
IsBefore scene lo hi m n = (m <ℤ n) × (number scene lo ≤ℤ m) × (n <ℤ number scene hi)

-- a bound of one loop that does not depend on the variable of the other
abbrev pub IsApart : ℕ → Control → Type 0
IsApart x a = (is_plain a ≡ true) × (has_variable a x ≡ false)

abbrev pub BoundsAreApart : Binder → Control → Control → Binder → Control → Control → Type 0
BoundsAreApart i lo hi j c d =
    IsApart j.id lo × (IsApart j.id hi × (IsApart i.id c × IsApart i.id d))

-- any body that writes no field
abbrev pub NestsWithinBounds : Type 0
NestsWithinBounds =
    (world : World) (i j : Binder) (lo hi c d : Control) (b : Block) (s : State)
    → (i.id == j.id) ≡ false
    → IsTidy s
    → BoundsAreApart i lo hi j c d
    → LeavesFields world b
    → ((x y : ℤ × ℤ)
    → Crosses (IsBefore s.scene lo hi) (IsBefore s.scene c d) x y
    → Exchange (IsAt s) (both_turns i.id j.id (run world b)) x y)
    → step world (nest i lo hi j c d b) s ≡ step world (nest j c d i lo hi b) s

-- in a well-formed unit, where what such turns touch does not clash, calls included
abbrev pub NestsFromFootprints : Type 0
NestsFromFootprints =
    (fields : List ConfigField) (memories : ℕ) (ps : List Procedure) (scope : Scope) (root : ℕ → ℕ)
    (i j : Binder) (lo hi c d : Control) (b : Block) (s : State)
    → AreProcedures fields memories [] ps
    → let world = unit_world (kinds_of fields) ps in
    let modes = unit_modes (kinds_of fields) ps in
    IsSound s
    → IsSorted (kinds_of fields) scope s
    → is_new scope i ≡ true
    → is_new (with_name scope i (ControlName Index)) j ≡ true
    → is_block (field_kind fields) memories world.callees
    (with_name (with_name scope i (ControlName Index)) j (ControlName Index)) root b
    ≡ true
    → BoundsAreApart i lo hi j c d
    → LeavesFields world b
    → ((t : State) (x y : ℤ × ℤ)
    → t.scene ≡ s.scene
    → Crosses (IsBefore s.scene lo hi) (IsBefore s.scene c d) x y
    → AreClear t.scene (pair_touched world modes i j b x t) (pair_touched world modes i j b y t))
    → step world (nest i lo hi j c d b) s ≡ step world (nest j c d i lo hi b) s
