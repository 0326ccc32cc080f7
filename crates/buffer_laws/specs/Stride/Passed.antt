-- A staged block that may pass its buffer to procedures that do not look at its strides, in the
-- place of the block.
use Rattle.std.specs.Prelude.{◌≡◌, ◌==◌, ℕ, Bool, true, false, List, [], Option}
use Rattle.exo_tree.specs.Tree.{Cell, Binder, Control, Coord, Block, ConfigField, Procedure}
use Rattle.exo_meaning.specs.Scene.{Scene, numbers, updated}
use Rattle.exo_meaning.specs.State.{State}
use Rattle.exo_meaning.specs.Calls.{Callee}
use Rattle.exo_meaning.specs.Run.{World, writes, kinds_of, unit_world}
use Rattle.exo_meaning.specs.Units.{Scope, is_block, field_kind, AreProcedures}
use Rattle.exo_meaning.specs.Unseen.{in_block as mentions}
use Rattle.meaning_laws.specs.Context.{MayReplace}
use Rattle.meaning_laws.specs.Scoped.{has_binder}
use Rattle.meaning_laws.specs.Sorted.{IsSorted}
use Rattle.inplace_laws.specs.Filled.{Loop}
use Rattle.inplace_laws.specs.Windows.{are_plain, coords_have}
use Rattle.buffer_laws.specs.Staging.Stores.{spans}
use Rattle.buffer_laws.specs.Staging.Alone.{has_root}
use Rattle.buffer_laws.specs.Staging.Converted.{converted, IsNewName}
use Rattle.buffer_laws.specs.Staging.Replaced.{Hides, between}
use Rattle.buffer_laws.specs.Staging.Known.{AreOver, IsKnown, FitsBehind, up_to_store}
use Rattle.buffer_laws.specs.StageAccum.{OnlyAdds}
use Rattle.buffer_laws.specs.Sums.{between_sums}
use Rattle.buffer_laws.specs.Stride.OnView.{LiesWithin}
use Rattle.buffer_laws.specs.Stride.Strides.{CallsAreBlind, uses_strides}

-- tests on the trees of the step: the converted block uses no name of the window's buffer, and no
-- stride of a, in calls neither
pub record ArePassed (called : ℕ → Option Callee) (sees : ℕ → ℕ → Bool) (root : ℕ → ℕ)
    (a : Binder) (dims : List Control) (x : ℕ) (coords : List Coord) (ls ks : List Loop)
    (b : Block) : Type 0 where
  pub new : IsNewName a.id coords b
  pub other : (x == a.id) ≡ false
  pub plain : are_plain coords ≡ true
  pub sizes : (scene : Scene) → numbers scene dims ≡ numbers scene (spans coords)
  pub loads : AreOver ls coords
  pub stores : AreOver ks coords
  pub names : mentions (has_root (updated root a.id a.id) (root x)) (converted a.id x coords b)
      ≡ false
  pub strides : uses_strides called sees (updated root a.id a.id) (converted a.id x coords b) a.id
      ≡ false
  pub own : has_binder (converted a.id x coords b) a.id ≡ false
  pub name : has_binder (converted a.id x coords b) x ≡ false
  pub root_name : has_binder (converted a.id x coords b) (root x) ≡ false
  pub variables : (y : ℕ) → coords_have coords y ≡ true
      → has_binder (converted a.id x coords b) y ≡ false

-- then the converted block between the nests may stand for the block, where the accesses of x lie
-- within the window
abbrev pub PassedReplaces : Type 0
PassedReplaces =
    (hidden : ℕ → Bool) (world : World) (sees : ℕ → ℕ → Bool) (root : ℕ → ℕ) (a : Binder)
    (cell : Cell) (dims sides : List Control) (memory x : ℕ) (coords : List Coord)
    (ls ks : List Loop) (b : Block) (s : State)
    → let new = between a cell dims memory x coords ls ks (converted a.id x coords b) in
    CallsAreBlind world sees
    → ArePassed world.callees sees root a dims x coords ls ks b
    → Hides hidden b new s
    → IsKnown world root a cell x coords b s
    → LiesWithin world x sides coords b s
    → FitsBehind world a x coords b s
    → MayReplace world hidden b new s

-- behind the load nest alone, where it does not write a
abbrev pub PassedReaderReplaces : Type 0
PassedReaderReplaces =
    (hidden : ℕ → Bool) (world : World) (sees : ℕ → ℕ → Bool) (root : ℕ → ℕ) (a : Binder)
    (cell : Cell) (dims sides : List Control) (memory x : ℕ) (coords : List Coord)
    (ls : List Loop) (b : Block) (s : State)
    → let new = up_to_store a cell dims memory x coords ls b in
    CallsAreBlind world sees
    → ArePassed world.callees sees root a dims x coords ls ls b
    → writes world (updated root a.id a.id) (converted a.id x coords b) a.id ≡ false
    → Hides hidden b new s
    → IsKnown world root a cell x coords b s
    → LiesWithin world x sides coords b s
    → MayReplace world hidden b new s

-- and from 0, where the block only adds
abbrev pub PassedSumsReplace : Type 0
PassedSumsReplace =
    (fields : List ConfigField) (memories : ℕ) (ps : List Procedure) (scope : Scope)
    (hidden : ℕ → Bool) (sees : ℕ → ℕ → Bool) (root : ℕ → ℕ) (a : Binder) (cell : Cell)
    (dims sides : List Control) (memory x : ℕ) (coords : List Coord) (ls ks : List Loop)
    (b : Block) (s : State)
    → let world = unit_world (kinds_of fields) ps in
    let new = between_sums a cell dims memory x coords ls ks (converted a.id x coords b) in
    CallsAreBlind world sees
    → ArePassed world.callees sees root a dims x coords ls ks b
    → Hides hidden b new s
    → IsKnown world root a cell x coords b s
    → LiesWithin world x sides coords b s
    → OnlyAdds fields memories ps scope root x b s
    → MayReplace world hidden b new s

-- where the blocks that are made keep the rules, the cells behind the block fit
abbrev pub FitsBehindPassed : Type 0
FitsBehindPassed =
    (fields : List ConfigField) (memories : ℕ) (ps : List Procedure) (scope : Scope)
    (sees : ℕ → ℕ → Bool) (rules root : ℕ → ℕ) (a : Binder) (cell : Cell) (dims : List Control)
    (memory x : ℕ) (coords : List Coord) (ls ks : List Loop) (b : Block) (s : State)
    → let world = unit_world (kinds_of fields) ps in
    AreProcedures fields memories [] ps
    → ArePassed world.callees sees root a dims x coords ls ks b
    → IsKnown world root a cell x coords b s
    → IsSorted (kinds_of fields) scope s
    → is_block (field_kind fields) memories world.callees scope rules
    (up_to_store a cell dims memory x coords ls b) ≡ true
    → FitsBehind world a x coords b s
