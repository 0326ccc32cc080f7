-- What has to be known of a block at a place, so that it may be staged there.
use Rattle.std.specs.Prelude.{◌≡◌, ◌==◌, ℕ, Bool, true, false, List, [], Some}
use Rattle.exo_tree.specs.Tree.{Cell, Binder, Control, Coord, Alloc, Block, next, joined}
use Rattle.exo_tree.specs.Tree.{Procedure, ConfigField}
use Rattle.exo_meaning.specs.Scene.{Shape, Seen, Scene, numbers, updated, window}
use Rattle.exo_meaning.specs.State.{State}
use Rattle.exo_meaning.specs.Laws.{HasRoots}
use Rattle.exo_meaning.specs.Run.{World, run, kinds_of, unit_world}
use Rattle.exo_meaning.specs.Units.{Scope, is_block, field_kind, AreProcedures}
use Rattle.meaning_laws.specs.Scoped.{has_binder}
use Rattle.meaning_laws.specs.Sorted.{CellsFit, IsSorted}
use Rattle.meaning_laws.specs.Sound.{IsSound, IsUnbound}
use Rattle.inplace_laws.specs.Filled.{Loop}
use Rattle.inplace_laws.specs.InPlace.{makes}
use Rattle.inplace_laws.specs.Staged.{staged}
use Rattle.inplace_laws.specs.Uses.{in_block}
use Rattle.inplace_laws.specs.Windows.{are_plain, coords_have}
use Rattle.buffer_laws.specs.Staging.Stores.{is_variable, AreDistinct, spans, load_nest}
use Rattle.buffer_laws.specs.Staging.Inside.{extents_of}
use Rattle.buffer_laws.specs.Staging.Alone.{has_root, AreRoots}
use Rattle.buffer_laws.specs.Staging.Converted.{converted, FitsWithin, IsNewName}
use Rattle.buffer_laws.specs.Staging.Replaced.{between, IsStaged}

-- loops over the spans of a window, in any scene
pub record AreOver (ls : List Loop) (coords : List Coord) : Type 0 where
  pub distinct : AreDistinct ls
  pub apart : (y : ℕ) → coords_have coords y ≡ true → is_variable y ls ≡ false
  pub equal : (scene : Scene) → numbers scene (extents_of ls) ≡ numbers scene (spans coords)

-- tests on the trees of the step
pub record AreMade (blind : ℕ → Bool) (root : ℕ → ℕ) (a : Binder) (dims : List Control) (x : ℕ)
    (coords : List Coord) (ls ks : List Loop) (b : Block) : Type 0 where
  pub new : IsNewName a.id coords b
  pub other : (x == a.id) ≡ false
  pub plain : are_plain coords ≡ true
  pub sizes : (scene : Scene) → numbers scene dims ≡ numbers scene (spans coords)
  pub loads : AreOver ls coords
  pub stores : AreOver ks coords
  pub blinds : blind a.id ≡ true
  pub names : in_block (has_root (updated root a.id a.id) (root x)) blind
      (converted a.id x coords b) ≡ false
  pub not_made : makes (converted a.id x coords b) a.id ≡ false
  pub own : has_binder (converted a.id x coords b) a.id ≡ false
  pub name : has_binder (converted a.id x coords b) x ≡ false
  pub root_name : has_binder (converted a.id x coords b) (root x) ≡ false
  pub variables : (y : ℕ) → coords_have coords y ≡ true
      → has_binder (converted a.id x coords b) y ≡ false

-- what is known of a state there
pub record IsKnown (world : World) (root : ℕ → ℕ) (a : Binder) (cell : Cell) (x : ℕ)
    (coords : List Coord) (b : Block) (s : State) : Type 0 where
  pub sound : IsSound s
  pub cells : CellsFit s
  pub unbound : IsUnbound s a.id
  pub roots : HasRoots root s.scene
  pub own_roots : AreRoots root s
  pub cell_is : (z : Seen) (to : Shape) → s.scene.views x ≡ Some z
      → s.scene.buffers z.buffer ≡ Some to → to.cell ≡ cell
  pub fit : FitsWithin world x coords b s

-- the cells that the converted block leaves fit their types
abbrev pub FitsBehind : World → Binder → ℕ → List Coord → Block → State → Type 0
FitsBehind world a x coords b s =
    (z : Seen) (to : Shape) (t : State)
    → window s.scene x coords ≡ Some z
    → s.scene.buffers z.buffer ≡ Some to
    → run world (converted a.id x coords b) (staged a.id z to s) ≡ Some t
    → CellsFit t

-- then the staged block does the same; that the window is there, its load nest shows
abbrev pub KnownLaw : Type 0
KnownLaw =
    (blind : ℕ → Bool) (world : World) (root : ℕ → ℕ) (a : Binder) (cell : Cell)
    (dims : List Control) (memory x : ℕ) (coords : List Coord) (ls ks : List Loop) (b : Block)
    (s u : State)
    → AreMade blind root a dims x coords ls ks b
    → IsKnown world root a cell x coords b s
    → FitsBehind world a x coords b s
    → run world (between a cell dims memory x coords ls ks (converted a.id x coords b)) s ≡ Some u
    → IsStaged blind world root a cell dims x coords ls ks b s

-- up to the store nest
abbrev pub up_to_store : Binder → Cell → List Control → ℕ → ℕ → List Coord → List Loop → Block
    → Block
up_to_store a cell dims memory x coords ls b =
    joined (next (Alloc a cell dims memory) (load_nest a.id x coords ls))
    (converted a.id x coords b)

-- where the blocks that are made keep the rules, those cells fit
abbrev pub FitsBehindLaw : Type 0
FitsBehindLaw =
    (fields : List ConfigField) (memories : ℕ) (ps : List Procedure) (scope : Scope)
    (blind : ℕ → Bool) (rules root : ℕ → ℕ) (a : Binder) (cell : Cell) (dims : List Control)
    (memory x : ℕ) (coords : List Coord) (ls ks : List Loop) (b : Block) (s : State)
    → let world = unit_world (kinds_of fields) ps in
    AreProcedures fields memories [] ps
    → AreMade blind root a dims x coords ls ks b
    → IsKnown world root a cell x coords b s
    → IsSorted (kinds_of fields) scope s
    → is_block (field_kind fields) memories world.callees scope rules
    (up_to_store a cell dims memory x coords ls b) ≡ true
    → FitsBehind world a x coords b s
