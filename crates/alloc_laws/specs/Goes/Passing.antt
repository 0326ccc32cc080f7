-- From tests on the trees of a step to what a staged block has to know of them.
use Rattle.std.specs.Prelude.{◌≡◌, ◌==◌, ◌||◌, nat_lt, Option, ℕ, Bool, true, false, List}
use Rattle.exo_tree.specs.Tree.{Kind, Control, Coord, Block, Binder, Cell, Procedure}
use Rattle.exo_meaning.specs.Calls.{Callee}
use Rattle.exo_meaning.specs.Scene.{updated}
use Rattle.exo_meaning.specs.Modes.{Writing, Reducing, has_mode, unit_modes}
use Rattle.exo_meaning.specs.Run.{writes, unit_world}
use Rattle.exo_meaning.specs.Unseen.{in_block as mentions, in_coords as coords_mention}
use Rattle.meaning_laws.specs.Scoped.{has_binder}
use Rattle.inplace_laws.specs.Windows.{are_plain, coords_have}
use Rattle.buffer_laws.specs.Staging.Alone.{has_root}
use Rattle.buffer_laws.specs.Staging.Converted.{converted}
use Rattle.buffer_laws.specs.Simplified.{IsSimplifier}
use Rattle.buffer_laws.specs.StageMem.{Staging, sizes, loads, stores, is_aliased}
use Rattle.buffer_laws.specs.Stride.Passed.{ArePassed}
use Rattle.buffer_laws.specs.Stride.Strides.{is_stride_used}

-- base is new, and so are all ids from it on; each name that the block binds is new in it
pub record MayBePassed (called : ℕ → Option Callee) (sees : ℕ → ℕ → Bool) (root : ℕ → ℕ)
    (base x : ℕ) (coords : List Coord) (b : Block) : Type 0 where
  pub below : (y : ℕ) → coords_have coords y ≡ true → nat_lt y base ≡ true
  pub block : mentions (λ y. y == base) b ≡ false
  pub spots : coords_mention (λ y. y == base) coords ≡ false
  pub other : (x == base) ≡ false
  pub roots : (y : ℕ) → (y == base) ≡ false → (base == root y) ≡ false
  pub plain : are_plain coords ≡ true
  -- the window's coordinates use no name of the buffer of x, and the converted block not x
  pub points : coords_mention (has_root (updated root base base) (root x)) coords ≡ false
  pub left : mentions (λ y. y == x) (converted base x coords b) ≡ false
  pub bound : (y : ℕ) → has_binder b y ≡ true → (root x == root y) ≡ false
  pub aliased : is_aliased root x b ≡ false
  pub strides : is_stride_used called sees root x b ≡ false
  pub own : has_binder b base ≡ false
  pub name : has_binder b x ≡ false
  pub root_name : has_binder b (root x) ≡ false
  pub variables : (y : ℕ) → coords_have coords y ≡ true → has_binder b y ≡ false

-- both with a second nest and without
abbrev pub PassedByTests : Type 0
PassedByTests =
    (called : ℕ → Option Callee) (sees : ℕ → ℕ → Bool) (root : ℕ → ℕ)
    (simple : Control → Control) (w : Staging) (cell : Cell) (memory base : ℕ) (b : Block)
    → let a : Binder = record { id = base; name = w.name } in
    let ls = loads simple w cell memory base in
    IsSimplifier simple
    → MayBePassed called sees root base w.root w.coords b
    → ArePassed called sees root a (sizes simple w cell memory base) w.root w.coords ls
    (stores simple w cell memory base) b
    × ArePassed called sees root a (sizes simple w cell memory base) w.root w.coords ls ls b

-- where the block touches the buffer of x neither by a write nor by a sum, calls included, it
-- writes nothing there, and the converted block nothing of the new buffer
abbrev pub SilentByModes : Type 0
SilentByModes =
    (kinds : ℕ → Kind) (ps : List Procedure) (root : ℕ → ℕ) (base x : ℕ) (coords : List Coord)
    (b : Block)
    → let world = unit_world kinds ps in
    let modes = unit_modes kinds ps in
    mentions (λ y. y == base) b ≡ false
    → has_binder b x ≡ false
    → ((y : ℕ) → (y == base) ≡ false → (base == root y) ≡ false)
    → (has_mode world.callees modes Writing root b (root x)
    || has_mode world.callees modes Reducing root b (root x)) ≡ false
    → (writes world root b (root x) ≡ false)
    × (writes world (updated root base base) (converted base x coords b) base ≡ false)
