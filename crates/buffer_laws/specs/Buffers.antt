-- Allocations: another memory for one, and one that is not used taken away.
use Rattle.std.specs.Prelude.{◌≡◌, ◌==◌, ℕ, Bool, false, List, [], Option, Some, None}
use Rattle.exo_tree.specs.Tree.{Binder, Cell, Kind, Control, Statement}
use Rattle.exo_tree.specs.Tree.{Alloc, Call, Block, end, next, Procedure}
use Rattle.exo_tree.specs.Context.{Context, fill, rest_of}
use Rattle.exo_meaning.specs.Run.{World, unit_world}
use Rattle.exo_meaning.specs.Calls.{Callee}
use Rattle.exo_meaning.specs.Inputs.{Refines}
use Rattle.exo_meaning.specs.Units.{IsProcedure}
use Rattle.exo_meaning.specs.Unseen.{in_block as mentions}

-- what is allocated
pub record Buffer : Type 0 where
  pub binder : Binder
  pub cell : Cell
  pub dims : List Control
  pub memory : ℕ

abbrev pub allocation : Buffer → Statement
allocation x = Alloc x.binder x.cell x.dims x.memory

abbrev pub only_buffer : Buffer → Block
only_buffer x = next (allocation x) end

abbrev pub is_buffer : Buffer → ℕ → Bool
is_buffer x y = y == x.binder.id

-- the shape of both steps: the statement is an allocation
abbrev pub buffer_of : Statement → Option Buffer
buffer_of (Alloc x cell dims memory) =
    Some (record { binder = x; cell = cell; dims = dims; memory = memory })
buffer_of _ = None

-- ---- another memory

abbrev pub in_memory : ℕ → Buffer → Buffer
in_memory m x = record x { memory = m }

-- a run does not see it
abbrev pub MemoryLaw : Type 0
MemoryLaw =
    (world : World) (p : Procedure) (c : Context) (x : Buffer) (m : ℕ)
    → p.body ≡ fill c (only_buffer x)
    → Refines world p (record p { body = fill c (only_buffer (in_memory m x)) }) []

-- ---- an allocation taken away

-- it is still used where what follows it in its block mentions it
abbrev pub is_still_used : Buffer → Context → Bool
is_still_used x c = mentions (is_buffer x) (rest_of c)

abbrev pub DeleteLaw : Type 0
DeleteLaw =
    (fields : ℕ → Option Kind) (memories : ℕ) (callees : ℕ → Option Callee) (kinds : ℕ → Kind)
    (ps : List Procedure) (p : Procedure) (c : Context) (x : Buffer)
    → IsProcedure fields memories callees p
    → p.body ≡ fill c (only_buffer x)
    → is_still_used x c ≡ false
    → Refines (unit_world kinds ps) p (record p { body = fill c end }) []
