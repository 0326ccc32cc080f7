-- The table of extents tells what each buffer's name sees, wherever a run comes to.
use Rattle.std.specs.Prelude.{◌≡◌, ℕ, Bool, false, List, [], length, Option, Some}
use Rattle.exo_tree.specs.Tree.{Kind, Cell, Control, Block, Procedure}
use Rattle.exo_tree.specs.Context.{Context, fill}
use Rattle.exo_meaning.specs.Calls.{Callee}
use Rattle.exo_meaning.specs.Scene.{Scene, Seen, numbers, extents}
use Rattle.exo_meaning.specs.State.{State}
use Rattle.exo_meaning.specs.Run.{World}
use Rattle.exo_meaning.specs.Inputs.{IsAdmissible}
use Rattle.exo_meaning.specs.Units.{BufferName, sort_in, scope_of, IsProcedure}
use Rattle.meaning_laws.specs.Context.{ComesTo}
use Rattle.meaning_laws.specs.Scoped.{has_binder}
use Rattle.meaning_laws.specs.Sorted.{scope_at}
use Rattle.check_claims.specs.Extents.{extents_of}

-- the name is there, and has these dimensions
pub record HasSizes (x : ℕ) (dims : List Control) (rank : ℕ) (scene : Scene) : Type 0 where
  pub seen : Seen
  pub there : scene.views x ≡ Some seen
  pub sizes : numbers scene dims ≡ extents seen.sides
  pub long : length dims ≡ rank

-- a buffer's name in scope at a place
abbrev pub SizesAtPlace : Type 0
SizesAtPlace =
    (fields : ℕ → Option Kind) (memories : ℕ) (callees : ℕ → Option Callee) (world : World)
    (p : Procedure) (c : Context) (old : Block) (s u : State) (x : ℕ) (cell : Cell) (rank : ℕ)
    (dense : Bool)
    → IsProcedure fields memories callees p
    → p.body ≡ fill c old
    → IsAdmissible world p s
    → ComesTo world old c s u
    → sort_in (scope_at c (scope_of [] p.params)) x ≡ Some (BufferName cell rank dense)
    → HasSizes x (extents_of p x) rank u.scene

-- and within a block that does not bind it, where it is in scope before the block
abbrev pub SizesWithin : Type 0
SizesWithin =
    (fields : ℕ → Option Kind) (memories : ℕ) (callees : ℕ → Option Callee) (world : World)
    (p : Procedure) (c d : Context) (b old : Block) (s u v : State) (x : ℕ) (cell : Cell)
    (rank : ℕ) (dense : Bool)
    → IsProcedure fields memories callees p
    → p.body ≡ fill c b
    → b ≡ fill d old
    → has_binder b x ≡ false
    → IsAdmissible world p s
    → ComesTo world b c s u
    → ComesTo world old d u v
    → sort_in (scope_at c (scope_of [] p.params)) x ≡ Some (BufferName cell rank dense)
    → HasSizes x (extents_of p x) rank v.scene
