-- A staged block that only reads, in the place of the block.
use Rattle.std.specs.Prelude.{◌≡◌, ◌==◌, ℕ, Bool, false, List, [], Some}
use Rattle.exo_tree.specs.Tree.{Kind, Cell, Binder, Control, Coord, Block, Procedure}
use Rattle.exo_tree.specs.Context.{Context, fill, rest_of}
use Rattle.exo_meaning.specs.Scene.{Shape, Seen, numbers, extents, updated}
use Rattle.exo_meaning.specs.State.{State}
use Rattle.exo_meaning.specs.Run.{World, run, writes, unit_world}
use Rattle.exo_meaning.specs.Inputs.{IsAdmissible, Refines}
use Rattle.exo_meaning.specs.Unseen.{in_block as mentions}
use Rattle.meaning_laws.specs.Context.{ComesTo, MayReplace}
use Rattle.meaning_laws.specs.Scoped.{has_binder}
use Rattle.inplace_laws.specs.Filled.{Loop}
use Rattle.buffer_laws.specs.Staging.Stores.{IsStaging, FitInto, emptied}
use Rattle.buffer_laws.specs.Staging.Alone.{IsAlone}
use Rattle.buffer_laws.specs.Staging.Converted.{converted}
use Rattle.buffer_laws.specs.Staging.Whole.{MayConvert}
use Rattle.buffer_laws.specs.Staging.Replaced.{Hides}
use Rattle.buffer_laws.specs.Staging.Known.{AreMade, IsKnown, up_to_store}

-- what is known in a state in which a block is staged that only reads
pub record IsLoaded (blind : ℕ → Bool) (world : World) (root : ℕ → ℕ) (a : Binder) (cell : Cell)
    (dims : List Control) (x : ℕ) (coords : List Coord) (ls : List Loop) (b : Block)
    (s : State) : Type 0 where
  pub seen : Seen
  pub to : Shape
  pub cell_is : to.cell ≡ cell
  pub may : MayConvert world a.id x seen coords b s
  pub alone : IsAlone blind root a.id seen to (converted a.id x coords b) s
  pub sizes : numbers s.scene dims ≡ extents seen.sides
  pub before : IsStaging a.id x seen coords ls (emptied a.id to.cell (extents seen.sides) s)
  pub fit : FitInto s seen.buffer seen.buffer

-- so the converted block behind the load nest may stand for the block
abbrev pub ReaderReplaces : Type 0
ReaderReplaces =
    (hidden blind : ℕ → Bool) (world : World) (root : ℕ → ℕ) (a : Binder) (cell : Cell)
    (dims : List Control) (memory x : ℕ) (coords : List Coord) (ls : List Loop) (b : Block)
    (s : State)
    → let new = up_to_store a cell dims memory x coords ls b in
    writes world (updated root a.id a.id) (converted a.id x coords b) a.id ≡ false
    → Hides hidden b new s
    → ((u : State) → run world new s ≡ Some u →
    IsLoaded blind world root a cell dims x coords ls b s)
    → MayReplace world hidden b new s

-- tests on the trees and the types are enough; that the window is there, the load nest shows
abbrev pub KnownReaderLaw : Type 0
KnownReaderLaw =
    (blind : ℕ → Bool) (world : World) (root : ℕ → ℕ) (a : Binder) (cell : Cell)
    (dims : List Control) (memory x : ℕ) (coords : List Coord) (ls : List Loop) (b : Block)
    (s u : State)
    → AreMade blind root a dims x coords ls ls b
    → IsKnown world root a cell x coords b s
    → run world (up_to_store a cell dims memory x coords ls b) s ≡ Some u
    → IsLoaded blind world root a cell dims x coords ls b s

-- so the procedure with it refines the procedure
abbrev pub ReaderRefines : Type 0
ReaderRefines =
    (kinds : ℕ → Kind) (ps : List Procedure) (p : Procedure) (c : Context)
    (hidden blind : ℕ → Bool) (root : ℕ → ℕ) (a : Binder) (cell : Cell) (dims : List Control)
    (memory x : ℕ) (coords : List Coord) (ls : List Loop) (b : Block)
    → let world = unit_world kinds ps in
    let new = up_to_store a cell dims memory x coords ls b in
    p.body ≡ fill c b
    → mentions hidden (rest_of c) ≡ false
    → writes world (updated root a.id a.id) (converted a.id x coords b) a.id ≡ false
    → AreMade blind root a dims x coords ls ls b
    → ((s u : State)
    → IsAdmissible world p s
    → ComesTo world b c s u
    → Hides hidden b new u × IsKnown world root a cell x coords b u)
    → Refines world p (record p { body = fill c new }) []

-- where the block writes nothing of x's buffer, its converted form writes nothing of a
abbrev pub ReadsOnLaw : Type 0
ReadsOnLaw =
    (world : World) (root : ℕ → ℕ) (a x : ℕ) (coords : List Coord) (b : Block)
    → mentions (λ y. y == a) b ≡ false
    → has_binder b x ≡ false
    → ((y : ℕ) → (y == a) ≡ false → (a == root y) ≡ false)
    → writes world root b (root x) ≡ false
    → writes world (updated root a a) (converted a x coords b) a ≡ false
