-- A staged block in the place of the block.
use Rattle.std.specs.Prelude.{◌≡◌, ℕ, Bool, true, false, List, [], Some}
use Rattle.exo_tree.specs.Tree.{Kind, Cell, Binder, Control, Coord, Alloc, Block, next, joined}
use Rattle.exo_tree.specs.Tree.{Procedure}
use Rattle.exo_tree.specs.Context.{Context, fill, rest_of}
use Rattle.exo_meaning.specs.Scene.{Shape, Seen}
use Rattle.exo_meaning.specs.State.{State}
use Rattle.exo_meaning.specs.Run.{World, run, unit_world}
use Rattle.exo_meaning.specs.Inputs.{IsAdmissible, Refines}
use Rattle.exo_meaning.specs.Unseen.{in_block as mentions}
use Rattle.meaning_laws.specs.Context.{ComesTo, MayReplace}
use Rattle.inplace_laws.specs.Filled.{Loop}
use Rattle.place_laws.specs.Scope.Scopes.{HasNone, top_binders}
use Rattle.buffer_laws.specs.Staging.Stores.{load_nest, store_nest}
use Rattle.buffer_laws.specs.Staging.Alone.{IsAlone}
use Rattle.buffer_laws.specs.Staging.Stage.{AreAlike}
use Rattle.buffer_laws.specs.Staging.Behind.{MayGoRound}
use Rattle.buffer_laws.specs.Staging.Converted.{converted}
use Rattle.buffer_laws.specs.Staging.Whole.{MayConvert}

-- the names that both blocks leave are hidden, and stand for nothing before
pub record Hides (hidden : ℕ → Bool) (old new : Block) (s : State) : Type 0 where
  pub none : HasNone hidden s
  pub of_old : (y : ℕ) → top_binders old y ≡ true → hidden y ≡ true
  pub of_new : (y : ℕ) → top_binders new y ≡ true → hidden y ≡ true

-- then ends with the same fields, and the same cells in all buffers of before, are enough
abbrev pub AlikeReplaces : Type 0
AlikeReplaces =
    (world : World) (hidden : ℕ → Bool) (old new : Block) (s : State)
    → Hides hidden old new s
    → ((t u : State) → run world old s ≡ Some t → run world new s ≡ Some u → AreAlike s u t)
    → MayReplace world hidden old new s

-- allocation, load nest, block and store nest
abbrev pub between : Binder → Cell → List Control → ℕ → ℕ → List Coord → List Loop → List Loop
    → Block → Block
between a cell dims memory x coords ls ks inner =
    joined (next (Alloc a cell dims memory) (load_nest a.id x coords ls))
    (joined inner (store_nest a.id x coords ks))

-- what is known in a state in which the block is staged
pub record IsStaged (blind : ℕ → Bool) (world : World) (root : ℕ → ℕ) (a : Binder) (cell : Cell)
    (dims : List Control) (x : ℕ) (coords : List Coord) (ls ks : List Loop) (b : Block)
    (s : State) : Type 0 where
  pub seen : Seen
  pub to : Shape
  pub cell_is : to.cell ≡ cell
  pub may : MayConvert world a.id x seen coords b s
  pub alone : IsAlone blind root a.id seen to (converted a.id x coords b) s
  pub round : MayGoRound world a dims x seen to coords ls ks (converted a.id x coords b) s

-- so the converted block between the nests may stand for the block; what is known may be shown
-- where the nests and the block run
abbrev pub StagedReplaces : Type 0
StagedReplaces =
    (hidden blind : ℕ → Bool) (world : World) (root : ℕ → ℕ) (a : Binder) (cell : Cell)
    (dims : List Control) (memory x : ℕ) (coords : List Coord) (ls ks : List Loop) (b : Block)
    (s : State)
    → let new = between a cell dims memory x coords ls ks (converted a.id x coords b) in
    Hides hidden b new s
    → ((u : State) → run world new s ≡ Some u →
    IsStaged blind world root a cell dims x coords ls ks b s)
    → MayReplace world hidden b new s

-- and the procedure with it refines the procedure
abbrev pub StagedRefines : Type 0
StagedRefines =
    (kinds : ℕ → Kind) (ps : List Procedure) (p : Procedure) (c : Context)
    (hidden blind : ℕ → Bool) (root : ℕ → ℕ) (a : Binder) (cell : Cell) (dims : List Control)
    (memory x : ℕ) (coords : List Coord) (ls ks : List Loop) (b : Block)
    → let world = unit_world kinds ps in
    let new = between a cell dims memory x coords ls ks (converted a.id x coords b) in
    p.body ≡ fill c b
    → mentions hidden (rest_of c) ≡ false
    → ((s u : State) → IsAdmissible world p s → ComesTo world b c s u →
    Hides hidden b new u
    × ((v : State) → run world new u ≡ Some v →
    IsStaged blind world root a cell dims x coords ls ks b u))
    → Refines world p (record p { body = fill c new }) []
