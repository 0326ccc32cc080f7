-- A staged block in the place of a block that may leave names of its own.
use Rattle.std.specs.Prelude.{◌≡◌, ◌==◌, ℕ, Bool, false, ◌||◌, ◌&&◌, List, Some, IsSome}
use Rattle.exo_tree.specs.Tree.{Cell, Binder, Control, Coord, Alloc, Block, next, joined}
use Rattle.exo_tree.specs.Tree.{ConfigField, Procedure}
use Rattle.exo_tree.specs.Context.{Context, fill}
use Rattle.exo_meaning.specs.Scene.{updated, window}
use Rattle.exo_meaning.specs.State.{State}
use Rattle.exo_meaning.specs.Run.{World, run, writes, unit_world, kinds_of}
use Rattle.exo_meaning.specs.Inputs.{IsAdmissible}
use Rattle.exo_meaning.specs.Units.{Scope}
use Rattle.exo_meaning.specs.Unseen.{in_block as mentions}
use Rattle.meaning_laws.specs.Context.{ComesTo, MayReplace}
use Rattle.meaning_laws.specs.Sorted.{CellsFit, MayRun}
use Rattle.inplace_laws.specs.Filled.{Loop}
use Rattle.place_laws.specs.Scope.Scopes.{top_binders, HasNone}
use Rattle.place_laws.specs.Scope.Roots.{own_roots_at}
use Rattle.buffer_laws.specs.Staging.Alone.{AreRoots}
use Rattle.buffer_laws.specs.Staging.Converted.{converted}
use Rattle.buffer_laws.specs.Staging.Known.{IsKnown, up_to_store}
use Rattle.buffer_laws.specs.Staging.Replaced.{between}
use Rattle.buffer_laws.specs.StageMem.{roots_behind}
use Rattle.buffer_laws.specs.StageAccum.{OnlyAdds}
use Rattle.buffer_laws.specs.Sums.{between_sums, zero_nest}
use Rattle.buffer_laws.specs.Stride.OnView.{LiesWithin}
use Rattle.buffer_laws.specs.Stride.Passed.{ArePassed}
use Rattle.buffer_laws.specs.Stride.Strides.{CallsAreBlind}

-- the names that are of no use behind it: the buffer, and what the block binds to the buffer of x
abbrev pub goes : (ℕ → ℕ) → ℕ → ℕ → Block → ℕ → Bool
goes root a x b y = (y == a) || (top_binders b y && (roots_behind b root y == root x))

-- what the block leaves: cells of their types, and buffers that are their own roots
pub record EndsWell (root : ℕ → ℕ) (b : Block) (t : State) : Type 0 where
  pub cells : CellsFit t
  pub own_roots : AreRoots (roots_behind b root) t

-- what is known where both blocks run
pub record IsKnownThere (world : World) (root : ℕ → ℕ) (a : Binder) (cell : Cell) (x : ℕ)
    (sides : List Control) (coords : List Coord) (b : Block) (s t : State) : Type 0 where
  pub known : IsKnown world root a cell x coords b s
  pub lies : LiesWithin world x sides coords b s
  pub ends : EndsWell root b t

-- all that the block binds is new
pub record IsStaged (world : World) (root : ℕ → ℕ) (a : Binder) (cell : Cell) (x : ℕ)
    (sides : List Control) (coords : List Coord) (b new : Block) (s : State) : Type 0 where
  pub none : HasNone (λ y. (y == a.id) || top_binders b y) s
  pub known : (t u : State) → run world b s ≡ Some t → run world new s ≡ Some u
      → IsKnownThere world root a cell x sides coords b s t

-- the converted block between the nests may stand for the block
abbrev pub StagedGoes : Type 0
StagedGoes =
    (world : World) (sees : ℕ → ℕ → Bool) (root : ℕ → ℕ) (a : Binder)
    (cell : Cell) (dims sides : List Control) (memory x : ℕ) (coords : List Coord)
    (ls ks : List Loop) (b : Block) (s : State)
    → let new = between a cell dims memory x coords ls ks (converted a.id x coords b) in
    CallsAreBlind world sees
    → ArePassed world.callees sees root a dims x coords ls ks b
    → IsStaged world root a cell x sides coords b new s
    → MayReplace world (goes root a.id x b) b new s

-- behind the load nest alone, where it does not write a
abbrev pub ReaderGoes : Type 0
ReaderGoes =
    (world : World) (sees : ℕ → ℕ → Bool) (root : ℕ → ℕ) (a : Binder)
    (cell : Cell) (dims sides : List Control) (memory x : ℕ) (coords : List Coord)
    (ls : List Loop) (b : Block) (s : State)
    → let new = up_to_store a cell dims memory x coords ls b in
    CallsAreBlind world sees
    → ArePassed world.callees sees root a dims x coords ls ls b
    → writes world (updated root a.id a.id) (converted a.id x coords b) a.id ≡ false
    → IsStaged world root a cell x sides coords b new s
    → MayReplace world (goes root a.id x b) b new s

-- and from 0, where the block only adds
abbrev pub SumsGo : Type 0
SumsGo =
    (fields : List ConfigField) (memories : ℕ) (ps : List Procedure) (scope : Scope)
    (sees : ℕ → ℕ → Bool) (root : ℕ → ℕ) (a : Binder) (cell : Cell) (dims sides : List Control)
    (memory x : ℕ) (coords : List Coord) (ls ks : List Loop) (b : Block) (s : State)
    → let world = unit_world (kinds_of fields) ps in
    let new = between_sums a cell dims memory x coords ls ks (converted a.id x coords b) in
    CallsAreBlind world sees
    → ArePassed world.callees sees root a dims x coords ls ks b
    → IsStaged world root a cell x sides coords b new s
    → OnlyAdds fields memories ps scope root x b s
    → MayReplace world (goes root a.id x b) b new s

-- ---- a block that does not touch the window

-- the buffer set to 0 and the converted block, which may view the window or pass it where it is not
-- touched, may stand for the block; asked is that the window is there where both run
abbrev pub UnseenGoes : Type 0
UnseenGoes =
    (fields : List ConfigField) (memories : ℕ) (ps : List Procedure) (scope : Scope)
    (sees : ℕ → ℕ → Bool) (root : ℕ → ℕ) (a : Binder) (cell : Cell) (dims sides : List Control)
    (memory x : ℕ) (coords : List Coord) (ls : List Loop) (b : Block) (s : State)
    → let world = unit_world (kinds_of fields) ps in
    let new = joined (next (Alloc a cell dims memory) (zero_nest a.id ls))
    (converted a.id x coords b) in
    CallsAreBlind world sees
    → ArePassed world.callees sees root a dims x coords ls ls b
    → IsStaged world root a cell x sides coords b new s
    → OnlyAdds fields memories ps scope root x b s
    → writes world root b (root x) ≡ false
    → ((t u : State) → run world b s ≡ Some t → run world new s ≡ Some u
    → IsSome (window s.scene x coords))
    → MayReplace world (goes root a.id x b) b new s

-- an allocation and a nest that sets it to 0 may stand before a block that does not use it
abbrev pub UntouchedGoes : Type 0
UntouchedGoes =
    (world : World) (a : Binder) (cell : Cell) (dims : List Control) (memory : ℕ)
    (ls : List Loop) (b : Block) (s : State)
    → HasNone (λ y. y == a.id) s
    → mentions (λ y. y == a.id) b ≡ false
    → MayReplace world (λ y. y == a.id) b
    (joined (next (Alloc a cell dims memory) (zero_nest a.id ls)) b) s

-- ---- at a place

-- in a procedure that keeps the rules each block ends well
abbrev pub EndsWellAtPlace : Type 0
EndsWellAtPlace =
    (fields : List ConfigField) (memories : ℕ) (ps : List Procedure) (p : Procedure) (c : Context)
    (b : Block) (s u t : State)
    → MayRun fields memories ps p
    → p.body ≡ fill c b
    → let world = unit_world (kinds_of fields) ps in
    IsAdmissible world p s
    → ComesTo world b c s u
    → run world b u ≡ Some t
    → EndsWell (own_roots_at c) b t
