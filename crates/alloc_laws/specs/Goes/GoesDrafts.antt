-- Staged blocks as the step writes them, and what follows them.
use Rattle.std.specs.Prelude.{Some, IsSome, ◌≡◌, ◌==◌, ℕ, false, List}
use Rattle.exo_tree.specs.Tree.{Kind, Cell, Binder, Control, Coord, Block, Alloc, next, joined}
use Rattle.exo_tree.specs.Tree.{ConfigField, Procedure}
use Rattle.exo_meaning.specs.Scene.{updated, window}
use Rattle.exo_meaning.specs.State.{State}
use Rattle.exo_meaning.specs.Run.{writes, run, unit_world, kinds_of, World}
use Rattle.exo_meaning.specs.Units.{Scope}
use Rattle.exo_meaning.specs.Unseen.{in_block as mentions}
use Rattle.meaning_laws.specs.Context.{MayReplace}
use Rattle.place_laws.specs.Scope.Scopes.{HasNone}
use Rattle.buffer_laws.specs.Staging.Converted.{converted}
use Rattle.buffer_laws.specs.Simplified.{IsSimplifier}
use Rattle.buffer_laws.specs.StageMem.{sizes, loads, stores, staged_block, is_view_used}
use Rattle.buffer_laws.specs.StageLaws.{staging_of, as_made, with_simpler, reader_as_made}
use Rattle.buffer_laws.specs.StageLaws.{reader_with_simpler}
use Rattle.buffer_laws.specs.StageAccum.{OnlyAdds, sums_of, sums_as_made, sums_with_simpler}
use Rattle.buffer_laws.specs.Sums.{zero_nest}
use Rattle.buffer_laws.specs.Stride.Passed.{ArePassed}
use Rattle.buffer_laws.specs.Stride.Strides.{stride_seen}
use Rattle.alloc_laws.specs.Goes.Goes.{goes, IsStaged}

-- with the indices that are made simplified
abbrev pub StagedDraftGoes : Type 0
StagedDraftGoes =
    (kinds : ℕ → Kind) (ps : List Procedure) (root : ℕ → ℕ) (simple : Control → Control)
    (cell : Cell) (sides : List Control) (memory base x : ℕ) (coords : List Coord)
    (name : List ℕ) (b : Block) (s : State)
    → let world = unit_world kinds ps in
    let w = staging_of x coords name in
    let a : Binder = record { id = base; name = name } in
    IsSimplifier simple
    → ArePassed world.callees (stride_seen kinds ps) root a (sizes simple w cell memory base) x
    coords (loads simple w cell memory base) (stores simple w cell memory base) b
    → IsStaged world root a cell x sides coords b
    (as_made simple cell memory base x coords name b) s
    → MayReplace world (goes root base x b) b
    (with_simpler simple cell memory base x coords name b) s

abbrev pub ReaderDraftGoes : Type 0
ReaderDraftGoes =
    (kinds : ℕ → Kind) (ps : List Procedure) (root : ℕ → ℕ) (simple : Control → Control)
    (cell : Cell) (sides : List Control) (memory base x : ℕ) (coords : List Coord)
    (name : List ℕ) (b : Block) (s : State)
    → let world = unit_world kinds ps in
    let w = staging_of x coords name in
    let a : Binder = record { id = base; name = name } in
    IsSimplifier simple
    → writes world (updated root base base) (converted base x coords b) base ≡ false
    → ArePassed world.callees (stride_seen kinds ps) root a (sizes simple w cell memory base) x
    coords (loads simple w cell memory base) (loads simple w cell memory base) b
    → IsStaged world root a cell x sides coords b
    (reader_as_made simple cell memory base x coords name b) s
    → MayReplace world (goes root base x b) b
    (reader_with_simpler simple cell memory base x coords name b) s

abbrev pub SumsDraftGo : Type 0
SumsDraftGo =
    (fields : List ConfigField) (memories : ℕ) (ps : List Procedure) (scope : Scope)
    (root : ℕ → ℕ) (simple : Control → Control) (cell : Cell) (sides : List Control)
    (memory base x : ℕ) (coords : List Coord) (name : List ℕ) (b : Block) (s : State)
    → let kinds = kinds_of fields in
    let world = unit_world kinds ps in
    let w = sums_of x coords name in
    let a : Binder = record { id = base; name = name } in
    IsSimplifier simple
    → ArePassed world.callees (stride_seen kinds ps) root a (sizes simple w cell memory base) x
    coords (loads simple w cell memory base) (stores simple w cell memory base) b
    → IsStaged world root a cell x sides coords b
    (sums_as_made simple cell memory base x coords name b) s
    → OnlyAdds fields memories ps scope root x b s
    → MayReplace world (goes root base x b) b
    (sums_with_simpler simple cell memory base x coords name b) s

-- kept sums of a block that touches the window nowhere, where that is there
abbrev pub UnseenDraftGoes : Type 0
UnseenDraftGoes =
    (fields : List ConfigField) (memories : ℕ) (ps : List Procedure) (scope : Scope)
    (root : ℕ → ℕ) (simple : Control → Control) (cell : Cell) (sides : List Control)
    (memory base x : ℕ) (coords : List Coord) (name : List ℕ) (b : Block) (s : State)
    → let kinds = kinds_of fields in
    let world = unit_world kinds ps in
    let w = sums_of x coords name in
    let a : Binder = record { id = base; name = name } in
    let as_it_is = joined (next (Alloc a cell (sizes simple w cell memory base) memory)
    (zero_nest base (loads simple w cell memory base))) (converted base x coords b) in
    IsSimplifier simple
    → ArePassed world.callees (stride_seen kinds ps) root a (sizes simple w cell memory base) x
    coords (loads simple w cell memory base) (loads simple w cell memory base) b
    → IsStaged world root a cell x sides coords b as_it_is s
    → OnlyAdds fields memories ps scope root x b s
    → writes world root b (root x) ≡ false
    → ((t u : State) → run world b s ≡ Some t → run world as_it_is s ≡ Some u
    → IsSome (window s.scene x coords))
    → MayReplace world (goes root base x b) b (staged_block simple w cell memory base false b) s

-- kept sums of a block that does not mention x: it stays as it is, behind the buffer set to 0
abbrev pub UntouchedDraftGoes : Type 0
UntouchedDraftGoes =
    (world : World) (simple : Control → Control) (cell : Cell) (memory base x : ℕ)
    (coords : List Coord) (name : List ℕ) (b : Block) (s : State)
    → HasNone (λ y. y == base) s
    → mentions (λ y. y == base) b ≡ false
    → mentions (λ y. y == x) b ≡ false
    → MayReplace world (λ y. y == base) b
    (staged_block simple (sums_of x coords name) cell memory base false b) s

-- what follows uses none of the names that go, by the test of the shape
abbrev pub GoesUnused : Type 0
GoesUnused =
    (root : ℕ → ℕ) (a x : ℕ) (b rest : Block)
    → is_view_used root x b rest ≡ false
    → mentions (λ y. y == a) rest ≡ false
    → mentions (goes root a x b) rest ≡ false
