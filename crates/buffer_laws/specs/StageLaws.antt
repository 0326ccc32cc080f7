-- A block staged on a window, at a place of a procedure.
use Rattle.std.specs.Prelude.{◌≡◌, ℕ, Bool, true, false, List, []}
use Rattle.exo_tree.specs.Tree.{Kind, Cell, Binder, Control, Coord, Statement, Block, end, next}
use Rattle.exo_tree.specs.Tree.{Procedure}
use Rattle.exo_tree.specs.Context.{Context, fill, rest_of}
use Rattle.exo_meaning.specs.Scene.{updated}
use Rattle.exo_meaning.specs.State.{State}
use Rattle.exo_meaning.specs.Inputs.{IsAdmissible, Refines}
use Rattle.exo_meaning.specs.Run.{World, run, writes, unit_world}
use Rattle.exo_meaning.specs.Unseen.{in_block as mentions}
use Rattle.meaning_laws.specs.Context.{ComesTo}
use Rattle.place_laws.specs.Scope.Holes.{within}
use Rattle.buffer_laws.specs.Staging.Converted.{converted, StatementFits, FitsWithin}
use Rattle.buffer_laws.specs.Staging.Replaced.{Hides, between}
use Rattle.buffer_laws.specs.Staging.Known.{AreMade, IsKnown, FitsBehind, up_to_store}
use Rattle.buffer_laws.specs.Simplified.{IsSimplifier}
use Rattle.buffer_laws.specs.StageMem.{Staging, sizes, loads, stores, staged_block}

-- x[..] staged with its contents
abbrev pub staging_of : ℕ → List Coord → List ℕ → Staging
staging_of x coords name = record { root = x; coords = coords; name = name; accum = false }

module _ (simple : Control → Control) (cell : Cell) (memory base x : ℕ) (coords : List Coord)
    (name : List ℕ) (b : Block) where
  abbrev pub window_there : Staging
  window_there = staging_of x coords name

  abbrev pub buffer_name : Binder
  buffer_name = record { id = base; name = name }

  -- what the step makes
  abbrev pub with_simpler : Block
  with_simpler = staged_block simple window_there cell memory base true b

  -- the same with the indices as they are made
  abbrev pub as_made : Block
  as_made = between buffer_name cell (sizes simple window_there cell memory base) memory x coords
      (loads simple window_there cell memory base) (stores simple window_there cell memory base)
      (converted base x coords b)

  -- what it makes of a block that only reads
  abbrev pub reader_with_simpler : Block
  reader_with_simpler = staged_block simple window_there cell memory base false b

  -- the same with the indices as they are made
  abbrev pub reader_as_made : Block
  reader_as_made =
      up_to_store buffer_name cell (sizes simple window_there cell memory base) memory x coords
      (loads simple window_there cell memory base) b

-- both run alike, faults included
abbrev pub DraftLaw : Type 0
DraftLaw =
    (world : World) (simple : Control → Control) (cell : Cell) (memory base x : ℕ)
    (coords : List Coord) (name : List ℕ) (b : Block) (s : State)
    → IsSimplifier simple
    → run world (as_made simple cell memory base x coords name b) s
    ≡ run world (with_simpler simple cell memory base x coords name b) s

-- and so do those of a block that only reads
abbrev pub ReaderDraftLaw : Type 0
ReaderDraftLaw =
    (world : World) (simple : Control → Control) (cell : Cell) (memory base x : ℕ)
    (coords : List Coord) (name : List ℕ) (b : Block) (s : State)
    → IsSimplifier simple
    → run world (reader_as_made simple cell memory base x coords name b) s
    ≡ run world (reader_with_simpler simple cell memory base x coords name b) s

-- the procedure with the block staged refines the procedure
abbrev pub StageMemLaw : Type 0
StageMemLaw =
    (kinds : ℕ → Kind) (ps : List Procedure) (p : Procedure) (c : Context)
    (hidden blind : ℕ → Bool) (root : ℕ → ℕ) (simple : Control → Control) (cell : Cell)
    (memory base x : ℕ) (coords : List Coord) (name : List ℕ) (b : Block)
    → let world = unit_world kinds ps in
    let w = staging_of x coords name in
    let a : Binder = record { id = base; name = name } in
    IsSimplifier simple
    → p.body ≡ fill c b
    → mentions hidden (rest_of c) ≡ false
    → AreMade blind root a (sizes simple w cell memory base) x coords
    (loads simple w cell memory base) (stores simple w cell memory base) b
    → ((s u : State)
    → IsAdmissible world p s
    → ComesTo world b c s u
    → Hides hidden b (as_made simple cell memory base x coords name b) u
    × IsKnown world root a cell x coords b u
    × FitsBehind world a x coords b u)
    → Refines world p
    (record p { body = fill c (with_simpler simple cell memory base x coords name b) }) []

-- so it does without a store nest, where the block does not write the window
abbrev pub StageReaderLaw : Type 0
StageReaderLaw =
    (kinds : ℕ → Kind) (ps : List Procedure) (p : Procedure) (c : Context)
    (hidden blind : ℕ → Bool) (root : ℕ → ℕ) (simple : Control → Control) (cell : Cell)
    (memory base x : ℕ) (coords : List Coord) (name : List ℕ) (b : Block)
    → let world = unit_world kinds ps in
    let w = staging_of x coords name in
    let a : Binder = record { id = base; name = name } in
    IsSimplifier simple
    → p.body ≡ fill c b
    → mentions hidden (rest_of c) ≡ false
    → writes world (updated root base base) (converted base x coords b) base ≡ false
    → AreMade blind root a (sizes simple w cell memory base) x coords
    (loads simple w cell memory base) (loads simple w cell memory base) b
    → ((s u : State)
    → IsAdmissible world p s
    → ComesTo world b c s u
    → Hides hidden b (reader_as_made simple cell memory base x coords name b) u
    × IsKnown world root a cell x coords b u)
    → Refines world p
    (record p { body = fill c (reader_with_simpler simple cell memory base x coords name b) }) []

-- what the accesses of x keep at each place of the procedure they keep in a run of the block
abbrev pub FitsAtPlaces : Type 0
FitsAtPlaces =
    (world : World) (p : Procedure) (c : Context) (b : Block) (x : ℕ) (coords : List Coord)
    (s u : State)
    → IsAdmissible world p s
    → ComesTo world b c s u
    → ((d : Context) (a : Statement) (v : State)
    → b ≡ fill d (next a end)
    → ComesTo world (next a end) (within c d) s v
    → StatementFits x coords v.scene a)
    → FitsWithin world x coords b u
