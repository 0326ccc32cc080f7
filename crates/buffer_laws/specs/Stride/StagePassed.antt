-- A block staged on a window whose buffer may be passed, at a place of a procedure.
use Rattle.std.specs.Prelude.{◌≡◌, ℕ, Bool, false, List, []}
use Rattle.exo_tree.specs.Tree.{Kind, Cell, Binder, Control, Coord, Block, Procedure, ConfigField}
use Rattle.exo_tree.specs.Tree.{Statement, end, next}
use Rattle.exo_tree.specs.Context.{Context, fill, rest_of}
use Rattle.exo_meaning.specs.Scene.{updated}
use Rattle.exo_meaning.specs.State.{State}
use Rattle.exo_meaning.specs.Inputs.{IsAdmissible, Refines}
use Rattle.exo_meaning.specs.Run.{World, writes, unit_world, kinds_of}
use Rattle.exo_meaning.specs.Units.{Scope}
use Rattle.exo_meaning.specs.Unseen.{in_block as mentions}
use Rattle.meaning_laws.specs.Context.{ComesTo}
use Rattle.place_laws.specs.Scope.Holes.{within}
use Rattle.buffer_laws.specs.Staging.Converted.{converted}
use Rattle.buffer_laws.specs.Staging.Replaced.{Hides}
use Rattle.buffer_laws.specs.Staging.Known.{IsKnown, FitsBehind}
use Rattle.buffer_laws.specs.Simplified.{IsSimplifier}
use Rattle.buffer_laws.specs.StageMem.{sizes, loads, stores, asked_of_statement}
use Rattle.buffer_laws.specs.StageLaws.{staging_of, as_made, with_simpler, reader_as_made}
use Rattle.buffer_laws.specs.StageLaws.{reader_with_simpler}
use Rattle.buffer_laws.specs.StageAccum.{OnlyAdds, sums_of, sums_as_made, sums_with_simpler}
use Rattle.buffer_laws.specs.Stride.OnView.{AllHold, LiesWithin}
use Rattle.buffer_laws.specs.Stride.Passed.{ArePassed}
use Rattle.buffer_laws.specs.Stride.Strides.{stride_seen}

-- the procedure with the block staged refines the procedure; the block may pass the window to
-- procedures that do not look at its strides
abbrev pub StagePassedLaw : Type 0
StagePassedLaw =
    (kinds : ℕ → Kind) (ps : List Procedure) (p : Procedure) (c : Context) (hidden : ℕ → Bool)
    (root : ℕ → ℕ) (simple : Control → Control) (cell : Cell) (sides : List Control)
    (memory base x : ℕ) (coords : List Coord) (name : List ℕ) (b : Block)
    → let world = unit_world kinds ps in
    let w = staging_of x coords name in
    let a : Binder = record { id = base; name = name } in
    IsSimplifier simple
    → p.body ≡ fill c b
    → mentions hidden (rest_of c) ≡ false
    → ArePassed world.callees (stride_seen kinds ps) root a (sizes simple w cell memory base) x
    coords (loads simple w cell memory base) (stores simple w cell memory base) b
    → ((s u : State)
    → IsAdmissible world p s
    → ComesTo world b c s u
    → Hides hidden b (as_made simple cell memory base x coords name b) u
    × IsKnown world root a cell x coords b u
    × LiesWithin world x sides coords b u
    × FitsBehind world a x coords b u)
    → Refines world p
    (record p { body = fill c (with_simpler simple cell memory base x coords name b) }) []

-- so it does without a store nest, where the block does not write the window
abbrev pub StagePassedReaderLaw : Type 0
StagePassedReaderLaw =
    (kinds : ℕ → Kind) (ps : List Procedure) (p : Procedure) (c : Context) (hidden : ℕ → Bool)
    (root : ℕ → ℕ) (simple : Control → Control) (cell : Cell) (sides : List Control)
    (memory base x : ℕ) (coords : List Coord) (name : List ℕ) (b : Block)
    → let world = unit_world kinds ps in
    let w = staging_of x coords name in
    let a : Binder = record { id = base; name = name } in
    IsSimplifier simple
    → p.body ≡ fill c b
    → mentions hidden (rest_of c) ≡ false
    → writes world (updated root base base) (converted base x coords b) base ≡ false
    → ArePassed world.callees (stride_seen kinds ps) root a (sizes simple w cell memory base) x
    coords (loads simple w cell memory base) (loads simple w cell memory base) b
    → ((s u : State)
    → IsAdmissible world p s
    → ComesTo world b c s u
    → Hides hidden b (reader_as_made simple cell memory base x coords name b) u
    × IsKnown world root a cell x coords b u
    × LiesWithin world x sides coords b u)
    → Refines world p
    (record p { body = fill c (reader_with_simpler simple cell memory base x coords name b) }) []

-- and from 0, where the block only adds to the window
abbrev pub StagePassedSumsLaw : Type 0
StagePassedSumsLaw =
    (fields : List ConfigField) (memories : ℕ) (ps : List Procedure) (p : Procedure) (c : Context)
    (scope : Scope) (hidden : ℕ → Bool) (root : ℕ → ℕ) (simple : Control → Control)
    (cell : Cell) (sides : List Control) (memory base x : ℕ) (coords : List Coord)
    (name : List ℕ) (b : Block)
    → let kinds = kinds_of fields in
    let world = unit_world kinds ps in
    let w = sums_of x coords name in
    let a : Binder = record { id = base; name = name } in
    IsSimplifier simple
    → p.body ≡ fill c b
    → mentions hidden (rest_of c) ≡ false
    → ArePassed world.callees (stride_seen kinds ps) root a (sizes simple w cell memory base) x
    coords (loads simple w cell memory base) (stores simple w cell memory base) b
    → ((s u : State)
    → IsAdmissible world p s
    → ComesTo world b c s u
    → Hides hidden b (sums_as_made simple cell memory base x coords name b) u
    × IsKnown world root a cell x coords b u
    × LiesWithin world x sides coords b u
    × OnlyAdds fields memories ps scope root x b u)
    → Refines world p
    (record p { body = fill c (sums_with_simpler simple cell memory base x coords name b) }) []

-- what is asked holds in a run of the block where it holds at each place of the procedure
abbrev pub LiesAtPlaces : Type 0
LiesAtPlaces =
    (world : World) (p : Procedure) (c : Context) (b : Block) (x : ℕ) (sides : List Control)
    (coords : List Coord) (s u : State)
    → IsAdmissible world p s
    → ComesTo world b c s u
    → ((d : Context) (a : Statement) (v : State)
    → b ≡ fill d (next a end)
    → ComesTo world (next a end) (within c d) s v
    → AllHold v.scene (asked_of_statement x sides coords a))
    → LiesWithin world x sides coords b u
