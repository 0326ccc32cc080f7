-- A block that only adds to a window, on a buffer of its own that starts at 0 and is added behind
-- the block.
use Rattle.std.specs.Prelude.{◌≡◌, ℕ, Bool, true, false, List, []}
use Rattle.exo_tree.specs.Tree.{Cell, Binder, Control, Coord, Block, Procedure, ConfigField}
use Rattle.exo_tree.specs.Context.{Context, fill, rest_of}
use Rattle.exo_meaning.specs.State.{State}
use Rattle.exo_meaning.specs.Inputs.{IsAdmissible, Refines}
use Rattle.exo_meaning.specs.Run.{World, run, unit_world, kinds_of}
use Rattle.exo_meaning.specs.Units.{Scope, scope_of}
use Rattle.exo_meaning.specs.Unseen.{in_block as mentions}
use Rattle.meaning_laws.specs.Context.{ComesTo, MayReplace}
use Rattle.meaning_laws.specs.Sorted.{MayRun, scope_at}
use Rattle.meaning_laws.specs.Touched.{Mode, MayTouch, unit_modes, has_mode}
use Rattle.inplace_laws.specs.Filled.{Loop}
use Rattle.place_laws.specs.Scope.Roots.{own_roots_at}
use Rattle.buffer_laws.specs.Staging.Converted.{converted}
use Rattle.buffer_laws.specs.Staging.Replaced.{Hides}
use Rattle.buffer_laws.specs.Staging.Known.{AreMade, IsKnown}
use Rattle.buffer_laws.specs.Accumulated.{RootsHaveCells}
use Rattle.buffer_laws.specs.Simplified.{IsSimplifier}
use Rattle.buffer_laws.specs.StageMem.{Staging, sizes, loads, stores, staged_block, is_only_reduced}
use Rattle.buffer_laws.specs.Sums.{between_sums}

-- ---- what is known

module _ (fields : List ConfigField) (ps : List Procedure) where
  -- a buffer has a mode in the block, directly, through views or in calls
  abbrev pub touches_of : (ℕ → ℕ) → Block → Mode → ℕ → Bool
  touches_of root b mode y =
      has_mode (unit_world (kinds_of fields) ps).callees (unit_modes (kinds_of fields) ps) mode
      root b y

-- the block keeps the rules, and neither reads nor writes the buffer of x
pub record OnlyAdds (fields : List ConfigField) (memories : ℕ) (ps : List Procedure)
    (scope : Scope) (root : ℕ → ℕ) (x : ℕ) (b : Block) (s : State) : Type 0 where
  pub touches : MayTouch fields memories ps scope root b s
  pub cells : RootsHaveCells scope root
  pub only : is_only_reduced (touches_of fields ps root b) (root x) ≡ true

-- at a place of a procedure the test on the trees is enough
abbrev pub OnlyAddsAtPlace : Type 0
OnlyAddsAtPlace =
    (fields : List ConfigField) (memories : ℕ) (ps : List Procedure) (p : Procedure) (c : Context)
    (x : ℕ) (b : Block) (s u : State)
    → MayRun fields memories ps p
    → p.body ≡ fill c b
    → is_only_reduced (touches_of fields ps (own_roots_at c) b) (own_roots_at c x) ≡ true
    → let world = unit_world (kinds_of fields) ps in
    IsAdmissible world p s
    → ComesTo world b c s u
    → OnlyAdds fields memories ps (scope_at c (scope_of [] p.params)) (own_roots_at c) x b u

-- ---- the block between the two nests

-- it may stand for the block; that the window is there, the second nest shows
abbrev pub SumsReplace : Type 0
SumsReplace =
    (fields : List ConfigField) (memories : ℕ) (ps : List Procedure) (scope : Scope)
    (hidden blind : ℕ → Bool) (root : ℕ → ℕ) (a : Binder) (cell : Cell) (dims : List Control)
    (memory x : ℕ) (coords : List Coord) (ls ks : List Loop) (b : Block) (s : State)
    → let world = unit_world (kinds_of fields) ps in
    let new = between_sums a cell dims memory x coords ls ks (converted a.id x coords b) in
    AreMade blind root a dims x coords ls ks b
    → Hides hidden b new s
    → IsKnown world root a cell x coords b s
    → OnlyAdds fields memories ps scope root x b s
    → MayReplace world hidden b new s

-- ---- the step

-- x[..] staged with its sums
abbrev pub sums_of : ℕ → List Coord → List ℕ → Staging
sums_of x coords name = record { root = x; coords = coords; name = name; accum = true }

module _ (simple : Control → Control) (cell : Cell) (memory base x : ℕ) (coords : List Coord)
    (name : List ℕ) (b : Block) where
  -- what the step makes
  abbrev pub sums_with_simpler : Block
  sums_with_simpler = staged_block simple (sums_of x coords name) cell memory base true b

  -- the same with the indices as they are made
  abbrev pub sums_as_made : Block
  sums_as_made =
      let w = sums_of x coords name in
      between_sums (record { id = base; name = name }) cell (sizes simple w cell memory base)
      memory x coords (loads simple w cell memory base) (stores simple w cell memory base)
      (converted base x coords b)

-- both run alike, faults included
abbrev pub SumsDraftLaw : Type 0
SumsDraftLaw =
    (world : World) (simple : Control → Control) (cell : Cell) (memory base x : ℕ)
    (coords : List Coord) (name : List ℕ) (b : Block) (s : State)
    → IsSimplifier simple
    → run world (sums_as_made simple cell memory base x coords name b) s
    ≡ run world (sums_with_simpler simple cell memory base x coords name b) s

-- the procedure with the block staged refines the procedure
abbrev pub StageSumsLaw : Type 0
StageSumsLaw =
    (fields : List ConfigField) (memories : ℕ) (ps : List Procedure) (p : Procedure) (c : Context)
    (scope : Scope) (hidden blind : ℕ → Bool) (root : ℕ → ℕ) (simple : Control → Control)
    (cell : Cell) (memory base x : ℕ) (coords : List Coord) (name : List ℕ) (b : Block)
    → let world = unit_world (kinds_of fields) ps in
    let w = sums_of x coords name in
    let a : Binder = record { id = base; name = name } in
    IsSimplifier simple
    → p.body ≡ fill c b
    → mentions hidden (rest_of c) ≡ false
    → AreMade blind root a (sizes simple w cell memory base) x coords
    (loads simple w cell memory base) (stores simple w cell memory base) b
    → ((s u : State)
    → IsAdmissible world p s
    → ComesTo world b c s u
    → Hides hidden b (sums_as_made simple cell memory base x coords name b) u
    × IsKnown world root a cell x coords b u
    × OnlyAdds fields memories ps scope root x b u)
    → Refines world p
    (record p { body = fill c (sums_with_simpler simple cell memory base x coords name b) }) []
