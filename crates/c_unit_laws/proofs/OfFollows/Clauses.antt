-- What is to be shown of the statements that bind buffers and windows and of calls; the rest of a block follows from it.
use Rattle.std.proofs.Common.{◌≡◌, ◌<◌, ◌^◌, ℕ, pos, ◌≤ℤ◌, true, List, length, Option, Some}
use Rattle.exo_tree.specs.Tree.{Binder, Cell, I32, Control, Coord, Argument, Alloc, View}
use Rattle.exo_meaning.specs.Scene.{then_do, numbers}
use Rattle.exo_meaning.specs.State.{State}
use Rattle.exo_meaning.specs.Units.{spans}
use Rattle.exo_meaning.specs.Run.{World, product, allocate, view, call_to, call_to_writes, roots_after}
use Rattle.c_widths.specs.Few.{Fewness, CallAllocatesFew}
use Rattle.c_tree.specs.CTree.{CBlock}
use Rattle.c_unit_laws.specs.Follows.Machine.Machine.{Machine, after}
use Rattle.c_unit_laws.specs.Follows.Machine.CRun.{CWorld, run_c, step_c}
use Rattle.c_lowering.specs.Made.Lowered.{Forms, forms_after, alloc_of, bind_of, window_of, cell_in}
use Rattle.c_lowering.specs.Made.Lowered.{call_of}
use Rattle.c_unit_laws.specs.Follows.Simulation.{Ground, Follows, Layout, Matches, Ran, Ends}
use Rattle.c_unit_laws.specs.Follows.Good.{IsBuffer, AreGood, AreGoodCoords, IsFresh, FitsMemory}
use Rattle.c_unit_laws.specs.Follows.Good.{IsGoodCall}

module _ (Few : Type 0) (g : Ground) (c_world : CWorld) where
  -- the rest of a block, from wherever its first statement leads
  abbrev pub Rest : Forms → (ℕ → ℕ) → (ℕ → ℕ) → Option State → (State → Option State) → CBlock → Type 0
  Rest forms most root o go c =
      (layout : Layout) (s : State) (m : Machine)
      → o ≡ Some s
      → Matches g forms most root layout s m
      → Follows Few (Ends g forms layout s m) (go s) (run_c c_world c m)

  abbrev pub AllocClause : Type 0
  AllocClause =
      (forms : Forms) (most : ℕ → ℕ) (root : ℕ → ℕ) (layout : Layout) (x : Binder) (cell : Cell) (dims : List Control) (memory : ℕ)
      → AreGood forms most dims
      → IsFresh g forms x.id
      → FitsMemory (g.naming.memory memory) most dims
      → g.stored x.id ≡ true
      → (s : State) (m : Machine)
      → (Few → product (numbers s.scene dims) ≤ℤ pos (2 ^ 48))
      → Matches g forms most root layout s m
      → (go : State → Option State) (c : CBlock)
      → Rest (forms_after g.naming (Alloc x cell dims memory) forms) most (roots_after (Alloc x cell dims memory) root) (allocate x.id cell (numbers s.scene dims) s) go c
      → Follows Few (Ends g forms layout s m) (then_do (allocate x.id cell (numbers s.scene dims) s) go) (run_c c_world (alloc_of g.naming x.id cell dims (g.naming.memory memory) c) m)

  abbrev pub ViewClause : Type 0
  ViewClause =
      (forms : Forms) (most : ℕ → ℕ) (root : ℕ → ℕ) (layout : Layout) (w : Binder) (x : ℕ) (coords : List Coord)
      → IsBuffer forms x (length coords)
      → AreGoodCoords forms most coords
      → 0 < spans coords
      → IsFresh g forms w.id
      → (s : State) (m : Machine)
      → Matches g forms most root layout s m
      → (go : State → Option State) (c : CBlock)
      → Rest (forms_after g.naming (View w x coords) forms) most (roots_after (View w x coords) root) (view w.id x coords s) go c
      → Follows Few (Ends g forms layout s m) (then_do (view w.id x coords s) go) (after (step_c c_world (bind_of (g.naming.binder w.id) (window_of g.naming forms x (cell_in (forms x) I32) coords)) m) (run_c c_world c))

  abbrev pub CallClause : World → Fewness → Type 0
  CallClause world few =
      (forms : Forms) (most : ℕ → ℕ) (root : ℕ → ℕ) (layout : Layout) (k : ℕ) (args : List Argument)
      → IsGoodCall g forms most k args
      → ((y : ℕ) → call_to_writes (world.callees k) root y args ≡ true → g.stored y ≡ true)
      → (s : State) (m : Machine)
      → (Few → CallAllocatesFew (world.callees k) (few k) args s)
      → Matches g forms most root layout s m
      → Follows Few (Ran g forms most root layout s m) (call_to (world.callees k) args s) (step_c c_world (call_of g.naming forms k (g.naming.routine k) args) m)
