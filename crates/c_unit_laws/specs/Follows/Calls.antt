-- Calls in the C do what they do in the source.
use Rattle.std.specs.Prelude.{◌≡◌, ℕ, true, false, List, [], Option, Some, None}
use Rattle.exo_tree.specs.Tree.{Kind, Block, Procedure}
use Rattle.exo_meaning.specs.State.{State}
use Rattle.exo_meaning.specs.Calls.{Callee, all_hold}
use Rattle.exo_meaning.specs.Run.{World, run}
use Rattle.inplace_laws.specs.CallInPlace.{AreDistinct}
use Rattle.c_widths.specs.Few.{Fewness, AllocatesFew, no_fewness, fewness_from}
use Rattle.c_tree.specs.CTree.{Name}
use Rattle.c_unit_laws.specs.Follows.Machine.Machine.{Machine, IsField, IsFunction}
use Rattle.c_unit_laws.specs.Follows.Machine.CRun.{Behaviour, CWorld, run_c}
use Rattle.c_lowering.specs.Made.Lowered.{Hole, Forms, param_forms, block_of}
use Rattle.c_lowering.specs.Made.LoweredUnit.{formals_of}
use Rattle.c_unit_laws.specs.Follows.Simulation.{Ground, Follows, Layout, Matches, Ends}
use Rattle.c_unit_laws.specs.Follows.Good.{IsGoodBlock, MayStore, AreGoodParams, AreNamedApart}

-- What is called does in the C what it does in the source: its body follows, from wherever its parameters hold the same and
-- its assertions hold, on ground of its own, which has the caller's fields and functions.
pub record IsFollowed (g : Ground) (few : State → Type 0) (c : Callee) (f : Behaviour) (k : ℕ) : Type 0 where
  pub own : Ground
  pub params : c.procedure.params ≡ (g.naming.routine k).params
  pub field : own.naming.field ≡ g.naming.field
  pub declared : own.declared ≡ g.declared
  pub function : own.function ≡ g.function
  pub stored : own.stored ≡ c.writes
  pub formals : f.formals ≡ formals_of own.naming c.procedure.params
  pub named : AreNamedApart own (param_forms c.procedure.params)
  pub distinct : AreDistinct c.procedure.params
  pub good : AreGoodParams (param_forms c.procedure.params) (g.bounds k) c.procedure.params
  pub follows :
      (layout : Layout) (s : State) (m : Machine)
      → Matches own (param_forms c.procedure.params) (g.bounds k) (λ x. x) layout s m
      → all_hold s.scene c.procedure.asserts ≡ true
      → Follows (few s) (Ends own (param_forms c.procedure.params) layout s m) (c.run s) (f.run m)

-- a function goes by its name, an instruction by its number
abbrev pub called_in : CWorld → Name → Option (List Hole) → ℕ → Option Behaviour
called_in c_world f None k = c_world.functions f
called_in c_world f (Some holes) k = c_world.instructions k

-- each procedure that may be called is followed, by its function or by its template
pub record CallsFollow (g : Ground) (world : World) (few : Fewness) (c_world : CWorld) : Type 0 where
  pub fields : (f : ℕ) → g.declared f ≡ true → c_world.globals (g.naming.field f) ≡ Some IsField
  pub functions : (x : Name) → g.function x ≡ true → c_world.globals x ≡ Some IsFunction
  pub named :
      (k : ℕ)
      → g.called k ≡ true
      → (g.naming.routine k).template ≡ None
      → g.function (g.naming.routine k).name ≡ true
  pub each :
      (k : ℕ) (c : Callee)
      → world.callees k ≡ Some c
      → g.called k ≡ true
      → (f : Behaviour)
      × (called_in c_world (g.naming.routine k).name (g.naming.routine k).template k ≡ Some f)
      × IsFollowed g (few k) c f k

-- From matching beginnings the C of a block does not fault where the block does not, and ends holding the same; it
-- finds store for all allocations where none passes 2 ^ 48 cells, in the block and in what it calls of these procedures.
abbrev pub BlocksFollow : Type 0
BlocksFollow =
    (g : Ground) (forms : Forms) (most : ℕ → ℕ) (root : ℕ → ℕ) (layout : Layout)
    (world : World) (kinds : ℕ → Kind) (ps : List Procedure) (c_world : CWorld) (b : Block)
    → let few = fewness_from kinds [] no_fewness ps in
    CallsFollow g world few c_world
    → IsGoodBlock g forms most b
    → MayStore g.stored world root b
    → (s : State) (m : Machine)
    → Matches g forms most root layout s m
    → Follows (AllocatesFew world few b s) (Ends g forms layout s m)
    (run world b s) (run_c c_world (block_of g.naming forms b) m)

-- The same of a block that calls nothing.
abbrev pub BlocksWithoutCallsFollow : Type 0
BlocksWithoutCallsFollow =
    (g : Ground) (forms : Forms) (most : ℕ → ℕ) (root : ℕ → ℕ) (layout : Layout)
    (world : World) (kinds : ℕ → Kind) (ps : List Procedure) (c_world : CWorld) (b : Block)
    → let few = fewness_from kinds [] no_fewness ps in
    ((k : ℕ) → g.called k ≡ false)
    → IsGoodBlock g forms most b
    → MayStore g.stored world root b
    → (s : State) (m : Machine)
    → Matches g forms most root layout s m
    → Follows (AllocatesFew world few b s) (Ends g forms layout s m)
    (run world b s) (run_c c_world (block_of g.naming forms b) m)
