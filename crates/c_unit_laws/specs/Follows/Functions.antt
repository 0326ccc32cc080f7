-- A call of a function that calls nothing does what its procedure does.
use Rattle.std.specs.Prelude.{◌≡◌, ◌≤◌, ℕ, true, false, List, [], ◌∷◌, Some, unsigned_abs, ⊤}
use Rattle.exo_tree.specs.Tree.{Kind, Param, ParamKind, ControlParam, TensorParam, WindowParam}
use Rattle.exo_tree.specs.Tree.{Procedure}
use Rattle.exo_meaning.specs.State.{State}
use Rattle.exo_meaning.specs.Run.{World}
use Rattle.exo_meaning.specs.Inputs.{IsValid, run_procedure}
use Rattle.inplace_laws.specs.CallInPlace.{AreDistinct}
use Rattle.c_widths.specs.Few.{AllocatesFew, no_fewness, fewness_from}
use Rattle.c_tree.specs.CTree.{Name}
use Rattle.c_unit_laws.specs.Follows.Machine.Machine.{Thing, IsField, IsFunction, Machine}
use Rattle.c_unit_laws.specs.Follows.Machine.CRun.{Behaviour, CWorld, run_c, run_in_place}
use Rattle.c_lowering.specs.Made.Lowered.{param_forms, block_of}
use Rattle.c_lowering.specs.Made.LoweredUnit.{formals_of}
use Rattle.c_unit_laws.specs.Follows.Simulation.{Ground, Follows, Layout}
use Rattle.c_unit_laws.specs.Follows.Good.{IsGoodBlock, MayStore, AreGoodParams, AreNamedApart}
use Rattle.c_unit_laws.specs.Follows.SameInput.{AreSame, AreSeparate}
use Rattle.c_unit_laws.specs.Follows.Units.{LeavesTheSame}
use Rattle.c_unit_laws.specs.Follows.Calls.{CallsFollow}

abbrev pub behaviour_of : Ground → CWorld → Procedure → Behaviour
behaviour_of g c_world p =
    record {
      formals = formals_of g.naming p.params;
      run = run_c c_world (block_of g.naming (param_forms p.params) p.body);
    }

-- how large the control parameters are
abbrev pub IsSmall : State → (ℕ → ℕ) → ℕ → ParamKind → Type 0
IsSmall s most x (ControlParam kind) = unsigned_abs (s.scene.control x) ≤ most x
IsSmall s most x (TensorParam cell dims memory) = ⊤
IsSmall s most x (WindowParam cell dims memory) = ⊤

abbrev pub AreSmall : State → (ℕ → ℕ) → List Param → Type 0
AreSmall s most [] = ⊤
AreSmall s most (p ∷ ps) = IsSmall s most p.binder.id p.kind × AreSmall s most ps

-- the file declares the fields and the functions, and the C names of the parameters are none of
-- theirs and differ
pub record AreDeclared (g : Ground) (c_world : CWorld) (ps : List Param) : Type 0 where
  pub fields : (f : ℕ) → g.declared f ≡ true → c_world.globals (g.naming.field f) ≡ Some IsField
  pub functions : (f : Name) → g.function f ≡ true → c_world.globals f ≡ Some IsFunction
  pub named : AreNamedApart g (param_forms ps)
  pub distinct : AreDistinct ps

-- one input for the procedure and for the call
pub record IsSameInput (g : Ground) (most : ℕ → ℕ) (layout : Layout) (s : State) (ts : List Thing)
    (m : Machine) (ps : List Param) : Type 0 where
  pub arguments : AreSame layout s m ps ts
  pub fields :
      (f : ℕ)
      → g.declared f ≡ true
      → m.setting.fields (g.naming.field f) ≡ s.scene.fields f
  pub separate : AreSeparate layout s
  pub small : AreSmall s most ps

-- From the same valid input a call of a function leaves what its procedure leaves, where all that
-- it calls is followed.
abbrev pub FunctionsFollow : Type 0
FunctionsFollow =
    (g : Ground) (most : ℕ → ℕ) (layout : Layout) (world : World) (kinds : ℕ → Kind)
    (above : List Procedure)
    (c_world : CWorld) (p : Procedure) (s : State) (ts : List Thing) (m : Machine)
    → let few = fewness_from kinds [] no_fewness above in
    CallsFollow g world few c_world
    → AreDeclared g c_world p.params
    → AreGoodParams (param_forms p.params) most p.params
    → IsGoodBlock g (param_forms p.params) most p.body
    → MayStore g.stored world (λ x. x) p.body
    → IsValid world p s
    → IsSameInput g most layout s ts m p.params
    → Follows (AllocatesFew world few p.body s) (LeavesTheSame g.naming g.declared layout s m)
    (run_procedure world p s) (run_in_place c_world (Some (behaviour_of g c_world p)) ts m)

-- The same of one that calls nothing.
abbrev pub FunctionsWithoutCallsFollow : Type 0
FunctionsWithoutCallsFollow =
    (g : Ground) (most : ℕ → ℕ) (layout : Layout) (world : World) (kinds : ℕ → Kind)
    (above : List Procedure)
    (c_world : CWorld) (p : Procedure) (s : State) (ts : List Thing) (m : Machine)
    → let few = fewness_from kinds [] no_fewness above in
    ((k : ℕ) → g.called k ≡ false)
    → AreDeclared g c_world p.params
    → AreGoodParams (param_forms p.params) most p.params
    → IsGoodBlock g (param_forms p.params) most p.body
    → MayStore g.stored world (λ x. x) p.body
    → IsValid world p s
    → IsSameInput g most layout s ts m p.params
    → Follows (AllocatesFew world few p.body s) (LeavesTheSame g.naming g.declared layout s m)
    (run_procedure world p s) (run_in_place c_world (Some (behaviour_of g c_world p)) ts m)
