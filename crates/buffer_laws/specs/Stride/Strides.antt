-- Strides that a block looks at, and blocks that do not see others.
use Rattle.std.specs.Prelude.{◌≡◌, ◌||◌, ℕ, Bool, true, false, List, [], ◌∷◌, ◌++◌}
use Rattle.std.specs.Prelude.{Option, Some, None, slice_get}
use Rattle.exo_tree.specs.Tree.{Kind, Argument, ControlArg, ConditionArg, Whole, Window, Param}
use Rattle.exo_tree.specs.Tree.{ParamKind, ControlParam, TensorParam}
use Rattle.exo_tree.specs.Tree.{WindowParam, Statement, Assign}
use Rattle.exo_tree.specs.Tree.{Reduce, Config, Pass, If, For, Alloc, View, Call, Block, end, next}
use Rattle.exo_tree.specs.Tree.{Procedure}
use Rattle.exo_meaning.specs.Scene.{Shape}
use Rattle.exo_meaning.specs.State.{State}
use Rattle.exo_meaning.specs.Calls.{Callee}
use Rattle.exo_meaning.specs.Laws.{HasRoots}
use Rattle.exo_meaning.specs.Modes.{call_has}
use Rattle.exo_meaning.specs.Refines.{Both}
use Rattle.exo_meaning.specs.Run.{World, run, roots_after, callee_in, world_of, unit_world}
use Rattle.inplace_laws.specs.Uses.{in_control, in_controls, in_condition, in_datum, in_coords}
use Rattle.buffer_laws.specs.Staging.Alone.{has_root}
use Rattle.inplace_laws.specs.CallInPlace.{no_name}

-- ---- trees

-- a control expression that is passed, or in a window that is passed, looks at a stride of y
abbrev pub argument_uses : (ℕ → ℕ) → ℕ → Argument → Bool
argument_uses root y (ControlArg e) = in_control no_name (has_root root y) e
argument_uses root y (ConditionArg c) = in_condition no_name (has_root root y) c
argument_uses root y (Whole x) = false
argument_uses root y (Window x coords) = in_coords no_name (has_root root y) coords

abbrev pub arguments_use : (ℕ → ℕ) → ℕ → List Argument → Bool
arguments_use root y [] = false
arguments_use root y (g ∷ gs) = argument_uses root y g || arguments_use root y gs

-- sees: the parameters of each procedure whose strides it looks at
module _ (called : ℕ → Option Callee) (sees : ℕ → ℕ → Bool) where
  -- the block looks at a stride of y or of a view of it, or passes a part of y to such a parameter
  abbrev mutual
    pub uses_strides : (ℕ → ℕ) → Block → ℕ → Bool
    uses_strides root end y = false
    uses_strides root (next a b) y =
        step_uses_strides root a y || uses_strides (roots_after a root) b y

    pub step_uses_strides : (ℕ → ℕ) → Statement → ℕ → Bool
    step_uses_strides root (Assign x is d) y =
        in_controls no_name (has_root root y) is || in_datum no_name (has_root root y) d
    step_uses_strides root (Reduce x is d) y =
        in_controls no_name (has_root root y) is || in_datum no_name (has_root root y) d
    step_uses_strides root (Config f g) y = argument_uses root y g
    step_uses_strides root Pass y = false
    step_uses_strides root (If c a b) y =
        in_condition no_name (has_root root y) c || (uses_strides root a y || uses_strides root b y)
    step_uses_strides root (For i lo hi b) y =
        in_control no_name (has_root root y) lo
        || (in_control no_name (has_root root y) hi || uses_strides root b y)
    step_uses_strides root (Alloc x cell dims memory) y = in_controls no_name (has_root root y) dims
    step_uses_strides root (View w x coords) y = in_coords no_name (has_root root y) coords
    step_uses_strides root (Call k gs) y =
        arguments_use root y gs || call_has (called k) (sees k) root y gs

-- a staged block may not use the strides of the window's buffer
abbrev pub is_stride_used : (ℕ → Option Callee) → (ℕ → ℕ → Bool) → (ℕ → ℕ) → ℕ → Block → Bool
is_stride_used called sees root x b = uses_strides called sees root b (root x)

-- ---- the procedures of a unit

-- in the dimensions of parameters, where the rules allow none
abbrev pub kind_uses : ℕ → ParamKind → Bool
kind_uses y (ControlParam kind) = false
kind_uses y (TensorParam cell dims memory) = in_controls no_name (has_root (λ x. x) y) dims
kind_uses y (WindowParam cell dims memory) = in_controls no_name (has_root (λ x. x) y) dims

abbrev pub params_use : ℕ → List Param → Bool
params_use y [] = false
params_use y (p ∷ ps) = kind_uses y p.kind || params_use y ps

-- the procedure looks at strides of parameter x, its assertions left out
abbrev pub sees_strides : World → (ℕ → ℕ → Bool) → Procedure → ℕ → Bool
sees_strides world sees p x =
    params_use x p.params || uses_strides world.callees sees (λ y. y) p.body x

abbrev pub sees_at : List (ℕ → Bool) → ℕ → ℕ → Bool
sees_at ss k = elim (slice_get ss k) [ None ↦ no_name | Some f ↦ f ]

abbrev pub all_see : (ℕ → Kind) → List Callee → List (ℕ → Bool) → List Procedure → List (ℕ → Bool)
all_see kinds above ss [] = ss
all_see kinds above ss (p ∷ ps) =
    let world = world_of kinds above in
    all_see kinds (above ++ callee_in world p ∷ []) (ss ++ sees_strides world (sees_at ss) p ∷ [])
    ps

abbrev pub stride_seen : (ℕ → Kind) → List Procedure → ℕ → ℕ → Bool
stride_seen kinds ps = sees_at (all_see kinds [] [] ps)

-- ---- states that differ in strides

pub record HaveOneSize (a b : Shape) : Type 0 where
  pub cell : a.cell ≡ b.cell
  pub dims : a.dims ≡ b.dims

-- the same but for the strides of these buffers
pub record SameButStrides (blind : ℕ → Bool) (s t : State) : Type 0 where
  pub control : s.scene.control ≡ t.scene.control
  pub views : s.scene.views ≡ t.scene.views
  pub fields : s.scene.fields ≡ t.scene.fields
  pub cells : s.cells ≡ t.cells
  pub buffers : (b : ℕ) → blind b ≡ false → s.scene.buffers b ≡ t.scene.buffers b
  pub sizes : (b : ℕ) → Both HaveOneSize (s.scene.buffers b) (t.scene.buffers b)

-- where both come to an end, the ends are related; an assertion on a stride may fail in one alone
abbrev pub WhereBoth : {A B : Type 0} → (A → B → Type 0) → Option A → Option B → Type 0
WhereBoth R None p = Unit {0}
WhereBoth R (Some a) None = Unit {0}
WhereBoth R (Some a) (Some b) = R a b

-- what uses a stride of y uses none of these buffers
abbrev pub UsesNone : (ℕ → Bool) → (ℕ → Bool) → Type 0
UsesNone blind uses = (y : ℕ) → blind y ≡ true → uses y ≡ false

-- where two states are the same but for strides that are not looked at, so are the ends
abbrev pub CalleeIsBlind : (ℕ → Bool) → Callee → Type 0
CalleeIsBlind sees c =
    (blind : ℕ → Bool) (s t : State)
    → UsesNone blind sees
    → HasRoots (λ x. x) s.scene
    → SameButStrides blind s t
    → WhereBoth (SameButStrides blind) (c.run s) (c.run t)

-- what each callee says of itself holds
pub record CallsAreBlind (world : World) (sees : ℕ → ℕ → Bool) : Type 0 where
  pub params : (k : ℕ) (c : Callee) (y : ℕ) → world.callees k ≡ Some c
      → sees k y ≡ false → params_use y c.procedure.params ≡ false
  pub runs : (k : ℕ) (c : Callee) → world.callees k ≡ Some c → CalleeIsBlind (sees k) c

abbrev pub BlindBlockLaw : Type 0
BlindBlockLaw =
    (world : World) (sees : ℕ → ℕ → Bool) (root : ℕ → ℕ) (blind : ℕ → Bool) (b : Block)
    (s t : State)
    → CallsAreBlind world sees
    → UsesNone blind (uses_strides world.callees sees root b)
    → HasRoots root s.scene
    → SameButStrides blind s t
    → WhereBoth (SameButStrides blind) (run world b s) (run world b t)

-- in a unit it does
abbrev pub BlindCallsLaw : Type 0
BlindCallsLaw =
    (kinds : ℕ → Kind) (ps : List Procedure)
    → CallsAreBlind (unit_world kinds ps) (stride_seen kinds ps)

abbrev pub BlindLaw : Type 0
BlindLaw =
    (kinds : ℕ → Kind) (ps : List Procedure) (root : ℕ → ℕ) (blind : ℕ → Bool) (b : Block)
    (s t : State)
    → let world = unit_world kinds ps in
    UsesNone blind (uses_strides world.callees (stride_seen kinds ps) root b)
    → HasRoots root s.scene
    → SameButStrides blind s t
    → WhereBoth (SameButStrides blind) (run world b s) (run world b t)
