-- A call is a run of its body in place, in a scope of its own.
use Rattle.std.specs.Prelude.{◌≡◌, ◌==◌, if◌then◌else◌, ℕ, ℤ, Bool, true, false, List, [], ◌∷◌}
use Rattle.std.specs.Prelude.{Option, Some, None, option_map, ⊤}
use Rattle.exo_tree.specs.Tree.{Argument, ParamKind, ControlParam, TensorParam, WindowParam, Param}
use Rattle.exo_tree.specs.Tree.{Procedure}
use Rattle.exo_meaning.specs.Scene.{Shape, Seen, Scene, updated}
use Rattle.exo_meaning.specs.State.{State, scoped, on_scene}
use Rattle.exo_meaning.specs.Calls.{all_apart, Given, GivenNumber, GivenView, all_given, entered}
use Rattle.exo_meaning.specs.Calls.{returned}
use Rattle.exo_meaning.specs.Run.{World, run, writes, callee_in}
use Rattle.exo_meaning.specs.Inputs.{is_buffer_of}
use Rattle.inplace_laws.specs.Uses.{in_block}
use Rattle.meaning_laws.specs.Sound.{IsSound, IsUnbound}
use Rattle.inplace_laws.specs.InPlace.{makes}

-- ---- the parameters as names of numbers and windows

abbrev pub bind_control : ℕ → ParamKind → Given → (ℕ → ℤ) → ℕ → ℤ
bind_control x (ControlParam kind) (GivenNumber n) control = updated control x n
bind_control x (ControlParam kind) (GivenView seen) control = control
bind_control x (TensorParam cell dims memory) g control = control
bind_control x (WindowParam cell dims memory) g control = control

abbrev pub bind_controls : List Param → List Given → (ℕ → ℤ) → ℕ → ℤ
bind_controls [] gs control = control
bind_controls (p ∷ ps) [] control = control
bind_controls (p ∷ ps) (g ∷ gs) control =
    bind_controls ps gs (bind_control p.binder.id p.kind g control)

abbrev pub bind_view : ℕ → ParamKind → Given → (ℕ → Option Seen) → ℕ → Option Seen
bind_view x (ControlParam kind) g views = views
bind_view x (TensorParam cell dims memory) (GivenNumber n) views = views
bind_view x (TensorParam cell dims memory) (GivenView seen) views = updated views x (Some seen)
bind_view x (WindowParam cell dims memory) (GivenNumber n) views = views
bind_view x (WindowParam cell dims memory) (GivenView seen) views = updated views x (Some seen)

abbrev pub bind_views : List Param → List Given → (ℕ → Option Seen) → ℕ → Option Seen
bind_views [] gs views = views
bind_views (p ∷ ps) [] views = views
bind_views (p ∷ ps) (g ∷ gs) views = bind_views ps gs (bind_view p.binder.id p.kind g views)

abbrev pub bound : List Param → List Given → Scene → Scene
bound ps gs scene = record scene {
  control = bind_controls ps gs scene.control;
  views = bind_views ps gs scene.views;
}

-- ---- where the parameters' buffers are

abbrev pub seen_of : Given → Option Seen
seen_of (GivenNumber n) = None
seen_of (GivenView seen) = Some seen

abbrev pub base_of : List Param → List Given → ℕ → Option Seen
base_of [] gs x = None
base_of (p ∷ ps) [] x = None
base_of (p ∷ ps) (g ∷ gs) x = if x == p.binder.id then seen_of g else base_of ps gs x

-- an argument that is a window has the parameter's cell type
abbrev pub HasType : State → ParamKind → Given → Type 0
HasType s (ControlParam kind) g = ⊤
HasType s (TensorParam cell dims memory) (GivenNumber n) = ⊤
HasType s (TensorParam cell dims memory) (GivenView z) =
    (to : Shape) × (s.scene.buffers z.buffer ≡ Some to) × (cell ≡ to.cell)
HasType s (WindowParam cell dims memory) (GivenNumber n) = ⊤
HasType s (WindowParam cell dims memory) (GivenView z) =
    (to : Shape) × (s.scene.buffers z.buffer ≡ Some to) × (cell ≡ to.cell)

abbrev pub HaveTypes : State → List Param → List Given → Type 0
HaveTypes s [] gs = ⊤
HaveTypes s (p ∷ ps) [] = ⊤
HaveTypes s (p ∷ ps) (g ∷ gs) = HasType s p.kind g × HaveTypes s ps gs

abbrev pub AreDistinct : List Param → Type 0
AreDistinct [] = ⊤
AreDistinct (p ∷ ps) = (is_buffer_of p.binder.id ps ≡ false) × AreDistinct ps

abbrev pub no_name : ℕ → Bool
no_name x = false

abbrev pub every : ℕ → Bool
every x = true

-- the callee's names are unbound here, and its ids are distinct
pub record MayRunInPlace (hidden : ℕ → Bool) (world : World) (p : Procedure) (gs : List Given)
    (s : State) : Type 0 where
  pub sound : IsSound s
  pub names : in_block hidden no_name p.body ≡ false
  pub unbound : (x : ℕ) → hidden x ≡ false → IsUnbound s x
  pub params :
      (x : ℕ) → is_buffer_of x p.params ≡ true → (hidden x ≡ false) × (makes p.body x ≡ false)
  pub distinct : AreDistinct p.params
  pub types : HaveTypes s p.params gs

abbrev pub CallInPlace : Type 0
CallInPlace =
    (hidden : ℕ → Bool) (world : World) (p : Procedure) (args : List Argument) (gs : List Given)
    (s inner : State)
    → MayRunInPlace hidden world p gs s
    → all_apart (writes world (λ x. x) p.body) p.params gs ≡ true
    → all_given s.scene args ≡ Some gs
    → entered p.params gs s ≡ Some inner
    → option_map (returned (callee_in world p) gs s) (run world p.body inner)
    ≡ scoped (λ t. run world p.body (on_scene (bound p.params gs) t)) s
