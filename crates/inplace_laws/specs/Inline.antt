-- The operator inline.
use Rattle.meaning_laws.specs.Scoped.{has_binder}
use Rattle.std.specs.Prelude.{◌≡◌, not, ℕ, Bool, true, false, List, [], ◌∷◌, Some, IfSome, ⊤}
use Rattle.exo_tree.specs.Tree.{Kind, Argument, ControlArg, ConditionArg, Whole, Window, ParamKind}
use Rattle.exo_tree.specs.Tree.{ControlParam, TensorParam, WindowParam, Param, Call, Block, end}
use Rattle.exo_tree.specs.Tree.{next, Procedure}
use Rattle.exo_meaning.specs.State.{State}
use Rattle.exo_meaning.specs.Calls.{Callee, Given, all_given}
use Rattle.exo_meaning.specs.Run.{World, run, call_to, callee_in}
use Rattle.exo_meaning.specs.Run.{unit_world}
use Rattle.exo_meaning.specs.Inputs.{IsAdmissible, Refines, is_buffer_of}
use Rattle.exo_meaning.specs.Unseen.{in_block as mentions}
use Rattle.exo_tree.specs.Context.{Context, fill, rest_of}
use Rattle.meaning_laws.specs.Context.{ComesTo}
use Rattle.meaning_laws.specs.Copies.{IsFree}
use Rattle.meaning_laws.specs.Facts.{condition_has}
use Rattle.meaning_laws.specs.Flags.{in_block as with_condition}
use Rattle.meaning_laws.specs.Substitute.{has_variable, catches, in_block as with_number}
use Rattle.inplace_laws.specs.Steady.{is_steady, has_stride}
use Rattle.inplace_laws.specs.SteadyFlags.{is_steady_condition, condition_has_stride}
use Rattle.inplace_laws.specs.Windows.{root_in, coords_of, are_plain, coords_have}
use Rattle.inplace_laws.specs.Windows.{in_block as with_window}
use Rattle.inplace_laws.specs.CallInPlace.{MayRunInPlace}

-- ---- a world in which more can be called

pub record IsWider (w v : World) : Type 0 where
  pub kinds : (f : ℕ) → w.kinds f ≡ v.kinds f
  pub callees : (k : ℕ) (c : Callee) → w.callees k ≡ Some c → v.callees k ≡ Some c

abbrev pub WiderLaw : Type 0
WiderLaw =
    (w v : World) (b : Block) (s : State)
    → IsWider w v
    → IfSome (run w b s) (λ a. run v b s ≡ Some a)

-- ---- arguments in the place of parameters

abbrev pub with_argument : ℕ → ParamKind → Argument → Block → Block
with_argument x (ControlParam kind) (ControlArg e) b = with_number x e b
with_argument x (ControlParam kind) (ConditionArg c) b = with_condition x c b
with_argument x (ControlParam kind) (Whole y) b = b
with_argument x (ControlParam kind) (Window y coords) b = b
with_argument x (TensorParam cell dims memory) a b = with_window x a b
with_argument x (WindowParam cell dims memory) a b = with_window x a b

abbrev pub inlined : List Param → List Argument → Block → Block
inlined [] args b = b
inlined (p ∷ ps) [] b = b
inlined (p ∷ ps) (a ∷ args) b = inlined ps args (with_argument p.binder.id p.kind a b)

abbrev pub is_view : Argument → Bool
is_view (ControlArg e) = false
is_view (ConditionArg c) = false
is_view (Whole y) = true
is_view (Window y coords) = true

-- a window whose names the block does not bind
abbrev pub TakesWindow : (ℕ → Bool) → ℕ → Argument → Block → Type 0
TakesWindow params x a b =
    (is_view a ≡ true)
    × (are_plain (coords_of a) ≡ true)
    × (params (root_in a x) ≡ false)
    × ((y : ℕ) → coords_have (coords_of a) y ≡ true → (params y ≡ false) × (has_binder b y ≡ false))
    × (has_binder b x ≡ false)
    × (has_binder b (root_in a x) ≡ false)

abbrev pub Takes : (ℕ → Bool) → ℕ → ParamKind → Argument → Block → Type 0
Takes params x (ControlParam kind) (ControlArg e) b =
    (is_steady e ≡ true)
    × (catches x e b ≡ false)
    × ((y : ℕ) → has_variable e y ≡ true → params y ≡ false)
    × ((y : ℕ) → has_stride e y ≡ true → (params y ≡ false) × (has_binder b y ≡ false))
Takes params x (ControlParam kind) (ConditionArg c) b =
    (is_steady_condition c ≡ true)
    × (has_binder b x ≡ false)
    × ((y : ℕ) → condition_has c y ≡ true → (params y ≡ false) × (has_binder b y ≡ false))
    × ((y : ℕ)
    → condition_has_stride c y ≡ true
    → (params y ≡ false) × (has_binder b y ≡ false))
Takes params x (ControlParam kind) (Whole y) b = ⊥
Takes params x (ControlParam kind) (Window y coords) b = ⊥
Takes params x (TensorParam cell dims memory) a b = TakesWindow params x a b
Takes params x (WindowParam cell dims memory) a b = TakesWindow params x a b

abbrev pub TakesAll : (ℕ → Bool) → List Param → List Argument → Block → Type 0
TakesAll params [] args b = ⊤
TakesAll params (p ∷ ps) [] b = ⊤
TakesAll params (p ∷ ps) (a ∷ args) b =
    Takes params p.binder.id p.kind a b
    × TakesAll params ps args (with_argument p.binder.id p.kind a b)

abbrev pub is_param : Procedure → ℕ → Bool
is_param q x = is_buffer_of x q.params

abbrev pub not_own : (ℕ → Bool) → ℕ → Bool
not_own own x = not (own x)

pub record MayInline (world above : World) (own : ℕ → Bool) (p q : Procedure) (c : Context)
    (old : Block) (k : ℕ) (args : List Argument) : Type 0 where
  -- the callee, or one that is called alike, as the callee with other ids
  pub callee : (s : State)
      → call_to (world.callees k) args s ≡ call_to (Some (callee_in above q)) args s
  pub wider : IsWider above world
  pub call :
      (s u : State)
      → IsAdmissible world p s
      → ComesTo world old c s u
      → (gs : List Given)
      → all_given u.scene args ≡ Some gs
      → MayRunInPlace (not_own own) above q gs u
  pub takes : TakesAll (is_param q) q.params args q.body
  pub free : (x : ℕ) → own x ≡ true → IsFree p c x
  pub others :
      (x : ℕ)
      → own x ≡ false
      → (is_param q x ≡ false) × (has_binder (inlined q.params args q.body) x ≡ false)
  pub gone : mentions (is_param q) (inlined q.params args q.body) ≡ false
  pub rest : mentions own (rest_of c) ≡ false

-- own: the callee's names; above: the world in which its body runs; at each state that comes to the
-- place
abbrev pub InlineRefines : Type 0
InlineRefines =
    (kinds : ℕ → Kind) (ps : List Procedure) (p q : Procedure) (c : Context) (k : ℕ)
    (args : List Argument) (above : World) (own : ℕ → Bool)
    → let world = unit_world kinds ps in
    let call : Block = next (Call k args) end in
    let body = inlined q.params args q.body in
    p.body ≡ fill c call
    → MayInline world above own p q c call k args
    → Refines world p (record p { body = fill c body }) []

-- the other way
abbrev pub ReplaceRefines : Type 0
ReplaceRefines =
    (kinds : ℕ → Kind) (ps : List Procedure) (p q : Procedure) (c : Context) (k : ℕ)
    (args : List Argument) (above : World) (own : ℕ → Bool)
    → let world = unit_world kinds ps in
    let call : Block = next (Call k args) end in
    let body = inlined q.params args q.body in
    p.body ≡ fill c body
    → MayInline world above own p q c body k args
    → Refines world p (record p { body = fill c call }) []
