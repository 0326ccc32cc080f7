-- Arguments in the place of parameters, one after the other.
use Rattle.std.proofs.Common.{◌≡◌, ℕ, ◌==◌, Bool, true, false, cond, List, [], ◌∷◌, map, refl, ap, ◌∙◌}
use Rattle.std.specs.Prelude.{Option, Some, None}
use Rattle.exo_tree.specs.Tree.{Control, Var, Condition, Flag, Argument, ControlArg, ConditionArg, Whole, Window}
use Rattle.exo_tree.specs.Tree.{ParamKind, ControlParam, TensorParam, WindowParam, Param, Binder}
use Rattle.exo_tree.specs.Renaming.{re_param}
use Rattle.match_laws.specs.Inline.AtOnce.{Put, puts}
use Rattle.call_rewrites.specs.Sought.{Number, Truth, Buffer, argument_for}
use Rattle.call_rewrites.specs.Sought.{number_or, truth_or, buffer_or}

module _ (to : ℕ → ℕ) (y : ℕ) where
  abbrev there : List Param → List Argument → Put
  there ps args = puts (map (re_param to) ps) args

  -- what is found where one parameter more has an argument that may stand for it
  found : {A : Type 0} (look : Option Argument → A) (b : Bool) (a : Argument) (rest : Option Argument)
      → look (cond b (Some a) rest) ≡ cond b (look (Some a)) (look rest)
  found look true a rest = refl
  found look false a rest = refl

  pub numbers : (ps : List Param) (args : List Argument)
      → number_or y (argument_for Number to ps args y) ≡ (there ps args).variable y
  numbers [] args = refl
  numbers (p ∷ ps) [] = refl
  numbers (p ∷ ps) (a ∷ args) = by p.binder p.kind a (numbers ps args)
    where
      by : (x : Binder) (kind : ParamKind) (a : Argument)
          → number_or y (argument_for Number to ps args y) ≡ (there ps args).variable y
          → number_or y (argument_for Number to (record { binder = x; kind = kind } ∷ ps) (a ∷ args) y)
          ≡ (there (record { binder = x; kind = kind } ∷ ps) (a ∷ args)).variable y
      by x (ControlParam kind) (ControlArg e) h =
          found (number_or y) (y == to x.id) (ControlArg e) (argument_for Number to ps args y)
          ∙ ap (cond (y == to x.id) e) h
      by x (ControlParam kind) (ConditionArg c) h = h
      by x (ControlParam kind) (Whole z) h = h
      by x (ControlParam kind) (Window z cs) h = h
      by x (TensorParam cell dims memory) a h = h
      by x (WindowParam cell dims memory) a h = h

  pub truths : (ps : List Param) (args : List Argument)
      → truth_or y (argument_for Truth to ps args y) ≡ (there ps args).flag y
  truths [] args = refl
  truths (p ∷ ps) [] = refl
  truths (p ∷ ps) (a ∷ args) = by p.binder p.kind a (truths ps args)
    where
      by : (x : Binder) (kind : ParamKind) (a : Argument)
          → truth_or y (argument_for Truth to ps args y) ≡ (there ps args).flag y
          → truth_or y (argument_for Truth to (record { binder = x; kind = kind } ∷ ps) (a ∷ args) y)
          ≡ (there (record { binder = x; kind = kind } ∷ ps) (a ∷ args)).flag y
      by x (ControlParam kind) (ControlArg e) h = h
      by x (ControlParam kind) (ConditionArg c) h =
          found (truth_or y) (y == to x.id) (ConditionArg c) (argument_for Truth to ps args y)
          ∙ ap (cond (y == to x.id) c) h
      by x (ControlParam kind) (Whole z) h = h
      by x (ControlParam kind) (Window z cs) h = h
      by x (TensorParam cell dims memory) a h = h
      by x (WindowParam cell dims memory) a h = h

  pub buffers : (ps : List Param) (args : List Argument)
      → buffer_or y (argument_for Buffer to ps args y) ≡ (there ps args).name y
  buffers [] args = refl
  buffers (p ∷ ps) [] = refl
  buffers (p ∷ ps) (a ∷ args) = by p.binder p.kind a (buffers ps args)
    where
      by : (x : Binder) (kind : ParamKind) (a : Argument)
          → buffer_or y (argument_for Buffer to ps args y) ≡ (there ps args).name y
          → buffer_or y (argument_for Buffer to (record { binder = x; kind = kind } ∷ ps) (a ∷ args) y)
          ≡ (there (record { binder = x; kind = kind } ∷ ps) (a ∷ args)).name y
      by x (ControlParam kind) (ControlArg e) h = h
      by x (ControlParam kind) (ConditionArg c) h = h
      by x (ControlParam kind) (Whole z) h = h
      by x (ControlParam kind) (Window z cs) h = h
      by x (TensorParam cell dims memory) a h =
          found (buffer_or y) (y == to x.id) a (argument_for Buffer to ps args y)
          ∙ ap (cond (y == to x.id) a) h
      by x (WindowParam cell dims memory) a h =
          found (buffer_or y) (y == to x.id) a (argument_for Buffer to ps args y)
          ∙ ap (cond (y == to x.id) a) h

-- ---- by what the code has found

module _ (to : ℕ → ℕ) (y z : ℕ) (ps : List Param) (args : List Argument) (same : y ≡ z) where
  abbrev given : Put
  given = puts (map (re_param to) ps) args

  pub no_number : None ≡ argument_for Number to ps args y → Var y ≡ given.variable z
  no_number h = ap (number_or y) h ∙ numbers to y ps args ∙ ap given.variable same

  pub some_number : (a : Argument) (e : Control) → Some a ≡ argument_for Number to ps args y
      → e ≡ number_or y (Some a) → e ≡ given.variable z
  some_number a e h k =
      k ∙ ap (number_or y) h ∙ numbers to y ps args ∙ ap given.variable same

  pub no_truth : None ≡ argument_for Truth to ps args y → Flag y ≡ given.flag z
  no_truth h = ap (truth_or y) h ∙ truths to y ps args ∙ ap given.flag same

  pub some_truth : (a : Argument) (c : Condition) → Some a ≡ argument_for Truth to ps args y
      → c ≡ truth_or y (Some a) → c ≡ given.flag z
  some_truth a c h k = k ∙ ap (truth_or y) h ∙ truths to y ps args ∙ ap given.flag same

  pub no_buffer : None ≡ argument_for Buffer to ps args y → Whole y ≡ given.name z
  no_buffer h = ap (buffer_or y) h ∙ buffers to y ps args ∙ ap given.name same

  pub some_buffer : (a : Argument) → Some a ≡ argument_for Buffer to ps args y → a ≡ given.name z
  some_buffer a h = ap (buffer_or y) h ∙ buffers to y ps args ∙ ap given.name same
