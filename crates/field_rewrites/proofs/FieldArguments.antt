-- The argument that a field may stand for, found by its number.
use Rattle.std.proofs.Common.{◌≡◌, ℕ, zero, suc, Bool, true, false, List, [], ◌∷◌, Option, Some, None}
use Rattle.std.proofs.Common.{refl, sym, ap, ◌∙◌, if◌then◌else◌}
use Rattle.std.specs.Prelude.{not, option_map, option_and_then, slice_get, IfSome}
use Rattle.std.specs.Str.{bytes_eq}
use Rattle.exo_tree.specs.Tree.{Argument, ControlArg, ConditionArg, Whole, Window, Param, Procedure}
use Rattle.exo_tree.specs.Tree.{Statement, Assign, Reduce, Config, Pass, If, For, Alloc, View, Call}
use Rattle.config_laws.specs.BindConfig.{reads_any, asks_any, Bound, bound_here}
use Rattle.config_laws.specs.BindConfig.{behind_argument, bound_in, bound_by}
use Rattle.field_rewrites.specs.Binding.{is_bindable, field_for, named_in, with_field, bound_for}
use Rattle.field_rewrites.specs.Binding.{control_at, bound_of}
use Rattle.field_rewrites.specs.declared.calls.CallAt.{CallAt}
use Rattle.field_rewrites.specs.declared.bound.BoundAt.{BoundAt}
use Rattle.field_rewrites.specs.PlainCall.{call_of, plain_call}
use Rattle.field_rewrites.specs.PlainBound.{IsCallOf}
use Rattle.exo_meaning.specs.Units.{is_control_param}

module _ (f : ℕ) where
  either_way : (t : Bool) (b : Bound) → (if t then None else Some b) ≡ (if not t then Some b else None)
  either_way true b = refl
  either_way false b = refl

  here : (a : Argument) (rest : List Argument) → bound_here f a rest
      ≡ (if is_bindable a then Some (record { value = a; args = field_for f a ∷ rest }) else None)
  here (ControlArg e) rest = either_way (reads_any e) _
  here (ConditionArg c) rest = either_way (asks_any c) _
  here (Whole x) rest = refl
  here (Window x coords) rest = refl

  -- by the number of the parameter
  abbrev by_number : List Param → List Argument → ℕ → Option Bound
  by_number ps args k =
      if control_at ps k then option_and_then (bound_for f k args) (slice_get args k) else None

  no_arguments : (ps : List Param) (o : Option ℕ) → None ≡ option_and_then (by_number ps []) o
  no_arguments ps None = refl
  no_arguments ps (Some k) = go (control_at ps k) k
    where
      go : (t : Bool) (k : ℕ) → None
          ≡ (if t then option_and_then (bound_for f k []) (slice_get [] k) else None)
      go true zero = refl
      go true (suc k) = refl
      go false k = refl

  one_further : (p : Param) (ps : List Param) (a : Argument) (args : List Argument) (o : Option ℕ)
      → behind_argument a (option_and_then (by_number ps args) o)
      ≡ option_and_then (by_number (p ∷ ps) (a ∷ args)) (option_map suc o)
  one_further p ps a args None = refl
  one_further p ps a args (Some k) = go (control_at ps k) (slice_get args k)
    where
      taken : (b : Argument) (t : Bool)
          → behind_argument a (if t then Some (record { value = b; args = with_field f k args }) else None)
          ≡ (if t then Some (record { value = b; args = a ∷ with_field f k args }) else None)
      taken b true = refl
      taken b false = refl

      go : (t : Bool) (o : Option Argument)
          → behind_argument a (if t then option_and_then (bound_for f k args) o else None)
          ≡ (if t then option_and_then (bound_for f (suc k) (a ∷ args)) o else None)
      go true None = refl
      go true (Some b) = taken b (is_bindable b)
      go false o = refl

  pub bound_is : (x : List ℕ) (ps : List Param) (args : List Argument)
      → bound_in f x ps args ≡ bound_of f x ps args
  bound_is x [] args = refl
  bound_is x (p ∷ ps) [] = no_arguments (p ∷ ps) (named_in x (p ∷ ps))
  bound_is x (p ∷ ps) (a ∷ args) = go (bytes_eq p.binder.name x) (bound_is x ps args)
    where
      first : (t : Bool) → (if t then bound_here f a args else None)
          ≡ (if t then option_and_then (bound_for f zero (a ∷ args)) (Some a) else None)
      first true = here a args
      first false = refl

      go : (t : Bool) → bound_in f x ps args ≡ bound_of f x ps args
          → (if t then (if is_control_param p.kind then bound_here f a args else None)
          else behind_argument a (bound_in f x ps args))
          ≡ option_and_then (by_number (p ∷ ps) (a ∷ args))
          (if t then Some zero else option_map suc (named_in x ps))
      go true same = first (is_control_param p.kind)
      go false same = ap (behind_argument a) same ∙ one_further p ps a args (named_in x ps)

-- ---- in a call

module _ (ps : List Procedure) (x : List ℕ) (f : ℕ) where
  abbrev in_call : Option (ℕ × List Argument) → Option Bound
  in_call None = None
  in_call (Some c) =
      option_and_then (λ (q : Procedure). bound_of f x q.params c.1) (slice_get ps c.0)

  in_callee : (args : List Argument) (o : Option Procedure)
      → option_and_then (λ (q : Procedure). bound_in f x q.params args) o
      ≡ option_and_then (λ (q : Procedure). bound_of f x q.params args) o
  in_callee args None = refl
  in_callee args (Some q) = bound_is f x q.params args

  pub bound_by_call : (s : Option Statement) → bound_by ps x f s ≡ in_call (call_of s)
  bound_by_call None = refl
  bound_by_call (Some (Call k args)) = in_callee args (slice_get ps k)
  bound_by_call (Some (Assign y is e)) = refl
  bound_by_call (Some (Reduce y is e)) = refl
  bound_by_call (Some (Config g e)) = refl
  bound_by_call (Some Pass) = refl
  bound_by_call (Some (If c a b)) = refl
  bound_by_call (Some (For i lo hi b)) = refl
  bound_by_call (Some (Alloc y cell dims memory)) = refl
  bound_by_call (Some (View w y coords)) = refl

-- what is bound belongs to the call that was found
pub of_call : (s : Option Statement) (call : CallAt) (found : Option BoundAt)
    → Some (plain_call call) ≡ call_of s → IfSome found (λ b. b.call ≡ call) → IsCallOf s found
of_call s call None h e = tt
of_call s call (Some b) h e = sym h ∙ ap (λ (c : CallAt). Some (plain_call c)) (sym e)

module _ (ps : List Procedure) (x : List ℕ) (s : Option Statement) where
  by_call : (f : ℕ) (c : Option (ℕ × List Argument)) → c ≡ call_of s
      → in_call ps x f c ≡ bound_by ps x f s
  by_call f c h = ap (in_call ps x f) h ∙ sym (bound_by_call ps x f s)

  pub nothing_called : None ≡ call_of s → (f : ℕ) → None ≡ bound_by ps x f s
  nothing_called h f = by_call f None h

  module _ (c : ℕ × List Argument) (h : Some c ≡ call_of s) where
    pub nobody_called : None ≡ slice_get ps c.0 → (f : ℕ) → None ≡ bound_by ps x f s
    nobody_called e f =
        ap (option_and_then (λ (q : Procedure). bound_of f x q.params c.1)) e ∙ by_call f (Some c) h

    pub somebody_called : (q : Procedure) → Some q ≡ slice_get ps c.0
        → (f : ℕ) → bound_of f x q.params c.1 ≡ bound_by ps x f s
    somebody_called q e f =
        ap (option_and_then (λ (q : Procedure). bound_of f x q.params c.1)) e ∙ by_call f (Some c) h
