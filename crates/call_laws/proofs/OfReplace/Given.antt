-- What is put for the parameters of a matched callee mentions none of them.
use Rattle.std.proofs.Common.{◌≡◌, ℕ, ◌==◌, Bool, true, false, List, [], ◌∷◌, Option, Some, None}
use Rattle.std.proofs.Common.{IfSome, if◌then◌else◌, map, refl, sym, ap, ap₂, ◌∙◌, true≢false, eqb-true}
use Rattle.std.proofs.Common.{eq-eqb, not}
use Rattle.exo_tree.specs.Tree.{Control, Condition, Argument, ControlArg, ConditionArg, Whole, Window}
use Rattle.exo_tree.specs.Tree.{ParamKind, ControlParam, TensorParam, WindowParam, Param, Block}
use Rattle.exo_tree.specs.Tree.{Procedure}
use Rattle.exo_tree.specs.Renaming as tree
use Rattle.exo_meaning.specs.Renaming.{Renaming}
use Rattle.exo_meaning.specs.Unseen.{in_control, in_condition, in_coords, in_argument, in_arguments}
use Rattle.exo_meaning.proofs.Frame.{or_parts}
use Rattle.affine_forms.proofs.Values.{some_injective, none_some}
use Rattle.inplace_laws.specs.Inline.{is_view}
use Rattle.inplace_laws.specs.Windows.{root_in, coords_of}
use Rattle.affine_forms.specs.Forms.{Reading}
use Rattle.match_laws.specs.Names.{Names}
use Rattle.match_laws.specs.RenamedCallee.{re_kind, re_param, re_params}
use Rattle.match_laws.specs.Matched.{number_in, truth_in}
use Rattle.match_laws.specs.Inline.AtOnce.{Put, puts, with_put}
use Rattle.match_laws.specs.Inline.MatchLaw.{dims_if, dims_of, is_known}
use Rattle.match_laws.specs.Inline.MovedIsPut.{is_of_kind, are_of_kinds}
use Rattle.match_laws.proofs.RenamedCallee.{same_ids}
use Rattle.affine_forms.proofs.Values.{and_parts}
use Rattle.check_claims.specs.Arguments.{passed_for}

no : {P : Type 0} → false ≡ true → P
no h = absurd (true≢false (sym h))

-- an argument for each parameter
abbrev pub AsMany : List Param → List Argument → Type 0
AsMany [] args = Unit {0}
AsMany (p ∷ ps) [] = ⊥
AsMany (p ∷ ps) (a ∷ args) = AsMany ps args

module _ (hidden : ℕ → Bool) where
  -- one of the arguments
  number_clear : (a : Argument) (f : Control) → in_argument hidden a ≡ false
      → number_in (Some a) ≡ Some f → in_control hidden f ≡ false
  number_clear (ControlArg e) f h k = ap (in_control hidden) (sym (some_injective e f k)) ∙ h
  number_clear (ConditionArg c) f h k = absurd (none_some k)
  number_clear (Whole y) f h k = absurd (none_some k)
  number_clear (Window y cs) f h k = absurd (none_some k)

  truth_clear : (a : Argument) (c : Condition) → in_argument hidden a ≡ false
      → truth_in (Some a) ≡ Some c → in_condition hidden c ≡ false
  truth_clear (ControlArg e) c h k = absurd (none_some k)
  truth_clear (ConditionArg d) c h k = ap (in_condition hidden) (sym (some_injective d c k)) ∙ h
  truth_clear (Whole y) c h k = absurd (none_some k)
  truth_clear (Window y cs) c h k = absurd (none_some k)

  -- what is read of a known argument
  pub number_given : (o : Option Argument) (e : Control) → IfSome o (λ a. in_argument hidden a ≡ false)
      → is_known (number_in o) ≡ true → IfSome (number_in o) (λ f. f ≡ e) → in_control hidden e ≡ false
  number_given None e h k i = no k
  number_given (Some a) e h k i = go (number_in (Some a)) refl k i
    where
      go : (o : Option Control) → number_in (Some a) ≡ o → is_known o ≡ true → IfSome o (λ f. f ≡ e)
          → in_control hidden e ≡ false
      go None j l m = no l
      go (Some f) j l m = ap (in_control hidden) (sym m) ∙ number_clear a f h j

  pub truth_given : (o : Option Argument) (c : Condition) → IfSome o (λ a. in_argument hidden a ≡ false)
      → is_known (truth_in o) ≡ true → IfSome (truth_in o) (λ d. d ≡ c) → in_condition hidden c ≡ false
  truth_given None c h k i = no k
  truth_given (Some a) c h k i = go (truth_in (Some a)) refl k i
    where
      go : (o : Option Condition) → truth_in (Some a) ≡ o → is_known o ≡ true → IfSome o (λ d. d ≡ c)
          → in_condition hidden c ≡ false
      go None j l m = no l
      go (Some d) j l m = ap (in_condition hidden) (sym m) ∙ truth_clear a d h j

  -- a view and its parts
  pub view_parts : (a : Argument) (w : ℕ) → is_view a ≡ true → in_argument hidden a ≡ false
      → (hidden (root_in a w) ≡ false) × (in_coords hidden (coords_of a) ≡ false)
  view_parts (ControlArg e) w v h = no v
  view_parts (ConditionArg c) w v h = no v
  view_parts (Whole y) w v h = (h, refl)
  view_parts (Window y cs) w v h = or_parts (hidden y) (in_coords hidden cs) h

  -- what is put for a buffer parameter is one of the arguments
  named_dims : (x i : ℕ) (kind : ParamKind) (a : Argument) (put : Put)
      (rest : Option (List Control)) (dims : List Control) → in_argument hidden a ≡ false
      → (rest ≡ Some dims → in_argument hidden (put.name x) ≡ false)
      → dims_if kind (x == i) rest ≡ Some dims
      → in_argument hidden ((with_put i kind a put).name x) ≡ false
  named_dims x i (ControlParam kind) (ControlArg e) put rest dims h k l = k l
  named_dims x i (ControlParam kind) (ConditionArg c) put rest dims h k l = k l
  named_dims x i (ControlParam kind) (Whole y) put rest dims h k l = k l
  named_dims x i (ControlParam kind) (Window y cs) put rest dims h k l = k l
  named_dims x i (TensorParam cell own memory) a put rest dims h k l = go (x == i) l
    where
      go : (t : Bool) → (if t then Some own else rest) ≡ Some dims
          → in_argument hidden (if t then a else put.name x) ≡ false
      go true m = h
      go false m = k m
  named_dims x i (WindowParam cell own memory) a put rest dims h k l = go (x == i) l
    where
      go : (t : Bool) → (if t then Some own else rest) ≡ Some dims
          → in_argument hidden (if t then a else put.name x) ≡ false
      go true m = h
      go false m = k m

  pub name_given : (ps : List Param) (args : List Argument) (x : ℕ) (dims : List Control)
      → AsMany ps args → in_arguments hidden args ≡ false → dims_of ps x ≡ Some dims
      → in_argument hidden ((puts ps args).name x) ≡ false
  name_given [] args x dims m h e = absurd (none_some e)
  name_given (p ∷ ps) [] x dims m h e = absurd m
  name_given (p ∷ ps) (a ∷ args) x dims m h e =
      let q = or_parts (in_argument hidden a) (in_arguments hidden args) h in
      named_dims x p.binder.id p.kind a (puts ps args) (dims_of ps x) dims q.0
      (λ k. name_given ps args x dims m q.1 k) e

pub given_clear : (hidden : ℕ → Bool) (at : Reading) (theirs : Names) (block : Block) (q : Procedure)
    (ps : List Param) (args : List Argument) (x : ℕ) → in_arguments hidden args ≡ false
    → IfSome (passed_for ps args x) (λ a. in_argument hidden a ≡ false)
given_clear hidden at theirs block q [] args x h = tt
given_clear hidden at theirs block q (p ∷ ps) [] x h = tt
given_clear hidden at theirs block q (p ∷ ps) (a ∷ args) x h =
    let k = or_parts (in_argument hidden a) (in_arguments hidden args) h in
    go (p.binder.id == x) k.0 (given_clear hidden at theirs block q ps args x k.1)
  where
    go : (t : Bool) → in_argument hidden a ≡ false
        → IfSome (passed_for ps args x) (λ a. in_argument hidden a ≡ false)
        → IfSome (if t then Some a else passed_for ps args x) (λ a. in_argument hidden a ≡ false)
    go true i k = i
    go false i k = k

-- ---- parameters under other ids

pub params_same : (r : Renaming) (ps : List Param) → map (tree.re_param r.to) ps ≡ re_params r ps
params_same r [] = refl
params_same r (p ∷ ps) = ap (λ (qs : List Param). re_param r p ∷ qs) (params_same r ps)

-- a view that is given for a parameter is put for it
pub name_is : (r : Renaming) (ps : List Param) (args : List Argument) (x : ℕ)
    → are_of_kinds (re_params r ps) args ≡ true
    → IfSome (passed_for ps args x) (λ a. is_view a ≡ true → (puts (re_params r ps) args).name (r.to x) ≡ a)
name_is r [] args x h = tt
name_is r (p ∷ ps) [] x h = tt
name_is r (p ∷ ps) (a ∷ args) x h =
    let k = and_parts (is_of_kind (re_kind r p.kind) a) (are_of_kinds (re_params r ps) args) h in
    go (p.binder.id == x) refl k.0 (name_is r ps args x k.1)
  where
    put : Put
    put = puts (re_params r ps) args

    flipped : (t : Bool) → (p.binder.id == x) ≡ t → (r.to x == r.to p.binder.id) ≡ t
    flipped true e = eq-eqb (r.to x) (r.to p.binder.id) (ap r.to (sym (eqb-true p.binder.id x e)))
    flipped false e = other (r.to x == r.to p.binder.id) refl
      where
        other : (t : Bool) → (r.to x == r.to p.binder.id) ≡ t → t ≡ false
        other true f = no (sym e ∙ eq-eqb p.binder.id x
            (sym (eqb-true x p.binder.id (sym (same_ids r x p.binder.id) ∙ f))))
        other false f = refl

    this : (kind : ParamKind) (a : Argument) → is_of_kind (re_kind r kind) a ≡ true
        → (r.to x == r.to p.binder.id) ≡ true → is_view a ≡ true
        → (with_put (r.to p.binder.id) (re_kind r kind) a put).name (r.to x) ≡ a
    this (ControlParam kind) a i e v = no (sym (ap not v) ∙ i)
    this (TensorParam cell dims memory) a i e v = ap (λ t. if t then a else put.name (r.to x)) e
    this (WindowParam cell dims memory) a i e v = ap (λ t. if t then a else put.name (r.to x)) e

    later : (kind : ParamKind) (a : Argument) → (r.to x == r.to p.binder.id) ≡ false
        → (with_put (r.to p.binder.id) (re_kind r kind) a put).name (r.to x) ≡ put.name (r.to x)
    later (ControlParam kind) (ControlArg e) f = refl
    later (ControlParam kind) (ConditionArg c) f = refl
    later (ControlParam kind) (Whole y) f = refl
    later (ControlParam kind) (Window y cs) f = refl
    later (TensorParam cell dims memory) a f = ap (λ t. if t then a else put.name (r.to x)) f
    later (WindowParam cell dims memory) a f = ap (λ t. if t then a else put.name (r.to x)) f

    under : (o : Option Argument) (name : Argument) → name ≡ put.name (r.to x)
        → IfSome o (λ b. is_view b ≡ true → put.name (r.to x) ≡ b)
        → IfSome o (λ b. is_view b ≡ true → name ≡ b)
    under None name e i = tt
    under (Some b) name e i = λ v. e ∙ i v

    go : (t : Bool) → (p.binder.id == x) ≡ t → is_of_kind (re_kind r p.kind) a ≡ true
        → IfSome (passed_for ps args x) (λ b. is_view b ≡ true → put.name (r.to x) ≡ b)
        → IfSome (if t then Some a else passed_for ps args x)
        (λ b. is_view b ≡ true → (with_put (r.to p.binder.id) (re_kind r p.kind) a put).name (r.to x) ≡ b)
    go true e i rest = this p.kind a i (flipped true e)
    go false e i rest =
        under (passed_for ps args x) ((with_put (r.to p.binder.id) (re_kind r p.kind) a put).name (r.to x))
        (later p.kind a (flipped false e)) rest
