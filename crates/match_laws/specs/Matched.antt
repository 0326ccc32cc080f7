-- The match of a block with a callee's body: the arguments of the call that may stand for the
-- block.
use Rattle.std.specs.Prelude.{◌≡◌, ℕ, ◌==◌, nat_lt, Bool, true, false, ◌&&◌, ◌||◌, not, List, []}
use Rattle.std.specs.Prelude.{◌∷◌, length, if◌then◌else◌, Option, Some, None, Result, Ok, Err}
use Rattle.exo_tree.specs.Tree.{Control, Var, StrideOf}
use Rattle.exo_tree.specs.Tree.{Condition, Flag, Argument, ControlArg, ConditionArg, Whole, Window}
use Rattle.exo_tree.specs.Tree.{ParamKind, ControlParam, TensorParam, WindowParam, Param, Block}
use Rattle.exo_tree.specs.Tree.{Procedure}
use Rattle.exo_tree.specs.Places.{Path}
use Rattle.exo_tree.specs.Passed.{passed_for}
use Rattle.exo_meaning.specs.Unseen.{in_control as mentions, in_condition as condition_mentions}
use Rattle.affine_forms.specs.Forms.{Reading}
use Rattle.meaning_laws.specs.Scoped.{has_binder}
use Rattle.inplace_laws.specs.Inline.{is_param}
use Rattle.inplace_laws.specs.Windows.{nth_span}
use Rattle.match_laws.specs.Names.{Names, names_of}
use Rattle.match_laws.specs.Pairs.{Pair, Numbers, Truths, Binders, Own, Access, Unlike, paired}
use Rattle.match_laws.specs.Moved.{Moving, moved, moved_condition, agree, conditions_agree}
use Rattle.match_laws.specs.Windows.{Use, uses_of, argument_of}

-- the arguments; or the path in the callee's body of the first statement that differs; or the
-- first parameter that no place determines
pub data Matched : Type 0 where
  Arguments : List Argument → Matched
  NoMatch : Path → Matched
  Undetermined : ℕ → Matched

-- ---- what determines a control parameter

pub record Known : Type 0 where
  pub param : ℕ
  pub argument : Argument

abbrev pub variable_of : Control → Option ℕ
variable_of (Var x) = Some x
variable_of e = None

abbrev pub flag_of : Condition → Option ℕ
flag_of (Flag x) = Some x
flag_of c = None

abbrev pub known_if : (ℕ → Bool) → Argument → Option ℕ → Option Known
known_if params a None = None
known_if params a (Some x) = if params x then Some (record { param = x; argument = a }) else None

-- the whole of a bound or of a written value that is a parameter
abbrev pub known_by : (ℕ → Bool) → Pair → Option Known
known_by params (Numbers p true e g) = known_if params (ControlArg g) (variable_of e)
known_by params (Truths p true c d) = known_if params (ConditionArg d) (flag_of c)
known_by params _ = None

abbrev pub argument_if : ℕ → Option Known → Option Argument
argument_if x None = None
argument_if x (Some k) = if k.param == x then Some k.argument else None

-- by the first such place
abbrev pub argument_in : (ℕ → Bool) → List Pair → ℕ → Option Argument
argument_in params [] x = None
argument_in params (a ∷ pairs) x =
    elim (argument_if x (known_by params a)) [
      | None ↦ argument_in params pairs x
      | Some argument ↦ Some argument
    ]

-- ---- up to where the walk goes

abbrev pub partner_if : ℕ → Pair → Option ℕ
partner_if x (Binders a b) = if a == x then Some b else None
partner_if x _ = None

-- the block's binder that corresponds to one of the callee's
abbrev pub partner : List Pair → ℕ → Option ℕ
partner [] x = None
partner (a ∷ pairs) x = elim (partner_if x a) [ None ↦ partner pairs x | Some y ↦ Some y ]

abbrev pub is_partner : ℕ → Option ℕ → Bool
is_partner y None = false
is_partner y (Some z) = y == z

abbrev pub holds_bound : (ℕ → Bool) → Argument → Bool
holds_bound bound (ControlArg e) = mentions bound e
holds_bound bound (ConditionArg c) = condition_mentions bound c
holds_bound bound (Whole x) = false
holds_bound bound (Window x cs) = false

-- the place that determines a parameter differs where the argument holds a name bound in the block
abbrev pub is_caught : (ℕ → Bool) → (ℕ → Bool) → Option Known → Bool
is_caught seen bound None = false
is_caught seen bound (Some k) = not (seen k.param) && holds_bound bound k.argument

abbrev pub seen_with : Option Known → (ℕ → Bool) → ℕ → Bool
seen_with None seen x = seen x
seen_with (Some k) seen x = (x == k.param) || seen x

abbrev pub is_own_unlike : (ℕ → Option ℕ) → Pair → Bool
is_own_unlike to (Numbers p whole e g) = false
is_own_unlike to (Truths p whole c d) = false
is_own_unlike to (Binders a b) = false
is_own_unlike to (Own p x y) = not (is_partner y (to x))
is_own_unlike to (Access p a cs y ds) = false
is_own_unlike to (Unlike p) = true

abbrev pub path_of : Pair → Path
path_of (Numbers p whole e g) = p
path_of (Truths p whole c d) = p
path_of (Binders a b) = []
path_of (Own p x y) = p
path_of (Access p a cs y ds) = p
path_of (Unlike p) = p

module _ (params bound : ℕ → Bool) (to : ℕ → Option ℕ) where
  abbrev pub ends_at : (ℕ → Bool) → Pair → Bool
  ends_at seen a = is_own_unlike to a || is_caught seen bound (known_by params a)

  abbrev pub walked : (ℕ → Bool) → List Pair → List Pair
  walked seen [] = []
  walked seen (a ∷ pairs) =
      if ends_at seen a then Unlike (path_of a) ∷ []
      else a ∷ walked (seen_with (known_by params a) seen) pairs

-- ---- the callee's expressions in the block's names

abbrev pub number_in : Option Argument → Option Control
number_in None = None
number_in (Some (ControlArg e)) = Some e
number_in (Some (ConditionArg c)) = None
number_in (Some (Whole x)) = None
number_in (Some (Window x cs)) = None

abbrev pub truth_in : Option Argument → Option Condition
truth_in None = None
truth_in (Some (ControlArg e)) = None
truth_in (Some (ConditionArg c)) = Some c
truth_in (Some (Whole x)) = None
truth_in (Some (Window x cs)) = None

abbrev pub stride_in : Option Argument → ℕ → Option Control
stride_in None k = None
stride_in (Some (ControlArg e)) k = None
stride_in (Some (ConditionArg c)) k = None
stride_in (Some (Whole y)) k = Some (StrideOf y k)
stride_in (Some (Window y cs)) k = Some (StrideOf y (nth_span cs k))

abbrev pub variable_for : Option ℕ → Option Control
variable_for None = None
variable_for (Some y) = Some (Var y)

abbrev pub stride_for : Option ℕ → ℕ → Option Control
stride_for None k = None
stride_for (Some y) k = Some (StrideOf y k)

-- given: the argument of each parameter, where it is known
abbrev pub moving : (ℕ → Bool) → (ℕ → Option ℕ) → (ℕ → Option Argument) → Moving
moving params to given = record {
  variable = λ x. if params x then number_in (given x) else variable_for (to x);
  flag = λ x. truth_in (given x);
  stride = λ x k. if params x then stride_in (given x) k else stride_for (to x) k;
}

-- ---- what differs

abbrev pub number_differs : Reading → Control → Option Control → Bool
number_differs at g None = false
number_differs at g (Some f) = not (agree at f g)

abbrev pub truth_differs : Reading → Condition → Option Condition → Bool
truth_differs at d None = false
truth_differs at d (Some c) = not (conditions_agree at c d)

-- an expression with a parameter that is not known does not differ
abbrev pub differs : Reading → Moving → Pair → Bool
differs at m (Numbers p whole e g) = number_differs at g (moved m e)
differs at m (Truths p whole c d) = truth_differs at d (moved_condition m c)
differs at m (Binders x y) = false
differs at m (Own p x y) = false
differs at m (Access p x cs y ds) = false
differs at m (Unlike p) = true

abbrev pub first_difference : Reading → Moving → List Pair → Option Path
first_difference at m [] = None
first_difference at m (a ∷ pairs) =
    if differs at m a then Some (path_of a) else first_difference at m pairs

-- ---- the arguments

abbrev pub first_path : List Use → Path
first_path [] = []
first_path (u ∷ us) = u.path

abbrev pub or_differs : Path → Option Argument → Result Argument Path
or_differs p None = Err p
or_differs p (Some a) = Ok a

abbrev pub with_first :
    Result Argument Path → Result (List Argument) Path → Result (List Argument) Path
with_first (Err p) rest = Err p
with_first (Ok a) (Err p) = Err p
with_first (Ok a) (Ok args) = Ok (a ∷ args)

-- of the callee alone: no place determines it, or it has no access
abbrev pub is_undetermined : (ℕ → Bool) → List Pair → Param → Bool
is_undetermined params own p =
    elim p.kind [
      | ControlParam kind ↦ elim (argument_in params own p.binder.id) [ None ↦ true | Some a ↦ false ]
      | TensorParam cell dims memory ↦ length (uses_of p.binder.id own) == 0
      | WindowParam cell dims memory ↦ length (uses_of p.binder.id own) == 0
    ]

abbrev pub first_undetermined : (ℕ → Bool) → List Pair → List Param → Option ℕ
first_undetermined params own [] = None
first_undetermined params own (p ∷ ps) =
    if is_undetermined params own p then Some p.binder.id else first_undetermined params own ps

-- at: what an expression of the block reads; theirs: the names of the block's procedure
module _ (at : Reading) (theirs : Names) (block : Block) (q : Procedure) where
  abbrev pub params : ℕ → Bool
  params = is_param q

  abbrev pub all_pairs : List Pair
  all_pairs = paired params (has_binder block) (names_of q) theirs q.body block

  -- the callee's body against itself has all places
  abbrev pub own_pairs : List Pair
  own_pairs = paired params (λ x. false) (names_of q) (names_of q) q.body q.body

  abbrev pub to : ℕ → Option ℕ
  to = partner all_pairs

  abbrev pub walk : List Pair
  walk = walked params (has_binder block) to (λ x. false) all_pairs

  abbrev pub by_walk : Moving
  by_walk = moving params to (argument_in params walk)

  abbrev pub buffer_argument : ℕ → List Control → Bool → Result Argument Path
  buffer_argument x dims tensor =
      let uses = uses_of x walk in
      let whole = tensor && nat_lt 0 (length dims) in
      or_differs (first_path uses)
      (argument_of at by_walk (has_binder block) whole dims theirs uses)

  abbrev pub argument_for : ℕ → ParamKind → Result Argument Path
  argument_for x (ControlParam kind) = or_differs [] (argument_in params walk x)
  argument_for x (TensorParam cell dims memory) = buffer_argument x dims true
  argument_for x (WindowParam cell dims memory) = buffer_argument x dims false

  abbrev pub arguments_for : List Param → Result (List Argument) Path
  arguments_for [] = Ok []
  arguments_for (p ∷ ps) = with_first (argument_for p.binder.id p.kind) (arguments_for ps)

  -- strides of parameters are compared once the arguments are found
  abbrev pub with_strides : Result (List Argument) Path → Matched
  with_strides (Err p) = NoMatch p
  with_strides (Ok args) =
      elim (first_difference at (moving params to (passed_for q.params args)) walk) [
        | None ↦ Arguments args
        | Some p ↦ NoMatch p
      ]

  abbrev pub matched : Matched
  matched =
      elim (first_undetermined params own_pairs q.params) [
        | Some x ↦ Undetermined x
        | None ↦ elim (first_difference at by_walk walk) [
          | Some p ↦ NoMatch p
          | None ↦ with_strides (arguments_for q.params)
        ]
      ]

abbrev pub OneForEach : Type 0
OneForEach =
    (at : Reading) (theirs : Names) (block : Block) (q : Procedure) (args : List Argument)
    → matched at theirs block q ≡ Arguments args
    → length args ≡ length q.params
