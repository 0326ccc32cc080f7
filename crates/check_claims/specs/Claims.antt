-- What a procedure has to show, in text order: indices, windows and extents within their buffers, sizes of at least 1, and the
-- assertions of the procedures that it calls.
use Rattle.std.specs.Prelude.{ℕ, suc, pos, ◌==◌, Bool, false, ◌&&◌, ◌||◌, if◌then◌else◌}
use Rattle.std.specs.Prelude.{List, [], ◌∷◌, ◌++◌, map, flat_map, Option, Some, None, option_map}
use Rattle.std.specs.Prelude.{slice_get}
use Rattle.exo_tree.specs.Tree.{Kind, Size, Control, Lit, Condition, Le, Lt, Eq, Datum, Const, Read}
use Rattle.exo_tree.specs.Tree.{Negated, Relu, Plus, Minus, Times, Select, Coord, At, Span}
use Rattle.exo_tree.specs.Tree.{Argument, ControlArg, ConditionArg, Whole, Window, Statement}
use Rattle.exo_tree.specs.Tree.{Assign, Reduce, Config, Pass, If, For, Alloc, View, Call, Block}
use Rattle.exo_tree.specs.Tree.{end, next, ControlParam, TensorParam, WindowParam, Param, Procedure}
use Rattle.exo_tree.specs.Tree.{Program}
use Rattle.exo_tree.specs.Places.{Branch, Main, Else, Path, statement_at, path_below}
use Rattle.exo_meaning.specs.Run.{kinds_of}
use Rattle.exo_meaning.specs.Modes.{Writing, Reducing, unit_modes}
use Rattle.exo_meaning.specs.Units.{field_kind}
use Rattle.affine_places.specs.Roots.{Roots, roots_of}
use Rattle.text_show.specs.Words.{Words, words_of}
use Rattle.text_show.specs.ControlText.{condition_text}
use Rattle.check_claims.specs.Pairs.{flat_zip}
use Rattle.check_claims.specs.Claim.{Claim, Is, Apart, Placed}
use Rattle.check_claims.specs.Extents.{Extents, span_extents, dims_of, extents_of}
use Rattle.check_claims.specs.Arguments.{control_under, condition_under}

-- an assertion of a callee under the arguments, with its text as the callee writes it
abbrev pub asserted : Words → List Param → List Argument → Condition → Claim
asserted callee params args c = Is (condition_under params args c) (condition_text callee c)

-- ---- windows of one buffer in one call

-- the buffer that an argument is a part of
abbrev pub passed_root : Roots → Argument → Option ℕ
passed_root roots (ControlArg a) = None
passed_root roots (ConditionArg c) = None
passed_root roots (Whole x) = option_map (λ r. r.root) (roots x)
passed_root roots (Window x coords) = option_map (λ r. r.root) (roots x)

-- parameter x of the procedure of that number is written or reduced
abbrev pub written_by : Program → ℕ → ℕ → Bool
written_by u k x =
    let modes = unit_modes (kinds_of u.fields) u.procedures k in
    modes Writing x || modes Reducing x

module _ (roots : Roots) (writes : ℕ → Bool) where
  abbrev pub share_root : Argument → Argument → Bool
  share_root a b = elim (passed_root roots a) [
    | None ↦ false
    | Some x ↦ elim (passed_root roots b) [ None ↦ false | Some y ↦ x == y ]
  ]

  -- parts of one buffer are passed for two parameters, and the callee writes or reduces one of these
  abbrev pub must_be_apart : Param → Argument → Param → Argument → Bool
  must_be_apart p a q b = share_root a b && (writes p.binder.id || writes q.binder.id)

  -- of the argument of number j with those from number k on
  abbrev pub pairs_with : ℕ → Param → Argument → ℕ → List Param → List Argument → List Claim
  pairs_with j p a k [] args = []
  pairs_with j p a k (q ∷ qs) [] = []
  pairs_with j p a k (q ∷ qs) (b ∷ args) =
      (if must_be_apart p a q b then Apart j k ∷ [] else [])
      ++ pairs_with j p a (suc k) qs args

  -- of those from number j on, in the order of the first and then of the second
  abbrev pub pair_claims : ℕ → List Param → List Argument → List Claim
  pair_claims j [] args = []
  pair_claims j (p ∷ ps) [] = []
  pair_claims j (p ∷ ps) (a ∷ args) =
      pairs_with j p a (suc j) ps args ++ pair_claims (suc j) ps args

-- ---- conditions

-- in the words of the procedure that has to show it
module _ (w : Words) where
  abbrev pub as_shown : Condition → Claim
  as_shown c = Is c (condition_text w c)

  abbrev pub at_least_one : Control → Claim
  at_least_one d = as_shown (Le (Lit (pos 1)) d)

  abbrev pub not_negative : Control → Claim
  not_negative e = as_shown (Le (Lit (pos 0)) e)

  -- ---- cells and windows

  -- an index of a dimension
  abbrev pub one_index : Control → Control → List Claim
  one_index e d = not_negative e ∷ as_shown (Lt e d) ∷ []

  abbrev pub index_claims : List Control → List Control → List Claim
  index_claims is dims = flat_zip one_index is dims

  -- a coordinate of a dimension
  abbrev pub coord_claims : Coord → Control → List Claim
  coord_claims (At a) d = one_index a d
  coord_claims (Span a b) d = not_negative a ∷ as_shown (Lt a b) ∷ as_shown (Le b d) ∷ []

  abbrev pub window_claims : List Coord → List Control → List Claim
  window_claims coords dims = flat_zip coord_claims coords dims

  -- the reads of an expression, in text order
  abbrev pub read_claims : Extents → Datum → List Claim
  read_claims extents (Const n) = []
  read_claims extents (Read x is) = index_claims is (extents x)
  read_claims extents (Negated a) = read_claims extents a
  read_claims extents (Relu a) = read_claims extents a
  read_claims extents (Plus a b) = read_claims extents a ++ read_claims extents b
  read_claims extents (Minus a b) = read_claims extents a ++ read_claims extents b
  read_claims extents (Times a b) = read_claims extents a ++ read_claims extents b
  read_claims extents (Select a b c d) = read_claims extents a ++ read_claims extents b ++ read_claims extents c ++ read_claims extents d

  -- the cell that is written, and then what is read
  abbrev pub store_claims : Extents → ℕ → List Control → Datum → List Claim
  store_claims extents x is e = index_claims is (extents x) ++ read_claims extents e

  -- ---- calls

  abbrev pub argument_window : Extents → Argument → List Claim
  argument_window extents (ControlArg a) = []
  argument_window extents (ConditionArg c) = []
  argument_window extents (Whole x) = []
  argument_window extents (Window x coords) = window_claims coords (extents x)

  -- what is given for a value of that kind
  abbrev pub given_claims : Kind → Argument → List Claim
  given_claims Size (ControlArg a) = at_least_one a ∷ []
  given_claims kind a = []

  abbrev pub argument_size : Param → Argument → List Claim
  argument_size p a = elim p.kind [
    | ControlParam kind ↦ given_claims kind a
    | TensorParam cell dims memory ↦ []
    | WindowParam cell dims memory ↦ []
  ]

  -- of what is passed
  abbrev pub argument_extents : Extents → Argument → List Control
  argument_extents extents (ControlArg a) = []
  argument_extents extents (ConditionArg c) = []
  argument_extents extents (Whole x) = extents x
  argument_extents extents (Window x coords) = span_extents coords

  abbrev pub equal_extents : List Control → List Control → List Claim
  equal_extents es dims = flat_zip (λ e d. as_shown (Eq e d) ∷ []) es dims

  -- the extents of what is passed are the dimensions of the parameter under the arguments
  abbrev pub passed_extents : Extents → List Param → List Argument → Param → Argument → List Claim
  passed_extents extents params args p a = equal_extents (argument_extents extents a) (map (control_under params args) (dims_of p.kind))

  -- the windows, the sizes, the extents, the pairs, and the callee's assertions
  abbrev pub call_claims :
      Program → Extents → Roots → (ℕ → Bool) → Option Procedure → List Argument → List Claim
  call_claims u extents roots writes None args = []
  call_claims u extents roots writes (Some q) args =
      flat_map (argument_window extents) args
      ++ flat_zip argument_size q.params args
      ++ flat_zip (passed_extents extents q.params args) q.params args
      ++ pair_claims roots writes 0 q.params args
      ++ map (asserted (words_of u q) q.params args) q.asserts

  -- ---- statements

  -- a write of a configuration field
  abbrev pub write_claims : Option Kind → Argument → List Claim
  write_claims None a = []
  write_claims (Some kind) a = given_claims kind a

  -- of a statement itself
  abbrev pub own_claims : Program → Extents → Roots → Statement → List Claim
  own_claims u extents roots (Assign x is e) = store_claims extents x is e
  own_claims u extents roots (Reduce x is e) = store_claims extents x is e
  own_claims u extents roots (Config f a) = write_claims (field_kind u.fields f) a
  own_claims u extents roots Pass = []
  own_claims u extents roots (If c a b) = []
  own_claims u extents roots (For i lo hi b) = []
  own_claims u extents roots (Alloc x cell dims memory) = map at_least_one dims
  own_claims u extents roots (View v x coords) = window_claims coords (extents x)
  own_claims u extents roots (Call k args) =
      call_claims u extents roots (written_by u k) (slice_get u.procedures k) args

-- each with that place
abbrev pub placed_at : Path → List Claim → List Placed
placed_at path claims = map (λ c. record { place = path; claim = c }) claims

module _ (w : Words) where
  abbrev mutual
    -- of the statements of a block, the first of which has that number, and of the blocks inside them
    pub block_claims : Program → Extents → Roots → Path → Branch → ℕ → Block → List Placed
    block_claims u extents roots outer branch n end = []
    block_claims u extents roots outer branch n (next a b) =
        placed_at (path_below outer branch n) (own_claims w u extents roots a)
        ++ inner_claims u extents roots (path_below outer branch n) a
        ++ block_claims u extents roots outer branch (suc n) b

    -- of the blocks of the statement at the path
    pub inner_claims : Program → Extents → Roots → Path → Statement → List Placed
    inner_claims u extents roots path (Assign x is e) = []
    inner_claims u extents roots path (Reduce x is e) = []
    inner_claims u extents roots path (Config f a) = []
    inner_claims u extents roots path Pass = []
    inner_claims u extents roots path (If c a b) =
        block_claims u extents roots path Main 0 a ++ block_claims u extents roots path Else 0 b
    inner_claims u extents roots path (For i lo hi b) = block_claims u extents roots path Main 0 b
    inner_claims u extents roots path (Alloc x cell dims memory) = []
    inner_claims u extents roots path (View v x coords) = []
    inner_claims u extents roots path (Call k args) = []

  -- each dimension of each buffer parameter
  abbrev pub param_claims : List Param → List Claim
  param_claims ps = flat_map (λ p. map (at_least_one w) (dims_of p.kind)) ps

  -- of the parameters of a procedure, and of its body
  abbrev pub procedure_claims : Program → Extents → Roots → Procedure → List Placed
  procedure_claims u extents roots p =
      placed_at [] (param_claims p.params) ++ block_claims u extents roots [] Main 0 p.body

-- of a procedure
abbrev pub claims_of : Program → Procedure → List Placed
claims_of u p = procedure_claims (words_of u p) u (extents_of p) (roots_of p) p

-- of the procedure of that number; none where there is no such procedure
abbrev pub unit_claims : Program → ℕ → List Placed
unit_claims u k = elim (slice_get u.procedures k) [ None ↦ [] | Some p ↦ claims_of u p ]

-- of the statement at a path itself; none where no statement stands there
abbrev pub claims_there : Program → Procedure → Path → List Placed
claims_there u p path = elim (statement_at path p.body) [
  | None ↦ []
  | Some s ↦ placed_at path (own_claims (words_of u p) u (extents_of p) (roots_of p) s)
]

-- in the procedure of that number; none where there is no such procedure
abbrev pub unit_claims_there : Program → ℕ → Path → List Placed
unit_claims_there u k path =
    elim (slice_get u.procedures k) [ None ↦ [] | Some p ↦ claims_there u p path ]
