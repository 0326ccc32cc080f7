-- A callee that keeps the rules may be matched with a block that does, where the call does.
use Rattle.std.proofs.Common.{◌≡◌, ℕ, ◌==◌, Bool, true, false, ◌&&◌, ◌||◌, List, [], ◌∷◌, Option}
use Rattle.std.proofs.Common.{Some, None, IfSome, Ok, if◌then◌else◌, map, option_map, refl, sym, ap, ap₂}
use Rattle.std.proofs.Common.{◌∙◌, subst, true≢false, eqb-true, eq-eqb}
use Rattle.exo_tree.specs.Tree.{Kind, Control, Lit, Var, Field, StrideOf, Neg, Add, Sub, Mul, Div}
use Rattle.exo_tree.specs.Tree.{Mod, Condition, True, False, Flag, FieldFlag, Lt, Le, Gt, Ge, Eq, And}
use Rattle.exo_tree.specs.Tree.{Or, Argument, ControlArg, ConditionArg, Whole, Window, ParamKind}
use Rattle.exo_tree.specs.Tree.{ControlParam, TensorParam, WindowParam, Param, Block, Procedure}
use Rattle.exo_tree.specs.Places.{Main}
use Rattle.exo_tree.specs.Passed.{passed_for}
use Rattle.exo_tree.specs.Renaming.{re_controls, re_coords, binders}
use Rattle.exo_meaning.specs.Calls.{Callee}
use Rattle.exo_meaning.specs.Inputs.{is_buffer_of}
use Rattle.exo_meaning.specs.Renaming.{Renaming}
use Rattle.exo_meaning.specs.Units.{Scope, Sort, sort_in, is_number, has_rank, has_dimension, scope_of, is_for, are_for, is_block}
use Rattle.exo_meaning.specs.Units.{IsProcedure}
use Rattle.exo_meaning.specs.Unseen.{in_control, in_coords, in_argument, in_arguments as arguments_mention}
use Rattle.exo_meaning.specs.Unseen.{in_block as mentions}
use Rattle.meaning_laws.specs.Scoped.{has_binder}
use Rattle.meaning_laws.proofs.Binders.{binder_new}
use Rattle.meaning_laws.proofs.Facts.{or_left}
use Rattle.meaning_laws.proofs.FirstState.{Differ, params_differ}
use Rattle.meaning_laws.proofs.Numbers.{among, block_among}
use Rattle.meaning_laws.proofs.WellFormed.{well_scoped}
use Rattle.affine_forms.specs.Forms.{Reading}
use Rattle.affine_forms.proofs.Values.{and_parts, some_injective, none_some}
use Rattle.inplace_laws.specs.Inline.{inlined, is_param, is_view}
use Rattle.inplace_laws.specs.Windows.{root_in, coords_of}
use Rattle.match_laws.specs.Names.{Buffer, Names, names_of, extents_of, whole_of}
use Rattle.match_laws.specs.Moved.{Moving, moved, moved_condition}
use Rattle.match_laws.specs.Fitting.{coords_moved}
use Rattle.match_laws.specs.Pairs.{Pair, Numbers, Truths, Binders, Own, Access, Unlike}
use Rattle.match_laws.specs.Matched.{known_if, known_by, variable_of, flag_of, argument_if}
use Rattle.match_laws.specs.Matched.{argument_in, partner, number_in, truth_in, stride_in, moving}
use Rattle.match_laws.specs.Matched.{variable_for, stride_for, Arguments, matched, params, all_pairs}
use Rattle.match_laws.specs.Matched.{to, walk, argument_for}
use Rattle.match_laws.specs.MatchedFits.{AreGiven, given_names, IsMatch}
use Rattle.match_laws.specs.RenamedCallee.{re_kind, re_params, re_procedure}
use Rattle.match_laws.proofs.MatchedFits.{matched_fits}
use Rattle.match_laws.proofs.RenamedCallee.{same_ids}
use Rattle.match_laws.proofs.RenamedNames.{re_buffer, names_re, wholes_re, params_are}
use Rattle.match_laws.specs.Simplify.SameControls.{OfArgument, OfArguments, OfCondition}
use Rattle.match_laws.specs.Inline.AtOnce.{Put, puts, with_put, put_control, put_condition, all_suit}
use Rattle.match_laws.specs.Inline.Known.{IsOfKnown}
use Rattle.match_laws.specs.Inline.Meets.{calls_alike}
use Rattle.match_laws.specs.Inline.MovedIsPut.{is_of_kind, are_of_kinds, HasBlockIds}
use Rattle.match_laws.specs.Inline.MatchLaw.{is_known, dims_if, dims_of, are_of_known, are_moved_of_known}
use Rattle.match_laws.specs.Inline.MatchLaw.{have_one_id, stands, all_stand, no_buffer}
use Rattle.match_laws.specs.Inline.MatchLaw.{numbers_are_numbers, MayMatch}
use Rattle.match_laws.proofs.OfInline.AtOnce.{puts_keep, at_once, Keeps}
use Rattle.match_laws.proofs.OfInline.MatchLaw.{one_id}
use Rattle.call_laws.proofs.OfCalls.Here.{all_suited, views_given}
use Rattle.call_laws.proofs.OfCalls.OfNames.Mentions.{no_param_in_scope}
use Rattle.match_laws.proofs.OfInline.MovedIsPut.{moved_is_put}
use Rattle.call_laws.specs.Calls.Takes.{is_steady_argument, are_steady}
use Rattle.call_laws.proofs.OfReplace.BlockIds.{ids, pairs_are, binders_re}
use Rattle.call_laws.proofs.OfReplace.MatchedKinds.{kinds_match}
use Rattle.call_laws.proofs.OfReplace.Moves.{moves, moves_known}
use Rattle.call_laws.proofs.OfReplace.Stands.{Stand, Owns, is_steady_pair}
use Rattle.call_laws.proofs.OfReplace.Stands.{all_fine, fine_stand, blocks_stand, some_dims}
use Rattle.call_laws.proofs.OfReplace.Strides.{block_of_known}
use Rattle.call_laws.proofs.OfReplace.Clear.{IsClear, IsClearOwn, block_clear}
use Rattle.call_laws.proofs.OfReplace.Given.{AsMany, number_given, truth_given, view_parts}
use Rattle.call_laws.proofs.OfReplace.Given.{name_given}
use Rattle.call_laws.proofs.OfReplace.Given.{given_clear, params_same}
use Rattle.call_laws.proofs.OfReplace.Params.{HasDims, AllHaveDims, all_have_dims, DimsMove}
use Rattle.call_laws.proofs.OfReplace.Params.{AllDimsMove, Left}
use Rattle.call_laws.proofs.OfReplace.Params.{ok_some, later, params_stand}

no : {P : Type 0} → false ≡ true → P
no h = absurd (true≢false (sym h))

-- ---- no number is taken for a buffer

-- a pair that takes a number for a parameter has its variable or its flag
module _ (known : ℕ → Bool) (by m : Moving) (ps : List Param) (par : ℕ → Bool) (x : ℕ)
    (variable : m.variable x ≡ None) (flag : m.flag x ≡ None) where
  chosen : (t : Bool) (y : ℕ) (b : Argument) → ((y == x) ≡ true → ⊥)
      → argument_if x (if t then Some (record { param = y; argument = b }) else None) ≡ None
  chosen false y b h = refl
  chosen true y b h = go (y == x) refl
    where
      go : (t : Bool) → (y == x) ≡ t → (if t then Some b else None) ≡ None
      go true e = absurd (h e)
      go false e = refl

  number_none : (e g : Control) → is_known (moved m e) ≡ true
      → argument_if x (known_if par (ControlArg g) (variable_of e)) ≡ None
  number_none (Lit n) g h = refl
  number_none (Var y) g h =
      chosen (par y) y (ControlArg g) (λ e. true≢false
      (sym (ap (λ z. is_known (m.variable z)) (sym (eqb-true y x e)) ∙ h) ∙ ap is_known variable))
  number_none (Field f) g h = refl
  number_none (StrideOf y k) g h = refl
  number_none (Neg a) g h = refl
  number_none (Add a b) g h = refl
  number_none (Sub a b) g h = refl
  number_none (Mul a b) g h = refl
  number_none (Div a c) g h = refl
  number_none (Mod a c) g h = refl

  truth_none : (c d : Condition) → is_known (moved_condition m c) ≡ true
      → argument_if x (known_if par (ConditionArg d) (flag_of c)) ≡ None
  truth_none True d h = refl
  truth_none False d h = refl
  truth_none (Flag y) d h =
      chosen (par y) y (ConditionArg d) (λ e. true≢false
      (sym (ap (λ z. is_known (m.flag z)) (sym (eqb-true y x e)) ∙ h) ∙ ap is_known flag))
  truth_none (FieldFlag f) d h = refl
  truth_none (Lt a b) d h = refl
  truth_none (Le a b) d h = refl
  truth_none (Gt a b) d h = refl
  truth_none (Ge a b) d h = refl
  truth_none (Eq a b) d h = refl
  truth_none (And a b) d h = refl
  truth_none (Or a b) d h = refl

  one_none : (a : Pair) → stands known by m ps a ≡ true → argument_if x (known_by par a) ≡ None
  one_none (Numbers p true e g) h = number_none e g h
  one_none (Numbers p false e g) h = refl
  one_none (Truths p true c d) h = truth_none c d h
  one_none (Truths p false c d) h = refl
  one_none (Binders y z) h = refl
  one_none (Own p y z) h = refl
  one_none (Access p y cs z ds) h = refl
  one_none (Unlike p) h = refl

  none_found : (pairs : List Pair) → all_stand known by m ps pairs ≡ true
      → argument_in par pairs x ≡ None
  none_found [] h = refl
  none_found (a ∷ pairs) h =
      let p = and_parts (stands known by m ps a) (all_stand known by m ps pairs) h in
      ap (λ o. elim o [ None ↦ argument_in par pairs x | Some b ↦ Some b ]) (one_none a p.0)
      ∙ none_found pairs p.1

-- ---- what is put for names

module _ (P : Control → Type 0) where
  one_name : (x i : ℕ) (kind : ParamKind) (a : Argument) (put : Put) → OfArgument P a
      → OfArgument P (put.name x) → OfArgument P ((with_put i kind a put).name x)
  one_name x i (ControlParam kind) (ControlArg e) put h k = k
  one_name x i (ControlParam kind) (ConditionArg c) put h k = k
  one_name x i (ControlParam kind) (Whole y) put h k = k
  one_name x i (ControlParam kind) (Window y cs) put h k = k
  one_name x i (TensorParam cell dims memory) a put h k = go (x == i)
    where
      go : (t : Bool) → OfArgument P (if t then a else put.name x)
      go true = h
      go false = k
  one_name x i (WindowParam cell dims memory) a put h k = go (x == i)
    where
      go : (t : Bool) → OfArgument P (if t then a else put.name x)
      go true = h
      go false = k

  names_of_args : (ps : List Param) (args : List Argument) → OfArguments P args → (x : ℕ)
      → OfArgument P ((puts ps args).name x)
  names_of_args [] args h x = tt
  names_of_args (p ∷ ps) [] h x = tt
  names_of_args (p ∷ ps) (a ∷ args) h x =
      one_name x p.binder.id p.kind a (puts ps args) h.0 (names_of_args ps args h.1 x)

  one_flag : (x i : ℕ) (kind : ParamKind) (a : Argument) (put : Put) → OfArgument P a
      → OfCondition P (put.flag x) → OfCondition P ((with_put i kind a put).flag x)
  one_flag x i (ControlParam kind) (ControlArg e) put h k = k
  one_flag x i (ControlParam kind) (ConditionArg c) put h k = go (x == i)
    where
      go : (t : Bool) → OfCondition P (if t then c else put.flag x)
      go true = h
      go false = k
  one_flag x i (ControlParam kind) (Whole y) put h k = k
  one_flag x i (ControlParam kind) (Window y cs) put h k = k
  one_flag x i (TensorParam cell dims memory) a put h k = k
  one_flag x i (WindowParam cell dims memory) a put h k = k

  flags_of_args : (ps : List Param) (args : List Argument) → OfArguments P args → (x : ℕ)
      → OfCondition P ((puts ps args).flag x)
  flags_of_args [] args h x = tt
  flags_of_args (p ∷ ps) [] h x = tt
  flags_of_args (p ∷ ps) (a ∷ args) h x =
      one_flag x p.binder.id p.kind a (puts ps args) h.0 (flags_of_args ps args h.1 x)

-- ---- the block's binder for each of the callee's

partner_some : (pairs : List Pair) (x : ℕ) → among (ids (λ a b. a) pairs) x ≡ true
    → (y : ℕ) × (partner pairs x ≡ Some y)
partner_some [] x h = no h
partner_some (Numbers p whole e g ∷ pairs) x h = partner_some pairs x h
partner_some (Truths p whole c d ∷ pairs) x h = partner_some pairs x h
partner_some (Own p a b ∷ pairs) x h = partner_some pairs x h
partner_some (Access p a cs b ds ∷ pairs) x h = partner_some pairs x h
partner_some (Unlike p ∷ pairs) x h = partner_some pairs x h
partner_some (Binders a b ∷ pairs) x h = go (a == x) refl (partner_some pairs x)
  where
    other : (t : Bool) → (x == a) ≡ t → (t || among (ids (λ a b. a) pairs) x) ≡ true
        → (a == x) ≡ false → among (ids (λ a b. a) pairs) x ≡ true
    other true e k f = no (sym f ∙ eq-eqb a x (sym (eqb-true x a e)))
    other false e k f = k

    go : (t : Bool) → (a == x) ≡ t
        → (among (ids (λ a b. a) pairs) x ≡ true → (y : ℕ) × (partner pairs x ≡ Some y))
        → (y : ℕ) × (elim (if t then Some b else None) [
          | None ↦ partner pairs x
          | Some z ↦ Some z
        ] ≡ Some y)
    go true e rest = (b, refl)
    go false e rest = rest (other (x == a) refl h e)

pub among_mapped : (r : Renaming) (xs : List ℕ) (x : ℕ) → among (map r.to xs) (r.to x) ≡ among xs x
among_mapped r [] x = refl
among_mapped r (y ∷ xs) x = ap₂ (λ s t. s || t) (same_ids r x y) (among_mapped r xs x)

-- ---- the dimensions of the renamed parameters

extents_re : (f : ℕ → ℕ) (o : Option Buffer)
    → extents_of (option_map (re_buffer f) o) ≡ re_controls f (extents_of o)
extents_re f None = refl
extents_re f (Some b) = refl

module _ (fields : ℕ → Option Kind) (memories : ℕ) (callees called : ℕ → Option Callee)
    (scope : Scope) (from : ℕ → ℕ) (known : ℕ → Bool)
    (knowns : (x : ℕ) → has_dimension 0 (sort_in scope x) ≡ true → known x ≡ true)
    (r : Renaming) (at : Reading) (theirs : Names)
    (wholes : (y : ℕ) → are_of_known known (whole_of (extents_of (theirs y))) ≡ true)
    (block : Block) (own : Procedure) (args : List Argument)
    (ok : IsProcedure fields memories callees own)
    (well : is_block fields memories called scope from block ≡ true)
    (fit : are_for fields scope own.params args ≡ true)
    (read : OfArguments (IsOfKnown known) args)
    (match : matched at theirs block (re_procedure r own) ≡ Arguments args)
    (one : have_one_id (all_pairs at theirs block (re_procedure r own)) ≡ true) where
  abbrev q : Procedure
  q = re_procedure r own

  abbrev par : ℕ → Bool
  par = params at theirs block q

  abbrev its_to : ℕ → Option ℕ
  its_to = to at theirs block q

  abbrev given : ℕ → Option Argument
  given = passed_for q.params args

  abbrev m : Moving
  m = given_names at theirs block q args

  abbrev by : Moving
  by = moving par its_to (argument_in par (walk at theirs block q))

  abbrev pairs : List Pair
  pairs = all_pairs at theirs block q

  it : IsMatch at theirs block q args
  it = matched_fits at theirs block q args match

  kinds : are_of_kinds q.params args ≡ true
  kinds = kinds_match at theirs block q args match

  differ : Differ own.params
  differ = params_differ fields memories own.params [] ok.params

  no_binder : (x : ℕ) → has_binder own.body x ≡ true → is_param own x ≡ false
  no_binder x h = binder_new (is_param own) own.body x (well_scoped fields memories callees own ok).0 h

  no_param : (x : ℕ) → is_param own x ≡ true → has_binder own.body x ≡ false
  no_param x h = go (has_binder own.body x) refl
    where
      go : (t : Bool) → has_binder own.body x ≡ t → t ≡ false
      go true e = no (sym (no_binder x e) ∙ h)
      go false e = refl

  -- ---- names of its own

  has_partner : (x : ℕ) → has_binder own.body x ≡ true → its_to (r.to x) ≡ Some (r.to x)
  has_partner x h =
      let there : among (ids (λ a b. a) pairs) (r.to x) ≡ true
      = ap (λ is. among is (r.to x)) (pairs_are at theirs block q args match true ∙ binders_re r.to own.body)
      ∙ among_mapped r (binders own.body) x ∙ block_among own.body x ∙ h in
      let y = partner_some pairs (r.to x) there in
      y.1 ∙ ap (λ z. Some z) (sym (one_id pairs (r.to x) y.0 one y.1))

  owns : Owns r.to known m by q.params par (has_binder own.body)
  owns x h =
      let apart : par (r.to x) ≡ false = params_are r own.params x ∙ no_binder x h in
      let partner = has_partner x h in
      record {
        apart = apart;
        number = ap (λ t. moves known (if t then number_in (given (r.to x)) else variable_for (its_to (r.to x)))) apart
            ∙ ap (λ o. moves known (variable_for o)) partner;
        walked = ap (λ t. moves known (if t then number_in (argument_in par (walk at theirs block q) (r.to x))
            else variable_for (its_to (r.to x)))) apart
            ∙ ap (λ o. moves known (variable_for o)) partner;
        stride = λ grown k e.
            ap (λ t. moves grown (if t then stride_in (given (r.to x)) k else stride_for (its_to (r.to x)) k)) apart
            ∙ ap (λ o. moves grown (stride_for o k)) partner ∙ e;
      }

  -- ---- the parameters

  left : Left fields memories scope known knowns r at theirs block q its_to given own.params args
  left = record {
    are = λ x h. params_are r own.params x ∙ h;
    gives = λ x h. refl;
    dims = λ x h. refl;
  }

  nothing : Stand r.to known m by q.params par [] known
  nothing = record {
    numbers = λ x h. no h;
    walked = λ x h. no h;
    flags = λ x h. no h;
    strides = λ x k h. no h;
    ranks = λ x n h. no h;
    more = λ x h. h;
  }

  pub stand : Stand r.to known m by q.params par (scope_of [] own.params) known
      × AllDimsMove fields memories scope known knowns r at theirs block q its_to given own.params
  stand = params_stand fields memories scope known knowns r at theirs block q its_to given own.params args
      [] nothing differ ok.params fit read it.given left

  its_dims : AllHaveDims (names_of own) own.params
  its_dims = all_have_dims own.params own.body (λ x. None) differ no_param

  abbrev KnownDims : List Param → ℕ → List Control → Type 0
  KnownDims ps x dims =
      dims_of (re_params r ps) x ≡ Some dims
      → (extents_of (names_of q x) ≡ dims)
      × (are_moved_of_known known (coords_moved by (whole_of dims)) ≡ true)

  wholes_here : (ps : List Param) → AllHaveDims (names_of own) ps
      → AllDimsMove fields memories scope known knowns r at theirs block q its_to given ps
      → (x : ℕ) (dims : List Control) → dims_of (re_params r ps) x ≡ Some dims
      → (extents_of (names_of q x) ≡ dims)
      × (are_moved_of_known known (coords_moved by (whole_of dims)) ≡ true)
  wholes_here [] h k x dims e = absurd (none_some e)
  wholes_here (p ∷ ps) h k x dims e = go p.kind h.0 k.0 (wholes_here ps h.1 k.1 x dims) e
    where
      here : (own_dims : List Control) (t : Bool) → (x == r.to p.binder.id) ≡ t
          → extents_of (names_of own p.binder.id) ≡ own_dims
          → are_moved_of_known known (coords_moved by (re_coords r.to (whole_of own_dims))) ≡ true
          → KnownDims ps x dims
          → (if t then Some (re_controls r.to own_dims) else dims_of (re_params r ps) x) ≡ Some dims
          → (extents_of (names_of q x) ≡ dims)
          × (are_moved_of_known known (coords_moved by (whole_of dims)) ≡ true)
      here own_dims true i a b rest f =
          let same = some_injective (re_controls r.to own_dims) dims f in (
            ap (λ y. extents_of (names_of q y)) (eqb-true x (r.to p.binder.id) i)
                ∙ ap extents_of (names_re r own p.binder.id)
                ∙ extents_re r.to (names_of own p.binder.id) ∙ ap (re_controls r.to) a ∙ same,
            ap (λ es. are_moved_of_known known (coords_moved by (whole_of es))) (sym same)
                ∙ ap (λ cs. are_moved_of_known known (coords_moved by cs)) (wholes_re r.to own_dims) ∙ b,
          )
      here own_dims false i a b rest f = rest f

      go : (kind : ParamKind) → HasDims (names_of own) p.binder.id kind
          → DimsMove fields memories scope known knowns r at theirs block q its_to given kind
          → KnownDims ps x dims
          → dims_if (re_kind r kind) (x == r.to p.binder.id) (dims_of (re_params r ps) x) ≡ Some dims
          → (extents_of (names_of q x) ≡ dims)
          × (are_moved_of_known known (coords_moved by (whole_of dims)) ≡ true)
      go (ControlParam kind) a b rest f = rest f
      go (TensorParam cell own_dims memory) a b rest f =
          here own_dims (x == r.to p.binder.id) refl a b rest f
      go (WindowParam cell own_dims memory) a b rest f =
          here own_dims (x == r.to p.binder.id) refl a b rest f

  pairs_fine : all_fine fields r.to known m by q.params par (has_binder block) (names_of q) theirs
      (wholes_here own.params its_dims stand.1) wholes pairs ≡ true
  pairs_fine =
      blocks_stand fields r.to known m by q.params par (has_binder block) (names_of q) theirs
      (wholes_here own.params its_dims stand.1) wholes memories callees called (λ path. path) Main 0
      own.body block (scope_of [] own.params) scope (λ x. x) from known stand.0 owns ok.body well

  pairs_stand : all_stand known by m q.params pairs ≡ true
  pairs_stand =
      fine_stand fields r.to known m by q.params par (has_binder block) (names_of q) theirs
      (wholes_here own.params its_dims stand.1) wholes pairs pairs_fine

  -- ---- no argument reads a field

  steady_in : (those : List Pair)
      → all_fine fields r.to known m by q.params par (has_binder block) (names_of q) theirs
      (wholes_here own.params its_dims stand.1) wholes those ≡ true
      → (x : ℕ) → IfSome (argument_in par those x) (λ a. is_steady_argument a ≡ true)
  steady_in [] h x = tt
  steady_in (a ∷ those) h x =
      let p = and_parts (stands known by m q.params a && is_steady_pair a) _ h in
      or_else (argument_if x (known_by par a)) (argument_in par those x)
      (one_steady a (and_parts (stands known by m q.params a) (is_steady_pair a) p.0).1)
      (steady_in those p.1 x)
    where
      or_else : (o rest : Option Argument) → IfSome o (λ a. is_steady_argument a ≡ true)
          → IfSome rest (λ a. is_steady_argument a ≡ true)
          → IfSome (elim o [ None ↦ rest | Some b ↦ Some b ]) (λ a. is_steady_argument a ≡ true)
      or_else None rest i k = k
      or_else (Some b) rest i k = i

      chosen_steady : (b : Argument) (o : Option ℕ) → is_steady_argument b ≡ true
          → IfSome (argument_if x (known_if par b o)) (λ a. is_steady_argument a ≡ true)
      chosen_steady b None i = tt
      chosen_steady b (Some y) i = go (par y)
        where
          inner : (t : Bool) → IfSome (if t then Some b else None) (λ a. is_steady_argument a ≡ true)
          inner true = i
          inner false = tt

          go : (t : Bool) → IfSome (argument_if x (if t then Some (record { param = y; argument = b }) else None))
              (λ a. is_steady_argument a ≡ true)
          go true = inner (y == x)
          go false = tt

      one_steady : (a : Pair) → is_steady_pair a ≡ true
          → IfSome (argument_if x (known_by par a)) (λ a. is_steady_argument a ≡ true)
      one_steady (Numbers p true e g) i = chosen_steady (ControlArg g) (variable_of e) i
      one_steady (Numbers p false e g) i = tt
      one_steady (Truths p true c d) i = chosen_steady (ConditionArg d) (flag_of c) i
      one_steady (Truths p false c d) i = tt
      one_steady (Binders y z) i = tt
      one_steady (Own p y z) i = tt
      one_steady (Access p y cs z ds) i = tt
      one_steady (Unlike p) i = tt

  all_steady : (ps : List Param) (those : List Argument) → AreGiven at theirs block q ps those
      → are_of_kinds ps those ≡ true → are_steady those ≡ true
  all_steady [] [] g h = refl
  all_steady [] (a ∷ those) g h = absurd g
  all_steady (p ∷ ps) [] g h = refl
  all_steady (p ∷ ps) (a ∷ those) g h =
      let k = and_parts (is_of_kind p.kind a) (are_of_kinds ps those) h in
      ap₂ ◌&&◌ (by_kind p.kind g.0 k.0) (all_steady ps those g.1 k.1)
    where
      of_view : (a : Argument) → is_view a ≡ true → is_steady_argument a ≡ true
      of_view (ControlArg e) i = no i
      of_view (ConditionArg c) i = no i
      of_view (Whole y) i = refl
      of_view (Window y cs) i = refl

      steady_some : (o : Option Argument) → IfSome o (λ b. is_steady_argument b ≡ true) → o ≡ Some a
          → is_steady_argument a ≡ true
      steady_some None i e = absurd (none_some e)
      steady_some (Some b) i e = subst (λ z. is_steady_argument z ≡ true) (some_injective b a e) i

      by_kind : (kind : ParamKind) → argument_for at theirs block q p.binder.id kind ≡ Ok a
          → is_of_kind kind a ≡ true → is_steady_argument a ≡ true
      by_kind (ControlParam kind) f i =
          steady_some (argument_in par pairs p.binder.id) (steady_in pairs pairs_fine p.binder.id)
          (ap (λ those. argument_in par those p.binder.id) (sym it.walked)
          ∙ ok_some a (argument_in par (walk at theirs block q) p.binder.id) [] f)
      by_kind (TensorParam cell dims memory) f i = of_view a i
      by_kind (WindowParam cell dims memory) f i = of_view a i

  pub args_steady : are_steady args ≡ true
  args_steady = all_steady q.params args it.given kinds

  -- ---- numbers

  numbers : (ps : List Param) (those : List Argument) → are_of_kinds (re_params r ps) those ≡ true
      → are_for fields scope ps those ≡ true → Differ ps
      → Left fields memories scope known knowns r at theirs block q its_to given ps those
      → numbers_are_numbers (argument_in par (walk at theirs block q)) (re_params r ps) ≡ true
  numbers [] those h i d l = refl
  numbers (p ∷ ps) [] h i d l = no i
  numbers (p ∷ ps) (a ∷ those) h i d l =
      let x = p.binder.id in
      let fit = and_parts (is_of_kind (re_kind r p.kind) a) (are_of_kinds (re_params r ps) those) h in
      let here : is_buffer_of x (p ∷ ps) ≡ true
      = or_left (x == x) (is_buffer_of x ps) (eq-eqb x x refl) in
      let is : given (r.to x) ≡ Some a
      = l.gives x here
      ∙ ap (λ t. if t then Some a else passed_for (re_params r ps) those (r.to x))
      (eq-eqb (r.to x) (r.to x) refl) in
      ap₂ ◌&&◌ (go p.kind fit.0 (l.are x here) is)
      (numbers ps those fit.1 (and_parts (is_for fields scope p.kind a) (are_for fields scope ps those) i).1
      d.1 (later fields memories scope known knowns r at theirs block q its_to given p a ps those d.0 l))
    where
      view_none : (a : Argument) → is_view a ≡ true → number_in (Some a) ≡ None
      view_none (ControlArg e) k = no k
      view_none (ConditionArg c) k = no k
      view_none (Whole y) k = refl
      view_none (Window y cs) k = refl

      view_no_flag : (a : Argument) → is_view a ≡ true → truth_in (Some a) ≡ None
      view_no_flag (ControlArg e) k = no k
      view_no_flag (ConditionArg c) k = no k
      view_no_flag (Whole y) k = refl
      view_no_flag (Window y cs) k = refl

      none : is_view a ≡ true → par (r.to p.binder.id) ≡ true → given (r.to p.binder.id) ≡ Some a
          → argument_in par (walk at theirs block q) (r.to p.binder.id) ≡ None
      none k e g =
          ap (λ those. argument_in par those (r.to p.binder.id)) it.walked
          ∙ none_found known by m q.params par (r.to p.binder.id)
          (ap (λ t. if t then number_in (given (r.to p.binder.id)) else variable_for (its_to (r.to p.binder.id))) e
          ∙ ap number_in g ∙ view_none a k)
          (ap truth_in g ∙ view_no_flag a k) pairs pairs_stand

      go : (kind : ParamKind) → is_of_kind (re_kind r kind) a ≡ true
          → par (r.to p.binder.id) ≡ true → given (r.to p.binder.id) ≡ Some a
          → no_buffer (re_kind r kind) (argument_in par (walk at theirs block q) (r.to p.binder.id)) ≡ true
      go (ControlParam kind) k e g = refl
      go (TensorParam cell dims memory) k e g =
          ap (no_buffer (TensorParam cell (re_controls r.to dims) memory)) (none k e g)
      go (WindowParam cell dims memory) k e g =
          ap (no_buffer (WindowParam cell (re_controls r.to dims) memory)) (none k e g)

  -- ---- all of it

  own_ids : HasBlockIds at theirs block q
  own_ids x y h = one_id pairs x y one h

  pub may_match : arguments_mention (λ x. is_buffer_of x q.params) args ≡ false
      → ((x : ℕ) (dims : List Control) → dims_of q.params x ≡ Some dims
      → extents_of (names_of q x) ≡ dims)
      → calls_alike (puts q.params args) q.body block ≡ true
      → MayMatch at theirs block q args known
  may_match apart named calls = record {
    kinds = kinds;
    apart = apart;
    binders = one;
    numbers = numbers own.params args kinds fit differ left;
    stand = pairs_stand;
    strides = block_of_known fields r.to known m by q.params par (puts q.params args)
        (moved_is_put at theirs block q args own_ids kinds).0
        (names_of_args (IsOfKnown known) q.params args read)
        (flags_of_args (IsOfKnown known) q.params args read) memories callees own.body
        (scope_of [] own.params) (λ x. x) known stand.0 owns ok.body;
    named = named;
    calls = calls;
  }

  -- ---- the body with the arguments mentions no parameter

  module _ (apart : arguments_mention par args ≡ false) where
    abbrev put : Put
    put = puts q.params args

    suited : all_suit q.params args ≡ true
    suited =
        ap (λ ps. all_suit ps args) (sym (params_same r own.params))
        ∙ all_suited fields scope r.to own.params args fit

    in_scope : (x : ℕ) (test : Option Sort → Bool) → test None ≡ false
        → test (sort_in (scope_of [] own.params) x) ≡ true → par (r.to x) ≡ true
    in_scope x test none h = params_are r own.params x ∙ go (is_buffer_of x own.params) refl
      where
        go : (t : Bool) → is_buffer_of x own.params ≡ t → t ≡ true
        go true e = refl
        go false e = no (sym none ∙ ap test (sym (no_param_in_scope own.params [] x e)) ∙ h)

    put_is : ((e : Control) → IfSome (moved m e) (λ f. f ≡ put_control put e))
        × ((c : Condition) → IfSome (moved_condition m c) (λ d. d ≡ put_condition put c))
    put_is = moved_is_put at theirs block q args own_ids kinds

    clear_of : (x : ℕ) → IfSome (given x) (λ a. in_argument par a ≡ false)
    clear_of x = given_clear par at theirs block q q.params args x apart

    names_keep : Keeps par put
    names_keep = puts_keep par q.params args (λ y h. h)

    many : (ps : List Param) (those : List Argument) → are_for fields scope ps those ≡ true
        → AsMany (re_params r ps) those
    many [] those h = tt
    many (p ∷ ps) [] h = no h
    many (p ∷ ps) (a ∷ those) h =
        many ps those (and_parts (is_for fields scope p.kind a) (are_for fields scope ps those) h).1

    clear : IsClear par r.to put (scope_of [] own.params)
    clear = record {
      numbers = λ x h.
          let mine = in_scope x is_number refl h in
          let choose = λ (t : Bool). if t then number_in (given (r.to x)) else variable_for (its_to (r.to x)) in
          number_given par (given (r.to x)) (put.variable (r.to x)) (clear_of (r.to x))
          (subst (λ t. is_known (choose t) ≡ true) mine
          (moves_known known (m.variable (r.to x)) (stand.0.numbers x h)))
          (subst (λ t. IfSome (choose t) (λ f. f ≡ put.variable (r.to x))) mine (put_is.0 (Var (r.to x))));
      flags = λ x h.
          truth_given par (given (r.to x)) (put.flag (r.to x)) (clear_of (r.to x)) (stand.0.flags x h)
          (put_is.1 (Flag (r.to x)));
      views = λ x n h.
          let mine = in_scope x (has_rank n) refl h in
          let d = some_dims n (dims_of q.params (r.to x)) (stand.0.ranks x n h mine) in
          let given_name = name_given par q.params args (r.to x) d.0 (many own.params args fit) apart d.1 in
          let parts = view_parts par (put.name (r.to x)) (r.to x)
          (views_given q.params args suited (r.to x)) given_name in
          (parts.0, parts.1, given_name);
    }

    clear_own : (x : ℕ) → has_binder own.body x ≡ true → IsClearOwn par r.to put x
    clear_own x h =
        let new = (owns x h).apart in
        let whole = names_keep.name (r.to x) new in
        record {
          itself = new;
          number = ap (in_control par) (names_keep.variable (r.to x) new) ∙ new;
          view = (
            ap (λ a. par (root_in a (r.to x))) whole ∙ new,
            ap (λ a. in_coords par (coords_of a)) whole,
            ap (in_argument par) whole ∙ new,
          );
        }

    pub body_clear : mentions par (inlined q.params args q.body) ≡ false
    body_clear =
        ap (mentions par) (at_once q.params args q.body suited apart)
        ∙ block_clear par r.to put fields memories callees own.body (scope_of [] own.params) (λ x. x) clear
        clear_own ok.body
