-- What stands for the parameters of a matched callee, where the call keeps the rules.
use Rattle.std.proofs.Common.{◌≡◌, ℕ, suc, arith, ◌==◌, nat_lt, Bool, true, false, not, ◌&&◌}
use Rattle.std.proofs.Common.{List, [], ◌∷◌, length, Option, Some, None, Ok}
use Rattle.std.proofs.Common.{if◌then◌else◌, refl, sym, ap, ap₂, ◌∙◌, subst, true≢false}
use Rattle.std.proofs.Common.{eqb-true, eq-eqb}
use Rattle.std.specs.List.{list_all}
use Rattle.exo_tree.specs.Tree.{Kind, Cell, Binder, Control, Coord, At, Span, Argument}
use Rattle.exo_tree.specs.Tree.{ControlArg, ConditionArg, Whole, Window, ParamKind, ControlParam}
use Rattle.exo_tree.specs.Tree.{TensorParam, WindowParam, Param, Statement, Assign, Reduce, Config}
use Rattle.exo_tree.specs.Tree.{Pass, If, For, Alloc, View, Call, Block, end, next, Procedure}
use Rattle.exo_tree.specs.Places.{Path}
use Rattle.exo_tree.specs.Passed.{passed_for}
use Rattle.exo_tree.specs.Renaming.{re_controls, re_coords}
use Rattle.exo_meaning.specs.Inputs.{is_buffer_of}
use Rattle.exo_meaning.specs.Renaming.{Renaming}
use Rattle.exo_meaning.specs.Scene.{updated}
use Rattle.exo_meaning.specs.Units.{Scope, Sort, ControlName, BufferName, plainly, sort_in, with_name}
use Rattle.exo_meaning.specs.Units.{with_both, is_number, is_flag, has_rank, has_cell, has_dimension}
use Rattle.exo_meaning.specs.Units.{is_truth, param_sort, scope_of, spans, is_control, are_controls}
use Rattle.exo_meaning.specs.Units.{is_condition, is_coord, is_window, is_of_kind, is_for, are_for}
use Rattle.exo_meaning.specs.Units.{is_new, is_param_kind, are_params}
use Rattle.exo_meaning.proofs.Frame.{or_parts, updated_other}
use Rattle.meaning_laws.specs.Scoped.{has_binder, step_has_binder}
use Rattle.meaning_laws.proofs.Facts.{or_left, or_right}
use Rattle.meaning_laws.proofs.FirstState.{Differ}
use Rattle.affine_forms.specs.Forms.{Reading}
use Rattle.affine_forms.proofs.Values.{and_parts}
use Rattle.match_laws.specs.Names.{Buffer, Names, with_kind, with_params, with_block, with_statement}
use Rattle.match_laws.specs.Names.{viewed, extents_of, whole_of}
use Rattle.match_laws.specs.Moved.{Moving}
use Rattle.match_laws.specs.Fitting.{coords_moved}
use Rattle.match_laws.specs.Matched.{or_differs, argument_in, number_in, truth_in, stride_in, moving}
use Rattle.match_laws.specs.Matched.{variable_for, stride_for}
use Rattle.match_laws.specs.Matched.{params, walk, argument_for}
use Rattle.match_laws.specs.MatchedFits.{AreGiven}
use Rattle.match_laws.specs.RenamedCallee.{re_kind, re_params}
use Rattle.match_laws.proofs.RenamedCallee.{same_ids}
use Rattle.match_laws.specs.Simplify.SameControls.{OfArgument, OfArguments}
use Rattle.match_laws.specs.Inline.Known.{IsOfKnown}
use Rattle.match_laws.specs.Inline.MatchLaw.{is_known, dims_if, dims_of, has_length}
use Rattle.match_laws.specs.Inline.MatchLaw.{are_moved_of_known}
use Rattle.call_laws.proofs.OfReplace.Moves.{moves, coords_move}
use Rattle.call_laws.proofs.OfReplace.Stands.{Stand, named}

no : {P : Type 0} → false ≡ true → P
no h = absurd (true≢false (sym h))

-- ---- a parameter more in scope

module _ (to : ℕ → ℕ) (known : ℕ → Bool) (m by : Moving) (ps : List Param) (params : ℕ → Bool) where
  abbrev StandIn : Scope → Type 0
  StandIn scope = Stand to known m by ps params scope known

  abbrev pub StandsFor : ℕ → ParamKind → Type 0
  StandsFor x (ControlParam kind) =
      (is_truth kind ≡ false
      → (moves known (m.variable (to x)) ≡ true) × (moves known (by.variable (to x)) ≡ true))
      × (is_truth kind ≡ true → is_known (m.flag (to x)) ≡ true)
  StandsFor x (TensorParam cell dims memory) =
      ((k : ℕ) → nat_lt k (length dims) ≡ true → moves known (m.stride (to x) k) ≡ true)
      × (has_length (length dims) (dims_of ps (to x)) ≡ true)
  StandsFor x (WindowParam cell dims memory) =
      ((k : ℕ) → nat_lt k (length dims) ≡ true → moves known (m.stride (to x) k) ≡ true)
      × (has_length (length dims) (dims_of ps (to x)) ≡ true)

  not_truth : (t : Bool) → not t ≡ true → t ≡ false
  not_truth true h = no h
  not_truth false h = refl

  with_number : (scope : Scope) (i : Binder) (kind : Kind) → StandIn scope
      → StandsFor i.id (ControlParam kind) → StandIn (with_name scope i (ControlName kind))
  with_number scope i kind st own = record {
    numbers = λ x h. named (moves known (m.variable (to x)) ≡ true) is_number scope i
        (ControlName kind) x
        (λ e k. subst (λ y. moves known (m.variable (to y)) ≡ true) (sym e)
        (own.0 (not_truth (is_truth kind) k)).0) (st.numbers x) h;
    walked = λ x h. named (moves known (by.variable (to x)) ≡ true) is_number scope i
        (ControlName kind) x
        (λ e k. subst (λ y. moves known (by.variable (to y)) ≡ true) (sym e)
        (own.0 (not_truth (is_truth kind) k)).1) (st.walked x) h;
    flags = λ x h. named (is_known (m.flag (to x)) ≡ true) is_flag scope i (ControlName kind) x
        (λ e k. subst (λ y. is_known (m.flag (to y)) ≡ true) (sym e) (own.1 k)) (st.flags x) h;
    strides = λ x k h. named (moves known (m.stride (to x) k) ≡ true) (has_dimension k) scope i
        (ControlName kind) x (λ e l. no l) (st.strides x k) h;
    ranks = λ x n h. named (params (to x) ≡ true → has_length n (dims_of ps (to x)) ≡ true)
        (has_rank n) scope i (ControlName kind) x (λ e l. no l) (st.ranks x n) h;
    more = st.more;
  }

  with_view : (scope : Scope) (i : Binder) (cell : Cell) (rank : ℕ) (dense : Bool) → StandIn scope
      → ((k : ℕ) → nat_lt k rank ≡ true → moves known (m.stride (to i.id) k) ≡ true)
      → has_length rank (dims_of ps (to i.id)) ≡ true
      → StandIn (with_name scope i (BufferName cell rank dense))
  with_view scope i cell rank dense st strides long = record {
    numbers = λ x h. named (moves known (m.variable (to x)) ≡ true) is_number scope i sort x
        (λ e k. no k) (st.numbers x) h;
    walked = λ x h. named (moves known (by.variable (to x)) ≡ true) is_number scope i sort x
        (λ e k. no k) (st.walked x) h;
    flags = λ x h. named (is_known (m.flag (to x)) ≡ true) is_flag scope i sort x
        (λ e k. no k) (st.flags x) h;
    strides = λ x k h. named (moves known (m.stride (to x) k) ≡ true) (has_dimension k) scope i sort x
        (λ e l. subst (λ y. moves known (m.stride (to y) k) ≡ true) (sym e) (strides k l))
        (st.strides x k) h;
    ranks = λ x n h. named (params (to x) ≡ true → has_length n (dims_of ps (to x)) ≡ true)
        (has_rank n) scope i sort x
        (λ e l f. subst (λ y. has_length n (dims_of ps (to y)) ≡ true) (sym e)
        (subst (λ z. has_length z (dims_of ps (to i.id)) ≡ true) (sym (eqb-true n rank l)) long))
        (st.ranks x n) h;
    more = st.more;
  }
    where
      sort : Sort
      sort = BufferName cell rank dense

  pub with_param : (scope : Scope) (p : Param) → StandIn scope → StandsFor p.binder.id p.kind
      → StandIn (with_name scope p.binder (param_sort p.kind))
  with_param scope p st own = go p.kind own
    where
      go : (kind : ParamKind) → StandsFor p.binder.id kind
          → StandIn (with_name scope p.binder (param_sort kind))
      go (ControlParam kind) h = with_number scope p.binder kind st h
      go (TensorParam cell dims memory) h =
          with_view scope p.binder cell (length dims) true st h.0 h.1
      go (WindowParam cell dims memory) h =
          with_view scope p.binder cell (length dims) false st h.0 h.1

-- ---- the names of a procedure that has different ones

module _ (x : ℕ) where
  set_else : (names : Names) (i : ℕ) (b : Option Buffer) → (x == i) ≡ false
      → updated names i b x ≡ names x
  set_else names i b h = updated_other names i b x h

  mutual
    block_else : (b : Block) (names : Names) → has_binder b x ≡ false → with_block b names x ≡ names x
    block_else end names h = refl
    block_else (next a b) names h =
        let p = or_parts (step_has_binder a x) (has_binder b x) h in
        block_else b (with_statement a names) p.1 ∙ statement_else a names p.0

    statement_else : (a : Statement) (names : Names) → step_has_binder a x ≡ false
        → with_statement a names x ≡ names x
    statement_else (Assign y is e) names h = refl
    statement_else (Reduce y is e) names h = refl
    statement_else (Config f a) names h = refl
    statement_else Pass names h = refl
    statement_else (If c a b) names h =
        let p = or_parts (has_binder a x) (has_binder b x) h in
        block_else b (with_block a names) p.1 ∙ block_else a names p.0
    statement_else (For i lo hi b) names h =
        block_else b names (or_parts (x == i.id) (has_binder b x) h).1
    statement_else (Alloc y cell dims memory) names h =
        set_else names y.id (Some (record { cell = cell; extents = dims; tensor = true })) h
    statement_else (View w y cs) names h = set_else names w.id (viewed cs (names y)) h
    statement_else (Call k args) names h = refl

  kind_else : (i : ℕ) (kind : ParamKind) (names : Names) → (x == i) ≡ false
      → with_kind i kind names x ≡ names x
  kind_else i (ControlParam kind) names h = refl
  kind_else i (TensorParam cell dims memory) names h =
      set_else names i (Some (record { cell = cell; extents = dims; tensor = true })) h
  kind_else i (WindowParam cell dims memory) names h =
      set_else names i (Some (record { cell = cell; extents = dims; tensor = false })) h

  params_else : (ps : List Param) (names : Names) → is_buffer_of x ps ≡ false
      → with_params ps names x ≡ names x
  params_else [] names h = refl
  params_else (p ∷ ps) names h =
      let q = or_parts (x == p.binder.id) (is_buffer_of x ps) h in
      params_else ps (with_kind p.binder.id p.kind names) q.1 ∙ kind_else p.binder.id p.kind names q.0

-- each buffer parameter has its dimensions
abbrev pub HasDims : Names → ℕ → ParamKind → Type 0
HasDims names x (ControlParam kind) = Unit {0}
HasDims names x (TensorParam cell dims memory) = extents_of (names x) ≡ dims
HasDims names x (WindowParam cell dims memory) = extents_of (names x) ≡ dims

abbrev pub AllHaveDims : Names → List Param → Type 0
AllHaveDims names [] = Unit {0}
AllHaveDims names (p ∷ ps) = HasDims names p.binder.id p.kind × AllHaveDims names ps

dims_same : (names : Names) (x : ℕ) (kind : ParamKind) (other : Names)
    → names x ≡ other x → HasDims other x kind → HasDims names x kind
dims_same names x (ControlParam kind) other e h = tt
dims_same names x (TensorParam cell dims memory) other e h = ap extents_of e ∙ h
dims_same names x (WindowParam cell dims memory) other e h = ap extents_of e ∙ h

kind_dims : (x : ℕ) (kind : ParamKind) (names : Names) → HasDims (with_kind x kind names) x kind
kind_dims x (ControlParam kind) names = tt
kind_dims x (TensorParam cell dims memory) names =
    ap (λ t. extents_of (if t then Some (record { cell = cell; extents = dims; tensor = true })
    else names x)) (eq-eqb x x refl)
kind_dims x (WindowParam cell dims memory) names =
    ap (λ t. extents_of (if t then Some (record { cell = cell; extents = dims; tensor = false })
    else names x)) (eq-eqb x x refl)

pub all_have_dims : (ps : List Param) (b : Block) (names : Names) → Differ ps
    → ((x : ℕ) → is_buffer_of x ps ≡ true → has_binder b x ≡ false)
    → AllHaveDims (with_block b (with_params ps names)) ps
all_have_dims ps b names differ apart = go ps names differ (λ x h. block_else x b (with_params ps names) (apart x h))
  where
    all : Names
    all = with_block b (with_params ps names)

    go : (qs : List Param) (those : Names) → Differ qs
        → ((x : ℕ) → is_buffer_of x qs ≡ true → all x ≡ with_params qs those x) → AllHaveDims all qs
    go [] those d same = tt
    go (p ∷ qs) those d same =
        let i = p.binder.id in (
          dims_same all i p.kind (with_kind i p.kind those)
              (same i (or_left (i == i) (is_buffer_of i qs) (eq-eqb i i refl))
              ∙ params_else i qs (with_kind i p.kind those) d.0) (kind_dims i p.kind those),
          go qs (with_kind i p.kind those) d.1 (λ x h. same x (or_right (x == i) (is_buffer_of x qs) h)),
        )

-- ---- what is given

pub ok_some : (b : Argument) (o : Option Argument) (p : Path) → or_differs p o ≡ Ok b → o ≡ Some b
ok_some b None p h = cc
ok_some b (Some a) p h = cc

-- roots of what is given for a buffer with dimensions are known
module _ (fields : ℕ → Option Kind) (scope : Scope) (known : ℕ → Bool)
    (knowns : (x : ℕ) → has_dimension 0 (sort_in scope x) ≡ true → known x ≡ true) where
  some_below : (k n : ℕ) → nat_lt k n ≡ true → nat_lt 0 n ≡ true
  some_below k n h = grind arith

  none_below : (k : ℕ) → nat_lt k 0 ≡ false
  none_below k = grind arith

  some_length : (n : ℕ) → nat_lt 0 (suc n) ≡ true
  some_length n = grind arith

  ranked : (n : ℕ) (o : Option Sort) → has_rank n o ≡ true → nat_lt 0 n ≡ true
      → has_dimension 0 o ≡ true
  ranked n None h k = no h
  ranked n (Some (ControlName kind)) h k = no h
  ranked n (Some (BufferName cell rank dense)) h k = ap (nat_lt 0) (sym (eqb-true n rank h)) ∙ k

  some_coords : (cs : List Coord) → nat_lt 0 (spans cs) ≡ true → nat_lt 0 (length cs) ≡ true
  some_coords [] h = h
  some_coords (At a ∷ cs) h = some_length (length cs)
  some_coords (Span a b ∷ cs) h = some_length (length cs)

  whole_known : (y n : ℕ) → has_rank n (sort_in scope y) ≡ true → (k : ℕ) → nat_lt k n ≡ true
      → known y ≡ true
  whole_known y n h k l = knowns y (ranked n (sort_in scope y) h (some_below k n l))

  window_known : (y n : ℕ) (cs : List Coord) → is_window fields scope y cs ≡ true
      → (n == spans cs) ≡ true → (k : ℕ) → nat_lt k n ≡ true → known y ≡ true
  window_known y n cs h e k l =
      knowns y (ranked (length cs) (sort_in scope y)
      (and_parts (has_rank (length cs) (sort_in scope y)) (list_all (is_coord fields scope) cs) h).0
      (some_coords cs (ap (nat_lt 0) (sym (eqb-true n (spans cs) e)) ∙ some_below k n l)))

  pub tensor_strides : (cell : Cell) (dims : List Control) (memory : ℕ) (a : Argument)
      → is_for fields scope (TensorParam cell dims memory) a ≡ true
      → (k : ℕ) → nat_lt k (length dims) ≡ true → (j : ℕ) → moves known (stride_in (Some a) j) ≡ true
  tensor_strides cell dims memory (ControlArg e) i k l j = no i
  tensor_strides cell dims memory (ConditionArg c) i k l j = no i
  tensor_strides cell dims memory (Whole y) i k l j =
      let q = and_parts (has_cell cell (sort_in scope y)) _ i in
      whole_known y (length dims) (and_parts (has_rank (length dims) (sort_in scope y)) _ q.1).0 k l
  tensor_strides cell dims memory (Window y cs) i k l j =
      let q = and_parts (has_cell cell (sort_in scope y)) _ i in
      let r = and_parts (is_window fields scope y cs) _ q.1 in
      let z = (and_parts (length dims == 0) _ r.1).0 in
      no (sym (none_below k) ∙ sym (ap (nat_lt k) (eqb-true (length dims) 0 z)) ∙ l)

  pub view_strides : (cell : Cell) (dims : List Control) (memory : ℕ) (a : Argument)
      → is_for fields scope (WindowParam cell dims memory) a ≡ true
      → (k : ℕ) → nat_lt k (length dims) ≡ true → (j : ℕ) → moves known (stride_in (Some a) j) ≡ true
  view_strides cell dims memory (ControlArg e) i k l j = no i
  view_strides cell dims memory (ConditionArg c) i k l j = no i
  view_strides cell dims memory (Whole y) i k l j =
      whole_known y (length dims)
      (and_parts (has_cell cell (sort_in scope y)) (has_rank (length dims) (sort_in scope y)) i).1 k l
  view_strides cell dims memory (Window y cs) i k l j =
      let q = and_parts (has_cell cell (sort_in scope y)) _ i in
      let r = and_parts (is_window fields scope y cs) _ q.1 in
      window_known y (length dims) cs r.0 r.1 k l

-- ---- all of them

module _ (fields : ℕ → Option Kind) (memories : ℕ) (scope : Scope) (known : ℕ → Bool)
    (knowns : (x : ℕ) → has_dimension 0 (sort_in scope x) ≡ true → known x ≡ true)
    (r : Renaming) (at : Reading) (theirs : Names) (block : Block) (q : Procedure)
    (to' : ℕ → Option ℕ) (given : ℕ → Option Argument) where
  abbrev par : ℕ → Bool
  par = params at theirs block q

  abbrev found : ℕ → Option Argument
  found = argument_in par (walk at theirs block q)

  abbrev m : Moving
  m = moving par to' given

  abbrev by : Moving
  by = moving par to' found

  abbrev pub Here : Scope → Type 0
  Here own = Stand r.to known m by q.params par own known

  abbrev StandsHere : ℕ → ParamKind → Type 0
  StandsHere = StandsFor r.to known m by q.params par

  -- the dimensions that a parameter of this kind has
  abbrev DimsAre : ParamKind → Option (List Control) → Type 0
  DimsAre (ControlParam kind) o = Unit {0}
  DimsAre (TensorParam cell dims memory) o = o ≡ Some (re_controls r.to dims)
  DimsAre (WindowParam cell dims memory) o = o ≡ Some (re_controls r.to dims)

  this_dims : (kind : ParamKind) (o rest : Option (List Control))
      → o ≡ dims_if (re_kind r kind) true rest → DimsAre kind o
  this_dims (ControlParam kind) o rest h = tt
  this_dims (TensorParam cell dims memory) o rest h = h
  this_dims (WindowParam cell dims memory) o rest h = h

  -- one argument
  module _ (x : ℕ) (a : Argument) (is_par : par (r.to x) ≡ true) (is_given : given (r.to x) ≡ Some a)
      (read : OfArgument (IsOfKnown known) a) where
    of_number : (kind : Kind) (a : Argument) → is_of_kind fields with_both scope kind a ≡ true
        → OfArgument (IsOfKnown known) a → is_truth kind ≡ false
        → moves known (number_in (Some a)) ≡ true
    of_number kind (ControlArg e) h k f = k
    of_number kind (ConditionArg c) h k f =
        no (sym f ∙ (and_parts (is_truth kind) (is_condition fields with_both scope c) h).0)
    of_number kind (Whole y) h k f = no h
    of_number kind (Window y cs) h k f = no h

    of_flag : (kind : Kind) (a : Argument) → is_of_kind fields with_both scope kind a ≡ true
        → is_truth kind ≡ true → is_known (truth_in (Some a)) ≡ true
    of_flag kind (ControlArg e) h f =
        no (sym (ap not f) ∙ (and_parts (not (is_truth kind)) (is_control fields with_both scope e) h).0)
    of_flag kind (ConditionArg c) h f = refl
    of_flag kind (Whole y) h f = no h
    of_flag kind (Window y cs) h f = no h

    -- a parameter's variable is what is given for it
    as_given : (g : ℕ → Option Argument) → g (r.to x) ≡ Some a
        → (moving par to' g).variable (r.to x) ≡ number_in (Some a)
    as_given g e =
        ap (λ t. if t then number_in (g (r.to x)) else variable_for (to' (r.to x))) is_par ∙ ap number_in e

    stride_given : (k : ℕ) → m.stride (r.to x) k ≡ stride_in (Some a) k
    stride_given k =
        ap (λ t. if t then stride_in (given (r.to x)) k else stride_for (to' (r.to x)) k) is_par
        ∙ ap (λ o. stride_in o k) is_given

    one_stands : (kind : ParamKind) → is_for fields scope kind a ≡ true
        → argument_for at theirs block q (r.to x) (re_kind r kind) ≡ Ok a
        → DimsAre kind (dims_of q.params (r.to x))
        → StandsHere x kind
    one_stands (ControlParam kind) h k d =
        let f : found (r.to x) ≡ Some a = ok_some a (found (r.to x)) [] k in (
          λ t. (
            ap (moves known) (as_given given is_given) ∙ of_number kind a h read t,
            ap (moves known) (as_given found f) ∙ of_number kind a h read t,
          ),
          λ t. ap (λ o. is_known (truth_in o)) is_given ∙ of_flag kind a h t,
        )
    one_stands (TensorParam cell dims memory) h k d = (
      λ j l. ap (moves known) (stride_given j)
          ∙ tensor_strides fields scope known knowns cell dims memory a h j l j,
      ap (has_length (length dims)) d ∙ long dims,
    )
      where
        long : (es : List Control) → has_length (length es) (Some (re_controls r.to es)) ≡ true
        long es = ap (λ n. n == length es) (re_long es) ∙ eq-eqb (length es) (length es) refl
          where
            re_long : (es : List Control) → length (re_controls r.to es) ≡ length es
            re_long [] = refl
            re_long (e ∷ es) = ap suc (re_long es)
    one_stands (WindowParam cell dims memory) h k d = (
      λ j l. ap (moves known) (stride_given j)
          ∙ view_strides fields scope known knowns cell dims memory a h j l j,
      ap (has_length (length dims)) d ∙ long dims,
    )
      where
        long : (es : List Control) → has_length (length es) (Some (re_controls r.to es)) ≡ true
        long es = ap (λ n. n == length es) (re_long es) ∙ eq-eqb (length es) (length es) refl
          where
            re_long : (es : List Control) → length (re_controls r.to es) ≡ length es
            re_long [] = refl
            re_long (e ∷ es) = ap suc (re_long es)

  -- the dimensions of a parameter are known where it is bound
  abbrev pub DimsMove : ParamKind → Type 0
  DimsMove (ControlParam kind) = Unit {0}
  DimsMove (TensorParam cell dims memory) =
      are_moved_of_known known (coords_moved by (re_coords r.to (whole_of dims))) ≡ true
  DimsMove (WindowParam cell dims memory) =
      are_moved_of_known known (coords_moved by (re_coords r.to (whole_of dims))) ≡ true

  abbrev pub AllDimsMove : List Param → Type 0
  AllDimsMove [] = Unit {0}
  AllDimsMove (p ∷ ps) = DimsMove p.kind × AllDimsMove ps

  whole_formed : (own : Scope) (dims : List Control) → are_controls fields plainly own dims ≡ true
      → list_all (is_coord fields own) (whole_of dims) ≡ true
  whole_formed own [] h = refl
  whole_formed own (d ∷ ds) h =
      let p = and_parts (is_control fields plainly own d) (are_controls fields plainly own ds) h in
      ap₂ ◌&&◌ p.0 (whole_formed own ds p.1)

  dims_move : (own : Scope) (kind : ParamKind) → Here own
      → is_param_kind fields memories own kind ≡ true → DimsMove kind
  dims_move own (ControlParam kind) st h = tt
  dims_move own (TensorParam cell dims memory) st h =
      coords_move fields r.to by known own st.walked (whole_of dims)
      (whole_formed own dims (and_parts (are_controls fields plainly own dims) _ h).0)
  dims_move own (WindowParam cell dims memory) st h =
      coords_move fields r.to by known own st.walked (whole_of dims)
      (whole_formed own dims (and_parts (are_controls fields plainly own dims) _ h).0)

  -- the parameters that are left stand for what is given
  pub record Left (ps : List Param) (args : List Argument) : Type 0 where
    pub are : (x : ℕ) → is_buffer_of x ps ≡ true → par (r.to x) ≡ true
    pub gives : (x : ℕ) → is_buffer_of x ps ≡ true
        → given (r.to x) ≡ passed_for (re_params r ps) args (r.to x)
    pub dims : (x : ℕ) → is_buffer_of x ps ≡ true
        → dims_of q.params (r.to x) ≡ dims_of (re_params r ps) (r.to x)

  apart_from : (p : Param) (ps : List Param) (x : ℕ) → is_buffer_of p.binder.id ps ≡ false
      → is_buffer_of x ps ≡ true → (x == p.binder.id) ≡ false
  apart_from p ps x new h = go (x == p.binder.id) refl
    where
      go : (t : Bool) → (x == p.binder.id) ≡ t → t ≡ false
      go true e = no (sym new ∙ ap (λ y. is_buffer_of y ps) (sym (eqb-true x p.binder.id e)) ∙ h)
      go false e = refl

  flipped : (x i : ℕ) → (x == i) ≡ false → (r.to i == r.to x) ≡ false
  flipped x i h = go (r.to i == r.to x) refl
    where
      go : (t : Bool) → (r.to i == r.to x) ≡ t → t ≡ false
      go true e = no (sym h ∙ sym (same_ids r x i)
          ∙ eq-eqb (r.to x) (r.to i) (sym (eqb-true (r.to i) (r.to x) e)))
      go false e = refl

  else_dims : (kind : ParamKind) (o : Option (List Control)) → dims_if (re_kind r kind) false o ≡ o
  else_dims (ControlParam kind) o = refl
  else_dims (TensorParam cell dims memory) o = refl
  else_dims (WindowParam cell dims memory) o = refl

  -- those behind the first one
  pub later : (p : Param) (a : Argument) (ps : List Param) (args : List Argument)
      → is_buffer_of p.binder.id ps ≡ false → Left (p ∷ ps) (a ∷ args) → Left ps args
  later p a ps args new left = record {
    are = λ y e. left.are y (or_right (y == p.binder.id) (is_buffer_of y ps) e);
    gives = λ y e. left.gives y (or_right (y == p.binder.id) (is_buffer_of y ps) e)
        ∙ ap (λ t. if t then Some a else passed_for (re_params r ps) args (r.to y))
        (flipped y p.binder.id (apart_from p ps y new e));
    dims = λ y e. left.dims y (or_right (y == p.binder.id) (is_buffer_of y ps) e)
        ∙ ap (λ t. dims_if (re_kind r p.kind) t (dims_of (re_params r ps) (r.to y)))
        (same_ids r y p.binder.id ∙ apart_from p ps y new e)
        ∙ else_dims p.kind (dims_of (re_params r ps) (r.to y));
  }

  pub params_stand : (ps : List Param) (args : List Argument) (own : Scope) → Here own → Differ ps
      → are_params fields memories own ps ≡ true → are_for fields scope ps args ≡ true
      → OfArguments (IsOfKnown known) args → AreGiven at theirs block q (re_params r ps) args
      → Left ps args → Here (scope_of own ps) × AllDimsMove ps
  params_stand [] args own st d h i read g left = (st, tt)
  params_stand (p ∷ ps) [] own st d h i read g left = no i
  params_stand (p ∷ ps) (a ∷ args) own st d h i read g left =
      let x = p.binder.id in
      let here : is_buffer_of x (p ∷ ps) ≡ true
      = or_left (x == x) (is_buffer_of x ps) (eq-eqb x x refl) in
      let k = and_parts (is_new own p.binder) _ h in
      let l = and_parts (is_param_kind fields memories own p.kind) _ k.1 in
      let fit = and_parts (is_for fields scope p.kind a) (are_for fields scope ps args) i in
      let stands = one_stands x a (left.are x here)
      (left.gives x here
      ∙ ap (λ t. if t then Some a else passed_for (re_params r ps) args (r.to x))
      (eq-eqb (r.to x) (r.to x) refl)) read.0 p.kind fit.0 g.0
      (this_dims p.kind (dims_of q.params (r.to x)) (dims_of (re_params r ps) (r.to x))
      (left.dims x here ∙ ap (λ t. dims_if (re_kind r p.kind) t (dims_of (re_params r ps) (r.to x)))
      (eq-eqb (r.to x) (r.to x) refl))) in
      let rest = params_stand ps args (with_name own p.binder (param_sort p.kind))
      (with_param r.to known m by q.params par own p st stands) d.1 l.1 fit.1 read.1 g.1
      (later p a ps args d.0 left) in
      (rest.0, (dims_move own p.kind st l.0, rest.1))
