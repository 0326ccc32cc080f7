-- Each pair of the walk of a callee's body with a block stands, where both keep the rules.
use Rattle.std.proofs.Common.{◌≡◌, ℕ, suc, ◌==◌, Bool, true, false, ◌&&◌, ◌||◌, List, [], ◌∷◌, ◌++◌}
use Rattle.std.proofs.Common.{length, Option, Some, None, if◌then◌else◌, refl, sym, ap, ap₂, ◌∙◌, subst}
use Rattle.std.proofs.Common.{true≢false, eqb-true, eq-eqb, not}
use Rattle.std.specs.List.{list_all}
use Rattle.std.specs.Ordering.{int_eq}
use Rattle.exo_tree.specs.Cells.{same_cell}
use Rattle.exo_tree.specs.Tree.{Lit, Var, Field, StrideOf, Neg, Add, Sub, Mul, Div, Mod, True, False}
use Rattle.exo_tree.specs.Tree.{Flag, FieldFlag, Lt, Le, Gt, Ge, Eq, And, Or}
use Rattle.exo_tree.specs.Tree.{Cell, I32, Kind, Index, Binder, Control, Condition, Datum, Const, Read}
use Rattle.exo_tree.specs.Tree.{Negated, Relu, Plus, Minus, Times, Select, Coord, At, Span, Argument}
use Rattle.exo_tree.specs.Tree.{ControlArg, ConditionArg, Whole, Window, ParamKind, ControlParam}
use Rattle.exo_tree.specs.Tree.{TensorParam, WindowParam, Param, Statement, Assign, Reduce, Config}
use Rattle.exo_tree.specs.Tree.{Pass, If, For, Alloc, View, Call, Block, end, next}
use Rattle.exo_tree.specs.Places.{Branch, Main, Else, Path}
use Rattle.exo_tree.specs.Renaming.{re_control, re_controls, re_condition, re_datum, re_coords}
use Rattle.exo_tree.specs.Renaming.{re_argument, re_arguments, re_statement, re_block}
use Rattle.exo_meaning.specs.Calls.{Callee}
use Rattle.exo_meaning.specs.Run.{roots_after}
use Rattle.exo_meaning.specs.Units.{Scope, Sort, ControlName, BufferName, Reads, plainly, sort_in}
use Rattle.exo_meaning.specs.Units.{with_fields, with_strides, with_both, with_name, is_number, is_flag}
use Rattle.exo_meaning.specs.Units.{has_rank, has_cell, has_dimension, is_truth, is_control}
use Rattle.exo_meaning.specs.Units.{are_controls, is_condition, is_access, is_datum, is_coord, is_window}
use Rattle.exo_meaning.specs.Units.{is_of_kind, is_for, are_for, is_call, is_write, is_new, is_empty}
use Rattle.exo_meaning.specs.Units.{is_short, spans, view_sort, is_block, is_statement, scope_after}
use Rattle.meaning_laws.specs.Scoped.{has_binder, step_has_binder}
use Rattle.meaning_laws.proofs.Facts.{or_left, or_right}
use Rattle.affine_forms.specs.Forms.{is_affine}
use Rattle.affine_forms.proofs.Values.{and_parts}
use Rattle.check_laws.proofs.OfFacts.Affine.{affine}
use Rattle.inplace_laws.specs.Steady.{is_steady}
use Rattle.inplace_laws.specs.SteadyFlags.{is_steady_condition}
use Rattle.match_laws.specs.Names.{Names, extents_of, whole_of}
use Rattle.match_laws.specs.Moved.{Moving, moved, moved_condition}
use Rattle.match_laws.specs.Fitting.{coords_moved}
use Rattle.match_laws.specs.Pairs.{Pair, Numbers, Truths, Binders, Own, Access, Unlike, same_cells}
use Rattle.match_laws.specs.Pairs.{points, controls_paired, coords_paired, param_paired, access_paired}
use Rattle.match_laws.specs.Pairs.{wholes_paired, whole_paired, window_paired, data_paired}
use Rattle.match_laws.specs.Pairs.{argument_paired, arguments_paired, step_to, blocks_paired}
use Rattle.match_laws.specs.Pairs.{statements_paired}
use Rattle.match_laws.specs.Inline.Known.{strides_of, known_behind}
use Rattle.match_laws.specs.Inline.MatchLaw.{is_known, dims_of, has_length, are_of_known}
use Rattle.match_laws.specs.Inline.MatchLaw.{are_moved_of_known, stands, all_stand}
use Rattle.call_laws.specs.Calls.Takes.{is_steady_argument}
use Rattle.call_laws.proofs.OfReplace.Moves.{moves, IsMore, moves_more, control_known}
use Rattle.call_laws.proofs.OfReplace.Moves.{condition_known, coords_move}

no : {P : Type 0} → false ≡ true → P
no h = absurd (true≢false (sym h))

-- ---- names in scope

-- of a name bound in a scope: itself or another one
pub named : (P : Type 0) (test : Option Sort → Bool) (scope : Scope) (i : Binder) (s : Sort) (x : ℕ)
    → (x ≡ i.id → test (Some s) ≡ true → P) → (test (sort_in scope x) ≡ true → P)
    → test (sort_in (with_name scope i s) x) ≡ true → P
named P test scope i s x this other h = go (x == i.id) refl h
  where
    go : (t : Bool) → (x == i.id) ≡ t → test (if t then Some s else sort_in scope x) ≡ true → P
    go true e k = this (eqb-true x i.id e) k
    go false e k = other k

-- what the callee's names stand for: m with all arguments, by as the walk determines it
module _ (to : ℕ → ℕ) (known : ℕ → Bool) (m by : Moving) (ps : List Param) (params : ℕ → Bool) where
  pub record Stand (scope : Scope) (grown : ℕ → Bool) : Type 0 where
    pub numbers : (x : ℕ)
        → is_number (sort_in scope x) ≡ true
        → moves known (m.variable (to x)) ≡ true
    pub walked : (x : ℕ)
        → is_number (sort_in scope x) ≡ true
        → moves known (by.variable (to x)) ≡ true
    pub flags : (x : ℕ)
        → is_flag (sort_in scope x) ≡ true
        → is_known (m.flag (to x)) ≡ true
    pub strides : (x k : ℕ)
        → has_dimension k (sort_in scope x) ≡ true
        → moves grown (m.stride (to x) k) ≡ true
    pub ranks : (x n : ℕ)
        → has_rank n (sort_in scope x) ≡ true
        → params (to x) ≡ true
        → has_length n (dims_of ps (to x)) ≡ true
    pub more : IsMore known grown

  -- a name of the callee's own body
  pub record IsOwn (x : ℕ) : Type 0 where
    pub apart : params (to x) ≡ false
    pub number : moves known (m.variable (to x)) ≡ true
    pub walked : moves known (by.variable (to x)) ≡ true
    pub stride : (grown : ℕ → Bool) (k : ℕ)
        → grown (to x) ≡ true
        → moves grown (m.stride (to x) k) ≡ true

  -- more names may be known
  pub stand_more : (scope : Scope) (grown other : ℕ → Bool) → IsMore grown other
      → Stand scope grown → Stand scope other
  stand_more scope grown other more st = record {
    numbers = st.numbers;
    walked = st.walked;
    flags = st.flags;
    strides = λ x k h. moves_more grown other more (m.stride (to x) k) (st.strides x k h);
    ranks = st.ranks;
    more = λ x h. more x (st.more x h);
  }

  pub with_loop : (scope : Scope) (grown : ℕ → Bool) (i : Binder) → Stand scope grown → IsOwn i.id
      → Stand (with_name scope i (ControlName Index)) grown
  with_loop scope grown i st own = record {
    numbers = λ x h. named (moves known (m.variable (to x)) ≡ true) is_number scope i
        (ControlName Index) x
        (λ e k. subst (λ y. moves known (m.variable (to y)) ≡ true) (sym e) own.number)
        (st.numbers x) h;
    walked = λ x h. named (moves known (by.variable (to x)) ≡ true) is_number scope i
        (ControlName Index) x
        (λ e k. subst (λ y. moves known (by.variable (to y)) ≡ true) (sym e) own.walked)
        (st.walked x) h;
    flags = λ x h. named (is_known (m.flag (to x)) ≡ true) is_flag scope i (ControlName Index) x
        (λ e k. no k) (st.flags x) h;
    strides = λ x k h. named (moves grown (m.stride (to x) k) ≡ true) (has_dimension k) scope i
        (ControlName Index) x (λ e l. no l) (st.strides x k) h;
    ranks = λ x n h. named (params (to x) ≡ true → has_length n (dims_of ps (to x)) ≡ true)
        (has_rank n) scope i (ControlName Index) x (λ e l. no l) (st.ranks x n) h;
    more = st.more;
  }

  abbrev pub grown_by : ℕ → (ℕ → Bool) → ℕ → Bool
  grown_by i grown x = (x == to i) || grown x

  pub with_buffer : (scope : Scope) (grown : ℕ → Bool) (i : Binder) (cell : Cell) (rank : ℕ)
      (dense : Bool) → Stand scope grown → IsOwn i.id
      → Stand (with_name scope i (BufferName cell rank dense)) (grown_by i.id grown)
  with_buffer scope grown i cell rank dense st own = record {
    numbers = λ x h. named (moves known (m.variable (to x)) ≡ true) is_number scope i sort x
        (λ e k. no k) (st.numbers x) h;
    walked = λ x h. named (moves known (by.variable (to x)) ≡ true) is_number scope i sort x
        (λ e k. no k) (st.walked x) h;
    flags = λ x h. named (is_known (m.flag (to x)) ≡ true) is_flag scope i sort x
        (λ e k. no k) (st.flags x) h;
    strides = λ x k h. named (moves (grown_by i.id grown) (m.stride (to x) k) ≡ true)
        (has_dimension k) scope i sort x
        (λ e l. subst (λ y. moves (grown_by i.id grown) (m.stride (to y) k) ≡ true) (sym e)
        (own.stride (grown_by i.id grown) k
        (or_left (to i.id == to i.id) (grown (to i.id)) (eq-eqb (to i.id) (to i.id) refl))))
        (λ l. moves_more grown (grown_by i.id grown) (λ y j. or_right (y == to i.id) (grown y) j)
        (m.stride (to x) k) (st.strides x k l)) h;
    ranks = λ x n h. named (params (to x) ≡ true → has_length n (dims_of ps (to x)) ≡ true)
        (has_rank n) scope i sort x
        (λ e l f. no (sym (ap (λ y. params (to y)) e ∙ own.apart) ∙ f)) (st.ranks x n) h;
    more = λ x h. or_right (x == to i.id) (grown x) (st.more x h);
  }
    where
      sort : Sort
      sort = BufferName cell rank dense

  abbrev pub Owns : (ℕ → Bool) → Type 0
  Owns binds = (x : ℕ) → binds x ≡ true → IsOwn x

  view_stands : (o : Option Sort) (w : Binder) (cs : List Coord) (scope : Scope)
      (grown : ℕ → Bool) → Stand scope grown
      → IsOwn w.id
      → Stand (with_name scope w (view_sort o (spans cs)))
      (grown_by w.id grown)
  view_stands None w cs scope grown st own =
      with_buffer scope grown w I32 (spans cs) false st own
  view_stands (Some (ControlName kind)) w cs scope grown st own =
      with_buffer scope grown w I32 (spans cs) false st own
  view_stands (Some (BufferName cell rank dense)) w cs scope grown st own =
      with_buffer scope grown w cell (spans cs) false st own

  -- the names in scope behind a statement
  pub stand_after : (a : Statement) (scope : Scope) (grown : ℕ → Bool)
      → Stand scope grown → Owns (step_has_binder a)
      → Stand (scope_after a scope) (known_behind (re_statement to a) grown)
  stand_after (Assign x is e) scope grown st own = st
  stand_after (Reduce x is e) scope grown st own = st
  stand_after (Config f a) scope grown st own = st
  stand_after Pass scope grown st own = st
  stand_after (If c a b) scope grown st own = st
  stand_after (For i lo hi b) scope grown st own = st
  stand_after (Alloc x cell dims memory) scope grown st own =
      with_buffer scope grown x cell (length dims) true st
      (own x.id (eq-eqb x.id x.id refl))
  stand_after (View w x cs) scope grown st own =
      view_stands (sort_in scope x) w cs scope grown st (own w.id (eq-eqb w.id w.id refl))
  stand_after (Call k args) scope grown st own = st

-- ---- points

points_re : (to : ℕ → ℕ) (is : List Control) → points (re_controls to is) ≡ re_coords to (points is)
points_re to [] = refl
points_re to (i ∷ is) = ap (λ cs. At (re_control to i) ∷ cs) (points_re to is)

points_long : (is : List Control) → length (points is) ≡ length is
points_long [] = refl
points_long (i ∷ is) = ap suc (points_long is)

coords_long : (to : ℕ → ℕ) (cs : List Coord) → length (re_coords to cs) ≡ length cs
coords_long to [] = refl
coords_long to (c ∷ cs) = ap suc (coords_long to cs)

whole_long : (ds : List Control) → length (whole_of ds) ≡ length ds
whole_long [] = refl
whole_long (d ∷ ds) = ap suc (whole_long ds)

points_are : (fields : ℕ → Option Kind) (scope : Scope) (is : List Control)
    → are_controls fields plainly scope is ≡ true → list_all (is_coord fields scope) (points is) ≡ true
points_are fields scope [] h = refl
points_are fields scope (i ∷ is) h =
    let p = and_parts (is_control fields plainly scope i) (are_controls fields plainly scope is) h in
    ap₂ ◌&&◌ p.0 (points_are fields scope is p.1)

pub some_dims : (n : ℕ) (o : Option (List Control)) → has_length n o ≡ true
    → (dims : List Control) × (o ≡ Some dims)
some_dims n None h = no h
some_dims n (Some dims) h = (dims, refl)

-- ---- coordinates of the block

module _ (fields : ℕ → Option Kind) (known : ℕ → Bool) (scope : Scope) where
  pub plain_is : (e : Control) → is_control fields plainly scope e ≡ true
      → is_affine (strides_of known) e ≡ true
  plain_is = affine fields plainly scope (strides_of known) (record {
    variables = λ x h. refl;
    of_fields = λ f h. refl;
    strides = λ x k h. no h;
  })

  pub coords_are : (cs : List Coord) → list_all (is_coord fields scope) cs ≡ true
      → are_of_known known cs ≡ true
  coords_are [] h = refl
  coords_are (At a ∷ cs) h =
      let p = and_parts (is_control fields plainly scope a) (list_all (is_coord fields scope) cs) h in
      ap₂ ◌&&◌ (plain_is a p.0) (coords_are cs p.1)
  coords_are (Span a b ∷ cs) h =
      let p = and_parts (is_control fields plainly scope a && is_control fields plainly scope b)
      (list_all (is_coord fields scope) cs) h in
      let q = and_parts (is_control fields plainly scope a) (is_control fields plainly scope b) p.0 in
      ap₂ ◌&&◌ (plain_is a q.0) (ap₂ ◌&&◌ (plain_is b q.1) (coords_are cs p.1))

  points_of_known : (is : List Control) → are_controls fields plainly scope is ≡ true
      → are_of_known known (points is) ≡ true
  points_of_known is h = coords_are (points is) (points_are fields scope is h)

-- no field is read in what the whole of a bound or of a written value is

abbrev pub is_steady_pair : Pair → Bool
is_steady_pair (Numbers p true e g) = is_steady g
is_steady_pair (Numbers p false e g) = true
is_steady_pair (Truths p true c d) = is_steady_condition d
is_steady_pair (Truths p false c d) = true
is_steady_pair (Binders x y) = true
is_steady_pair (Own p x y) = true
is_steady_pair (Access p x cs y ds) = true
is_steady_pair (Unlike p) = true

module _ (fields : ℕ → Option Kind) (reads : Reads) (scope : Scope) (none : reads.fields ≡ false) where
  control_steady : (e : Control) → is_control fields reads scope e ≡ true → is_steady e ≡ true
  control_steady (Lit n) h = refl
  control_steady (Var x) h = refl
  control_steady (Field f) h = no (sym none ∙ (and_parts reads.fields _ h).0)
  control_steady (StrideOf x k) h = refl
  control_steady (Neg a) h = control_steady a h
  control_steady (Add a b) h =
      let p = and_parts (is_control fields reads scope a) (is_control fields reads scope b) h in
      ap₂ ◌&&◌ (control_steady a p.0) (control_steady b p.1)
  control_steady (Sub a b) h =
      let p = and_parts (is_control fields reads scope a) (is_control fields reads scope b) h in
      ap₂ ◌&&◌ (control_steady a p.0) (control_steady b p.1)
  control_steady (Mul a b) h =
      let q = and_parts (is_control fields reads scope a && is_control fields reads scope b) _ h in
      let p = and_parts (is_control fields reads scope a) (is_control fields reads scope b) q.0 in
      ap₂ ◌&&◌ (control_steady a p.0) (control_steady b p.1)
  control_steady (Div a c) h = control_steady a (and_parts (is_control fields reads scope a) _ h).0
  control_steady (Mod a c) h = control_steady a (and_parts (is_control fields reads scope a) _ h).0

  sides_steady : (a b : Control)
      → (is_control fields reads scope a && is_control fields reads scope b) ≡ true
      → (is_steady a && is_steady b) ≡ true
  sides_steady a b h =
      let p = and_parts (is_control fields reads scope a) (is_control fields reads scope b) h in
      ap₂ ◌&&◌ (control_steady a p.0) (control_steady b p.1)

  condition_steady : (c : Condition) → is_condition fields reads scope c ≡ true
      → is_steady_condition c ≡ true
  condition_steady True h = refl
  condition_steady False h = refl
  condition_steady (Flag x) h = refl
  condition_steady (FieldFlag f) h = no (sym none ∙ (and_parts reads.fields _ h).0)
  condition_steady (Lt a b) h = sides_steady a b h
  condition_steady (Le a b) h = sides_steady a b h
  condition_steady (Gt a b) h = sides_steady a b h
  condition_steady (Ge a b) h = sides_steady a b h
  condition_steady (Eq a b) h = sides_steady a b h
  condition_steady (And c d) h =
      let p = and_parts (is_condition fields reads scope c) (is_condition fields reads scope d) h in
      ap₂ ◌&&◌ (condition_steady c p.0) (condition_steady d p.1)
  condition_steady (Or c d) h =
      let p = and_parts (is_condition fields reads scope c) (is_condition fields reads scope d) h in
      ap₂ ◌&&◌ (condition_steady c p.0) (condition_steady d p.1)

write_steady : (fields : ℕ → Option Kind) (scope : Scope) (o : Option Kind) (a : Argument)
    → is_write fields scope o a ≡ true → is_steady_argument a ≡ true
write_steady fields scope None a h = no h
write_steady fields scope (Some kind) (ControlArg e) h =
    control_steady fields with_strides scope refl e
    (and_parts (not (is_truth kind)) (is_control fields with_strides scope e) h).1
write_steady fields scope (Some kind) (ConditionArg c) h =
    condition_steady fields with_strides scope refl c
    (and_parts (is_truth kind) (is_condition fields with_strides scope c) h).1
write_steady fields scope (Some kind) (Whole x) h = refl
write_steady fields scope (Some kind) (Window x cs) h = refl

-- ---- arguments

-- as the rules of a call and of a configuration write have them
module _ (fields : ℕ → Option Kind) (scope : Scope) where
  abbrev pub IsFormed : Argument → Type 0
  IsFormed (ControlArg e) = (reads : Reads) × (is_control fields reads scope e ≡ true)
  IsFormed (ConditionArg c) = (reads : Reads) × (is_condition fields reads scope c ≡ true)
  IsFormed (Whole x) = (n : ℕ) × (has_rank n (sort_in scope x) ≡ true)
  IsFormed (Window x cs) = is_window fields scope x cs ≡ true

  abbrev pub AreFormed : List Argument → Type 0
  AreFormed [] = Unit {0}
  AreFormed (a ∷ rest) = IsFormed a × AreFormed rest

  kind_formed : (reads : Reads) (kind : Kind) (a : Argument)
      → is_of_kind fields reads scope kind a ≡ true → IsFormed a
  kind_formed reads kind (ControlArg e) h =
      (reads, (and_parts (not (is_truth kind)) (is_control fields reads scope e) h).1)
  kind_formed reads kind (ConditionArg c) h =
      (reads, (and_parts (is_truth kind) (is_condition fields reads scope c) h).1)
  kind_formed reads kind (Whole x) h = no h
  kind_formed reads kind (Window x cs) h = no h

  for_formed : (kind : ParamKind) (a : Argument) → is_for fields scope kind a ≡ true → IsFormed a
  for_formed (ControlParam kind) a h = kind_formed with_both kind a h
  for_formed (TensorParam cell dims memory) (ControlArg e) h = no h
  for_formed (TensorParam cell dims memory) (ConditionArg c) h = no h
  for_formed (TensorParam cell dims memory) (Whole x) h =
      let q = and_parts (has_cell cell (sort_in scope x)) _ h in
      (length dims, (and_parts (has_rank (length dims) (sort_in scope x)) _ q.1).0)
  for_formed (TensorParam cell dims memory) (Window x cs) h =
      let q = and_parts (has_cell cell (sort_in scope x)) _ h in
      (and_parts (is_window fields scope x cs) _ q.1).0
  for_formed (WindowParam cell dims memory) (ControlArg e) h = no h
  for_formed (WindowParam cell dims memory) (ConditionArg c) h = no h
  for_formed (WindowParam cell dims memory) (Whole x) h =
      (length dims, (and_parts (has_cell cell (sort_in scope x)) (has_rank (length dims) (sort_in scope x)) h).1)
  for_formed (WindowParam cell dims memory) (Window x cs) h =
      let q = and_parts (has_cell cell (sort_in scope x)) _ h in
      (and_parts (is_window fields scope x cs) _ q.1).0

  pub all_formed : (ps : List Param) (args : List Argument) → are_for fields scope ps args ≡ true
      → AreFormed args
  all_formed [] [] h = tt
  all_formed [] (a ∷ args) h = no h
  all_formed (p ∷ ps) [] h = tt
  all_formed (p ∷ ps) (a ∷ args) h =
      let q = and_parts (is_for fields scope p.kind a) (are_for fields scope ps args) h in
      (for_formed p.kind a q.0, all_formed ps args q.1)

  pub call_formed : (root : ℕ → ℕ) (o : Option Callee) (args : List Argument)
      → is_call fields scope root o args ≡ true → AreFormed args
  call_formed root None args h = no h
  call_formed root (Some callee) args h =
      all_formed callee.procedure.params args
      (and_parts (are_for fields scope callee.procedure.params args) _ h).0

  pub write_formed : (o : Option Kind) (a : Argument) → is_write fields scope o a ≡ true → IsFormed a
  write_formed None a h = no h
  write_formed (Some kind) a h = kind_formed with_strides kind a h

-- ---- the pairs

module _ (fields : ℕ → Option Kind) (to : ℕ → ℕ) (known : ℕ → Bool) (m by : Moving)
    (ps : List Param) (params bound : ℕ → Bool) (ours theirs : Names)
    (wholes_ours : (x : ℕ) (dims : List Control) → dims_of ps x ≡ Some dims
    → (extents_of (ours x) ≡ dims)
    × (are_moved_of_known known (coords_moved by (whole_of dims)) ≡ true))
    (wholes_theirs : (y : ℕ) → are_of_known known (whole_of (extents_of (theirs y))) ≡ true) where
  abbrev pub is_fine : Pair → Bool
  is_fine a = stands known by m ps a && is_steady_pair a

  abbrev pub all_fine : List Pair → Bool
  all_fine [] = true
  all_fine (a ∷ pairs) = is_fine a && all_fine pairs

  abbrev AllStand : List Pair → Type 0
  AllStand pairs = all_fine pairs ≡ true

  -- so all of them stand, and are steady
  pub fine_stand : (pairs : List Pair) → AllStand pairs → all_stand known by m ps pairs ≡ true
  fine_stand [] h = refl
  fine_stand (a ∷ pairs) h =
      let p = and_parts (is_fine a) (all_fine pairs) h in
      ap₂ ◌&&◌ (and_parts (stands known by m ps a) (is_steady_pair a) p.0).0 (fine_stand pairs p.1)

  joined : (xs ys : List Pair) → AllStand xs → AllStand ys → AllStand (xs ++ ys)
  joined [] ys h k = k
  joined (x ∷ xs) ys h k =
      let p = and_parts (is_fine x) (all_fine xs) h in ap₂ ◌&&◌ p.0 (joined xs ys p.1 k)

  like : (t : Bool) (p : Path) (pairs : List Pair) → AllStand pairs
      → AllStand (if t then pairs else Unlike p ∷ [])
  like true p pairs h = h
  like false p pairs h = refl

  -- an access with these coordinates
  access_with : (p : Path) (x : ℕ) (cs : List Coord) (y : ℕ) (ds : List Coord)
      → (params x ≡ true → (has_length (length cs) (dims_of ps x) ≡ true)
      × (are_moved_of_known known (coords_moved by cs) ≡ true))
      → (params x ≡ false → AllStand (coords_paired params bound ours theirs p cs ds))
      → are_of_known known ds ≡ true
      → AllStand (access_paired params bound ours theirs p x cs y ds)
  access_with p x cs y ds param own d =
      like (same_cells (ours x) (theirs y)) p
      (if params x then param_paired params bound ours theirs p x cs y ds
      else Own p x y ∷ coords_paired params bound ours theirs p cs ds) (go (params x) refl)
    where
      by_bound : (t : Bool) → params x ≡ true
          → AllStand (if t then Unlike p ∷ [] else Access p x cs y ds ∷ [])
      by_bound true e = refl
      by_bound false e =
          ap₂ ◌&&◌ (ap₂ ◌&&◌ (ap₂ ◌&&◌ (param e).0 (ap₂ ◌&&◌ (param e).1 d)) refl) refl

      go : (t : Bool) → params x ≡ t
          → AllStand (if t then param_paired params bound ours theirs p x cs y ds
          else Own p x y ∷ coords_paired params bound ours theirs p cs ds)
      go true e = by_bound (bound y) e
      go false e = own e

  -- ---- at a place

  module _ (scope : Scope) (grown : ℕ → Bool) (st : Stand to known m by ps params scope grown) where
    number_known : (reads : Reads) (e : Control) → is_control fields reads scope e ≡ true
        → is_known (moved m (re_control to e)) ≡ true
    number_known reads = control_known fields to m grown reads scope
        (λ x k. moves_more known grown st.more (m.variable (to x)) (st.numbers x k))
        (λ x k h. st.strides x k (and_parts reads.strides (has_dimension k (sort_in scope x)) h).1)

    truth_known : (reads : Reads) (c : Condition) → is_condition fields reads scope c ≡ true
        → is_known (moved_condition m (re_condition to c)) ≡ true
    truth_known reads = condition_known fields to m grown reads scope
        (λ x k. moves_more known grown st.more (m.variable (to x)) (st.numbers x k))
        (λ x k h. st.strides x k (and_parts reads.strides (has_dimension k (sort_in scope x)) h).1)
        st.flags

    controls_stand : (reads : Reads) (p : Path) (es gs : List Control)
        → are_controls fields reads scope es ≡ true
        → AllStand (controls_paired params bound ours theirs p (re_controls to es) gs)
    controls_stand reads p [] [] h = refl
    controls_stand reads p [] (g ∷ gs) h = refl
    controls_stand reads p (e ∷ es) [] h = refl
    controls_stand reads p (e ∷ es) (g ∷ gs) h =
        let q = and_parts (is_control fields reads scope e) (are_controls fields reads scope es) h in
        ap₂ ◌&&◌ (ap₂ ◌&&◌ (number_known reads e q.0) refl) (controls_stand reads p es gs q.1)

    coords_stand : (p : Path) (cs ds : List Coord) → list_all (is_coord fields scope) cs ≡ true
        → AllStand (coords_paired params bound ours theirs p (re_coords to cs) ds)
    coords_stand p [] [] h = refl
    coords_stand p [] (d ∷ ds) h = refl
    coords_stand p (At e ∷ cs) [] h = refl
    coords_stand p (Span e f ∷ cs) [] h = refl
    coords_stand p (At e ∷ cs) (At g ∷ ds) h =
        let q = and_parts (is_control fields plainly scope e) (list_all (is_coord fields scope) cs) h in
        ap₂ ◌&&◌ (ap₂ ◌&&◌ (number_known plainly e q.0) refl) (coords_stand p cs ds q.1)
    coords_stand p (At e ∷ cs) (Span g h ∷ ds) k = refl
    coords_stand p (Span e f ∷ cs) (At g ∷ ds) h = refl
    coords_stand p (Span e f ∷ cs) (Span g i ∷ ds) h =
        let q = and_parts (is_control fields plainly scope e && is_control fields plainly scope f)
        (list_all (is_coord fields scope) cs) h in
        let r = and_parts (is_control fields plainly scope e) (is_control fields plainly scope f) q.0 in
        ap₂ ◌&&◌ (ap₂ ◌&&◌ (number_known plainly e r.0) refl)
        (ap₂ ◌&&◌ (ap₂ ◌&&◌ (number_known plainly f r.1) refl) (coords_stand p cs ds q.1))

    access_stand : (p : Path) (x : ℕ) (cs : List Coord) (y : ℕ) (ds : List Coord)
        → has_rank (length cs) (sort_in scope x) ≡ true → list_all (is_coord fields scope) cs ≡ true
        → are_of_known known ds ≡ true
        → AllStand (access_paired params bound ours theirs p (to x) (re_coords to cs) y ds)
    access_stand p x cs y ds rank formed d =
        access_with p (to x) (re_coords to cs) y ds
        (λ e. (
          ap (λ n. has_length n (dims_of ps (to x))) (coords_long to cs) ∙ st.ranks x (length cs) rank e,
          coords_move fields to by known scope st.walked cs formed,
        ))
        (λ e. coords_stand p cs ds formed) d

    points_stand : (p : Path) (x : ℕ) (is : List Control) (y : ℕ) (js : List Control)
        → is_access fields scope x is ≡ true → are_of_known known (points js) ≡ true
        → AllStand (access_paired params bound ours theirs p (to x) (points (re_controls to is)) y
        (points js))
    points_stand p x is y js h d =
        let q = and_parts (has_rank (length is) (sort_in scope x)) (are_controls fields plainly scope is) h in
        subst (λ cs. AllStand (access_paired params bound ours theirs p (to x) cs y (points js)))
        (sym (points_re to is))
        (access_stand p x (points is) y (points js)
        (ap (λ n. has_rank n (sort_in scope x)) (points_long is) ∙ q.0)
        (points_are fields scope is q.1) d)

    -- the whole of a parameter
    whole_of_param : (x n : ℕ) → has_rank n (sort_in scope x) ≡ true → params (to x) ≡ true
        → (has_length (length (whole_of (extents_of (ours (to x))))) (dims_of ps (to x)) ≡ true)
        × (are_moved_of_known known (coords_moved by (whole_of (extents_of (ours (to x))))) ≡ true)
    whole_of_param x n h e =
        let d = some_dims n (dims_of ps (to x)) (st.ranks x n h e) in
        let w = wholes_ours (to x) d.0 d.1 in (
          ap₂ has_length (ap (λ es. length (whole_of es)) w.0 ∙ whole_long d.0) d.1
              ∙ eq-eqb (length d.0) (length d.0) refl,
          ap (λ es. are_moved_of_known known (coords_moved by (whole_of es))) w.0 ∙ w.1,
        )

    whole_stand : (p : Path) (x n : ℕ) (y : ℕ) (ds : List Coord)
        → has_rank n (sort_in scope x) ≡ true → are_of_known known ds ≡ true
        → AllStand (whole_paired params bound ours theirs p (to x) y ds)
    whole_stand p x n y ds h d = go (params (to x)) refl
      where
        go : (t : Bool) → params (to x) ≡ t
            → AllStand (if t
            then access_paired params bound ours theirs p (to x) (whole_of (extents_of (ours (to x)))) y ds
            else Unlike p ∷ [])
        go true e = access_with p (to x) (whole_of (extents_of (ours (to x)))) y ds
            (λ f. whole_of_param x n h e) (λ f. no (sym f ∙ e)) d
        go false e = refl

    wholes_stand : (p : Path) (x n : ℕ) (y : ℕ) → has_rank n (sort_in scope x) ≡ true
        → AllStand (wholes_paired params bound ours theirs p (to x) y)
    wholes_stand p x n y h =
        like (same_cells (ours (to x)) (theirs y)) p
        (if params (to x)
        then param_paired params bound ours theirs p (to x) (whole_of (extents_of (ours (to x)))) y
        (whole_of (extents_of (theirs y)))
        else Own p (to x) y ∷ []) (go (params (to x)) refl)
      where
        by_bound : (t : Bool) → params (to x) ≡ true
            → AllStand (if t then Unlike p ∷ [] else Access p (to x)
            (whole_of (extents_of (ours (to x)))) y (whole_of (extents_of (theirs y))) ∷ [])
        by_bound true e = refl
        by_bound false e =
            let w = whole_of_param x n h e in
            ap₂ ◌&&◌ (ap₂ ◌&&◌ (ap₂ ◌&&◌ w.0 (ap₂ ◌&&◌ w.1 (wholes_theirs y))) refl) refl

        go : (t : Bool) → params (to x) ≡ t
            → AllStand (if t
            then param_paired params bound ours theirs p (to x) (whole_of (extents_of (ours (to x)))) y
            (whole_of (extents_of (theirs y)))
            else Own p (to x) y ∷ [])
        go true e = by_bound (bound y) e
        go false e = refl

    window_stand : (p : Path) (x : ℕ) (cs : List Coord) (y : ℕ) → is_window fields scope x cs ≡ true
        → AllStand (window_paired params bound ours theirs p (to x) (re_coords to cs) y)
    window_stand p x cs y h = go (params (to x))
      where
        parts : (has_rank (length cs) (sort_in scope x) ≡ true) × (list_all (is_coord fields scope) cs ≡ true)
        parts = and_parts (has_rank (length cs) (sort_in scope x)) (list_all (is_coord fields scope) cs) h

        go : (t : Bool)
            → AllStand (if t
            then access_paired params bound ours theirs p (to x) (re_coords to cs) y
            (whole_of (extents_of (theirs y)))
            else Unlike p ∷ [])
        go true = access_stand p x cs y (whole_of (extents_of (theirs y))) parts.0 parts.1 (wholes_theirs y)
        go false = refl

    -- ---- with a place of the block

    module _ (its : Scope) where
      data_stand : (p : Path) (e d : Datum) → is_datum fields scope e ≡ true
          → is_datum fields its d ≡ true
          → AllStand (data_paired params bound ours theirs p (re_datum to e) d)
      data_stand p (Const k) (Const n) h i = like (int_eq k n) p [] refl
      data_stand p (Read x is) (Read y js) h i =
          points_stand p x is y js h (points_of_known fields known its js
          (and_parts (has_rank (length js) (sort_in its y)) (are_controls fields plainly its js) i).1)
      data_stand p (Negated a) (Negated b) h i = data_stand p a b h i
      data_stand p (Relu a) (Relu b) h i = data_stand p a b h i
      data_stand p (Plus a b) (Plus c d) h i =
          let q = and_parts (is_datum fields scope a) (is_datum fields scope b) h in
          let r = and_parts (is_datum fields its c) (is_datum fields its d) i in
          joined (data_paired params bound ours theirs p (re_datum to a) c)
          (data_paired params bound ours theirs p (re_datum to b) d)
          (data_stand p a c q.0 r.0) (data_stand p b d q.1 r.1)
      data_stand p (Minus a b) (Minus c d) h i =
          let q = and_parts (is_datum fields scope a) (is_datum fields scope b) h in
          let r = and_parts (is_datum fields its c) (is_datum fields its d) i in
          joined (data_paired params bound ours theirs p (re_datum to a) c)
          (data_paired params bound ours theirs p (re_datum to b) d)
          (data_stand p a c q.0 r.0) (data_stand p b d q.1 r.1)
      data_stand p (Times a b) (Times c d) h i =
          let q = and_parts (is_datum fields scope a) (is_datum fields scope b) h in
          let r = and_parts (is_datum fields its c) (is_datum fields its d) i in
          joined (data_paired params bound ours theirs p (re_datum to a) c)
          (data_paired params bound ours theirs p (re_datum to b) d)
          (data_stand p a c q.0 r.0) (data_stand p b d q.1 r.1)
      data_stand p (Select a b c d) (Select e f g k) h i =
          let q = and_parts (is_datum fields scope a && is_datum fields scope b)
          (is_datum fields scope c && is_datum fields scope d) h in
          let r = and_parts (is_datum fields scope a) (is_datum fields scope b) q.0 in
          let s = and_parts (is_datum fields scope c) (is_datum fields scope d) q.1 in
          let t = and_parts (is_datum fields its e && is_datum fields its f)
          (is_datum fields its g && is_datum fields its k) i in
          let u = and_parts (is_datum fields its e) (is_datum fields its f) t.0 in
          let v = and_parts (is_datum fields its g) (is_datum fields its k) t.1 in
          let one = data_paired params bound ours theirs p (re_datum to a) e in
          let two = data_paired params bound ours theirs p (re_datum to b) f in
          let three = data_paired params bound ours theirs p (re_datum to c) g in
          joined ((one ++ two) ++ three) (data_paired params bound ours theirs p (re_datum to d) k)
          (joined (one ++ two) three
          (joined one two (data_stand p a e r.0 u.0) (data_stand p b f r.1 u.1))
          (data_stand p c g s.0 v.0)) (data_stand p d k s.1 v.1)
      data_stand p e d h i = refl

      argument_stand : (p : Path) (whole : Bool) (a b : Argument) → IsFormed fields scope a
          → IsFormed fields its b → (whole ≡ true → is_steady_argument b ≡ true)
          → AllStand (argument_paired params bound ours theirs p whole (re_argument to a) b)
      argument_stand p true (ControlArg e) (ControlArg g) h i s =
          ap₂ ◌&&◌ (ap₂ ◌&&◌ (number_known h.0 e h.1) (s refl)) refl
      argument_stand p false (ControlArg e) (ControlArg g) h i s =
          ap₂ ◌&&◌ (ap₂ ◌&&◌ (number_known h.0 e h.1) refl) refl
      argument_stand p true (ConditionArg c) (ConditionArg d) h i s =
          ap₂ ◌&&◌ (ap₂ ◌&&◌ (truth_known h.0 c h.1) (s refl)) refl
      argument_stand p false (ConditionArg c) (ConditionArg d) h i s =
          ap₂ ◌&&◌ (ap₂ ◌&&◌ (truth_known h.0 c h.1) refl) refl
      argument_stand p whole (Whole x) (Whole y) h i s = wholes_stand p x h.0 y h.1
      argument_stand p whole (Whole x) (Window y ds) h i s =
          whole_stand p x h.0 y ds h.1 (coords_are fields known its ds
          (and_parts (has_rank (length ds) (sort_in its y)) (list_all (is_coord fields its) ds) i).1)
      argument_stand p whole (Window x cs) (Whole y) h i s = window_stand p x cs y h
      argument_stand p whole (Window x cs) (Window y ds) h i s =
          let q = and_parts (has_rank (length cs) (sort_in scope x)) (list_all (is_coord fields scope) cs) h in
          access_stand p x cs y ds q.0 q.1 (coords_are fields known its ds
          (and_parts (has_rank (length ds) (sort_in its y)) (list_all (is_coord fields its) ds) i).1)
      argument_stand p whole a b h i s = refl

      arguments_stand : (p : Path) (as' bs : List Argument) → AreFormed fields scope as'
          → AreFormed fields its bs
          → AllStand (arguments_paired params bound ours theirs p (re_arguments to as') bs)
      arguments_stand p [] [] h i = refl
      arguments_stand p [] (b ∷ bs) h i = refl
      arguments_stand p (a ∷ as') [] h i = refl
      arguments_stand p (a ∷ as') (b ∷ bs) h i =
          joined (argument_paired params bound ours theirs p false (re_argument to a) b)
          (arguments_paired params bound ours theirs p (re_arguments to as') bs)
          (argument_stand p false a b h.0 i.0 (λ e. no e)) (arguments_stand p as' bs h.1 i.1)

  -- ---- statement by statement

  module _ (memories : ℕ) (callees called : ℕ → Option Callee) where
    stored_stand : (at : Path → Path) (x : ℕ) (is : List Control) (e : Datum) (y : ℕ)
        (js : List Control) (d : Datum) (scope its : Scope) (grown : ℕ → Bool)
        → Stand to known m by ps params scope grown
        → (is_access fields scope x is && is_datum fields scope e) ≡ true
        → (is_access fields its y js && is_datum fields its d) ≡ true
        → AllStand (access_paired params bound ours theirs (at []) (to x) (points (re_controls to is)) y
        (points js) ++ data_paired params bound ours theirs (at []) (re_datum to e) d)
    stored_stand at x is e y js d scope its grown st h i =
        let q = and_parts (is_access fields scope x is) (is_datum fields scope e) h in
        let r = and_parts (is_access fields its y js) (is_datum fields its d) i in
        let s = and_parts (has_rank (length js) (sort_in its y)) (are_controls fields plainly its js) r.0 in
        joined (access_paired params bound ours theirs (at []) (to x) (points (re_controls to is)) y
        (points js)) (data_paired params bound ours theirs (at []) (re_datum to e) d)
        (points_stand scope grown st (at []) x is y js q.0 (points_of_known fields known its js s.1))
        (data_stand scope grown st its (at []) e d q.1 r.1)

    mutual
      pub blocks_stand : (under : Path → Path) (branch : Branch) (n : ℕ) (b d : Block)
          (scope its : Scope) (root from : ℕ → ℕ) (grown : ℕ → Bool)
          → Stand to known m by ps params scope grown → Owns to known m by ps params (has_binder b)
          → is_block fields memories callees scope root b ≡ true
          → is_block fields memories called its from d ≡ true
          → AllStand (blocks_paired params bound ours theirs under branch n (re_block to b) d)
      blocks_stand under branch n end end scope its root from grown st own h i = refl
      blocks_stand under branch n end (next c d) scope its root from grown st own h i = refl
      blocks_stand under branch n (next a b) end scope its root from grown st own h i = refl
      blocks_stand under branch n (next a b) (next c d) scope its root from grown st own h i =
          let q = and_parts (is_statement fields memories callees scope root a)
          (is_block fields memories callees (scope_after a scope) (roots_after a root) b) h in
          let r = and_parts (is_statement fields memories called its from c)
          (is_block fields memories called (scope_after c its) (roots_after c from) d) i in
          let here = step_to params bound ours theirs under branch n in
          let first : Owns to known m by ps params (step_has_binder a)
          = λ x e. own x (or_left (step_has_binder a x) (has_binder b x) e) in
          let rest : Owns to known m by ps params (has_binder b)
          = λ x e. own x (or_right (step_has_binder a x) (has_binder b x) e) in
          joined (statements_paired params bound ours theirs here (re_statement to a) c)
          (blocks_paired params bound ours theirs under branch (suc n) (re_block to b) d)
          (statements_stand here a c scope its root from grown st first q.0 r.0)
          (blocks_stand under branch (suc n) b d (scope_after a scope) (scope_after c its)
          (roots_after a root) (roots_after c from) (known_behind (re_statement to a) grown)
          (stand_after to known m by ps params a scope grown st first) rest q.1 r.1)

      statements_stand : (at : Path → Path) (a c : Statement) (scope its : Scope)
          (root from : ℕ → ℕ) (grown : ℕ → Bool) → Stand to known m by ps params scope grown
          → Owns to known m by ps params (step_has_binder a)
          → is_statement fields memories callees scope root a ≡ true
          → is_statement fields memories called its from c ≡ true
          → AllStand (statements_paired params bound ours theirs at (re_statement to a) c)
      statements_stand at (Assign x is e) (Assign y js d) scope its root from grown st own h i =
          stored_stand at x is e y js d scope its grown st h i
      statements_stand at (Reduce x is e) (Reduce y js d) scope its root from grown st own h i =
          stored_stand at x is e y js d scope its grown st h i
      statements_stand at (Config f a) (Config g b) scope its root from grown st own h i =
          like (f == g) (at []) (argument_paired params bound ours theirs (at []) true (re_argument to a) b)
          (argument_stand scope grown st its (at []) true a b (write_formed fields scope (fields f) a h)
          (write_formed fields its (fields g) b i) (λ e. write_steady fields its (fields g) b i))
      statements_stand at Pass Pass scope its root from grown st own h i = refl
      statements_stand at (If t a b) (If r c d) scope its root from grown st own h i =
          let p = and_parts (is_condition fields with_fields scope t) _ h in
          let q = and_parts (not (is_empty a) && (is_short a && is_short b)) _ p.1 in
          let ab = and_parts (is_block fields memories callees scope root a)
          (is_block fields memories callees scope root b) q.1 in
          let u = and_parts (is_condition fields with_fields its r) _ i in
          let v = and_parts (not (is_empty c) && (is_short c && is_short d)) _ u.1 in
          let cd = and_parts (is_block fields memories called its from c)
          (is_block fields memories called its from d) v.1 in
          ap₂ ◌&&◌ (ap₂ ◌&&◌ (truth_known scope grown st with_fields t p.0) refl)
          (joined (blocks_paired params bound ours theirs at Main 0 (re_block to a) c)
          (blocks_paired params bound ours theirs at Else 0 (re_block to b) d)
          (blocks_stand at Main 0 a c scope its root from grown st
          (λ x e. own x (or_left (has_binder a x) (has_binder b x) e)) ab.0 cd.0)
          (blocks_stand at Else 0 b d scope its root from grown st
          (λ x e. own x (or_right (has_binder a x) (has_binder b x) e)) ab.1 cd.1))
      statements_stand at (For k lo hi b) (For j l u d) scope its root from grown st own h i =
          let p = and_parts (is_new scope k) _ h in
          let q = and_parts (is_control fields plainly scope lo && is_control fields plainly scope hi) _ p.1 in
          let ends = and_parts (is_control fields plainly scope lo) (is_control fields plainly scope hi) q.0 in
          let body = and_parts (not (is_empty b) && is_short b) _ q.1 in
          let r = and_parts (is_new its j) _ i in
          let s = and_parts (is_control fields plainly its l && is_control fields plainly its u) _ r.1 in
          let bounds = and_parts (is_control fields plainly its l) (is_control fields plainly its u) s.0 in
          let other = and_parts (not (is_empty d) && is_short d) _ s.1 in
          ap₂ ◌&&◌ (ap₂ ◌&&◌ (number_known scope grown st plainly lo ends.0)
          (control_steady fields plainly its refl l bounds.0))
          (ap₂ ◌&&◌ (ap₂ ◌&&◌ (number_known scope grown st plainly hi ends.1)
          (control_steady fields plainly its refl u bounds.1))
          (blocks_stand at Main 0 b d (with_name scope k (ControlName Index))
          (with_name its j (ControlName Index)) root from grown
          (with_loop to known m by ps params scope grown k st
          (own k.id (or_left (k.id == k.id) (has_binder b k.id) (eq-eqb k.id k.id refl))))
          (λ x e. own x (or_right (x == k.id) (has_binder b x) e)) body.1 other.1))
      statements_stand at (Alloc x cell dims memory) (Alloc y type extents store) scope its root from grown st own h i =
          let p = and_parts (is_new scope x) _ h in
          let q = and_parts (are_controls fields plainly scope dims) _ p.1 in
          like (same_cell cell type && (memory == store)) (at [])
          (controls_paired params bound ours theirs (at []) (re_controls to dims) extents
          ++ Binders (to x.id) y.id ∷ [])
          (joined (controls_paired params bound ours theirs (at []) (re_controls to dims) extents)
          (Binders (to x.id) y.id ∷ [])
          (controls_stand scope grown st plainly (at []) dims extents q.0) refl)
      statements_stand at (View w x cs) (View v y ds) scope its root from grown st own h i =
          let p = and_parts (is_new scope w) _ h in
          let q = and_parts (is_window fields scope x cs) _ p.1 in
          let r = and_parts (has_rank (length cs) (sort_in scope x)) (list_all (is_coord fields scope) cs) q.0 in
          let s = and_parts (is_new its v) _ i in
          let t = and_parts (is_window fields its y ds) _ s.1 in
          let u = and_parts (has_rank (length ds) (sort_in its y)) (list_all (is_coord fields its) ds) t.0 in
          joined (access_paired params bound ours theirs (at []) (to x) (re_coords to cs) y ds)
          (Binders (to w.id) v.id ∷ [])
          (access_stand scope grown st (at []) x cs y ds r.0 r.1 (coords_are fields known its ds u.1)) refl
      statements_stand at (Call k as') (Call n bs) scope its root from grown st own h i =
          like (k == n) (at []) (arguments_paired params bound ours theirs (at []) (re_arguments to as') bs)
          (arguments_stand scope grown st its (at []) as' bs
          (call_formed fields scope root (callees k) as' h)
          (call_formed fields its from (called n) bs i))
      statements_stand at a c scope its root from grown st own h i = refl
