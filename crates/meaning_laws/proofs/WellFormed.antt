-- What a well-formed procedure meets of the premises of other laws.
use Rattle.std.proofs.Common.{◌≡◌, ℕ, zero, suc, ◌==◌, Bool, true, false, true≢false, cond, not, ◌&&◌, ◌||◌, List, [], ◌∷◌, length, Option, Some, None, arith, refl, sym, ap, ap₂, ◌∙◌, subst}
use Rattle.std.specs.Prelude.{slice_get, nat_lt}
use Rattle.std.specs.List.{list_all}
use Rattle.exo_tree.specs.Tree.{Binder, Kind, Index, Control, Lit, Var, Field, StrideOf, Neg, Add, Sub, Mul, Div, Mod, Condition, True, False, Flag, FieldFlag, Lt, Le, Gt, Ge, Eq, And, Or, Datum, Const, Read, Negated, Relu, Plus, Minus, Times, Select, Coord, At, Span, Argument, ControlArg, ConditionArg, Whole, Window, Statement, Assign, Reduce, Config, Pass, If, For, Alloc, View, Call, Block, end, next, Param, ParamKind, ControlParam, TensorParam, WindowParam, Procedure}
use Rattle.exo_tree.specs.Context.{Context, Here, After, InLoop, InThen, InElse, fill}
use Rattle.exo_meaning.specs.Calls.{Callee}
use Rattle.exo_meaning.specs.Run.{roots_after}
use Rattle.exo_meaning.specs.Orders.{Each}
use Rattle.exo_meaning.specs.Inputs.{is_buffer_of}
use Rattle.exo_meaning.specs.Unseen.{in_control, in_controls, in_condition, in_datum, in_coords, in_argument, in_arguments}
use Rattle.exo_meaning.specs.Units.{Sort, ControlName, BufferName, Scope, sort_in, is_new, with_name, is_truth, is_number, is_flag, has_rank, has_dimension, has_cell, Reads, plainly, with_fields, with_strides, with_both, is_of_literals, is_control, are_controls, is_condition, is_access, is_datum, is_coord, is_window, is_of_kind, is_for, are_for, is_call, is_write, view_sort, scope_after, is_empty, is_short, is_block, is_statement, spans, param_sort, scope_of}
use Rattle.meaning_laws.specs.Sound.{binds}
use Rattle.meaning_laws.specs.Substitute.{is_plain}
use Rattle.meaning_laws.specs.Scoped.{is_not, is_param, is_scoped, step_is_scoped, HasPlainBounds}
use Rattle.meaning_laws.specs.Grown.{calls_below, step_calls_below}
use Rattle.meaning_laws.specs.WellFormed.{WellScoped, PlainBoundsLaw, WellKnown, CallsAreBelow}
use Rattle.meaning_laws.proofs.Substitute.{and_parts}
use Rattle.meaning_laws.proofs.Scoped.{scope_law}
use Rattle.meaning_laws.proofs.FirstState.{new_is_none}

both : (a b : Bool) → a ≡ true → b ≡ true → (a && b) ≡ true
both a b h k = ap₂ (λ u v. u && v) h k

none : (a b : Bool) → a ≡ false → b ≡ false → (a || b) ≡ false
none a b h k = ap₂ (λ u v. u || v) h k

-- whether a name is in scope
abbrev is_in : Option Sort → Bool
is_in None = false
is_in (Some sort) = true

number_in : (o : Option Sort) → is_number o ≡ true → is_in o ≡ true
number_in None h = h
number_in (Some sort) h = refl

flag_in : (o : Option Sort) → is_flag o ≡ true → is_in o ≡ true
flag_in None h = h
flag_in (Some sort) h = refl

rank_in : (n : ℕ) (o : Option Sort) → has_rank n o ≡ true → is_in o ≡ true
rank_in n None h = h
rank_in n (Some sort) h = refl

dimension_in : (n : ℕ) (o : Option Sort) → has_dimension n o ≡ true → is_in o ≡ true
dimension_in n None h = h
dimension_in n (Some sort) h = refl

cell_in : (c : _) (o : Option Sort) → has_cell c o ≡ true → is_in o ≡ true
cell_in c None h = h
cell_in c (Some sort) h = refl

-- the names that are bound are those in scope
abbrev Matches : (ℕ → Bool) → Scope → Type 0
Matches bound scope = (x : ℕ) → bound x ≡ is_in (sort_in scope x)

matches_more : (bound : ℕ → Bool) (scope : Scope) (x : Binder) (sort : Sort) → Matches bound scope → Matches (λ y. (y == x.id) || bound y) (with_name scope x sort)
matches_more bound scope x sort h y = go (y == x.id)
  where
    go : (t : Bool) → (t || bound y) ≡ is_in (cond t (Some sort) (sort_in scope y))
    go true = refl
    go false = h y

module _ (fields : ℕ → Option Kind) where
  -- ---- expressions

  module _ (bound : ℕ → Bool) (scope : Scope) (h : Matches bound scope) where
    bound_is : (x : ℕ) → is_in (sort_in scope x) ≡ true → is_not bound x ≡ false
    bound_is x k = ap not (h x ∙ k)

    control_bound : (may : Reads) (a : Control) → is_control fields may scope a ≡ true → in_control (is_not bound) a ≡ false
    control_bound may (Lit n) k = refl
    control_bound may (Var x) k = bound_is x (number_in (sort_in scope x) k)
    control_bound may (Field f) k = refl
    control_bound may (StrideOf x n) k = bound_is x (dimension_in n (sort_in scope x) (and_parts may.strides _ k).1)
    control_bound may (Neg a) k = control_bound may a k
    control_bound may (Add a b) k = let p = and_parts (is_control fields may scope a) (is_control fields may scope b) k in none (in_control (is_not bound) a) (in_control (is_not bound) b) (control_bound may a p.0) (control_bound may b p.1)
    control_bound may (Sub a b) k = let p = and_parts (is_control fields may scope a) (is_control fields may scope b) k in none (in_control (is_not bound) a) (in_control (is_not bound) b) (control_bound may a p.0) (control_bound may b p.1)
    control_bound may (Mul a b) k =
        let q = and_parts (is_control fields may scope a && is_control fields may scope b) (is_of_literals a || is_of_literals b) k in
        let p = and_parts (is_control fields may scope a) (is_control fields may scope b) q.0 in
        none (in_control (is_not bound) a) (in_control (is_not bound) b) (control_bound may a p.0) (control_bound may b p.1)
    control_bound may (Div a c) k = control_bound may a (and_parts (is_control fields may scope a) _ k).0
    control_bound may (Mod a c) k = control_bound may a (and_parts (is_control fields may scope a) _ k).0

    controls_bound : (may : Reads) (as' : List Control) → are_controls fields may scope as' ≡ true → in_controls (is_not bound) as' ≡ false
    controls_bound may [] k = refl
    controls_bound may (a ∷ as') k = let p = and_parts (is_control fields may scope a) (are_controls fields may scope as') k in none (in_control (is_not bound) a) (in_controls (is_not bound) as') (control_bound may a p.0) (controls_bound may as' p.1)

    two_bound : (may : Reads) (a b : Control) → (is_control fields may scope a && is_control fields may scope b) ≡ true → (in_control (is_not bound) a || in_control (is_not bound) b) ≡ false
    two_bound may a b k = let p = and_parts (is_control fields may scope a) (is_control fields may scope b) k in none (in_control (is_not bound) a) (in_control (is_not bound) b) (control_bound may a p.0) (control_bound may b p.1)

    condition_bound : (may : Reads) (c : Condition) → is_condition fields may scope c ≡ true → in_condition (is_not bound) c ≡ false
    condition_bound may True k = refl
    condition_bound may False k = refl
    condition_bound may (Flag x) k = bound_is x (flag_in (sort_in scope x) k)
    condition_bound may (FieldFlag f) k = refl
    condition_bound may (Lt a b) k = two_bound may a b k
    condition_bound may (Le a b) k = two_bound may a b k
    condition_bound may (Gt a b) k = two_bound may a b k
    condition_bound may (Ge a b) k = two_bound may a b k
    condition_bound may (Eq a b) k = two_bound may a b k
    condition_bound may (And c d) k = let p = and_parts (is_condition fields may scope c) (is_condition fields may scope d) k in none (in_condition (is_not bound) c) (in_condition (is_not bound) d) (condition_bound may c p.0) (condition_bound may d p.1)
    condition_bound may (Or c d) k = let p = and_parts (is_condition fields may scope c) (is_condition fields may scope d) k in none (in_condition (is_not bound) c) (in_condition (is_not bound) d) (condition_bound may c p.0) (condition_bound may d p.1)

    access_bound : (x : ℕ) (is : List Control) → is_access fields scope x is ≡ true → (bound x ≡ true) × (in_controls (is_not bound) is ≡ false)
    access_bound x is k = let p = and_parts (has_rank (length is) (sort_in scope x)) (are_controls fields plainly scope is) k in (h x ∙ rank_in (length is) (sort_in scope x) p.0, controls_bound plainly is p.1)

    datum_bound : (e : Datum) → is_datum fields scope e ≡ true → in_datum (is_not bound) e ≡ false
    datum_bound (Const n) k = refl
    datum_bound (Read x is) k = let p = access_bound x is k in none (is_not bound x) (in_controls (is_not bound) is) (ap not p.0) p.1
    datum_bound (Negated a) k = datum_bound a k
    datum_bound (Relu a) k = datum_bound a k
    datum_bound (Plus a b) k = let p = and_parts (is_datum fields scope a) (is_datum fields scope b) k in none (in_datum (is_not bound) a) (in_datum (is_not bound) b) (datum_bound a p.0) (datum_bound b p.1)
    datum_bound (Minus a b) k = let p = and_parts (is_datum fields scope a) (is_datum fields scope b) k in none (in_datum (is_not bound) a) (in_datum (is_not bound) b) (datum_bound a p.0) (datum_bound b p.1)
    datum_bound (Times a b) k = let p = and_parts (is_datum fields scope a) (is_datum fields scope b) k in none (in_datum (is_not bound) a) (in_datum (is_not bound) b) (datum_bound a p.0) (datum_bound b p.1)
    datum_bound (Select a b c d) k =
        let p = and_parts (is_datum fields scope a && is_datum fields scope b) (is_datum fields scope c && is_datum fields scope d) k in
        let q = and_parts (is_datum fields scope a) (is_datum fields scope b) p.0 in
        let r = and_parts (is_datum fields scope c) (is_datum fields scope d) p.1 in
        none (in_datum (is_not bound) a) (in_datum (is_not bound) b || (in_datum (is_not bound) c || in_datum (is_not bound) d)) (datum_bound a q.0) (none (in_datum (is_not bound) b) (in_datum (is_not bound) c || in_datum (is_not bound) d) (datum_bound b q.1) (none (in_datum (is_not bound) c) (in_datum (is_not bound) d) (datum_bound c r.0) (datum_bound d r.1)))

    coords_bound : (cs : List Coord) → list_all (is_coord fields scope) cs ≡ true → in_coords (is_not bound) cs ≡ false
    coords_bound [] k = refl
    coords_bound (At a ∷ cs) k = let p = and_parts (is_control fields plainly scope a) (list_all (is_coord fields scope) cs) k in none (in_control (is_not bound) a) (in_coords (is_not bound) cs) (control_bound plainly a p.0) (coords_bound cs p.1)
    coords_bound (Span a b ∷ cs) k =
        let p = and_parts (is_control fields plainly scope a && is_control fields plainly scope b) (list_all (is_coord fields scope) cs) k in
        let q = and_parts (is_control fields plainly scope a) (is_control fields plainly scope b) p.0 in
        none (in_control (is_not bound) a) (in_control (is_not bound) b || in_coords (is_not bound) cs) (control_bound plainly a q.0) (none (in_control (is_not bound) b) (in_coords (is_not bound) cs) (control_bound plainly b q.1) (coords_bound cs p.1))

    window_bound : (x : ℕ) (cs : List Coord) → is_window fields scope x cs ≡ true → (bound x ≡ true) × (in_coords (is_not bound) cs ≡ false)
    window_bound x cs k = let p = and_parts (has_rank (length cs) (sort_in scope x)) (list_all (is_coord fields scope) cs) k in (h x ∙ rank_in (length cs) (sort_in scope x) p.0, coords_bound cs p.1)

    kind_bound : (may : Reads) (kind : Kind) (a : Argument) → is_of_kind fields may scope kind a ≡ true → in_argument (is_not bound) a ≡ false
    kind_bound may kind (ControlArg a) k = control_bound may a (and_parts (not (is_truth kind)) _ k).1
    kind_bound may kind (ConditionArg c) k = condition_bound may c (and_parts (is_truth kind) _ k).1
    kind_bound may kind (Whole x) k = absurd (true≢false (sym k))
    kind_bound may kind (Window x cs) k = absurd (true≢false (sym k))

    whole_bound : (c : _) (x : ℕ) → has_cell c (sort_in scope x) ≡ true → is_not bound x ≡ false
    whole_bound c x k = bound_is x (cell_in c (sort_in scope x) k)

    for_bound : (kind : ParamKind) (a : Argument) → is_for fields scope kind a ≡ true → in_argument (is_not bound) a ≡ false
    for_bound (ControlParam kind) a k = kind_bound with_both kind a k
    for_bound (TensorParam cell dims memory) (ControlArg a) k = absurd (true≢false (sym k))
    for_bound (TensorParam cell dims memory) (ConditionArg c) k = absurd (true≢false (sym k))
    for_bound (TensorParam cell dims memory) (Whole x) k = whole_bound cell x (and_parts (has_cell cell (sort_in scope x)) _ k).0
    for_bound (TensorParam cell dims memory) (Window x cs) k =
        let p = and_parts (has_cell cell (sort_in scope x)) _ k in
        let q = window_bound x cs (and_parts (is_window fields scope x cs) _ p.1).0 in
        none (is_not bound x) (in_coords (is_not bound) cs) (ap not q.0) q.1
    for_bound (WindowParam cell dims memory) (ControlArg a) k = absurd (true≢false (sym k))
    for_bound (WindowParam cell dims memory) (ConditionArg c) k = absurd (true≢false (sym k))
    for_bound (WindowParam cell dims memory) (Whole x) k = whole_bound cell x (and_parts (has_cell cell (sort_in scope x)) _ k).0
    for_bound (WindowParam cell dims memory) (Window x cs) k =
        let p = and_parts (has_cell cell (sort_in scope x)) _ k in
        let q = window_bound x cs (and_parts (is_window fields scope x cs) _ p.1).0 in
        none (is_not bound x) (in_coords (is_not bound) cs) (ap not q.0) q.1

    all_bound : (ps : List Param) (args : List Argument) → are_for fields scope ps args ≡ true → in_arguments (is_not bound) args ≡ false
    all_bound [] [] k = refl
    all_bound [] (a ∷ args) k = absurd (true≢false (sym k))
    all_bound (p ∷ ps) [] k = refl
    all_bound (p ∷ ps) (a ∷ args) k = let q = and_parts (is_for fields scope p.kind a) (are_for fields scope ps args) k in none (in_argument (is_not bound) a) (in_arguments (is_not bound) args) (for_bound p.kind a q.0) (all_bound ps args q.1)

    call_bound : (root : ℕ → ℕ) (o : Option Callee) (args : List Argument) → is_call fields scope root o args ≡ true → in_arguments (is_not bound) args ≡ false
    call_bound root None args k = absurd (true≢false (sym k))
    call_bound root (Some c) args k = all_bound c.procedure.params args (and_parts (are_for fields scope c.procedure.params args) _ k).0

    write_bound : (o : Option Kind) (a : Argument) → is_write fields scope o a ≡ true → in_argument (is_not bound) a ≡ false
    write_bound None a k = absurd (true≢false (sym k))
    write_bound (Some kind) a k = kind_bound with_strides kind a k

    new_bound : (x : Binder) → is_new scope x ≡ true → not (bound x.id) ≡ true
    new_bound x k = ap not (h x.id ∙ ap is_in (new_is_none scope x k))

  -- ---- trees

  after_same : (bound : ℕ → Bool) (scope : Scope) → Matches bound scope → (a : Statement) → Matches (λ y. binds a y || bound y) (scope_after a scope)
  after_same bound scope h (Assign x is e) = h
  after_same bound scope h (Reduce x is e) = h
  after_same bound scope h (Config f a) = h
  after_same bound scope h Pass = h
  after_same bound scope h (If c a b) = h
  after_same bound scope h (For i lo hi b) = h
  after_same bound scope h (Alloc x cell dims memory) = matches_more bound scope x (BufferName cell (length dims) true) h
  after_same bound scope h (View w x cs) = matches_more bound scope w (view_sort (sort_in scope x) (spans cs)) h
  after_same bound scope h (Call k args) = h

  module _ (memories : ℕ) (callees : ℕ → Option Callee) where
    mutual
      block_scoped : (b : Block) (bound : ℕ → Bool) (scope : Scope) (root : ℕ → ℕ) → Matches bound scope → is_block fields memories callees scope root b ≡ true → is_scoped bound b ≡ true
      block_scoped end bound scope root h k = refl
      block_scoped (next a b) bound scope root h k =
          let p = and_parts (is_statement fields memories callees scope root a) (is_block fields memories callees (scope_after a scope) (roots_after a root) b) k in
          both (step_is_scoped bound a) (is_scoped (λ y. binds a y || bound y) b) (step_scoped a bound scope root h p.0) (block_scoped b (λ y. binds a y || bound y) (scope_after a scope) (roots_after a root) (after_same bound scope h a) p.1)

      step_scoped : (a : Statement) (bound : ℕ → Bool) (scope : Scope) (root : ℕ → ℕ) → Matches bound scope → is_statement fields memories callees scope root a ≡ true → step_is_scoped bound a ≡ true
      step_scoped (Assign x is e) bound scope root h k =
          let p = and_parts (is_access fields scope x is) (is_datum fields scope e) k in
          let q = access_bound bound scope h x is p.0 in
          both (bound x) _ q.0 (ap not (none (in_controls (is_not bound) is) (in_datum (is_not bound) e) q.1 (datum_bound bound scope h e p.1)))
      step_scoped (Reduce x is e) bound scope root h k =
          let p = and_parts (is_access fields scope x is) (is_datum fields scope e) k in
          let q = access_bound bound scope h x is p.0 in
          both (bound x) _ q.0 (ap not (none (in_controls (is_not bound) is) (in_datum (is_not bound) e) q.1 (datum_bound bound scope h e p.1)))
      step_scoped (Config f a) bound scope root h k = ap not (write_bound bound scope h (fields f) a k)
      step_scoped Pass bound scope root h k = refl
      step_scoped (If c a b) bound scope root h k =
          let p = and_parts (is_condition fields with_fields scope c) _ k in
          let q = and_parts (not (is_empty a) && (is_short a && is_short b)) _ p.1 in
          let r = and_parts (is_block fields memories callees scope root a) (is_block fields memories callees scope root b) q.1 in
          both (not (in_condition (is_not bound) c)) (is_scoped bound a && is_scoped bound b) (ap not (condition_bound bound scope h with_fields c p.0)) (both (is_scoped bound a) (is_scoped bound b) (block_scoped a bound scope root h r.0) (block_scoped b bound scope root h r.1))
      step_scoped (For i lo hi b) bound scope root h k =
          let p = and_parts (is_new scope i) _ k in
          let q = and_parts (is_control fields plainly scope lo && is_control fields plainly scope hi) _ p.1 in
          let r = and_parts (not (is_empty b) && is_short b) _ q.1 in
          both (not (bound i.id)) _ (new_bound bound scope h i p.0) (both (not (in_control (is_not bound) lo || in_control (is_not bound) hi)) (is_scoped (λ y. (y == i.id) || bound y) b) (ap not (two_bound bound scope h plainly lo hi q.0)) (block_scoped b (λ y. (y == i.id) || bound y) (with_name scope i (ControlName Index)) root (matches_more bound scope i (ControlName Index) h) r.1))
      step_scoped (Alloc x cell dims memory) bound scope root h k =
          let p = and_parts (is_new scope x) _ k in
          both (not (bound x.id)) _ (new_bound bound scope h x p.0) (ap not (controls_bound bound scope h plainly dims (and_parts (are_controls fields plainly scope dims) _ p.1).0))
      step_scoped (View w x cs) bound scope root h k =
          let p = and_parts (is_new scope w) _ k in
          let q = window_bound bound scope h x cs (and_parts (is_window fields scope x cs) _ p.1).0 in
          both (not (bound w.id)) _ (new_bound bound scope h w p.0) (both (bound x) _ q.0 (ap not q.1))
      step_scoped (Call n args) bound scope root h k = ap not (call_bound bound scope h root (callees n) args k)

-- ---- procedures

params_match : (ps : List Param) (scope : Scope) (bound : ℕ → Bool) → Matches bound scope → Matches (λ x. is_buffer_of x ps || bound x) (scope_of scope ps)
params_match [] scope bound h = h
params_match (p ∷ ps) scope bound h = λ x. swap (x == p.binder.id) (is_buffer_of x ps) (bound x) ∙ params_match ps (with_name scope p.binder (param_sort p.kind)) (λ y. (y == p.binder.id) || bound y) (matches_more bound scope p.binder (param_sort p.kind) h) x
  where
    swap : (a b c : Bool) → ((a || b) || c) ≡ (b || (a || c))
    swap true true c = refl
    swap true false c = refl
    swap false b c = refl

own_match : (p : Procedure) → Matches (is_param p) (scope_of [] p.params)
own_match p x = or_none (is_buffer_of x p.params) ∙ params_match p.params [] (λ y. false) (λ y. refl) x
  where
    or_none : (a : Bool) → a ≡ (a || false)
    or_none true = refl
    or_none false = refl

pub well_scoped : WellScoped
well_scoped fields memories callees p ok = (block_scoped fields memories callees p.body (is_param p) (scope_of [] p.params) (λ x. x) (own_match p) ok.body, each p.asserts ok.asserts)
  where
    each : (cs : List Condition) → list_all (is_condition fields with_both (scope_of [] p.params)) cs ≡ true → Each (λ t. in_condition (is_not (is_param p)) t ≡ false) cs
    each [] k = tt
    each (c ∷ cs) k = let q = and_parts (is_condition fields with_both (scope_of [] p.params) c) (list_all (is_condition fields with_both (scope_of [] p.params)) cs) k in (condition_bound fields (is_param p) (scope_of [] p.params) (own_match p) with_both c q.0, each cs q.1)

-- ---- bounds

pub plain_of : (fields : ℕ → Option Kind) (scope : Scope) (a : Control) → is_control fields plainly scope a ≡ true → is_plain a ≡ true
plain_of fields scope (Lit n) k = refl
plain_of fields scope (Var x) k = refl
plain_of fields scope (Field f) k = k
plain_of fields scope (StrideOf x n) k = k
plain_of fields scope (Neg a) k = plain_of fields scope a k
plain_of fields scope (Add a b) k = let p = and_parts (is_control fields plainly scope a) (is_control fields plainly scope b) k in both (is_plain a) (is_plain b) (plain_of fields scope a p.0) (plain_of fields scope b p.1)
plain_of fields scope (Sub a b) k = let p = and_parts (is_control fields plainly scope a) (is_control fields plainly scope b) k in both (is_plain a) (is_plain b) (plain_of fields scope a p.0) (plain_of fields scope b p.1)
plain_of fields scope (Mul a b) k =
    let q = and_parts (is_control fields plainly scope a && is_control fields plainly scope b) _ k in
    let p = and_parts (is_control fields plainly scope a) (is_control fields plainly scope b) q.0 in
    both (is_plain a) (is_plain b) (plain_of fields scope a p.0) (plain_of fields scope b p.1)
plain_of fields scope (Div a c) k = plain_of fields scope a (and_parts (is_control fields plainly scope a) _ k).0
plain_of fields scope (Mod a c) k = plain_of fields scope a (and_parts (is_control fields plainly scope a) _ k).0

module _ (fields : ℕ → Option Kind) (memories : ℕ) (callees : ℕ → Option Callee) (old : Block) where
  bounds_plain : (c : Context) (scope : Scope) (root : ℕ → ℕ) → is_block fields memories callees scope root (fill c old) ≡ true → HasPlainBounds c
  bounds_plain (Here rest) scope root k = tt
  bounds_plain (After a c) scope root k = bounds_plain c (scope_after a scope) (roots_after a root) (and_parts (is_statement fields memories callees scope root a) _ k).1
  bounds_plain (InLoop i lo hi c rest) scope root k =
      let o = and_parts (is_statement fields memories callees scope root (For i lo hi (fill c old))) _ k in
      let p = and_parts (is_new scope i) _ o.0 in
      let q = and_parts (is_control fields plainly scope lo && is_control fields plainly scope hi) _ p.1 in
      let b = and_parts (is_control fields plainly scope lo) (is_control fields plainly scope hi) q.0 in
      let r = and_parts (not (is_empty (fill c old)) && is_short (fill c old)) _ q.1 in
      (plain_of fields scope lo b.0, plain_of fields scope hi b.1, bounds_plain c (with_name scope i (ControlName Index)) root r.1)
  bounds_plain (InThen t c other rest) scope root k =
      let o = and_parts (is_statement fields memories callees scope root (If t (fill c old) other)) _ k in
      let p = and_parts (is_condition fields with_fields scope t) _ o.0 in
      let q = and_parts (not (is_empty (fill c old)) && (is_short (fill c old) && is_short other)) _ p.1 in
      bounds_plain c scope root (and_parts (is_block fields memories callees scope root (fill c old)) _ q.1).0
  bounds_plain (InElse t other c rest) scope root k =
      let o = and_parts (is_statement fields memories callees scope root (If t other (fill c old))) _ k in
      let p = and_parts (is_condition fields with_fields scope t) _ o.0 in
      let q = and_parts (not (is_empty other) && (is_short other && is_short (fill c old))) _ p.1 in
      bounds_plain c scope root (and_parts (is_block fields memories callees scope root other) _ q.1).1

pub plain_bounds : PlainBoundsLaw
plain_bounds fields memories callees p c old ok was = bounds_plain fields memories callees old c (scope_of [] p.params) (λ x. x) (subst (λ b. is_block fields memories callees (scope_of [] p.params) (λ x. x) b ≡ true) was ok.body)

pub well_known : WellKnown
well_known fields memories callees p c old ok was = let s = well_scoped fields memories callees p ok in scope_law p c old was s.0 s.1 (plain_bounds fields memories callees p c old ok was)

-- ---- calls

there_below : (table : List Callee) (k : ℕ) (c : Callee) → slice_get table k ≡ Some c → nat_lt k (length table) ≡ true
there_below [] zero c e = absurd (none_some e)
  where
    none_some : {A : Type 0} {a : A} → None ≡ Some a → ⊥
    none_some e = cc
there_below [] (suc k) c e = absurd (none_some e)
  where
    none_some : {A : Type 0} {a : A} → None ≡ Some a → ⊥
    none_some e = cc
there_below (x ∷ table) zero c e = first (length table)
  where
    first : (n : ℕ) → nat_lt 0 (suc n) ≡ true
    first n = grind arith
there_below (x ∷ table) (suc k) c e = more k (length table) (there_below table k c e)
  where
    more : (k n : ℕ) → nat_lt k n ≡ true → nat_lt (suc k) (suc n) ≡ true
    more k n h = grind arith

module _ (fields : ℕ → Option Kind) (memories : ℕ) (table : List Callee) where
  call_below : (scope : Scope) (root : ℕ → ℕ) (k : ℕ) (args : List Argument) (o : Option Callee) → slice_get table k ≡ o → is_call fields scope root o args ≡ true → nat_lt k (length table) ≡ true
  call_below scope root k args None e h = absurd (true≢false (sym h))
  call_below scope root k args (Some c) e h = there_below table k c e

  mutual
    block_below : (b : Block) (scope : Scope) (root : ℕ → ℕ) → is_block fields memories (slice_get table) scope root b ≡ true → calls_below (length table) b ≡ true
    block_below end scope root k = refl
    block_below (next a b) scope root k =
        let p = and_parts (is_statement fields memories (slice_get table) scope root a) _ k in
        both (step_calls_below (length table) a) (calls_below (length table) b) (step_below a scope root p.0) (block_below b (scope_after a scope) (roots_after a root) p.1)

    step_below : (a : Statement) (scope : Scope) (root : ℕ → ℕ) → is_statement fields memories (slice_get table) scope root a ≡ true → step_calls_below (length table) a ≡ true
    step_below (Assign x is e) scope root k = refl
    step_below (Reduce x is e) scope root k = refl
    step_below (Config f a) scope root k = refl
    step_below Pass scope root k = refl
    step_below (If c a b) scope root k =
        let p = and_parts (is_condition fields with_fields scope c) _ k in
        let q = and_parts (not (is_empty a) && (is_short a && is_short b)) _ p.1 in
        let r = and_parts (is_block fields memories (slice_get table) scope root a) (is_block fields memories (slice_get table) scope root b) q.1 in
        both (calls_below (length table) a) (calls_below (length table) b) (block_below a scope root r.0) (block_below b scope root r.1)
    step_below (For i lo hi b) scope root k =
        let p = and_parts (is_new scope i) _ k in
        let q = and_parts (is_control fields plainly scope lo && is_control fields plainly scope hi) _ p.1 in
        block_below b (with_name scope i (ControlName Index)) root (and_parts (not (is_empty b) && is_short b) _ q.1).1
    step_below (Alloc x cell dims memory) scope root k = refl
    step_below (View w x cs) scope root k = refl
    step_below (Call n args) scope root k = call_below scope root n args (slice_get table n) refl k

pub calls_are_below : CallsAreBelow
calls_are_below fields memories table p ok = block_below fields memories table p.body (scope_of [] p.params) (λ x. x) ok.body
