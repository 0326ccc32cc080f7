-- Arguments that may stand for the parameters of a callee with fresh ids.
use Rattle.std.proofs.Common.{◌≡◌, ◌≤◌, ℕ, ◌==◌, Bool, true, false, not, ◌&&◌, ◌||◌, true≢false}
use Rattle.std.proofs.Common.{List, [], ◌∷◌, length, map, Option, refl, sym, ap, ap₂, ◌∙◌, eqb-true, eq-eqb}
use Rattle.std.specs.Prelude.{slice_get}
use Rattle.std.specs.List.{list_all}
use Rattle.exo_tree.specs.Tree.{Control, Lit, Var, Field, StrideOf, Neg, Add, Sub, Mul, Div, Mod}
use Rattle.exo_tree.specs.Tree.{Cell, Kind, Coord, Argument, ControlArg, ConditionArg, Whole, Window}
use Rattle.exo_tree.specs.Tree.{Condition, True, False, Flag, FieldFlag, Lt, Le, Gt, Ge, Eq, And, Or}
use Rattle.exo_tree.specs.Tree.{ParamKind, ControlParam, TensorParam, WindowParam, Param, Block, Procedure}
use Rattle.exo_tree.specs.Renaming.{fresh_id, renaming, re_kind, re_param}
use Rattle.exo_meaning.specs.Inputs.{is_buffer_of}
use Rattle.exo_meaning.specs.Renaming.{Renaming}
use Rattle.exo_meaning.specs.Unseen.{in_control, in_condition, in_coords, in_argument, in_arguments}
use Rattle.exo_meaning.specs.Units.{Scope, sort_in, has_cell, has_rank, is_truth, with_both, is_control}
use Rattle.exo_meaning.specs.Units.{is_coord, is_window, is_for_tensor, is_for_window, is_for, are_for, field_kind, IsProcedure}
use Rattle.exo_meaning.specs.Calls.{Callee}
use Rattle.exo_meaning.proofs.Frame.{or_parts}
use Rattle.meaning_laws.specs.Facts.{is_plain_condition, condition_has}
use Rattle.meaning_laws.specs.Scoped.{is_not, is_param, has_binder}
use Rattle.meaning_laws.specs.Substitute.{is_plain, has_variable, catches}
use Rattle.meaning_laws.proofs.Facts.{or_left, or_right}
use Rattle.meaning_laws.proofs.FirstState.{params_differ}
use Rattle.meaning_laws.proofs.Scoped.{or_elim, not_true, not_false, control_open, condition_open}
use Rattle.meaning_laws.proofs.Substitute.{and_parts}
use Rattle.inplace_laws.specs.Inline.{is_view, TakesWindow, Takes, TakesAll, with_argument}
use Rattle.inplace_laws.specs.SteadyFlags.{is_steady_condition, condition_has_stride}
use Rattle.inplace_laws.specs.Windows.{coords_of, are_plain}
use Rattle.inplace_laws.specs.Steady.{has_stride}
use Rattle.inplace_laws.proofs.Steady.{plain_is_steady}
use Rattle.match_laws.specs.Inline.FreshCallee.{ids_of}
use Rattle.match_laws.specs.Inline.InlineRule.{is_plain_argument, are_plain_arguments}
use Rattle.match_laws.specs.Inline.InlineRule.{with_fresh_ids}
use Rattle.step_rules.specs.Lawful.{around, scope_here}
use Rattle.call_laws.specs.Calls.Names.Scopes.{bound_at}
use Rattle.call_laws.specs.Calls.Fresh.{IsRenamed}
use Rattle.call_laws.specs.Calls.Takes.{is_steady_argument, are_steady, CallsTake}
use Rattle.call_laws.proofs.OfCalls.Callees.{callee_keeps_rules}
use Rattle.call_laws.proofs.OfCalls.Caught.{IsUncaught, KindUncaught, AreUncaught, none_of}
use Rattle.call_laws.proofs.OfCalls.Caught.{caught_mapped, put_uncaught}
use Rattle.call_laws.proofs.OfCalls.Caught.{any_uncaught, no_flag_used, params_uncaught}
use Rattle.call_laws.proofs.OfCalls.Fresh.{fresh_anywhere, ids_among}
use Rattle.call_laws.proofs.OfCalls.Here.{args_for, args_bound, new_not_bound, new_params}
use Rattle.call_laws.proofs.OfCalls.Inlinable.{put_binders, apart, binder_own, from_base}
use Rattle.call_laws.proofs.OfCalls.InlineWindow.{not_if, plain_coords, coords_open}
use Rattle.match_laws.proofs.RenamedCallee.{same_ids}

-- ---- a plain condition has no strides

condition_is_steady : (c : Condition) → is_plain_condition c ≡ true → is_steady_condition c ≡ true
condition_is_steady True p = refl
condition_is_steady False p = refl
condition_is_steady (Flag x) p = refl
condition_is_steady (FieldFlag f) p = p
condition_is_steady (Lt a b) p =
    let q = and_parts (is_plain a) (is_plain b) p in
    ap₂ ◌&&◌ (plain_is_steady a q.0) (plain_is_steady b q.1)
condition_is_steady (Le a b) p =
    let q = and_parts (is_plain a) (is_plain b) p in
    ap₂ ◌&&◌ (plain_is_steady a q.0) (plain_is_steady b q.1)
condition_is_steady (Gt a b) p =
    let q = and_parts (is_plain a) (is_plain b) p in
    ap₂ ◌&&◌ (plain_is_steady a q.0) (plain_is_steady b q.1)
condition_is_steady (Ge a b) p =
    let q = and_parts (is_plain a) (is_plain b) p in
    ap₂ ◌&&◌ (plain_is_steady a q.0) (plain_is_steady b q.1)
condition_is_steady (Eq a b) p =
    let q = and_parts (is_plain a) (is_plain b) p in
    ap₂ ◌&&◌ (plain_is_steady a q.0) (plain_is_steady b q.1)
condition_is_steady (And c d) p =
    let q = and_parts (is_plain_condition c) (is_plain_condition d) p in
    ap₂ ◌&&◌ (condition_is_steady c q.0) (condition_is_steady d q.1)
condition_is_steady (Or c d) p =
    let q = and_parts (is_plain_condition c) (is_plain_condition d) p in
    ap₂ ◌&&◌ (condition_is_steady c q.0) (condition_is_steady d q.1)

argument_is_steady : (a : Argument) → is_plain_argument a ≡ true → is_steady_argument a ≡ true
argument_is_steady (ControlArg e) h = plain_is_steady e h
argument_is_steady (ConditionArg c) h = condition_is_steady c h
argument_is_steady (Whole x) h = refl
argument_is_steady (Window x cs) h = refl

all_are_steady : (args : List Argument) → are_plain_arguments args ≡ true → are_steady args ≡ true
all_are_steady [] h = refl
all_are_steady (a ∷ args) h =
    let q = and_parts (is_plain_argument a) (are_plain_arguments args) h in
    ap₂ ◌&&◌ (argument_is_steady a q.0) (all_are_steady args q.1)

-- ---- names whose strides are used

module _ (hidden : ℕ → Bool) (y : ℕ) where
  two_strides : (a b : Control) → (in_control hidden a || in_control hidden b) ≡ false
      → (has_stride a y || has_stride b y) ≡ true
      → (in_control hidden a ≡ false → has_stride a y ≡ true → hidden y ≡ false)
      → (in_control hidden b ≡ false → has_stride b y ≡ true → hidden y ≡ false) → hidden y ≡ false
  two_strides a b h k f g =
      let p = or_parts (in_control hidden a) (in_control hidden b) h in
      or_elim (has_stride a y) (has_stride b y) {P = hidden y ≡ false} k (f p.0) (g p.1)

  stride_open : (e : Control) → in_control hidden e ≡ false → has_stride e y ≡ true → hidden y ≡ false
  stride_open (Lit n) h k = absurd (true≢false (sym k))
  stride_open (Var x) h k = absurd (true≢false (sym k))
  stride_open (Field f) h k = absurd (true≢false (sym k))
  stride_open (StrideOf x n) h k = ap hidden (eqb-true y x k) ∙ h
  stride_open (Neg a) h k = stride_open a h k
  stride_open (Add a b) h k = two_strides a b h k (stride_open a) (stride_open b)
  stride_open (Sub a b) h k = two_strides a b h k (stride_open a) (stride_open b)
  stride_open (Mul a b) h k = two_strides a b h k (stride_open a) (stride_open b)
  stride_open (Div a c) h k = stride_open a h k
  stride_open (Mod a c) h k = stride_open a h k

  condition_stride_open : (c : Condition) → in_condition hidden c ≡ false
      → condition_has_stride c y ≡ true → hidden y ≡ false
  condition_stride_open True h k = absurd (true≢false (sym k))
  condition_stride_open False h k = absurd (true≢false (sym k))
  condition_stride_open (Flag x) h k = absurd (true≢false (sym k))
  condition_stride_open (FieldFlag f) h k = absurd (true≢false (sym k))
  condition_stride_open (Lt a b) h k = two_strides a b h k (stride_open a) (stride_open b)
  condition_stride_open (Le a b) h k = two_strides a b h k (stride_open a) (stride_open b)
  condition_stride_open (Gt a b) h k = two_strides a b h k (stride_open a) (stride_open b)
  condition_stride_open (Ge a b) h k = two_strides a b h k (stride_open a) (stride_open b)
  condition_stride_open (Eq a b) h k = two_strides a b h k (stride_open a) (stride_open b)
  condition_stride_open (And c d) h k =
      let p = or_parts (in_condition hidden c) (in_condition hidden d) h in
      or_elim (condition_has_stride c y) (condition_has_stride d y) {P = hidden y ≡ false} k
      (condition_stride_open c p.0) (condition_stride_open d p.1)
  condition_stride_open (Or c d) h k =
      let p = or_parts (in_condition hidden c) (in_condition hidden d) h in
      or_elim (condition_has_stride c y) (condition_has_stride d y) {P = hidden y ≡ false} k
      (condition_stride_open c p.0) (condition_stride_open d p.1)

-- ---- what is given for a buffer

module _ (fields : ℕ → Option Kind) (scope : Scope) where
  abbrev IsPlainView : Argument → Type 0
  IsPlainView a = (is_view a ≡ true) × (are_plain (coords_of a) ≡ true)

  plain_window : (x : ℕ) (cs : List Coord) → is_window fields scope x cs ≡ true → are_plain cs ≡ true
  plain_window x cs h =
      plain_coords fields scope cs
      (and_parts (has_rank (length cs) (sort_in scope x)) (list_all (is_coord fields scope) cs) h).1

  tensor_view : (cell : Cell) (rank : ℕ) (a : Argument) → is_for_tensor fields scope cell rank a ≡ true
      → IsPlainView a
  tensor_view cell rank (ControlArg e) h = absurd (true≢false (sym h))
  tensor_view cell rank (ConditionArg c) h = absurd (true≢false (sym h))
  tensor_view cell rank (Whole x) h = (refl, refl)
  tensor_view cell rank (Window x cs) h = (
    refl,
    plain_window x cs (and_parts (is_window fields scope x cs) _
        (and_parts (has_cell cell (sort_in scope x)) _ h).1).0,
  )

  window_view : (cell : Cell) (rank : ℕ) (a : Argument) → is_for_window fields scope cell rank a ≡ true
      → IsPlainView a
  window_view cell rank (ControlArg e) h = absurd (true≢false (sym h))
  window_view cell rank (ConditionArg c) h = absurd (true≢false (sym h))
  window_view cell rank (Whole x) h = (refl, refl)
  window_view cell rank (Window x cs) h = (
    refl,
    plain_window x cs (and_parts (is_window fields scope x cs) _
        (and_parts (has_cell cell (sort_in scope x)) _ h).1).0,
  )

-- ---- arguments one after the other

-- params: the new parameters; bound: the names of the place
module _ (params bound : ℕ → Bool) (apart_from : (x : ℕ) → bound x ≡ true → params x ≡ false)
    (fields : ℕ → Option Kind) (scope : Scope) (to : ℕ → ℕ) where
  -- the block binds no name of the place
  abbrev IsOutside : Block → Type 0
  IsOutside b = (y : ℕ) → bound y ≡ true → has_binder b y ≡ false

  view_taken : (x : ℕ) (a : Argument) (b : Block) → IsPlainView fields scope a
      → in_argument (is_not bound) a ≡ false → has_binder b x ≡ false → IsOutside b
      → TakesWindow params x a b
  view_taken x (ControlArg e) b view said own outside = absurd (true≢false (sym view.0))
  view_taken x (ConditionArg c) b view said own outside = absurd (true≢false (sym view.0))
  view_taken x (Whole y) b view said own outside =
      let there = not_false (bound y) said in
      (refl, refl, apart_from y there, (λ z h. absurd (true≢false (sym h))), own, outside y there)
  view_taken x (Window y cs) b view said own outside =
      let p = or_parts (is_not bound y) (in_coords (is_not bound) cs) said in
      let there = not_false (bound y) p.0 in (
        refl,
        view.1,
        apart_from y there,
        (λ z h. let k = not_false (bound z) (coords_open (is_not bound) z cs p.1 h) in
            (apart_from z k, outside z k)),
        own,
        outside y there,
      )

  one_taken : (x : ℕ) (kind : ParamKind) (a : Argument) (b : Block)
      → is_for fields scope kind a ≡ true → is_steady_argument a ≡ true
      → in_argument (is_not bound) a ≡ false → has_binder b x ≡ false → IsOutside b
      → KindUncaught kind x b → Takes params x (re_kind to kind) a b
  one_taken x (ControlParam kind) (ControlArg e) b fits plain said own outside uncaught = (
    plain,
    any_uncaught x e b
        (uncaught (not_true (is_truth kind)
        (and_parts (not (is_truth kind)) (is_control fields with_both scope e) fits).0))
        (λ y k. not_if (has_variable e y) (λ h. true≢false (sym k ∙ outside y (used y h)))),
    λ y h. apart_from y (used y h),
    λ y h. (apart_from y (strided y h), outside y (strided y h)),
  )
    where
      used : (y : ℕ) → has_variable e y ≡ true → bound y ≡ true
      used y h = not_false (bound y) (control_open (is_not bound) y e said h)

      strided : (y : ℕ) → has_stride e y ≡ true → bound y ≡ true
      strided y h = not_false (bound y) (stride_open (is_not bound) y e said h)
  one_taken x (ControlParam kind) (ConditionArg c) b fits plain said own outside uncaught = (
    plain,
    own,
    λ y h. (apart_from y (used y h), outside y (used y h)),
    λ y h. (apart_from y (strided y h), outside y (strided y h)),
  )
    where
      used : (y : ℕ) → condition_has c y ≡ true → bound y ≡ true
      used y h = not_false (bound y) (condition_open (is_not bound) y c said h)

      strided : (y : ℕ) → condition_has_stride c y ≡ true → bound y ≡ true
      strided y h = not_false (bound y) (condition_stride_open (is_not bound) y c said h)
  one_taken x (ControlParam kind) (Whole y) b fits plain said own outside uncaught =
      true≢false (sym fits)
  one_taken x (ControlParam kind) (Window y cs) b fits plain said own outside uncaught =
      true≢false (sym fits)
  one_taken x (TensorParam cell dims memory) a b fits plain said own outside uncaught =
      view_taken x a b (tensor_view fields scope cell (length dims) a fits) said own outside
  one_taken x (WindowParam cell dims memory) a b fits plain said own outside uncaught =
      view_taken x a b (window_view fields scope cell (length dims) a fits) said own outside

  -- other parameters stay as they were
  module _ (x : ℕ) (kind : ParamKind) (a : Argument) (b : Block)
      (said : in_argument (is_not bound) a ≡ false) where
    one_kept : (k : ParamKind) (i : ℕ) → bound i ≡ false → KindUncaught k i b
        → KindUncaught k i (with_argument x kind a b)
    one_kept (ControlParam k) i new h = λ number.
        put_uncaught i x kind a b (no_flag_used (is_not bound) i (ap not new) a said) (h number)
    one_kept (TensorParam cell dims memory) i new h = tt
    one_kept (WindowParam cell dims memory) i new h = tt

    all_kept : (ps : List Param) → ((y : ℕ) → is_buffer_of y ps ≡ true → bound (to y) ≡ false)
        → AreUncaught to ps b → AreUncaught to ps (with_argument x kind a b)
    all_kept [] new h = tt
    all_kept (p ∷ ps) new h =
        let i = p.binder.id in (
          one_kept p.kind (to i) (new i (or_left (i == i) (is_buffer_of i ps) (eq-eqb i i refl))) h.0,
          all_kept ps (λ y k. new y (or_right (y == i) (is_buffer_of y ps) k)) h.1,
        )

  pub all_taken : (ps : List Param) (args : List Argument) (b : Block)
      → are_for fields scope ps args ≡ true → are_steady args ≡ true
      → in_arguments (is_not bound) args ≡ false
      → ((y : ℕ) → is_buffer_of y ps ≡ true → bound (to y) ≡ false)
      → ((y : ℕ) → is_buffer_of y ps ≡ true → has_binder b (to y) ≡ false)
      → IsOutside b → AreUncaught to ps b
      → TakesAll params (map (re_param to) ps) args b
  all_taken [] args b fit plain said new own outside uncaught = tt
  all_taken (p ∷ ps) [] b fit plain said new own outside uncaught = tt
  all_taken (p ∷ ps) (a ∷ args) b fit plain said new own outside uncaught =
      let i = p.binder.id in
      let kind = re_kind to p.kind in
      let f = and_parts (is_for fields scope p.kind a) (are_for fields scope ps args) fit in
      let g = and_parts (is_steady_argument a) (are_steady args) plain in
      let h = or_parts (in_argument (is_not bound) a) (in_arguments (is_not bound) args) said in
      let later = λ (y : ℕ) (k : is_buffer_of y ps ≡ true). or_right (y == i) (is_buffer_of y ps) k in (
        one_taken (to i) p.kind a b f.0 g.0 h.0
            (own i (or_left (i == i) (is_buffer_of i ps) (eq-eqb i i refl))) outside uncaught.0,
        all_taken ps args (with_argument (to i) kind a b) f.1 g.1 h.1
            (λ y k. new y (later y k))
            (λ y k. put_binders (to i) kind a b (to y) ∙ own y (later y k))
            (λ y k. put_binders (to i) kind a b y ∙ outside y k)
            (all_kept (to i) kind a b h.0 ps (λ y k. new y (later y k)) uncaught.1),
      )

-- ---- at a call

param_forth : (to : ℕ → ℕ) (ps : List Param) (y : ℕ) → is_buffer_of y ps ≡ true
    → is_buffer_of (to y) (map (re_param to) ps) ≡ true
param_forth to [] y h = h
param_forth to (p ∷ ps) y h =
    or_elim (y == p.binder.id) (is_buffer_of y ps) h
    (λ e. or_left (to y == to p.binder.id) (is_buffer_of (to y) (map (re_param to) ps))
    (eq-eqb (to y) (to p.binder.id) (ap to (eqb-true y p.binder.id e))))
    (λ e. or_right (to y == to p.binder.id) (is_buffer_of (to y) (map (re_param to) ps))
    (param_forth to ps y e))

-- a callee with fresh ids catches nothing of its number parameters
fresh_uncaught : (fields : ℕ → Option Kind) (memories : ℕ) (callees : ℕ → Option Callee) (base : ℕ)
    (q : Procedure) → IsProcedure fields memories callees q
    → AreUncaught (fresh_id (ids_of q) base) q.params (with_fresh_ids base q).body
fresh_uncaught fields memories callees base q ok =
    params_uncaught fields memories callees (λ x. x) q.body to fresh.body (is_param q) copied q.params []
    (params_differ fields memories q.params [] ok.params) (λ y h. h) ok.body
  where
    to : ℕ → ℕ
    to = fresh_id (ids_of q) base

    fresh : Procedure
    fresh = with_fresh_ids base q

    it : (r : Renaming) × IsRenamed base q r
    it = fresh_anywhere fields memories callees q base ok

    copied : (i : ℕ) → is_param q i ≡ true → IsUncaught i q.body → IsUncaught (to i) fresh.body
    copied i own h =
        let r = it.0 in
        ap₂ (λ (p : Procedure) (x : ℕ). catches x none_of p.body) it.1.is_copy
        (sym (it.1.ids i (ids_among q i ∙ or_right (has_binder q.body i) (is_param q i) own)))
        ∙ caught_mapped (renaming r.to) i (r.to i) (λ x. same_ids r x i) (λ x. same_ids r x.id i) q.body
        ∙ h

pub calls_take : CallsTake
calls_take s base c q is below called there plain =
    all_taken (is_param fresh) bound
    (λ x h. not_if (is_param fresh x) (λ e. true≢false (sym h ∙ late x (new_params base q x e))))
    fields (scope_here s) to q.params c.args fresh.body
    (args_for s c q is called there) (all_are_steady c.args plain) (args_bound s c q is called there)
    (λ y h. late (to y) (new_params base q (to y) (param_forth to q.params y h)))
    (λ y h. not_if (has_binder fresh.body (to y))
    (λ e. apart fields memories callees base q ok (to y) (param_forth to q.params y h) e))
    (λ y h. not_if (has_binder fresh.body y)
    (λ e. true≢false (sym h ∙ late y (from_base fields memories callees base q ok s is below y
    (binder_own fields memories callees base q ok y e)))))
    (fresh_uncaught fields memories callees base q ok)
  where
    fields : ℕ → Option Kind
    fields = field_kind s.target.unit.fields

    memories : ℕ
    memories = length s.target.unit.memories

    kept : (table : List Callee) × IsProcedure (field_kind s.target.unit.fields)
        (length s.target.unit.memories) (slice_get table) q
    kept = callee_keeps_rules s.target.unit.fields (length s.target.unit.memories) []
        s.target.unit.procedures c.callee q is.target.unit.procedures there

    callees : ℕ → Option Callee
    callees = slice_get kept.0

    ok : IsProcedure (field_kind s.target.unit.fields) (length s.target.unit.memories) (slice_get kept.0) q
    ok = kept.1

    to : ℕ → ℕ
    to = fresh_id (ids_of q) base

    fresh : Procedure
    fresh = with_fresh_ids base q

    bound : ℕ → Bool
    bound = bound_at (around s) (is_param s.target.proc)

    late : (x : ℕ) → base ≤ x → bound_at (around s) (is_param s.target.proc) x ≡ false
    late = new_not_bound s c q is called there base below
