-- An expression under the arguments of a call has in the caller's scene the value that it has in the callee's first one.
use Rattle.std.proofs.Common.{◌≡◌, ℕ, ℤ, neg_ℤ, ◌+ℤ◌, ◌-ℤ◌, ◌*ℤ◌, ◌==◌, int_le, int_lt, Bool, true, false, cond, ◌&&◌, ◌||◌, List, [], length, Option, Some, refl, sym, ap, ap₂, ◌∙◌, subst, eqb-true}
use Rattle.std.specs.Prelude.{nat_lt}
use Rattle.std.specs.Ordering.{int_eq}
use Rattle.std.specs.Int.{int_div_euclid, int_rem_euclid}
use Rattle.exo_tree.specs.Tree.{Kind, Control, Lit, Var, Field, StrideOf, Neg, Add, Sub, Mul, Div, Mod, Condition, True, False, Flag, FieldFlag, Lt, Le, Gt, Ge, Eq, And, Or, Argument, ControlArg, ConditionArg, Whole, Window, Param, ParamKind, ControlParam, TensorParam, WindowParam}
use Rattle.exo_meaning.specs.Scene.{Scene, number, holds, is_set, stride_at}
use Rattle.exo_meaning.specs.Calls.{truth}
use Rattle.exo_meaning.specs.Units.{Sort, Scope, sort_in, with_name, param_sort, is_truth, is_number, is_flag, has_dimension, Reads, is_control, is_condition}
use Rattle.check_claims.specs.Arguments.{passed_for, number_for, truth_for, stride_for, control_under, condition_under}
use Rattle.check_laws.proofs.OfClaims.Basics.{and_parts, no_test, by_test, not_true}

module _ (params : List Param) (args : List Argument) where
  -- by the parameter that a name is
  pub by_name : (Of : Option Sort → ℕ → Option Argument → Type 0) (scope : Scope) (p : Param) (a : Argument) → passed_for params args p.binder.id ≡ Some a → Of (Some (param_sort p.kind)) p.binder.id (Some a) → (x : ℕ) → Of (sort_in scope x) x (passed_for params args x) → Of (sort_in (with_name scope p.binder (param_sort p.kind)) x) x (passed_for params args x)
  by_name Of scope p a passed new x old = by_test (x == p.binder.id)
      (λ e. subst (λ t. Of (cond t (Some (param_sort p.kind)) (sort_in scope x)) x (passed_for params args x)) (sym e)
      (subst (λ y. Of (Some (param_sort p.kind)) y (passed_for params args y)) (sym (eqb-true x p.binder.id e)) (subst (Of (Some (param_sort p.kind)) p.binder.id) (sym passed) new)))
      (λ e. subst (λ t. Of (cond t (Some (param_sort p.kind)) (sort_in scope x)) x (passed_for params args x)) (sym e) old)

module _ (fields : ℕ → Option Kind) (may : Reads) (params : List Param) (args : List Argument) (outer inner : Scene) where
  -- what stands for the names in scope has the values that they have inside
  pub record Covers (scope : Scope) : Type 0 where
    pub controls : (x : ℕ) → is_number (sort_in scope x) ≡ true → number outer (number_for x (passed_for params args x)) ≡ inner.control x
    pub flags : (x : ℕ) → is_flag (sort_in scope x) ≡ true → holds outer (truth_for x (passed_for params args x)) ≡ is_set (inner.control x)
    pub strides : may.strides ≡ true → (x k : ℕ) → has_dimension k (sort_in scope x) ≡ true → number outer (stride_for x k (passed_for params args x)) ≡ stride_at inner (inner.views x) k
    pub fields_are : outer.fields ≡ inner.fields

  module _ (scope : Scope) (covers : Covers scope) where
    pub number_under : (e : Control) → is_control fields may scope e ≡ true → number outer (control_under params args e) ≡ number inner e
    number_under (Lit n) h = refl
    number_under (Var x) h = covers.controls x h
    number_under (Field f) h = ap (λ g. g f) covers.fields_are
    number_under (StrideOf x k) h = let p = and_parts may.strides (has_dimension k (sort_in scope x)) h in covers.strides p.0 x k p.1
    number_under (Neg a) h = ap neg_ℤ (number_under a h)
    number_under (Add a b) h = let p = and_parts (is_control fields may scope a) (is_control fields may scope b) h in ap₂ ◌+ℤ◌ (number_under a p.0) (number_under b p.1)
    number_under (Sub a b) h = let p = and_parts (is_control fields may scope a) (is_control fields may scope b) h in ap₂ ◌-ℤ◌ (number_under a p.0) (number_under b p.1)
    number_under (Mul a b) h =
        let q = and_parts (is_control fields may scope a && is_control fields may scope b) _ h in
        let p = and_parts (is_control fields may scope a) (is_control fields may scope b) q.0 in
        ap₂ ◌*ℤ◌ (number_under a p.0) (number_under b p.1)
    number_under (Div a c) h = ap (λ n. int_div_euclid n c) (number_under a (and_parts (is_control fields may scope a) _ h).0)
    number_under (Mod a c) h = ap (λ n. int_rem_euclid n c) (number_under a (and_parts (is_control fields may scope a) _ h).0)

    two_under : (f : ℤ → ℤ → Bool) (a b : Control) → (is_control fields may scope a && is_control fields may scope b) ≡ true → f (number outer (control_under params args a)) (number outer (control_under params args b)) ≡ f (number inner a) (number inner b)
    two_under f a b h = let p = and_parts (is_control fields may scope a) (is_control fields may scope b) h in ap₂ f (number_under a p.0) (number_under b p.1)

    pub condition_same : (c : Condition) → is_condition fields may scope c ≡ true → holds outer (condition_under params args c) ≡ holds inner c
    condition_same True h = refl
    condition_same False h = refl
    condition_same (Flag x) h = covers.flags x h
    condition_same (FieldFlag f) h = ap (λ g. is_set (g f)) covers.fields_are
    condition_same (Lt a b) h = two_under int_lt a b h
    condition_same (Le a b) h = two_under int_le a b h
    condition_same (Gt a b) h = two_under (λ x y. int_lt y x) a b h
    condition_same (Ge a b) h = two_under (λ x y. int_le y x) a b h
    condition_same (Eq a b) h = two_under int_eq a b h
    condition_same (And c d) h = let p = and_parts (is_condition fields may scope c) (is_condition fields may scope d) h in ap₂ (λ x y. x && y) (condition_same c p.0) (condition_same d p.1)
    condition_same (Or c d) h = let p = and_parts (is_condition fields may scope c) (is_condition fields may scope d) h in ap₂ (λ x y. x || y) (condition_same c p.0) (condition_same d p.1)

  -- ---- parameter by parameter

  -- what is passed for a parameter has the value of its name
  abbrev pub Told : ParamKind → Argument → ℕ → Type 0
  Told (ControlParam kind) (ControlArg e) x = (is_truth kind ≡ false) × (number outer e ≡ inner.control x)
  Told (ControlParam kind) (ConditionArg c) x = (is_truth kind ≡ true) × (truth (holds outer c) ≡ inner.control x)
  Told (ControlParam kind) (Whole y) x = ⊥
  Told (ControlParam kind) (Window y coords) x = ⊥
  Told (TensorParam cell dims memory) a x = may.strides ≡ true → (k : ℕ) → nat_lt k (length dims) ≡ true → number outer (stride_for x k (Some a)) ≡ stride_at inner (inner.views x) k
  Told (WindowParam cell dims memory) a x = may.strides ≡ true → (k : ℕ) → nat_lt k (length dims) ≡ true → number outer (stride_for x k (Some a)) ≡ stride_at inner (inner.views x) k

  told_number : (kind : ParamKind) (a : Argument) (x : ℕ) → Told kind a x → is_number (Some (param_sort kind)) ≡ true → number outer (number_for x (Some a)) ≡ inner.control x
  told_number (ControlParam kind) (ControlArg e) x t h = t.1
  told_number (ControlParam kind) (ConditionArg c) x t h = no_test (sym (not_true (is_truth kind) h) ∙ t.0)
  told_number (ControlParam kind) (Whole y) x t h = absurd t
  told_number (ControlParam kind) (Window y coords) x t h = absurd t
  told_number (TensorParam cell dims memory) a x t h = no_test h
  told_number (WindowParam cell dims memory) a x t h = no_test h

  truth_is_set : (t : Bool) → is_set (truth t) ≡ t
  truth_is_set true = refl
  truth_is_set false = refl

  told_flag : (kind : ParamKind) (a : Argument) (x : ℕ) → Told kind a x → is_flag (Some (param_sort kind)) ≡ true → holds outer (truth_for x (Some a)) ≡ is_set (inner.control x)
  told_flag (ControlParam kind) (ControlArg e) x t h = no_test (sym t.0 ∙ h)
  told_flag (ControlParam kind) (ConditionArg c) x t h = sym (truth_is_set (holds outer c)) ∙ ap is_set t.1
  told_flag (ControlParam kind) (Whole y) x t h = absurd t
  told_flag (ControlParam kind) (Window y coords) x t h = absurd t
  told_flag (TensorParam cell dims memory) a x t h = no_test h
  told_flag (WindowParam cell dims memory) a x t h = no_test h

  told_stride : (kind : ParamKind) (a : Argument) (x k : ℕ) → may.strides ≡ true → Told kind a x → has_dimension k (Some (param_sort kind)) ≡ true → number outer (stride_for x k (Some a)) ≡ stride_at inner (inner.views x) k
  told_stride (ControlParam kind) a x k m t h = no_test h
  told_stride (TensorParam cell dims memory) a x k m t h = t m k h
  told_stride (WindowParam cell dims memory) a x k m t h = t m k h

  pub covers_more : (scope : Scope) (p : Param) (a : Argument) → Covers scope → passed_for params args p.binder.id ≡ Some a → Told p.kind a p.binder.id → Covers (with_name scope p.binder (param_sort p.kind))
  covers_more scope p a c passed told = record {
    controls = λ x. by_name params args (λ o y z. is_number o ≡ true → number outer (number_for y z) ≡ inner.control y) scope p a passed (told_number p.kind a p.binder.id told) x (c.controls x);
    flags = λ x. by_name params args (λ o y z. is_flag o ≡ true → holds outer (truth_for y z) ≡ is_set (inner.control y)) scope p a passed (told_flag p.kind a p.binder.id told) x (c.flags x);
    strides = λ m x k. by_name params args (λ o y z. has_dimension k o ≡ true → number outer (stride_for y k z) ≡ stride_at inner (inner.views y) k) scope p a passed (told_stride p.kind a p.binder.id k m told) x (c.strides m x k);
    fields_are = c.fields_are;
  }

  pub covers_nothing : outer.fields ≡ inner.fields → Covers []
  covers_nothing same = record { controls = λ x h. no_test h; flags = λ x h. no_test h; strides = λ m x k h. no_test h; fields_are = same }
