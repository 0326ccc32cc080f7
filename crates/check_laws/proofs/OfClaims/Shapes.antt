-- Expressions that are well formed in a scope: with more names, and under the arguments of a call.
use Rattle.std.proofs.Common.{◌≡◌, ℕ, zero, suc, ◌==◌, Bool, true, false, cond, not, ◌&&◌, ◌||◌, List, [], ◌∷◌, length, map, Option, Some, None, arith, refl, sym, ap, ◌∙◌, subst, eqb-true}
use Rattle.std.specs.Prelude.{IsSome, nat_lt}
use Rattle.std.specs.List.{list_all}
use Rattle.std.proofs.lemmas.List.{take_all}
use Rattle.exo_tree.specs.Tree.{Binder, Kind, Control, Lit, Var, Field, StrideOf, Neg, Add, Sub, Mul, Div, Mod, Condition, True, False, Flag, FieldFlag, Lt, Le, Gt, Ge, Eq, And, Or, Coord, At, Span, Argument, ControlArg, ConditionArg, Whole, Window, Param, ParamKind, ControlParam, TensorParam, WindowParam}
use Rattle.exo_meaning.specs.Units.{Sort, ControlName, BufferName, Scope, sort_in, with_name, scope_of, param_sort, is_new, is_truth, is_number, is_flag, has_rank, has_cell, has_dimension, is_dense, is_rank, is_of_literals, Reads, plainly, with_both, is_number_field, is_control, are_controls, is_condition, is_coord, is_window, is_for, are_for, spans}
use Rattle.check_claims.specs.Extents.{span_extents}
use Rattle.check_claims.specs.Arguments.{passed_for, number_for, truth_for, stride_for, span_place, window_stride, control_under, condition_under}
use Rattle.check_laws.proofs.OfClaims.Basics.{and_parts, and_true, no_test, not_true}
use Rattle.check_laws.proofs.OfClaims.Kept.{not_new}
use Rattle.check_laws.proofs.OfClaims.Under.{by_name}
use Rattle.check_laws.proofs.OfClaims.Given.{span_later, short, less_than, not_below_zero}
use Rattle.check_laws.proofs.OfClaims.Entered.{Passed}

-- ---- more names, more reads

module _ (fields : ℕ → Option Kind) where
  -- what may read less may stand where more may be read
  pub control_freer : (may : Reads) (scope : Scope) (e : Control) → is_control fields may scope e ≡ true → is_control fields with_both scope e ≡ true
  control_freer may scope (Lit n) h = h
  control_freer may scope (Var x) h = h
  control_freer may scope (Field f) h = (and_parts may.fields (is_number_field fields (fields f)) h).1
  control_freer may scope (StrideOf x k) h = (and_parts may.strides (has_dimension k (sort_in scope x)) h).1
  control_freer may scope (Neg a) h = control_freer may scope a h
  control_freer may scope (Add a b) h = let p = and_parts (is_control fields may scope a) (is_control fields may scope b) h in and_true (is_control fields with_both scope a) (is_control fields with_both scope b) (control_freer may scope a p.0) (control_freer may scope b p.1)
  control_freer may scope (Sub a b) h = let p = and_parts (is_control fields may scope a) (is_control fields may scope b) h in and_true (is_control fields with_both scope a) (is_control fields with_both scope b) (control_freer may scope a p.0) (control_freer may scope b p.1)
  control_freer may scope (Mul a b) h =
      let q = and_parts (is_control fields may scope a && is_control fields may scope b) (is_of_literals a || is_of_literals b) h in
      let p = and_parts (is_control fields may scope a) (is_control fields may scope b) q.0 in
      and_true (is_control fields with_both scope a && is_control fields with_both scope b) (is_of_literals a || is_of_literals b) (and_true (is_control fields with_both scope a) (is_control fields with_both scope b) (control_freer may scope a p.0) (control_freer may scope b p.1)) q.1
  control_freer may scope (Div a c) h = let p = and_parts (is_control fields may scope a) _ h in and_true (is_control fields with_both scope a) _ (control_freer may scope a p.0) p.1
  control_freer may scope (Mod a c) h = let p = and_parts (is_control fields may scope a) _ h in and_true (is_control fields with_both scope a) _ (control_freer may scope a p.0) p.1

  pub controls_freer : (scope : Scope) (es : List Control) → are_controls fields plainly scope es ≡ true → are_controls fields with_both scope es ≡ true
  controls_freer scope [] h = refl
  controls_freer scope (e ∷ es) h = let p = and_parts (is_control fields plainly scope e) (are_controls fields plainly scope es) h in and_true (is_control fields with_both scope e) (are_controls fields with_both scope es) (control_freer plainly scope e p.0) (controls_freer scope es p.1)

  pub spans_formed : (scope : Scope) (cs : List Coord) → list_all (is_coord fields scope) cs ≡ true → are_controls fields with_both scope (span_extents cs) ≡ true
  spans_formed scope [] h = refl
  spans_formed scope (At a ∷ cs) h = spans_formed scope cs (and_parts (is_control fields plainly scope a) (list_all (is_coord fields scope) cs) h).1
  spans_formed scope (Span a b ∷ cs) h =
      let p = and_parts (is_control fields plainly scope a && is_control fields plainly scope b) (list_all (is_coord fields scope) cs) h in
      let q = and_parts (is_control fields plainly scope a) (is_control fields plainly scope b) p.0 in
      and_true (is_control fields with_both scope b && is_control fields with_both scope a) (are_controls fields with_both scope (span_extents cs)) (and_true (is_control fields with_both scope b) (is_control fields with_both scope a) (control_freer plainly scope b q.1) (control_freer plainly scope a q.0)) (spans_formed scope cs p.1)

  -- one name more
  module _ (scope : Scope) (x : Binder) (sort : Sort) (new : is_new scope x ≡ true) where
    abbrev more : Scope
    more = with_name scope x sort

    same_sort : (test : Option Sort → Bool) → test None ≡ false → (y : ℕ) → test (sort_in scope y) ≡ true → test (sort_in more y) ≡ true
    same_sort test none y h = go (sort_in scope y) refl h
      where
        go : (o : Option Sort) → sort_in scope y ≡ o → test o ≡ true → test (cond (y == x.id) (Some sort) (sort_in scope y)) ≡ true
        go None e h = no_test (sym none ∙ h)
        go (Some s) e h = subst (λ t. test (cond t (Some sort) (sort_in scope y)) ≡ true) (sym (not_new scope x y new (subst IsSome (sym e) refl))) (ap test e ∙ h)

    pub control_wider : (e : Control) → is_control fields with_both scope e ≡ true → is_control fields with_both more e ≡ true
    control_wider (Lit n) h = h
    control_wider (Var y) h = same_sort is_number refl y h
    control_wider (Field f) h = h
    control_wider (StrideOf y k) h = same_sort (has_dimension k) refl y h
    control_wider (Neg a) h = control_wider a h
    control_wider (Add a b) h = let p = and_parts (is_control fields with_both scope a) (is_control fields with_both scope b) h in and_true (is_control fields with_both more a) (is_control fields with_both more b) (control_wider a p.0) (control_wider b p.1)
    control_wider (Sub a b) h = let p = and_parts (is_control fields with_both scope a) (is_control fields with_both scope b) h in and_true (is_control fields with_both more a) (is_control fields with_both more b) (control_wider a p.0) (control_wider b p.1)
    control_wider (Mul a b) h =
        let q = and_parts (is_control fields with_both scope a && is_control fields with_both scope b) (is_of_literals a || is_of_literals b) h in
        let p = and_parts (is_control fields with_both scope a) (is_control fields with_both scope b) q.0 in
        and_true (is_control fields with_both more a && is_control fields with_both more b) (is_of_literals a || is_of_literals b) (and_true (is_control fields with_both more a) (is_control fields with_both more b) (control_wider a p.0) (control_wider b p.1)) q.1
    control_wider (Div a c) h = let p = and_parts (is_control fields with_both scope a) _ h in and_true (is_control fields with_both more a) _ (control_wider a p.0) p.1
    control_wider (Mod a c) h = let p = and_parts (is_control fields with_both scope a) _ h in and_true (is_control fields with_both more a) _ (control_wider a p.0) p.1

    pub controls_wider : (es : List Control) → are_controls fields with_both scope es ≡ true → are_controls fields with_both more es ≡ true
    controls_wider [] h = refl
    controls_wider (e ∷ es) h = let p = and_parts (is_control fields with_both scope e) (are_controls fields with_both scope es) h in and_true (is_control fields with_both more e) (are_controls fields with_both more es) (control_wider e p.0) (controls_wider es p.1)

-- ---- under arguments

span_in_reach : (cs : List Coord) (k : ℕ) → nat_lt k (spans cs) ≡ true → nat_lt (span_place k cs) (length cs) ≡ true
span_in_reach [] k h = absurd (not_below_zero k h)
span_in_reach (At a ∷ cs) k h = one_more (span_place k cs) (length cs) (span_in_reach cs k h)
  where
    one_more : (m n : ℕ) → nat_lt m n ≡ true → nat_lt (suc m) (suc n) ≡ true
    one_more m n h = grind arith
span_in_reach (Span a b ∷ cs) zero h = first (length cs)
  where
    first : (n : ℕ) → nat_lt 0 (suc n) ≡ true
    first n = grind arith
span_in_reach (Span a b ∷ cs) (suc k) h = subst (λ m. nat_lt m (suc (length cs)) ≡ true) (sym (span_later k a b cs)) (one_more (span_place k cs) (length cs) (span_in_reach cs k (less_than k (spans cs) h)))
  where
    one_more : (m n : ℕ) → nat_lt m n ≡ true → nat_lt (suc m) (suc n) ≡ true
    one_more m n h = grind arith

-- the ranks of a scope are those of buffers
abbrev pub AreRanks : Scope → Type 0
AreRanks scope = (x n : ℕ) → has_rank n (sort_in scope x) ≡ true → is_rank n ≡ true

module _ (fields : ℕ → Option Kind) (may : Reads) (params : List Param) (args : List Argument) (scope : Scope) (ranks : AreRanks scope) where
  -- what stands for the names in scope is well formed
  pub record Gives (names : Scope) : Type 0 where
    pub controls : (x : ℕ) → is_number (sort_in names x) ≡ true → is_control fields with_both scope (number_for x (passed_for params args x)) ≡ true
    pub flags : (x : ℕ) → is_flag (sort_in names x) ≡ true → is_condition fields with_both scope (truth_for x (passed_for params args x)) ≡ true
    pub strides : (k x : ℕ) → has_dimension k (sort_in names x) ≡ true → is_control fields with_both scope (stride_for x k (passed_for params args x)) ≡ true

  literals_under : (e : Control) → is_of_literals e ≡ true → is_of_literals (control_under params args e) ≡ true
  literals_under (Lit n) h = refl
  literals_under (Var x) h = no_test h
  literals_under (Field f) h = no_test h
  literals_under (StrideOf x k) h = no_test h
  literals_under (Neg a) h = literals_under a h
  literals_under (Add a b) h = let p = and_parts (is_of_literals a) (is_of_literals b) h in and_true (is_of_literals (control_under params args a)) (is_of_literals (control_under params args b)) (literals_under a p.0) (literals_under b p.1)
  literals_under (Sub a b) h = let p = and_parts (is_of_literals a) (is_of_literals b) h in and_true (is_of_literals (control_under params args a)) (is_of_literals (control_under params args b)) (literals_under a p.0) (literals_under b p.1)
  literals_under (Mul a b) h = let p = and_parts (is_of_literals a) (is_of_literals b) h in and_true (is_of_literals (control_under params args a)) (is_of_literals (control_under params args b)) (literals_under a p.0) (literals_under b p.1)
  literals_under (Div a c) h = literals_under a h
  literals_under (Mod a c) h = literals_under a h

  either_kept : (a b c d : Bool) → (a ≡ true → c ≡ true) → (b ≡ true → d ≡ true) → (a || b) ≡ true → (c || d) ≡ true
  either_kept true b c d f g h = subst (λ t. (t || d) ≡ true) (sym (f refl)) refl
  either_kept false b true d f g h = refl
  either_kept false b false d f g h = g h

  module _ (names : Scope) (given : Gives names) where
    abbrev under : Control → Control
    under = control_under params args

    abbrev Formed : Control → Bool
    Formed e = is_control fields with_both scope (under e)

    pub control_formed : (e : Control) → is_control fields may names e ≡ true → Formed e ≡ true
    control_formed (Lit n) h = h
    control_formed (Var x) h = given.controls x h
    control_formed (Field f) h = (and_parts may.fields _ h).1
    control_formed (StrideOf x k) h = given.strides k x (and_parts may.strides (has_dimension k (sort_in names x)) h).1
    control_formed (Neg a) h = control_formed a h
    control_formed (Add a b) h = let p = and_parts (is_control fields may names a) (is_control fields may names b) h in and_true (Formed a) (Formed b) (control_formed a p.0) (control_formed b p.1)
    control_formed (Sub a b) h = let p = and_parts (is_control fields may names a) (is_control fields may names b) h in and_true (Formed a) (Formed b) (control_formed a p.0) (control_formed b p.1)
    control_formed (Mul a b) h =
        let q = and_parts (is_control fields may names a && is_control fields may names b) (is_of_literals a || is_of_literals b) h in
        let p = and_parts (is_control fields may names a) (is_control fields may names b) q.0 in
        and_true (Formed a && Formed b) (is_of_literals (under a) || is_of_literals (under b)) (and_true (Formed a) (Formed b) (control_formed a p.0) (control_formed b p.1))
        (either_kept (is_of_literals a) (is_of_literals b) (is_of_literals (under a)) (is_of_literals (under b)) (literals_under a) (literals_under b) q.1)
    control_formed (Div a c) h = let p = and_parts (is_control fields may names a) _ h in and_true (Formed a) _ (control_formed a p.0) p.1
    control_formed (Mod a c) h = let p = and_parts (is_control fields may names a) _ h in and_true (Formed a) _ (control_formed a p.0) p.1

    pub controls_formed : (es : List Control) → are_controls fields may names es ≡ true → are_controls fields with_both scope (map under es) ≡ true
    controls_formed [] h = refl
    controls_formed (e ∷ es) h = let p = and_parts (is_control fields may names e) (are_controls fields may names es) h in and_true (Formed e) (are_controls fields with_both scope (map under es)) (control_formed e p.0) (controls_formed es p.1)

    two_formed : (a b : Control) → (is_control fields may names a && is_control fields may names b) ≡ true → (Formed a && Formed b) ≡ true
    two_formed a b h = let p = and_parts (is_control fields may names a) (is_control fields may names b) h in and_true (Formed a) (Formed b) (control_formed a p.0) (control_formed b p.1)

    abbrev Both : Condition → Bool
    Both c = is_condition fields with_both scope (condition_under params args c)

    pub condition_formed : (c : Condition) → is_condition fields may names c ≡ true → Both c ≡ true
    condition_formed True h = refl
    condition_formed False h = refl
    condition_formed (Flag x) h = given.flags x h
    condition_formed (FieldFlag f) h = (and_parts may.fields _ h).1
    condition_formed (Lt a b) h = two_formed a b h
    condition_formed (Le a b) h = two_formed a b h
    condition_formed (Gt a b) h = two_formed a b h
    condition_formed (Ge a b) h = two_formed a b h
    condition_formed (Eq a b) h = two_formed a b h
    condition_formed (And c d) h = let p = and_parts (is_condition fields may names c) (is_condition fields may names d) h in and_true (Both c) (Both d) (condition_formed c p.0) (condition_formed d p.1)
    condition_formed (Or c d) h = let p = and_parts (is_condition fields may names c) (is_condition fields may names d) h in and_true (Both c) (Both d) (condition_formed c p.0) (condition_formed d p.1)

  -- ---- parameter by parameter

  passed_number : (kind : ParamKind) (a : Argument) (x : ℕ) → is_for fields scope kind a ≡ true → is_number (Some (param_sort kind)) ≡ true → is_control fields with_both scope (number_for x (Some a)) ≡ true
  passed_number (ControlParam kind) (ControlArg e) x h n = (and_parts (not (is_truth kind)) (is_control fields with_both scope e) h).1
  passed_number (ControlParam kind) (ConditionArg c) x h n = no_test (sym (not_true (is_truth kind) n) ∙ (and_parts (is_truth kind) (is_condition fields with_both scope c) h).0)
  passed_number (ControlParam kind) (Whole y) x h n = no_test h
  passed_number (ControlParam kind) (Window y cs) x h n = no_test h
  passed_number (TensorParam cell dims memory) a x h n = no_test n
  passed_number (WindowParam cell dims memory) a x h n = no_test n

  passed_flag : (kind : ParamKind) (a : Argument) (x : ℕ) → is_for fields scope kind a ≡ true → is_flag (Some (param_sort kind)) ≡ true → is_condition fields with_both scope (truth_for x (Some a)) ≡ true
  passed_flag (ControlParam kind) (ControlArg e) x h n = no_test (sym (not_true (is_truth kind) (and_parts (not (is_truth kind)) (is_control fields with_both scope e) h).0) ∙ n)
  passed_flag (ControlParam kind) (ConditionArg c) x h n = (and_parts (is_truth kind) (is_condition fields with_both scope c) h).1
  passed_flag (ControlParam kind) (Whole y) x h n = no_test h
  passed_flag (ControlParam kind) (Window y cs) x h n = no_test h
  passed_flag (TensorParam cell dims memory) a x h n = no_test n
  passed_flag (WindowParam cell dims memory) a x h n = no_test n

  ranked_dimension : (n k : ℕ) (o : Option Sort) → has_rank n o ≡ true → nat_lt k n ≡ true → has_dimension k o ≡ true
  ranked_dimension n k None h l = no_test h
  ranked_dimension n k (Some (ControlName kind)) h l = no_test h
  ranked_dimension n k (Some (BufferName cell rank dense)) h l = subst (λ r. nat_lt k r ≡ true) (eqb-true n rank h) l

  window_stride_formed : (y k : ℕ) (cs : List Coord) → is_window fields scope y cs ≡ true → nat_lt k (spans cs) ≡ true → is_control fields with_both scope (window_stride y k cs) ≡ true
  window_stride_formed y k cs h l =
      let r = (and_parts (has_rank (length cs) (sort_in scope y)) (list_all (is_coord fields scope) cs) h).0 in
      subst (λ (z : List Coord). has_dimension (span_place k z) (sort_in scope y) ≡ true) (sym (take_all 8 cs (short (length cs) (ranks y (length cs) r)))) (ranked_dimension (length cs) (span_place k cs) (sort_in scope y) r (span_in_reach cs k l))

  passed_stride : (kind : ParamKind) (a : Argument) (k x : ℕ) → is_for fields scope kind a ≡ true → has_dimension k (Some (param_sort kind)) ≡ true → is_control fields with_both scope (stride_for x k (Some a)) ≡ true
  passed_stride (ControlParam kind) a k x h n = no_test n
  passed_stride (TensorParam cell dims memory) (ControlArg e) k x h n = no_test h
  passed_stride (TensorParam cell dims memory) (ConditionArg c) k x h n = no_test h
  passed_stride (TensorParam cell dims memory) (Whole y) k x h n =
      let q = and_parts (has_cell cell (sort_in scope y)) _ h in
      ranked_dimension (length dims) k (sort_in scope y) (and_parts (has_rank (length dims) (sort_in scope y)) ((length dims == 0) || is_dense (sort_in scope y)) q.1).0 n
  passed_stride (TensorParam cell dims memory) (Window y cs) k x h n =
      let q = and_parts (has_cell cell (sort_in scope y)) _ h in
      let r = and_parts (is_window fields scope y cs) ((length dims == 0) && ((spans cs == 0) && not (length cs == 0))) q.1 in
      let t = and_parts (length dims == 0) ((spans cs == 0) && not (length cs == 0)) r.1 in
      absurd (not_below_zero k (subst (λ m. nat_lt k m ≡ true) (eqb-true (length dims) 0 t.0) n))
  passed_stride (WindowParam cell dims memory) (ControlArg e) k x h n = no_test h
  passed_stride (WindowParam cell dims memory) (ConditionArg c) k x h n = no_test h
  passed_stride (WindowParam cell dims memory) (Whole y) k x h n = ranked_dimension (length dims) k (sort_in scope y) (and_parts (has_cell cell (sort_in scope y)) (has_rank (length dims) (sort_in scope y)) h).1 n
  passed_stride (WindowParam cell dims memory) (Window y cs) k x h n =
      let q = and_parts (has_cell cell (sort_in scope y)) _ h in
      let r = and_parts (is_window fields scope y cs) (length dims == spans cs) q.1 in
      window_stride_formed y k cs r.0 (subst (λ m. nat_lt k m ≡ true) (eqb-true (length dims) (spans cs) r.1) n)

  pub gives_more : (names : Scope) (p : Param) (a : Argument) → Gives names → passed_for params args p.binder.id ≡ Some a → is_for fields scope p.kind a ≡ true → Gives (with_name names p.binder (param_sort p.kind))
  gives_more names p a g passed h = record {
    controls = λ x. by_name params args (λ o y z. is_number o ≡ true → is_control fields with_both scope (number_for y z) ≡ true) names p a passed (passed_number p.kind a p.binder.id h) x (g.controls x);
    flags = λ x. by_name params args (λ o y z. is_flag o ≡ true → is_condition fields with_both scope (truth_for y z) ≡ true) names p a passed (passed_flag p.kind a p.binder.id h) x (g.flags x);
    strides = λ k x. by_name params args (λ o y z. has_dimension k o ≡ true → is_control fields with_both scope (stride_for y k z) ≡ true) names p a passed (passed_stride p.kind a k p.binder.id h) x (g.strides k x);
  }

  pub gives_nothing : Gives []
  gives_nothing = record { controls = λ x h. no_test h; flags = λ x h. no_test h; strides = λ k x h. no_test h }

  pub all_give : (ps : List Param) (rest : List Argument) (names : Scope) → Gives names → Passed params args ps rest → are_for fields scope ps rest ≡ true → Gives (scope_of names ps)
  all_give [] rest names g passed h = g
  all_give (p ∷ ps) [] names g passed h = absurd passed
  all_give (p ∷ ps) (a ∷ rest) names g passed h =
      let q = and_parts (is_for fields scope p.kind a) (are_for fields scope ps rest) h in
      all_give ps rest (with_name names p.binder (param_sort p.kind)) (gives_more names p a g passed.0 q.0) passed.1 q.1
