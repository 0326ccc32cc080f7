-- A well-formed procedure keeps the rules of affine ones.
use Rattle.std.proofs.Common.{◌≡◌, ℕ, pos, int_lt, nat_lt, Bool, true, not, ◌&&◌, ◌||◌, List, [], ◌∷◌, length, Option, Some, None, refl, sym, ap₂, true≢false}
use Rattle.std.specs.List.{list_all}
use Rattle.std.specs.Int.{is_positive}
use Rattle.exo_tree.specs.Tree.{Kind, Index, Control, Lit, Var, Field, StrideOf, Neg, Add, Sub, Mul, Div, Mod, Condition, True, False, Flag, FieldFlag, Lt, Le, Gt, Ge, Eq, And, Or, Argument, ControlArg, ConditionArg, Whole, Window, Statement, Assign, Reduce, Config, Pass, If, For, Alloc, View, Call, Block, end, next, Param, ParamKind, ControlParam, TensorParam, WindowParam}
use Rattle.exo_meaning.specs.Calls.{Callee}
use Rattle.exo_meaning.specs.Run.{roots_after}
use Rattle.exo_meaning.specs.Units as units
use Rattle.exo_meaning.specs.Units.{Scope, ControlName, Reads, plainly, with_fields, with_strides, with_both, is_of_literals, is_literal_number, is_truth, is_control, are_controls, is_condition, is_of_kind, is_write, is_rank, is_new, is_empty, is_short, scope_of, scope_after, with_name, param_sort, is_param_kind, are_params, is_block, is_statement, IsProcedure}
use Rattle.affine_forms.specs.Forms.{Allowed, is_affine, anything, keeps_rules}
use Rattle.affine_forms.specs.Formulas.{condition_keeps_rules}
use Rattle.affine_forms.specs.Strides.{all_affine}
use Rattle.affine_forms.proofs.Values.{and_parts}
use Rattle.affine_places.specs.Facts.{fact_keeps_rules, Known}
use Rattle.affine_places.specs.Roots.{variables, are_extents, kind_has_extents, params_have_extents, block_has_extents, statement_has_extents, has_extents}
use Rattle.affine_places.specs.Rules.{block_keeps_rules, statement_keeps_rules}
use Rattle.affine_places.specs.Laws.{WellFormedIsAffine}

both_true : (a b : Bool) → a ≡ true → b ≡ true → a && b ≡ true
both_true a b h k = ap₂ ◌&&◌ h k

-- ---- expressions

-- an expression reads no more than is allowed
record Reading (fields : ℕ → Option Kind) (may : Reads) (allowed : Allowed) : Type 0 where
  variable : (x : ℕ) → allowed.variable x ≡ true
  field : may.fields ≡ true → (f : ℕ) → allowed.field f ≡ true
  stride : may.strides ≡ true → (x k : ℕ) → allowed.stride x k ≡ true

module _ (fields : ℕ → Option Kind) (may : Reads) (allowed : Allowed) (reads : Reading fields may allowed) (scope : Scope) where
  affine : (e : Control) → is_control fields may scope e ≡ true → is_affine allowed e ≡ true
  affine (Lit n) h = refl
  affine (Var x) h = reads.variable x
  affine (Field f) h = reads.field (and_parts may.fields (units.is_number_field fields (fields f)) h).0 f
  affine (StrideOf x k) h = reads.stride (and_parts may.strides (units.has_dimension k (units.sort_in scope x)) h).0 x k
  affine (Neg a) h = affine a h
  affine (Add a b) h = let p = and_parts (is_control fields may scope a) (is_control fields may scope b) h in both_true (is_affine allowed a) (is_affine allowed b) (affine a p.0) (affine b p.1)
  affine (Sub a b) h = let p = and_parts (is_control fields may scope a) (is_control fields may scope b) h in both_true (is_affine allowed a) (is_affine allowed b) (affine a p.0) (affine b p.1)
  affine (Mul a b) h =
      let p = and_parts (is_control fields may scope a && is_control fields may scope b) (is_of_literals a || is_of_literals b) h in
      let q = and_parts (is_control fields may scope a) (is_control fields may scope b) p.0 in
      both_true (is_of_literals a || is_of_literals b) (is_affine allowed a && is_affine allowed b) p.1 (both_true (is_affine allowed a) (is_affine allowed b) (affine a q.0) (affine b q.1))
  affine (Div a c) h = let p = and_parts (is_control fields may scope a) (is_literal_number c && int_lt (pos 0) c) h in both_true (is_positive c) (is_affine allowed a) (and_parts (is_literal_number c) (int_lt (pos 0) c) p.1).1 (affine a p.0)
  affine (Mod a c) h = let p = and_parts (is_control fields may scope a) (is_literal_number c && int_lt (pos 0) c) h in both_true (is_positive c) (is_affine allowed a) (and_parts (is_literal_number c) (int_lt (pos 0) c) p.1).1 (affine a p.0)

  all_are_affine : (es : List Control) → are_controls fields may scope es ≡ true → all_affine allowed es ≡ true
  all_are_affine [] h = refl
  all_are_affine (e ∷ es) h = let p = and_parts (is_control fields may scope e) (are_controls fields may scope es) h in both_true (is_affine allowed e) (all_affine allowed es) (affine e p.0) (all_are_affine es p.1)

module _ (fields : ℕ → Option Kind) where
  plain : Reading fields plainly variables
  plain = record { variable = λ x. refl; field = λ h f. absurd (true≢false (sym h)); stride = λ h x k. absurd (true≢false (sym h)) }

  free : (may : Reads) → Reading fields may anything
  free may = record { variable = λ x. refl; field = λ h f. refl; stride = λ h x k. refl }

  rules : (may : Reads) (scope : Scope) (e : Control) → is_control fields may scope e ≡ true → keeps_rules e ≡ true
  rules may scope e h = affine fields may anything (free may) scope e h

  sides : (may : Reads) (scope : Scope) (a b : Control) → is_control fields may scope a && is_control fields may scope b ≡ true → keeps_rules a && keeps_rules b ≡ true
  sides may scope a b h = let p = and_parts (is_control fields may scope a) (is_control fields may scope b) h in both_true (keeps_rules a) (keeps_rules b) (rules may scope a p.0) (rules may scope b p.1)

  condition_rules : (may : Reads) (scope : Scope) (c : Condition) → is_condition fields may scope c ≡ true → condition_keeps_rules c ≡ true
  condition_rules may scope True h = refl
  condition_rules may scope False h = refl
  condition_rules may scope (Flag x) h = refl
  condition_rules may scope (FieldFlag f) h = refl
  condition_rules may scope (Lt a b) h = sides may scope a b h
  condition_rules may scope (Le a b) h = sides may scope a b h
  condition_rules may scope (Gt a b) h = sides may scope a b h
  condition_rules may scope (Ge a b) h = sides may scope a b h
  condition_rules may scope (Eq a b) h = sides may scope a b h
  condition_rules may scope (And c d) h = let p = and_parts (is_condition fields may scope c) (is_condition fields may scope d) h in both_true (condition_keeps_rules c) (condition_keeps_rules d) (condition_rules may scope c p.0) (condition_rules may scope d p.1)
  condition_rules may scope (Or c d) h = let p = and_parts (is_condition fields may scope c) (is_condition fields may scope d) h in both_true (condition_keeps_rules c) (condition_keeps_rules d) (condition_rules may scope c p.0) (condition_rules may scope d p.1)

  all_conditions : (may : Reads) (scope : Scope) (cs : List Condition) → list_all (is_condition fields may scope) cs ≡ true → list_all condition_keeps_rules cs ≡ true
  all_conditions may scope [] h = refl
  all_conditions may scope (c ∷ cs) h = let p = and_parts (is_condition fields may scope c) (list_all (is_condition fields may scope) cs) h in both_true (condition_keeps_rules c) (list_all condition_keeps_rules cs) (condition_rules may scope c p.0) (all_conditions may scope cs p.1)

  write_rules : (scope : Scope) (kind : Option Kind) (a : Argument) → is_write fields scope kind a ≡ true → fact_keeps_rules (Known a) ≡ true
  write_rules scope None a h = absurd (true≢false (sym h))
  write_rules scope (Some kind) (ControlArg e) h = rules with_strides scope e (and_parts (not (is_truth kind)) (is_control fields with_strides scope e) h).1
  write_rules scope (Some kind) (ConditionArg c) h = condition_rules with_strides scope c (and_parts (is_truth kind) (is_condition fields with_strides scope c) h).1
  write_rules scope (Some kind) (Whole x) h = refl
  write_rules scope (Some kind) (Window x cs) h = refl

  -- ---- extents

  extents : (scope : Scope) (es : List Control) → are_controls fields plainly scope es ≡ true → is_rank (length es) ≡ true → are_extents es ≡ true
  extents scope es h k = both_true (is_rank (length es)) (all_affine variables es) k (all_are_affine fields plainly variables plain scope es h)

  kind_extents : (memories : ℕ) (scope : Scope) (kind : ParamKind) → is_param_kind fields memories scope kind ≡ true → kind_has_extents kind ≡ true
  kind_extents memories scope (ControlParam kind) h = refl
  kind_extents memories scope (TensorParam cell es memory) h =
      let p = and_parts (are_controls fields plainly scope es) (is_rank (length es) && nat_lt memory memories) h in
      extents scope es p.0 (and_parts (is_rank (length es)) (nat_lt memory memories) p.1).0
  kind_extents memories scope (WindowParam cell es memory) h =
      let p = and_parts (are_controls fields plainly scope es) ((is_rank (length es) && nat_lt 0 (length es)) && nat_lt memory memories) h in
      let q = and_parts (is_rank (length es) && nat_lt 0 (length es)) (nat_lt memory memories) p.1 in
      extents scope es p.0 (and_parts (is_rank (length es)) (nat_lt 0 (length es)) q.0).0

  params_extents : (memories : ℕ) (scope : Scope) (ps : List Param) → are_params fields memories scope ps ≡ true → params_have_extents ps ≡ true
  params_extents memories scope [] h = refl
  params_extents memories scope (p ∷ ps) h =
      let inner = with_name scope p.binder (param_sort p.kind) in
      let k = (and_parts (is_new scope p.binder) (is_param_kind fields memories scope p.kind && are_params fields memories inner ps) h).1 in
      let j = and_parts (is_param_kind fields memories scope p.kind) (are_params fields memories inner ps) k in
      both_true (kind_has_extents p.kind) (params_have_extents ps) (kind_extents memories scope p.kind j.0) (params_extents memories inner ps j.1)

  -- ---- statements

  module _ (memories : ℕ) (callees : ℕ → Option Callee) where
    abbrev Keeps : Bool → Bool → Type 0
    Keeps e r = (e ≡ true) × (r ≡ true)

    mutual
      block_keeps : (scope : Scope) (root : ℕ → ℕ) (b : Block) → is_block fields memories callees scope root b ≡ true → Keeps (block_has_extents b) (block_keeps_rules b)
      block_keeps scope root end h = (refl, refl)
      block_keeps scope root (next a b) h =
          let p = and_parts (is_statement fields memories callees scope root a) (is_block fields memories callees (scope_after a scope) (roots_after a root) b) h in
          let x = statement_keeps scope root a p.0 in
          let y = block_keeps (scope_after a scope) (roots_after a root) b p.1 in
          (both_true (statement_has_extents a) (block_has_extents b) x.0 y.0, both_true (statement_keeps_rules a) (block_keeps_rules b) x.1 y.1)

      statement_keeps : (scope : Scope) (root : ℕ → ℕ) (a : Statement) → is_statement fields memories callees scope root a ≡ true → Keeps (statement_has_extents a) (statement_keeps_rules a)
      statement_keeps scope root (Assign x is e) h = (refl, refl)
      statement_keeps scope root (Reduce x is e) h = (refl, refl)
      statement_keeps scope root (Config f a) h = (refl, write_rules scope (fields f) a h)
      statement_keeps scope root Pass h = (refl, refl)
      statement_keeps scope root (If c a b) h =
          let p = and_parts (is_condition fields with_fields scope c) ((not (is_empty a) && (is_short a && is_short b)) && (is_block fields memories callees scope root a && is_block fields memories callees scope root b)) h in
          let q = and_parts (not (is_empty a) && (is_short a && is_short b)) (is_block fields memories callees scope root a && is_block fields memories callees scope root b) p.1 in
          let r = and_parts (is_block fields memories callees scope root a) (is_block fields memories callees scope root b) q.1 in
          let x = block_keeps scope root a r.0 in
          let y = block_keeps scope root b r.1 in
          let short = (and_parts (not (is_empty a)) (is_short a && is_short b) q.0).1 in (
            both_true (block_has_extents a) (block_has_extents b) x.0 y.0,
            both_true (condition_keeps_rules c) ((is_short a && is_short b) && (block_keeps_rules a && block_keeps_rules b)) (condition_rules with_fields scope c p.0) (both_true (is_short a && is_short b) (block_keeps_rules a && block_keeps_rules b) short (both_true (block_keeps_rules a) (block_keeps_rules b) x.1 y.1)),
          )
      statement_keeps scope root (For i lo hi b) h =
          let inner = with_name scope i (ControlName Index) in
          let p = (and_parts (is_new scope i) ((is_control fields plainly scope lo && is_control fields plainly scope hi) && ((not (is_empty b) && is_short b) && is_block fields memories callees inner root b)) h).1 in
          let q = and_parts (is_control fields plainly scope lo && is_control fields plainly scope hi) ((not (is_empty b) && is_short b) && is_block fields memories callees inner root b) p in
          let r = and_parts (not (is_empty b) && is_short b) (is_block fields memories callees inner root b) q.1 in
          let x = block_keeps inner root b r.1 in
          let short = (and_parts (not (is_empty b)) (is_short b) r.0).1 in
          (x.0, both_true (keeps_rules lo && keeps_rules hi) (is_short b && block_keeps_rules b) (sides plainly scope lo hi q.0) (both_true (is_short b) (block_keeps_rules b) short x.1))
      statement_keeps scope root (Alloc x cell es memory) h =
          let p = (and_parts (is_new scope x) (are_controls fields plainly scope es && (is_rank (length es) && nat_lt memory memories)) h).1 in
          let q = and_parts (are_controls fields plainly scope es) (is_rank (length es) && nat_lt memory memories) p in
          (extents scope es q.0 (and_parts (is_rank (length es)) (nat_lt memory memories) q.1).0, refl)
      statement_keeps scope root (View w x coords) h = (refl, refl)
      statement_keeps scope root (Call k args) h = (refl, refl)

pub well_formed_is_affine : WellFormedIsAffine
well_formed_is_affine fields memories callees p good =
    let scope = scope_of [] p.params in
    let body = block_keeps fields memories callees scope (λ x. x) p.body good.body in
    let short = (and_parts (not (is_empty p.body)) (is_short p.body) good.filled).1 in
    both_true (has_extents p) (list_all condition_keeps_rules p.asserts && (is_short p.body && block_keeps_rules p.body))
    (both_true (params_have_extents p.params) (block_has_extents p.body) (params_extents fields memories [] p.params good.params) body.0)
    (both_true (list_all condition_keeps_rules p.asserts) (is_short p.body && block_keeps_rules p.body) (all_conditions fields with_both scope p.asserts good.asserts) (both_true (is_short p.body) (block_keeps_rules p.body) short body.1))
