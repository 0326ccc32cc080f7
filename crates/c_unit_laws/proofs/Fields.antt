-- A field that a procedure of a unit reads or writes is there.
use Rattle.std.proofs.Common.{◌≡◌, ◌<◌, ◌==◌, ℕ, nat_lt, Bool, true, false, not, ◌&&◌, ◌||◌, List, [], ◌∷◌, length, Option, Some, None, refl, sym, ap, ◌∙◌, arith, true≢false, eqb-true, ⊎_elim}
use Rattle.std.proofs.lemmas.Option.{slice_get_cases}
use Rattle.std.proofs.lemmas.Bool.{and_parts}
use Rattle.exo_tree.specs.Tree.{Kind, Control, Lit, Var, Field, StrideOf, Neg, Add, Sub, Mul, Div, Mod, Condition, True, False, Flag, FieldFlag, Lt, Le, Gt, Ge, Eq, And, Or, Argument, ControlArg, ConditionArg, Whole, Window, Statement, Assign, Reduce, Config, Pass, If, For, Alloc, View, Call, Block, end, next, Param, ParamKind, ControlParam, TensorParam, WindowParam, ConfigField}
use Rattle.exo_meaning.specs.Calls.{Callee}
use Rattle.exo_meaning.specs.Run.{roots_after}
use Rattle.exo_meaning.specs.Units.{Scope, Reads, plainly, with_fields, with_strides, with_both, is_truth, is_of_literals, is_number_field, is_flag_field, is_control, is_condition, is_of_kind, is_for, are_for, share_nothing_written, is_call, is_write, is_new, is_empty, is_short, scope_after, is_block, is_statement, field_kind}
use Rattle.c_lowering.specs.Made.LoweredUnit.{in_control, in_condition, in_argument, in_arguments}
use Rattle.c_lowering.specs.Made.LoweredUnit.{in_statement, in_block}

-- a field of that number is there
pub is_there : (fields : List ConfigField) (f : ℕ) → (field_kind fields f ≡ None → ⊥) → nat_lt f (length fields) ≡ true
is_there fields f h = ⊎_elim (λ e. below e.1) (λ e. absurd (h (ap (λ o. elim o [ None ↦ None | Some field ↦ Some field.kind ]) e.1))) (slice_get_cases fields f).1
  where
    below : f < length fields → nat_lt f (length fields) ≡ true
    below e = grind arith

either_there : {P : Type 0} (a b : Bool) → (a || b) ≡ true → (a ≡ true → P) → (b ≡ true → P) → P
either_there true b h f g = f refl
either_there false b h f g = g h

module _ (fields : ℕ → Option Kind) (f : ℕ) where
  abbrev There : Type 0
  There = fields f ≡ None → ⊥

  number_there : (g : ℕ) → (f == g) ≡ true → is_number_field fields (fields g) ≡ true → There
  number_there g e h none = true≢false (sym h ∙ ap (λ z. is_number_field fields (fields z)) (sym (eqb-true f g e)) ∙ ap (is_number_field fields) none)

  flag_there : (g : ℕ) → (f == g) ≡ true → is_flag_field fields (fields g) ≡ true → There
  flag_there g e h none = true≢false (sym h ∙ ap (λ z. is_flag_field fields (fields z)) (sym (eqb-true f g e)) ∙ ap (is_flag_field fields) none)

  module _ (may : Reads) (scope : Scope) where
    control_there : (e : Control) → is_control fields may scope e ≡ true → in_control f e ≡ true → There
    control_there (Lit n) h k = absurd (true≢false (sym k))
    control_there (Var x) h k = absurd (true≢false (sym k))
    control_there (Field g) h k = number_there g k (and_parts may.fields (is_number_field fields (fields g)) h).1
    control_there (StrideOf x n) h k = absurd (true≢false (sym k))
    control_there (Neg a) h k = control_there a h k
    control_there (Add a b) h k = let p = and_parts (is_control fields may scope a) (is_control fields may scope b) h in either_there (in_control f a) (in_control f b) k (control_there a p.0) (control_there b p.1)
    control_there (Sub a b) h k = let p = and_parts (is_control fields may scope a) (is_control fields may scope b) h in either_there (in_control f a) (in_control f b) k (control_there a p.0) (control_there b p.1)
    control_there (Mul a b) h k =
        let q = and_parts (is_control fields may scope a && is_control fields may scope b) (is_of_literals a || is_of_literals b) h in
        let p = and_parts (is_control fields may scope a) (is_control fields may scope b) q.0 in either_there (in_control f a) (in_control f b) k (control_there a p.0) (control_there b p.1)
    control_there (Div a c) h k = control_there a (and_parts (is_control fields may scope a) _ h).0 k
    control_there (Mod a c) h k = control_there a (and_parts (is_control fields may scope a) _ h).0 k

    both_there : (a b : Control) → (is_control fields may scope a && is_control fields may scope b) ≡ true → (in_control f a || in_control f b) ≡ true → There
    both_there a b h k = let p = and_parts (is_control fields may scope a) (is_control fields may scope b) h in either_there (in_control f a) (in_control f b) k (control_there a p.0) (control_there b p.1)

    condition_there : (c : Condition) → is_condition fields may scope c ≡ true → in_condition f c ≡ true → There
    condition_there True h k = absurd (true≢false (sym k))
    condition_there False h k = absurd (true≢false (sym k))
    condition_there (Flag x) h k = absurd (true≢false (sym k))
    condition_there (FieldFlag g) h k = flag_there g k (and_parts may.fields (is_flag_field fields (fields g)) h).1
    condition_there (Lt a b) h k = both_there a b h k
    condition_there (Le a b) h k = both_there a b h k
    condition_there (Gt a b) h k = both_there a b h k
    condition_there (Ge a b) h k = both_there a b h k
    condition_there (Eq a b) h k = both_there a b h k
    condition_there (And a b) h k = let p = and_parts (is_condition fields may scope a) (is_condition fields may scope b) h in either_there (in_condition f a) (in_condition f b) k (condition_there a p.0) (condition_there b p.1)
    condition_there (Or a b) h k = let p = and_parts (is_condition fields may scope a) (is_condition fields may scope b) h in either_there (in_condition f a) (in_condition f b) k (condition_there a p.0) (condition_there b p.1)

    argument_there : (kind : Kind) (a : Argument) → is_of_kind fields may scope kind a ≡ true → in_argument f a ≡ true → There
    argument_there kind (ControlArg c) i j = control_there c (and_parts (not (is_truth kind)) (is_control fields may scope c) i).1 j
    argument_there kind (ConditionArg c) i j = condition_there c (and_parts (is_truth kind) (is_condition fields may scope c) i).1 j
    argument_there kind (Whole x) i j = absurd (true≢false (sym j))
    argument_there kind (Window x coords) i j = absurd (true≢false (sym j))

  -- a field that is set
  set_there : (scope : Scope) (g : ℕ) (o : Option Kind) (a : Argument) → fields g ≡ o → is_write fields scope o a ≡ true → ((f == g) || in_argument f a) ≡ true → There
  set_there scope g None a e h k = absurd (true≢false (sym h))
  set_there scope g (Some kind) a e h k = either_there (f == g) (in_argument f a) k (λ d none. some_none (sym e ∙ ap fields (sym (eqb-true f g d)) ∙ none)) (argument_there with_strides scope kind a h)
    where
      some_none : Some kind ≡ None → ⊥
      some_none d = cc

  -- ---- calls

  given_there : (scope : Scope) (kind : ParamKind) (a : Argument) → is_for fields scope kind a ≡ true → in_argument f a ≡ true → There
  given_there scope (ControlParam kind) a h k = argument_there with_both scope kind a h k
  given_there scope (TensorParam cell dims memory) (ControlArg a) h k = absurd (true≢false (sym h))
  given_there scope (TensorParam cell dims memory) (ConditionArg c) h k = absurd (true≢false (sym h))
  given_there scope (TensorParam cell dims memory) (Whole x) h k = absurd (true≢false (sym k))
  given_there scope (TensorParam cell dims memory) (Window x coords) h k = absurd (true≢false (sym k))
  given_there scope (WindowParam cell dims memory) (ControlArg a) h k = absurd (true≢false (sym h))
  given_there scope (WindowParam cell dims memory) (ConditionArg c) h k = absurd (true≢false (sym h))
  given_there scope (WindowParam cell dims memory) (Whole x) h k = absurd (true≢false (sym k))
  given_there scope (WindowParam cell dims memory) (Window x coords) h k = absurd (true≢false (sym k))

  all_there : (scope : Scope) (ps : List Param) (args : List Argument) → are_for fields scope ps args ≡ true → in_arguments f args ≡ true → There
  all_there scope ps [] h k = absurd (true≢false (sym k))
  all_there scope [] (a ∷ args) h k = absurd (true≢false (sym h))
  all_there scope (p ∷ ps) (a ∷ args) h k =
      let q = and_parts (is_for fields scope p.kind a) (are_for fields scope ps args) h in
      either_there (in_argument f a) (in_arguments f args) k (given_there scope p.kind a q.0) (all_there scope ps args q.1)

  call_there : (scope : Scope) (root : ℕ → ℕ) (o : Option Callee) (args : List Argument) → is_call fields scope root o args ≡ true → in_arguments f args ≡ true → There
  call_there scope root None args h k = absurd (true≢false (sym h))
  call_there scope root (Some c) args h k = all_there scope c.procedure.params args (and_parts (are_for fields scope c.procedure.params args) (share_nothing_written fields c.writes root c.procedure.params args) h).0 k

  -- ---- trees

  module _ (memories : ℕ) (callees : ℕ → Option Callee) where
    mutual
      pub block_there : (scope : Scope) (root : ℕ → ℕ) (b : Block) → is_block fields memories callees scope root b ≡ true → in_block f b ≡ true → There
      block_there scope root end h k = absurd (true≢false (sym k))
      block_there scope root (next a b) h k =
          let p = and_parts (is_statement fields memories callees scope root a) (is_block fields memories callees (scope_after a scope) (roots_after a root) b) h in
          either_there (in_statement f a) (in_block f b) k (statement_there scope root a p.0) (block_there (scope_after a scope) (roots_after a root) b p.1)

      statement_there : (scope : Scope) (root : ℕ → ℕ) (a : Statement) → is_statement fields memories callees scope root a ≡ true → in_statement f a ≡ true → There
      statement_there scope root (Assign x is e) h k = absurd (true≢false (sym k))
      statement_there scope root (Reduce x is e) h k = absurd (true≢false (sym k))
      statement_there scope root (Config g a) h k = set_there scope g (fields g) a refl h k
      statement_there scope root Pass h k = absurd (true≢false (sym k))
      statement_there scope root (If c a b) h k =
          let p = and_parts (is_condition fields with_fields scope c) _ h in
          let blocks = and_parts (not (is_empty a) && (is_short a && is_short b)) _ p.1 in
          let q = and_parts (is_block fields memories callees scope root a) (is_block fields memories callees scope root b) blocks.1 in
          either_there (in_condition f c || in_block f a) (in_block f b) k (λ e. either_there (in_condition f c) (in_block f a) e (condition_there with_fields scope c p.0) (block_there scope root a q.0)) (block_there scope root b q.1)
      statement_there scope root (For i lo hi b) h k =
          let p = and_parts (is_new scope i) _ h in
          let q = and_parts (is_control fields plainly scope lo && is_control fields plainly scope hi) _ p.1 in
          let r = and_parts (not (is_empty b) && is_short b) _ q.1 in
          block_there _ root b r.1 k
      statement_there scope root (Alloc x cell dims memory) h k = absurd (true≢false (sym k))
      statement_there scope root (View w x coords) h k = absurd (true≢false (sym k))
      statement_there scope root (Call j args) h k = call_there scope root (callees j) args h k
