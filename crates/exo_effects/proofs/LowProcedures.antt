-- A well-formed procedure is affine, over variables below 2^31.
use Rattle.std.proofs.Common.{◌≡◌, ◌^◌, ℕ, ◌==◌, Bool, true, not, false, ◌&&◌, ◌||◌, int_lt, nat_lt, pos, List, [], ◌∷◌, ◌++◌, length, map, Option, Some, None, refl, sym, ap, ◌∙◌, ap₂, true≢false, arith}
use Rattle.std.proofs.lemmas.Bool.Decides.{nat_tests}
use Rattle.std.specs.Prelude.{if◌then◌else◌}
use Rattle.std.specs.List.{list_all}
use Rattle.std.specs.Int.{is_positive}
use Rattle.exo_tree.specs.Tree.{Kind, Index, Binder, Control, Lit, Var, Field, StrideOf, Neg, Add, Sub, Mul, Div, Mod, Condition, True, False, Flag, FieldFlag, Lt, Le, Gt, Ge, Eq, And, Or, Datum, Const, Read, Negated, Relu, Plus, Minus, Times, Select, Coord, At, Span, Argument, ControlArg, ConditionArg, Whole, Window, Statement, Assign, Reduce, Config, Pass, If, For, Alloc, View, Call, Block, end, next, Param, ParamKind, ControlParam, TensorParam, WindowParam}
use Rattle.exo_meaning.specs.Binders.{binders, step_binders}
use Rattle.exo_meaning.specs.Calls.{Callee}
use Rattle.meaning_laws.proofs.Parts.{none_some}
use Rattle.exo_meaning.specs.Run.{roots_after}
use Rattle.exo_meaning.specs.Units as units
use Rattle.exo_meaning.specs.Units.{Scope, Sort, ControlName, BufferName, is_flag, view_sort, Reads, plainly, with_fields, sort_in, has_rank, has_cell, is_dense, is_of_literals, is_literal_number, is_control, are_controls, is_condition, is_access, is_datum, is_coord, is_window, is_for, are_for, share_nothing_written, is_rank, is_new, is_empty, is_short, spans, scope_of, scope_after, with_name, param_sort, is_param_kind, are_params, is_block, is_statement, IsProcedure}
use Rattle.affine_forms.proofs.Values.{and_parts}
use Rattle.exo_effects.specs.Low.{is_low, condition_is_low, coord_is_low, datum_is_low, argument_is_low, kind_is_low, block_is_low, statement_is_low, LowLaw}

pub both_true : (a b : Bool) → a ≡ true → b ≡ true → (a && b) ≡ true
both_true a b h k = ap₂ ◌&&◌ h k

-- where each part of the first gives one of the second
pub from_parts : (a b c d : Bool) → (a ≡ true → c ≡ true) → (b ≡ true → d ≡ true) → (a && b) ≡ true → (c && d) ≡ true
from_parts a b c d f g h = let p = and_parts a b h in both_true c d (f p.0) (g p.1)

pub all_from : {X : Type 0} (f g : X → Bool) → ((x : X) → f x ≡ true → g x ≡ true) → (xs : List X) → list_all f xs ≡ true → list_all g xs ≡ true
all_from f g h [] e = refl
all_from f g h (x ∷ xs) e = from_parts (f x) (list_all f xs) (g x) (list_all g xs) (h x) (all_from f g h xs) e

-- ---- the names in scope

abbrev low_id : ℕ → Bool
low_id x = nat_lt x (2 ^ 31)

abbrev AreLow : Scope → Type 0
AreLow scope = (x : ℕ) (s : Sort) → sort_in scope x ≡ Some s → low_id x ≡ true

same_id : (x y : ℕ) → (x == y) ≡ true → x ≡ y
same_id x y e = grind (arith, nat_tests)

none_low : AreLow []
none_low x s e = absurd (none_some e)

with_low : (scope : Scope) (b : Binder) (sort : Sort) → AreLow scope → low_id b.id ≡ true → AreLow (with_name scope b sort)
with_low scope b sort g h x s e = by_test (x == b.id) refl e
  where
    by_test : (t : Bool) → (x == b.id) ≡ t → (if t then Some sort else sort_in scope x) ≡ Some s → low_id x ≡ true
    by_test true f e = ap low_id (same_id x b.id f) ∙ h
    by_test false f e = g x s e

params_low : (scope : Scope) (ps : List Param) → AreLow scope → list_all low_id (map (λ q. q.binder.id) ps) ≡ true → AreLow (scope_of scope ps)
params_low scope [] g h = g
params_low scope (p ∷ ps) g h =
    let q = and_parts (low_id p.binder.id) (list_all low_id (map (λ q. q.binder.id) ps)) h in
    params_low (with_name scope p.binder (param_sort p.kind)) ps (with_low scope p.binder (param_sort p.kind) g q.0) q.1

after_low : (a : Statement) (scope : Scope) → AreLow scope → list_all low_id (step_binders a) ≡ true → AreLow (scope_after a scope)
after_low (Assign x is e) scope g h = g
after_low (Reduce x is e) scope g h = g
after_low (Config f a) scope g h = g
after_low Pass scope g h = g
after_low (If c a b) scope g h = g
after_low (For i lo hi b) scope g h = g
after_low (Alloc x cell dims memory) scope g h = with_low scope x (BufferName cell (length dims) true) g (and_parts (low_id x.id) true h).0
after_low (View w x coords) scope g h = with_low scope w (view_sort (sort_in scope x) (spans coords)) g (and_parts (low_id w.id) true h).0
after_low (Call k args) scope g h = g

numbered : (o : Option Sort) → units.is_number o ≡ true → (s : Sort) × (o ≡ Some s)
numbered None h = absurd (true≢false (sym h))
numbered (Some s) h = (s, refl)

flagged : (o : Option Sort) → is_flag o ≡ true → (s : Sort) × (o ≡ Some s)
flagged None h = absurd (true≢false (sym h))
flagged (Some s) h = (s, refl)

all_parts : (xs ys : List ℕ) → list_all low_id (xs ++ ys) ≡ true → (list_all low_id xs ≡ true) × (list_all low_id ys ≡ true)
all_parts [] ys h = (refl, h)
all_parts (x ∷ xs) ys h =
    let p = and_parts (low_id x) (list_all low_id (xs ++ ys)) h in
    let q = all_parts xs ys p.1 in
    (both_true (low_id x) (list_all low_id xs) p.0 q.0, q.1)

module _ (fields : ℕ → Option Kind) where
  module _ (may : Reads) (scope : Scope) (low : AreLow scope) where
    abbrev is_good : Control → Bool
    is_good = is_control fields may scope

    rules : (e : Control) → is_good e ≡ true → is_low e ≡ true
    rules (Lit n) h = refl
    rules (Var x) h = let p = numbered (sort_in scope x) h in low x p.0 p.1
    rules (Field f) h = refl
    rules (StrideOf x k) h = refl
    rules (Neg a) h = rules a h
    rules (Add a b) h = from_parts (is_good a) (is_good b) (is_low a) (is_low b) (rules a) (rules b) h
    rules (Sub a b) h = from_parts (is_good a) (is_good b) (is_low a) (is_low b) (rules a) (rules b) h
    rules (Mul a b) h =
        let p = and_parts (is_good a && is_good b) (is_of_literals a || is_of_literals b) h in
        both_true (is_of_literals a || is_of_literals b) (is_low a && is_low b) p.1
        (from_parts (is_good a) (is_good b) (is_low a) (is_low b) (rules a) (rules b) p.0)
    rules (Div a c) h =
        let p = and_parts (is_good a) (is_literal_number c && int_lt (pos 0) c) h in
        both_true (is_positive c) (is_low a) (and_parts (is_literal_number c) (int_lt (pos 0) c) p.1).1 (rules a p.0)
    rules (Mod a c) h =
        let p = and_parts (is_good a) (is_literal_number c && int_lt (pos 0) c) h in
        both_true (is_positive c) (is_low a) (and_parts (is_literal_number c) (int_lt (pos 0) c) p.1).1 (rules a p.0)

    all_rules : (es : List Control) → are_controls fields may scope es ≡ true → list_all is_low es ≡ true
    all_rules es h = all_from is_good is_low rules es h

    sides : (a b : Control) → (is_good a && is_good b) ≡ true → (is_low a && is_low b) ≡ true
    sides a b h = from_parts (is_good a) (is_good b) (is_low a) (is_low b) (rules a) (rules b) h

    condition_rules : (c : Condition) → is_condition fields may scope c ≡ true → condition_is_low c ≡ true
    condition_rules True h = refl
    condition_rules False h = refl
    condition_rules (Flag x) h = let p = flagged (sort_in scope x) h in low x p.0 p.1
    condition_rules (FieldFlag f) h = refl
    condition_rules (Lt a b) h = sides a b h
    condition_rules (Le a b) h = sides a b h
    condition_rules (Gt a b) h = sides a b h
    condition_rules (Ge a b) h = sides a b h
    condition_rules (Eq a b) h = sides a b h
    condition_rules (And c d) h = from_parts (is_condition fields may scope c) (is_condition fields may scope d) (condition_is_low c) (condition_is_low d) (condition_rules c) (condition_rules d) h
    condition_rules (Or c d) h = from_parts (is_condition fields may scope c) (is_condition fields may scope d) (condition_is_low c) (condition_is_low d) (condition_rules c) (condition_rules d) h

  module _ (scope : Scope) (low : AreLow scope) where
    indices : (x : ℕ) (is : List Control) → is_access fields scope x is ≡ true → list_all is_low is ≡ true
    indices x is h = all_rules plainly scope low is (and_parts (has_rank (length is) (sort_in scope x)) (are_controls fields plainly scope is) h).1

    abbrev is_number : Datum → Bool
    is_number = is_datum fields scope

    data_rules : (e : Datum) → is_number e ≡ true → datum_is_low e ≡ true
    data_rules (Const n) h = refl
    data_rules (Read x is) h = indices x is h
    data_rules (Negated a) h = data_rules a h
    data_rules (Relu a) h = data_rules a h
    data_rules (Plus a b) h = from_parts (is_number a) (is_number b) (datum_is_low a) (datum_is_low b) (data_rules a) (data_rules b) h
    data_rules (Minus a b) h = from_parts (is_number a) (is_number b) (datum_is_low a) (datum_is_low b) (data_rules a) (data_rules b) h
    data_rules (Times a b) h = from_parts (is_number a) (is_number b) (datum_is_low a) (datum_is_low b) (data_rules a) (data_rules b) h
    data_rules (Select a b c d) h =
        from_parts (is_number a && is_number b) (is_number c && is_number d) (datum_is_low a && datum_is_low b) (datum_is_low c && datum_is_low d)
        (from_parts (is_number a) (is_number b) (datum_is_low a) (datum_is_low b) (data_rules a) (data_rules b))
        (from_parts (is_number c) (is_number d) (datum_is_low c) (datum_is_low d) (data_rules c) (data_rules d))
        h

    coord_rules : (c : Coord) → is_coord fields scope c ≡ true → coord_is_low c ≡ true
    coord_rules (At a) h = rules plainly scope low a h
    coord_rules (Span a b) h = sides plainly scope low a b h

    window_rules : (x : ℕ) (cs : List Coord) → is_window fields scope x cs ≡ true → list_all coord_is_low cs ≡ true
    window_rules x cs h = all_from (is_coord fields scope) coord_is_low coord_rules cs (and_parts (has_rank (length cs) (sort_in scope x)) (list_all (is_coord fields scope) cs) h).1

    argument_rules : (kind : ParamKind) (a : Argument) → is_for fields scope kind a ≡ true → argument_is_low a ≡ true
    argument_rules kind (ControlArg e) h = refl
    argument_rules kind (ConditionArg c) h = refl
    argument_rules kind (Whole x) h = refl
    argument_rules (ControlParam kind) (Window x cs) h = absurd (true≢false (sym h))
    argument_rules (TensorParam cell dims memory) (Window x cs) h =
        let rank = length dims in
        let p = and_parts (has_cell cell (sort_in scope x)) (is_window fields scope x cs && ((rank == 0) && ((spans cs == 0) && not (length cs == 0)))) h in
        window_rules x cs (and_parts (is_window fields scope x cs) ((rank == 0) && ((spans cs == 0) && not (length cs == 0))) p.1).0
    argument_rules (WindowParam cell dims memory) (Window x cs) h =
        let p = and_parts (has_cell cell (sort_in scope x)) (is_window fields scope x cs && (length dims == spans cs)) h in
        window_rules x cs (and_parts (is_window fields scope x cs) (length dims == spans cs) p.1).0

    arguments_rules : (ps : List Param) (args : List Argument) → are_for fields scope ps args ≡ true → list_all argument_is_low args ≡ true
    arguments_rules [] [] h = refl
    arguments_rules [] (a ∷ args) h = absurd (true≢false (sym h))
    arguments_rules (p ∷ ps) [] h = refl
    arguments_rules (p ∷ ps) (a ∷ args) h =
        from_parts (is_for fields scope p.kind a) (are_for fields scope ps args) (argument_is_low a) (list_all argument_is_low args)
        (argument_rules p.kind a) (arguments_rules ps args) h

    call_rules : (root : ℕ → ℕ) (callee : Option Callee) (args : List Argument) → units.is_call fields scope root callee args ≡ true → list_all argument_is_low args ≡ true
    call_rules root None args h = absurd (true≢false (sym h))
    call_rules root (Some callee) args h =
        arguments_rules callee.procedure.params args
        (and_parts (are_for fields scope callee.procedure.params args) (share_nothing_written fields callee.writes root callee.procedure.params args) h).0

  -- ---- parameters

  module _ (memories : ℕ) where
    kind_rules : (scope : Scope) → AreLow scope → (kind : ParamKind) → is_param_kind fields memories scope kind ≡ true → kind_is_low kind ≡ true
    kind_rules scope low (ControlParam kind) h = refl
    kind_rules scope low (TensorParam cell es memory) h = all_rules plainly scope low es (and_parts (are_controls fields plainly scope es) (is_rank (length es) && nat_lt memory memories) h).0
    kind_rules scope low (WindowParam cell es memory) h = all_rules plainly scope low es (and_parts (are_controls fields plainly scope es) ((is_rank (length es) && nat_lt 0 (length es)) && nat_lt memory memories) h).0

    params_rules : (scope : Scope) → AreLow scope → (ps : List Param) → list_all low_id (map (λ q. q.binder.id) ps) ≡ true → are_params fields memories scope ps ≡ true → list_all (λ q. kind_is_low q.kind) ps ≡ true
    params_rules scope low [] ids h = refl
    params_rules scope low (p ∷ ps) ids h =
        let inner = with_name scope p.binder (param_sort p.kind) in
        let k = (and_parts (is_new scope p.binder) (is_param_kind fields memories scope p.kind && are_params fields memories inner ps) h).1 in
        let q = and_parts (low_id p.binder.id) (list_all low_id (map (λ q. q.binder.id) ps)) ids in
        from_parts (is_param_kind fields memories scope p.kind) (are_params fields memories inner ps) (kind_is_low p.kind) (list_all (λ q. kind_is_low q.kind) ps)
        (kind_rules scope low p.kind) (params_rules inner (with_low scope p.binder (param_sort p.kind) low q.0) ps q.1) k

  -- ---- statements

  module _ (memories : ℕ) (callees : ℕ → Option Callee) where
    mutual
      block_rules : (scope : Scope) → AreLow scope → (root : ℕ → ℕ) (b : Block) → list_all low_id (binders b) ≡ true → is_block fields memories callees scope root b ≡ true → block_is_low b ≡ true
      block_rules scope low root end ids h = refl
      block_rules scope low root (next a b) ids h =
          let q = all_parts (step_binders a) (binders b) ids in
          from_parts (is_statement fields memories callees scope root a) (is_block fields memories callees (scope_after a scope) (roots_after a root) b) (statement_is_low a) (block_is_low b)
          (statement_rules scope low root a q.0) (block_rules (scope_after a scope) (after_low a scope low q.0) (roots_after a root) b q.1) h

      statement_rules : (scope : Scope) → AreLow scope → (root : ℕ → ℕ) (a : Statement) → list_all low_id (step_binders a) ≡ true → is_statement fields memories callees scope root a ≡ true → statement_is_low a ≡ true
      statement_rules scope low root (Assign x is e) ids h =
          from_parts (is_access fields scope x is) (is_datum fields scope e) (list_all is_low is) (datum_is_low e) (indices scope low x is) (data_rules scope low e) h
      statement_rules scope low root (Reduce x is e) ids h =
          from_parts (is_access fields scope x is) (is_datum fields scope e) (list_all is_low is) (datum_is_low e) (indices scope low x is) (data_rules scope low e) h
      statement_rules scope low root (Config f a) ids h = refl
      statement_rules scope low root Pass ids h = refl
      statement_rules scope low root (If c a b) ids h =
          let inner = is_block fields memories callees scope root a && is_block fields memories callees scope root b in
          let p = and_parts (is_condition fields with_fields scope c) ((not (is_empty a) && (is_short a && is_short b)) && inner) h in
          let q = and_parts (not (is_empty a) && (is_short a && is_short b)) inner p.1 in
          let r = all_parts (binders a) (binders b) ids in
          both_true (condition_is_low c) (block_is_low a && block_is_low b) (condition_rules with_fields scope low c p.0)
          (from_parts (is_block fields memories callees scope root a) (is_block fields memories callees scope root b) (block_is_low a) (block_is_low b)
          (block_rules scope low root a r.0) (block_rules scope low root b r.1) q.1)
      statement_rules scope low root (For i lo hi b) ids h =
          let under = with_name scope i (ControlName Index) in
          let bounds = is_control fields plainly scope lo && is_control fields plainly scope hi in
          let rest = (not (is_empty b) && is_short b) && is_block fields memories callees under root b in
          let p = and_parts (is_new scope i) (bounds && rest) h in
          let q = and_parts bounds rest p.1 in
          let r = and_parts (low_id i.id) (list_all low_id (binders b)) ids in
          both_true (low_id i.id) ((is_low lo && is_low hi) && block_is_low b) r.0
          (both_true (is_low lo && is_low hi) (block_is_low b) (sides plainly scope low lo hi q.0)
          (block_rules under (with_low scope i (ControlName Index) low r.0) root b r.1
          (and_parts (not (is_empty b) && is_short b) (is_block fields memories callees under root b) q.1).1))
      statement_rules scope low root (Alloc x cell es memory) ids h =
          let p = (and_parts (is_new scope x) (are_controls fields plainly scope es && (is_rank (length es) && nat_lt memory memories)) h).1 in
          all_rules plainly scope low es (and_parts (are_controls fields plainly scope es) (is_rank (length es) && nat_lt memory memories) p).0
      statement_rules scope low root (View w x cs) ids h =
          let p = (and_parts (is_new scope w) (is_window fields scope x cs && nat_lt 0 (spans cs)) h).1 in
          window_rules scope low x cs (and_parts (is_window fields scope x cs) (nat_lt 0 (spans cs)) p).0
      statement_rules scope low root (Call k args) ids h = call_rules scope low root (callees k) args h

pub well_formed_is_low : LowLaw
well_formed_is_low fields memories callees p good =
    let ids = all_parts (map (λ q. q.binder.id) p.params) (binders p.body) good.ids in
    both_true (list_all (λ q. kind_is_low q.kind) p.params) (block_is_low p.body)
    (params_rules fields memories [] none_low p.params ids.0 good.params)
    (block_rules fields memories callees (scope_of [] p.params) (params_low [] p.params none_low ids.0) (λ x. x) p.body ids.1 good.body)
