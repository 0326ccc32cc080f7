-- The structs that functions name are those of windows with one to eight dimensions, and all of these that are named are printed.
use Rattle.std.proofs.Common.{◌≡◌, ◌≤◌, ◌<◌, ◌==◌, ◌+◌, ◌++◌, ℕ, zero, suc, nat_lt, ℤ, Bool, true, false, not, ◌&&◌, ◌||◌, cond, List, [], ◌∷◌, map, length, Option, Some, None, refl, sym, ap, ap₂, ◌∙◌, subst, arith, true≢false, eqb-true, eq-eqb, ⊎_elim, slice_get}
use Rattle.std.specs.Prelude.{⊤}
use Rattle.std.specs.List.{list_any}
use Rattle.std.proofs.lemmas.Bool.{and_parts, and_from}
use Rattle.exo_tree.specs.Tree.{Cell, I8, I16, I32, Ui8, Kind, Index, Control, Coord, At, Span, Argument, ControlArg, ConditionArg, Whole, Window, Param, ParamKind, ControlParam, TensorParam, WindowParam, Statement, Assign, Reduce, Config, Pass, If, For, Alloc, View, Call, Block, end, next, Procedure, Program}
use Rattle.exo_tree.specs.Calls.{calls}
use Rattle.exo_tree.specs.Cells.{same_itself, same_cell_is}
use Rattle.exo_meaning.specs.Scene.{updated}
use Rattle.exo_meaning.specs.Calls.{Callee}
use Rattle.exo_meaning.specs.Run.{roots_after}
use Rattle.exo_meaning.specs.Units.{ControlName, Scope, with_name, scope_of, scope_after, param_sort, is_new, is_rank, is_control, plainly, is_short, is_empty as is_empty_block, same_cell, spans, field_kind, is_param_kind, are_params, is_block, is_statement, IsUnit}
use Rattle.memory_kinds.specs.Faults.{fault_of}
use Rattle.c_tree.specs.CTree.{Name, Number64, Actual, Element, Piece, CStatement, Free, CBlock, stop, first, followed_by, CFunction, StructOf}
use Rattle.c_lowering.specs.Made.Lowered.{Hole, Naming, Form, NoForm, NumberForm, TensorForm}
use Rattle.c_lowering.specs.Made.Lowered.{WindowForm, Forms, form_of, param_forms, forms_after}
use Rattle.c_lowering.specs.Made.Lowered.{whole_window, strides_in, row_strides, at_spans, dims_of}
use Rattle.c_lowering.specs.Made.Lowered.{cell_in, actual_of, actuals_of, piece_of, called_by}
use Rattle.c_lowering.specs.Made.Lowered.{allocated, element_of, stack_count, product_of}
use Rattle.c_lowering.specs.Made.Lowered.{without_lanes, is_empty, block_of}
use Rattle.c_lowering.specs.Made.LoweredUnit.{Printing, routine_of, formal_of, formals_of}
use Rattle.c_lowering.specs.Made.LoweredUnit.{function_of, function_at, functions_of, is_struct}
use Rattle.c_lowering.specs.Made.LoweredUnit.{in_actual, struct_in_block, struct_in, in_formal}
use Rattle.c_lowering.specs.Made.LoweredUnit.{names_struct, struct_at, structs_of_rank}
use Rattle.c_lowering.specs.Made.LoweredUnit.{structs_from, all_structs, kept_structs, is_listed}
use Rattle.c_lowering.specs.Made.LoweredUnit.{global_names, lowered}
use Rattle.c_unit_laws.specs.Follows.Simulation.{Ground}
use Rattle.c_unit_laws.specs.Follows.Good.{IsAnyBuffer, IsGoodBlock, IsGoodArgument}
use Rattle.c_unit_laws.specs.Follows.Good.{AreGoodArguments, is_function}
use Rattle.c_unit_laws.specs.Follows.Grounds.{bounds_in, naming_of, world_above, printed_ground}
use Rattle.c_unit_laws.specs.Follows.Units.{AreLowered}
use Rattle.c_unit_laws.specs.FreeNames.{NamedStructsArePrinted}
use Rattle.c_unit_laws.proofs.Blocks.{span_count, window_count, row_count, dims_count}
use Rattle.c_unit_laws.proofs.FreeNames.{or_parts, function_of_list}
use Rattle.c_unit_laws.proofs.Listed.{listed_here}
use Rattle.c_unit_laws.proofs.Standing.{none_some, some_same}
use Rattle.c_unit_laws.proofs.Units.{rules, printed_procedures_are_good}

-- ---- ranks

abbrev IsSmall : ℕ → Type 0
IsSmall rank = (0 < rank) × (rank < 9)

rank_small : (n : ℕ) → is_rank n ≡ true → n < 9
rank_small n h = grind (arith, h)

above_none : (n : ℕ) → nat_lt 0 n ≡ true → 0 < n
above_none n h = grind (arith, h)

-- what is a struct of that rank has it
struct_small : (rank : ℕ) (cell : Cell) (s : StructOf) → IsSmall rank → is_struct rank cell s ≡ true → IsSmall s.rank
struct_small rank cell s h e = subst IsSmall (eqb-true rank s.rank (and_parts (rank == s.rank) (same_cell cell s.cell) e).0) h

spans_fewer : (cs : List Coord) → spans cs ≤ length cs
spans_fewer [] = omega arith
spans_fewer (At a ∷ cs) = let r = spans_fewer cs in omega (arith, r)
spans_fewer (Span a b ∷ cs) = let r = spans_fewer cs in omega (arith, r)

below_nine : (a b : ℕ) → a ≤ b → b < 9 → a < 9
below_nine a b h k = omega (arith, h, k)

-- ---- forms of few dimensions

abbrev IsShort : Form → Type 0
IsShort NoForm = ⊤
IsShort NumberForm = ⊤
IsShort (TensorForm cell dims lanes) = length dims < 9
IsShort (WindowForm cell rank) = rank < 9

abbrev AreShort : Forms → Type 0
AreShort forms = (x : ℕ) → IsShort (forms x)

one_more : (forms : Forms) (i : ℕ) (f : Form) → IsShort f → AreShort forms → AreShort (updated forms i f)
one_more forms i f h k x = go (x == i)
  where
    go : (t : Bool) → IsShort (cond t f (forms x))
    go true = h
    go false = k x

abbrev IsShortKind : ParamKind → Type 0
IsShortKind (ControlParam kind) = ⊤
IsShortKind (TensorParam cell dims memory) = length dims < 9
IsShortKind (WindowParam cell dims memory) = IsSmall (length dims)

abbrev AreShortParams : List Param → Type 0
AreShortParams [] = ⊤
AreShortParams (p ∷ ps) = IsShortKind p.kind × AreShortParams ps

kind_forms : (kind : ParamKind) → IsShortKind kind → IsShort (form_of kind)
kind_forms (ControlParam kind) h = tt
kind_forms (TensorParam cell dims memory) h = h
kind_forms (WindowParam cell dims memory) h = h.1

params_short : (ps : List Param) → AreShortParams ps → AreShort (param_forms ps)
params_short [] h x = tt
params_short (p ∷ ps) h x = go (params_short ps h.1 x) (x == p.binder.id)
  where
    go : IsShort (param_forms ps x) → (t : Bool) → IsShort (cond t (form_of p.kind) (param_forms ps x))
    go later true = kind_forms p.kind h.0
    go later false = later

module _ (fields : ℕ → Option Kind) (memories : ℕ) where
  kind_rule : (scope : Scope) (kind : ParamKind) → is_param_kind fields memories scope kind ≡ true → IsShortKind kind
  kind_rule scope (ControlParam kind) h = tt
  kind_rule scope (TensorParam cell dims memory) h =
      let p = and_parts _ (is_rank (length dims) && nat_lt memory memories) h in
      rank_small (length dims) (and_parts (is_rank (length dims)) (nat_lt memory memories) p.1).0
  kind_rule scope (WindowParam cell dims memory) h =
      let p = and_parts _ ((is_rank (length dims) && nat_lt 0 (length dims)) && nat_lt memory memories) h in
      let q = and_parts (is_rank (length dims)) (nat_lt 0 (length dims)) (and_parts (is_rank (length dims) && nat_lt 0 (length dims)) (nat_lt memory memories) p.1).0 in
      (above_none (length dims) q.1, rank_small (length dims) q.0)

  params_rule : (scope : Scope) (ps : List Param) → are_params fields memories scope ps ≡ true → AreShortParams ps
  params_rule scope [] h = tt
  params_rule scope (p ∷ ps) h =
      let a = and_parts (is_new scope p.binder) _ h in
      let b = and_parts (is_param_kind fields memories scope p.kind) _ a.1 in
      (kind_rule scope p.kind b.0, params_rule (with_name scope p.binder (param_sort p.kind)) ps b.1)

-- ---- strides of a buffer

strides_count : (naming : Naming) (x : ℕ) (forms : Forms) (cell : Cell) (rank lanes : ℕ) → IsAnyBuffer forms x cell rank lanes → length (strides_in naming x (forms x)) ≡ rank
strides_count naming x forms cell rank lanes h =
    ⊎_elim
    (λ w. ap (λ f. length (strides_in naming x f)) w.0 ∙ window_count (naming.binder x) 0 rank)
    (λ t. ap (λ f. length (strides_in naming x f)) t.1 ∙ (row_count (dims_of naming t.0) ∙ (dims_count naming _ t.0 ∙ t.2)))
    h

buffer_short : (x : ℕ) (forms : Forms) (cell : Cell) (rank lanes : ℕ) → IsAnyBuffer forms x cell rank lanes → AreShort forms → rank < 9
buffer_short x forms cell rank lanes h short =
    ⊎_elim
    (λ w. subst IsShort w.0 (short x))
    (λ t. subst (λ n. n < 9) t.2 (subst IsShort t.1 (short x)))
    h

-- ---- blocks

unfreed : (s : StructOf) (x : Name) (c : CBlock) → struct_in_block s (followed_by c (first (Free x) stop)) ≡ true → struct_in_block s c ≡ true
unfreed s x stop h = h
unfreed s x (first a c) h = go (struct_in s a) h (unfreed s x c)
  where
    go : (t : Bool) → (t || struct_in_block s (followed_by c (first (Free x) stop))) ≡ true → (struct_in_block s (followed_by c (first (Free x) stop)) ≡ true → struct_in_block s c ≡ true) → (t || struct_in_block s c) ≡ true
    go true e rest = refl
    go false e rest = rest e

module _ (g : Ground) (known : (k : ℕ) → g.called k ≡ true → AreShortParams (g.naming.routine k).params) (s : StructOf) where
  no : false ≡ true → IsSmall s.rank
  no e = absurd (true≢false (sym e))

  whole_struct : (forms : Forms) (function : Bool) (x : ℕ) (cell : Cell) (rank lanes : ℕ) → IsAnyBuffer forms x cell rank lanes → IsSmall rank → in_actual s (whole_window g.naming x cell (forms x)) ≡ true → IsSmall s.rank
  whole_struct forms function x cell rank lanes any small e =
      ⊎_elim
      (λ w. no (sym (ap (λ f. in_actual s (whole_window g.naming x cell f)) w.0) ∙ e))
      (λ t. struct_small (length (row_strides (dims_of g.naming t.0))) cell s
      (subst IsSmall (sym (row_count (dims_of g.naming t.0) ∙ (dims_count g.naming _ t.0 ∙ t.2))) small)
      (sym (ap (λ f. in_actual s (whole_window g.naming x cell f)) t.1) ∙ e))
      any

  argument_struct : (forms : Forms) (most : ℕ → ℕ) (bound : ℕ) (function : Bool) (kind : ParamKind) (a : Argument) → IsShortKind kind → IsGoodArgument g.declared forms most bound function kind a → in_actual s (actual_of g.naming forms kind a) ≡ true → IsSmall s.rank
  argument_struct forms most bound function (ControlParam kind) (ControlArg a) short good e = no e
  argument_struct forms most bound function (ControlParam kind) (ConditionArg c) short good e = no e
  argument_struct forms most bound function (TensorParam cell ds memory) (ControlArg a) short good e = no e
  argument_struct forms most bound function (TensorParam cell ds memory) (ConditionArg c) short good e = no e
  argument_struct forms most bound function (WindowParam cell ds memory) (ControlArg a) short good e = absurd good
  argument_struct forms most bound function (WindowParam cell ds memory) (ConditionArg c) short good e = absurd good
  argument_struct forms most bound function (ControlParam kind) (Whole x) short good e = no e
  argument_struct forms most bound function (ControlParam kind) (Window x cs) short good e = no e
  argument_struct forms most bound function (TensorParam cell [] memory) (Whole x) short good e = no e
  argument_struct forms most bound function (TensorParam cell (d ∷ ds) memory) (Whole x) short good e = no e
  argument_struct forms most bound function (TensorParam cell ds memory) (Window x cs) short good e = no e
  argument_struct forms most bound function (WindowParam cell ds memory) (Whole x) short good e = whole_struct forms function x cell (length ds) good.0 good.1 short e
  argument_struct forms most bound function (WindowParam cell ds memory) (Window x cs) short good e =
      let count = span_count cs (strides_in g.naming x (forms x)) (strides_count g.naming x forms cell (length cs) good.0 good.1) ∙ good.4 in
      struct_small (length (at_spans cs (strides_in g.naming x (forms x)))) cell s (subst IsSmall (sym count) short) e

  arguments_struct : (forms : Forms) (most bounds : ℕ → ℕ) (function : Bool) (ps : List Param) (args : List Argument) → AreShortParams ps → AreGoodArguments g.declared forms most bounds function ps args → list_any (in_actual s) (actuals_of g.naming forms ps args) ≡ true → IsSmall s.rank
  arguments_struct forms most bounds function [] [] short good e = no e
  arguments_struct forms most bounds function [] (a ∷ args) short good e = absurd good
  arguments_struct forms most bounds function (p ∷ ps) [] short good e = absurd good
  arguments_struct forms most bounds function (p ∷ ps) (a ∷ args) short good e =
      or_parts (in_actual s (actual_of g.naming forms p.kind a)) (list_any (in_actual s) (actuals_of g.naming forms ps args)) e
      (λ h. argument_struct forms most (bounds p.binder.id) function p.kind a short.0 good.0 h)
      (λ h. arguments_struct forms most bounds function ps args short.1 good.1 h)

  call_struct : (k : ℕ) (f : Name) (template : Option (List Hole)) (fill : Hole → Piece) (args : List Actual) → struct_in s (called_by k f template fill args) ≡ true → list_any (in_actual s) args ≡ true
  call_struct k f None fill args e = e
  call_struct k f (Some holes) fill args e = absurd (true≢false (sym e))

  allocated_struct : (on_stack : Bool) (element : Element) (x : Name) (n : ℤ) (amount : Number64) (rest : CBlock) → struct_in_block s (allocated on_stack element x n amount rest) ≡ true → struct_in_block s rest ≡ true
  allocated_struct true element x n amount rest e = e
  allocated_struct false element x n amount rest e = unfreed s x rest e

  module _ (fields : ℕ → Option Kind) (memories : ℕ) (callees : ℕ → Option Callee) where
    abbrev IsRule : Scope → (ℕ → ℕ) → Block → Type 0
    IsRule scope root b = is_block fields memories callees scope root b ≡ true

    block_struct : (forms : Forms) (most : ℕ → ℕ) (scope : Scope) (root : ℕ → ℕ) (b : Block) → AreShort forms → IsGoodBlock g forms most b → IsRule scope root b → struct_in_block s (block_of g.naming forms b) ≡ true → IsSmall s.rank
    block_struct forms most scope root end short good rule e = no e
    block_struct forms most scope root (next (Assign x is d) b) short good rule e = block_struct forms most _ _ b short good.1 (and_parts (is_statement fields memories callees scope root (Assign x is d)) _ rule).1 e
    block_struct forms most scope root (next (Reduce x is d) b) short good rule e = block_struct forms most _ _ b short good.1 (and_parts (is_statement fields memories callees scope root (Reduce x is d)) _ rule).1 e
    block_struct forms most scope root (next (Config f a) b) short good rule e = block_struct forms most _ _ b short good.1 (and_parts (is_statement fields memories callees scope root (Config f a)) _ rule).1 e
    block_struct forms most scope root (next Pass b) short good rule e = block_struct forms most _ _ b short good.1 rule e
    block_struct forms most scope root (next (If c a d) b) short good rule e =
        let r = and_parts (is_statement fields memories callees scope root (If c a d)) _ rule in
        let inner = and_parts _ (is_block fields memories callees scope root a && is_block fields memories callees scope root d) (and_parts _ _ r.0).1 in
        let both = and_parts (is_block fields memories callees scope root a) (is_block fields memories callees scope root d) inner.1 in
        or_parts (struct_in_block s (block_of g.naming forms a) || struct_in_block s (block_of g.naming forms d)) (struct_in_block s (block_of g.naming forms b)) e
        (λ h. or_parts (struct_in_block s (block_of g.naming forms a)) (struct_in_block s (block_of g.naming forms d)) h
        (λ i. block_struct forms most scope root a short good.0.1 both.0 i)
        (λ i. block_struct forms most scope root d short good.0.2 both.1 i))
        (λ h. block_struct forms most scope root b short good.1 r.1 h)
    block_struct forms most scope root (next (For i lo hi d) b) short good rule e =
        let r = and_parts (is_statement fields memories callees scope root (For i lo hi d)) _ rule in
        let p = and_parts (is_new scope i) _ r.0 in
        let q = and_parts (is_control fields plainly scope lo && is_control fields plainly scope hi) _ p.1 in
        let inner = and_parts (not (is_empty_block d) && is_short d) (is_block fields memories callees (with_name scope i (ControlName Index)) root d) q.1 in
        or_parts (struct_in_block s (block_of g.naming (updated forms i.id NumberForm) d)) (struct_in_block s (block_of g.naming forms b)) e
        (λ h. block_struct (updated forms i.id NumberForm) _ _ root d (one_more forms i.id NumberForm tt short) good.0.3 inner.1 h)
        (λ h. block_struct forms most scope root b short good.1 r.1 h)
    block_struct forms most scope root (next (Alloc x cell dims memory) b) short good rule e =
        let r = and_parts (is_statement fields memories callees scope root (Alloc x cell dims memory)) _ rule in
        let q = and_parts (is_rank (length dims)) (nat_lt memory memories) (and_parts _ (is_rank (length dims) && nat_lt memory memories) (and_parts _ _ r.0).1).1 in
        let m = g.naming.memory memory in
        let own = without_lanes m.lanes dims in
        let later = forms_after g.naming (Alloc x cell dims memory) forms in
        block_struct later most _ _ b (one_more forms x.id (TensorForm cell dims m.lanes) (rank_small (length dims) q.0) short) good.1 r.1
        (allocated_struct (m.stack || is_empty dims) (element_of m cell) (g.naming.binder x.id) (stack_count own) (product_of (dims_of g.naming own)) (block_of g.naming later b) e)
    block_struct forms most scope root (next (View w x cs) b) short good rule e =
        let r = and_parts (is_statement fields memories callees scope root (View w x cs)) _ rule in
        let later = forms_after g.naming (View w x cs) forms in
        let rank = length (at_spans cs (strides_in g.naming x (forms x))) in
        let count : rank ≡ spans cs = span_count cs (strides_in g.naming x (forms x)) (strides_count g.naming x forms good.0.0.0 (length cs) 0 good.0.0.1) in
        let fewer = spans_fewer cs in
        let all = buffer_short x forms good.0.0.0 (length cs) 0 good.0.0.1 short in
        let above = good.0.2 in
        let small : IsSmall rank = (subst (λ n. 0 < n) (sym count) above, subst (λ n. n < 9) (sym count) (below_nine (spans cs) (length cs) fewer all)) in
        or_parts (is_struct rank (cell_in (forms x) I32) s) (struct_in_block s (block_of g.naming later b)) e
        (λ h. struct_small rank (cell_in (forms x) I32) s small h)
        (λ h. block_struct later most _ _ b (one_more forms w.id (WindowForm (cell_in (forms x) I32) rank) small.1 short) good.1 r.1 h)
    block_struct forms most scope root (next (Call k args) b) short good rule e =
        let r = and_parts (is_statement fields memories callees scope root (Call k args)) _ rule in
        let params = (g.naming.routine k).params in
        let actuals = actuals_of g.naming forms params args in
        or_parts (struct_in s (called_by k (g.naming.routine k).name (g.naming.routine k).template (piece_of g.naming forms params args) actuals)) (struct_in_block s (block_of g.naming forms b)) e
        (λ h. arguments_struct forms most (g.bounds k) (is_function (g.naming.routine k).template) params args (known k good.0.0) good.0.1 (call_struct k (g.naming.routine k).name (g.naming.routine k).template (piece_of g.naming forms params args) actuals h))
        (λ h. block_struct forms most scope root b short good.1 r.1 h)

formals_struct : (naming : Naming) (s : StructOf) (ps : List Param) → AreShortParams ps → list_any (in_formal s) (formals_of naming ps) ≡ true → IsSmall s.rank
formals_struct naming s [] short e = absurd (true≢false (sym e))
formals_struct naming s (p ∷ ps) short e = go (λ i. formals_struct naming s ps short.1 i) p.kind short.0 e
  where
    go : (list_any (in_formal s) (formals_of naming ps) ≡ true → IsSmall s.rank) → (kind : ParamKind) → IsShortKind kind → (in_formal s (formal_of kind (naming.binder p.binder.id)) || list_any (in_formal s) (formals_of naming ps)) ≡ true → IsSmall s.rank
    go later (ControlParam kind) h i = later i
    go later (TensorParam cell dims memory) h i = later i
    go later (WindowParam cell dims memory) h i = or_parts (is_struct (length dims) cell s) (list_any (in_formal s) (formals_of naming ps)) i (λ j. struct_small (length dims) cell s h j) later

-- ---- the structs that are printed

either : (a b : Bool) → b ≡ true → (a || b) ≡ true
either true b i = refl
either false b i = i

first_is : (a b : Bool) → a ≡ true → (a || b) ≡ true
first_is true b i = refl
first_is false b i = absurd (true≢false (sym i))

own_struct : (rank : ℕ) (cell : Cell) → is_struct rank cell (struct_at rank cell) ≡ true
own_struct rank cell = and_from (rank == rank) (same_cell cell cell) (eq-eqb rank rank refl) (same_itself cell)

any_front : (f : StructOf → Bool) (xs ys : List StructOf) → list_any f xs ≡ true → list_any f (xs ++ ys) ≡ true
any_front f [] ys h = absurd (true≢false (sym h))
any_front f (x ∷ xs) ys h = go (f x) h (any_front f xs ys)
  where
    go : (t : Bool) → (t || list_any f xs) ≡ true → (list_any f xs ≡ true → list_any f (xs ++ ys) ≡ true) → (t || list_any f (xs ++ ys)) ≡ true
    go true e rest = refl
    go false e rest = rest e

any_rear : (f : StructOf → Bool) (xs ys : List StructOf) → list_any f ys ≡ true → list_any f (xs ++ ys) ≡ true
any_rear f [] ys h = h
any_rear f (x ∷ xs) ys h = either (f x) (list_any f (xs ++ ys)) (any_rear f xs ys h)

of_rank : (rank : ℕ) (cell : Cell) → list_any (is_struct rank cell) (structs_of_rank rank) ≡ true
of_rank rank I8 = first_is (is_struct rank I8 (struct_at rank I8)) (list_any (is_struct rank I8) (struct_at rank I16 ∷ struct_at rank I32 ∷ struct_at rank Ui8 ∷ [])) (own_struct rank I8)
of_rank rank I16 = either (is_struct rank I16 (struct_at rank I8)) (list_any (is_struct rank I16) (struct_at rank I16 ∷ struct_at rank I32 ∷ struct_at rank Ui8 ∷ []))
    (first_is (is_struct rank I16 (struct_at rank I16)) (list_any (is_struct rank I16) (struct_at rank I32 ∷ struct_at rank Ui8 ∷ [])) (own_struct rank I16))
of_rank rank I32 = either (is_struct rank I32 (struct_at rank I8)) (list_any (is_struct rank I32) (struct_at rank I16 ∷ struct_at rank I32 ∷ struct_at rank Ui8 ∷ []))
    (either (is_struct rank I32 (struct_at rank I16)) (list_any (is_struct rank I32) (struct_at rank I32 ∷ struct_at rank Ui8 ∷ []))
    (first_is (is_struct rank I32 (struct_at rank I32)) (list_any (is_struct rank I32) (struct_at rank Ui8 ∷ [])) (own_struct rank I32)))
of_rank rank Ui8 = either (is_struct rank Ui8 (struct_at rank I8)) (list_any (is_struct rank Ui8) (struct_at rank I16 ∷ struct_at rank I32 ∷ struct_at rank Ui8 ∷ []))
    (either (is_struct rank Ui8 (struct_at rank I16)) (list_any (is_struct rank Ui8) (struct_at rank I32 ∷ struct_at rank Ui8 ∷ []))
    (either (is_struct rank Ui8 (struct_at rank I32)) (list_any (is_struct rank Ui8) (struct_at rank Ui8 ∷ []))
    (first_is (is_struct rank Ui8 (struct_at rank Ui8)) false (own_struct rank Ui8))))

from_rank : (n k rank : ℕ) (cell : Cell) → k ≤ rank → rank < k + n → list_any (is_struct rank cell) (structs_from n k) ≡ true
from_rank zero k rank cell h i = absurd (omega (arith, h, i))
from_rank (suc n) k rank cell h i = go (λ a b. from_rank n (suc k) rank cell a b) (rank == k) refl
  where
    go : (suc k ≤ rank → rank < suc k + n → list_any (is_struct rank cell) (structs_from n (suc k)) ≡ true) → (t : Bool) → (rank == k) ≡ t → list_any (is_struct rank cell) (structs_of_rank k ++ structs_from n (suc k)) ≡ true
    go later true e = any_front (is_struct rank cell) (structs_of_rank k) (structs_from n (suc k)) (subst (λ r. list_any (is_struct rank cell) (structs_of_rank r) ≡ true) (eqb-true rank k e) (of_rank rank cell))
    go later false e = any_rear (is_struct rank cell) (structs_of_rank k) (structs_from n (suc k)) (later (grind (arith, h, e)) (omega (arith, i)))

-- a struct that is named is kept
module _ (fs : List CFunction) (s : StructOf) (named : list_any (names_struct s) fs ≡ true) where
  same_named : (t : StructOf) → is_struct s.rank s.cell t ≡ true → list_any (names_struct t) fs ≡ true
  same_named t h =
      let p = and_parts (s.rank == t.rank) (same_cell s.cell t.cell) h in
      subst (λ z. list_any (names_struct z) fs ≡ true) (both s t (eqb-true s.rank t.rank p.0) (same_cell_is s.cell t.cell p.1)) named
    where
      both : (a b : StructOf) → a.rank ≡ b.rank → a.cell ≡ b.cell → a ≡ b
      both a b h k = ap₂ (λ r c. record { rank = r; cell = c }) h k

  kept : (all : List StructOf) → list_any (is_struct s.rank s.cell) all ≡ true → list_any (is_struct s.rank s.cell) (kept_structs fs all) ≡ true
  kept [] h = h
  kept (t ∷ all) h = go (λ i. kept all i) (list_any (names_struct t) fs) refl
    where
      go : (list_any (is_struct s.rank s.cell) all ≡ true → list_any (is_struct s.rank s.cell) (kept_structs fs all) ≡ true) → (b : Bool) → list_any (names_struct t) fs ≡ b → list_any (is_struct s.rank s.cell) (cond b (t ∷ kept_structs fs all) (kept_structs fs all)) ≡ true
      go later true e = or_parts (is_struct s.rank s.cell t) (list_any (is_struct s.rank s.cell) all) h
          (λ i. ap (λ c. c || list_any (is_struct s.rank s.cell) (kept_structs fs all)) i)
          (λ i. either (is_struct s.rank s.cell t) (list_any (is_struct s.rank s.cell) (kept_structs fs all)) (later i))
      go later false e = or_parts (is_struct s.rank s.cell t) (list_any (is_struct s.rank s.cell) all) h
          (λ i. absurd (true≢false (sym (same_named t i) ∙ e)))
          later

named_there : (s : StructOf) (fs : List CFunction) (i : ℕ) (f : CFunction) → slice_get fs i ≡ Some f → names_struct s f ≡ true → list_any (names_struct s) fs ≡ true
named_there s [] zero f e h = absurd (none_some e)
named_there s [] (suc i) f e h = absurd (none_some e)
named_there s (f ∷ fs) zero d e h = ap (λ b. b || list_any (names_struct s) fs) (ap (names_struct s) (some_same e) ∙ h)
named_there s (f ∷ fs) (suc i) d e h = either (names_struct s f) (list_any (names_struct s) fs) (named_there s fs i d e h)

-- ---- files

module _ (program : Program) (what : List Printing) (unit : IsUnit program) (lowers : AreLowered fault_of program what) where
  abbrev fields : ℕ → Option Kind
  fields = field_kind program.fields

  abbrev memories : ℕ
  memories = length program.memories

  procedure_params : (k : ℕ) (p : Procedure) → slice_get program.procedures k ≡ Some p → AreShortParams p.params
  procedure_params k p at = params_rule fields memories [] p.params (rules program what unit lowers k p at).params

  routine_params : (k : ℕ) → AreShortParams (routine_of (slice_get program.procedures k)).params
  routine_params k = go (slice_get program.procedures k) refl
    where
      go : (o : Option Procedure) → slice_get program.procedures k ≡ o → AreShortParams (routine_of o).params
      go None e = tt
      go (Some p) e = procedure_params k p e

  function_struct : (k : ℕ) (p : Procedure) (s : StructOf) → slice_get program.procedures k ≡ Some p → is_listed what k ≡ true → names_struct s (function_of (naming_of program what p) p) ≡ true → IsSmall s.rank
  function_struct k p s at listed e =
      let g = printed_ground program what k p in
      let good = printed_procedures_are_good program what k p unit lowers at listed in
      let short = procedure_params k p at in
      or_parts (list_any (in_formal s) (formals_of (naming_of program what p) p.params)) (struct_in_block s (block_of (naming_of program what p) (param_forms p.params) p.body)) e
      (λ h. formals_struct (naming_of program what p) s p.params short h)
      (λ h. block_struct g (λ j u. routine_params j) s fields memories (world_above program k).callees (param_forms p.params) (bounds_in program what k) (scope_of [] p.params) (λ x. x) p.body (params_short p.params short) good.body (rules program what unit lowers k p at).body h)

pub named_structs_are_printed : NamedStructsArePrinted
named_structs_are_printed program what i f s unit lowers there e =
    let globals = global_names program what in
    let own = function_of_list program globals what i f there in
    let procedure = lowers.listing.there own.at own.printing own.there in
    let is : function_of (naming_of program what procedure.0) procedure.0 ≡ f = ap (λ o. function_at program globals o) (sym procedure.1) ∙ own.is in
    let small = function_struct program what unit lowers own.printing.proc procedure.0 s procedure.1 (listed_here what own.at own.printing own.there) (ap (names_struct s) is ∙ e) in
    let fs = functions_of program globals what in
    kept fs s (named_there s fs i f there e) all_structs (from_rank 8 1 s.rank s.cell (omega (arith, small.0)) (omega (arith, small.1)))
