-- Blocks that keep the rules and fit are such as the C follows.
use Rattle.std.proofs.Common.{◌≡◌, ◌^◌, ◌==◌, ℕ, zero, suc, nat_le, nat_lt, Bool, true, false, not, ◌&&◌, ◌||◌, List, [], ◌∷◌, length, Option, Some, None, refl, sym, ap, ap₂, ◌∙◌, subst, arith, true≢false, ⊎_elim, eqb-true, eq-eqb, slice_get}
use Rattle.std.specs.List.{list_all}
use Rattle.std.proofs.lemmas.Bool.{and_parts}
use Rattle.exo_tree.specs.Tree.{Cell, I32, Kind, Index, Binder, Control, Datum, Coord, At, Span, Argument, ControlArg, ConditionArg, Whole, Window, Statement, Assign, Reduce, Config, Pass, If, For, Alloc, View, Call, Block, end, next, MemoryKind}
use Rattle.exo_tree.specs.Calls.{calls, is_call_of}
use Rattle.exo_meaning.specs.Calls.{Callee}
use Rattle.exo_meaning.specs.Scene.{updated}
use Rattle.exo_meaning.specs.Run.{roots_after}
use Rattle.exo_meaning.specs.Units.{Sort, ControlName, BufferName, Scope, sort_in, is_new, with_name, is_truth, has_rank, view_sort, spans, plainly, with_fields, with_strides, is_control, are_controls, is_condition, is_access, is_datum, is_coord, is_window, are_for, share_nothing_written, is_call, is_write, is_empty, is_short, scope_after, is_block, is_statement}
use Rattle.memory_kinds.specs.Homes.{Homes, homes_after}
use Rattle.c_tree.specs.Names.Binders.{binders_in, binders_of}
use Rattle.c_widths.specs.Magnitude.{magnitude, is_narrow}
use Rattle.c_widths.specs.Widths.{are_narrow, is_narrow_test, is_narrow_datum, is_narrow_setting, are_narrow_arguments, is_narrow_block, is_narrow_statement, fits_cells, fits_stack, with_bounds}
use Rattle.c_widths.specs.Raises.{Raises, IsCovered, StatementIsCovered, AreCoveredFrom}
use Rattle.c_tree.specs.CTree.{Name, Number64}
use Rattle.c_lowering.specs.Made.Lowered.{Naming, Form, NumberForm, TensorForm, WindowForm, Forms}
use Rattle.c_lowering.specs.Made.Lowered.{forms_after, without_lanes, numbers_with, row_strides}
use Rattle.c_lowering.specs.Made.Lowered.{window_strides, strides_in, at_spans, cell_in}
use Rattle.c_lowering.specs.Made.LoweredUnit.{in_condition, in_argument, in_arguments, in_statement}
use Rattle.c_lowering.specs.Made.LoweredUnit.{in_block}
use Rattle.c_unit_laws.specs.Follows.Simulation.{Ground}
use Rattle.c_unit_laws.specs.Follows.Good.{IsBuffer, AreGood, IsGoodDatum, IsGoodSetting}
use Rattle.c_unit_laws.specs.Follows.Good.{IsGoodBlock, IsGoodStatement, IsGoodCall, is_function}
use Rattle.c_unit_laws.proofs.Forms.{lanes_in, Stands, Fits, IsForm, wider, wider_number, form_by}
use Rattle.c_unit_laws.proofs.Expressions.{ReadsCells, good, all_good, of_cells, access, good_datum, good_coords, good_open, good_test}
use Rattle.c_unit_laws.proofs.Clear.{IsClear, IsClearStatement, AreClearArguments}
use Rattle.c_unit_laws.proofs.Arguments.{AreWithin, good_arguments}
use Rattle.c_unit_laws.proofs.Binders.{AreIn, front_in, rear_in, ScopeIn, AreNamed, fresh}

either : (a b : Bool) → b ≡ true → (a || b) ≡ true
either true b i = refl
either false b i = i

first_of : (a b c : Bool) → b ≡ true → (a || b || c) ≡ true
first_of a b c i = ap (λ t. t || c) (either a b i)

own_number : (n : ℕ) → (n == n) ≡ true
own_number n = eq-eqb n n refl

-- ---- a view's form

pub span_count : (cs : List Coord) (ts : List Number64) → length ts ≡ length cs → length (at_spans cs ts) ≡ spans cs
span_count [] ts e = refl
span_count (c ∷ cs) [] e = absurd (omega (arith, e))
span_count (At a ∷ cs) (t ∷ ts) e = span_count cs ts (omega (arith, e))
span_count (Span a b ∷ cs) (t ∷ ts) e = ap suc (span_count cs ts (omega (arith, e)))

pub window_count : (w : Name) (k n : ℕ) → length (window_strides w k n) ≡ n
window_count w k zero = refl
window_count w k (suc n) = ap suc (window_count w (suc k) n)

pub row_count : (ts : List Number64) → length (row_strides ts) ≡ length ts
row_count [] = refl
row_count (t ∷ ts) = ap suc (row_count ts)

pub dims_count : (naming : Naming) (strides : ℕ → ℕ → Number64) (ds : List Control) → length (numbers_with naming strides ds) ≡ length ds
dims_count naming strides [] = refl
dims_count naming strides (d ∷ ds) = ap suc (dims_count naming strides ds)

abbrev HasStrides : Naming → ℕ → Form → Cell → ℕ → Type 0
HasStrides naming x f cell rank = (cell_in f I32 ≡ cell) × (length (strides_in naming x f) ≡ rank)

by_form : (naming : Naming) (x : ℕ) (f : Form) (cell : Cell) (rank l : ℕ) → IsForm f cell rank l → HasStrides naming x f cell rank
by_form naming x f cell rank l h = ⊎_elim
    (λ w. subst (λ z. HasStrides naming x z cell rank) (sym w.0) (refl, window_count (naming.binder x) 0 rank))
    (λ t. subst (λ z. HasStrides naming x z cell rank) (sym t.1) (refl, row_count _ ∙ dims_count naming _ t.0 ∙ t.2))
    h

-- the form of a view of a buffer without lanes
view_stands : (naming : Naming) (x : ℕ) (l : ℕ) (o : Option Sort) (f : Form) (cs : List Coord) → Stands l o f → has_rank (length cs) o ≡ true → l ≡ 0
    → Stands l (Some (view_sort o (spans cs))) (WindowForm (cell_in f I32) (length (at_spans cs (strides_in naming x f))))
view_stands naming x l None f cs h k e = absurd (true≢false (sym k))
view_stands naming x l (Some (ControlName kind)) f cs h k e = absurd (true≢false (sym k))
view_stands naming x l (Some (BufferName cell rank dense)) f cs h k e =
    let s = by_form naming x f cell (length cs) l (subst (λ r. IsForm f cell r l) (sym (eqb-true (length cs) rank k)) (form_by l cell rank dense f h)) in
    (ap₂ WindowForm s.0 (span_count cs (strides_in naming x f) s.1), e)

module _ (g : Ground) (all : List Binder) (names : AreNamed g all) (fields : ℕ → Option Kind) (memories : ℕ) (kinds : List MemoryKind) (callees : ℕ → Option Callee) (given : Raises) where
  -- what is known of memories and of the procedures above
  pub record KnowsUnit : Type 0 where
    pub stack : (k : ℕ) (most : ℕ → ℕ) (dims : List Control) → fits_stack (slice_get kinds k) most dims ≡ true → (g.naming.memory k).stack ≡ true → fits_cells most (without_lanes (g.naming.memory k).lanes dims) ≡ true
    pub params : (k : ℕ) (c : Callee) → callees k ≡ Some c → c.procedure.params ≡ (g.naming.routine k).params
    pub within : (k : ℕ) (c : Callee) → callees k ≡ Some c → AreWithin (g.bounds k) (given k) 0 (g.naming.routine k).params

  module _ (knows : KnowsUnit) where
    abbrev lanes : Homes → ℕ → ℕ
    lanes home = lanes_in g.naming home

    -- a store in a cell
    store : (most : ℕ → ℕ) (home : Homes) (scope : Scope) (forms : Forms) → Fits (lanes home) scope forms → (x : ℕ) (is : List Control) (e : Datum) → (is_access fields scope x is && is_datum fields scope e) ≡ true → (lanes home x ≡ 0) × ReadsCells (lanes home) e → (are_narrow most is && is_narrow_datum most e) ≡ true → IsBuffer forms x (length is) × AreGood forms most is × IsGoodDatum forms most e
    store most home scope forms stand x is e h v k =
        let p = and_parts (is_access fields scope x is) (is_datum fields scope e) h in
        let q = and_parts (are_narrow most is) (is_narrow_datum most e) k in
        let a = access fields (lanes home) scope forms stand x is p.0 v.0 in
        (a.0, all_good fields (lanes home) scope forms stand most is a.1 q.0, good_datum fields (lanes home) scope forms stand most e p.1 v.1 q.1)

    -- what a field is set to
    setting : (most : ℕ → ℕ) (home : Homes) (scope : Scope) (forms : Forms) → Fits (lanes home) scope forms → (o : Option Kind) (a : Argument) → is_write fields scope o a ≡ true → is_narrow_setting most a ≡ true → ((f : ℕ) → in_argument f a ≡ true → g.declared f ≡ true) → IsGoodSetting g.declared forms most a
    setting most home scope forms stand None a h k c = absurd (true≢false (sym h))
    setting most home scope forms stand (Some kind) (ControlArg e) h k c =
        let p = and_parts (is_narrow most e) (nat_le (magnitude most e) (2 ^ 48)) k in
        (good_open fields (lanes home) scope forms stand g.declared with_strides most e (and_parts (not (is_truth kind)) (is_control fields with_strides scope e) h).1 c p.0, grind (arith, p.1))
    setting most home scope forms stand (Some kind) (ConditionArg d) h k c = good_test fields (lanes home) scope forms stand g.declared with_strides most d (and_parts (is_truth kind) (is_condition fields with_strides scope d) h).1 c k
    setting most home scope forms stand (Some kind) (Whole x) h k c = absurd (true≢false (sym h))
    setting most home scope forms stand (Some kind) (Window x coords) h k c = absurd (true≢false (sym h))

    call : (most : ℕ → ℕ) (home : Homes) (scope : Scope) (forms : Forms) (root : ℕ → ℕ) → Fits (lanes home) scope forms → (j : ℕ) (args : List Argument) (o : Option Callee) → callees j ≡ o → is_call fields scope root o args ≡ true → AreClearArguments (lanes home) (is_function (g.naming.routine j).template) (g.naming.routine j).params args → are_narrow_arguments most args ≡ true → AreCoveredFrom (given j) most 0 args → ((f : ℕ) → in_arguments f args ≡ true → g.declared f ≡ true) → g.called j ≡ true → IsGoodCall g forms most j args
    call most home scope forms root stand j args None e h v k w c u = absurd (true≢false (sym h))
    call most home scope forms root stand j args (Some callee) e h v k w c u =
        let p = and_parts (are_for fields scope callee.procedure.params args) (share_nothing_written fields callee.writes root callee.procedure.params args) h in
        (u, good_arguments fields (lanes home) scope forms stand g.declared most (g.bounds j) (given j) 0 (is_function (g.naming.routine j).template) (g.naming.routine j).params args (subst (λ ps. are_for fields scope ps args ≡ true) (knows.params j callee e) p.0) v c k w (knows.within j callee e))

    -- ---- behind a statement

    abbrev Later : Block → (ℕ → ℕ) → Homes → Scope → Forms → Type 0
    Later b most home scope forms = Fits (lanes home) scope forms → ScopeIn scope all → IsGoodBlock g forms most b

    -- what comes there, by what holds of any names
    rest : (most : ℕ → ℕ) (home : Homes) (scope : Scope) (forms : Forms) (root : ℕ → ℕ) (a : Statement) (b : Block) → Fits (lanes home) scope forms → ScopeIn scope all → AreIn (binders_of a) all → is_statement fields memories callees scope root a ≡ true → IsClearStatement g.naming home a → Later b most (homes_after home a) (scope_after a scope) (forms_after g.naming a forms) → IsGoodBlock g (forms_after g.naming a forms) most b
    rest most home scope forms root (Assign x is e) b stand inside own h v go = go stand inside
    rest most home scope forms root (Reduce x is e) b stand inside own h v go = go stand inside
    rest most home scope forms root (Config f a) b stand inside own h v go = go stand inside
    rest most home scope forms root Pass b stand inside own h v go = go stand inside
    rest most home scope forms root (If d a1 a2) b stand inside own h v go = go stand inside
    rest most home scope forms root (For i lo hi a) b stand inside own h v go = go stand inside
    rest most home scope forms root (Alloc x cell dims memory) b stand inside own h v go =
        go (wider g.naming home scope forms x (BufferName cell (length dims) true) (TensorForm cell dims (g.naming.memory memory).lanes) memory stand (dims, refl, refl, v.0)) (own.0, inside)
    rest most home scope forms root (View w x coords) b stand inside own h v go =
        let p = and_parts (is_new scope w) (is_window fields scope x coords && nat_lt 0 (spans coords)) h in
        let q = and_parts (is_window fields scope x coords) (nat_lt 0 (spans coords)) p.1 in
        let r = and_parts (has_rank (length coords) (sort_in scope x)) (list_all (is_coord fields scope) coords) q.0 in
        go (wider g.naming home scope forms w (view_sort (sort_in scope x) (spans coords)) (WindowForm (cell_in (forms x) I32) (length (at_spans coords (strides_in g.naming x (forms x))))) (home x) stand
        (view_stands g.naming x (lanes home x) (sort_in scope x) (forms x) coords (stand x) r.0 v)) (own.0, inside)
    rest most home scope forms root (Call j args) b stand inside own h v go = go stand inside

    -- ---- trees

    mutual
      pub good_block : (most : ℕ → ℕ) (home : Homes) (scope : Scope) (forms : Forms) (root : ℕ → ℕ) (b : Block) → Fits (lanes home) scope forms → ScopeIn scope all → AreIn (binders_in b) all → is_block fields memories callees scope root b ≡ true → IsClear g.naming home b → is_narrow_block kinds most b ≡ true → IsCovered given most b → ((f : ℕ) → in_block f b ≡ true → g.declared f ≡ true) → ((j : ℕ) → calls j b ≡ true → g.called j ≡ true) → IsGoodBlock g forms most b
      good_block most home scope forms root end stand inside binders h v k w c u = tt
      good_block most home scope forms root (next a b) stand inside binders h v k w c u =
          let p = and_parts (is_statement fields memories callees scope root a) (is_block fields memories callees (scope_after a scope) (roots_after a root) b) h in
          let r = and_parts (is_narrow_statement kinds most a) (is_narrow_block kinds most b) k in
          let own = front_in (binders_of a) (binders_in b) all binders in (
            good_statement most home scope forms root a stand inside own p.0 v.0 r.0 w.0 (λ f e. c f (ap (λ t. t || in_block f b) e)) (λ j e. u j (ap (λ t. t || calls j b) e)),
            rest most home scope forms root a b stand inside own p.0 v.0 (λ fit within. good_block most (homes_after home a) (scope_after a scope) (forms_after g.naming a forms) (roots_after a root) b fit within (rear_in (binders_of a) (binders_in b) all binders) p.1 v.1 r.1 w.1 (λ f e. c f (either (in_statement f a) (in_block f b) e)) (λ j e. u j (either (is_call_of j a) (calls j b) e))),
          )

      good_statement : (most : ℕ → ℕ) (home : Homes) (scope : Scope) (forms : Forms) (root : ℕ → ℕ) (a : Statement) → Fits (lanes home) scope forms → ScopeIn scope all → AreIn (binders_of a) all → is_statement fields memories callees scope root a ≡ true → IsClearStatement g.naming home a → is_narrow_statement kinds most a ≡ true → StatementIsCovered given most a → ((f : ℕ) → in_statement f a ≡ true → g.declared f ≡ true) → ((j : ℕ) → is_call_of j a ≡ true → g.called j ≡ true) → IsGoodStatement g forms most a
      good_statement most home scope forms root (Assign x is e) stand inside own h v k w c u = store most home scope forms stand x is e h v k
      good_statement most home scope forms root (Reduce x is e) stand inside own h v k w c u = store most home scope forms stand x is e h v k
      good_statement most home scope forms root (Config f a) stand inside own h v k w c u =
          let known = c f (ap (λ t. t || in_argument f a) (own_number f)) in
          (setting most home scope forms stand (fields f) a h k (λ m e. c m (either (m == f) (in_argument m a) e)), known, names.alone f known)
      good_statement most home scope forms root Pass stand inside own h v k w c u = tt
      good_statement most home scope forms root (If d a b) stand inside own h v k w c u =
          let p = and_parts (is_condition fields with_fields scope d) _ h in
          let blocks = and_parts (not (is_empty a) && (is_short a && is_short b)) _ p.1 in
          let q = and_parts (is_block fields memories callees scope root a) (is_block fields memories callees scope root b) blocks.1 in
          let n = and_parts (is_narrow_test most d && is_narrow_block kinds most a) (is_narrow_block kinds most b) k in
          let m = and_parts (is_narrow_test most d) (is_narrow_block kinds most a) n.0 in (
            good_test fields (lanes home) scope forms stand g.declared with_fields most d p.0 (λ f e. c f (ap (λ t. t || in_block f a || in_block f b) e)) m.0,
            good_block most home scope forms root a stand inside (front_in (binders_in a) (binders_in b) all own) q.0 v.0 m.1 w.0 (λ f e. c f (first_of (in_condition f d) (in_block f a) (in_block f b) e)) (λ j e. u j (ap (λ t. t || calls j b) e)),
            good_block most home scope forms root b stand inside (rear_in (binders_in a) (binders_in b) all own) q.1 v.1 n.1 w.1 (λ f e. c f (either (in_condition f d || in_block f a) (in_block f b) e)) (λ j e. u j (either (calls j a) (calls j b) e)),
          )
      good_statement most home scope forms root (For i lo hi b) stand inside own h v k w c u =
          let p = and_parts (is_new scope i) _ h in
          let q = and_parts (is_control fields plainly scope lo && is_control fields plainly scope hi) _ p.1 in
          let bounds = and_parts (is_control fields plainly scope lo) (is_control fields plainly scope hi) q.0 in
          let body = and_parts (not (is_empty b) && is_short b) _ q.1 in
          let n = and_parts (is_narrow most lo && is_narrow most hi) _ k in
          let widths = and_parts (is_narrow most lo) (is_narrow most hi) n.0 in (
            good fields (lanes home) scope forms stand most lo bounds.0 widths.0,
            good fields (lanes home) scope forms stand most hi bounds.1 widths.1,
            fresh g all names (lanes home) scope forms i stand inside own.0 p.0,
            good_block (with_bounds most i.id lo hi) home (with_name scope i (ControlName Index)) (updated forms i.id NumberForm) root b (wider_number (lanes home) scope forms i Index stand) (own.0, inside) own.1 body.1 v n.1 w c u,
          )
      good_statement most home scope forms root (Alloc x cell dims memory) stand inside own h v k w c u =
          let p = and_parts (is_new scope x) _ h in
          let q = and_parts (are_controls fields plainly scope dims) _ p.1 in
          let n = and_parts (are_narrow most dims) (fits_stack (slice_get kinds memory) most dims) k in
          (all_good fields (lanes home) scope forms stand most dims q.0 n.0, fresh g all names (lanes home) scope forms x stand inside own.0 p.0, record { last = v.0; literals = v.1; small = knows.stack memory most dims n.1 })
      good_statement most home scope forms root (View y x coords) stand inside own h v k w c u =
          let p = and_parts (is_new scope y) (is_window fields scope x coords && nat_lt 0 (spans coords)) h in
          let q = and_parts (is_window fields scope x coords) (nat_lt 0 (spans coords)) p.1 in
          let r = and_parts (has_rank (length coords) (sort_in scope x)) (list_all (is_coord fields scope) coords) q.0 in
          (of_cells fields (lanes home) scope forms stand x (length coords) r.0 v, good_coords fields (lanes home) scope forms stand most coords r.1 k, grind (arith, q.1), fresh g all names (lanes home) scope forms y stand inside own.0 p.0)
      good_statement most home scope forms root (Call j args) stand inside own h v k w c u = call most home scope forms root stand j args (callees j) refl h v k w c (u j (own_number j))
