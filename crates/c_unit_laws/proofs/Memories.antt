-- Where no rule on memories is broken, a block is clear of lanes.
use Rattle.std.proofs.Common.{◌≡◌, ◌-◌, ◌==◌, ℕ, zero, suc, ℤ, pos, nat_lt, Bool, true, false, not, ◌&&◌, ◌||◌, if◌then◌else◌, List, [], ◌∷◌, length, Option, Some, None, refl, sym, ap, ◌∙◌, subst, arith, true≢false, eqb-true, slice_get}
use Rattle.std.specs.List.{list_all}
use Rattle.std.specs.Ordering.{int_eq}
use Rattle.std.proofs.lemmas.Bool.{and_parts}
use Rattle.std.proofs.lemmas.Int.{ints}
use Rattle.exo_tree.specs.Tree.{Cell, Control, Lit, Var, Field, StrideOf, Neg, Add, Sub, Mul, Div, Mod, Datum, Const, Read, Negated, Relu, Plus, Minus, Times, Select, Coord, At, Span, Argument, ControlArg, ConditionArg, Whole, Window, Param, ParamKind, ControlParam, TensorParam, WindowParam, MemoryKind}
use Rattle.exo_meaning.specs.Units.{has_type, is_memory, is_literal}
use Rattle.memory_kinds.specs.declared.error.KindError.{KindError}
use Rattle.memory_kinds.specs.Homes.{Homes}
use Rattle.memory_kinds.specs.Faults.{fault_where, or_first, is_literal_of, are_literals, last_is_literal, is_full_span, last_is_full, has_lanes, takes, param_fault, alloc_fault, read_fault, write_fault, reduce_fault, view_fault, window_fault, in_memory, reads_fault, given_fault, argument_fault, arguments_fault, kind_fault, params_fault}
use Rattle.c_lowering.specs.Made.Lowered.{Memory, Naming}
use Rattle.c_lowering.specs.Made.LoweredUnit.{memory_of}
use Rattle.c_unit_laws.specs.Follows.Good.{EndsInSpan, EndsInLanes, AreLiterals}
use Rattle.c_unit_laws.proofs.Forms.{lanes_in}
use Rattle.c_unit_laws.proofs.Expressions.{ReadsCells}
use Rattle.c_unit_laws.proofs.Clear.{IsClearBuffer, IsClearArgument, AreClearArguments, SuitsMemory, IsClearKind, AreClearParams}

some_none : {A : Type 0} {a : A} → Some a ≡ None → ⊥
some_none e = cc

none_some : {A : Type 0} {a : A} → None ≡ Some a → ⊥
none_some e = cc

-- ---- no fault

pub both_none : (a b : Option KindError) → or_first a b ≡ None → (a ≡ None) × (b ≡ None)
both_none None b h = (refl, h)
both_none (Some e) b h = absurd (some_none h)

not_where : (t : Bool) (e : KindError) → fault_where t e ≡ None → t ≡ false
not_where false e h = refl
not_where true e h = absurd (some_none h)

is_true : (b : Bool) → not b ≡ false → b ≡ true
is_true true h = refl
is_true false h = absurd (true≢false h)

-- what holds of all lanes holds where there are some
where_lanes : (m : MemoryKind) (t : Bool) → (has_lanes m && not t) ≡ false → (m.lanes ≡ 0 → ⊥) → t ≡ true
where_lanes m t h n = go (m.lanes == 0) refl h
  where
    go : (z : Bool) → (m.lanes == 0) ≡ z → (not z && not t) ≡ false → t ≡ true
    go true e i = absurd (n (eqb-true m.lanes 0 e))
    go false e i = is_true t i

no_lanes : (m : MemoryKind) → has_lanes m ≡ false → m.lanes ≡ 0
no_lanes m h = eqb-true m.lanes 0 (is_true (m.lanes == 0) h)

-- ---- literals

literal_of : (d : Control) → is_literal d ≡ true → (n : ℤ) × (d ≡ Lit n)
literal_of (Lit n) h = (n, refl)
literal_of (Var x) h = absurd (true≢false (sym h))
literal_of (Field f) h = absurd (true≢false (sym h))
literal_of (StrideOf x k) h = absurd (true≢false (sym h))
literal_of (Neg a) h = absurd (true≢false (sym h))
literal_of (Add a b) h = absurd (true≢false (sym h))
literal_of (Sub a b) h = absurd (true≢false (sym h))
literal_of (Mul a b) h = absurd (true≢false (sym h))
literal_of (Div a n) h = absurd (true≢false (sym h))
literal_of (Mod a n) h = absurd (true≢false (sym h))

all_literals : (ds : List Control) → are_literals ds ≡ true → AreLiterals ds
all_literals [] h = tt
all_literals (d ∷ ds) h = let p = and_parts (is_literal d) (are_literals ds) h in (literal_of d p.0, all_literals ds p.1)

same_int : (a b : ℤ) → int_eq a b ≡ true → a ≡ b
same_int a b h = grind (arith, ints)

the_literal : (m : ℕ) (d : Control) → is_literal_of m d ≡ true → d ≡ Lit (pos m)
the_literal m (Lit n) h = ap Lit (same_int n (pos m) h)
the_literal m (Var x) h = absurd (true≢false (sym h))
the_literal m (Field f) h = absurd (true≢false (sym h))
the_literal m (StrideOf x k) h = absurd (true≢false (sym h))
the_literal m (Neg a) h = absurd (true≢false (sym h))
the_literal m (Add a b) h = absurd (true≢false (sym h))
the_literal m (Sub a b) h = absurd (true≢false (sym h))
the_literal m (Mul a b) h = absurd (true≢false (sym h))
the_literal m (Div a n) h = absurd (true≢false (sym h))
the_literal m (Mod a n) h = absurd (true≢false (sym h))

-- the last of a list, by what holds of it
abbrev last_holds : {A : Type 0} → (A → Bool) → List A → Bool
last_holds test xs = elim (slice_get xs (length xs - 1)) [ None ↦ false | Some x ↦ test x ]

last_further : {A : Type 0} (test : A → Bool) (x y : A) (xs : List A) → last_holds test (x ∷ (y ∷ xs)) ≡ last_holds test (y ∷ xs)
last_further test x y xs = ap (λ k. elim (slice_get (x ∷ (y ∷ xs)) k) [ None ↦ false | Some z ↦ test z ]) here
  where
    here : suc (suc (length xs)) - 1 ≡ suc (suc (length xs) - 1)
    here = omega arith

last_alone : {A : Type 0} (test : A → Bool) (x : A) → last_holds test (x ∷ []) ≡ test x
last_alone test x = refl

pub ends_in_lanes : (m : ℕ) (ds : List Control) → ((m ≡ 0 → ⊥) → last_is_literal m ds ≡ true) → EndsInLanes m ds
ends_in_lanes zero ds h = tt
ends_in_lanes (suc m) ds h = go ds (h (λ e. absurd (omega (arith, e))))
  where
    go : (es : List Control) → last_holds (is_literal_of (suc m)) es ≡ true → EndsInLanes (suc m) es
    go [] i = absurd (true≢false (sym i))
    go (d ∷ []) i = the_literal (suc m) d i
    go (d ∷ (e ∷ es)) i = go (e ∷ es) (sym (last_further (is_literal_of (suc m)) d e es) ∙ i)

full_span : (m : ℕ) (c : Coord) → is_full_span m c ≡ true → c ≡ Span (Lit (pos 0)) (Lit (pos m))
full_span m (At a) h = absurd (true≢false (sym h))
full_span m (Span a b) h = let p = and_parts (is_literal_of 0 a) (is_literal_of m b) h in both a b (the_literal 0 a p.0) (the_literal m b p.1)
  where
    both : (s t : Control) → s ≡ Lit (pos 0) → t ≡ Lit (pos m) → Span s t ≡ Span (Lit (pos 0)) (Lit (pos m))
    both s t e f = cc

ends_in_span : (m : ℕ) (cs : List Coord) → ((m ≡ 0 → ⊥) → last_is_full m cs ≡ true) → EndsInSpan m cs
ends_in_span zero cs h = tt
ends_in_span (suc m) cs h = go cs (h (λ e. absurd (omega (arith, e))))
  where
    go : (es : List Coord) → last_holds (is_full_span (suc m)) es ≡ true → EndsInSpan (suc m) es
    go [] i = absurd (true≢false (sym i))
    go (c ∷ []) i = full_span (suc m) c i
    go (c ∷ (d ∷ es)) i = go (d ∷ es) (sym (last_further (is_full_span (suc m)) c d es) ∙ i)

-- ---- memories

-- what may be touched by a statement has no lanes
touched : (m : MemoryKind) → is_memory m ≡ true → (m.read || (m.write || m.reduce)) ≡ true → m.lanes ≡ 0
touched m h t = go (m.lanes == 0) refl (and_parts (nat_lt m.lanes 65) _ h).1
  where
    go : (z : Bool) → (m.lanes == 0) ≡ z → (if z then (length m.ctype == 0) else (not (length m.ctype == 0) && (has_type m.cell && not (m.read || (m.write || m.reduce))))) ≡ true → m.lanes ≡ 0
    go true e i = eqb-true m.lanes 0 e
    go false e i =
        let p = and_parts (not (length m.ctype == 0)) (has_type m.cell && not (m.read || (m.write || m.reduce))) i in
        let q = and_parts (has_type m.cell) (not (m.read || (m.write || m.reduce))) p.1 in
        absurd (no_both (m.read || (m.write || m.reduce)) t q.1)
      where
        no_both : (b : Bool) → b ≡ true → not b ≡ true → ⊥
        no_both true f g = true≢false (sym g)
        no_both false f g = true≢false (sym f)

third_of : (a b : Bool) → (a || (b || true)) ≡ true
third_of true b = refl
third_of false true = refl
third_of false false = refl

second_of : (a c : Bool) → (a || (true || c)) ≡ true
second_of true c = refl
second_of false c = refl

module _ (memories : List MemoryKind) (known : list_all is_memory memories ≡ true) (naming : Naming) (by_memory : (k : ℕ) → naming.memory k ≡ memory_of (slice_get memories k)) where
  rule_of : (ms : List MemoryKind) → list_all is_memory ms ≡ true → (k : ℕ) (m : MemoryKind) → slice_get ms k ≡ Some m → is_memory m ≡ true
  rule_of [] h zero m e = absurd (none_some e)
  rule_of [] h (suc k) m e = absurd (none_some e)
  rule_of (n ∷ ms) h zero m e = subst (λ x. is_memory x ≡ true) (some_same e) (and_parts (is_memory n) (list_all is_memory ms) h).0
    where
      some_same : Some n ≡ Some m → n ≡ m
      some_same d = cc
  rule_of (n ∷ ms) h (suc k) m e = rule_of ms (and_parts (is_memory n) (list_all is_memory ms) h).1 k m e

  -- what follows from a rule holds of the memory as the C has it
  by_rule : (P : Memory → Type 0) (k : ℕ) (rule : MemoryKind → Option KindError) → in_memory memories k rule ≡ None → P (memory_of None) → ((m : MemoryKind) → is_memory m ≡ true → rule m ≡ None → P (memory_of (Some m))) → P (naming.memory k)
  by_rule P k rule h base each = subst P (sym (by_memory k)) (go (slice_get memories k) refl h)
    where
      go : (o : Option MemoryKind) → slice_get memories k ≡ o → ◌≡◌ {A = Option KindError} (elim o [ None ↦ None | Some m ↦ rule m ]) None → P (memory_of o)
      go None e i = base
      go (Some m) e i = each m (rule_of memories known k m e) i

  pub reads_cells : (k : ℕ) → in_memory memories k read_fault ≡ None → (naming.memory k).lanes ≡ 0
  reads_cells k h = by_rule (λ m. m.lanes ≡ 0) k read_fault h refl (λ m r f. touched m r (ap (λ t. t || (m.write || m.reduce)) (is_true m.read (not_where (not m.read) _ f))))

  pub writes_cells : (k : ℕ) → in_memory memories k write_fault ≡ None → (naming.memory k).lanes ≡ 0
  writes_cells k h = by_rule (λ m. m.lanes ≡ 0) k write_fault h refl (λ m r f. touched m r (ap (λ t. m.read || (t || m.reduce)) (is_true m.write (not_where (not m.write) _ f)) ∙ second_of m.read m.reduce))

  pub reduces_cells : (k : ℕ) → in_memory memories k reduce_fault ≡ None → (naming.memory k).lanes ≡ 0
  reduces_cells k h = by_rule (λ m. m.lanes ≡ 0) k reduce_fault h refl (λ m r f. touched m r (ap (λ t. m.read || (m.write || t)) (is_true m.reduce (not_where (not m.reduce) _ f)) ∙ third_of m.read m.write))

  pub views_cells : (k : ℕ) → in_memory memories k view_fault ≡ None → (naming.memory k).lanes ≡ 0
  views_cells k h = by_rule (λ m. m.lanes ≡ 0) k view_fault h refl (λ m r f. no_lanes m (not_where (has_lanes m) _ f))

  takes_cells : (k : ℕ) → in_memory memories k param_fault ≡ None → (naming.memory k).lanes ≡ 0
  takes_cells k h = by_rule (λ m. m.lanes ≡ 0) k param_fault h refl (λ m r f. no_lanes m (not_where (has_lanes m) _ f))

  spans_lanes : (k : ℕ) (cs : List Coord) → in_memory memories k (window_fault cs) ≡ None → EndsInSpan (naming.memory k).lanes cs
  spans_lanes k cs h = by_rule (λ m. EndsInSpan m.lanes cs) k (window_fault cs) h tt (λ m r f. ends_in_span m.lanes cs (where_lanes m (last_is_full m.lanes cs) (not_where (has_lanes m && not (last_is_full m.lanes cs)) _ f)))

  pub suits : (k : ℕ) (cell : Cell) (ds : List Control) → in_memory memories k (alloc_fault cell ds) ≡ None → SuitsMemory (naming.memory k) ds
  suits k cell ds h = by_rule (λ m. SuitsMemory m ds) k (alloc_fault cell ds) h (tt, λ e. absurd (true≢false (sym e))) one
    where
      one : (m : MemoryKind) → is_memory m ≡ true → alloc_fault cell ds m ≡ None → SuitsMemory (memory_of (Some m)) ds
      one m r f =
          let p = both_none (fault_where (not (takes m.cell cell)) _) _ f in
          let q = both_none (fault_where (has_lanes m && not (last_is_literal m.lanes ds)) _) _ p.1 in (
            ends_in_lanes m.lanes ds (where_lanes m (last_is_literal m.lanes ds) (not_where (has_lanes m && not (last_is_literal m.lanes ds)) _ q.0)),
            λ e. all_literals ds (is_true (are_literals ds) (subst (λ t. (t && not (are_literals ds)) ≡ false) e (not_where (m.stack && not (are_literals ds)) _ q.1))),
          )

  -- ---- statements

  module _ (home : Homes) where
    pub clear_reads : (e : Datum) → reads_fault memories home e ≡ None → ReadsCells (lanes_in naming home) e
    clear_reads (Const n) h = tt
    clear_reads (Read x is) h = reads_cells (home x) h
    clear_reads (Negated a) h = clear_reads a h
    clear_reads (Relu a) h = clear_reads a h
    clear_reads (Plus a b) h = let p = both_none (reads_fault memories home a) (reads_fault memories home b) h in (clear_reads a p.0, clear_reads b p.1)
    clear_reads (Minus a b) h = let p = both_none (reads_fault memories home a) (reads_fault memories home b) h in (clear_reads a p.0, clear_reads b p.1)
    clear_reads (Times a b) h = let p = both_none (reads_fault memories home a) (reads_fault memories home b) h in (clear_reads a p.0, clear_reads b p.1)
    clear_reads (Select a b c d) h =
        let p = both_none (reads_fault memories home a) _ h in
        let q = both_none (reads_fault memories home b) _ p.1 in
        let r = both_none (reads_fault memories home c) (reads_fault memories home d) q.1 in
        (clear_reads a p.0, clear_reads b q.0, clear_reads c r.0, clear_reads d r.1)

    -- a parameter in that memory; one of a function has no lanes
    clear_given : (function : Bool) (memory : ℕ) → (function ≡ true → (naming.memory memory).lanes ≡ 0) → (a : Argument) → given_fault memories home memory a ≡ None → IsClearBuffer (lanes_in naming home) function a
    clear_given function memory v (ControlArg a) h = tt
    clear_given function memory v (ConditionArg c) h = tt
    clear_given function memory v (Whole x) h = λ e. ap (λ k. (naming.memory k).lanes) (eqb-true (home x) memory (is_true (home x == memory) (not_where (not (home x == memory)) _ h))) ∙ v e
    clear_given function memory v (Window x cs) h =
        let p = both_none (fault_where (not (home x == memory)) _) (in_memory memories (home x) (window_fault cs)) h in
        (λ e. ap (λ k. (naming.memory k).lanes) (eqb-true (home x) memory (is_true (home x == memory) (not_where (not (home x == memory)) _ p.0))) ∙ v e, spans_lanes (home x) cs p.1)

    clear_argument : (function : Bool) (p : Param) → (function ≡ true → IsClearKind naming p.kind) → (a : Argument) → argument_fault memories home p a ≡ None → IsClearArgument (lanes_in naming home) function p.kind a
    clear_argument function p v a h = go p.kind v h
      where
        go : (kind : ParamKind) → (function ≡ true → IsClearKind naming kind) → argument_fault memories home (record { binder = p.binder; kind = kind }) a ≡ None → IsClearArgument (lanes_in naming home) function kind a
        go (ControlParam kind) w i = tt
        go (TensorParam cell dims memory) w i = clear_given function memory w a i
        go (WindowParam cell dims memory) w i = clear_given function memory w a i

    pub clear_arguments : (function : Bool) (ps : List Param) → (function ≡ true → AreClearParams naming ps) → (args : List Argument) → arguments_fault memories home ps args ≡ None → AreClearArguments (lanes_in naming home) function ps args
    clear_arguments function [] v args h = tt
    clear_arguments function (p ∷ ps) v [] h = tt
    clear_arguments function (p ∷ ps) v (a ∷ args) h =
        let q = both_none (argument_fault memories home p a) (arguments_fault memories home ps args) h in
        (clear_argument function p (λ e. (v e).0) a q.0, clear_arguments function ps (λ e. (v e).1) args q.1)

  pub clear_params : (ps : List Param) → params_fault memories ps ≡ None → AreClearParams naming ps
  clear_params [] h = tt
  clear_params (p ∷ ps) h = let q = both_none (kind_fault memories p.kind) (params_fault memories ps) h in (go p.kind q.0, clear_params ps q.1)
    where
      go : (kind : ParamKind) → kind_fault memories kind ≡ None → IsClearKind naming kind
      go (ControlParam kind) i = tt
      go (TensorParam cell dims memory) i = takes_cells memory i
      go (WindowParam cell dims memory) i = takes_cells memory i
