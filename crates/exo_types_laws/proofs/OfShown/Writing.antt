-- A well-formed procedure whose names are of the grammar can be written down.
use Rattle.std.proofs.Common.{◌≡◌, ℕ, ℤ, pos, negsuc, ◌<◌, ◌≤◌, ◌==◌, nat_lt, Bool, true, false, not, ◌&&◌, ◌||◌, if◌then◌else◌, List, [], ◌∷◌, ◌++◌, length, Option, Some, None, slice_get, refl, sym, ap, subst, ◌∙◌, arith, eqb-true, true≢false, append_assoc}
use Rattle.std.proofs.lemmas.Bool.Decides.{nat_tests}
use Rattle.std.specs.List.{list_all}
use Rattle.std.specs.Prelude.{int_le, int_lt}
use Rattle.exo_tree.specs.Tree as tree
use Rattle.exo_tree.specs.Tree.{Kind, Cell, Index, Binder, Control, Lit, Var, Field, StrideOf, Neg, Add, Sub, Mul, Div, Mod, Condition, Flag, FieldFlag, Lt, Le, Gt, Ge, Eq, And, Or, Datum, Const, Read, Negated, Relu, Plus, Minus, Times, Select, Coord, At, Span, Argument, ControlArg, ConditionArg, Whole, Window, Statement, Assign, Reduce, Config, Pass, If, For, Alloc, View, Call, Block, end, next, ParamKind, ControlParam, TensorParam, WindowParam, Param, ConfigField, MemoryKind, Procedure, Program}
use Rattle.exo_meaning.specs.Calls.{Callee}
use Rattle.exo_meaning.specs.Run.{world_of, callee_in, kinds_of, roots_after}
use Rattle.exo_meaning.specs.Units.{Sort, ControlName, BufferName, Scope, Reads, sort_in, with_name, param_sort, scope_of, scope_after, view_sort, spans, is_truth, is_number, is_flag, has_rank, has_dimension, has_cell, is_empty, is_short, is_rank, plainly, with_fields, with_strides, with_both, is_literal_number, is_of_literals, field_kind, is_new, is_number_field, is_flag_field, is_control, are_controls, is_condition, is_access, is_datum, is_coord, is_window, is_of_kind, is_for_tensor, is_for_window, is_for, are_for, is_call, is_param_kind, are_params, is_write, is_block, is_statement, IsProcedure, AreProcedures}
use Rattle.text_show.specs.Layout.{Text}
use Rattle.text_show.specs.Names.{unknown, names_of}
use Rattle.text_show.specs.Words.{memory_name, callee_name}
use Rattle.exo_types_laws.specs.Shown.Names.{IsName, Each}
use Rattle.exo_types_laws.specs.Shown.Written.{has_span}
use Rattle.exo_types_laws.specs.Shown.Writable.{IsLiteral, HasNames, HasSome, IsSome, IsBound}
use Rattle.exo_types_laws.specs.Shown.Writable.{IsField, IsControl, IsCondition, IsAccess, IsDatum}
use Rattle.exo_types_laws.specs.Shown.Writable.{IsCoord, IsArgument, IsStored, IsStatement, IsBlock}
use Rattle.exo_types_laws.specs.Shown.Writable.{IsParamKind, IsParam, IsWritable}
use Rattle.exo_types_laws.specs.Shown.Named.{IsNamedStatement, IsNamedBlock, IsNamedParam}
use Rattle.exo_types_laws.specs.Shown.Named.{IsNamedProcedure, IsNamedField, IsNamedMemory}
use Rattle.exo_types_laws.specs.Shown.Named.{AreNamed}
use Rattle.exo_types_laws.specs.Shown.Naming.{NamedUnitsAreWritable}
use Rattle.exo_types_laws.proofs.OfShown.Scoped.{both}
use Rattle.exo_types_laws.proofs.OfShown.Called.{AreCalled, ParamsCalled, called}
use Rattle.exo_types_laws.proofs.OfShown.Standing.{there, got_below, get_left, AllStand}
use Rattle.exo_types_laws.proofs.OfShown.Standing.{no_procedures, one_more}
use Rattle.exo_types_laws.proofs.OfShown.Each.{each_at}

each_of : {A : Type 0} (P : A → Type 0) (p : A → Bool) (xs : List A) → ((x : A) → p x ≡ true → P x) → list_all p xs ≡ true → Each P xs
each_of P p [] f h = tt
each_of P p (x ∷ xs) f h = let s = both (p x) (list_all p xs) h in (f x s.0, each_of P p xs f s.1)

less : (a b : ℕ) → nat_lt a b ≡ true → a < b
less a b h = grind (arith, nat_tests, h)

literal : (n : ℤ) → is_literal_number n ≡ true → IsLiteral n
literal (pos n) h = less n 0x80000000 (both (int_le (pos 0) (pos n)) (int_lt (pos n) (pos 0x80000000)) h).1
literal (negsuc n) h = cc

-- ---- what is in scope

-- a buffer has at most 8 dimensions
abbrev RankFits : Sort → Type 0
RankFits (ControlName kind) = Unit {0}
RankFits (BufferName cell rank dense) = rank < 9

-- what is in scope has a name
abbrev Known : (ℕ → Text) → Scope → Type 0
Known names scope = (x : ℕ) (s : Sort) → sort_in scope x ≡ Some s → IsName (names x) × RankFits s

nothing_known : (names : ℕ → Text) → Known names []
nothing_known names x s h = cc

known_more : (names : ℕ → Text) (scope : Scope) (b : Binder) (sort : Sort) → Known names scope → names b.id ≡ b.name → IsName b.name → RankFits sort → Known names (with_name scope b sort)
known_more names scope b sort known same named fits x s h = by (x == b.id) refl h
  where
    by : (t : Bool) → (x == b.id) ≡ t → (if t then Some sort else sort_in scope x) ≡ Some s → IsName (names x) × RankFits s
    by true e k =
        let here : names x ≡ b.name = ap names (eqb-true x b.id e) ∙ same in
        let sorts : sort ≡ s = cc in
        (subst IsName (sym here) named, subst RankFits sorts fits)
    by false e k = known x s k

-- a window has a dimension
abbrev KindHasDims : ParamKind → Type 0
KindHasDims (ControlParam kind) = Unit {0}
KindHasDims (TensorParam cell dims memory) = Unit {0}
KindHasDims (WindowParam cell dims memory) = nat_lt 0 (length dims) ≡ true

abbrev HasDims : Param → Type 0
HasDims p = KindHasDims p.kind

some_of : {A : Type 0} (xs : List A) → not (length xs == 0) ≡ true → HasSome xs
some_of [] h = cc
some_of (x ∷ xs) h = tt

-- a list with spans is not empty
spans_some : (coords : List Coord) (n : ℕ) → nat_lt 0 n ≡ true → (n == spans coords) ≡ true → HasSome coords
spans_some [] n h e = let z : n ≡ 0 = eqb-true n 0 e in absurd (true≢false (sym h ∙ ap (nat_lt 0) z))
spans_some (c ∷ coords) n h e = tt

dims_some : (dims : List Control) → nat_lt 0 (length dims) ≡ true → HasSome dims
dims_some [] h = cc
dims_some (d ∷ dims) h = tt

block_some : (b : Block) → not (is_empty b) ≡ true → IsSome b
block_some end h = cc
block_some (next a b) h = tt

spans_there : (coords : List Coord) → nat_lt 0 (spans coords) ≡ true → has_span coords ≡ true
spans_there [] h = cc
spans_there (At a ∷ coords) h = spans_there coords h
spans_there (Span a b ∷ coords) h = refl

spans_few : (coords : List Coord) → spans coords ≤ length coords
spans_few [] = omega arith
spans_few (At a ∷ coords) = omega (arith, spans_few coords)
spans_few (Span a b ∷ coords) = omega (arith, spans_few coords)

module _ (program : Program) (fields : Each IsNamedField program.fields) (memories : Each IsNamedMemory program.memories) where
  abbrev kinds : ℕ → Option Kind
  kinds = field_kind program.fields

  abbrev count : ℕ
  count = length program.memories

  memory_known : (m : ℕ) → nat_lt m count ≡ true → (m == 0) ≡ false → IsName (memory_name program.memories m)
  memory_known m h other =
      let t = there program.memories m (less m count h) in
      subst (λ (o : Option MemoryKind). IsName (elim o [ None ↦ unknown m | Some x ↦ x.name ])) (sym t.1) (each_at IsNamedMemory program.memories m t.0 memories t.1)

  module _ (names : ℕ → Text) where
    field_at : (f : ℕ) (o : Option ConfigField) → slice_get program.fields f ≡ o → (test : Option Kind → Bool) → test None ≡ false → test (elim o [ None ↦ None | Some x ↦ Some x.kind ]) ≡ true → HasNames o
    field_at f None e test absent h = absurd (true≢false (sym h ∙ absent))
    field_at f (Some x) e test absent h = each_at IsNamedField program.fields f x fields e

    field_known : (f : ℕ) (test : Option Kind → Bool) → test None ≡ false → test (kinds f) ≡ true → IsField program names f
    field_known f test absent h = field_at f (slice_get program.fields f) refl test absent h

    module _ (scope : Scope) (known : Known names scope) where
      found : (x : ℕ) (test : Option Sort → Bool) → test None ≡ false → test (sort_in scope x) ≡ true → (s : Sort) × (sort_in scope x ≡ Some s) × (test (Some s) ≡ true)
      found x test absent h = by (sort_in scope x) refl h
        where
          by : (o : Option Sort) → sort_in scope x ≡ o → test o ≡ true → (s : Sort) × (sort_in scope x ≡ Some s) × (test (Some s) ≡ true)
          by None e t = absurd (true≢false (sym t ∙ absent))
          by (Some s) e t = (s, e, t)

      bound : (x : ℕ) (test : Option Sort → Bool) → test None ≡ false → test (sort_in scope x) ≡ true → IsBound program names x
      bound x test absent h = let f = found x test absent h in (known x f.0 f.1).0

      ranked : (x n : ℕ) → has_rank n (sort_in scope x) ≡ true → n < 9
      ranked x n h = let f = found x (has_rank n) refl h in by f.0 f.2 (known x f.0 f.1).1
        where
          by : (s : Sort) → has_rank n (Some s) ≡ true → RankFits s → n < 9
          by (ControlName kind) t fits = cc
          by (BufferName cell rank dense) t fits = let e : n ≡ rank = eqb-true n rank t in omega (arith, e, fits)

      dimension : (x k : ℕ) → has_dimension k (sort_in scope x) ≡ true → k < 0x80000000
      dimension x k h = let f = found x (has_dimension k) refl h in by f.0 f.2 (known x f.0 f.1).1
        where
          by : (s : Sort) → has_dimension k (Some s) ≡ true → RankFits s → k < 0x80000000
          by (ControlName kind) t fits = cc
          by (BufferName cell rank dense) t fits = let l = less k rank t in omega (arith, l, fits)

      control : (may : Reads) (e : Control) → is_control kinds may scope e ≡ true → IsControl program names e
      control may (Lit n) h = literal n h
      control may (Var x) h = bound x is_number refl h
      control may (Field f) h = field_known f (is_number_field kinds) refl (both may.fields (is_number_field kinds (kinds f)) h).1
      control may (StrideOf x k) h =
          let s = (both may.strides (has_dimension k (sort_in scope x)) h).1 in
          (bound x (has_dimension k) refl s, dimension x k s)
      control may (Neg a) h = control may a h
      control may (Add a b) h = let s = both (is_control kinds may scope a) (is_control kinds may scope b) h in (control may a s.0, control may b s.1)
      control may (Sub a b) h = let s = both (is_control kinds may scope a) (is_control kinds may scope b) h in (control may a s.0, control may b s.1)
      control may (Mul a b) h =
          let p = both (is_control kinds may scope a && is_control kinds may scope b) (is_of_literals a || is_of_literals b) h in
          let s = both (is_control kinds may scope a) (is_control kinds may scope b) p.0 in
          (control may a s.0, control may b s.1)
      control may (Div a c) h =
          let s = both (is_control kinds may scope a) _ h in
          (control may a s.0, literal c (both (is_literal_number c) _ s.1).0)
      control may (Mod a c) h =
          let s = both (is_control kinds may scope a) _ h in
          (control may a s.0, literal c (both (is_literal_number c) _ s.1).0)

      controls : (may : Reads) (es : List Control) → are_controls kinds may scope es ≡ true → Each (IsControl program names) es
      controls may es h = each_of (IsControl program names) (is_control kinds may scope) es (control may) h

      compared : (may : Reads) (a b : Control) → (is_control kinds may scope a && is_control kinds may scope b) ≡ true → IsControl program names a × IsControl program names b
      compared may a b h = let s = both (is_control kinds may scope a) (is_control kinds may scope b) h in (control may a s.0, control may b s.1)

      condition : (may : Reads) (c : Condition) → is_condition kinds may scope c ≡ true → IsCondition program names c
      condition may tree.True h = tt
      condition may tree.False h = tt
      condition may (Flag x) h = bound x is_flag refl h
      condition may (FieldFlag f) h = field_known f (is_flag_field kinds) refl (both may.fields (is_flag_field kinds (kinds f)) h).1
      condition may (Lt a b) h = compared may a b h
      condition may (Le a b) h = compared may a b h
      condition may (Gt a b) h = compared may a b h
      condition may (Ge a b) h = compared may a b h
      condition may (Eq a b) h = compared may a b h
      condition may (And a b) h = let s = both (is_condition kinds may scope a) (is_condition kinds may scope b) h in (condition may a s.0, condition may b s.1)
      condition may (Or a b) h = let s = both (is_condition kinds may scope a) (is_condition kinds may scope b) h in (condition may a s.0, condition may b s.1)

      access : (x : ℕ) (is : List Control) → is_access kinds scope x is ≡ true → IsAccess program names x is
      access x is h =
          let s = both (has_rank (length is) (sort_in scope x)) (are_controls kinds plainly scope is) h in
          (bound x (has_rank (length is)) refl s.0, controls plainly is s.1)

      datum : (e : Datum) → is_datum kinds scope e ≡ true → IsDatum program names e
      datum (Const n) h = literal n h
      datum (Read x is) h = access x is h
      datum (Negated a) h = datum a h
      datum (Relu a) h = datum a h
      datum (Plus a b) h = let s = both (is_datum kinds scope a) (is_datum kinds scope b) h in (datum a s.0, datum b s.1)
      datum (Minus a b) h = let s = both (is_datum kinds scope a) (is_datum kinds scope b) h in (datum a s.0, datum b s.1)
      datum (Times a b) h = let s = both (is_datum kinds scope a) (is_datum kinds scope b) h in (datum a s.0, datum b s.1)
      datum (Select a b c d) h =
          let p = both (is_datum kinds scope a && is_datum kinds scope b) (is_datum kinds scope c && is_datum kinds scope d) h in
          let s = both (is_datum kinds scope a) (is_datum kinds scope b) p.0 in
          let t = both (is_datum kinds scope c) (is_datum kinds scope d) p.1 in
          (datum a s.0, datum b s.1, datum c t.0, datum d t.1)

      coord : (c : Coord) → is_coord kinds scope c ≡ true → IsCoord program names c
      coord (At a) h = control plainly a h
      coord (Span a b) h = compared plainly a b h

      window : (x : ℕ) (coords : List Coord) → is_window kinds scope x coords ≡ true → IsBound program names x × Each (IsCoord program names) coords
      window x coords h =
          let s = both (has_rank (length coords) (sort_in scope x)) (list_all (is_coord kinds scope) coords) h in
          (bound x (has_rank (length coords)) refl s.0, each_of (IsCoord program names) (is_coord kinds scope) coords coord s.1)

      -- ---- arguments

      stored : (may : Reads) (kind : Kind) (a : Argument) → is_of_kind kinds may scope kind a ≡ true → IsStored program names a
      stored may kind (ControlArg a) h = control may a (both (not (is_truth kind)) _ h).1
      stored may kind (ConditionArg c) h = condition may c (both (is_truth kind) _ h).1
      stored may kind (Whole x) h = cc
      stored may kind (Window x coords) h = cc

      value : (may : Reads) (kind : Kind) (a : Argument) → is_of_kind kinds may scope kind a ≡ true → IsArgument program names a
      value may kind (ControlArg a) h = control may a (both (not (is_truth kind)) _ h).1
      value may kind (ConditionArg c) h = condition may c (both (is_truth kind) _ h).1
      value may kind (Whole x) h = cc
      value may kind (Window x coords) h = cc

      tensor : (cell : Cell) (rank : ℕ) (a : Argument) → is_for_tensor kinds scope cell rank a ≡ true → IsArgument program names a
      tensor cell rank (ControlArg a) h = cc
      tensor cell rank (ConditionArg c) h = cc
      tensor cell rank (Whole x) h = bound x (has_cell cell) refl (both (has_cell cell (sort_in scope x)) _ h).0
      tensor cell rank (Window x coords) h =
          let p = both (has_cell cell (sort_in scope x)) _ h in
          let s = both (is_window kinds scope x coords) _ p.1 in
          let t = both (rank == 0) _ s.1 in
          let w = window x coords s.0 in
          (w.0, w.1, some_of coords (both (spans coords == 0) _ t.1).1)

      strided : (cell : Cell) (rank : ℕ) (a : Argument) → nat_lt 0 rank ≡ true → is_for_window kinds scope cell rank a ≡ true → IsArgument program names a
      strided cell rank (ControlArg a) some h = cc
      strided cell rank (ConditionArg c) some h = cc
      strided cell rank (Whole x) some h = bound x (has_cell cell) refl (both (has_cell cell (sort_in scope x)) _ h).0
      strided cell rank (Window x coords) some h =
          let p = both (has_cell cell (sort_in scope x)) _ h in
          let s = both (is_window kinds scope x coords) (rank == spans coords) p.1 in
          let w = window x coords s.0 in
          (w.0, w.1, spans_some coords rank some s.1)

      argument : (p : Param) (a : Argument) → HasDims p → is_for kinds scope p.kind a ≡ true → IsArgument program names a
      argument p a some h = by p.kind some h
        where
          by : (k : ParamKind) → KindHasDims k → is_for kinds scope k a ≡ true → IsArgument program names a
          by (ControlParam kind) some h = value with_both kind a h
          by (TensorParam cell dims memory) some h = tensor cell (length dims) a h
          by (WindowParam cell dims memory) some h = strided cell (length dims) a some h

      arguments : (ps : List Param) (args : List Argument) → Each HasDims ps → are_for kinds scope ps args ≡ true → Each (IsArgument program names) args
      arguments [] [] some h = tt
      arguments [] (a ∷ args) some h = cc
      arguments (p ∷ ps) [] some h = cc
      arguments (p ∷ ps) (a ∷ args) some h =
          let s = both (is_for kinds scope p.kind a) (are_for kinds scope ps args) h in
          (argument p a some.0 s.0, arguments ps args some.1 s.1)

      written : (f : ℕ) (a : Argument) → is_write kinds scope (kinds f) a ≡ true → IsField program names f × IsStored program names a
      written f a h = by (kinds f) refl h
        where
          by : (o : Option Kind) → kinds f ≡ o → is_write kinds scope o a ≡ true → IsField program names f × IsStored program names a
          by None e t = cc
          by (Some kind) e t =
              (field_known f (λ o. elim o [ None ↦ false | Some k ↦ true ]) refl (ap (λ (o : Option Kind). elim o [ None ↦ false | Some k ↦ true ]) e), stored with_strides kind a t)

    -- ---- statements

    view_fits : (scope : Scope) (known : Known names scope) (x : ℕ) (coords : List Coord) → has_rank (length coords) (sort_in scope x) ≡ true → RankFits (view_sort (sort_in scope x) (spans coords))
    view_fits scope known x coords h =
        let l : spans coords < 9 = omega (arith, spans_few coords, ranked scope known x (length coords) h) in
        by (sort_in scope x) l
      where
        by : (o : Option Sort) → spans coords < 9 → RankFits (view_sort o (spans coords))
        by None l = l
        by (Some (ControlName kind)) l = l
        by (Some (BufferName cell rank dense)) l = l

    module _ (callees : ℕ → Option Callee) (called : (k : ℕ) (c : Callee) → callees k ≡ Some c → IsName (callee_name program.procedures k) × Each HasDims c.procedure.params) where
      call : (scope : Scope) (known : Known names scope) (root : ℕ → ℕ) (k : ℕ) (args : List Argument) → is_call kinds scope root (callees k) args ≡ true → IsStatement program names (Call k args)
      call scope known root k args h = by (callees k) refl h
        where
          by : (o : Option Callee) → callees k ≡ o → is_call kinds scope root o args ≡ true → IsStatement program names (Call k args)
          by None e t = cc
          by (Some c) e t =
              let g = called k c e in
              (g.0, arguments scope known c.procedure.params args g.1 (both (are_for kinds scope c.procedure.params args) _ t).0)

      -- what a statement brings into scope is known behind it
      behind : (scope : Scope) (root : ℕ → ℕ) (a : Statement) → Known names scope → is_statement kinds count callees scope root a ≡ true → AreCalled names (next a end) → IsNamedStatement a → Known names (scope_after a scope)
      behind scope root (Assign x is e) known h c n = known
      behind scope root (Reduce x is e) known h c n = known
      behind scope root (Config f a) known h c n = known
      behind scope root Pass known h c n = known
      behind scope root (If q a b) known h c n = known
      behind scope root (For i lo hi b) known h c n = known
      behind scope root (Alloc x cell dims memory) known h c n =
          let s = both (is_new scope x) _ h in
          let t = both (are_controls kinds plainly scope dims) _ s.1 in
          let r = both (is_rank (length dims)) (nat_lt memory count) t.1 in
          known_more names scope x (BufferName cell (length dims) true) known c.0 n (less (length dims) 9 r.0)
      behind scope root (View v x coords) known h c n =
          let s = both (is_new scope v) _ h in
          let w = both (is_window kinds scope x coords) (nat_lt 0 (spans coords)) s.1 in
          let r = both (has_rank (length coords) (sort_in scope x)) _ w.0 in
          known_more names scope v (view_sort (sort_in scope x) (spans coords)) known c.0 n (view_fits scope known x coords r.0)
      behind scope root (Call k args) known h c n = known

      mutual
        statement : (scope : Scope) (root : ℕ → ℕ) (a : Statement) → Known names scope → is_statement kinds count callees scope root a ≡ true → AreCalled names (next a end) → IsNamedStatement a → IsStatement program names a
        statement scope root (Assign x is e) known h c n =
            let s = both (is_access kinds scope x is) (is_datum kinds scope e) h in
            (access scope known x is s.0, datum scope known e s.1)
        statement scope root (Reduce x is e) known h c n =
            let s = both (is_access kinds scope x is) (is_datum kinds scope e) h in
            (access scope known x is s.0, datum scope known e s.1)
        statement scope root (Config f a) known h c n = written scope known f a h
        statement scope root Pass known h c n = tt
        statement scope root (If q a b) known h c n =
            let s = both (is_condition kinds with_fields scope q) _ h in
            let t = both (not (is_empty a) && (is_short a && is_short b)) _ s.1 in
            let u = both (is_block kinds count callees scope root a) (is_block kinds count callees scope root b) t.1 in
            (condition scope known with_fields q s.0, block_some a (both (not (is_empty a)) _ t.0).0, block scope root a known u.0 c.0.0 n.0, block scope root b known u.1 c.0.1 n.1)
        statement scope root (For i lo hi b) known h c n =
            let s = both (is_new scope i) _ h in
            let t = both (is_control kinds plainly scope lo && is_control kinds plainly scope hi) _ s.1 in
            let bounds = both (is_control kinds plainly scope lo) (is_control kinds plainly scope hi) t.0 in
            let u = both (not (is_empty b) && is_short b) _ t.1 in (
              n.0,
              control scope known plainly lo bounds.0,
              control scope known plainly hi bounds.1,
              block_some b (both (not (is_empty b)) _ u.0).0,
              block (with_name scope i (ControlName Index)) root b (known_more names scope i (ControlName Index) known c.0.0 n.0 tt) u.1 c.0.1 n.1,
            )
        statement scope root (Alloc x cell dims memory) known h c n =
            let s = both (is_new scope x) _ h in
            let t = both (are_controls kinds plainly scope dims) _ s.1 in
            (n, controls scope known plainly dims t.0, memory_known memory (both (is_rank (length dims)) (nat_lt memory count) t.1).1)
        statement scope root (View v x coords) known h c n =
            let s = both (is_new scope v) _ h in
            let t = both (is_window kinds scope x coords) (nat_lt 0 (spans coords)) s.1 in
            let w = window scope known x coords t.0 in
            (n, w.0, w.1, spans_there coords t.1)
        statement scope root (Call k args) known h c n = call scope known root k args h

        block : (scope : Scope) (root : ℕ → ℕ) (b : Block) → Known names scope → is_block kinds count callees scope root b ≡ true → AreCalled names b → IsNamedBlock b → IsBlock program names b
        block scope root end known h c n = tt
        block scope root (next a b) known h c n =
            let s = both (is_statement kinds count callees scope root a) _ h in (
              statement scope root a known s.0 (c.0, tt) n.0,
              block (scope_after a scope) (roots_after a root) b (behind scope root a known s.0 (c.0, tt) n.0) s.1 c.1 n.1,
            )

    -- ---- parameters

    kind_written : (scope : Scope) (known : Known names scope) (k : ParamKind) → is_param_kind kinds count scope k ≡ true → IsParamKind program names k × RankFits (param_sort k)
    kind_written scope known (ControlParam kind) h = (tt, tt)
    kind_written scope known (TensorParam cell dims memory) h =
        let s = both (are_controls kinds plainly scope dims) _ h in
        let t = both (is_rank (length dims)) (nat_lt memory count) s.1 in
        ((controls scope known plainly dims s.0, memory_known memory t.1), less (length dims) 9 t.0)
    kind_written scope known (WindowParam cell dims memory) h =
        let s = both (are_controls kinds plainly scope dims) _ h in
        let t = both (is_rank (length dims) && nat_lt 0 (length dims)) (nat_lt memory count) s.1 in
        let u = both (is_rank (length dims)) (nat_lt 0 (length dims)) t.0 in
        ((controls scope known plainly dims s.0, dims_some dims u.1, memory_known memory t.1), less (length dims) 9 u.0)

    params_written : (scope : Scope) (ps : List Param) → Known names scope → are_params kinds count scope ps ≡ true → ParamsCalled names ps → Each IsNamedParam ps → Each (IsParam program names) ps × Known names (scope_of scope ps)
    params_written scope [] known h c n = (tt, known)
    params_written scope (p ∷ ps) known h c n =
        let s = both (is_new scope p.binder) _ h in
        let t = both (is_param_kind kinds count scope p.kind) _ s.1 in
        let k = kind_written scope known p.kind t.0 in
        let more = params_written (with_name scope p.binder (param_sort p.kind)) ps (known_more names scope p.binder (param_sort p.kind) known c.0 n.0 k.1) t.1 c.1 n.1 in
        (((n.0, k.0), more.0), more.1)

  procedure : (callees : ℕ → Option Callee) (p : Procedure) → ((k : ℕ) (c : Callee) → callees k ≡ Some c → IsName (callee_name program.procedures k) × Each HasDims c.procedure.params)
      → IsProcedure kinds count callees p → IsNamedProcedure p → IsWritable program p
  procedure callees p calls is n =
      let c = called p is.distinct in
      let params = params_written (names_of p) [] p.params (nothing_known (names_of p)) is.params c.0 n.params in
      record {
        name = n.name;
        params = params.0;
        asserts = each_of (IsCondition program (names_of p)) (is_condition kinds with_both (scope_of [] p.params)) p.asserts (condition (names_of p) (scope_of [] p.params) params.1 with_both) is.asserts;
        some = block_some p.body (both (not (is_empty p.body)) _ is.filled).0;
        body = block (names_of p) callees calls (scope_of [] p.params) (λ x. x) p.body params.1 is.body c.1 n.body;
        template = n.template;
      }

-- ---- procedures below each other

kind_dims : (F : ℕ → Option Kind) (M : ℕ) (scope : Scope) (k : ParamKind) → is_param_kind F M scope k ≡ true → KindHasDims k
kind_dims F M scope (ControlParam kind) g = tt
kind_dims F M scope (TensorParam cell dims memory) g = tt
kind_dims F M scope (WindowParam cell dims memory) g =
    let s = both (are_controls F plainly scope dims) _ g in
    let t = both (is_rank (length dims) && nat_lt 0 (length dims)) (nat_lt memory M) s.1 in
    (both (is_rank (length dims)) (nat_lt 0 (length dims)) t.0).1

dims_of : (F : ℕ → Option Kind) (M : ℕ) (scope : Scope) (ps : List Param) → are_params F M scope ps ≡ true → Each HasDims ps
dims_of F M scope [] h = tt
dims_of F M scope (p ∷ ps) h =
    let s = both (is_new scope p.binder) _ h in
    let t = both (is_param_kind F M scope p.kind) _ s.1 in
    (kind_dims F M scope p.kind t.0, dims_of F M (with_name scope p.binder (param_sort p.kind)) ps t.1)

module _ (program : Program) (named : AreNamed program) where
  abbrev Good : List Callee → Procedure → Type 0
  Good above p = IsProcedure (field_kind program.fields) (length program.memories) (slice_get above) p

  -- those that stand above, and their names
  calls_known : (above : List Callee) (before after : List Procedure) → before ++ after ≡ program.procedures → AllStand Good above before → (k : ℕ) (c : Callee) → slice_get above k ≡ Some c → IsName (callee_name program.procedures k) × Each HasDims c.procedure.params
  calls_known above before after whole all k c h =
      let q = there before k (let got = got_below above k c h in omega (arith, got, all.many)) in
      let s = all.each k q.0 q.1 in
      let same : callee_in (world_of s.kinds s.before) q.0 ≡ c = cc in
      let here : slice_get program.procedures k ≡ Some q.0 = ap (λ ps. slice_get ps k) (sym whole) ∙ get_left before after k q.0 q.1 in (
        subst (λ (o : Option Procedure). IsName (elim o [ None ↦ unknown k | Some x ↦ x.name ])) (sym here) (each_at IsNamedProcedure program.procedures k q.0 named.procedures here).name,
        subst (λ (d : Callee). Each HasDims d.procedure.params) same (dims_of (field_kind program.fields) (length program.memories) [] q.0.params s.holds.params),
      )

  each_written : (above : List Callee) (before after : List Procedure) → before ++ after ≡ program.procedures → AllStand Good above before → AreProcedures program.fields (length program.memories) above after → Each IsNamedProcedure after → Each (IsWritable program) after
  each_written above before [] whole all are n = tt
  each_written above before (p ∷ ps) whole all are n = (
    procedure program named.fields named.memories (slice_get above) p (calls_known above before (p ∷ ps) whole all) are.0 n.0,
    each_written (above ++ callee_in (world_of (kinds_of program.fields) above) p ∷ []) (before ++ p ∷ []) ps (append_assoc before (p ∷ []) ps ∙ whole) (one_more Good above before (kinds_of program.fields) p all are.0) are.1 n.1,
  )

pub named_writable : NamedUnitsAreWritable
named_writable program k p is named there_is =
    each_at (IsWritable program) program.procedures k p
    (each_written program named [] [] program.procedures refl (no_procedures (Good program named)) is.procedures named.procedures) there_is
