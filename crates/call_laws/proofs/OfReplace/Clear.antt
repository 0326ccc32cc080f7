-- With its arguments, the body of a callee that keeps the rules mentions none of its parameters.
use Rattle.std.proofs.Common.{◌≡◌, ℕ, ◌==◌, Bool, true, false, ◌&&◌, ◌||◌, List, [], ◌∷◌, length, Option}
use Rattle.std.proofs.Common.{Some, None, refl, sym, subst, true≢false, eq-eqb, not}
use Rattle.std.specs.List.{list_all}
use Rattle.exo_tree.specs.Tree.{Cell, I32, Kind, Index, Binder, Control, Lit, Var, Field, StrideOf}
use Rattle.exo_tree.specs.Tree.{Neg, Add, Sub, Mul, Div, Mod, Condition, True, False, Flag, FieldFlag}
use Rattle.exo_tree.specs.Tree.{Lt, Le, Gt, Ge, Eq, And, Or, Datum, Const, Read, Negated, Relu, Plus}
use Rattle.exo_tree.specs.Tree.{Minus, Times, Select, Coord, At, Span, Argument, ControlArg}
use Rattle.exo_tree.specs.Tree.{ConditionArg, Whole, Window, Statement, Assign, Reduce, Config, Pass}
use Rattle.exo_tree.specs.Tree.{If, For, Alloc, View, Call, Block, end, next}
use Rattle.exo_tree.specs.Renaming.{re_control, re_controls, re_condition, re_datum, re_coords}
use Rattle.exo_tree.specs.Renaming.{re_argument, re_arguments, re_statement, re_block}
use Rattle.exo_meaning.specs.Calls.{Callee}
use Rattle.exo_meaning.specs.Run.{roots_after}
use Rattle.exo_meaning.specs.Unseen.{in_control, in_controls, in_condition, in_datum, in_coords}
use Rattle.exo_meaning.specs.Unseen.{in_argument, in_arguments, in_statement, in_block as mentions}
use Rattle.exo_meaning.specs.Units.{Scope, Sort, ControlName, BufferName, Reads, plainly, with_fields}
use Rattle.exo_meaning.specs.Units.{sort_in, with_name, is_number, is_flag, has_rank, has_dimension}
use Rattle.exo_meaning.specs.Units.{is_of_literals, is_control, are_controls, is_condition, is_access}
use Rattle.exo_meaning.specs.Units.{is_datum, is_coord, is_window, is_new, is_empty, is_short, spans}
use Rattle.exo_meaning.specs.Units.{view_sort, is_block, is_statement, scope_after}
use Rattle.meaning_laws.specs.Scoped.{has_binder, step_has_binder}
use Rattle.meaning_laws.proofs.Facts.{or_left, or_right}
use Rattle.meaning_laws.proofs.Scoped.{both_false}
use Rattle.exo_meaning.proofs.Frame.{or_parts}
use Rattle.affine_forms.proofs.Values.{and_parts}
use Rattle.inplace_laws.specs.Windows.{shifted, joined_coords}
use Rattle.match_laws.specs.Inline.AtOnce.{Put, put_control, put_controls, put_condition, put_index}
use Rattle.match_laws.specs.Inline.AtOnce.{put_datum, put_coords, put_window, put_argument}
use Rattle.match_laws.specs.Inline.AtOnce.{put_arguments, put_statement, put_block, root_for}
use Rattle.match_laws.specs.Inline.AtOnce.{coords_for}
use Rattle.call_laws.proofs.OfReplace.Stands.{named, IsFormed, AreFormed, call_formed, write_formed}

no : {P : Type 0} → false ≡ true → P
no h = absurd (true≢false (sym h))

module _ (hidden : ℕ → Bool) (to : ℕ → ℕ) (put : Put) where
  -- ---- names

  abbrev pub IsClearView : ℕ → Type 0
  IsClearView x =
      (hidden (root_for put x) ≡ false)
      × (in_coords hidden (coords_for put x) ≡ false)
      × (in_argument hidden (put.name x) ≡ false)

  -- what stands for a name in scope mentions no hidden one
  pub record IsClear (scope : Scope) : Type 0 where
    pub numbers : (x : ℕ)
        → is_number (sort_in scope x) ≡ true
        → in_control hidden (put.variable (to x)) ≡ false
    pub flags : (x : ℕ)
        → is_flag (sort_in scope x) ≡ true
        → in_condition hidden (put.flag (to x)) ≡ false
    pub views : (x n : ℕ)
        → has_rank n (sort_in scope x) ≡ true
        → IsClearView (to x)

  pub record IsClearOwn (x : ℕ) : Type 0 where
    pub itself : hidden (to x) ≡ false
    pub number : in_control hidden (put.variable (to x)) ≡ false
    pub view : IsClearView (to x)

  with_loop : (scope : Scope) (i : Binder) → IsClear scope → IsClearOwn i.id
      → IsClear (with_name scope i (ControlName Index))
  with_loop scope i st own = record {
    numbers = λ x h. named (in_control hidden (put.variable (to x)) ≡ false) is_number scope i
        (ControlName Index) x
        (λ e k. subst (λ y. in_control hidden (put.variable (to y)) ≡ false) (sym e) own.number)
        (st.numbers x) h;
    flags = λ x h. named (in_condition hidden (put.flag (to x)) ≡ false) is_flag scope i
        (ControlName Index) x (λ e k. no k) (st.flags x) h;
    views = λ x n h. named (IsClearView (to x)) (has_rank n) scope i (ControlName Index) x
        (λ e k. no k) (st.views x n) h;
  }

  with_buffer : (scope : Scope) (i : Binder) (cell : Cell) (rank : ℕ) (dense : Bool)
      → IsClear scope → IsClearOwn i.id → IsClear (with_name scope i (BufferName cell rank dense))
  with_buffer scope i cell rank dense st own = record {
    numbers = λ x h. named (in_control hidden (put.variable (to x)) ≡ false) is_number scope i
        (BufferName cell rank dense) x (λ e k. no k) (st.numbers x) h;
    flags = λ x h. named (in_condition hidden (put.flag (to x)) ≡ false) is_flag scope i
        (BufferName cell rank dense) x (λ e k. no k) (st.flags x) h;
    views = λ x n h. named (IsClearView (to x)) (has_rank n) scope i (BufferName cell rank dense) x
        (λ e k. subst (λ y. IsClearView (to y)) (sym e) own.view) (st.views x n) h;
  }

  abbrev Owns : (ℕ → Bool) → Type 0
  Owns binds = (x : ℕ) → binds x ≡ true → IsClearOwn x

  view_clear : (o : Option Sort) (w : Binder) (n : ℕ) (scope : Scope) → IsClear scope
      → IsClearOwn w.id → IsClear (with_name scope w (view_sort o n))
  view_clear None w n scope st own = with_buffer scope w I32 n false st own
  view_clear (Some (ControlName kind)) w n scope st own = with_buffer scope w I32 n false st own
  view_clear (Some (BufferName cell rank dense)) w n scope st own =
      with_buffer scope w cell n false st own

  clear_after : (a : Statement) (scope : Scope) → IsClear scope → Owns (step_has_binder a)
      → IsClear (scope_after a scope)
  clear_after (Assign x is e) scope st own = st
  clear_after (Reduce x is e) scope st own = st
  clear_after (Config f a) scope st own = st
  clear_after Pass scope st own = st
  clear_after (If c a b) scope st own = st
  clear_after (For i lo hi b) scope st own = st
  clear_after (Alloc x cell dims memory) scope st own =
      with_buffer scope x cell (length dims) true st (own x.id (eq-eqb x.id x.id refl))
  clear_after (View w x cs) scope st own =
      view_clear (sort_in scope x) w (spans cs) scope st (own w.id (eq-eqb w.id w.id refl))
  clear_after (Call k args) scope st own = st

  -- ---- joined coordinates

  shifted_clear : (cs : List Coord) (is : List Control) → in_coords hidden cs ≡ false
      → in_controls hidden is ≡ false → in_controls hidden (shifted cs is) ≡ false
  shifted_clear [] is h k = k
  shifted_clear (At a ∷ cs) is h k =
      let p = or_parts (in_control hidden a) (in_coords hidden cs) h in
      both_false (in_control hidden a) (in_controls hidden (shifted cs is)) p.0
      (shifted_clear cs is p.1 k)
  shifted_clear (Span a b ∷ cs) [] h k = refl
  shifted_clear (Span a b ∷ cs) (i ∷ is) h k =
      let p = or_parts (in_control hidden a) (in_control hidden b || in_coords hidden cs) h in
      let q = or_parts (in_control hidden b) (in_coords hidden cs) p.1 in
      let r = or_parts (in_control hidden i) (in_controls hidden is) k in
      both_false (in_control hidden a || in_control hidden i) (in_controls hidden (shifted cs is))
      (both_false (in_control hidden a) (in_control hidden i) p.0 r.0) (shifted_clear cs is q.1 r.1)

  joined_clear : (cs ds : List Coord) → in_coords hidden cs ≡ false → in_coords hidden ds ≡ false
      → in_coords hidden (joined_coords cs ds) ≡ false
  joined_clear [] ds h k = k
  joined_clear (At a ∷ cs) ds h k =
      let p = or_parts (in_control hidden a) (in_coords hidden cs) h in
      both_false (in_control hidden a) (in_coords hidden (joined_coords cs ds)) p.0
      (joined_clear cs ds p.1 k)
  joined_clear (Span a b ∷ cs) [] h k = refl
  joined_clear (Span a b ∷ cs) (At c ∷ ds) h k =
      let p = or_parts (in_control hidden a) (in_control hidden b || in_coords hidden cs) h in
      let q = or_parts (in_control hidden b) (in_coords hidden cs) p.1 in
      let r = or_parts (in_control hidden c) (in_coords hidden ds) k in
      both_false (in_control hidden a || in_control hidden c) (in_coords hidden (joined_coords cs ds))
      (both_false (in_control hidden a) (in_control hidden c) p.0 r.0) (joined_clear cs ds q.1 r.1)
  joined_clear (Span a b ∷ cs) (Span c d ∷ ds) h k =
      let p = or_parts (in_control hidden a) (in_control hidden b || in_coords hidden cs) h in
      let q = or_parts (in_control hidden b) (in_coords hidden cs) p.1 in
      let r = or_parts (in_control hidden c) (in_control hidden d || in_coords hidden ds) k in
      let s = or_parts (in_control hidden d) (in_coords hidden ds) r.1 in
      both_false (in_control hidden a || in_control hidden c)
      ((in_control hidden a || in_control hidden d) || in_coords hidden (joined_coords cs ds))
      (both_false (in_control hidden a) (in_control hidden c) p.0 r.0)
      (both_false (in_control hidden a || in_control hidden d) (in_coords hidden (joined_coords cs ds))
      (both_false (in_control hidden a) (in_control hidden d) p.0 s.0) (joined_clear cs ds q.1 s.1))

  -- ---- expressions at a place

  module _ (fields : ℕ → Option Kind) (scope : Scope) (st : IsClear scope) where
    abbrev new : Control → Control
    new e = put_control put (re_control to e)

    some_rank : (k : ℕ) (o : Option Sort) → has_dimension k o ≡ true
        → (n : ℕ) × (has_rank n o ≡ true)
    some_rank k None h = no h
    some_rank k (Some (ControlName kind)) h = no h
    some_rank k (Some (BufferName cell rank dense)) h = (rank, eq-eqb rank rank refl)

    two_clear : (a b : Control) → (in_control hidden (new a) ≡ false)
        → (in_control hidden (new b) ≡ false) → (in_control hidden (new a) || in_control hidden (new b)) ≡ false
    two_clear a b = both_false (in_control hidden (new a)) (in_control hidden (new b))

    control_clear : (reads : Reads) (e : Control) → is_control fields reads scope e ≡ true
        → in_control hidden (new e) ≡ false
    control_clear reads (Lit n) h = refl
    control_clear reads (Var x) h = st.numbers x h
    control_clear reads (Field f) h = refl
    control_clear reads (StrideOf x k) h =
        let r = some_rank k (sort_in scope x) (and_parts reads.strides (has_dimension k (sort_in scope x)) h).1 in
        (st.views x r.0 r.1).0
    control_clear reads (Neg a) h = control_clear reads a h
    control_clear reads (Add a b) h =
        let p = and_parts (is_control fields reads scope a) (is_control fields reads scope b) h in
        two_clear a b (control_clear reads a p.0) (control_clear reads b p.1)
    control_clear reads (Sub a b) h =
        let p = and_parts (is_control fields reads scope a) (is_control fields reads scope b) h in
        two_clear a b (control_clear reads a p.0) (control_clear reads b p.1)
    control_clear reads (Mul a b) h =
        let q = and_parts (is_control fields reads scope a && is_control fields reads scope b)
        (is_of_literals a || is_of_literals b) h in
        let p = and_parts (is_control fields reads scope a) (is_control fields reads scope b) q.0 in
        two_clear a b (control_clear reads a p.0) (control_clear reads b p.1)
    control_clear reads (Div a c) h = control_clear reads a (and_parts (is_control fields reads scope a) _ h).0
    control_clear reads (Mod a c) h = control_clear reads a (and_parts (is_control fields reads scope a) _ h).0

    controls_clear : (reads : Reads) (es : List Control) → are_controls fields reads scope es ≡ true
        → in_controls hidden (put_controls put (re_controls to es)) ≡ false
    controls_clear reads [] h = refl
    controls_clear reads (e ∷ es) h =
        let p = and_parts (is_control fields reads scope e) (are_controls fields reads scope es) h in
        both_false (in_control hidden (new e)) (in_controls hidden (put_controls put (re_controls to es)))
        (control_clear reads e p.0) (controls_clear reads es p.1)

    sides_clear : (reads : Reads) (a b : Control)
        → (is_control fields reads scope a && is_control fields reads scope b) ≡ true
        → (in_control hidden (new a) || in_control hidden (new b)) ≡ false
    sides_clear reads a b h =
        let p = and_parts (is_control fields reads scope a) (is_control fields reads scope b) h in
        two_clear a b (control_clear reads a p.0) (control_clear reads b p.1)

    condition_clear : (reads : Reads) (c : Condition) → is_condition fields reads scope c ≡ true
        → in_condition hidden (put_condition put (re_condition to c)) ≡ false
    condition_clear reads True h = refl
    condition_clear reads False h = refl
    condition_clear reads (Flag x) h = st.flags x h
    condition_clear reads (FieldFlag f) h = refl
    condition_clear reads (Lt a b) h = sides_clear reads a b h
    condition_clear reads (Le a b) h = sides_clear reads a b h
    condition_clear reads (Gt a b) h = sides_clear reads a b h
    condition_clear reads (Ge a b) h = sides_clear reads a b h
    condition_clear reads (Eq a b) h = sides_clear reads a b h
    condition_clear reads (And c d) h =
        let p = and_parts (is_condition fields reads scope c) (is_condition fields reads scope d) h in
        both_false (in_condition hidden (put_condition put (re_condition to c)))
        (in_condition hidden (put_condition put (re_condition to d))) (condition_clear reads c p.0)
        (condition_clear reads d p.1)
    condition_clear reads (Or c d) h =
        let p = and_parts (is_condition fields reads scope c) (is_condition fields reads scope d) h in
        both_false (in_condition hidden (put_condition put (re_condition to c)))
        (in_condition hidden (put_condition put (re_condition to d))) (condition_clear reads c p.0)
        (condition_clear reads d p.1)

    -- a cell, and its name
    access_clear : (x : ℕ) (is : List Control) → is_access fields scope x is ≡ true
        → (hidden (root_for put (to x)) ≡ false)
        × (in_controls hidden (put_index put (to x) (re_controls to is)) ≡ false)
    access_clear x is h =
        let p = and_parts (has_rank (length is) (sort_in scope x)) (are_controls fields plainly scope is) h in
        let v = st.views x (length is) p.0 in (
          v.0,
          shifted_clear (coords_for put (to x)) (put_controls put (re_controls to is)) v.1
              (controls_clear plainly is p.1),
        )

    coords_clear : (cs : List Coord) → list_all (is_coord fields scope) cs ≡ true
        → in_coords hidden (put_coords put (re_coords to cs)) ≡ false
    coords_clear [] h = refl
    coords_clear (At a ∷ cs) h =
        let p = and_parts (is_control fields plainly scope a) (list_all (is_coord fields scope) cs) h in
        both_false (in_control hidden (new a)) (in_coords hidden (put_coords put (re_coords to cs)))
        (control_clear plainly a p.0) (coords_clear cs p.1)
    coords_clear (Span a b ∷ cs) h =
        let p = and_parts (is_control fields plainly scope a && is_control fields plainly scope b)
        (list_all (is_coord fields scope) cs) h in
        let q = and_parts (is_control fields plainly scope a) (is_control fields plainly scope b) p.0 in
        both_false (in_control hidden (new a))
        (in_control hidden (new b) || in_coords hidden (put_coords put (re_coords to cs)))
        (control_clear plainly a q.0)
        (both_false (in_control hidden (new b)) (in_coords hidden (put_coords put (re_coords to cs)))
        (control_clear plainly b q.1) (coords_clear cs p.1))

    window_clear : (x : ℕ) (cs : List Coord) → is_window fields scope x cs ≡ true
        → (hidden (root_for put (to x)) ≡ false)
        × (in_coords hidden (put_window put (to x) (re_coords to cs)) ≡ false)
    window_clear x cs h =
        let p = and_parts (has_rank (length cs) (sort_in scope x)) (list_all (is_coord fields scope) cs) h in
        let v = st.views x (length cs) p.0 in (
          v.0,
          joined_clear (coords_for put (to x)) (put_coords put (re_coords to cs)) v.1
              (coords_clear cs p.1),
        )

    abbrev datum : Datum → Bool
    datum e = in_datum hidden (put_datum put (re_datum to e))

    datum_clear : (e : Datum) → is_datum fields scope e ≡ true → datum e ≡ false
    datum_clear (Const n) h = refl
    datum_clear (Read x is) h =
        let p = access_clear x is h in
        both_false (hidden (root_for put (to x)))
        (in_controls hidden (put_index put (to x) (re_controls to is))) p.0 p.1
    datum_clear (Negated a) h = datum_clear a h
    datum_clear (Relu a) h = datum_clear a h
    datum_clear (Plus a b) h =
        let p = and_parts (is_datum fields scope a) (is_datum fields scope b) h in
        both_false (datum a) (datum b) (datum_clear a p.0) (datum_clear b p.1)
    datum_clear (Minus a b) h =
        let p = and_parts (is_datum fields scope a) (is_datum fields scope b) h in
        both_false (datum a) (datum b) (datum_clear a p.0) (datum_clear b p.1)
    datum_clear (Times a b) h =
        let p = and_parts (is_datum fields scope a) (is_datum fields scope b) h in
        both_false (datum a) (datum b) (datum_clear a p.0) (datum_clear b p.1)
    datum_clear (Select a b c d) h =
        let p = and_parts (is_datum fields scope a && is_datum fields scope b)
        (is_datum fields scope c && is_datum fields scope d) h in
        let q = and_parts (is_datum fields scope a) (is_datum fields scope b) p.0 in
        let r = and_parts (is_datum fields scope c) (is_datum fields scope d) p.1 in
        both_false (datum a) (datum b || (datum c || datum d)) (datum_clear a q.0)
        (both_false (datum b) (datum c || datum d) (datum_clear b q.1)
        (both_false (datum c) (datum d) (datum_clear c r.0) (datum_clear d r.1)))

    argument_clear : (a : Argument) → IsFormed fields scope a
        → in_argument hidden (put_argument put (re_argument to a)) ≡ false
    argument_clear (ControlArg e) h = control_clear h.0 e h.1
    argument_clear (ConditionArg c) h = condition_clear h.0 c h.1
    argument_clear (Whole x) h = (st.views x h.0 h.1).2
    argument_clear (Window x cs) h =
        let p = window_clear x cs h in
        both_false (hidden (root_for put (to x)))
        (in_coords hidden (put_window put (to x) (re_coords to cs))) p.0 p.1

    arguments_clear : (args : List Argument) → AreFormed fields scope args
        → in_arguments hidden (put_arguments put (re_arguments to args)) ≡ false
    arguments_clear [] h = refl
    arguments_clear (a ∷ rest) h =
        both_false (in_argument hidden (put_argument put (re_argument to a)))
        (in_arguments hidden (put_arguments put (re_arguments to rest))) (argument_clear a h.0)
        (arguments_clear rest h.1)

    stored_clear : (x : ℕ) (is : List Control) (e : Datum)
        → (is_access fields scope x is && is_datum fields scope e) ≡ true
        → (hidden (root_for put (to x))
        || (in_controls hidden (put_index put (to x) (re_controls to is)) || datum e)) ≡ false
    stored_clear x is e h =
        let p = and_parts (is_access fields scope x is) (is_datum fields scope e) h in
        let q = access_clear x is p.0 in
        both_false (hidden (root_for put (to x)))
        (in_controls hidden (put_index put (to x) (re_controls to is)) || datum e) q.0
        (both_false (in_controls hidden (put_index put (to x) (re_controls to is))) (datum e) q.1
        (datum_clear e p.1))

  -- ---- statement by statement

  module _ (fields : ℕ → Option Kind) (memories : ℕ) (callees : ℕ → Option Callee) where
    abbrev within : Block → Block
    within b = put_block put (re_block to b)

    mutual
      pub block_clear : (b : Block) (scope : Scope) (root : ℕ → ℕ) → IsClear scope
          → Owns (has_binder b) → is_block fields memories callees scope root b ≡ true
          → mentions hidden (within b) ≡ false
      block_clear end scope root st own h = refl
      block_clear (next a b) scope root st own h =
          let q = and_parts (is_statement fields memories callees scope root a)
          (is_block fields memories callees (scope_after a scope) (roots_after a root) b) h in
          let first : Owns (step_has_binder a)
          = λ x e. own x (or_left (step_has_binder a x) (has_binder b x) e) in
          let rest : Owns (has_binder b)
          = λ x e. own x (or_right (step_has_binder a x) (has_binder b x) e) in
          both_false (in_statement hidden (put_statement put (re_statement to a))) (mentions hidden (within b))
          (statement_clear a scope root st first q.0)
          (block_clear b (scope_after a scope) (roots_after a root) (clear_after a scope st first) rest q.1)

      statement_clear : (a : Statement) (scope : Scope) (root : ℕ → ℕ) → IsClear scope
          → Owns (step_has_binder a) → is_statement fields memories callees scope root a ≡ true
          → in_statement hidden (put_statement put (re_statement to a)) ≡ false
      statement_clear (Assign x is e) scope root st own h = stored_clear fields scope st x is e h
      statement_clear (Reduce x is e) scope root st own h = stored_clear fields scope st x is e h
      statement_clear (Config f a) scope root st own h =
          argument_clear fields scope st a (write_formed fields scope (fields f) a h)
      statement_clear Pass scope root st own h = refl
      statement_clear (If t a b) scope root st own h =
          let p = and_parts (is_condition fields with_fields scope t) _ h in
          let q = and_parts (not (is_empty a) && (is_short a && is_short b)) _ p.1 in
          let ab = and_parts (is_block fields memories callees scope root a)
          (is_block fields memories callees scope root b) q.1 in
          both_false (in_condition hidden (put_condition put (re_condition to t)))
          (mentions hidden (within a) || mentions hidden (within b))
          (condition_clear fields scope st with_fields t p.0)
          (both_false (mentions hidden (within a)) (mentions hidden (within b))
          (block_clear a scope root st (λ x e. own x (or_left (has_binder a x) (has_binder b x) e)) ab.0)
          (block_clear b scope root st (λ x e. own x (or_right (has_binder a x) (has_binder b x) e)) ab.1))
      statement_clear (For i lo hi b) scope root st own h =
          let p = and_parts (is_new scope i) _ h in
          let q = and_parts (is_control fields plainly scope lo && is_control fields plainly scope hi) _ p.1 in
          let ends = and_parts (is_control fields plainly scope lo) (is_control fields plainly scope hi) q.0 in
          let body = and_parts (not (is_empty b) && is_short b) _ q.1 in
          let its = own i.id (or_left (i.id == i.id) (has_binder b i.id) (eq-eqb i.id i.id refl)) in
          let low = in_control hidden (put_control put (re_control to lo)) in
          let high = in_control hidden (put_control put (re_control to hi)) in
          both_false (hidden (to i.id)) (low || (high || mentions hidden (within b))) its.itself
          (both_false low (high || mentions hidden (within b))
          (control_clear fields scope st plainly lo ends.0)
          (both_false high (mentions hidden (within b)) (control_clear fields scope st plainly hi ends.1)
          (block_clear b (with_name scope i (ControlName Index)) root (with_loop scope i st its)
          (λ x e. own x (or_right (x == i.id) (has_binder b x) e)) body.1)))
      statement_clear (Alloc x cell dims memory) scope root st own h =
          let p = and_parts (is_new scope x) _ h in
          let q = and_parts (are_controls fields plainly scope dims) _ p.1 in
          both_false (hidden (to x.id)) (in_controls hidden (put_controls put (re_controls to dims)))
          (own x.id (eq-eqb x.id x.id refl)).itself (controls_clear fields scope st plainly dims q.0)
      statement_clear (View w x cs) scope root st own h =
          let p = and_parts (is_new scope w) _ h in
          let q = window_clear fields scope st x cs (and_parts (is_window fields scope x cs) _ p.1).0 in
          both_false (hidden (to w.id))
          (hidden (root_for put (to x)) || in_coords hidden (put_window put (to x) (re_coords to cs)))
          (own w.id (eq-eqb w.id w.id refl)).itself
          (both_false (hidden (root_for put (to x)))
          (in_coords hidden (put_window put (to x) (re_coords to cs))) q.0 q.1)
      statement_clear (Call k args) scope root st own h =
          arguments_clear fields scope st args (call_formed fields scope root (callees k) args h)
