-- What keeps the rules in a scope keeps them where names are not in scope that it does not mention.
use Rattle.std.proofs.Common.{◌≡◌, ℕ, ◌==◌, Bool, true, false, ◌&&◌, ◌||◌, not, true≢false, cond}
use Rattle.std.proofs.Common.{List, [], ◌∷◌, length, Option, Some, None, refl, sym, ap, ap₂, ◌∙◌}
use Rattle.std.proofs.Common.{subst, eqb-true}
use Rattle.std.specs.Prelude.{nat_lt, int_lt, pos, if◌then◌else◌}
use Rattle.std.specs.List.{list_all, list_any}
use Rattle.exo_tree.specs.Tree.{Kind, Index, Binder, Control, Lit, Var, Field, StrideOf, Neg, Add}
use Rattle.exo_tree.specs.Tree.{Sub, Mul, Div, Mod, Condition, True, False, Flag, FieldFlag, Lt, Le, Gt}
use Rattle.exo_tree.specs.Tree.{Ge, Eq, And, Or, Datum, Const, Read, Negated, Relu, Plus, Minus, Times}
use Rattle.exo_tree.specs.Tree.{Select, Coord, At, Span, Argument, ControlArg, ConditionArg, Whole}
use Rattle.exo_tree.specs.Tree.{Window, Statement, Assign, Reduce, Config, Pass, If, For, Alloc, View}
use Rattle.exo_tree.specs.Tree.{Call, Block, end, next, joined, Param, ParamKind, ControlParam}
use Rattle.exo_tree.specs.Tree.{TensorParam, WindowParam}
use Rattle.exo_tree.specs.Context.{Here}
use Rattle.exo_meaning.specs.Calls.{Callee}
use Rattle.exo_meaning.specs.Run.{roots_after}
use Rattle.exo_meaning.specs.Units.{Reads, Sort, ControlName, BufferName, Scope, sort_in, with_name}
use Rattle.exo_meaning.specs.Units.{is_text, is_new, is_number, is_flag, has_rank, has_dimension}
use Rattle.exo_meaning.specs.Units.{has_cell, is_dense, is_truth, is_of_literals, is_literal_number}
use Rattle.exo_meaning.specs.Units.{spans, view_sort, scope_after, is_empty, is_short, is_rank, plainly}
use Rattle.exo_meaning.specs.Units.{with_fields, with_both, with_strides, is_control, are_controls}
use Rattle.exo_meaning.specs.Units.{is_condition, is_access, is_datum, is_coord, is_window, is_of_kind}
use Rattle.exo_meaning.specs.Units.{is_for, are_for, root_of, same_root, is_whole, is_shared}
use Rattle.exo_meaning.specs.Units.{share_nothing_written, is_call, is_write, is_block, is_statement}
use Rattle.exo_meaning.specs.Unseen.{in_control, in_controls, in_condition, in_datum, in_coords}
use Rattle.exo_meaning.specs.Unseen.{in_argument, in_arguments, in_statement, in_block as mentions}
use Rattle.exo_meaning.proofs.Frame.{or_parts}
use Rattle.meaning_laws.specs.Sorted.{scope_at}
use Rattle.meaning_laws.specs.Sound.{binds}
use Rattle.meaning_laws.proofs.FirstState.{new_is_none}
use Rattle.meaning_laws.proofs.Substitute.{and_parts}
use Rattle.place_laws.specs.Scope.Holes.{behind, roots_at}
use Rattle.place_laws.specs.Scope.Narrower.{IsNarrower, SameRoots, NarrowerScopesKeepRules}
use Rattle.place_laws.specs.Scope.Scopes.{top_binders}

one_more : (hidden : ℕ → Bool) (wide narrow : Scope) (x : Binder) (sort : Sort)
    → IsNarrower hidden wide narrow
    → IsNarrower hidden (with_name wide x sort) (with_name narrow x sort)
one_more hidden wide narrow x sort n = record {
  sorts = λ y h. ap (λ o. if y == x.id then Some sort else o) (n.sorts y h);
  new = λ b h. go b ((b.id == x.id) || is_text b.name x.name) h;
}
  where
    go : (b : Binder) (t : Bool)
        → not (t || list_any (λ m. (b.id == m.binder.id) || is_text b.name m.binder.name) wide)
        ≡ true
        → not (t || list_any (λ m. (b.id == m.binder.id) || is_text b.name m.binder.name) narrow)
        ≡ true
    go b true h = h
    go b false h = n.new b h

module _ (fields : ℕ → Option Kind) (hidden : ℕ → Bool) where
  -- ---- expressions

  module _ (wide narrow : Scope) (n : IsNarrower hidden wide narrow) where
    module _ (may : Reads) where
      control_same : (e : Control) → in_control hidden e ≡ false
          → is_control fields may narrow e ≡ is_control fields may wide e
      control_same (Lit m) h = refl
      control_same (Var x) h = ap is_number (n.sorts x h)
      control_same (Field f) h = refl
      control_same (StrideOf x k) h = ap (λ o. may.strides && has_dimension k o) (n.sorts x h)
      control_same (Neg a) h = control_same a h
      control_same (Add a b) h =
          let p = or_parts (in_control hidden a) (in_control hidden b) h in
          ap₂ ◌&&◌ (control_same a p.0) (control_same b p.1)
      control_same (Sub a b) h =
          let p = or_parts (in_control hidden a) (in_control hidden b) h in
          ap₂ ◌&&◌ (control_same a p.0) (control_same b p.1)
      control_same (Mul a b) h =
          let p = or_parts (in_control hidden a) (in_control hidden b) h in
          ap (λ t. t && (is_of_literals a || is_of_literals b))
          (ap₂ ◌&&◌ (control_same a p.0) (control_same b p.1))
      control_same (Div a c) h =
          ap (λ t. t && (is_literal_number c && int_lt (pos 0) c)) (control_same a h)
      control_same (Mod a c) h =
          ap (λ t. t && (is_literal_number c && int_lt (pos 0) c)) (control_same a h)

      two_same : (a b : Control) → (in_control hidden a || in_control hidden b) ≡ false
          → (is_control fields may narrow a && is_control fields may narrow b)
          ≡ (is_control fields may wide a && is_control fields may wide b)
      two_same a b h =
          let p = or_parts (in_control hidden a) (in_control hidden b) h in
          ap₂ ◌&&◌ (control_same a p.0) (control_same b p.1)

      condition_same : (c : Condition) → in_condition hidden c ≡ false
          → is_condition fields may narrow c ≡ is_condition fields may wide c
      condition_same True h = refl
      condition_same False h = refl
      condition_same (Flag x) h = ap is_flag (n.sorts x h)
      condition_same (FieldFlag f) h = refl
      condition_same (Lt a b) h = two_same a b h
      condition_same (Le a b) h = two_same a b h
      condition_same (Gt a b) h = two_same a b h
      condition_same (Ge a b) h = two_same a b h
      condition_same (Eq a b) h = two_same a b h
      condition_same (And c d) h =
          let p = or_parts (in_condition hidden c) (in_condition hidden d) h in
          ap₂ ◌&&◌ (condition_same c p.0) (condition_same d p.1)
      condition_same (Or c d) h =
          let p = or_parts (in_condition hidden c) (in_condition hidden d) h in
          ap₂ ◌&&◌ (condition_same c p.0) (condition_same d p.1)

      kind_same : (kind : Kind) (a : Argument) → in_argument hidden a ≡ false
          → is_of_kind fields may narrow kind a ≡ is_of_kind fields may wide kind a
      kind_same kind (ControlArg a) h = ap (λ t. not (is_truth kind) && t) (control_same a h)
      kind_same kind (ConditionArg c) h = ap (λ t. is_truth kind && t) (condition_same c h)
      kind_same kind (Whole x) h = refl
      kind_same kind (Window x coords) h = refl

    controls_same : (es : List Control) → in_controls hidden es ≡ false
        → are_controls fields plainly narrow es ≡ are_controls fields plainly wide es
    controls_same [] h = refl
    controls_same (e ∷ es) h =
        let p = or_parts (in_control hidden e) (in_controls hidden es) h in
        ap₂ ◌&&◌ (control_same plainly e p.0) (controls_same es p.1)

    access_same : (x : ℕ) (is : List Control) → (hidden x || in_controls hidden is) ≡ false
        → is_access fields narrow x is ≡ is_access fields wide x is
    access_same x is h =
        let p = or_parts (hidden x) (in_controls hidden is) h in
        ap₂ ◌&&◌ (ap (has_rank (length is)) (n.sorts x p.0)) (controls_same is p.1)

    datum_same : (e : Datum) → in_datum hidden e ≡ false
        → is_datum fields narrow e ≡ is_datum fields wide e
    datum_same (Const m) h = refl
    datum_same (Read x is) h = access_same x is h
    datum_same (Negated a) h = datum_same a h
    datum_same (Relu a) h = datum_same a h
    datum_same (Plus a b) h =
        let p = or_parts (in_datum hidden a) (in_datum hidden b) h in
        ap₂ ◌&&◌ (datum_same a p.0) (datum_same b p.1)
    datum_same (Minus a b) h =
        let p = or_parts (in_datum hidden a) (in_datum hidden b) h in
        ap₂ ◌&&◌ (datum_same a p.0) (datum_same b p.1)
    datum_same (Times a b) h =
        let p = or_parts (in_datum hidden a) (in_datum hidden b) h in
        ap₂ ◌&&◌ (datum_same a p.0) (datum_same b p.1)
    datum_same (Select a b c d) h =
        let p = or_parts (in_datum hidden a)
        (in_datum hidden b || (in_datum hidden c || in_datum hidden d)) h in
        let q = or_parts (in_datum hidden b) (in_datum hidden c || in_datum hidden d) p.1 in
        let r = or_parts (in_datum hidden c) (in_datum hidden d) q.1 in
        ap₂ ◌&&◌ (ap₂ ◌&&◌ (datum_same a p.0) (datum_same b q.0))
        (ap₂ ◌&&◌ (datum_same c r.0) (datum_same d r.1))

    coords_same : (cs : List Coord) → in_coords hidden cs ≡ false
        → list_all (is_coord fields narrow) cs ≡ list_all (is_coord fields wide) cs
    coords_same [] h = refl
    coords_same (At a ∷ cs) h =
        let p = or_parts (in_control hidden a) (in_coords hidden cs) h in
        ap₂ ◌&&◌ (control_same plainly a p.0) (coords_same cs p.1)
    coords_same (Span a b ∷ cs) h =
        let p = or_parts (in_control hidden a) (in_control hidden b || in_coords hidden cs) h in
        let q = or_parts (in_control hidden b) (in_coords hidden cs) p.1 in
        ap₂ ◌&&◌ (ap₂ ◌&&◌ (control_same plainly a p.0) (control_same plainly b q.0))
        (coords_same cs q.1)

    window_same : (x : ℕ) (cs : List Coord) → (hidden x || in_coords hidden cs) ≡ false
        → is_window fields narrow x cs ≡ is_window fields wide x cs
    window_same x cs h =
        let p = or_parts (hidden x) (in_coords hidden cs) h in
        ap₂ ◌&&◌ (ap (has_rank (length cs)) (n.sorts x p.0)) (coords_same cs p.1)

    -- ---- calls

    for_same : (kind : ParamKind) (a : Argument) → in_argument hidden a ≡ false
        → is_for fields narrow kind a ≡ is_for fields wide kind a
    for_same (ControlParam kind) a h = kind_same with_both kind a h
    for_same (TensorParam cell dims memory) (ControlArg a) h = refl
    for_same (TensorParam cell dims memory) (ConditionArg c) h = refl
    for_same (TensorParam cell dims memory) (Whole x) h =
        ap (λ o. has_cell cell o && (has_rank (length dims) o && ((length dims == 0) || is_dense o)))
        (n.sorts x h)
    for_same (TensorParam cell dims memory) (Window x cs) h =
        ap₂ (λ o t. has_cell cell o
        && (t && ((length dims == 0) && ((spans cs == 0) && not (length cs == 0)))))
        (n.sorts x (or_parts (hidden x) (in_coords hidden cs) h).0) (window_same x cs h)
    for_same (WindowParam cell dims memory) (ControlArg a) h = refl
    for_same (WindowParam cell dims memory) (ConditionArg c) h = refl
    for_same (WindowParam cell dims memory) (Whole x) h =
        ap (λ o. has_cell cell o && has_rank (length dims) o) (n.sorts x h)
    for_same (WindowParam cell dims memory) (Window x cs) h =
        ap₂ (λ o t. has_cell cell o && (t && (length dims == spans cs)))
        (n.sorts x (or_parts (hidden x) (in_coords hidden cs) h).0) (window_same x cs h)

    all_for_same : (ps : List Param) (args : List Argument) → in_arguments hidden args ≡ false
        → are_for fields narrow ps args ≡ are_for fields wide ps args
    all_for_same [] [] h = refl
    all_for_same [] (a ∷ args) h = refl
    all_for_same (p ∷ ps) [] h = refl
    all_for_same (p ∷ ps) (a ∷ args) h =
        let q = or_parts (in_argument hidden a) (in_arguments hidden args) h in
        ap₂ ◌&&◌ (for_same p.kind a q.0) (all_for_same ps args q.1)

  module _ (root other : ℕ → ℕ) (r : SameRoots hidden root other) (writes : ℕ → Bool) where
    root_same : (a : Argument) → in_argument hidden a ≡ false → root_of fields other a ≡ root_of fields root a
    root_same (ControlArg a) h = refl
    root_same (ConditionArg c) h = refl
    root_same (Whole x) h = ap Some (r x h)
    root_same (Window x cs) h = ap Some (r x (or_parts (hidden x) (in_coords hidden cs) h).0)

    shared_same : (p : Param) (o : Option ℕ) (ps : List Param) (args : List Argument)
        → in_arguments hidden args ≡ false
        → is_shared fields writes other p o ps args ≡ is_shared fields writes root p o ps args
    shared_same p o [] args h = refl
    shared_same p o (q ∷ qs) [] h = refl
    shared_same p o (q ∷ qs) (a ∷ args) h =
        let k = or_parts (in_argument hidden a) (in_arguments hidden args) h in
        ap₂ (λ z t. (same_root fields o z && ((writes p.binder.id || writes q.binder.id)
        && (is_whole p.kind || is_whole q.kind))) || t)
        (root_same a k.0) (shared_same p o qs args k.1)

    all_shared_same : (ps : List Param) (args : List Argument) → in_arguments hidden args ≡ false
        → share_nothing_written fields writes other ps args ≡ share_nothing_written fields writes root ps args
    all_shared_same [] args h = refl
    all_shared_same (p ∷ ps) [] h = refl
    all_shared_same (p ∷ ps) (a ∷ args) h =
        let k = or_parts (in_argument hidden a) (in_arguments hidden args) h in
        ap₂ (λ z t. not z && t)
        (shared_same p (root_of fields other a) ps args k.1
        ∙ ap (λ o. is_shared fields writes root p o ps args) (root_same a k.0))
        (all_shared_same ps args k.1)

  -- ---- statements

  after_same : (wide narrow : Scope) → IsNarrower hidden wide narrow → (a : Statement)
      → in_statement hidden a ≡ false
      → IsNarrower hidden (scope_after a wide) (scope_after a narrow)
  after_same wide narrow n (Assign x is e) h = n
  after_same wide narrow n (Reduce x is e) h = n
  after_same wide narrow n (Config f a) h = n
  after_same wide narrow n Pass h = n
  after_same wide narrow n (If c a b) h = n
  after_same wide narrow n (For i lo hi b) h = n
  after_same wide narrow n (Alloc x cell dims memory) h =
      one_more hidden wide narrow x (BufferName cell (length dims) true) n
  after_same wide narrow n (View w x coords) h =
      let p = or_parts (hidden w.id) (hidden x || in_coords hidden coords) h in
      let q = or_parts (hidden x) (in_coords hidden coords) p.1 in
      subst (λ o. IsNarrower hidden (scope_after (View w x coords) wide)
      (with_name narrow w (view_sort o (spans coords)))) (sym (n.sorts x q.0))
      (one_more hidden wide narrow w (view_sort (sort_in wide x) (spans coords)) n)
  after_same wide narrow n (Call k args) h = n

  roots_same : (root other : ℕ → ℕ) → SameRoots hidden root other → (a : Statement)
      → in_statement hidden a ≡ false
      → SameRoots hidden (roots_after a root) (roots_after a other)
  roots_same root other r (Assign x is e) h = r
  roots_same root other r (Reduce x is e) h = r
  roots_same root other r (Config f a) h = r
  roots_same root other r Pass h = r
  roots_same root other r (If c a b) h = r
  roots_same root other r (For i lo hi b) h = r
  roots_same root other r (Alloc x cell dims memory) h = λ y k.
      ap (λ z. cond (y == x.id) x.id z) (r y k)
  roots_same root other r (View w x coords) h = λ y k.
      let p = or_parts (hidden w.id) (hidden x || in_coords hidden coords) h in
      let q = or_parts (hidden x) (in_coords hidden coords) p.1 in
      ap₂ (λ v z. cond (y == w.id) v z) (r x q.0) (r y k)
  roots_same root other r (Call k args) h = r

  module _ (memories : ℕ) (callees : ℕ → Option Callee) where
    call_same : (wide narrow : Scope) → IsNarrower hidden wide narrow → (root other : ℕ → ℕ)
        → SameRoots hidden root other → (c : Option Callee) (args : List Argument)
        → in_arguments hidden args ≡ false
        → is_call fields narrow other c args ≡ is_call fields wide root c args
    call_same wide narrow n root other r None args h = refl
    call_same wide narrow n root other r (Some c) args h =
        ap₂ ◌&&◌ (all_for_same wide narrow n c.procedure.params args h)
        (all_shared_same root other r c.writes c.procedure.params args h)

    write_same : (wide narrow : Scope) → IsNarrower hidden wide narrow → (o : Option Kind)
        (a : Argument) → in_argument hidden a ≡ false
        → is_write fields narrow o a ≡ is_write fields wide o a
    write_same wide narrow n None a h = refl
    write_same wide narrow n (Some kind) a h = kind_same wide narrow n with_strides kind a h

    abbrev Keeps : Scope → (ℕ → ℕ) → Statement → Type 0
    Keeps scope root a = is_statement fields memories callees scope root a ≡ true

    both_keep : {a b : Bool} → a ≡ true → b ≡ true → (a && b) ≡ true
    both_keep p q = cc

    stores : (wide narrow : Scope) → IsNarrower hidden wide narrow → (x : ℕ) (is : List Control)
        (e : Datum) → (hidden x || (in_controls hidden is || in_datum hidden e)) ≡ false
        → (is_access fields narrow x is && is_datum fields narrow e)
        ≡ (is_access fields wide x is && is_datum fields wide e)
    stores wide narrow n x is e h =
        let p = or_parts (hidden x) (in_controls hidden is || in_datum hidden e) h in
        let q = or_parts (in_controls hidden is) (in_datum hidden e) p.1 in
        ap₂ ◌&&◌ (access_same wide narrow n x is (ap₂ ◌||◌ p.0 q.0))
        (datum_same wide narrow n e q.1)

    mutual
      block_narrower : (wide narrow : Scope) → IsNarrower hidden wide narrow
          → (root other : ℕ → ℕ) → SameRoots hidden root other → (b : Block)
          → mentions hidden b ≡ false → is_block fields memories callees wide root b ≡ true
          → is_block fields memories callees narrow other b ≡ true
      block_narrower wide narrow n root other r end h k = refl
      block_narrower wide narrow n root other r (next a b) h k =
          let p = or_parts (in_statement hidden a) (mentions hidden b) h in
          let q = and_parts (is_statement fields memories callees wide root a) _ k in
          both_keep (statement_narrower wide narrow n root other r a p.0 q.0)
          (block_narrower (scope_after a wide) (scope_after a narrow)
          (after_same wide narrow n a p.0) (roots_after a root) (roots_after a other)
          (roots_same root other r a p.0) b p.1 q.1)

      statement_narrower : (wide narrow : Scope) → IsNarrower hidden wide narrow
          → (root other : ℕ → ℕ) → SameRoots hidden root other → (a : Statement)
          → in_statement hidden a ≡ false → Keeps wide root a → Keeps narrow other a
      statement_narrower wide narrow n root other r (Assign x is e) h k =
          stores wide narrow n x is e h ∙ k
      statement_narrower wide narrow n root other r (Reduce x is e) h k =
          stores wide narrow n x is e h ∙ k
      statement_narrower wide narrow n root other r (Config f a) h k =
          write_same wide narrow n (fields f) a h ∙ k
      statement_narrower wide narrow n root other r Pass h k = refl
      statement_narrower wide narrow n root other r (If c a b) h k =
          let p = or_parts (in_condition hidden c) (mentions hidden a || mentions hidden b) h in
          let q = or_parts (mentions hidden a) (mentions hidden b) p.1 in
          let s = and_parts (is_condition fields with_fields wide c) _ k in
          let t = and_parts (not (is_empty a) && (is_short a && is_short b)) _ s.1 in
          let u = and_parts (is_block fields memories callees wide root a) _ t.1 in
          both_keep (condition_same wide narrow n with_fields c p.0 ∙ s.0)
          (both_keep t.0 (both_keep (block_narrower wide narrow n root other r a q.0 u.0)
          (block_narrower wide narrow n root other r b q.1 u.1)))
      statement_narrower wide narrow n root other r (For i lo hi b) h k =
          let p = or_parts (hidden i.id)
          (in_control hidden lo || (in_control hidden hi || mentions hidden b)) h in
          let q = or_parts (in_control hidden lo) (in_control hidden hi || mentions hidden b) p.1 in
          let v = or_parts (in_control hidden hi) (mentions hidden b) q.1 in
          let s = and_parts (is_new wide i) _ k in
          let t =
          and_parts (is_control fields plainly wide lo && is_control fields plainly wide hi) _ s.1
          in
          let u = and_parts (not (is_empty b) && is_short b) _ t.1 in
          both_keep (n.new i s.0)
          (both_keep (ap₂ ◌&&◌ (control_same wide narrow n plainly lo q.0)
          (control_same wide narrow n plainly hi v.0) ∙ t.0)
          (both_keep u.0 (block_narrower (with_name wide i (ControlName Index))
          (with_name narrow i (ControlName Index))
          (one_more hidden wide narrow i (ControlName Index) n) root other r b v.1 u.1)))
      statement_narrower wide narrow n root other r (Alloc x cell dims memory) h k =
          let p = or_parts (hidden x.id) (in_controls hidden dims) h in
          let s = and_parts (is_new wide x) _ k in
          both_keep (n.new x s.0)
          (ap (λ t. t && (is_rank (length dims) && nat_lt memory memories))
          (controls_same wide narrow n dims p.1) ∙ s.1)
      statement_narrower wide narrow n root other r (View w x coords) h k =
          let p = or_parts (hidden w.id) (hidden x || in_coords hidden coords) h in
          let s = and_parts (is_new wide w) _ k in
          both_keep (n.new w s.0)
          (ap (λ t. t && nat_lt 0 (spans coords)) (window_same wide narrow n x coords p.1) ∙ s.1)
      statement_narrower wide narrow n root other r (Call g args) h k =
          call_same wide narrow n root other r (callees g) args h ∙ k

pub narrower_keeps : NarrowerScopesKeepRules
narrower_keeps fields memories callees hidden wide narrow root other b n r h k =
    block_narrower fields hidden memories callees wide narrow n root other r b h k

-- ---- before a statement

-- what is new with one name more is new
pub still_new : (scope : Scope) (x b : Binder) (sort : Sort)
    → is_new (with_name scope x sort) b ≡ true → is_new scope b ≡ true
still_new scope x b sort h = go ((b.id == x.id) || is_text b.name x.name) h
  where
    go : (t : Bool)
        → not (t || list_any (λ m. (b.id == m.binder.id) || is_text b.name m.binder.name) scope)
        ≡ true
        → is_new scope b ≡ true
    go true k = absurd (true≢false (sym k))
    go false k = k

one_less : (scope : Scope) (x : Binder) (sort : Sort)
    → IsNarrower (λ y. y == x.id) (with_name scope x sort) scope
one_less scope x sort = record {
  sorts = λ y h. sym (ap (λ t. if t then Some sort else sort_in scope y) h);
  new = λ b h. still_new scope x b sort h;
}

-- the scope before a statement has the names of the scope behind it that it does not bind
pub before_narrower : (a : Statement) (scope : Scope)
    → IsNarrower (binds a) (scope_after a scope) scope
before_narrower (Assign x is e) scope = record { sorts = λ y h. refl; new = λ b h. h }
before_narrower (Reduce x is e) scope = record { sorts = λ y h. refl; new = λ b h. h }
before_narrower (Config f a) scope = record { sorts = λ y h. refl; new = λ b h. h }
before_narrower Pass scope = record { sorts = λ y h. refl; new = λ b h. h }
before_narrower (If c a b) scope = record { sorts = λ y h. refl; new = λ z h. h }
before_narrower (For i lo hi b) scope = record { sorts = λ y h. refl; new = λ z h. h }
before_narrower (Alloc x cell dims memory) scope =
    one_less scope x (BufferName cell (length dims) true)
before_narrower (View w x coords) scope =
    one_less scope w (view_sort (sort_in scope x) (spans coords))
before_narrower (Call k args) scope = record { sorts = λ y h. refl; new = λ b h. h }

pub roots_before : (a : Statement) (root : ℕ → ℕ) → SameRoots (binds a) (roots_after a root) root
roots_before (Assign x is e) root = λ y h. refl
roots_before (Reduce x is e) root = λ y h. refl
roots_before (Config f a) root = λ y h. refl
roots_before Pass root = λ y h. refl
roots_before (If c a b) root = λ y h. refl
roots_before (For i lo hi b) root = λ y h. refl
roots_before (Alloc x cell dims memory) root = λ y h.
    sym (ap (λ t. cond t x.id (root y)) h)
roots_before (View w x coords) root = λ y h.
    sym (ap (λ t. cond t (root x) (root y)) h)
roots_before (Call k args) root = λ y h. refl

-- a name in scope before a statement that keeps the rules is not bound by it
pub known_not_bound : (fields : ℕ → Option Kind) (memories : ℕ) (callees : ℕ → Option Callee)
    (scope : Scope) (root : ℕ → ℕ) (a : Statement)
    → is_statement fields memories callees scope root a ≡ true
    → (x : ℕ) (sort : Sort) → sort_in scope x ≡ Some sort → binds a x ≡ false
known_not_bound fields memories callees scope root a h x sort e = by (binds a x) refl
  where
    other : (y : Binder) → is_new scope y ≡ true → (x == y.id) ≡ true → ⊥
    other y new same =
        absurd (some_none
        (sym e ∙ ap (sort_in scope) (eqb-true x y.id same) ∙ new_is_none scope y new))
      where
        some_none : Some sort ≡ None → ⊥
        some_none q = cc

    bound : (a : Statement) → is_statement fields memories callees scope root a ≡ true
        → binds a x ≡ true → ⊥
    bound (Assign y is d) k b = true≢false (sym b)
    bound (Reduce y is d) k b = true≢false (sym b)
    bound (Config f d) k b = true≢false (sym b)
    bound Pass k b = true≢false (sym b)
    bound (If c d f) k b = true≢false (sym b)
    bound (For i lo hi d) k b = true≢false (sym b)
    bound (Alloc y cell dims memory) k b = other y (and_parts (is_new scope y) _ k).0 b
    bound (View w y coords) k b = other w (and_parts (is_new scope w) _ k).0 b
    bound (Call g args) k b = true≢false (sym b)

    by : (t : Bool) → binds a x ≡ t → t ≡ false
    by true k = absurd (bound a h k)
    by false k = refl

-- ---- before a block

more_hidden : (fewer more : ℕ → Bool) (wide narrow : Scope)
    → ((x : ℕ) → more x ≡ false → fewer x ≡ false)
    → IsNarrower fewer wide narrow → IsNarrower more wide narrow
more_hidden fewer more wide narrow less n =
    record { sorts = λ x h. n.sorts x (less x h); new = n.new }

two_steps : (hidden : ℕ → Bool) (wide middle narrow : Scope) → IsNarrower hidden wide middle
    → IsNarrower hidden middle narrow → IsNarrower hidden wide narrow
two_steps hidden wide middle narrow m n = record {
  sorts = λ x h. n.sorts x h ∙ m.sorts x h;
  new = λ b h. n.new b (m.new b h);
}

-- the scope before a block has the names of the scope behind it that it does not bind
pub before_block : (b : Block) (scope : Scope)
    → IsNarrower (top_binders b) (scope_at (behind b (Here end)) scope) scope
before_block end scope = record { sorts = λ y h. refl; new = λ x h. h }
before_block (next a b) scope =
    let after = scope_after a scope in
    let all = top_binders (next a b) in
    let last = scope_at (behind b (Here end)) after in
    two_steps all last after scope
    (more_hidden (top_binders b) all last after (λ x h. (or_parts (binds a x) (top_binders b x) h).1)
    (before_block b after))
    (more_hidden (binds a) all after scope (λ x h. (or_parts (binds a x) (top_binders b x) h).0)
    (before_narrower a scope))

module _ (fields : ℕ → Option Kind) (memories : ℕ) (callees : ℕ → Option Callee) where
  rest_keeps : (b c : Block) (scope : Scope) (root : ℕ → ℕ)
      → is_block fields memories callees scope root (joined b c) ≡ true
      → is_block fields memories callees (scope_at (behind b (Here end)) scope)
      (roots_at (behind b (Here end)) root) c ≡ true
  rest_keeps end c scope root h = h
  rest_keeps (next a b) c scope root h =
      rest_keeps b c (scope_after a scope) (roots_after a root)
      (and_parts (is_statement fields memories callees scope root a) _ h).1

  -- the second part of a block that uses no name of the first keeps the rules without the first
  pub second_keeps : (b c : Block) (scope : Scope) (root : ℕ → ℕ)
      → is_block fields memories callees scope root (joined b c) ≡ true
      → mentions (top_binders b) c ≡ false
      → is_block fields memories callees scope (roots_at (behind b (Here end)) root) c ≡ true
  second_keeps b c scope root h unused =
      let last = scope_at (behind b (Here end)) scope in
      let roots = roots_at (behind b (Here end)) root in
      narrower_keeps fields memories callees (top_binders b) last scope roots roots c
      (before_block b scope) (λ x k. refl) unused (rest_keeps b c scope root h)
