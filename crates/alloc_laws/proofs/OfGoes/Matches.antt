-- Blocks that keep the rules have as many coordinates in each access as its name has dimensions.
use Rattle.std.proofs.Common.{◌≡◌, ◌==◌, ◌&&◌, not, ℕ, Bool, true, false, true≢false, cond, List}
use Rattle.std.proofs.Common.{[], ◌∷◌, length, Option, Some, None, refl, sym, ap, ◌∙◌, eqb-true}
use Rattle.std.specs.List.{list_any, list_all}
use Rattle.exo_tree.specs.Tree.{Kind, Index, Cell, Control, Datum, Const, Read, Negated, Relu}
use Rattle.exo_tree.specs.Tree.{Plus, Minus, Times, Select, Coord, Argument, ControlArg, ConditionArg}
use Rattle.exo_tree.specs.Tree.{Whole, Window, Param, ParamKind, ControlParam, TensorParam, WindowParam}
use Rattle.exo_tree.specs.Tree.{Statement, Assign, Reduce, Config, Pass, If, For, Alloc, View, Call}
use Rattle.exo_tree.specs.Tree.{Block, end, next}
use Rattle.exo_meaning.specs.Calls.{Callee}
use Rattle.exo_meaning.specs.Run.{roots_after}
use Rattle.exo_meaning.specs.Units.{Scope, ControlName, BufferName, sort_in, with_name, has_rank}
use Rattle.exo_meaning.specs.Units.{has_cell, scope_after, view_sort, spans, plainly, with_fields}
use Rattle.exo_meaning.specs.Units.{is_new, is_control, are_controls, is_condition}
use Rattle.exo_meaning.specs.Units.{is_access, is_datum, is_coord, is_window, is_for}
use Rattle.exo_meaning.specs.Units.{are_for, share_nothing_written, is_call, is_write, is_empty}
use Rattle.exo_meaning.specs.Units.{is_short, is_block, is_statement}
use Rattle.exo_meaning.proofs.Frame.{or_parts}
use Rattle.meaning_laws.specs.Scoped.{has_binder, step_has_binder}
use Rattle.meaning_laws.specs.Sound.{binds}
use Rattle.meaning_laws.proofs.Apart.{binds_less}
use Rattle.meaning_laws.proofs.Substitute.{and_parts}
use Rattle.buffer_laws.specs.StageMem.{has_span_at_point}
use Rattle.alloc_laws.specs.Goes.Fits.{is_for_field, IndicesMatch, CoordsMatch, DatumMatches}
use Rattle.alloc_laws.specs.Goes.Fits.{ArgumentMatches, ArgumentsMatch, StatementMatches}
use Rattle.alloc_laws.specs.Goes.Fits.{BlockMatches}
use Rattle.alloc_laws.specs.Goes.Fits.{InnerMatch, argument_spans, has_spans, step_has_spans}
use Rattle.alloc_laws.specs.Goes.Fits.{MatchesByRules}

module _ (fields : ℕ → Option Kind) (memories : ℕ) (callees : ℕ → Option Callee) (x : ℕ)
    (cell : Cell) (dense : Bool) (dims : List Control) (coords : List Coord) where
  abbrev HasSort : Scope → Type 0
  HasSort scope = sort_in scope x ≡ Some (BufferName cell (length coords) dense)

  sort_stays : (scope : Scope) (a : Statement) → binds a x ≡ false
      → sort_in (scope_after a scope) x ≡ sort_in scope x
  sort_stays scope (Assign y is d) h = refl
  sort_stays scope (Reduce y is d) h = refl
  sort_stays scope (Config f g) h = refl
  sort_stays scope Pass h = refl
  sort_stays scope (If c b d) h = refl
  sort_stays scope (For i lo hi b) h = refl
  sort_stays scope (Alloc y c ds memory) h =
      ap (λ t. cond t (Some (BufferName c (length ds) true)) (sort_in scope x)) h
  sort_stays scope (View w y ds) h =
      ap (λ t. cond t (Some (view_sort (sort_in scope y) (spans ds))) (sort_in scope x)) h
  sort_stays scope (Call k gs) h = refl

  module _ (scope : Scope) (sort : HasSort scope) where
    ranked : (y n : ℕ) → has_rank n (sort_in scope y) ≡ true → (y == x) ≡ true
        → n ≡ length coords
    ranked y n r e = eqb-true n (length coords)
        (sym (ap (has_rank n) (ap (sort_in scope) (eqb-true y x e) ∙ sort)) ∙ r)

    indices : (y : ℕ) (is : List Control) → is_access fields scope y is ≡ true
        → IndicesMatch x coords y is
    indices y is k e = ranked y (length is) (and_parts (has_rank (length is) (sort_in scope y))
        (are_controls fields plainly scope is) k).0 e

    datum : (d : Datum) → is_datum fields scope d ≡ true → DatumMatches x coords d
    datum (Const n) k = tt
    datum (Read y is) k = indices y is k
    datum (Negated d) k = datum d k
    datum (Relu d) k = datum d k
    datum (Plus d e) k = let p = and_parts (is_datum fields scope d) (is_datum fields scope e) k in
        (datum d p.0, datum e p.1)
    datum (Minus d e) k = let p = and_parts (is_datum fields scope d) (is_datum fields scope e) k in
        (datum d p.0, datum e p.1)
    datum (Times d e) k = let p = and_parts (is_datum fields scope d) (is_datum fields scope e) k in
        (datum d p.0, datum e p.1)
    datum (Select d e f g) k =
        let is = is_datum fields scope in
        let p = and_parts (is d && is e) (is f && is g) k in
        let q = and_parts (is d) (is e) p.0 in
        let r = and_parts (is f) (is g) p.1 in
        (datum d q.0, datum e q.1, datum f r.0, datum g r.1)

    window : (y : ℕ) (ds : List Coord) → is_window fields scope y ds ≡ true
        → ((y == x) && has_span_at_point coords ds) ≡ false → CoordsMatch x coords y ds
    window y ds k h e = (
      ranked y (length ds) (and_parts (has_rank (length ds) (sort_in scope y))
          (list_all (is_coord fields scope) ds) k).0 e,
      sym (ap (λ t. t && has_span_at_point coords ds) e) ∙ h,
    )

    argument : (kind : ParamKind) (g : Argument) → is_for fields scope kind g ≡ true
        → argument_spans x dims coords g ≡ false → ArgumentMatches x coords g
    argument kind (ControlArg e) k h = tt
    argument kind (ConditionArg c) k h = tt
    argument kind (Whole y) k h = tt
    argument (ControlParam kind) (Window y ds) k h = absurd (true≢false (sym k))
    argument (TensorParam c es memory) (Window y ds) k h =
        let p = and_parts (has_cell c (sort_in scope y)) (is_window fields scope y ds && _) k in
        window y ds (and_parts (is_window fields scope y ds) _ p.1).0 h
    argument (WindowParam c es memory) (Window y ds) k h =
        let p = and_parts (has_cell c (sort_in scope y)) (is_window fields scope y ds && _) k in
        window y ds (and_parts (is_window fields scope y ds) _ p.1).0 h

    arguments : (ps : List Param) (gs : List Argument) → are_for fields scope ps gs ≡ true
        → list_any (argument_spans x dims coords) gs ≡ false → ArgumentsMatch x coords gs
    arguments ps [] k h = tt
    arguments [] (g ∷ gs) k h = absurd (true≢false (sym k))
    arguments (p ∷ ps) (g ∷ gs) k h =
        let q = and_parts (is_for fields scope p.kind g) (are_for fields scope ps gs) k in
        let r = or_parts (argument_spans x dims coords g)
        (list_any (argument_spans x dims coords) gs) h in
        (argument p.kind g q.0 r.0, arguments ps gs q.1 r.1)

    called : (o : Option Callee) (root : ℕ → ℕ) (gs : List Argument)
        → is_call fields scope root o gs ≡ true
        → list_any (argument_spans x dims coords) gs ≡ false → ArgumentsMatch x coords gs
    called None root gs k h = absurd (true≢false (sym k))
    called (Some c) root gs k h = arguments c.procedure.params gs
        (and_parts (are_for fields scope c.procedure.params gs)
        (share_nothing_written fields c.writes root c.procedure.params gs) k).0 h

    written : (o : Option Kind) (g : Argument) → is_write fields scope o g ≡ true
        → is_for_field g ≡ true
    written o (ControlArg e) k = refl
    written o (ConditionArg c) k = refl
    written None (Whole y) k = absurd (true≢false (sym k))
    written (Some kind) (Whole y) k = absurd (true≢false (sym k))
    written None (Window y ds) k = absurd (true≢false (sym k))
    written (Some kind) (Window y ds) k = absurd (true≢false (sym k))

    statement : (root : ℕ → ℕ) (a : Statement)
        → is_statement fields memories callees scope root a ≡ true
        → step_has_spans x dims coords a ≡ false → StatementMatches x coords a
    statement root (Assign y is d) k h =
        let p = and_parts (is_access fields scope y is) (is_datum fields scope d) k in
        (indices y is p.0, datum d p.1)
    statement root (Reduce y is d) k h =
        let p = and_parts (is_access fields scope y is) (is_datum fields scope d) k in
        (indices y is p.0, datum d p.1)
    statement root (Config f g) k h = written (fields f) g k
    statement root Pass k h = tt
    statement root (If c b d) k h = tt
    statement root (For i lo hi b) k h = tt
    statement root (Alloc y c ds memory) k h = tt
    statement root (View w y ds) k h =
        let p = and_parts (is_new scope w) (is_window fields scope y ds && _) k in
        window y ds (and_parts (is_window fields scope y ds) _ p.1).0 h
    statement root (Call n gs) k h = called (callees n) root gs k h

  mutual
    block : (scope : Scope) (root : ℕ → ℕ) (b : Block) → HasSort scope → has_binder b x ≡ false
        → is_block fields memories callees scope root b ≡ true
        → has_spans x dims coords b ≡ false → BlockMatches x coords b
    block scope root end sort own k h = tt
    block scope root (next a b) sort own k h =
        let p = or_parts (step_has_binder a x) (has_binder b x) own in
        let q = and_parts (is_statement fields memories callees scope root a)
        (is_block fields memories callees (scope_after a scope) (roots_after a root) b) k in
        let r = or_parts (step_has_spans x dims coords a) (has_spans x dims coords b) h in (
          statement scope sort root a q.0 r.0,
          inner scope root a sort p.0 q.0 r.0,
          block (scope_after a scope) (roots_after a root) b
              (sort_stays scope a (binds_less a x p.0) ∙ sort) p.1 q.1 r.1,
        )

    inner : (scope : Scope) (root : ℕ → ℕ) (a : Statement) → HasSort scope
        → step_has_binder a x ≡ false
        → is_statement fields memories callees scope root a ≡ true
        → step_has_spans x dims coords a ≡ false → InnerMatch x coords a
    inner scope root (Assign y is d) sort own k h = tt
    inner scope root (Reduce y is d) sort own k h = tt
    inner scope root (Config f g) sort own k h = tt
    inner scope root Pass sort own k h = tt
    inner scope root (If c b d) sort own k h =
        let is = is_block fields memories callees scope root in
        let p = and_parts (is_condition fields with_fields scope c)
        ((not (is_empty b) && (is_short b && is_short d)) && (is b && is d)) k in
        let q = and_parts (not (is_empty b) && (is_short b && is_short d)) (is b && is d) p.1 in
        let r = and_parts (is b) (is d) q.1 in
        let m = or_parts (has_binder b x) (has_binder d x) own in
        let n = or_parts (has_spans x dims coords b) (has_spans x dims coords d) h in
        (block scope root b sort m.0 r.0 n.0, block scope root d sort m.1 r.1 n.1)
    inner scope root (For i lo hi b) sort own k h =
        let within = with_name scope i (ControlName Index) in
        let is = is_block fields memories callees within root b in
        let ends = is_control fields plainly scope lo && is_control fields plainly scope hi in
        let p = and_parts (is_new scope i) (ends && ((not (is_empty b) && is_short b) && is)) k in
        let q = and_parts ends ((not (is_empty b) && is_short b) && is) p.1 in
        let r = and_parts (not (is_empty b) && is_short b) is q.1 in
        let m = or_parts (x == i.id) (has_binder b x) own in
        block within root b
        (ap (λ t. cond t (Some (ControlName Index)) (sort_in scope x)) m.0 ∙ sort) m.1 r.1 h
    inner scope root (Alloc y c ds memory) sort own k h = tt
    inner scope root (View w y ds) sort own k h = tt
    inner scope root (Call n gs) sort own k h = tt

pub matches_by_rules : MatchesByRules
matches_by_rules fields memories callees scope root x cell dense dims coords b sort own k h =
    block fields memories callees x cell dense dims coords scope root b sort own k h
