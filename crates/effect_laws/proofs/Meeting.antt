-- Two accesses that reach one cell meet: all that is asked of them holds for some values.
use Rattle.std.proofs.Common.{◌≡◌, ◌<◌, ◌≤◌, ◌<ℤ◌, ℕ, zero, suc, ◌+◌, ◌*◌, max, ℤ, pos, true, false, List, [], ◌∷◌, ◌++◌, map, Option, Some, None, IfSome, option_map, slice_get, refl, sym, ap, ◌∙◌, subst, subst₂, arith}
use Rattle.std.specs.Prelude.{get_or, flat_map}
use Rattle.std.proofs.lemmas.Int.{ints}
use Rattle.std.proofs.lemmas.Option.{slice_get-map}
use Rattle.exo_meaning.specs.Orders.{Each}
use Rattle.affine_forms.specs.Atoms.{Valuation, value}
use Rattle.affine_forms.specs.Formulas.{Formula, less, is_met, all_met}
use Rattle.affine_systems.specs.Systems.{HaveNoPoint, KeepsKinds}
use Rattle.affine_systems.specs.Laws.{SystemsLaw}
use Rattle.check_laws.proofs.OfFacts.Truths.{joined}
use Rattle.exo_effects.specs.Accesses.{Access}
use Rattle.exo_effects.specs.Orders.{Turn, OrderRow, Less, Greater, Order}
use Rattle.exo_effects.specs.Fresh.{past_linear, past_formula, past_all, past_access, past_turn, past_order}
use Rattle.exo_effects.specs.Conflicts.{span_number, turns_apart, variable, bounds, re_turn, where_both, order_row, points, equations, asked, variables_of, copied_turns, copied, meeting}
use Rattle.effect_laws.specs.Covers.{Reaches, is_among}
use Rattle.effect_laws.specs.Clear.{IsInOrder, AreCopies}
use Rattle.effect_laws.proofs.Renamed.{left_of, right_of, with_numbers, re_all_met, same_formulas}
use Rattle.effect_laws.proofs.Points.{not_all_met}
use Rattle.effect_laws.proofs.Copies.{nth, mixed, mixed_at, mixed_below, both_met, only_value, less_true, equations_met, turns_same, bounds_met, asked_met, access_at}

-- an access of one copy at a cell, by the control values of the copy's state
pub record IsAtCell (control : ℕ → ℤ) (x : Access) (at : List ℤ) : Type 0 where
  pub numbers : ℕ → ℤ
  pub others : (y : ℕ) → is_among x.own y ≡ false → numbers y ≡ control y
  pub reached : Reaches x numbers at

past_of : (ts : List Turn) (k : ℕ) (t : Turn) (base : ℕ) → slice_get ts k ≡ Some t → past_all past_turn ts ≤ base → past_turn t ≤ base
past_of [] k t base e h = absurd (no_turn e)
  where
    no_turn : None ≡ Some t → ⊥
    no_turn e = cc
past_of (s ∷ ts) zero t base e h = subst (λ u. past_turn u ≤ base) (same e) (left_of (past_turn s) (past_all past_turn ts) base h)
  where
    same : Some s ≡ Some t → s ≡ t
    same e = cc
past_of (s ∷ ts) (suc k) t base e h = past_of ts k t base e (right_of (past_turn s) (past_all past_turn ts) base h)

module _ (ctx : List Formula) (order : Order) (base : ℕ) (x y : Access) (v : Valuation) (m n : ℕ → ℤ) (copies : AreCopies order v m n) (at : List ℤ) (one : IsAtCell m x at) (other : IsAtCell n y at) where
  abbrev w : ℕ → ℤ
  w = mixed base v.variable (map m (variables_of order.first)) (map n (variables_of order.second)) (map one.numbers x.own) (map other.numbers y.own) at at

  abbrev these : Valuation
  these = with_numbers v w

  below : (z : ℕ) → z < base → w z ≡ v.variable z
  below z h = mixed_below base v.variable (map m (variables_of order.first)) (map n (variables_of order.second)) (map one.numbers x.own) (map other.numbers y.own) at at z h

  number_at : (k r : ℕ) → r < 6 → w (base + (6 * k + r)) ≡ nth base v.variable (map m (variables_of order.first)) (map n (variables_of order.second)) (map one.numbers x.own) (map other.numbers y.own) at at r k
  number_at k r h = mixed_at base v.variable (map m (variables_of order.first)) (map n (variables_of order.second)) (map one.numbers x.own) (map other.numbers y.own) at at k r h

  first_turn : (k : ℕ) → w (base + (6 * k + 0)) ≡ get_or (map m (variables_of order.first)) k (pos 0)
  first_turn k = number_at k 0 (omega arith)

  second_turn : (k : ℕ) → w (base + (6 * k + 1)) ≡ get_or (map n (variables_of order.second)) k (pos 0)
  second_turn k = number_at k 1 (omega arith)

  first_own : (k : ℕ) → w (base + (6 * k + 2)) ≡ get_or (map one.numbers x.own) k (pos 0)
  first_own k = number_at k 2 (omega arith)

  second_own : (k : ℕ) → w (base + (6 * k + 3)) ≡ get_or (map other.numbers y.own) k (pos 0)
  second_own k = number_at k 3 (omega arith)

  first_span : (k : ℕ) → w (base + (6 * k + 4)) ≡ get_or at k (pos 0)
  first_span k = number_at k 4 (omega arith)

  second_span : (k : ℕ) → w (base + (6 * k + 5)) ≡ get_or at k (pos 0)
  second_span k = number_at k 5 (omega arith)

  -- ---- the order

  abbrev firsts : List Turn
  firsts = copied_turns base 0 order.first

  abbrev seconds : List Turn
  seconds = copied_turns base 1 order.second

  first_same : (t : Turn) → past_turn t ≤ base → value these (variable (turns_apart base 0 (variables_of order.first) t.variable)) ≡ m t.variable
  first_same t h = only_value these (turns_apart base 0 (variables_of order.first) t.variable) ∙ turns_same base 0 v w m one.numbers order.first x at below first_turn first_own first_span copies.first_else one.others t.variable (left_of (suc t.variable) (max (past_linear t.lower) (past_linear t.upper)) base h)

  second_same : (t : Turn) → past_turn t ≤ base → value these (variable (turns_apart base 1 (variables_of order.second) t.variable)) ≡ n t.variable
  second_same t h = only_value these (turns_apart base 1 (variables_of order.second) t.variable) ∙ turns_same base 1 v w n other.numbers order.second y at below second_turn second_own second_span copies.second_else other.others t.variable (left_of (suc t.variable) (max (past_linear t.lower) (past_linear t.upper)) base h)

  module _ (past : past_order order ≤ base) where
    past_first : past_all past_turn order.first ≤ base
    past_first = left_of (past_all past_turn order.first) (past_all past_turn order.second) base past

    past_second : past_all past_turn order.second ≤ base
    past_second = right_of (past_all past_turn order.first) (past_all past_turn order.second) base past

    abbrev re_first : Turn → Turn
    re_first = re_turn (turns_apart base 0 (variables_of order.first))

    abbrev re_second : Turn → Turn
    re_second = re_turn (turns_apart base 1 (variables_of order.second))

    row_met : (row : OrderRow) → IsInOrder order m n row → all_met these (order_row firsts seconds row) ≡ true
    row_met (Less k) h = go (slice_get order.first k) refl (slice_get order.second k) refl h
      where
        go : (a : Option Turn) → slice_get order.first k ≡ a → (b : Option Turn) → slice_get order.second k ≡ b → IfSome a (λ s. IfSome b (λ t. m s.variable <ℤ n t.variable)) → all_met these (order_row firsts seconds (Less k)) ≡ true
        go a i b j h =
            subst₂ (λ c d. all_met these (where_both c d (λ x y. less (variable x) (variable y))) ≡ true) (sym (slice_get-map re_first order.first k ∙ ap (option_map re_first) i)) (sym (slice_get-map re_second order.second k ∙ ap (option_map re_second) j)) (both a i b j h)
          where
            both : (a : Option Turn) → slice_get order.first k ≡ a → (b : Option Turn) → slice_get order.second k ≡ b → IfSome a (λ s. IfSome b (λ t. m s.variable <ℤ n t.variable)) → all_met these (where_both (option_map re_first a) (option_map re_second b) (λ x y. less (variable x) (variable y))) ≡ true
            both None i b j h = refl
            both (Some s) i None j h = refl
            both (Some s) i (Some t) j h =
                let p = first_same s (past_of order.first k s base i past_first) in
                let q = second_same t (past_of order.second k t base j past_second) in
                joined (is_met these (less (variable (re_first s).variable) (variable (re_second t).variable))) true (less_true these (variable (re_first s).variable) (variable (re_second t).variable) (omega (arith, ints, p, q, h))) refl
    row_met (Greater k) h = go (slice_get order.first k) refl (slice_get order.second k) refl h
      where
        go : (a : Option Turn) → slice_get order.first k ≡ a → (b : Option Turn) → slice_get order.second k ≡ b → IfSome a (λ s. IfSome b (λ t. n t.variable <ℤ m s.variable)) → all_met these (order_row firsts seconds (Greater k)) ≡ true
        go a i b j h =
            subst₂ (λ c d. all_met these (where_both c d (λ x y. less (variable y) (variable x))) ≡ true) (sym (slice_get-map re_first order.first k ∙ ap (option_map re_first) i)) (sym (slice_get-map re_second order.second k ∙ ap (option_map re_second) j)) (both a i b j h)
          where
            both : (a : Option Turn) → slice_get order.first k ≡ a → (b : Option Turn) → slice_get order.second k ≡ b → IfSome a (λ s. IfSome b (λ t. n t.variable <ℤ m s.variable)) → all_met these (where_both (option_map re_first a) (option_map re_second b) (λ x y. less (variable y) (variable x))) ≡ true
            both None i b j h = refl
            both (Some s) i None j h = refl
            both (Some s) i (Some t) j h =
                let p = first_same s (past_of order.first k s base i past_first) in
                let q = second_same t (past_of order.second k t base j past_second) in
                joined (is_met these (less (variable (re_second t).variable) (variable (re_first s).variable))) true (less_true these (variable (re_second t).variable) (variable (re_first s).variable) (omega (arith, ints, p, q, h))) refl

    rows_met : (rows : List OrderRow) → Each (IsInOrder order m n) rows → all_met these (flat_map (order_row firsts seconds) rows) ≡ true
    rows_met [] h = refl
    rows_met (row ∷ rows) h = both_met these (order_row firsts seconds row) (flat_map (order_row firsts seconds) rows) (row_met row h.0) (rows_met rows h.1)

    -- ---- all of it

    ctx_met : past_all past_formula ctx ≤ base → all_met v ctx ≡ true → all_met these ctx ≡ true
    ctx_met h met = ap (all_met these) (sym (same_formulas ctx)) ∙ re_all_met v (λ z. z) w v.variable base below ctx h ∙ met

    pub meeting_met : past_all past_formula ctx ≤ base → past_access x ≤ base → past_access y ≤ base → all_met v ctx ≡ true → all_met these (meeting ctx order base x y) ≡ true
    meeting_met p q r met =
        let a = copied base 0 order.first x in
        let b = copied base 1 order.second y in
        let sa = span_number base 0 in
        let sb = span_number base 1 in
        let es = equations (points sa 0 a.coords) (points sb 0 b.coords) in
        let rows = flat_map (order_row firsts seconds) order.rows in
        both_met these ctx (flat_map bounds firsts ++ (flat_map bounds seconds ++ (rows ++ (asked sa a ++ (asked sb b ++ es))))) (ctx_met p met)
        (both_met these (flat_map bounds firsts) (flat_map bounds seconds ++ (rows ++ (asked sa a ++ (asked sb b ++ es))))
        (bounds_met base 0 v w m one.numbers order.first x at below first_turn first_own first_span copies.first_else one.others order.first past_first copies.first_within)
        (both_met these (flat_map bounds seconds) (rows ++ (asked sa a ++ (asked sb b ++ es)))
        (bounds_met base 1 v w n other.numbers order.second y at below second_turn second_own second_span copies.second_else other.others order.second past_second copies.second_within)
        (both_met these rows (asked sa a ++ (asked sb b ++ es)) (rows_met order.rows copies.ordered)
        (both_met these (asked sa a) (asked sb b ++ es)
        (asked_met base 0 v w m one.numbers order.first x at below first_turn first_own first_span copies.first_else one.others q one.reached)
        (both_met these (asked sb b) es
        (asked_met base 1 v w n other.numbers order.second y at below second_turn second_own second_span copies.second_else other.others r other.reached)
        (equations_met these (points sa 0 a.coords) (points sb 0 b.coords) at
        (access_at base 0 v w m one.numbers order.first x at below first_turn first_own first_span copies.first_else one.others q one.reached)
        (access_at base 1 v w n other.numbers order.second y at below second_turn second_own second_span copies.second_else other.others r other.reached)))))))

    -- where its systems have no point, they do not
    pub do_not_meet : SystemsLaw → KeepsKinds v → past_all past_formula ctx ≤ base → past_access x ≤ base → past_access y ≤ base → all_met v ctx ≡ true → HaveNoPoint (meeting ctx order base x y) → ⊥
    do_not_meet systems keeps p q r met shown = not_all_met these systems (record { entry = keeps.entry; unknown = keeps.unknown }) (meeting ctx order base x y) shown (meeting_met p q r met)
