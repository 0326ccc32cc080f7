-- The systems of two accesses do not depend on the number from which the copies have their variables.
use Rattle.std.proofs.Common.{◌≡◌, ◌<◌, ◌≤◌, ◌+◌, ◌*◌, ℕ, suc, max, nat_lt, cond, List, [], ◌∷◌, ◌++◌, map, Option, Some, None, option_map, slice_get, refl, sym, ap, ap₂, ◌∙◌, arith}
use Rattle.std.specs.Prelude.{flat_map}
use Rattle.std.proofs.lemmas.List.{map-append}
use Rattle.std.proofs.lemmas.Option.{slice_get-map}
use Rattle.std.proofs.lemmas.Bool.Decides.{nat_tests}
use Rattle.affine_forms.specs.Atoms.{Linear}
use Rattle.affine_forms.specs.Formulas.{Formula, less, at_most}
use Rattle.exo_effects.specs.Accesses.{AccessCoord, At, Range, Access}
use Rattle.exo_effects.specs.Orders.{Turn, OrderRow, Less, Greater, Order}
use Rattle.affine_systems.specs.Systems.{systems_of, cases_stated}
use Rattle.exo_effects.specs.Conflicts.{place_in, turn_number, own_number, span_number, turns_apart, apart, variable, bounds, re_turn, re_coord, re_access, where_both, order_row, points, span_rows, equations, asked, variables_of, copied_turns, copied, meeting}
use Rattle.exo_effects.specs.Fresh.{past_linear, past_formula, past_all, past_coord, past_access, past_turn, past_order}
use Rattle.exo_effects.specs.Renamed.{re_linear, re_formula}
use Rattle.effect_conflicts.proofs.RenamedTerms.{KeepsApart, re_less, re_at_most, re_equal}
use Rattle.effect_conflicts.proofs.RenamedSystems.{re_systems_of, re_cases_stated}
use Rattle.effect_conflicts.proofs.RenamedTwice.{left_of, right_of, linear_twice, formulas_twice}
use Rattle.effect_conflicts.proofs.RenamedTwice.{coords_twice, formulas_stay}

-- all from b on is moved up by d
abbrev moved_up : ℕ → ℕ → ℕ → ℕ
moved_up b d x = cond (nat_lt x b) x (x + d)

module _ (b d : ℕ) where
  abbrev t : ℕ → ℕ
  t x = moved_up b d x

  low : (x : ℕ) → x < b → t x ≡ x
  low x h = grind (arith, nat_tests)

  high : (m : ℕ) → t (b + m) ≡ (b + d) + m
  high m = grind (arith, nat_tests)

  apart_up : KeepsApart t
  apart_up x y = grind (arith, nat_tests)

  turns_up : (side : ℕ) (vs : List ℕ) (x : ℕ) → x < b → t (turns_apart b side vs x) ≡ turns_apart (b + d) side vs x
  turns_up side vs x h = go (place_in vs x)
    where
      go : (o : Option ℕ) → t (elim o [ None ↦ x | Some k ↦ turn_number b side k ]) ≡ elim o [ None ↦ x | Some k ↦ turn_number (b + d) side k ]
      go None = low x h
      go (Some k) = high (6 * k + side)

  copies_up : (side : ℕ) (vs own : List ℕ) (x : ℕ) → x < b → t (apart b side vs own x) ≡ apart (b + d) side vs own x
  copies_up side vs own x h = go (place_in own x)
    where
      go : (o : Option ℕ) → t (elim o [ None ↦ turns_apart b side vs x | Some k ↦ own_number b side k ]) ≡ elim o [ None ↦ turns_apart (b + d) side vs x | Some k ↦ own_number (b + d) side k ]
      go None = turns_up side vs x h
      go (Some k) = high (6 * k + (2 + side))

  span_up : (side k : ℕ) → t (span_number b side k) ≡ span_number (b + d) side k
  span_up side k = high (6 * k + (4 + side))

  -- ---- turns

  turn_up : (side : ℕ) (vs : List ℕ) (u : Turn) → past_turn u ≤ b → re_turn t (re_turn (turns_apart b side vs) u) ≡ re_turn (turns_apart (b + d) side vs) u
  turn_up side vs u h =
      let r = turns_apart b side vs in
      let s = turns_apart (b + d) side vs in
      let own = left_of (suc u.variable) (max (past_linear u.lower) (past_linear u.upper)) b h in
      let ends = right_of (suc u.variable) (max (past_linear u.lower) (past_linear u.upper)) b h in
      ap (λ x. record { variable = x; lower = re_linear t (re_linear r u.lower); upper = re_linear t (re_linear r u.upper) }) (turns_up side vs u.variable (omega (arith, own)))
      ∙ ap₂ (λ k l. record { variable = s u.variable; lower = k; upper = l })
      (linear_twice b t r s (turns_up side vs) u.lower (left_of (past_linear u.lower) (past_linear u.upper) b ends))
      (linear_twice b t r s (turns_up side vs) u.upper (right_of (past_linear u.lower) (past_linear u.upper) b ends))

  all_turns_up : (side : ℕ) (vs : List ℕ) (us : List Turn) → past_all past_turn us ≤ b → map (re_turn t) (map (re_turn (turns_apart b side vs)) us) ≡ map (re_turn (turns_apart (b + d) side vs)) us
  all_turns_up side vs [] h = refl
  all_turns_up side vs (u ∷ us) h = ap₂ (λ a vs. a ∷ vs) (turn_up side vs u (left_of (past_turn u) (past_all past_turn us) b h)) (all_turns_up side vs us (right_of (past_turn u) (past_all past_turn us) b h))

  copied_up : (side : ℕ) (us : List Turn) → past_all past_turn us ≤ b → map (re_turn t) (copied_turns b side us) ≡ copied_turns (b + d) side us
  copied_up side us h = all_turns_up side (variables_of us) us h

  bounds_up : (us : List Turn) → map (re_formula t) (flat_map bounds us) ≡ flat_map bounds (map (re_turn t) us)
  bounds_up [] = refl
  bounds_up (u ∷ us) =
      map-append (re_formula t) (bounds u) (flat_map bounds us)
      ∙ ap₂ (λ f g. f ++ g) (ap₂ (λ f g. f ∷ g ∷ []) (re_at_most t apart_up u.lower (variable u.variable)) (re_less t apart_up (variable u.variable) u.upper)) (bounds_up us)

  row_up : (ss us : List Turn) (row : OrderRow) → map (re_formula t) (order_row ss us row) ≡ order_row (map (re_turn t) ss) (map (re_turn t) us) row
  row_up ss us (Less k) = go (slice_get ss k) (slice_get us k) ∙ ap₂ (λ o p. where_both o p (λ x y. less (variable x) (variable y))) (sym (slice_get-map (re_turn t) ss k)) (sym (slice_get-map (re_turn t) us k))
    where
      go : (o p : Option Turn) → map (re_formula t) (where_both o p (λ x y. less (variable x) (variable y))) ≡ where_both (option_map (re_turn t) o) (option_map (re_turn t) p) (λ x y. less (variable x) (variable y))
      go None p = refl
      go (Some u) None = refl
      go (Some u) (Some v) = ap (λ f. f ∷ []) (re_less t apart_up (variable u.variable) (variable v.variable))
  row_up ss us (Greater k) = go (slice_get ss k) (slice_get us k) ∙ ap₂ (λ o p. where_both o p (λ x y. less (variable y) (variable x))) (sym (slice_get-map (re_turn t) ss k)) (sym (slice_get-map (re_turn t) us k))
    where
      go : (o p : Option Turn) → map (re_formula t) (where_both o p (λ x y. less (variable y) (variable x))) ≡ where_both (option_map (re_turn t) o) (option_map (re_turn t) p) (λ x y. less (variable y) (variable x))
      go None p = refl
      go (Some u) None = refl
      go (Some u) (Some v) = ap (λ f. f ∷ []) (re_less t apart_up (variable v.variable) (variable u.variable))

  rows_up : (ss us : List Turn) (rows : List OrderRow) → map (re_formula t) (flat_map (order_row ss us) rows) ≡ flat_map (order_row (map (re_turn t) ss) (map (re_turn t) us)) rows
  rows_up ss us [] = refl
  rows_up ss us (row ∷ rows) = map-append (re_formula t) (order_row ss us row) (flat_map (order_row ss us) rows) ∙ ap₂ (λ f g. f ++ g) (row_up ss us row) (rows_up ss us rows)

  -- ---- accesses

  access_up : (side : ℕ) (ts : List Turn) (x : Access) → past_access x ≤ b → re_access t (copied b side ts x) ≡ copied (b + d) side ts x
  access_up side ts x h =
      let r = apart b side (variables_of ts) x.own in
      let s = apart (b + d) side (variables_of ts) x.own in
      let guards = left_of (past_all past_formula x.guards) (max (past_all past_coord x.coords) (past_all suc x.own)) b h in
      let rest = right_of (past_all past_formula x.guards) (max (past_all past_coord x.coords) (past_all suc x.own)) b h in
      let coords = left_of (past_all past_coord x.coords) (past_all suc x.own) b rest in
      ap₂ (λ cs gs. record x { coords = cs; guards = gs })
      (coords_twice b t r s (copies_up side (variables_of ts) x.own) x.coords coords)
      (formulas_twice b t r s (copies_up side (variables_of ts) x.own) x.guards guards)

  module _ (span other : ℕ → ℕ) (spans : (k : ℕ) → t (span k) ≡ other k) where
    points_up : (k : ℕ) (cs : List AccessCoord) → map (re_linear t) (points span k cs) ≡ points other k (map (re_coord t) cs)
    points_up k [] = refl
    points_up k (At e ∷ cs) = ap (λ ls. re_linear t e ∷ ls) (points_up (suc k) cs)
    points_up k (Range u v ∷ cs) = ap₂ (λ x ls. variable x ∷ ls) (spans k) (points_up (suc k) cs)

    span_rows_up : (k : ℕ) (cs : List AccessCoord) → map (re_formula t) (span_rows span k cs) ≡ span_rows other k (map (re_coord t) cs)
    span_rows_up k [] = refl
    span_rows_up k (At e ∷ cs) = span_rows_up (suc k) cs
    span_rows_up k (Range u v ∷ cs) =
        ap₂ (λ f g. f ∷ g ∷ map (re_formula t) (span_rows span (suc k) cs)) (re_at_most t apart_up u (variable (span k))) (re_less t apart_up (variable (span k)) v)
        ∙ ap (λ x. at_most (re_linear t u) (variable x) ∷ less (variable x) (re_linear t v) ∷ map (re_formula t) (span_rows span (suc k) cs)) (spans k)
        ∙ ap (λ fs. at_most (re_linear t u) (variable (other k)) ∷ less (variable (other k)) (re_linear t v) ∷ fs) (span_rows_up (suc k) cs)

    asked_up : (x : Access) → map (re_formula t) (asked span x) ≡ asked other (re_access t x)
    asked_up x = map-append (re_formula t) x.guards (span_rows span 0 x.coords) ∙ ap (λ fs. map (re_formula t) x.guards ++ fs) (span_rows_up 0 x.coords)

  equations_up : (ks ls : List Linear) → map (re_formula t) (equations ks ls) ≡ equations (map (re_linear t) ks) (map (re_linear t) ls)
  equations_up [] ls = refl
  equations_up (k ∷ ks) [] = refl
  equations_up (k ∷ ks) (l ∷ ls) = ap₂ (λ f fs. f ∷ fs) (re_equal t apart_up k l) (equations_up ks ls)

  -- ---- all of it

  along : (fs gs fs' gs' : List Formula) → map (re_formula t) fs ≡ fs' → map (re_formula t) gs ≡ gs' → map (re_formula t) (fs ++ gs) ≡ fs' ++ gs'
  along fs gs fs' gs' p q = map-append (re_formula t) fs gs ∙ ap₂ (λ a b. a ++ b) p q

  module _ (ctx : List Formula) (order : Order) (x y : Access) (p : past_all past_formula ctx ≤ b) (q : past_order order ≤ b) (h : past_access x ≤ b) (k : past_access y ≤ b) where
    abbrev ss : ℕ → List Turn
    ss n = copied_turns n 0 order.first

    abbrev us : ℕ → List Turn
    us n = copied_turns n 1 order.second

    abbrev one : ℕ → Access
    one n = copied n 0 order.first x

    abbrev two : ℕ → Access
    two n = copied n 1 order.second y

    abbrev es : ℕ → List Formula
    es n = equations (points (span_number n 0) 0 (one n).coords) (points (span_number n 1) 0 (two n).coords)

    first_up : map (re_turn t) (ss b) ≡ ss (b + d)
    first_up = copied_up 0 order.first (left_of (past_all past_turn order.first) (past_all past_turn order.second) b q)

    second_up : map (re_turn t) (us b) ≡ us (b + d)
    second_up = copied_up 1 order.second (right_of (past_all past_turn order.first) (past_all past_turn order.second) b q)

    one_up : re_access t (one b) ≡ one (b + d)
    one_up = access_up 0 order.first x h

    two_up : re_access t (two b) ≡ two (b + d)
    two_up = access_up 1 order.second y k

    es_up : map (re_formula t) (es b) ≡ es (b + d)
    es_up =
        equations_up (points (span_number b 0) 0 (one b).coords) (points (span_number b 1) 0 (two b).coords)
        ∙ ap₂ equations
        (points_up (span_number b 0) (span_number (b + d) 0) (span_up 0) 0 (one b).coords ∙ ap (λ a. points (span_number (b + d) 0) 0 a.coords) one_up)
        (points_up (span_number b 1) (span_number (b + d) 1) (span_up 1) 0 (two b).coords ∙ ap (λ a. points (span_number (b + d) 1) 0 a.coords) two_up)

    asked_one : map (re_formula t) (asked (span_number b 0) (one b)) ≡ asked (span_number (b + d) 0) (one (b + d))
    asked_one = asked_up (span_number b 0) (span_number (b + d) 0) (span_up 0) (one b) ∙ ap (asked (span_number (b + d) 0)) one_up

    asked_two : map (re_formula t) (asked (span_number b 1) (two b)) ≡ asked (span_number (b + d) 1) (two (b + d))
    asked_two = asked_up (span_number b 1) (span_number (b + d) 1) (span_up 1) (two b) ∙ ap (asked (span_number (b + d) 1)) two_up

    order_up : map (re_formula t) (flat_map (order_row (ss b) (us b)) order.rows) ≡ flat_map (order_row (ss (b + d)) (us (b + d))) order.rows
    order_up = rows_up (ss b) (us b) order.rows ∙ ap₂ (λ vs ws. flat_map (order_row vs ws) order.rows) first_up second_up

    abbrev f₁ : ℕ → List Formula
    f₁ n = flat_map bounds (ss n)

    abbrev f₂ : ℕ → List Formula
    f₂ n = flat_map bounds (us n)

    abbrev f₃ : ℕ → List Formula
    f₃ n = flat_map (order_row (ss n) (us n)) order.rows

    abbrev f₄ : ℕ → List Formula
    f₄ n = asked (span_number n 0) (one n)

    abbrev f₅ : ℕ → List Formula
    f₅ n = asked (span_number n 1) (two n)

    abbrev e : ℕ
    e = b + d

    meeting_up : map (re_formula t) (meeting ctx order b x y) ≡ meeting ctx order (b + d) x y
    meeting_up =
        along ctx (f₁ b ++ (f₂ b ++ (f₃ b ++ (f₄ b ++ (f₅ b ++ es b))))) ctx (f₁ e ++ (f₂ e ++ (f₃ e ++ (f₄ e ++ (f₅ e ++ es e))))) (formulas_stay b t low ctx p)
        (along (f₁ b) (f₂ b ++ (f₃ b ++ (f₄ b ++ (f₅ b ++ es b)))) (f₁ e) (f₂ e ++ (f₃ e ++ (f₄ e ++ (f₅ e ++ es e)))) (bounds_up (ss b) ∙ ap (flat_map bounds) first_up)
        (along (f₂ b) (f₃ b ++ (f₄ b ++ (f₅ b ++ es b))) (f₂ e) (f₃ e ++ (f₄ e ++ (f₅ e ++ es e))) (bounds_up (us b) ∙ ap (flat_map bounds) second_up)
        (along (f₃ b) (f₄ b ++ (f₅ b ++ es b)) (f₃ e) (f₄ e ++ (f₅ e ++ es e)) order_up
        (along (f₄ b) (f₅ b ++ es b) (f₄ e) (f₅ e ++ es e) asked_one
        (along (f₅ b) (es b) (f₅ e) (es e) asked_two es_up)))))

    pub systems_up : systems_of (meeting ctx order b x y) ≡ systems_of (meeting ctx order (b + d) x y)
    systems_up = sym (re_systems_of t apart_up (meeting ctx order b x y)) ∙ ap systems_of meeting_up

    pub stated_up : cases_stated (meeting ctx order b x y) ≡ cases_stated (meeting ctx order (b + d) x y)
    stated_up = sym (re_cases_stated t apart_up (meeting ctx order b x y)) ∙ ap cases_stated meeting_up
