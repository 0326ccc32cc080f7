-- Two accesses that reach one cell meet: all that is asked of them holds for some values.
use Rattle.std.proofs.Common.{◌≡◌, ◌<◌, ◌≤◌, ◌≤ℤ◌, ◌<ℤ◌, ℕ, zero, suc, ◌+◌, ◌-◌, ◌*◌, ◌/◌, ◌%◌, max, ℤ, pos, ◌-ℤ◌, ◌==◌, int_le, int_lt, Bool, true, false, cond, ◌&&◌, ◌||◌, List, [], ◌∷◌, ◌++◌, map, Option, Some, None, option_map, refl, sym, ap, ap₂, ◌∙◌, eqb-true, arith}
use Rattle.std.specs.Prelude.{nat_lt, get_or, flat_map}
use Rattle.std.specs.List.{list_any}
use Rattle.std.specs.Ordering.{int_eq}
use Rattle.std.proofs.lemmas.Int.{ints}
use Rattle.std.proofs.lemmas.Bool.Decides.{nat_tests}
use Rattle.exo_meaning.specs.Orders.{Each}
use Rattle.affine_forms.specs.Atoms.{Valuation, Linear, value, subtracted}
use Rattle.affine_forms.specs.Formulas.{Formula, less, at_most, equal, difference, is_met, all_met}
use Rattle.affine_forms.proofs.Values.{subtracted_value, present_value}
use Rattle.affine_forms.proofs.FormulaValues.{less_met, at_most_met}
use Rattle.affine_systems.proofs.Cases.{all_met_append}
use Rattle.check_laws.proofs.OfFacts.Truths.{joined, none_some, some_injective}
use Rattle.check_laws.proofs.OfFacts.Sides.{map_gives}
use Rattle.exo_effects.specs.Accesses.{AccessCoord, At, Range, Access}
use Rattle.exo_effects.specs.Orders.{Turn}
use Rattle.exo_effects.specs.Renamed.{re_linear, re_formula}
use Rattle.exo_effects.specs.Fresh.{past_linear, past_formula, past_all, past_coord, past_access, past_turn}
use Rattle.exo_effects.specs.Conflicts.{place_in, turn_number, own_number, span_number, turns_apart, apart, variable, bounds, re_turn, re_coord, points, span_rows, equations, asked, variables_of, copied}
use Rattle.effect_laws.specs.Covers.{LiesAt, Reaches, is_among}
use Rattle.effect_laws.specs.Clear.{is_turn, IsWithin}
use Rattle.effect_laws.proofs.Renamed.{left_of, right_of, with_numbers, re_value, re_all_met}

le_true : (a b : ℤ) → a ≤ℤ b → int_le a b ≡ true
le_true a b h = grind (arith, ints, h)

lt_true : (a b : ℤ) → a <ℤ b → int_lt a b ≡ true
lt_true a b h = grind (arith, ints, h)

-- ---- places in a list

pub found : (f : ℕ → ℤ) (xs : List ℕ) (x k : ℕ) → place_in xs x ≡ Some k → get_or (map f xs) k (pos 0) ≡ f x
found f [] x k e = absurd (none_some e)
found f (y ∷ ys) x k e = go (found f ys x) (x == y) refl e
  where
    go : ((j : ℕ) → place_in ys x ≡ Some j → get_or (map f ys) j (pos 0) ≡ f x) → (t : Bool) → (x == y) ≡ t → cond t (Some 0) (option_map suc (place_in ys x)) ≡ Some k → get_or (map f (y ∷ ys)) k (pos 0) ≡ f x
    go rest true i j = ap (λ n. get_or (map f (y ∷ ys)) n (pos 0)) (sym (some_injective 0 k j)) ∙ ap f (sym (eqb-true x y i))
    go rest false i j = let m = map_gives (place_in ys x) suc k j in ap (λ n. get_or (map f (y ∷ ys)) n (pos 0)) (sym m.2) ∙ rest m.0 m.1

pub not_found : (xs : List ℕ) (x : ℕ) → place_in xs x ≡ None → list_any (λ y. x == y) xs ≡ false
not_found [] x e = refl
not_found (y ∷ ys) x e = go (not_found ys x) (x == y) e
  where
    later : (o : Option ℕ) → option_map suc o ≡ None → o ≡ None
    later None e = refl
    later (Some k) e = absurd (none_some (sym e))

    go : (place_in ys x ≡ None → list_any (λ y. x == y) ys ≡ false) → (t : Bool) → cond t (Some 0) (option_map suc (place_in ys x)) ≡ None → (t || list_any (λ y. x == y) ys) ≡ false
    go rest true e = absurd (none_some (sym e))
    go rest false e = rest (later (place_in ys x) e)

among_turns : (ts : List Turn) (y : ℕ) → list_any (λ z. y == z) (variables_of ts) ≡ is_turn ts y
among_turns [] y = refl
among_turns (t ∷ ts) y = ap (λ b. (y == t.variable) || b) (among_turns ts y)

-- ---- values of all variables

-- six lists of numbers behind those below the base, turn by turn
module _ (base : ℕ) (old : ℕ → ℤ) (a b c d e f : List ℤ) where
  abbrev pub nth : ℕ → ℕ → ℤ
  nth zero k = get_or a k (pos 0)
  nth (suc zero) k = get_or b k (pos 0)
  nth (suc (suc zero)) k = get_or c k (pos 0)
  nth (suc (suc (suc zero))) k = get_or d k (pos 0)
  nth (suc (suc (suc (suc zero)))) k = get_or e k (pos 0)
  nth (suc (suc (suc (suc (suc r))))) k = get_or f k (pos 0)

  abbrev pub mixed : ℕ → ℤ
  mixed z = cond (nat_lt z base) (old z) (nth ((z - base) % 6) ((z - base) / 6))

  rest_of : (k r : ℕ) → r < 6 → (base + (6 * k + r) - base) % 6 ≡ r
  rest_of k r h = omega (arith, h)

  times_of : (k r : ℕ) → r < 6 → (base + (6 * k + r) - base) / 6 ≡ k
  times_of k r h = omega (arith, h)

  past_base : (n : ℕ) → nat_lt (base + n) base ≡ false
  past_base n = grind (arith, nat_tests)

  pub mixed_at : (k r : ℕ) → r < 6 → mixed (base + (6 * k + r)) ≡ nth r k
  mixed_at k r h = ap (λ t. cond t (old (base + (6 * k + r))) (nth ((base + (6 * k + r) - base) % 6) ((base + (6 * k + r) - base) / 6))) (past_base (6 * k + r)) ∙ ap₂ nth (rest_of k r h) (times_of k r h)

  pub mixed_below : (z : ℕ) → z < base → mixed z ≡ old z
  mixed_below z h = let t : nat_lt z base ≡ true = grind (arith, nat_tests, h) in ap (λ t. cond t (old z) (nth ((z - base) % 6) ((z - base) / 6))) t

-- ---- lists of formulas

module _ (v : Valuation) where
  pub both_met : (fs gs : List Formula) → all_met v fs ≡ true → all_met v gs ≡ true → all_met v (fs ++ gs) ≡ true
  both_met fs gs h k = all_met_append v fs gs ∙ joined (all_met v fs) (all_met v gs) h k

  pub only_value : (x : ℕ) → value v (variable x) ≡ v.variable x
  only_value x = omega (arith, ints)

  difference_is : (k l : Linear) → value v (difference k l) ≡ value v k -ℤ value v l
  difference_is k l = omega (arith, ints, subtracted_value v k l, present_value v (subtracted k l).terms)

  equal_true : (k l : Linear) → value v k ≡ value v l → is_met v (equal k l) ≡ true
  equal_true k l e = ap (λ n. int_eq n (pos 0)) (difference_is k l) ∙ zero_of (value v k) (value v l) e
    where
      zero_of : (a b : ℤ) → a ≡ b → int_eq (a -ℤ b) (pos 0) ≡ true
      zero_of a b e = grind (arith, ints, e)

  at_most_true : (k l : Linear) → value v k ≤ℤ value v l → is_met v (at_most k l) ≡ true
  at_most_true k l h = at_most_met v k l ∙ le_true (value v k) (value v l) h

  pub less_true : (k l : Linear) → value v k <ℤ value v l → is_met v (less k l) ≡ true
  less_true k l h = less_met v k l ∙ lt_true (value v k) (value v l) h

  -- each form has the value of its index
  abbrev pub AreAt : List Linear → List ℤ → Type 0
  AreAt [] [] = Unit {0}
  AreAt [] (i ∷ at) = ⊥
  AreAt (k ∷ ks) [] = ⊥
  AreAt (k ∷ ks) (i ∷ at) = (value v k ≡ i) × AreAt ks at

  pub equations_met : (ks ls : List Linear) (at : List ℤ) → AreAt ks at → AreAt ls at → all_met v (equations ks ls) ≡ true
  equations_met [] ls at h l = refl
  equations_met (k ∷ ks) [] at h l = refl
  equations_met (k ∷ ks) (j ∷ ls) [] h l = absurd h
  equations_met (k ∷ ks) (j ∷ ls) (i ∷ at) h l = joined (is_met v (equal k j)) (all_met v (equations ks ls)) (equal_true k j (h.0 ∙ sym l.0)) (equations_met ks ls at h.1 l.1)

-- ---- one copy

-- m: the numbers of the copy's state; p: those by which its access is at the cell
module _ (base side : ℕ) (v : Valuation) (w m p : ℕ → ℤ) (turns : List Turn) (x : Access) (at : List ℤ)
    (below : (z : ℕ) → z < base → w z ≡ v.variable z)
    (turn_at : (k : ℕ) → w (turn_number base side k) ≡ get_or (map m (variables_of turns)) k (pos 0))
    (own_at : (k : ℕ) → w (own_number base side k) ≡ get_or (map p x.own) k (pos 0))
    (span_at : (k : ℕ) → w (span_number base side k) ≡ get_or at k (pos 0))
    (else_same : (y : ℕ) → is_turn turns y ≡ false → m y ≡ v.variable y)
    (others : (y : ℕ) → is_among x.own y ≡ false → p y ≡ m y) where
  abbrev these : Valuation
  these = with_numbers v w

  abbrev of_turns : ℕ → ℕ
  of_turns = turns_apart base side (variables_of turns)

  abbrev of_access : ℕ → ℕ
  of_access = apart base side (variables_of turns) x.own

  pub turns_same : (z : ℕ) → z < base → w (of_turns z) ≡ m z
  turns_same z h = go (place_in (variables_of turns) z) refl
    where
      go : (o : Option ℕ) → place_in (variables_of turns) z ≡ o → w (elim o [ None ↦ z | Some k ↦ turn_number base side k ]) ≡ m z
      go None e = below z h ∙ sym (else_same z (sym (among_turns turns z) ∙ not_found (variables_of turns) z e))
      go (Some k) e = turn_at k ∙ found m (variables_of turns) z k e

  own_same : (z : ℕ) → z < base → w (of_access z) ≡ p z
  own_same z h = go (place_in x.own z) refl
    where
      go : (o : Option ℕ) → place_in x.own z ≡ o → w (elim o [ None ↦ of_turns z | Some k ↦ own_number base side k ]) ≡ p z
      go None e = turns_same z h ∙ sym (others z (not_found x.own z e))
      go (Some k) e = own_at k ∙ found p x.own z k e

  turn_value : (t : Turn) → past_turn t ≤ base → value these (variable (of_turns t.variable)) ≡ m t.variable
  turn_value t h = only_value these (of_turns t.variable) ∙ turns_same t.variable (left_of (suc t.variable) (max (past_linear t.lower) (past_linear t.upper)) base h)

  turn_met : (t : Turn) → past_turn t ≤ base → IsWithin m t → all_met these (bounds (re_turn of_turns t)) ≡ true
  turn_met t h within =
      let r = right_of (suc t.variable) (max (past_linear t.lower) (past_linear t.upper)) base h in
      let lo = re_value v of_turns w m base turns_same t.lower (left_of (past_linear t.lower) (past_linear t.upper) base r) in
      let hi = re_value v of_turns w m base turns_same t.upper (right_of (past_linear t.lower) (past_linear t.upper) base r) in
      let own = turn_value t h in
      let a = within.lower (with_numbers v m) refl in
      let b = within.upper (with_numbers v m) refl in
      joined (is_met these (at_most (re_linear of_turns t.lower) (variable (of_turns t.variable)))) (is_met these (less (variable (of_turns t.variable)) (re_linear of_turns t.upper)) && true)
      (at_most_true these (re_linear of_turns t.lower) (variable (of_turns t.variable)) (omega (arith, ints, lo, own, a)))
      (joined (is_met these (less (variable (of_turns t.variable)) (re_linear of_turns t.upper))) true (less_true these (variable (of_turns t.variable)) (re_linear of_turns t.upper) (omega (arith, ints, hi, own, b))) refl)

  pub bounds_met : (ts : List Turn) → past_all past_turn ts ≤ base → Each (IsWithin m) ts → all_met these (flat_map bounds (map (re_turn of_turns) ts)) ≡ true
  bounds_met [] h within = refl
  bounds_met (t ∷ ts) h within = both_met these (bounds (re_turn of_turns t)) (flat_map bounds (map (re_turn of_turns) ts)) (turn_met t (left_of (past_turn t) (past_all past_turn ts) base h) within.0) (bounds_met ts (right_of (past_turn t) (past_all past_turn ts) base h) within.1)

  -- ---- its access

  abbrev span : ℕ → ℕ
  span = span_number base side

  span_value : (d : ℕ) (i : ℤ) → get_or at d (pos 0) ≡ i → value these (variable (span d)) ≡ i
  span_value d i e = only_value these (span d) ∙ span_at d ∙ e

  -- from dimension d on the cell's indices are these
  abbrev IsBehind : ℕ → List ℤ → Type 0
  IsBehind d rest = (k : ℕ) → get_or at (d + k) (pos 0) ≡ get_or rest k (pos 0)

  next_behind : (d : ℕ) (i : ℤ) (rest : List ℤ) → IsBehind d (i ∷ rest) → IsBehind (suc d) rest
  next_behind d i rest h k = let e : suc d + k ≡ d + suc k = omega arith in ap (λ n. get_or at n (pos 0)) e ∙ h (suc k)

  first_behind : (d : ℕ) (i : ℤ) (rest : List ℤ) → IsBehind d (i ∷ rest) → get_or at d (pos 0) ≡ i
  first_behind d i rest h = let e : d ≡ d + 0 = omega arith in ap (λ n. get_or at n (pos 0)) e ∙ h 0

  form_value : (l : Linear) → past_linear l ≤ base → value these (re_linear of_access l) ≡ value (with_numbers v p) l
  form_value l h = re_value v of_access w p base own_same l h

  pub points_at : (cs : List AccessCoord) (rest : List ℤ) (d : ℕ) → past_all past_coord cs ≤ base → LiesAt (with_numbers v p) cs rest → IsBehind d rest → AreAt these (points span d (map (re_coord of_access) cs)) rest
  points_at [] [] d h lies b = tt
  points_at [] (i ∷ rest) d h lies b = absurd lies
  points_at (At e ∷ cs) [] d h lies b = absurd lies
  points_at (Range lo hi ∷ cs) [] d h lies b = absurd lies
  points_at (At e ∷ cs) (i ∷ rest) d h lies b = (form_value e (left_of (past_linear e) (past_all past_coord cs) base h) ∙ lies.0, points_at cs rest (suc d) (right_of (past_linear e) (past_all past_coord cs) base h) lies.1 (next_behind d i rest b))
  points_at (Range lo hi ∷ cs) (i ∷ rest) d h lies b = (span_value d i (first_behind d i rest b), points_at cs rest (suc d) (right_of (max (past_linear lo) (past_linear hi)) (past_all past_coord cs) base h) lies.1.1 (next_behind d i rest b))

  spans_met : (cs : List AccessCoord) (rest : List ℤ) (d : ℕ) → past_all past_coord cs ≤ base → LiesAt (with_numbers v p) cs rest → IsBehind d rest → all_met these (span_rows span d (map (re_coord of_access) cs)) ≡ true
  spans_met [] rest d h lies b = refl
  spans_met (At e ∷ cs) [] d h lies b = absurd lies
  spans_met (Range lo hi ∷ cs) [] d h lies b = absurd lies
  spans_met (At e ∷ cs) (i ∷ rest) d h lies b = spans_met cs rest (suc d) (right_of (past_linear e) (past_all past_coord cs) base h) lies.1 (next_behind d i rest b)
  spans_met (Range lo hi ∷ cs) (i ∷ rest) d h lies b =
      let o = left_of (max (past_linear lo) (past_linear hi)) (past_all past_coord cs) base h in
      let low = form_value lo (left_of (past_linear lo) (past_linear hi) base o) in
      let high = form_value hi (right_of (past_linear lo) (past_linear hi) base o) in
      let own = span_value d i (first_behind d i rest b) in
      let l = lies.0 in
      let u = lies.1.0 in
      joined (is_met these (at_most (re_linear of_access lo) (variable (span d)))) (is_met these (less (variable (span d)) (re_linear of_access hi)) && all_met these (span_rows span (suc d) (map (re_coord of_access) cs)))
      (at_most_true these (re_linear of_access lo) (variable (span d)) (omega (arith, ints, low, own, l)))
      (joined (is_met these (less (variable (span d)) (re_linear of_access hi))) (all_met these (span_rows span (suc d) (map (re_coord of_access) cs))) (less_true these (variable (span d)) (re_linear of_access hi) (omega (arith, ints, high, own, u)))
      (spans_met cs rest (suc d) (right_of (max (past_linear lo) (past_linear hi)) (past_all past_coord cs) base h) lies.1.1 (next_behind d i rest b)))

  pub asked_met : past_access x ≤ base → Reaches x p at → all_met these (asked span (copied base side turns x)) ≡ true
  asked_met h reached =
      let guards = left_of (past_all past_formula x.guards) (max (past_all past_coord x.coords) (past_all suc x.own)) base h in
      let coords = left_of (past_all past_coord x.coords) (past_all suc x.own) base (right_of (past_all past_formula x.guards) (max (past_all past_coord x.coords) (past_all suc x.own)) base h) in
      both_met these (map (re_formula of_access) x.guards) (span_rows span 0 (map (re_coord of_access) x.coords))
      (re_all_met v of_access w p base own_same x.guards guards ∙ reached.guards (with_numbers v p) refl)
      (spans_met x.coords at 0 coords (reached.cell (with_numbers v p) refl) (λ k. ap (λ n. get_or at n (pos 0)) (zero_plus k)))
    where
      zero_plus : (k : ℕ) → 0 + k ≡ k
      zero_plus k = omega arith

  pub access_at : past_access x ≤ base → Reaches x p at → AreAt these (points span 0 (copied base side turns x).coords) at
  access_at h reached =
      let coords = left_of (past_all past_coord x.coords) (past_all suc x.own) base (right_of (past_all past_formula x.guards) (max (past_all past_coord x.coords) (past_all suc x.own)) base h) in
      points_at x.coords at 0 coords (reached.cell (with_numbers v p) refl) (λ k. ap (λ n. get_or at n (pos 0)) (zero_plus k))
    where
      zero_plus : (k : ℕ) → 0 + k ≡ k
      zero_plus k = omega arith
