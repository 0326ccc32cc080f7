-- Rational numbers that meet the rows that follow when a variable goes, and a number for that variable, meet the rows.
use Rattle.std.proofs.Common.{ℕ, zero, suc, ◌*◌, ◌/◌, ◌<◌, ◌≡◌, ◌⊎◌, inl, inr, true, false, List, [], ◌∷◌, map, length, ℤ, pos, negsuc, ◌+ℤ◌, ◌*ℤ◌, ◌≤ℤ◌, neg_ℤ, unsigned_abs, arith, ap, sym, subst, ◌∙◌, refl}
use Rattle.std.specs.List.{AllByRecursion, filter, flat_map, insert}
use Rattle.std.specs.Int.{is_positive, is_negative}
use Rattle.std.specs.Ordering.{int_eq}
use Rattle.std.proofs.lemmas.Int.{ints}
use Rattle.std.proofs.lemmas.List.{length-map}
use Rattle.std.proofs.lemmas.List.Edits.{length-insert}
use Rattle.std.proofs.lemmas.Nat.Gcd.{mod-eq-zero_of_dvd}
use Rattle.std.proofs.Math.IntN.{zero-*ℤ, *ℤ_comm, pos-*ℤ-pos}
use Rattle.affine_forms.specs.Affine.{Affine, value_over}
use Rattle.affine_prover.specs.RowSets.Rows.{gcd, coefficient, without, combination, lower_factor}
use Rattle.affine_prover.specs.RowSets.Rows.{upper_factor, is_lower_bound, is_upper_bound, is_free}
use Rattle.affine_prover.specs.RowSets.Rows.{following}
use Rattle.affine_forms.proofs.Integers.{times-add, times_assoc, times_natural, neg-times}
use Rattle.affine_prover.proofs.OfRowSets.Divisors.{gcd-is}
use Rattle.affine_prover.proofs.OfRowSets.Everywhere.{everywhere-both, everywhere-like}
use Rattle.affine_prover.proofs.OfRowSets.Widths.{IsWide}
use Rattle.affine_prover.proofs.OfRowSets.Fractions.{over-insert, over-scaled}
use Rattle.affine_prover.proofs.OfRowSets.Fractions.{over-combined_without}
use Rattle.affine_prover.proofs.OfRowSets.Parts.{parts-append, parts-map, parts-flat_map}
use Rattle.affine_prover.proofs.OfRowSets.Parts.{parts-filter}
use Rattle.affine_prover.proofs.OfRowSets.Loosening.{HoldsOver}
use Rattle.affine_prover.proofs.OfRowSets.Ratios.{Chosen, least_ratio}

-- some rational numbers meet the rows
pub record HasRowPoint (n : ℕ) (rows : List Affine) : Type 0 where
  pub denominator : ℕ
  pub numerators : List ℤ
  pub positive : 0 < denominator
  pub one_each : length numerators ≡ n
  pub rows_hold : AllByRecursion (HoldsOver denominator numerators) rows

-- ---- one row: c x + a r, where c is the coefficient of the variable, x its numerator, and r the value of the rest
pub times-neg : (a x : ℤ) → a *ℤ neg_ℤ x ≡ neg_ℤ (a *ℤ x)
times-neg a x = *ℤ_comm a (neg_ℤ x) ∙ neg-times x a ∙ ap neg_ℤ (*ℤ_comm x a)

positive_true : (k : ℕ) → is_positive (pos (suc k)) ≡ true
positive_true k = grind (arith, ints)

at_lower : (c p r : ℤ) (a : ℕ) → (int_eq c (pos 0) ≡ true → pos 0 ≤ℤ r) → (is_positive c ≡ true → (pos (unsigned_abs c) *ℤ p) ≤ℤ (pos a *ℤ r)) → (is_negative c ≡ true → pos 0 ≤ℤ (pos (unsigned_abs c) *ℤ p +ℤ pos a *ℤ r)) → pos 0 ≤ℤ (c *ℤ neg_ℤ p +ℤ pos a *ℤ r)
at_lower (pos zero) p r a f l u = omega (arith, ints, zero-*ℤ (neg_ℤ p), times_natural a r (f refl))
at_lower (pos (suc k)) p r a f l u = omega (arith, ints, times-neg (pos (suc k)) p, l (positive_true k))
at_lower (negsuc k) p r a f l u = omega (arith, ints, neg-times (pos (suc k)) (neg_ℤ p), times-neg (pos (suc k)) p, u refl)

at_upper : (c q r : ℤ) (a : ℕ) → (int_eq c (pos 0) ≡ true → pos 0 ≤ℤ r) → is_positive c ≡ false → (is_negative c ≡ true → (pos (unsigned_abs c) *ℤ q) ≤ℤ (pos a *ℤ r)) → pos 0 ≤ℤ (c *ℤ q +ℤ pos a *ℤ r)
at_upper (pos zero) q r a f l u = omega (arith, ints, zero-*ℤ q, times_natural a r (f refl))
at_upper (pos (suc k)) q r a f l u = absurd (omega (arith, ints, l))
at_upper (negsuc k) q r a f l u = omega (arith, ints, neg-times (pos (suc k)) q, u refl)

at_neither : (c r : ℤ) → (int_eq c (pos 0) ≡ true → pos 0 ≤ℤ r) → is_positive c ≡ false → is_negative c ≡ false → pos 0 ≤ℤ (c *ℤ pos 0 +ℤ pos 1 *ℤ r)
at_neither (pos zero) r f l u = omega (arith, ints, f refl)
at_neither (pos (suc k)) r f l u = absurd (omega (arith, ints, l))
at_neither (negsuc k) r f l u = absurd (omega (arith, ints, u))

positive-size : (c : ℤ) → is_positive c ≡ true → 0 < unsigned_abs c
positive-size c h = omega (arith, ints)

negative-size : (c : ℤ) → is_negative c ≡ true → 0 < unsigned_abs c
negative-size c h = omega (arith, ints)

-- ---- a combination, without the division by the gcd
undivided : (m n : ℕ) (p q : ℤ) → pos 0 ≤ℤ (pos (n / gcd m n) *ℤ p +ℤ pos (m / gcd m n) *ℤ q) → pos 0 ≤ℤ (pos n *ℤ p +ℤ pos m *ℤ q)
undivided m n p q h =
    let g = gcd m n in
    let is = gcd-is m n in
    let left : m ≡ g * (m / g) = let none = mod-eq-zero_of_dvd g is.0 in omega arith in
    let right : n ≡ g * (n / g) = let none = mod-eq-zero_of_dvd g is.1 in omega arith in
    let whole = times_natural g (pos (n / g) *ℤ p +ℤ pos (m / g) *ℤ q) h in
    let parts = times-add (pos g) (pos (n / g) *ℤ p) (pos (m / g) *ℤ q) in
    let one : pos g *ℤ (pos (n / g) *ℤ p) ≡ pos n *ℤ p = sym (times_assoc (pos g) (pos (n / g)) p) ∙ ap (λ z. z *ℤ p) (pos-*ℤ-pos g (n / g) ∙ ap pos (sym right)) in
    let other : pos g *ℤ (pos (m / g) *ℤ q) ≡ pos m *ℤ q = sym (times_assoc (pos g) (pos (m / g)) q) ∙ ap (λ z. z *ℤ q) (pos-*ℤ-pos g (m / g) ∙ ap pos (sym left)) in
    through _ _ _ _ _ whole parts one other
  where
    through : (w a b c d : ℤ) → pos 0 ≤ℤ w → w ≡ a +ℤ b → a ≡ c → b ≡ d → pos 0 ≤ℤ (c +ℤ d)
    through w a b c d i j k l = omega (arith, ints)

combination-bounds : (n v d : ℕ) (qs : List ℤ) (p q : Affine) → v < suc n → IsWide (suc n) p → IsWide (suc n) q → HoldsOver d qs (combination v p q) → pos 0 ≤ℤ (pos (unsigned_abs (coefficient q v)) *ℤ value_over (pos d) (without v p) qs +ℤ pos (unsigned_abs (coefficient p v)) *ℤ value_over (pos d) (without v q) qs)
combination-bounds n v d qs p q l w u h =
    let sum = over-combined_without n v (pos d) (lower_factor v p q) p (upper_factor v p q) q qs l w u in
    undivided (unsigned_abs (coefficient p v)) (unsigned_abs (coefficient q v)) (value_over (pos d) (without v p) qs) (value_over (pos d) (without v q) qs) (subst (λ z. pos 0 ≤ℤ z) sum h)

-- ---- the rows: with the denominator times m and x as the variable's numerator
row-returns : (n v d m : ℕ) (x : ℤ) (qs : List ℤ) (r : Affine) → v < suc n → length qs ≡ n → IsWide (suc n) r → pos 0 ≤ℤ (coefficient r v *ℤ x +ℤ pos m *ℤ value_over (pos d) (without v r) qs) → HoldsOver (m * d) (insert (map (λ q. pos m *ℤ q) qs) v x) r
row-returns n v d m x qs r l e w h =
    let more = map (λ q. pos m *ℤ q) qs in
    let sum = over-insert n v (pos (m * d)) r more x l w (length-map qs (λ q. pos m *ℤ q) ∙ e) in
    let scaled = ap (λ z. value_over z (without v r) more) (sym (pos-*ℤ-pos m d)) ∙ over-scaled (pos m) (pos d) (without v r) qs in
    subst (λ z. pos 0 ≤ℤ z) (sym (sum ∙ ap (λ z. coefficient r v *ℤ x +ℤ z) scaled)) h

-- what is known of a row: its width, and what its kind of bound says
pub record IsBound (n v d : ℕ) (qs : List ℤ) (rows : List Affine) (r : Affine) : Type 0 where
  pub wide : IsWide (suc n) r
  pub free : is_free v r ≡ true → HoldsOver d qs (without v r)
  pub lower : is_lower_bound v r ≡ true → AllByRecursion (λ q. is_upper_bound v q ≡ true → HoldsOver d qs (combination v r q)) rows

point_of : (n v d m : ℕ) (x : ℤ) (qs : List ℤ) (rows : List Affine) → v < suc n → 0 < d → 0 < m → length qs ≡ n → AllByRecursion (IsWide (suc n)) rows → AllByRecursion (λ r. pos 0 ≤ℤ (coefficient r v *ℤ x +ℤ pos m *ℤ value_over (pos d) (without v r) qs)) rows → HasRowPoint (suc n) rows
point_of n v d m x qs rows l h k e w s =
    let more = map (λ q. pos m *ℤ q) qs in
    let width : length more ≡ n = length-map qs (λ q. pos m *ℤ q) ∙ e in
    record {
      denominator = m * d;
      numerators = insert more v x;
      positive = product_positive m d k h;
      one_each = length-insert more v x (omega arith) ∙ omega arith;
      rows_hold = everywhere-like (λ r. IsWide (suc n) r × (pos 0 ≤ℤ (coefficient r v *ℤ x +ℤ pos m *ℤ value_over (pos d) (without v r) qs))) (HoldsOver (m * d) (insert more v x)) (λ r b. row-returns n v d m x qs r l e b.0 b.1) rows (everywhere-both (IsWide (suc n)) (λ r. pos 0 ≤ℤ (coefficient r v *ℤ x +ℤ pos m *ℤ value_over (pos d) (without v r) qs)) rows w s);
    }
  where
    product_positive : (m d : ℕ) → 0 < m → 0 < d → 0 < m * d
    product_positive (suc m) (suc d) h k = omega arith
    product_positive zero d h k = absurd (omega arith)
    product_positive (suc m) zero h k = absurd (omega arith)

-- ---- the variable's number
lower_point : (n v d : ℕ) (qs : List ℤ) (rows : List Affine) → v < suc n → 0 < d → length qs ≡ n → AllByRecursion (IsBound n v d qs rows) rows → Chosen (is_lower_bound v) (λ r. unsigned_abs (coefficient r v)) (λ r. value_over (pos d) (without v r) qs) (IsBound n v d qs rows) rows → HasRowPoint (suc n) rows
lower_point n v d qs rows l h e b c =
    let rest : Affine → ℤ = λ r. value_over (pos d) (without v r) qs in
    let size : Affine → ℕ = λ r. unsigned_abs (coefficient r v) in
    let uppers = everywhere-both (IsBound n v d qs rows) (λ q. is_upper_bound v q ≡ true → HoldsOver d qs (combination v c.row q)) rows b (c.meets.lower c.passes) in
    point_of n v d (size c.row) (neg_ℤ (rest c.row)) qs rows l h (positive-size (coefficient c.row v) c.passes) e
    (everywhere-like (IsBound n v d qs rows) (IsWide (suc n)) (λ r k. k.wide) rows b)
    (everywhere-like (λ r. (IsBound n v d qs rows r × (is_upper_bound v r ≡ true → HoldsOver d qs (combination v c.row r))) × (is_lower_bound v r ≡ true → (pos (size r) *ℤ rest c.row) ≤ℤ (pos (size c.row) *ℤ rest r))) (λ r. pos 0 ≤ℤ (coefficient r v *ℤ neg_ℤ (rest c.row) +ℤ pos (size c.row) *ℤ rest r))
    (λ r k. at_lower (coefficient r v) (rest c.row) (rest r) (size c.row) k.0.0.free k.1 (λ t. combination-bounds n v d qs c.row r l c.meets.wide k.0.0.wide (k.0.1 t)))
    rows (everywhere-both (λ r. IsBound n v d qs rows r × (is_upper_bound v r ≡ true → HoldsOver d qs (combination v c.row r))) (λ r. is_lower_bound v r ≡ true → (pos (size r) *ℤ rest c.row) ≤ℤ (pos (size c.row) *ℤ rest r)) rows uppers c.least))

upper_point : (n v d : ℕ) (qs : List ℤ) (rows : List Affine) → v < suc n → 0 < d → length qs ≡ n → AllByRecursion (IsBound n v d qs rows) rows → AllByRecursion (λ r. is_lower_bound v r ≡ false) rows → Chosen (is_upper_bound v) (λ r. unsigned_abs (coefficient r v)) (λ r. value_over (pos d) (without v r) qs) (IsBound n v d qs rows) rows → HasRowPoint (suc n) rows
upper_point n v d qs rows l h e b none c =
    let rest : Affine → ℤ = λ r. value_over (pos d) (without v r) qs in
    let size : Affine → ℕ = λ r. unsigned_abs (coefficient r v) in
    point_of n v d (size c.row) (rest c.row) qs rows l h (negative-size (coefficient c.row v) c.passes) e
    (everywhere-like (IsBound n v d qs rows) (IsWide (suc n)) (λ r k. k.wide) rows b)
    (everywhere-like (λ r. (IsBound n v d qs rows r × (is_lower_bound v r ≡ false)) × (is_upper_bound v r ≡ true → (pos (size r) *ℤ rest c.row) ≤ℤ (pos (size c.row) *ℤ rest r))) (λ r. pos 0 ≤ℤ (coefficient r v *ℤ rest c.row +ℤ pos (size c.row) *ℤ rest r))
    (λ r k. at_upper (coefficient r v) (rest c.row) (rest r) (size c.row) k.0.0.free k.0.1 k.1)
    rows (everywhere-both (λ r. IsBound n v d qs rows r × (is_lower_bound v r ≡ false)) (λ r. is_upper_bound v r ≡ true → (pos (size r) *ℤ rest c.row) ≤ℤ (pos (size c.row) *ℤ rest r)) rows (everywhere-both (IsBound n v d qs rows) (λ r. is_lower_bound v r ≡ false) rows b none) c.least))

free_point : (n v d : ℕ) (qs : List ℤ) (rows : List Affine) → v < suc n → 0 < d → length qs ≡ n → AllByRecursion (IsBound n v d qs rows) rows → AllByRecursion (λ r. is_lower_bound v r ≡ false) rows → AllByRecursion (λ r. is_upper_bound v r ≡ false) rows → HasRowPoint (suc n) rows
free_point n v d qs rows l h e b none nor =
    point_of n v d 1 (pos 0) qs rows l h (omega arith) e
    (everywhere-like (IsBound n v d qs rows) (IsWide (suc n)) (λ r k. k.wide) rows b)
    (everywhere-like (λ r. (IsBound n v d qs rows r × (is_lower_bound v r ≡ false)) × (is_upper_bound v r ≡ false)) (λ r. pos 0 ≤ℤ (coefficient r v *ℤ pos 0 +ℤ pos 1 *ℤ value_over (pos d) (without v r) qs))
    (λ r k. at_neither (coefficient r v) (value_over (pos d) (without v r) qs) k.0.0.free k.0.1 k.1)
    rows (everywhere-both (λ r. IsBound n v d qs rows r × (is_lower_bound v r ≡ false)) (λ r. is_upper_bound v r ≡ false) rows (everywhere-both (IsBound n v d qs rows) (λ r. is_lower_bound v r ≡ false) rows b none) nor))

-- the variable's number is the greatest lower bound, or the least upper bound where there is no lower one
bounded_point : (n v d : ℕ) (qs : List ℤ) (rows : List Affine) → v < suc n → 0 < d → length qs ≡ n → AllByRecursion (IsBound n v d qs rows) rows → HasRowPoint (suc n) rows
bounded_point n v d qs rows l h e b =
    by (least_ratio (is_lower_bound v) (λ r. unsigned_abs (coefficient r v)) (λ r. value_over (pos d) (without v r) qs) (IsBound n v d qs rows) (λ r t. positive-size (coefficient r v) t) rows b)
    (least_ratio (is_upper_bound v) (λ r. unsigned_abs (coefficient r v)) (λ r. value_over (pos d) (without v r) qs) (IsBound n v d qs rows) (λ r t. negative-size (coefficient r v) t) rows b)
  where
    by : AllByRecursion (λ r. is_lower_bound v r ≡ false) rows ⊎ Chosen (is_lower_bound v) (λ r. unsigned_abs (coefficient r v)) (λ r. value_over (pos d) (without v r) qs) (IsBound n v d qs rows) rows → AllByRecursion (λ r. is_upper_bound v r ≡ false) rows ⊎ Chosen (is_upper_bound v) (λ r. unsigned_abs (coefficient r v)) (λ r. value_over (pos d) (without v r) qs) (IsBound n v d qs rows) rows → HasRowPoint (suc n) rows
    by (inr c) uppers = lower_point n v d qs rows l h e b c
    by (inl none) (inr c) = upper_point n v d qs rows l h e b none c
    by (inl none) (inl nor) = free_point n v d qs rows l h e b none nor

bounds : (n v d : ℕ) (qs : List ℤ) (all rows : List Affine) → AllByRecursion (IsWide (suc n)) rows → AllByRecursion (λ r. is_free v r ≡ true → HoldsOver d qs (without v r)) rows → AllByRecursion (λ r. is_lower_bound v r ≡ true → AllByRecursion (λ q. is_upper_bound v q ≡ true → HoldsOver d qs (combination v r q)) all) rows → AllByRecursion (IsBound n v d qs all) rows
bounds n v d qs all [] w f g = tt
bounds n v d qs all (r ∷ rs) w f g = (record { wide = w.0; free = f.0; lower = g.0 }, bounds n v d qs all rs w.1 f.1 g.1)

pub following-returns : (n v : ℕ) (rows : List Affine) → v < suc n → AllByRecursion (IsWide (suc n)) rows → HasRowPoint n (following v rows) → HasRowPoint (suc n) rows
following-returns n v rows l w p =
    let d = p.denominator in
    let qs = p.numerators in
    let P : Affine → Type 0 = HoldsOver d qs in
    let upper = filter (is_upper_bound v) rows in
    let both = parts-append P (map (without v) (filter (is_free v) rows)) (flat_map (λ p. map (combination v p) upper) (filter (is_lower_bound v) rows)) p.rows_hold in
    let free = parts-filter (λ r. P (without v r)) (is_free v) rows (parts-map P (without v) (filter (is_free v) rows) both.0) in
    let pairs = parts-flat_map P (λ p. map (combination v p) upper) (filter (is_lower_bound v) rows) both.1 in
    let lower = parts-filter (λ p. AllByRecursion P (map (combination v p) upper)) (is_lower_bound v) rows pairs in
    let opposite = everywhere-like (λ p. is_lower_bound v p ≡ true → AllByRecursion P (map (combination v p) upper)) (λ p. is_lower_bound v p ≡ true → AllByRecursion (λ q. is_upper_bound v q ≡ true → P (combination v p q)) rows) (λ p k t. parts-filter (λ q. P (combination v p q)) (is_upper_bound v) rows (parts-map P (combination v p) upper (k t))) rows lower in
    bounded_point n v d qs rows l p.positive p.one_each (bounds n v d qs rows rows w free opposite)
