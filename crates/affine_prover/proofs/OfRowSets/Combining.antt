-- A combination of two rows that hold holds, without the variable that it cancels.
use Rattle.std.proofs.Common.{ℕ, zero, suc, ◌*◌, ◌/◌, ◌<◌, ◌≡◌, true, List, [], ◌∷◌, map, length, get_or, ℤ, pos, negsuc, ◌*ℤ◌, unsigned_abs, arith, ap, sym, ◌∙◌, refl}
use Rattle.std.specs.List.{AllByRecursion, filter, flat_map, remove}
use Rattle.std.specs.Int.{is_positive, is_negative, ◌∣◌}
use Rattle.std.proofs.lemmas.Int.{ints}
use Rattle.std.proofs.lemmas.Bool.Decides.{Decides-int_eq}
use Rattle.std.proofs.lemmas.Nat.Gcd.{mod-eq-zero_of_dvd}
use Rattle.std.proofs.Math.IntN.{zero-*ℤ}
use Rattle.affine_forms.specs.Affine.{Affine, value}
use Rattle.affine_prover.specs.RowSets.Rows.{gcd, weighed, weighed_lists, combined, coefficient}
use Rattle.affine_prover.specs.RowSets.Rows.{without, combination, lower_factor, upper_factor}
use Rattle.affine_prover.specs.RowSets.Rows.{is_lower_bound, is_upper_bound, is_free, following}
use Rattle.affine_forms.proofs.Integers.{times_natural}
use Rattle.affine_prover.proofs.OfRowSets.Values.{value-combined, value-without}
use Rattle.affine_prover.proofs.OfRowSets.Divisors.{gcd-is}
use Rattle.affine_prover.proofs.OfRowSets.Everywhere.{everywhere-append, everywhere-map}
use Rattle.affine_prover.proofs.OfRowSets.Everywhere.{everywhere-flat_map, everywhere-filter}
use Rattle.affine_prover.proofs.OfRowSets.Widths.{IsWide, length-weighed_lists, length-remove}
use Rattle.affine_prover.proofs.OfRowSets.Truth.{Holds}

pub weighed_at : (f : ℤ) (xs : List ℤ) (g : ℤ) (ys : List ℤ) (v : ℕ) → length xs ≡ length ys → get_or (weighed_lists f xs g ys) v (pos 0) ≡ weighed f (get_or xs v (pos 0)) g (get_or ys v (pos 0))
weighed_at f [] g [] v e = omega (arith, ints)
weighed_at f [] g (y ∷ ys) v e = absurd (omega arith)
weighed_at f (x ∷ xs) g [] v e = absurd (omega arith)
weighed_at f (x ∷ xs) g (y ∷ ys) zero e = refl
weighed_at f (x ∷ xs) g (y ∷ ys) (suc v) e = weighed_at f xs g ys v (omega arith)

multiples_cross : (m n g : ℕ) → g ∣ m → g ∣ n → (n / g) * m ≡ (m / g) * n
multiples_cross m n g d e =
    let p = mod-eq-zero_of_dvd g d in
    let q = mod-eq-zero_of_dvd g e in
    let a : m ≡ g * (m / g) = omega arith in
    let b : n ≡ g * (n / g) = omega arith in
    omega (arith, ap (λ x. (n / g) * x) a, ap (λ x. (m / g) * x) b)

factors_cancel : (x y : ℤ) → is_positive x ≡ true → is_negative y ≡ true → weighed (pos (unsigned_abs y / gcd (unsigned_abs x) (unsigned_abs y))) x (pos (unsigned_abs x / gcd (unsigned_abs x) (unsigned_abs y))) y ≡ pos 0
factors_cancel (pos m) (pos n) h k = absurd (omega (arith, ints))
factors_cancel (negsuc m) y h k = absurd (omega (arith, ints))
factors_cancel (pos m) (negsuc n) h k =
    let is = gcd-is m (suc n) in
    let cross = multiples_cross m (suc n) (gcd m (suc n)) is.0 is.1 in
    omega (arith, ints, cross)

-- what the lists of one stage keep at a point
abbrev pub HoldsWide : ℕ → List ℤ → Affine → Type 0
HoldsWide n point r = IsWide n r × Holds point r

combination-holds : (n v : ℕ) (point : List ℤ) (p q : Affine) → v < suc n → HoldsWide (suc n) point p → is_lower_bound v p ≡ true → HoldsWide (suc n) point q → is_upper_bound v q ≡ true → HoldsWide n (remove point v) (combination v p q)
combination-holds n v point p q l h s k t =
    let f = lower_factor v p q in
    let g = upper_factor v p q in
    let same : length p.coefficients ≡ length q.coefficients = h.0 ∙ sym k.0 in
    let sum = value-combined f p g q point same in
    let split = value-without v (combined f p g q) point in
    let gone : coefficient (combined f p g q) v ≡ pos 0 = weighed_at f p.coefficients g q.coefficients v same ∙ factors_cancel (coefficient p v) (coefficient q v) s t in
    let width = length-weighed_lists f p.coefficients g q.coefficients same ∙ h.0 in (
      length-remove (weighed_lists f p.coefficients g q.coefficients) v n width l,
      omega (arith, ints, sum, split, ap (λ z. z *ℤ get_or point v (pos 0)) gone, zero-*ℤ (get_or point v (pos 0)), times_natural (unsigned_abs (coefficient q v) / gcd (unsigned_abs (coefficient p v)) (unsigned_abs (coefficient q v))) (value p point) h.1, times_natural (unsigned_abs (coefficient p v) / gcd (unsigned_abs (coefficient p v)) (unsigned_abs (coefficient q v))) (value q point) k.1),
    )

free-holds : (n v : ℕ) (point : List ℤ) (r : Affine) → v < suc n → HoldsWide (suc n) point r → is_free v r ≡ true → HoldsWide n (remove point v) (without v r)
free-holds n v point r l h t =
    let none : coefficient r v ≡ pos 0 = (Decides-int_eq (coefficient r v) (pos 0)).0 t in (
      length-remove r.coefficients v n h.0 l,
      omega (arith, ints, h.1, value-without v r point, ap (λ z. z *ℤ get_or point v (pos 0)) none, zero-*ℤ (get_or point v (pos 0))),
    )

pub following-holds : (n v : ℕ) (point : List ℤ) (rows : List Affine) → v < suc n → AllByRecursion (HoldsWide (suc n) point) rows → AllByRecursion (HoldsWide n (remove point v)) (following v rows)
following-holds n v point rows l h =
    let P : Affine → Type 0 = HoldsWide (suc n) point in
    let Q : Affine → Type 0 = HoldsWide n (remove point v) in
    let free = everywhere-filter P (is_free v) rows h in
    let lower = everywhere-filter P (is_lower_bound v) rows h in
    let upper = everywhere-filter P (is_upper_bound v) rows h in
    everywhere-append Q (map (without v) (filter (is_free v) rows)) (flat_map (λ p. map (combination v p) (filter (is_upper_bound v) rows)) (filter (is_lower_bound v) rows))
    (everywhere-map (λ r. P r × (is_free v r ≡ true)) Q (without v) (λ r k. free-holds n v point r l k.0 k.1) (filter (is_free v) rows) free)
    (everywhere-flat_map (λ r. P r × (is_lower_bound v r ≡ true)) Q (λ p. map (combination v p) (filter (is_upper_bound v) rows))
    (λ p k. everywhere-map (λ r. P r × (is_upper_bound v r ≡ true)) Q (combination v p) (λ q m. combination-holds n v point p q l k.0 k.1 m.0 m.1) (filter (is_upper_bound v) rows) upper)
    (filter (is_lower_bound v) rows) lower)
