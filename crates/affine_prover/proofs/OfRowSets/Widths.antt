-- How many coefficients the rows have after each step.
use Rattle.std.proofs.Common.{ℕ, zero, suc, ◌<◌, ◌≡◌, Bool, true, false, not, cond, List, [], ◌∷◌, map, length, ltb, ℤ, pos, Option, Some, None, arith, ◌∙◌, refl, eqb}
use Rattle.std.proofs.lemmas.List.{length-map}
use Rattle.std.specs.List.{AllByRecursion, filter, fold, list_any, remove}
use Rattle.std.specs.Int.{int_div_euclid, int_min}
use Rattle.affine_forms.specs.Affine.{Affine}
use Rattle.affine_prover.specs.RowSets.Rows.{weighed_lists, is_constant, is_false, tightened}
use Rattle.affine_prover.specs.RowSets.Rows.{joined, merged, same_list, normalized, gcd_of}
use Rattle.affine_prover.specs.RowSets.Rows.{least_at}
use Rattle.affine_prover.proofs.OfRowSets.Everywhere.{everywhere-map, everywhere-filter}
use Rattle.affine_prover.proofs.OfRowSets.Everywhere.{everywhere-like}

-- the row has n coefficients
abbrev pub IsWide : ℕ → Affine → Type 0
IsWide n r = length r.coefficients ≡ n

pub length-weighed_lists : (f : ℤ) (xs : List ℤ) (g : ℤ) (ys : List ℤ) → length xs ≡ length ys → length (weighed_lists f xs g ys) ≡ length xs
length-weighed_lists f [] g ys e = refl
length-weighed_lists f (x ∷ xs) g [] e = absurd (omega arith)
length-weighed_lists f (x ∷ xs) g (y ∷ ys) e = omega (arith, length-weighed_lists f xs g ys (omega arith))

pub length-remove : {X : Type 0} (xs : List X) (v n : ℕ) → length xs ≡ suc n → v < suc n → length (remove xs v) ≡ n
length-remove [] v n e h = absurd (omega arith)
length-remove (x ∷ xs) zero n e h = omega arith
length-remove (x ∷ xs) (suc v) zero e h = absurd (omega arith)
length-remove (x ∷ xs) (suc v) (suc n) e h = omega (arith, length-remove xs v n (omega arith) (omega arith))

pub least_at-below : (f : ℕ → ℕ) (n : ℕ) → least_at f (suc n) < suc n
least_at-below f zero = by (ltb (f 0) (f 0))
  where
    by : (b : Bool) → cond b 0 0 < 1
    by true = omega arith
    by false = omega arith
least_at-below f (suc n) = by (ltb (f (suc n)) (f (least_at f (suc n)))) (least_at-below f n)
  where
    by : (b : Bool) → least_at f (suc n) < suc n → cond b (suc n) (least_at f (suc n)) < suc (suc n)
    by true h = omega arith
    by false h = omega arith

pub tightened-wide : (n : ℕ) (r : Affine) → IsWide n r → IsWide n (tightened r)
tightened-wide n r h = by (gcd_of r.coefficients) (eqb (gcd_of r.coefficients) 0)
  where
    by : (g : ℕ) (b : Bool) → IsWide n (cond b r (record { constant = int_div_euclid r.constant (pos g); coefficients = map (λ c. int_div_euclid c (pos g)) r.coefficients }))
    by g true = h
    by g false = length-map r.coefficients (λ c. int_div_euclid c (pos g)) ∙ h

joined-wide : (n : ℕ) (ks : List Affine) (r : Affine) → AllByRecursion (IsWide n) ks → IsWide n r → AllByRecursion (IsWide n) (joined ks r)
joined-wide n [] r h i = (i, tt)
joined-wide n (k ∷ ks) r h i = by (same_list k.coefficients r.coefficients) (joined-wide n ks r h.1 i)
  where
    by : (b : Bool) → AllByRecursion (IsWide n) (joined ks r) → AllByRecursion (IsWide n) (cond b ((record k { constant = int_min k.constant r.constant }) ∷ ks) (k ∷ joined ks r))
    by true rest = (h.0, h.1)
    by false rest = (h.0, rest)

merged_onto-wide : (n : ℕ) (kept rows : List Affine) → AllByRecursion (IsWide n) kept → AllByRecursion (IsWide n) rows → AllByRecursion (IsWide n) (fold joined kept rows)
merged_onto-wide n kept [] h i = h
merged_onto-wide n kept (r ∷ rs) h i = merged_onto-wide n (joined kept r) rs (joined-wide n kept r h i.0) i.1

abbrev pub AreWide : ℕ → Option (List Affine) → Type 0
AreWide n None = Unit {0}
AreWide n (Some rows) = AllByRecursion (IsWide n) rows

pub normalized-wide : (n : ℕ) (rows : List Affine) → AllByRecursion (IsWide n) rows → AreWide n (normalized rows)
unfolding normalized
normalized-wide n rows h = by (list_any is_false (map tightened rows))
  where
    some : AllByRecursion (IsWide n) (filter (λ r. not (is_constant r)) (map tightened rows))
    some = everywhere-like (λ r. IsWide n r × (not (is_constant r) ≡ true)) (IsWide n) (λ r p. p.0) (filter (λ r. not (is_constant r)) (map tightened rows)) (everywhere-filter (IsWide n) (λ r. not (is_constant r)) (map tightened rows) (everywhere-map (IsWide n) (IsWide n) tightened (tightened-wide n) rows h))

    by : (b : Bool) → AreWide n (cond b None (Some (merged (filter (λ r. not (is_constant r)) (map tightened rows)))))
    by true = tt
    by false = merged_onto-wide n [] (filter (λ r. not (is_constant r)) (map tightened rows)) tt some
