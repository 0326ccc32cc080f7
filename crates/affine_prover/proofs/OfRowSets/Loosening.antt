-- Rational numbers that meet the tightened and merged rows meet the rows.
use Rattle.std.proofs.Common.{ℕ, ◌<◌, ◌≡◌, ◌==◌, ◌&&◌, Bool, true, false, not, cond, List, [], ◌∷◌, map, ℤ, pos, ◌+ℤ◌, ◌*ℤ◌, ◌≤ℤ◌, unsigned_abs, Some, None, arith, ap, subst, refl}
use Rattle.std.specs.Prelude.{int_lt}
use Rattle.std.specs.List.{AllByRecursion, filter, fold, list_any}
use Rattle.std.specs.Int.{int_div_euclid, int_min, is_negative, ◌∣◌}
use Rattle.std.proofs.lemmas.Int.{ints}
use Rattle.std.proofs.lemmas.Bool.Decides.{nat_tests}
use Rattle.affine_forms.specs.Affine.{Affine, dot, value_over}
use Rattle.affine_prover.specs.RowSets.Rows.{is_constant, is_false, tightened, joined, merged}
use Rattle.affine_prover.specs.RowSets.Rows.{same_list, normalized, gcd_of}
use Rattle.affine_forms.proofs.Integers.{times-add, times_natural}
use Rattle.affine_prover.proofs.OfRowSets.Divisors.{gcd_of-divides, quotient-floor}
use Rattle.affine_prover.proofs.OfRowSets.Tightening.{dot-divided}
use Rattle.affine_prover.proofs.OfRowSets.Everywhere.{everywhere-both, everywhere-like}
use Rattle.affine_prover.proofs.OfRowSets.Truth.{all_zero-dot, same_list-true}
use Rattle.affine_prover.proofs.OfRowSets.Fractions.{swap_times, times_at_most}
use Rattle.affine_prover.proofs.OfRowSets.Parts.{parts-map, parts-filter, none-pass}

-- the row is at least 0 where each variable is its numerator over d
abbrev pub HoldsOver : ℕ → List ℤ → Affine → Type 0
HoldsOver d ps r = pos 0 ≤ℤ value_over (pos d) r ps

-- ---- merged rows
least-loosens : (d : ℕ) (ps : List ℤ) (k r : Affine) → k.coefficients ≡ r.coefficients → HoldsOver d ps (record k { constant = int_min k.constant r.constant }) → HoldsOver d ps k × HoldsOver d ps r
least-loosens d ps k r e h = by (int_lt r.constant k.constant) refl h
  where
    by : (b : Bool) → int_lt r.constant k.constant ≡ b → pos 0 ≤ℤ (pos d *ℤ cond b r.constant k.constant +ℤ dot k.coefficients ps) → HoldsOver d ps k × HoldsOver d ps r
    by true t m =
        let below : r.constant ≤ℤ k.constant = omega (arith, ints) in
        let more = times_at_most d r.constant k.constant below in
        let same = ap (λ cs. dot cs ps) e in
        (omega (arith, ints, m, more), omega (arith, ints, m, same))
    by false t m =
        let below : k.constant ≤ℤ r.constant = omega (arith, ints) in
        let more = times_at_most d k.constant r.constant below in
        let same = ap (λ cs. dot cs ps) e in
        (m, omega (arith, ints, m, more, same))

joined-loosens : (d : ℕ) (ps : List ℤ) (ks : List Affine) (r : Affine) → AllByRecursion (HoldsOver d ps) (joined ks r) → AllByRecursion (HoldsOver d ps) ks × HoldsOver d ps r
joined-loosens d ps [] r h = (tt, h.0)
joined-loosens d ps (k ∷ ks) r h = by (same_list k.coefficients r.coefficients) refl h (joined-loosens d ps ks r)
  where
    by : (b : Bool) → same_list k.coefficients r.coefficients ≡ b → AllByRecursion (HoldsOver d ps) (cond b ((record k { constant = int_min k.constant r.constant }) ∷ ks) (k ∷ joined ks r)) → (AllByRecursion (HoldsOver d ps) (joined ks r) → AllByRecursion (HoldsOver d ps) ks × HoldsOver d ps r) → AllByRecursion (HoldsOver d ps) (k ∷ ks) × HoldsOver d ps r
    by true t m rest =
        let both = least-loosens d ps k r (same_list-true k.coefficients r.coefficients t) m.0 in
        ((both.0, m.1), both.1)
    by false t m rest = let both = rest m.1 in ((m.0, both.0), both.1)

merged_onto-loosens : (d : ℕ) (ps : List ℤ) (kept rows : List Affine) → AllByRecursion (HoldsOver d ps) (fold joined kept rows) → AllByRecursion (HoldsOver d ps) kept × AllByRecursion (HoldsOver d ps) rows
merged_onto-loosens d ps kept [] h = (h, tt)
merged_onto-loosens d ps kept (r ∷ rs) h =
    let both = merged_onto-loosens d ps (joined kept r) rs h in
    let one = joined-loosens d ps kept r both.0 in
    (one.0, (one.1, both.1))

-- ---- tightened rows: rounding down only lowers the constant
divided-loosens : (d : ℕ) (ps : List ℤ) (g : ℕ) (a : Affine) → AllByRecursion (λ c. g ∣ unsigned_abs c) a.coefficients → (b : Bool) → (g == 0) ≡ b → HoldsOver d ps (cond b a (record { constant = int_div_euclid a.constant (pos g); coefficients = map (λ c. int_div_euclid c (pos g)) a.coefficients })) → HoldsOver d ps a
divided-loosens d ps g a v true t h = h
divided-loosens d ps g a v false t h =
    let positive : 0 < g = grind (arith, nat_tests) in
    let q = int_div_euclid a.constant (pos g) in
    let sum = dot (map (λ c. int_div_euclid c (pos g)) a.coefficients) ps in
    let split = quotient-floor a.constant g positive in
    let rest = split.0 in
    let constant : pos d *ℤ a.constant ≡ pos d *ℤ (pos g *ℤ q +ℤ pos rest) = ap (λ z. pos d *ℤ z) split.2 in
    let parts = times-add (pos d) (pos g *ℤ q) (pos rest) in
    let swapped = swap_times (pos d) (pos g) q in
    let natural : pos 0 ≤ℤ (pos d *ℤ pos rest) = times_natural d (pos rest) (omega (arith, ints)) in
    let whole = times_natural g (pos d *ℤ q +ℤ sum) h in
    let whole_parts = times-add (pos g) (pos d *ℤ q) sum in
    let divided = dot-divided g positive a.coefficients ps v in
    omega (arith, ints, constant, parts, swapped, natural, whole, whole_parts, divided)

tightened-loosens : (d : ℕ) (ps : List ℤ) (r : Affine) → HoldsOver d ps (tightened r) → HoldsOver d ps r
tightened-loosens d ps r h = divided-loosens d ps (gcd_of r.coefficients) r (gcd_of-divides r.coefficients) (gcd_of r.coefficients == 0) refl h

-- a row without variables that is not false holds everywhere
kept_or_constant-holds : (d : ℕ) (ps : List ℤ) (r : Affine) → is_false r ≡ false → (not (is_constant r) ≡ true → HoldsOver d ps r) → HoldsOver d ps r
kept_or_constant-holds d ps r f h = by (is_constant r) refl f h
  where
    by : (b : Bool) → is_constant r ≡ b → (b && is_negative r.constant) ≡ false → (not b ≡ true → HoldsOver d ps r) → HoldsOver d ps r
    by true t m k =
        let natural : pos 0 ≤ℤ r.constant = omega (arith, ints, m) in
        omega (arith, ints, times_natural d r.constant natural, all_zero-dot r.coefficients ps t)
    by false t m k = k refl

pub normalized-loosens : (d : ℕ) (ps : List ℤ) (rows kept : List Affine) → normalized rows ≡ Some kept → AllByRecursion (HoldsOver d ps) kept → AllByRecursion (HoldsOver d ps) rows
unfolding normalized
normalized-loosens d ps rows kept e h = by (list_any is_false (map tightened rows)) refl e
  where
    by : (b : Bool) → list_any is_false (map tightened rows) ≡ b → cond b None (Some (merged (filter (λ r. not (is_constant r)) (map tightened rows)))) ≡ Some kept → AllByRecursion (HoldsOver d ps) rows
    by true t m = absurd cc
    by false t m =
        let same : kept ≡ merged (filter (λ r. not (is_constant r)) (map tightened rows)) = cc in
        let some = (merged_onto-loosens d ps [] (filter (λ r. not (is_constant r)) (map tightened rows)) (subst (AllByRecursion (HoldsOver d ps)) same h)).1 in
        let tests = everywhere-both (λ r. is_false r ≡ false) (λ r. not (is_constant r) ≡ true → HoldsOver d ps r) (map tightened rows) (none-pass is_false (map tightened rows) t) (parts-filter (HoldsOver d ps) (λ r. not (is_constant r)) (map tightened rows) some) in
        let tight = everywhere-like (λ r. (is_false r ≡ false) × (not (is_constant r) ≡ true → HoldsOver d ps r)) (HoldsOver d ps) (λ r k. kept_or_constant-holds d ps r k.0 k.1) (map tightened rows) tests in
        everywhere-like (λ r. HoldsOver d ps (tightened r)) (HoldsOver d ps) (tightened-loosens d ps) rows (parts-map (HoldsOver d ps) tightened rows tight)
