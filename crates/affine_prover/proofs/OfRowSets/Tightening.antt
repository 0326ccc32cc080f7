-- A row that holds at an integer point holds there once it is tightened.
use Rattle.std.proofs.Common.{ℕ, ◌<◌, ◌≡◌, ◌==◌, cond, List, [], ◌∷◌, map, ℤ, pos, ◌+ℤ◌, ◌*ℤ◌, ◌≤ℤ◌, unsigned_abs, arith, ap, sym, ◌∙◌, refl}
use Rattle.std.specs.List.{AllByRecursion}
use Rattle.std.specs.Int.{int_div_euclid, ◌∣◌}
use Rattle.std.proofs.lemmas.Int.{ints}
use Rattle.std.proofs.Common.{Bool, true, false}
use Rattle.std.proofs.lemmas.Bool.Decides.{nat_tests}
use Rattle.std.proofs.Math.IntN.{*ℤ-zero}
use Rattle.affine_forms.specs.Affine.{Affine, dot, value}
use Rattle.affine_prover.specs.RowSets.Rows.{gcd_of, tightened}
use Rattle.affine_forms.proofs.Integers.{times-add, times_assoc, natural_from_times}
use Rattle.affine_prover.proofs.OfRowSets.Divisors.{gcd_of-divides, quotient-floor, quotient-exact}

pub dot-divided : (g : ℕ) → 0 < g → (cs ps : List ℤ) → AllByRecursion (λ c. g ∣ unsigned_abs c) cs → dot cs ps ≡ pos g *ℤ dot (map (λ c. int_div_euclid c (pos g)) cs) ps
dot-divided g h [] ps d = sym (*ℤ-zero (pos g))
dot-divided g h (c ∷ cs) [] d = sym (*ℤ-zero (pos g))
dot-divided g h (c ∷ cs) (p ∷ ps) d =
    let rest = dot-divided g h cs ps d.1 in
    let q = int_div_euclid c (pos g) in
    let here : c *ℤ p ≡ pos g *ℤ (q *ℤ p) = ap (λ x. x *ℤ p) (quotient-exact c g h d.0) ∙ times_assoc (pos g) q p in
    omega (arith, ints, here, rest, times-add (pos g) (q *ℤ p) (dot (map (λ c. int_div_euclid c (pos g)) cs) ps))

divided-holds : (g : ℕ) (a : Affine) (ps : List ℤ) → AllByRecursion (λ c. g ∣ unsigned_abs c) a.coefficients → pos 0 ≤ℤ value a ps → pos 0 ≤ℤ value (cond (g == 0) a (record { constant = int_div_euclid a.constant (pos g); coefficients = map (λ c. int_div_euclid c (pos g)) a.coefficients })) ps
divided-holds g a ps d h = by (g == 0) refl
  where
    by : (b : Bool) → (g == 0) ≡ b → pos 0 ≤ℤ value (cond b a (record { constant = int_div_euclid a.constant (pos g); coefficients = map (λ c. int_div_euclid c (pos g)) a.coefficients })) ps
    by true e = h
    by false e =
        let positive : 0 < g = grind (arith, nat_tests) in
        let q = int_div_euclid a.constant (pos g) in
        let sum = dot (map (λ c. int_div_euclid c (pos g)) a.coefficients) ps in
        let split = quotient-floor a.constant g positive in
        natural_from_times g split.0 (q +ℤ sum) split.1 (omega (arith, ints, split.2, dot-divided g positive a.coefficients ps d, times-add (pos g) q sum))

pub tightened-holds : (a : Affine) (ps : List ℤ) → pos 0 ≤ℤ value a ps → pos 0 ≤ℤ value (tightened a) ps
tightened-holds a ps h = divided-holds (gcd_of a.coefficients) a ps (gcd_of-divides a.coefficients) h
