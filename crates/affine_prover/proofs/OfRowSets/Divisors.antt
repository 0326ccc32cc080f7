-- The greatest common divisor, and quotients that are rounded down.
use Rattle.std.proofs.Common.{ℕ, zero, suc, ◌+◌, ◌-◌, ◌*◌, ◌/◌, ◌%◌, ◌<◌, ◌≤◌, ◌≡◌, List, [], ◌∷◌, ℤ, pos, negsuc, ◌+ℤ◌, ◌*ℤ◌, unsigned_abs, arith, ap, sym, subst, ◌∙◌, refl}
use Rattle.std.specs.List.{AllByRecursion, fold}
use Rattle.std.specs.Int.{IsGcd, int_div_euclid, ◌∣◌}
use Rattle.std.proofs.lemmas.Int.{ints}
use Rattle.std.proofs.lemmas.Nat.Gcd.{IsGcd-from_zero, IsGcd-from_mod, same_from_IsGcd, dvd_refl, dvd_trans, mod-eq-zero_of_dvd}
use Rattle.std.proofs.Math.Nat.{mod-zero, zero-mod, mod-lt, mul-le-mul_left}
use Rattle.std.proofs.lemmas.Bool.{cases_lt}
use Rattle.std.proofs.Common.{◌⊎◌, inl, inr}
use Rattle.affine_prover.specs.RowSets.Rows.{gcd_within, gcd, gcd_of}

gcd_within-is : (k a b : ℕ) → b ≤ k → IsGcd a b (gcd_within k a b)
gcd_within-is zero a b h = IsGcd-from_zero a b (omega arith)
gcd_within-is (suc k) a zero h = IsGcd-from_zero a 0 refl
gcd_within-is (suc k) a (suc b) h =
    let less = mod-lt a {m = suc b} (omega arith) in
    IsGcd-from_mod a (suc b) _ (gcd_within-is k (suc b) (a % suc b) (omega arith))

pub gcd-is : (a b : ℕ) → IsGcd a b (gcd a b)
unfolding gcd
gcd-is a b = gcd_within-is b a b (omega arith)

pub gcd_fold-divides : (g : ℕ) (cs : List ℤ) → (fold (λ g c. gcd (unsigned_abs c) g) g cs ∣ g) × AllByRecursion (λ c. fold (λ g c. gcd (unsigned_abs c) g) g cs ∣ unsigned_abs c) cs
gcd_fold-divides g [] = (dvd_refl g, tt)
gcd_fold-divides g (c ∷ cs) =
    let here = gcd-is (unsigned_abs c) g in
    let rest = gcd_fold-divides (gcd (unsigned_abs c) g) cs in
    (dvd_trans _ rest.0 here.1, (dvd_trans _ rest.0 here.0, rest.1))

pub gcd_of-divides : (cs : List ℤ) → AllByRecursion (λ c. gcd_of cs ∣ unsigned_abs c) cs
gcd_of-divides cs = (gcd_fold-divides 0 cs).1

-- a number is g times its quotient and a remainder below g
pub quotient-floor : (k : ℤ) (g : ℕ) → 0 < g → (r : ℕ) × (r < g) × (k ≡ pos g *ℤ int_div_euclid k (pos g) +ℤ pos r)
quotient-floor (pos a) g h = (a % g, mod-lt a h, omega (arith, ints))
quotient-floor (negsuc a) g h =
    let less = mod-lt a h in
    (g - 1 - a % g, omega arith, omega (arith, ints))

next_multiple : (g k q r : ℕ) → r < g → g * k ≡ g * q + (r + 1) → k ≡ suc q
next_multiple g k q r l e = by (cases_lt q k) (cases_lt k (suc (suc q)))
  where
    by : (q < k) ⊎ (k ≤ q) → (k < suc (suc q)) ⊎ (suc (suc q) ≤ k) → k ≡ suc q
    by (inr h) _ = absurd (omega (arith, mul-le-mul_left g h))
    by (inl h) (inr m) = absurd (omega (arith, mul-le-mul_left g m))
    by (inl h) (inl m) = omega arith

-- a number that g divides is g times its quotient
pub quotient-exact : (k : ℤ) (g : ℕ) → 0 < g → g ∣ unsigned_abs k → k ≡ pos g *ℤ int_div_euclid k (pos g)
quotient-exact (pos a) g h d =
    let none = mod-eq-zero_of_dvd g d in
    omega (arith, ints)
quotient-exact (negsuc a) g h d =
    let none : suc a % g ≡ 0 = mod-eq-zero_of_dvd g d in
    let less = mod-lt a h in
    let next : suc a / g ≡ suc (a / g) = next_multiple g (suc a / g) (a / g) (a % g) less (omega arith) in
    omega (arith, ints, ap (λ n. g * n) next)

positive_of_dvd : (g a : ℕ) → g ∣ a → 0 < a → 0 < g
positive_of_dvd zero a d h = let none = sym (mod-zero a) ∙ mod-eq-zero_of_dvd 0 d in absurd (omega arith)
positive_of_dvd (suc g) a d h = omega arith

pub gcd-positive : (a b : ℕ) → 0 < a → 0 < gcd a b
gcd-positive a b h = positive_of_dvd (gcd a b) a (gcd-is a b).0 h

pub gcd-zero : (a : ℕ) → gcd a 0 ≡ a
gcd-zero a = same_from_IsGcd a 0 _ _ (gcd-is a 0) (IsGcd-from_zero a 0 refl)

pub gcd-mod : (a b : ℕ) → gcd b (a % b) ≡ gcd a b
gcd-mod a b = same_from_IsGcd a b _ _ (IsGcd-from_mod a b _ (gcd-is b (a % b))) (gcd-is a b)

pub zero-gcd : (b : ℕ) → gcd 0 b ≡ b
zero-gcd b = sym (same_from_IsGcd 0 b _ _ (IsGcd-from_mod 0 b b (subst (λ r. IsGcd b r b) (sym (zero-mod b)) (IsGcd-from_zero b 0 refl))) (gcd-is 0 b))
