-- Products of positive extents.
use Rattle.std.proofs.Common.{◌≡◌, ◌≤◌, ◌*◌, ℕ, ℤ, pos, negsuc, ◌*ℤ◌, ◌≤ℤ◌, true, List, [], ◌∷◌, refl, sym, ap, arith, true≢false, int_le, unsigned_abs}
use Rattle.std.proofs.lemmas.Int.{ints}
use Rattle.std.proofs.lemmas.Bool.{and_parts}
use Rattle.std.proofs.lemmas.Nat.{mul-le}
use Rattle.std.proofs.Math.Nat.{le_refl}
use Rattle.exo_meaning.specs.Calls.{all_positive}
use Rattle.exo_meaning.specs.Run.{product}

pub both_positive : (a b : ℤ) → int_le (pos 1) a ≡ true → int_le (pos 1) b ≡ true → int_le (pos 1) (a *ℤ b) ≡ true
both_positive (pos a) (pos b) h k = let p : 1 ≤ a = grind arith in let q : 1 ≤ b = grind arith in let r : 1 * 1 ≤ a * b = mul-le _ _ _ _ p q in grind arith
both_positive (negsuc a) b h k = absurd (true≢false (sym h))
both_positive (pos a) (negsuc b) h k = absurd (true≢false (sym k))

pub positive_product : (ds : List ℤ) → all_positive ds ≡ true → int_le (pos 1) (product ds) ≡ true
positive_product [] h = refl
positive_product (d ∷ ds) h = let p = and_parts (int_le (pos 1) d) (all_positive ds) h in both_positive d (product ds) p.0 (positive_product ds p.1)

pub times_assoc : (x y z : ℤ) → int_le (pos 1) x ≡ true → int_le (pos 1) y ≡ true → int_le (pos 1) z ≡ true → (x *ℤ y) *ℤ z ≡ x *ℤ (y *ℤ z)
times_assoc (pos x) (pos y) (pos z) h k l = let e : x * y * z ≡ x * (y * z) = omega arith in ap pos e
times_assoc (negsuc x) y z h k l = absurd (true≢false (sym h))
times_assoc (pos x) (negsuc y) z h k l = absurd (true≢false (sym k))
times_assoc (pos x) (pos y) (negsuc z) h k l = absurd (true≢false (sym l))

-- a positive factor is at most the product with another
pub left_factor : (x y : ℤ) → int_le (pos 1) x ≡ true → int_le (pos 1) y ≡ true → x ≤ℤ (x *ℤ y)
left_factor (pos x) (pos y) h k = let p : 1 ≤ y = grind arith in let q : x * 1 ≤ x * y = mul-le _ _ _ _ (le_refl x) p in omega (arith, ints)
left_factor (negsuc x) y h k = absurd (true≢false (sym h))
left_factor (pos x) (negsuc y) h k = absurd (true≢false (sym k))

pub right_factor : (x y : ℤ) → int_le (pos 1) x ≡ true → int_le (pos 1) y ≡ true → y ≤ℤ (x *ℤ y)
right_factor (pos x) (pos y) h k = let p : 1 ≤ x = grind arith in let q : 1 * y ≤ x * y = mul-le _ _ _ _ p (le_refl y) in omega (arith, ints)
right_factor (negsuc x) y h k = absurd (true≢false (sym h))
right_factor (pos x) (negsuc y) h k = absurd (true≢false (sym k))

-- how large a positive number is
pub abs_within : (z : ℤ) (n : ℕ) → int_le (pos 1) z ≡ true → z ≤ℤ pos n → unsigned_abs z ≤ n
abs_within (pos z) n h k = omega (arith, ints)
abs_within (negsuc z) n h k = absurd (true≢false (sym h))
