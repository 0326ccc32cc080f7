-- The constants of rows and equations.
use Rattle.std.proofs.Common.{◌≡◌, ◌+◌, ◌^◌, ◌-◌, ℤ, pos, negsuc, ◌-ℤ◌, ◌≤ℤ◌, ◌<ℤ◌, int_le, int_lt, true, ◌&&◌, arith, ap₂}
use Rattle.std.proofs.lemmas.Int.{ints}
use Rattle.std.specs.Int.{w128}
use Rattle.std.specs.Int.RustNames.{FitsSigned}
use Rattle.affine_forms.specs.Forms.{is_within}
use Rattle.affine_forms.specs.Formulas.{is_row_constant}
use Rattle.affine_forms.proofs.Values.{and_parts}
use Rattle.affine_forms.proofs.TermWidths.{within_le, within_from_le, fits_within}

le_from : (a b : ℤ) → int_le a b ≡ true → a ≤ℤ b
le_from a b h = omega (arith, ints)

lt_from : (a b : ℤ) → int_lt a b ≡ true → a <ℤ b
lt_from a b h = omega (arith, ints)

le_holds : (a b : ℤ) → a ≤ℤ b → int_le a b ≡ true
le_holds a b h = grind (arith, ints)

lt_holds : (a b : ℤ) → a <ℤ b → int_lt a b ≡ true
lt_holds a b h = grind (arith, ints)

pub row_parts : (k : ℤ) → is_row_constant k ≡ true → (negsuc (2 ^ 64 - 1) ≤ℤ k) × (k <ℤ pos (2 ^ 64))
row_parts k h =
    let p = and_parts (int_le (negsuc (2 ^ 64 - 1)) k) (int_lt k (pos (2 ^ 64))) h in
    (le_from (negsuc (2 ^ 64 - 1)) k p.0, lt_from k (pos (2 ^ 64)) p.1)

pub row_from : (k : ℤ) → negsuc (2 ^ 64 - 1) ≤ℤ k → k <ℤ pos (2 ^ 64) → is_row_constant k ≡ true
row_from k h i = ap₂ (λ s t. s && t) (le_holds (negsuc (2 ^ 64 - 1)) k h) (lt_holds k (pos (2 ^ 64)) i)

-- a row's constant is at most 2^64 in size
pub row_within : (k : ℤ) → is_row_constant k ≡ true → is_within (2 ^ 64) k ≡ true
row_within k h = let p = row_parts k h in within_from_le (2 ^ 64) k (omega (arith, ints, p.0, p.1))

pub row_fits : (k : ℤ) → is_row_constant k ≡ true → FitsSigned w128 k
row_fits k h = fits_within k (within_from_le (2 ^ 126) k (omega (arith, within_le (2 ^ 64) k (row_within k h))))

-- what is at most 2^64 - 1 in size is a row's constant
pub row_of_within : (k : ℤ) → is_within (2 ^ 64 - 1) k ≡ true → is_row_constant k ≡ true
row_of_within k h = let l = within_le (2 ^ 64 - 1) k h in row_from k (omega (arith, ints, l)) (omega (arith, ints, l))

pub row_denied : (k : ℤ) → is_row_constant k ≡ true → is_row_constant ((pos 0 -ℤ k) -ℤ pos 1) ≡ true
row_denied k h = let p = row_parts k h in row_from ((pos 0 -ℤ k) -ℤ pos 1) (omega (arith, ints, p.0, p.1)) (omega (arith, ints, p.0, p.1))

pub row_less : (k : ℤ) → is_within (2 ^ 63 + 1) k ≡ true → is_row_constant (k -ℤ pos 1) ≡ true
row_less k h = let l = within_le (2 ^ 63 + 1) k h in row_from (k -ℤ pos 1) (omega (arith, ints, l)) (omega (arith, ints, l))
