-- What is hashed of a term.
use Rattle.std.specs.Prelude.{ℕ, ℤ, pos, ◌+◌, ◌*◌, ◌%◌, ◌^◌, int_lt, if◌then◌else◌, unsigned_abs}

-- the low bits of the coefficient's size, its sign, and the low bits of the variable
abbrev pub hashed_term : ℕ → ℤ → ℕ
hashed_term variable coefficient =
    unsigned_abs coefficient % 2 ^ 48 * 128
    + (if int_lt coefficient (pos 0) then 64 else 0)
    + variable % 64
