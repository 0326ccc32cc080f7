-- What the helpers of a printed file give, as they are written.
use Rattle.std.specs.Prelude.{◌≡◌, ℤ, pos, ◌+ℤ◌, ◌-ℤ◌, ◌≤ℤ◌, int_lt, int_div, int_rem, true, not}
use Rattle.std.specs.Prelude.{if◌then◌else◌}
use Rattle.std.specs.Int.{int_div_euclid, int_rem_euclid}
use Rattle.std.specs.Ordering.{int_eq}
use Rattle.c_unit_laws.specs.Follows.Machine.Machine.{Outcome, Done, after, where_good, fits64}
use Rattle.c_unit_laws.specs.Follows.Machine.Machine.{checked}

-- C's `a / b`, which rounds towards 0; undefined where b is 0 or the quotient does not fit
abbrev pub divided : ℤ → ℤ → Outcome ℤ
divided a b = where_good (not (int_eq b (pos 0))) (checked (int_div a b))

-- C's `a % b`, what is left of a then; undefined where the quotient is
abbrev pub left : ℤ → ℤ → Outcome ℤ
left a b = after (divided a b) (λ q. Done (int_rem a b))

-- int64_t q = a / b; return (a % b < 0) ? q - 1 : q;
abbrev pub exo_div : ℤ → ℤ → Outcome ℤ
exo_div a b =
    after (divided a b) (λ q.
    after (left a b) (λ r. if int_lt r (pos 0) then checked (q -ℤ pos 1) else Done q))

-- int64_t r = a % b; return (r < 0) ? r + b : r;
abbrev pub exo_mod : ℤ → ℤ → Outcome ℤ
exo_mod a b = after (left a b) (λ r. if int_lt r (pos 0) then checked (r +ℤ b) else Done r)

-- By a divisor from 1 on, both round down, and nothing in them is undefined.
abbrev pub HelpersRoundDown : Type 0
HelpersRoundDown =
    (a b : ℤ)
    → fits64 a ≡ true
    → fits64 b ≡ true
    → pos 1 ≤ℤ b
    → (exo_div a b ≡ Done (int_div_euclid a b)) × (exo_mod a b ≡ Done (int_rem_euclid a b))
