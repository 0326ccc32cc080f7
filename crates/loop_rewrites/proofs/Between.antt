-- The turns from one number up to another, both at most 2^62 away from 0.
use Rattle.std.proofs.Common.{◌≡◌, ◌≤◌, ◌≤ℤ◌, ℕ, ◌^◌, ℤ, pos, negsuc, ◌-ℤ◌, false}
use Rattle.std.proofs.Common.{to_z, of_z, sym, ap, ◌∙◌, arith}
use lib.Signed.{lt_z}
use Rattle.std.proofs.lemmas.Int.{ints, clamps}
use Rattle.std.specs.Int.{w64, w128, int_max}
use Rattle.std.specs.Prelude.{unsigned_abs}
use Rattle.exo_meaning.specs.Run.{range, count}
use Rattle.place_laws.specs.Order.TurnsOfTwo.{Loop}
use Rattle.step_rules.specs.Rule.{Got}
use Rattle.loop_laws.specs.UnrollLoop.{few_between}
use Rattle.loop_rewrites.proofs.Bounds.{few_listed}
use Rattle.loop_rewrites.specs.PlainTurns.{with_turns}

-- the difference in 128 bits
pub difference : (lo hi : ℤ) → unsigned_abs lo ≤ 2 ^ 62 → unsigned_abs hi ≤ 2 ^ 62
    → to_z w128 (of_z w128 (to_z w128 (of_z w128 hi) -ℤ to_z w128 (of_z w128 lo))) ≡ hi -ℤ lo
difference lo hi h k = omega (arith, ints)

-- the first turn in 64 bits
pub same_first : (lo : ℤ) → unsigned_abs lo ≤ 2 ^ 62
    → to_z w64 (of_z w64 (to_z w128 (of_z w128 lo))) ≡ lo
same_first lo h = omega (arith, ints)

pub few_counted : (d : ℤ) → lt_z (pos 256) d ≡ false → count d ≤ 256
few_counted (pos n) h = grind (arith, ints)
few_counted (negsuc n) h = omega arith

pub few_apart : (d : ℤ) → lt_z (pos 256) d ≡ false → d ≤ℤ pos 256
few_apart d h = grind (arith, ints)

kept : (n : ℕ) → n ≤ 256 → to_z w128 (of_z w128 (pos n)) ≡ pos n
kept n h = omega (arith, ints)

at_least : (d m : ℤ) → m ≡ int_max d (pos 0) → m ≡ pos (count d)
at_least (pos n) m h = omega (arith, ints, clamps)
at_least (negsuc n) m h = omega (arith, ints, clamps)

-- their number in 128 bits
pub same_count : (x d m : ℤ) → x ≡ d → lt_z (pos 256) d ≡ false → m ≡ int_max x (pos 0)
    → to_z w128 (of_z w128 m) ≡ pos (count d)
same_count x d m e h k =
    ap (λ z. to_z w128 (of_z w128 z)) (at_least d m (k ∙ ap (λ z. int_max z (pos 0)) e))
    ∙ kept (count d) (few_counted d h)

pub turns_listed : (l : Loop) (lo hi first z : ℤ) → first ≡ lo → z ≡ pos (count (hi -ℤ lo))
    → lt_z (pos 256) (hi -ℤ lo) ≡ false
    → with_turns l (few_between lo hi) ≡ Got (record { loop = l; turns = range first (unsigned_abs z) })
turns_listed l lo hi first z e k h =
    ap (with_turns l) (few_listed lo hi (unsigned_abs z) (few_apart (hi -ℤ lo) h) (ap unsigned_abs k))
    ∙ ap (λ k. Got (record { loop = l; turns = range k (unsigned_abs z) })) (sym e)
