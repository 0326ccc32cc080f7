-- What the rule tells of a loop with the numbers of its turns.
use Rattle.std.proofs.Common.{◌≡◌, ◌≢◌, ℕ, zero, suc, ℤ, negsuc, pos, ◌<ℤ◌, ◌≤ℤ◌, false, [], ◌∷◌, length}
use Rattle.std.proofs.Common.{Option, Some, None, refl, ap, arith, neg_ℤ}
use Rattle.std.proofs.lemmas.Int.{ints}
use Rattle.std.specs.Prelude.{is_none}
use Rattle.exo_tree.specs.Tree.{Lit, Neg, Block, statements}
use Rattle.exo_tree.specs.Places.{Opened}
use Rattle.exo_meaning.specs.Run as run
use Rattle.match_laws.specs.Simplify.Simplified.{literal}
use Rattle.cursor_forward.specs.Causes.{Cause}
use Rattle.cursor_forward.specs.Shifts.{at_index, range}
use Rattle.place_laws.specs.Order.TurnsOfTwo.{Loop}
use Rattle.step_rules.specs.Rule.{Tried, Got}
use Rattle.step_rules.specs.Answer.{then_try, opened_or_wrong}
use Rattle.step_driver.specs.Outcomes.{RefusedBy}
use Rattle.step_driver.specs.Spots.{or_nothing}
use Rattle.loop_laws.specs.Copies.{written_out}
use Rattle.loop_laws.specs.Shapes.{inside}
use Rattle.loop_laws.specs.UnrollLoop.{Unrolling, unrolling, turns_written, into_first, unroll_shifts}

-- ---- one after the other

pub then_refused : {T U : Type 0} (tried : Tried T) (k : T → Tried U) (why : Option Cause)
    → RefusedBy tried why → RefusedBy (then_try tried k) why
then_refused tried k None h = tt
then_refused tried k (Some cause) h = ap (λ t. then_try t k) h

pub then_got : {T U : Type 0} (tried : Tried T) (k : T → Tried U) (x : T)
    → tried ≡ Got x → then_try tried k ≡ k x
then_got tried k x h = ap (λ t. then_try t k) h

-- ---- at a place

pub unrolled_at : {U : Type 0} (x : Option Opened) (k : Unrolling → Tried U)
    → then_try (opened_or_wrong x) (λ (o : Opened). then_try (unrolling o.piece) k)
    ≡ then_try (unrolling (or_nothing x).piece) k
unrolled_at None k = refl
unrolled_at (Some o) k = refl

-- ---- numbers

pub literal_below : (n : ℤ) → n <ℤ pos 0 → literal n ≡ Neg (Lit (neg_ℤ n))
literal_below (pos n) h = absurd (omega (arith, ints))
literal_below (negsuc n) h = refl

pub literal_from : (n : ℤ) → pos 0 ≤ℤ n → literal n ≡ Lit n
literal_from (pos n) h = refl
literal_from (negsuc n) h = absurd (omega (arith, ints))

-- ---- some turns

pub some_written : (l : Loop) (first : ℤ) (n base : ℕ) → n ≢ 0
    → turns_written l (run.range first n) base ≡ written_out literal l (run.range first n) base
some_written l first zero base h = absurd (h refl)
some_written l first (suc n) base h = refl

pub some_moved : (l : Loop) (first : ℤ) (n : ℕ) → n ≢ 0
    → into_first l (run.range first n)
    ≡ range (inside 1) (length (statements l.body)) (Some (at_index 0)) ∷ []
some_moved l first zero h = absurd (h refl)
some_moved l first (suc n) h = refl

-- ---- where the body goes

pub moved_by : (b : Block) (u : Unrolling) → unrolling b ≡ Got u
    → unroll_shifts (unrolling b) ≡ into_first u.loop u.turns
moved_by b u h = ap unroll_shifts h

pub nothing_moved : (b : Block) (why : Option Cause) → RefusedBy (unrolling b) why
    → is_none why ≡ false → unroll_shifts (unrolling b) ≡ []
nothing_moved b None h k = cc
nothing_moved b (Some cause) h k = ap unroll_shifts h
