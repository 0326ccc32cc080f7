-- The turns of a loop whose bounds are constants.
use Rattle.std.proofs.Common.{◌≡◌, ◌≤◌, ◌≤ℤ◌, ◌<ℤ◌, ℕ, zero, suc, ◌<◌, ◌*◌, ◌-◌, min, nat_le, ℤ}
use Rattle.std.proofs.Common.{pos, negsuc}
use Rattle.std.proofs.Common.{◌-ℤ◌, ◌+ℤ◌, ◌^◌, Bool, true, false, List, length}
use Rattle.std.proofs.Common.{◌&&◌, if◌then◌else◌, Option, Some, None, Result, Ok, Err}
use Rattle.std.proofs.Common.{refl, ap, ap₂, sym, ◌∙◌, subst, arith}
use Rattle.std.proofs.lemmas.Bool.Decides.{nat_tests}
use Rattle.std.proofs.lemmas.Int.{ints}
use Rattle.std.specs.Prelude.{option_map, option_and_then, nat_lt, unsigned_abs}
use Rattle.std.specs.Result.{IsErrAnd}
use Rattle.exo_tree.specs.Tree.{Block}
use Rattle.exo_meaning.specs.Run.{range, count}
use Rattle.affine_forms.specs.Atoms.{Terms, none, term, Linear}
use Rattle.affine_forms.specs.Forms.{is_short}
use Rattle.affine_forms.specs.Outcomes.{IsWide}
use Rattle.affine_forms.specs.TermBounds.{is_none}
use Rattle.affine_forms.specs.declared.error.FormError.{FormError}
use Rattle.affine_forms.specs.declared.error.FormError.TheVariants as form
use Rattle.place_laws.specs.Order.TurnsOfTwo.{Loop}
use Rattle.cursor_forward.specs.Causes.{Cause, WrongShape, LimitPassed, Form, WideNumber}
use Rattle.cursor_forward.specs.PlainProposal.{cause_of, fault_of}
use Rattle.cursor_forward.specs.declared.proposal.StepError.{StepError}
use Rattle.exo_tree.specs.Nodes.{capped}
use Rattle.step_rules.specs.Rule.{Tried, Got, Not}
use Rattle.step_rules.specs.Answer.{then_try}
use Rattle.step_rules.specs.Shapes.{tried}
use Rattle.step_driver.specs.Outcomes.{Tries, RefusedBy}
use Rattle.loop_laws.specs.Shapes.{loop_of}
use Rattle.loop_laws.specs.UnrollLoop.{Unrolling, unrolling, with_affine_bounds}
use Rattle.loop_laws.specs.UnrollLoop.{constant_of, few_between, few_turns, turns_of, with_few}
use Rattle.loop_laws.proofs.UnrollLoop.{same_got}
use Rattle.loop_laws.specs.Nest.Fuse.{bounds_are_affine}
use Rattle.loop_rewrites.specs.PlainTurns.{with_turns}
use Rattle.exo_effects.specs.Accesses.{plain_fits, plain_form}

-- ---- constants

pub constant_alone : (l : Linear) → is_none l.terms ≡ true → constant_of l ≡ Some l.constant
constant_alone l h = by l.constant l.terms h
  where
    by : (n : ℤ) (ts : Terms) → is_none ts ≡ true
        → constant_of (record { constant = n; terms = ts }) ≡ Some n
    by n none k = refl
    by n (term c a us) k = cc

pub no_constant : (l : Linear) → is_none l.terms ≡ false → constant_of l ≡ None
no_constant l h = by l.constant l.terms h
  where
    by : (n : ℤ) (ts : Terms) → is_none ts ≡ false
        → constant_of (record { constant = n; terms = ts }) ≡ None
    by n none k = cc
    by n (term c a us) k = refl

pub short_within : (z : ℤ) → is_short z ≡ true → unsigned_abs z ≤ 2 ^ 62
short_within z h = grind (arith, nat_tests, h)

-- ---- refusals

-- a form is too wide
pub refused_wide : {T X : Type 0} (plain : X → T) (tried : Tried T) (result : Result X StepError)
    (e : FormError) (fits : Bool)
    → IsErrAnd result (λ r. cause_of r ≡ option_map Form (fault_of e))
    → IsWide e fits
    → (fits ≡ false → tried ≡ Not (Form WideNumber))
    → Tries plain tried result
refused_wide plain tried (Ok x) e fits is h k = absurd is
refused_wide plain tried (Err y) e fits is h k =
    subst (RefusedBy tried) (sym is) (by e h)
  where
    by : (e : FormError) → IsWide e fits → RefusedBy tried (option_map Form (fault_of e))
    by form.TooManyCases w = absurd w
    by form.SystemTooLarge w = absurd w
    by form.WideNumber w = k w
    by form.TooManySystems w = absurd w
    by form.Memory w = tt

-- ---- the turns of a loop

pub wide_lower : (l : Loop) → plain_fits l.lo ≡ false
    → with_turns l (turns_of l) ≡ Not (Form WideNumber)
wide_lower l h =
    ap (λ (b : Bool). with_turns l (if b && plain_fits l.hi then few_turns (constant_of (plain_form l.lo)) (constant_of (plain_form l.hi)) else Not (Form WideNumber))) h

pub wide_upper : (l : Loop) → plain_fits l.lo ≡ true → plain_fits l.hi ≡ false
    → with_turns l (turns_of l) ≡ Not (Form WideNumber)
wide_upper l h k =
    ap (λ (b : Bool). with_turns l (if b then few_turns (constant_of (plain_form l.lo)) (constant_of (plain_form l.hi)) else Not (Form WideNumber))) (ap₂ ◌&&◌ h k)

-- by the constants of the forms
pub turns_are : (l : Loop) (lo hi : Linear)
    → (plain_fits l.lo ≡ true) × (lo ≡ plain_form l.lo)
    → (plain_fits l.hi ≡ true) × (hi ≡ plain_form l.hi)
    → few_turns (constant_of lo) (constant_of hi) ≡ turns_of l
turns_are l lo hi h k =
    ap₂ (λ x y. few_turns (constant_of x) (constant_of y)) h.1 k.1
    ∙ sym (ap (λ (b : Bool). if b then few_turns (constant_of (plain_form l.lo)) (constant_of (plain_form l.hi)) else Not (Form WideNumber)) (ap₂ ◌&&◌ h.0 k.0))

pub many_between : (lo hi : ℤ) → pos 256 <ℤ (hi -ℤ lo) → few_between lo hi ≡ Not LimitPassed
many_between lo hi h =
    ap (λ (b : Bool). if b then Not LimitPassed else Got (range lo (count (hi -ℤ lo)))) (more (hi -ℤ lo) h)
  where
    more : (z : ℤ) → pos 256 <ℤ z → nat_lt 256 (count z) ≡ true
    more (pos n) k = grind (arith, ints, nat_tests)
    more (negsuc n) k = absurd (omega (arith, ints))

pub few_listed : (lo hi : ℤ) (n : ℕ) → (hi -ℤ lo) ≤ℤ pos 256 → n ≡ count (hi -ℤ lo)
    → few_between lo hi ≡ Got (range lo n)
few_listed lo hi n h e =
    ap (λ (b : Bool). if b then Not LimitPassed else Got (range lo (count (hi -ℤ lo)))) (few (hi -ℤ lo) h)
    ∙ ap (λ m. Got (range lo m)) (sym e)
  where
    few : (z : ℤ) → z ≤ℤ pos 256 → nat_lt 256 (count z) ≡ false
    few (pos n) k = grind (arith, ints, nat_tests)
    few (negsuc n) k = refl

-- ---- all turns together

length_of_range : (first : ℤ) (n : ℕ) → length (range first n) ≡ n
length_of_range first zero = refl
length_of_range first (suc n) = ap suc (length_of_range (first +ℤ pos 1) n)

less : (a b : ℕ) → a < b → nat_lt a b ≡ true
less a b h = grind (arith, nat_tests)

large : (n z : ℕ) → 65536 < z → nat_lt 65536 (suc n * z) ≡ true
large n z h = less 65536 (suc n * z) (omega (arith, h))

within : (m : ℕ) → nat_le m (2 ^ 64 - 1) ≡ true → min m (2 ^ 64 - 1) ≡ m
within m h = grind (arith, nat_tests)

beyond : (m : ℕ) → nat_le m (2 ^ 64 - 1) ≡ false → 2 ^ 64 - 1 ≤ m
beyond m h = grind (arith, nat_tests)

capped_beyond : (m : ℕ) → 2 ^ 64 - 1 ≤ m → 65536 < min m (2 ^ 64 - 1)
capped_beyond m h = omega (arith, h)

-- a count that stops at the greatest number of 64 bits tells as well
pub many_together : (first : ℤ) (n m : ℕ)
    → nat_lt 65536 (n * capped m) ≡ nat_lt 65536 (length (range first n) * m)
many_together first n m =
    same n (nat_le m (2 ^ 64 - 1)) refl
    ∙ ap (λ k. nat_lt 65536 (k * m)) (sym (length_of_range first n))
  where
    same : (k : ℕ) (t : Bool) → nat_le m (2 ^ 64 - 1) ≡ t
        → nat_lt 65536 (k * capped m) ≡ nat_lt 65536 (k * m)
    same zero t h =
        let a : 0 * capped m ≡ 0 = omega arith in
        let b : 0 * m ≡ 0 = omega arith in
        ap (nat_lt 65536) (a ∙ sym b)
    same (suc k) true h = ap (λ x. nat_lt 65536 (suc k * x)) (within m h)
    same (suc k) false h =
        let low : 65536 < m = omega (arith, beyond m h) in
        large k (capped m) (capped_beyond m (beyond m h)) ∙ sym (large k m low)

-- ---- at a piece

abbrev read : Option Loop → Tried Unrolling
read x =
    then_try (tried (option_and_then with_affine_bounds x) (λ l. l)) (λ l.
    then_try (turns_of l) (with_few l))

abbrev read_where : Loop → Bool → Tried Unrolling
read_where l t =
    then_try (tried (if t then Some l else None) (λ k. k)) (λ k. then_try (turns_of k) (with_few k))

-- a loop with affine bounds is unrolled by its turns
by_turns : (b : Block) (l : Loop) → Some l ≡ loop_of b → bounds_are_affine l ≡ true
    → then_try (turns_of l) (with_few l) ≡ unrolling b
by_turns b l e h = sym (ap (read_where l) h) ∙ ap read e

pub turned : (b : Block) (l : Loop) → Some l ≡ loop_of b → bounds_are_affine l ≡ true
    → (u : Unrolling) → with_turns l (turns_of l) ≡ Got u
    → with_few u.loop u.turns ≡ unrolling b
turned b l e h u k = by (turns_of l) k ∙ by_turns b l e h
  where
    by : (t : Tried (List ℤ)) → with_turns l t ≡ Got u
        → with_few u.loop u.turns ≡ then_try t (with_few l)
    by (Got ns) q = ap (λ (v : Unrolling). with_few v.loop v.turns) (sym (same_got q))
    by (Not cause) q = cc

pub not_turned : (b : Block) (l : Loop) → Some l ≡ loop_of b → bounds_are_affine l ≡ true
    → (why : Option Cause) → RefusedBy (with_turns l (turns_of l)) why → RefusedBy (unrolling b) why
not_turned b l e h why k = subst (λ t. RefusedBy t why) (by_turns b l e h) (by (turns_of l) why k)
  where
    by : (t : Tried (List ℤ)) (why : Option Cause) → RefusedBy (with_turns l t) why
        → RefusedBy (then_try t (with_few l)) why
    by t None q = tt
    by (Got ns) (Some cause) q = cc
    by (Not c) (Some cause) q = q

pub not_affine : (b : Block) (l : Loop) → Some l ≡ loop_of b → bounds_are_affine l ≡ false
    → unrolling b ≡ Not WrongShape
not_affine b l e h = ap read (sym e) ∙ ap (read_where l) h

pub no_loop : (b : Block) → None ≡ loop_of b → unrolling b ≡ Not WrongShape
no_loop b e = ap read (sym e)
