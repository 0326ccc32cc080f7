-- C's division by a divisor from 1 on, taken one down where something is left below 0.
use Rattle.std.proofs.Common.{◌≡◌, ◌∙◌, ℕ, ℤ, pos, negsuc, zero, suc, ◌+◌, ◌*◌, ◌/◌, ◌%◌, ◌-◌, ◌<◌, ◌≤◌, ◌+ℤ◌, ◌-ℤ◌, true, false, Bool, refl, ap, sym, subst, arith, mod-lt}
use Rattle.std.specs.Prelude.{int_lt, int_div, int_rem, neg_ℤ, not, if◌then◌else◌}
use Rattle.std.specs.Ordering.{int_eq}
use Rattle.std.proofs.lemmas.Bool.Decides.{Decides-int_eq}
use Rattle.std.specs.Int.{int_div_euclid, int_rem_euclid}
use Rattle.std.proofs.lemmas.Int.{ints}
use Rattle.std.proofs.Math.Arith.{digits_div, digits_mod}
use Rattle.std.proofs.Math.Nat.{div-add-mod', div-le_self}
use Rattle.c_unit_laws.specs.Follows.Machine.Machine.{Done, after, where_good, fits64, checked}
use Rattle.c_unit_laws.specs.Follows.Machine.Behaviour.Helpers.{divided, exo_div, exo_mod}
use Rattle.c_unit_laws.specs.Follows.Machine.Behaviour.Helpers.{HelpersRoundDown}

abbrev greatest : ℕ
greatest = 9223372036854775807

-- ---- the helpers, by the sign of what is left

quotient_stays : (a b q r : ℤ) → divided a b ≡ Done q → int_rem a b ≡ r → int_lt r (pos 0) ≡ false → exo_div a b ≡ Done q
quotient_stays a b q r d e h =
    (λ i. after (d i) (λ q. after (after (d i) (λ p. Done (e i))) (λ r. if int_lt r (pos 0) then checked (q -ℤ pos 1) else Done q)))
    ∙ ap (λ t. if t then checked (q -ℤ pos 1) else Done q) h

quotient_falls : (a b q r : ℤ) → divided a b ≡ Done q → int_rem a b ≡ r → int_lt r (pos 0) ≡ true → exo_div a b ≡ checked (q -ℤ pos 1)
quotient_falls a b q r d e h =
    (λ i. after (d i) (λ q. after (after (d i) (λ p. Done (e i))) (λ r. if int_lt r (pos 0) then checked (q -ℤ pos 1) else Done q)))
    ∙ ap (λ t. if t then checked (q -ℤ pos 1) else Done q) h

rest_stays : (a b q r : ℤ) → divided a b ≡ Done q → int_rem a b ≡ r → int_lt r (pos 0) ≡ false → exo_mod a b ≡ Done r
rest_stays a b q r d e h =
    (λ i. after (after (d i) (λ p. Done (e i))) (λ r. if int_lt r (pos 0) then checked (r +ℤ b) else Done r))
    ∙ ap (λ t. if t then checked (r +ℤ b) else Done r) h

rest_rises : (a b q r : ℤ) → divided a b ≡ Done q → int_rem a b ≡ r → int_lt r (pos 0) ≡ true → exo_mod a b ≡ checked (r +ℤ b)
rest_rises a b q r d e h =
    (λ i. after (after (d i) (λ p. Done (e i))) (λ r. if int_lt r (pos 0) then checked (r +ℤ b) else Done r))
    ∙ ap (λ t. if t then checked (r +ℤ b) else Done r) h

-- ---- numbers that fit

at_most : (n : ℕ) → fits64 (pos n) ≡ true → n ≤ greatest
at_most n h = grind (arith, ints)

at_least : (n : ℕ) → fits64 (negsuc n) ≡ true → n ≤ greatest
at_least n h = grind (arith, ints)

natural_fits : (n : ℕ) → n ≤ greatest → checked (pos n) ≡ Done (pos n)
natural_fits n h = let t : fits64 (pos n) ≡ true = grind (arith, ints) in ap (λ t. where_good t (Done (pos n))) t

negative_fits : (n : ℕ) → n ≤ greatest → checked (negsuc n) ≡ Done (negsuc n)
negative_fits n h = let t : fits64 (negsuc n) ≡ true = grind (arith, ints) in ap (λ t. where_good t (Done (negsuc n))) t

opposite_fits : (n : ℕ) → n ≤ suc greatest → checked (neg_ℤ (pos n)) ≡ Done (neg_ℤ (pos n))
opposite_fits zero h = natural_fits zero (omega arith)
opposite_fits (suc n) h = negative_fits n (omega arith)

one_less : (n : ℕ) → neg_ℤ (pos n) -ℤ pos 1 ≡ negsuc n
one_less zero = refl
one_less (suc n) = grind (arith, ints)

-- ---- divisors

no_zero : (b : ℕ) → pos (suc b) ≡ pos 0 → ⊥
no_zero b e = omega (arith, ints, e)

good_divisor : (b : ℕ) → not (int_eq (pos (suc b)) (pos 0)) ≡ true
good_divisor b = by_test (int_eq (pos (suc b)) (pos 0)) refl
  where
    by_test : (t : Bool) → int_eq (pos (suc b)) (pos 0) ≡ t → not t ≡ true
    by_test false e = refl
    by_test true e = absurd (no_zero b ((Decides-int_eq (pos (suc b)) (pos 0)).0 e))

is_divided : (a : ℤ) (b : ℕ) → divided a (pos (suc b)) ≡ checked (int_div a (pos (suc b)))
is_divided a b = ap (λ t. where_good t (checked (int_div a (pos (suc b))))) (good_divisor b)

-- ---- a number from 0 on

of_natural : (a b : ℕ) → a ≤ greatest
    → (exo_div (pos a) (pos (suc b)) ≡ Done (pos (a / suc b))) × (exo_mod (pos a) (pos (suc b)) ≡ Done (pos (a % suc b)))
of_natural a b h =
    let d : divided (pos a) (pos (suc b)) ≡ Done (pos (a / suc b)) = is_divided (pos a) b ∙ natural_fits (a / suc b) (omega (arith, div-le_self a (suc b))) in
    let t : int_lt (pos (a % suc b)) (pos 0) ≡ false = grind (arith, ints) in (
      quotient_stays (pos a) (pos (suc b)) (pos (a / suc b)) (pos (a % suc b)) d refl t,
      rest_stays (pos a) (pos (suc b)) (pos (a / suc b)) (pos (a % suc b)) d refl t,
    )

-- ---- a number below 0

-- q times the divisor and r are the number's size
module _ (a b : ℕ) (fa : a ≤ greatest) (fb : b ≤ greatest) where
  abbrev Both : Type 0
  Both = (exo_div (negsuc a) (pos (suc b)) ≡ Done (int_div_euclid (negsuc a) (pos (suc b)))) × (exo_mod (negsuc a) (pos (suc b)) ≡ Done (int_rem_euclid (negsuc a) (pos (suc b))))

  even : (q : ℕ) → suc a / suc b ≡ q → suc a % suc b ≡ 0 → q * suc b + 0 ≡ suc a → Both
  even zero e z s = absurd (omega arith)
  even (suc k) e z s =
      let is : k * suc b + b ≡ a = omega arith in
      let quotient : a / suc b ≡ k = ap (λ n. n / suc b) (sym is) ∙ digits_div k {m = suc b} {r = b} (omega arith) in
      let rest : a % suc b ≡ b = ap (λ n. n % suc b) (sym is) ∙ digits_mod k {m = suc b} {r = b} (omega arith) in
      let d : divided (negsuc a) (pos (suc b)) ≡ Done (negsuc k) = is_divided (negsuc a) b ∙ ap (λ n. checked (neg_ℤ (pos n))) e ∙ negative_fits k (omega arith) in
      let r : int_rem (negsuc a) (pos (suc b)) ≡ pos 0 = ap (λ n. neg_ℤ (pos n)) z in
      let none : suc b - 1 - a % suc b ≡ 0 = omega arith in (
        quotient_stays (negsuc a) (pos (suc b)) (negsuc k) (pos 0) d r refl ∙ ap (λ n. Done (negsuc n)) (sym quotient),
        rest_stays (negsuc a) (pos (suc b)) (negsuc k) (pos 0) d r refl ∙ ap (λ n. Done (pos n)) (sym none),
      )

  uneven : (q r : ℕ) → suc a / suc b ≡ q → suc a % suc b ≡ suc r → suc r < suc b → q * suc b + suc r ≡ suc a → Both
  uneven q r e z l s =
      let is : q * suc b + r ≡ a = omega arith in
      let quotient : a / suc b ≡ q = ap (λ n. n / suc b) (sym is) ∙ digits_div q {m = suc b} {r = r} (omega arith) in
      let rest : a % suc b ≡ r = ap (λ n. n % suc b) (sym is) ∙ digits_mod q {m = suc b} {r = r} (omega arith) in
      let small : q ≤ a = subst (λ n. n ≤ a) quotient (div-le_self a (suc b)) in
      let d : divided (negsuc a) (pos (suc b)) ≡ Done (neg_ℤ (pos q)) = is_divided (negsuc a) b ∙ ap (λ n. checked (neg_ℤ (pos n))) e ∙ opposite_fits q (omega arith) in
      let left_is : int_rem (negsuc a) (pos (suc b)) ≡ negsuc r = ap (λ n. neg_ℤ (pos n)) z in
      let raised : negsuc r +ℤ pos (suc b) ≡ pos (suc b - 1 - a % suc b) = grind (arith, ints) in (
        quotient_falls (negsuc a) (pos (suc b)) (neg_ℤ (pos q)) (negsuc r) d left_is refl
            ∙ ap checked (one_less q) ∙ negative_fits q (omega arith) ∙ ap (λ n. Done (negsuc n)) (sym quotient),
        rest_rises (negsuc a) (pos (suc b)) (neg_ℤ (pos q)) (negsuc r) d left_is refl
            ∙ ap checked raised ∙ natural_fits (suc b - 1 - a % suc b) (omega arith),
      )

  by_rest : (r : ℕ) → suc a % suc b ≡ r → suc a / suc b * suc b + r ≡ suc a → Both
  by_rest zero z s = even (suc a / suc b) refl z s
  by_rest (suc r) z s = uneven (suc a / suc b) r refl z (subst (λ n. n < suc b) z (mod-lt (suc a) (omega arith))) s

  pub of_negative : Both
  of_negative = by_rest (suc a % suc b) refl (div-add-mod' (suc a) (suc b))

pub helpers_round_down : HelpersRoundDown
helpers_round_down a (pos zero) fa fb h = absurd (omega (arith, ints))
helpers_round_down a (negsuc b) fa fb h = absurd (omega (arith, ints))
helpers_round_down (pos a) (pos (suc b)) fa fb h = of_natural a b (at_most a fa)
helpers_round_down (negsuc a) (pos (suc b)) fa fb h = of_negative a b (at_least a fa) (omega (arith, at_most (suc b) fb))
