-- What a cell keeps of wrapped numbers and of their sums.
use Rattle.std.proofs.Common.{◌≡◌, ℕ, suc, ◌+◌, ◌-◌, ◌*◌, ◌/◌, ◌%◌, ◌^◌, ◌<◌, ◌≤◌, ℤ, pos, negsuc, ◌+ℤ◌, refl, sym, ap, ◌∙◌, arith, ⊎_elim, le-ltb, to_z}
use Rattle.std.specs.Int.{Width, w8, w16, w32, int_wrap, int_rem_euclid}
use Rattle.std.proofs.lemmas.Int.{ints, int_wrap-add_right, int_wrap-add_left, int_wrap-mul_right, int_wrap_fits, SFits-int_wrap, int_rem_euclid_is}
use Rattle.std.proofs.Math.IntN.{+ℤ_idr}
use Rattle.std.proofs.lemmas.Bool.{cases_lt}
use Rattle.exo_tree.specs.Tree.{Cell, I8, I16, I32, Ui8}
use Rattle.exo_meaning.specs.Value.{Value, Undefined, Number, wrap, stored_as, on_two}
use Rattle.exo_meaning.specs.Wraps.{WrapLaws}

high : (n : ℕ) → 2147483648 ≤ n → to_z w32 n ≡ negsuc (4294967296 - suc n)
high n h = rw (le-ltb n 2147483648 h) refl

low : (n : ℕ) → n < 2147483648 → to_z w32 n ≡ pos n
low n h = omega (arith, ints)

wrapped_32 : (z : ℤ) → (j : ℕ) × (k : ℕ) × (int_wrap w32 z +ℤ pos (j * 4294967296) ≡ z +ℤ pos (k * 4294967296))
unfolding int_wrap
wrapped_32 (pos a) = ⊎_elim (λ h. (a / 4294967296, 0, omega (arith, ints))) (λ h. (a / 4294967296 + 1, 0, omega (arith, ints, high (a % 4294967296) h))) (cases_lt (a % 4294967296) (2 ^ 31))
wrapped_32 (negsuc a) = ⊎_elim (λ h. (0, a / 4294967296 + 1, omega (arith, ints))) (λ h. (0, a / 4294967296, omega (arith, ints, high (4294967295 - a % 4294967296) h))) (cases_lt (4294967295 - a % 4294967296) (2 ^ 31))

-- ---- signed types

none_left8 : (j : ℕ) → int_wrap w8 (pos (j * 4294967296)) ≡ pos 0
unfolding int_wrap
none_left8 j = let none : j * 0 ≡ 0 = omega arith in sym (int_wrap-mul_right w8 (pos j) (pos 4294967296)) ∙ ap (λ n. int_wrap w8 (pos n)) none

none_left16 : (j : ℕ) → int_wrap w16 (pos (j * 4294967296)) ≡ pos 0
unfolding int_wrap
none_left16 j = let none : j * 0 ≡ 0 = omega arith in sym (int_wrap-mul_right w16 (pos j) (pos 4294967296)) ∙ ap (λ n. int_wrap w16 (pos n)) none

gone : (w : Width) → ((j : ℕ) → int_wrap w (pos (j * 4294967296)) ≡ pos 0) → (a : ℤ) (j : ℕ) → int_wrap w (a +ℤ pos (j * 4294967296)) ≡ int_wrap w a
gone w none a j = sym (int_wrap-add_right w a (pos (j * 4294967296))) ∙ ap (λ x. int_wrap w (a +ℤ x)) (none j) ∙ ap (int_wrap w) (+ℤ_idr a)

shorter : (w : Width) → ((j : ℕ) → int_wrap w (pos (j * 4294967296)) ≡ pos 0) → (z : ℤ) → int_wrap w (int_wrap w32 z) ≡ int_wrap w z
shorter w none z = let t = wrapped_32 z in sym (gone w none (int_wrap w32 z) t.0) ∙ ap (int_wrap w) t.2 ∙ gone w none z t.1

-- ---- the unsigned one

-- numbers that differ by a multiple of 256 have one remainder
rem_same : (a b : ℤ) (j k : ℕ) → a +ℤ pos (j * 256) ≡ b +ℤ pos (k * 256) → int_rem_euclid a (pos 256) ≡ int_rem_euclid b (pos 256)
rem_same a b j k e = at_zero (a +ℤ pos (j * 256)) refl
  where
    one : (z : ℤ) (i : ℕ) (m : ℕ) → z +ℤ pos (i * 256) ≡ pos m → int_rem_euclid z (pos 256) ≡ pos (m % 256)
    one z i m h = int_rem_euclid_is z (pos 256) 256 i m (omega arith) refl h

    further : (s : ℕ) → (m : ℕ) → a +ℤ pos ((j + s) * 256) ≡ pos m → int_rem_euclid a (pos 256) ≡ int_rem_euclid b (pos 256)
    further s m h = one a (j + s) m h ∙ sym (one b (k + s) m (omega (arith, ints)))

    at_zero : (c : ℤ) → a +ℤ pos (j * 256) ≡ c → int_rem_euclid a (pos 256) ≡ int_rem_euclid b (pos 256)
    at_zero (pos m) h = further 0 m (omega (arith, ints))
    at_zero (negsuc m) h = further (suc m) ((suc m) * 256 - suc m) (omega (arith, ints))

-- a number and its remainder differ by a multiple of 256
rem_left : (z : ℤ) → (j : ℕ) × (k : ℕ) × (int_rem_euclid z (pos 256) +ℤ pos (j * 256) ≡ z +ℤ pos (k * 256))
rem_left (pos a) = (a / 256, 0, omega (arith, ints))
rem_left (negsuc a) = (0, a / 256 + 1, omega (arith, ints))

rem_sum : (a b : ℤ) → int_rem_euclid (int_rem_euclid a (pos 256) +ℤ b) (pos 256) ≡ int_rem_euclid (a +ℤ b) (pos 256)
rem_sum a b = let l = rem_left a in rem_same (int_rem_euclid a (pos 256) +ℤ b) (a +ℤ b) l.0 l.1 (omega (arith, ints, l.2))

rem_twice : (z : ℤ) → int_rem_euclid (int_rem_euclid z (pos 256)) (pos 256) ≡ int_rem_euclid z (pos 256)
rem_twice z = let l = rem_left z in rem_same (int_rem_euclid z (pos 256)) z l.0 l.1 l.2

rem_wrapped : (z : ℤ) → int_rem_euclid (int_wrap w32 z) (pos 256) ≡ int_rem_euclid z (pos 256)
rem_wrapped z = let t = wrapped_32 z in rem_same (int_wrap w32 z) z (t.0 * 16777216) (t.1 * 16777216) (omega (arith, ints, t.2))

rem_small : (z : ℤ) → int_wrap w32 (int_rem_euclid z (pos 256)) ≡ int_rem_euclid z (pos 256)
rem_small (pos a) = int_wrap_fits w32 (pos (a % 256)) (record { sfits = omega (arith, ints) })
rem_small (negsuc a) = int_wrap_fits w32 (pos (256 - 1 - a % 256)) (record { sfits = omega (arith, ints) })

-- ---- all

twice_signed : (w : Width) (z : ℤ) → int_wrap w (int_wrap w z) ≡ int_wrap w z
twice_signed w z = int_wrap_fits w (int_wrap w z) (SFits-int_wrap w z)

twice : (cell : Cell) (z : ℤ) → wrap cell (wrap cell z) ≡ wrap cell z
twice I8 z = twice_signed w8 z
twice I16 z = twice_signed w16 z
twice I32 z = twice_signed w32 z
twice Ui8 z = rem_twice z

sums : (cell : Cell) (a b : ℤ) → wrap cell (wrap cell a +ℤ b) ≡ wrap cell (a +ℤ b)
sums I8 a b = int_wrap-add_left w8 a b
sums I16 a b = int_wrap-add_left w16 a b
sums I32 a b = int_wrap-add_left w32 a b
sums Ui8 a b = rem_sum a b

wrapped : (cell : Cell) (z : ℤ) → wrap cell (wrap I32 z) ≡ wrap cell z
wrapped I8 z = shorter w8 none_left8 z
wrapped I16 z = shorter w16 none_left16 z
wrapped I32 z = twice_signed w32 z
wrapped Ui8 z = rem_wrapped z

narrow : (cell : Cell) (z : ℤ) → wrap I32 (wrap cell z) ≡ wrap cell z
narrow I8 z = let f = SFits-int_wrap w8 z in int_wrap_fits w32 (int_wrap w8 z) (record { sfits = omega (arith, f.sfits) })
narrow I16 z = let f = SFits-int_wrap w16 z in int_wrap_fits w32 (int_wrap w16 z) (record { sfits = omega (arith, f.sfits) })
narrow I32 z = twice_signed w32 z
narrow Ui8 z = rem_small z

zero : (cell : Cell) → wrap cell (pos 0) ≡ pos 0
unfolding int_wrap
zero I8 = refl
zero I16 = refl
zero I32 = refl
zero Ui8 = refl

pub wrap_laws : WrapLaws
wrap_laws = record { twice = twice; sums = sums; wrapped = wrapped; narrow = narrow; zero = zero }

-- ---- reductions

-- two reductions of one cell
wrap_sums : (cell : Cell) (o m n : ℤ) → wrap cell (wrap I32 (wrap cell (wrap I32 (o +ℤ m)) +ℤ n)) ≡ wrap cell ((o +ℤ m) +ℤ n)
wrap_sums cell o m n =
    wrapped cell (wrap cell (wrap I32 (o +ℤ m)) +ℤ n) ∙ ap (λ k. wrap cell (k +ℤ n)) (wrapped cell (o +ℤ m))
    ∙ sums cell (o +ℤ m) n

abbrev pub added : Cell → Value → Value → Value
added cell v old = stored_as cell (on_two ◌+ℤ◌ old v)

pub additions_swap : (cell : Cell) (u v old : Value) → added cell v (added cell u old) ≡ added cell u (added cell v old)
additions_swap cell u v Undefined = refl
additions_swap cell Undefined Undefined (Number o) = refl
additions_swap cell Undefined (Number n) (Number o) = refl
additions_swap cell (Number m) Undefined (Number o) = refl
additions_swap cell (Number m) (Number n) (Number o) =
    let turned : (o +ℤ m) +ℤ n ≡ (o +ℤ n) +ℤ m = omega (arith, ints) in
    ap Number (wrap_sums cell o m n ∙ ap (wrap cell) turned ∙ sym (wrap_sums cell o n m))
