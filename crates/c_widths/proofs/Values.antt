-- No value passes its magnitude.
use Rattle.std.proofs.Common.{◌≡◌, ◌≤◌, ◌<◌, ◌+◌, ◌-◌, ◌*◌, ◌/◌, ◌^◌, ℕ, suc, ℤ, pos, negsuc, neg_ℤ, ◌+ℤ◌, ◌-ℤ◌, Bool, true, false, ◌&&◌, refl, sym, subst, arith, true≢false, unsigned_abs, mod-lt, int_le}
use Rattle.std.specs.Int.{int_div_euclid, int_rem_euclid}
use Rattle.std.proofs.lemmas.Int.{ints, unsigned_abs-mul}
use Rattle.std.proofs.lemmas.Bool.{and_parts, leb-true}
use Rattle.std.proofs.lemmas.Nat.{le-div, mul-le}
use Rattle.std.proofs.Math.Nat.{div-mul-le_self, le_trans}
use Rattle.exo_tree.specs.Tree.{Control, Lit, Var, Field, StrideOf, Neg, Add, Sub, Mul, Div, Mod}
use Rattle.exo_meaning.specs.Scene.{Scene, number}
use Rattle.c_widths.specs.Magnitude.{rounded_up, magnitude, fits, is_narrow}
use Rattle.c_widths.proofs.Strides.{seen_stride}
use Rattle.c_widths.specs.Laws.{is_over, IsWithin, ValuesLaw, NarrowLaw}

abs_add : (a b : ℤ) → unsigned_abs (a +ℤ b) ≤ unsigned_abs a + unsigned_abs b
abs_add a b = grind (arith, ints)

abs_sub : (a b : ℤ) → unsigned_abs (a -ℤ b) ≤ unsigned_abs a + unsigned_abs b
abs_sub a b = grind (arith, ints)

abs_neg : (a : ℤ) → unsigned_abs (neg_ℤ a) ≡ unsigned_abs a
abs_neg a = grind (arith, ints)

abs_div : (a : ℤ) (c : ℕ) → 0 < c → unsigned_abs (int_div_euclid a (pos c)) ≤ rounded_up (unsigned_abs a) c
abs_div (pos a) c h = let k = div-mul-le_self a c in le-div (a / c) (a + (c - 1)) c h (omega arith)
abs_div (negsuc a) c h = let k = div-mul-le_self a c in let e : suc (a / c) * c ≡ a / c * c + c = omega arith in le-div (suc (a / c)) (suc a + (c - 1)) c h (omega arith)

abs_rem : (a : ℤ) (c : ℕ) → 0 < c → unsigned_abs (int_rem_euclid a (pos c)) ≤ c - 1
abs_rem (pos a) c h = let k = mod-lt a h in omega arith
abs_rem (negsuc a) c h = omega arith

positive : (c : ℤ) → int_le (pos 1) c ≡ true → (n : ℕ) × (c ≡ pos n) × (0 < n)
positive (pos n) h = (n, refl, grind (arith, ints))
positive (negsuc n) h = absurd (grind (arith, ints))

rounded_more : (m n c : ℕ) → 0 < c → m ≤ n → rounded_up m c ≤ rounded_up n c
rounded_more m n c h k = let e = div-mul-le_self (m + (c - 1)) c in le-div (rounded_up m c) (n + (c - 1)) c h (omega arith)

div_bounded : (a c : ℤ) (n : ℕ) → int_le (pos 1) c ≡ true → unsigned_abs a ≤ n → unsigned_abs (int_div_euclid a c) ≤ rounded_up n (unsigned_abs c)
div_bounded a c n h k =
    let p = positive c h in
    subst (λ d. unsigned_abs (int_div_euclid a d) ≤ rounded_up n (unsigned_abs d)) (sym p.1) (le_trans (abs_div a p.0 p.2) (rounded_more (unsigned_abs a) n p.0 p.2 k))

rem_bounded : (a c : ℤ) → int_le (pos 1) c ≡ true → unsigned_abs (int_rem_euclid a c) ≤ unsigned_abs c - 1
rem_bounded a c h =
    let p = positive c h in
    subst (λ d. unsigned_abs (int_rem_euclid a d) ≤ unsigned_abs d - 1) (sym p.1) (abs_rem a p.0 p.2)

module _ (numbers : ℕ → Bool) (most : ℕ → ℕ) (scene : Scene) (within : IsWithin numbers most scene) where
  bounded : (e : Control) → is_over numbers e ≡ true → unsigned_abs (number scene e) ≤ magnitude most e
  bounded (Lit n) h = omega arith
  bounded (Var x) h = within.control x h
  bounded (Field f) h = within.fields f
  bounded (StrideOf x k) h = seen_stride scene within.strides (scene.views x) k
  bounded (Neg a) h = subst (λ n. n ≤ magnitude most a) (sym (abs_neg (number scene a))) (bounded a h)
  bounded (Add a b) h =
      let k = and_parts (is_over numbers a) (is_over numbers b) h in
      let p = abs_add (number scene a) (number scene b) in let q = bounded a k.0 in let r = bounded b k.1 in omega arith
  bounded (Sub a b) h =
      let k = and_parts (is_over numbers a) (is_over numbers b) h in
      let p = abs_sub (number scene a) (number scene b) in let q = bounded a k.0 in let r = bounded b k.1 in omega arith
  bounded (Mul a b) h =
      let k = and_parts (is_over numbers a) (is_over numbers b) h in
      let e = unsigned_abs-mul (number scene a) (number scene b) in
      let p = mul-le _ _ _ _ (bounded a k.0) (bounded b k.1) in omega arith
  bounded (Div a c) h = let k = and_parts (is_over numbers a) (int_le (pos 1) c) h in div_bounded (number scene a) c (magnitude most a) k.1 (bounded a k.0)
  bounded (Mod a c) h = let k = and_parts (is_over numbers a) (int_le (pos 1) c) h in rem_bounded (number scene a) c k.1

pub values_within : ValuesLaw
values_within numbers most scene e within h = bounded numbers most scene within e h

last_of : (a b c : Bool) → (a && b && c) ≡ true → c ≡ true
last_of true true c h = h
last_of true false c h = absurd (true≢false (sym h))
last_of false b c h = absurd (true≢false (sym h))

-- an expression that fits has a magnitude that fits
fits_whole : (most : ℕ → ℕ) (e : Control) → is_narrow most e ≡ true → fits (magnitude most e) ≡ true
fits_whole most (Lit n) h = h
fits_whole most (Var x) h = h
fits_whole most (Field f) h = h
fits_whole most (StrideOf x k) h = h
fits_whole most (Neg a) h = fits_whole most a h
fits_whole most (Add a b) h = last_of (is_narrow most a) (is_narrow most b) (fits (magnitude most (Add a b))) h
fits_whole most (Sub a b) h = last_of (is_narrow most a) (is_narrow most b) (fits (magnitude most (Sub a b))) h
fits_whole most (Mul a b) h = last_of (is_narrow most a) (is_narrow most b) (fits (magnitude most (Mul a b))) h
fits_whole most (Div a c) h = (and_parts (is_narrow most a) (fits (magnitude most (Div a c))) h).1
fits_whole most (Mod a c) h = (and_parts (is_narrow most a) (fits (magnitude most (Mod a c))) h).1

pub narrow_values_fit : NarrowLaw
narrow_values_fit numbers most scene e within h k = le_trans (values_within numbers most scene e within h) (leb-true (magnitude most e) (2 ^ 62) (fits_whole most e k))
