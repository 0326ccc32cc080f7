-- Numbers by their signs and sizes, as they are written.
use Rattle.std.proofs.Common.{◌≡◌, ◌≢◌, ℕ, zero, suc, ◌==◌, ℤ, pos, negsuc, ◌<ℤ◌, ◌≤ℤ◌, Bool, true, false, cond}
use Rattle.std.proofs.Common.{refl, sym, ap, ◌∙◌, arith}
use Rattle.std.proofs.lemmas.Bool.{eqb-true}
use Rattle.std.proofs.lemmas.Int.{ints}
use Rattle.std.specs.Prelude.{unsigned_abs}
use Rattle.exo_tree.specs.Tree.{Control, Lit, Neg, Add, Sub, Mul}
use Rattle.match_laws.specs.Simplify.Simplified.{literal, weighed, first_written, term_joined, constant_joined}

-- ---- a number that is another one, or not

yes : (c n : ℕ) → c ≡ n → (c == n) ≡ true
yes c n h = grind arith

no : (c n : ℕ) → c ≢ n → (c == n) ≡ false
no c n h = by (c == n) refl
  where
    by : (b : Bool) → (c == n) ≡ b → b ≡ false
    by true e = absurd (h (eqb-true c n e))
    by false e = refl

pub literal_below : (z : ℤ) (n : ℕ) → n ≡ unsigned_abs z → z <ℤ pos 0
    → Neg (Lit (pos n)) ≡ literal z
literal_below (pos m) n h k = absurd (omega (arith, ints))
literal_below (negsuc m) n h k = ap (λ (j : ℕ). Neg (Lit (pos j))) h

pub literal_from : (z : ℤ) (n : ℕ) → n ≡ unsigned_abs z → pos 0 ≤ℤ z → Lit (pos n) ≡ literal z
literal_from (pos m) n h k = ap (λ (j : ℕ). Lit (pos j)) h
literal_from (negsuc m) n h k = absurd (omega (arith, ints))

pub weighed_one : (c : ℕ) (v : Control) → c ≡ 1 → v ≡ weighed c v
weighed_one c v h = sym (ap (λ (b : Bool). cond b v (Mul (Lit (pos c)) v)) (yes c 1 h))

pub weighed_more : (c : ℕ) (v : Control) → c ≢ 1 → Mul (Lit (pos c)) v ≡ weighed c v
weighed_more c v h = sym (ap (λ (b : Bool). cond b v (Mul (Lit (pos c)) v)) (no c 1 h))

pub first_from : (z : ℤ) (n : ℕ) (v e : Control) → n ≡ unsigned_abs z → pos 0 ≤ℤ z
    → e ≡ weighed n v → e ≡ first_written z v
first_from (pos m) n v e h k i = i ∙ ap (λ (j : ℕ). weighed j v) h
first_from (negsuc m) n v e h k i = absurd (omega (arith, ints))

pub first_one : (z : ℤ) (n : ℕ) (v : Control) → n ≡ unsigned_abs z → z <ℤ pos 0 → n ≡ 1
    → Neg v ≡ first_written z v
first_one (pos m) n v h k i = absurd (omega (arith, ints))
first_one (negsuc m) n v h k i =
    let none : m ≡ 0 = omega (arith, h, i) in
    sym (ap (λ (b : Bool). cond b (Neg v) (Mul (Neg (Lit (pos (suc m)))) v)) (yes m 0 none))

pub first_more : (z : ℤ) (n : ℕ) (v : Control) → n ≡ unsigned_abs z → z <ℤ pos 0 → n ≢ 1
    → Mul (literal z) v ≡ first_written z v
first_more (pos m) n v h k i = absurd (omega (arith, ints))
first_more (negsuc m) n v h k i =
    let some : m ≢ 0 = λ e. i (omega (arith, h, e)) in
    sym (ap (λ (b : Bool). cond b (Neg v) (Mul (Neg (Lit (pos (suc m)))) v)) (no m 0 some))

pub joined_from : (e : Control) (z : ℤ) (n : ℕ) (v t : Control) → n ≡ unsigned_abs z → pos 0 ≤ℤ z
    → t ≡ weighed n v → Add e t ≡ term_joined e z v
joined_from e (pos m) n v t h k i = ap (Add e) (i ∙ ap (λ (j : ℕ). weighed j v) h)
joined_from e (negsuc m) n v t h k i = absurd (omega (arith, ints))

pub joined_below : (e : Control) (z : ℤ) (n : ℕ) (v t : Control) → n ≡ unsigned_abs z → z <ℤ pos 0
    → t ≡ weighed n v → Sub e t ≡ term_joined e z v
joined_below e (pos m) n v t h k i = absurd (omega (arith, ints))
joined_below e (negsuc m) n v t h k i = ap (Sub e) (i ∙ ap (λ (j : ℕ). weighed j v) h)

pub constant_below : (e : Control) (z : ℤ) (n : ℕ) → n ≡ unsigned_abs z → z <ℤ pos 0
    → Sub e (Lit (pos n)) ≡ constant_joined e z
constant_below e (pos m) n h k = absurd (omega (arith, ints))
constant_below e (negsuc m) n h k = ap (λ (j : ℕ). Sub e (Lit (pos j))) h

pub constant_none : (e : Control) (z : ℤ) (n : ℕ) → n ≡ unsigned_abs z → pos 0 ≤ℤ z → n ≡ 0
    → e ≡ constant_joined e z
constant_none e (pos m) n h k i =
    sym (ap (λ (b : Bool). cond b e (Add e (Lit (pos m)))) (yes m 0 (sym h ∙ i)))
constant_none e (negsuc m) n h k i = absurd (omega (arith, ints))

pub constant_some : (e : Control) (z : ℤ) (n : ℕ) → n ≡ unsigned_abs z → pos 0 ≤ℤ z → n ≢ 0
    → Add e (Lit (pos n)) ≡ constant_joined e z
constant_some e (pos m) n h k i =
    ap (λ (j : ℕ). Add e (Lit (pos j))) h
    ∙ sym (ap (λ (b : Bool). cond b e (Add e (Lit (pos m)))) (no m 0 (λ j. i (h ∙ j))))
constant_some e (negsuc m) n h k i = absurd (omega (arith, ints))
