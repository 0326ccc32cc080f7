-- How many turns are in groups.
use Rattle.std.proofs.Common.{◌≡◌, ◌≤◌, ◌≤ℤ◌, ◌<◌, ℕ, suc, ◌+◌, ◌*◌, ◌/◌, ◌%◌, ℤ, pos, negsuc, ◌+ℤ◌, ◌-ℤ◌}
use Rattle.std.proofs.Common.{◌*ℤ◌, true, refl, sym, ap, ◌∙◌, arith}
use Rattle.std.specs.Ordering.{int_eq}
use Rattle.std.specs.Int.{int_div_euclid, int_rem_euclid}
use Rattle.std.proofs.Math.IntN.{*ℤ_comm, pos-*ℤ-pos}
use Rattle.std.proofs.lemmas.Nat.{div-add-mod', mod_below}
use Rattle.std.proofs.lemmas.Int.{ints}
use Rattle.exo_meaning.specs.Run.{count}
use Rattle.loop_laws.proofs.Turns.{is_none}

pos_same : (m n : ℕ) → pos m ≡ pos n → m ≡ n
pos_same m n e = omega (arith, ints)

-- whole groups where nothing is left
pub whole_groups : (z : ℤ) (c : ℕ) → int_eq (int_rem_euclid z (pos c)) (pos 0) ≡ true
    → count z ≡ count (int_div_euclid z (pos c)) * c
whole_groups (pos n) c h =
    let rest : n % c ≡ 0 = pos_same (n % c) 0 (is_none (pos (n % c)) h) in
    sym (div-add-mod' n c) ∙ ap (λ z. n / c * c + z) rest ∙ plus_zero (n / c * c)
  where
    plus_zero : (m : ℕ) → m + 0 ≡ m
    plus_zero m = omega arith
whole_groups (negsuc n) c h = nothing c
  where
    nothing : (c : ℕ) → 0 ≡ 0 * c
    nothing c = omega arith

-- enough groups, where the last one may be more than full
pub enough_groups : (z : ℤ) (k : ℕ)
    → count z ≤ count (int_div_euclid (z +ℤ (pos (suc k) -ℤ pos 1)) (pos (suc k))) * suc k
enough_groups (pos n) k =
    let sum : pos n +ℤ (pos (suc k) -ℤ pos 1) ≡ pos (n + k) = omega (arith, ints) in
    by (int_div_euclid (pos n +ℤ (pos (suc k) -ℤ pos 1)) (pos (suc k)))
    (ap (λ z. int_div_euclid z (pos (suc k))) sum)
  where
    large : (n k q r m : ℕ) → m + r ≡ n + k → r < suc k → n ≤ m
    large n k q r m e below = omega arith

    by : (q : ℤ) → q ≡ pos ((n + k) / suc k) → n ≤ count q * suc k
    by q e =
        let full : n ≤ (n + k) / suc k * suc k =
        large n k ((n + k) / suc k) ((n + k) % suc k) ((n + k) / suc k * suc k)
        (div-add-mod' (n + k) (suc k)) (mod_below (n + k) (suc k) (omega arith)) in
        let same : count q ≡ (n + k) / suc k = ap count e in
        turned full (ap (λ m. m * suc k) (sym same))
      where
        turned : {a b c : ℕ} → a ≤ b → b ≡ c → a ≤ c
        turned h e = omega arith
enough_groups (negsuc n) k = least (count (int_div_euclid (negsuc n +ℤ (pos (suc k) -ℤ pos 1)) (pos (suc k))) * suc k)
  where
    least : (m : ℕ) → 0 ≤ m
    least m = omega arith

-- groups, and a rest that is less than a group
pub record Parts (z : ℤ) (c : ℕ) : Type 0 where
  pub rest : ℕ
  pub rest_is : int_rem_euclid z (pos c) ≡ pos rest
  pub count_is : count z ≡ count (int_div_euclid z (pos c)) * c + rest
  -- where the rest begins
  pub first : pos 0 +ℤ pos (count (int_div_euclid z (pos c)) * c)
      ≡ (pos c *ℤ int_div_euclid z (pos c)) +ℤ pos 0

pub parts : (z : ℤ) (c : ℕ) → pos 0 ≤ℤ z → Parts z c
parts (pos n) c h = record {
  rest = n % c;
  rest_is = refl;
  count_is = sym (div-add-mod' n c);
  first =
      let product : pos c *ℤ pos (n / c) ≡ pos (n / c * c) =
      *ℤ_comm (pos c) (pos (n / c)) ∙ pos-*ℤ-pos (n / c) c in
      start (pos (n / c * c)) ∙ ap (λ z. z +ℤ pos 0) (sym product);
}
  where
    start : (z : ℤ) → pos 0 +ℤ z ≡ z +ℤ pos 0
    start z = omega (arith, ints)
parts (negsuc n) c h = absurd (omega (arith, ints))
