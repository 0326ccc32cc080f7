-- How many elements an allocation asks for.
use Rattle.std.proofs.Common.{◌≡◌, ◌≤◌, ◌<◌, ◌*◌, ◌^◌, ℕ, zero, suc, ℤ, pos, negsuc, ◌*ℤ◌, ◌≤ℤ◌, Bool, true, false, List, [], ◌∷◌, refl, sym, ap, subst, arith, true≢false, int_le, ◌⊎◌, ⊎_elim, inl, inr, unsigned_abs}
use Rattle.std.proofs.Math.IntN.{*ℤ_comm}
use Rattle.std.proofs.lemmas.Int.{ints, unsigned_abs-mul}
use Rattle.std.proofs.lemmas.Bool.{and_parts}
use Rattle.std.proofs.Math.Nat.{le_refl}
use Rattle.std.proofs.lemmas.Nat.{mul-le}
use Rattle.exo_tree.specs.Tree.{Control, Lit, Var, Field, StrideOf, Neg, Add, Sub, Mul, Div, Mod}
use Rattle.exo_meaning.specs.Scene.{Scene, numbers, number}
use Rattle.exo_meaning.specs.Calls.{all_positive}
use Rattle.exo_meaning.specs.Run.{product}
use Rattle.c_tree.specs.CTree.{Number64, Literal, Product}
use Rattle.c_unit_laws.specs.Follows.Machine.Machine.{Outcome, Done, NoStore, after, Setting}
use Rattle.c_unit_laws.specs.Follows.Machine.Machine.{number64}
use Rattle.c_unit_laws.specs.Follows.Machine.CRun.{at_most_48, storable, amount}
use Rattle.c_lowering.specs.Made.Lowered.{Naming, Forms, number_with, dims_of, product_of}
use Rattle.c_lowering.specs.Made.Lowered.{product_from}
use Rattle.c_unit_laws.specs.Follows.Simulation.{IsPlain, ArePlain}
use Rattle.c_unit_laws.specs.Follows.Magnitude.{IsNarrow, AreNarrow}
use Rattle.c_unit_laws.proofs.OfFollows.Extents.{both_positive, positive_product, times_assoc}

-- ---- the amount of cells

-- it is 0, or more than 2 ^ 48
abbrev pub IsMuch : ℤ → Type 0
IsMuch v = ((unsigned_abs v ≡ 0) ⊎ (281474976710656 < unsigned_abs v))

-- no store for so many, or that many, which are not too many
abbrev pub Amount : Outcome ℤ → ℤ → Type 0
Amount o v = (((o ≡ NoStore) × IsMuch v) ⊎ ((o ≡ Done v) × (v ≤ℤ pos 281474976710656)))

-- a product with a factor that is much
much_times : (v w : ℕ) → 281474976710656 < v → ((v * w ≡ 0) ⊎ (281474976710656 < v * w))
much_times v zero h = inl (omega arith)
much_times v (suc w) h = let p : v * 1 ≤ v * suc w = mul-le _ _ _ _ (le_refl v) (omega arith) in inr (omega arith)

no_times : (v w : ℕ) → v ≡ 0 → v * w ≡ 0
no_times zero w h = omega arith
no_times (suc v) w h = absurd (omega (arith, h))

much_left : (v w : ℤ) → IsMuch v → IsMuch (v *ℤ w)
much_left v w h = subst (λ n. (n ≡ 0) ⊎ (281474976710656 < n)) (sym (unsigned_abs-mul v w)) (⊎_elim (λ e. inl (no_times (unsigned_abs v) (unsigned_abs w) e)) (λ e. much_times (unsigned_abs v) (unsigned_abs w) e) h)

much_right : (v w : ℤ) → IsMuch w → IsMuch (v *ℤ w)
much_right v w h = subst IsMuch (*ℤ_comm w v) (much_left w v h)

pub at_most_is : (v : ℤ) → Amount (at_most_48 v) v
at_most_is v = go (int_le v (pos 281474976710656)) refl
  where
    below : (b : ℤ) → int_le v b ≡ true → v ≤ℤ b
    below b e = grind (arith, ints)

    much : (z : ℤ) → int_le z (pos 281474976710656) ≡ false → 281474976710656 < unsigned_abs z
    much (pos n) e = grind arith
    much (negsuc n) e = grind arith

    go : (t : Bool) → int_le v (pos 281474976710656) ≡ t → Amount (at_most_48 v) v
    go false e = inl (ap (λ t. storable t v) e, inr (much v e))
    go true e = inr (ap (λ t. storable t v) e, below (pos 281474976710656) e)

after_known : (o : Outcome ℤ) (v : ℤ) → o ≡ Done v → Amount (after o at_most_48) v
after_known o v e = subst (λ p. Amount (after p at_most_48) v) (sym e) (at_most_is v)

product_amount : (s : Setting) (a b : Number64) (v w : ℤ) → Amount (amount s a) v → number64 s b ≡ Done w → Amount (amount s (Product a b)) (v *ℤ w)
product_amount s a b v w h k =
    ⊎_elim (λ e. inl (ap (λ o. after o (λ m. after (number64 s b) (λ n. after (at_most_48 n) (λ j. at_most_48 (m *ℤ n))))) e.0, much_left v w e.1))
    (λ e. subst (λ o. Amount (after o (λ m. after (number64 s b) (λ n. after (at_most_48 n) (λ j. at_most_48 (m *ℤ n))))) (v *ℤ w)) (sym e.0)
    (subst (λ o. Amount (after o (λ n. after (at_most_48 n) (λ j. at_most_48 (v *ℤ n)))) (v *ℤ w)) (sym k)
    (⊎_elim (λ f. inl (ap (λ o. after o (λ j. at_most_48 (v *ℤ w))) f.0, much_right v w f.1))
    (λ f. subst (λ o. Amount (after o (λ j. at_most_48 (v *ℤ w))) (v *ℤ w)) (sym f.0) (at_most_is (v *ℤ w))) (at_most_is w))))
    h

module _ (naming : Naming) (forms : Forms) (most : ℕ → ℕ) (scene : Scene) (setting : Setting) (value : (e : Control) → IsPlain forms e → IsNarrow most e → number64 setting (number_with naming (λ x k. Literal (pos 1)) e) ≡ Done (number scene e)) where
  number_amount : (e : Control) → IsPlain forms e → IsNarrow most e → Amount (amount setting (number_with naming (λ x k. Literal (pos 1)) e)) (number scene e)
  number_amount (Lit n) h k = after_known _ _ (value (Lit n) h k)
  number_amount (Var y) h k = after_known _ _ (value (Var y) h k)
  number_amount (Field f) h k = absurd h
  number_amount (StrideOf x j) h k = absurd h
  number_amount (Neg a) h k = after_known _ _ (value (Neg a) h k)
  number_amount (Add a b) h k = after_known _ _ (value (Add a b) h k)
  number_amount (Sub a b) h k = after_known _ _ (value (Sub a b) h k)
  number_amount (Mul a b) h k = product_amount setting (number_with naming (λ x j. Literal (pos 1)) a) (number_with naming (λ x j. Literal (pos 1)) b) (number scene a) (number scene b) (number_amount a h.0 k.0) (value b h.1 k.1)
  number_amount (Div a c) h k = after_known _ _ (value (Div a c) h k)
  number_amount (Mod a c) h k = after_known _ _ (value (Mod a c) h k)

  chain_amount : (a : Number64) (v : ℤ) (ds : List Control) → ArePlain forms ds → AreNarrow most ds → int_le (pos 1) v ≡ true → all_positive (numbers scene ds) ≡ true → Amount (amount setting a) v → Amount (amount setting (product_from a (dims_of naming ds))) (v *ℤ product (numbers scene ds))
  chain_amount a v [] h k p q r = subst (λ z. Amount (amount setting a) z) (sym (times_one v)) r
    where
      times_one : (z : ℤ) → z *ℤ pos 1 ≡ z
      times_one z = omega (arith, ints)
  chain_amount a v (d ∷ ds) h k p q r =
      let parts = and_parts (int_le (pos 1) (number scene d)) (all_positive (numbers scene ds)) q in
      subst (λ z. Amount (amount setting (product_from (Product a (number_with naming (λ x k. Literal (pos 1)) d)) (dims_of naming ds))) z) (times_assoc v (number scene d) (product (numbers scene ds)) p parts.0 (positive_product (numbers scene ds) parts.1))
      (chain_amount (Product a (number_with naming (λ x k. Literal (pos 1)) d)) (v *ℤ number scene d) ds h.1 k.1 (both_positive v (number scene d) p parts.0) parts.1 (product_amount setting a (number_with naming (λ x j. Literal (pos 1)) d) v (number scene d) r (value d h.0 k.0)))

  pub dims_amount : (ds : List Control) → ArePlain forms ds → AreNarrow most ds → all_positive (numbers scene ds) ≡ true → Amount (amount setting (product_of (dims_of naming ds))) (product (numbers scene ds))
  dims_amount [] h k p = at_most_is (pos 1)
  dims_amount (d ∷ ds) h k p =
      let parts = and_parts (int_le (pos 1) (number scene d)) (all_positive (numbers scene ds)) p in
      chain_amount _ (number scene d) ds h.1 k.1 parts.0 parts.1 (number_amount d h.0 k.0)

-- what is positive and not more than 2 ^ 48 is not much
pub not_much : (z : ℤ) → int_le (pos 1) z ≡ true → z ≤ℤ pos (2 ^ 48) → IsMuch z → ⊥
not_much (pos n) h k much = let one : 1 ≤ n = grind arith in ⊎_elim (λ e. omega (arith, e)) (λ e. omega (arith, ints)) much
not_much (negsuc n) h k much = absurd (true≢false (sym h))
