-- Two ids change places.
use Rattle.std.proofs.Common.{◌≡◌, ◌⊎◌, inl, inr, ℕ, ◌==◌, Bool, true, false, cond, refl, sym, ap, ◌∙◌, subst, eqb-true, eq-eqb}
use Rattle.exo_meaning.specs.Renaming.{Renaming}
use Rattle.meaning_laws.specs.Copies.{Moves}
use Rattle.meaning_laws.specs.Fresh.{swapped}

by_test : (a b x : ℕ) (t u : Bool) → (x == a) ≡ t → (x == b) ≡ u → swapped a b x ≡ cond t b (cond u a x)
by_test a b x t u i j = ap (λ v. cond v b (cond (x == b) a x)) i ∙ ap (λ v. cond t b (cond v a x)) j

pub swapped_twice : (a b x : ℕ) → swapped a b (swapped a b x) ≡ x
swapped_twice a b x = go (x == a) (x == b) refl refl
  where
    at_b : swapped a b b ≡ a
    at_b = last (b == a) refl
      where
        last : (t : Bool) → (b == a) ≡ t → swapped a b b ≡ a
        last true e = by_test a b b true true e (eq-eqb b b refl) ∙ eqb-true b a e
        last false e = by_test a b b false true e (eq-eqb b b refl)

    at_a : (u : Bool) → (a == b) ≡ u → swapped a b a ≡ b
    at_a u e = by_test a b a true u (eq-eqb a a refl) e

    go : (t u : Bool) → (x == a) ≡ t → (x == b) ≡ u → swapped a b (swapped a b x) ≡ x
    go true u i j = ap (swapped a b) (by_test a b x true u i j) ∙ at_b ∙ sym (eqb-true x a i)
    go false true i j = ap (swapped a b) (by_test a b x false true i j) ∙ at_a (a == b) refl ∙ sym (eqb-true x b j)
    go false false i j = ap (swapped a b) (by_test a b x false false i j) ∙ by_test a b x false false i j

abbrev pub swap : ℕ → ℕ → Renaming
swap a b = record { to = swapped a b; from = swapped a b; to_from = swapped_twice a b; from_to = swapped_twice a b }

pub swap_moves : (a b : ℕ) (Free : ℕ → Type 0) → Free a → Free b → Moves (swap a b) Free
swap_moves a b Free fa fb x = go (x == a) (x == b) refl refl
  where
    go : (t u : Bool) → (x == a) ≡ t → (x == b) ≡ u → (swapped a b x ≡ x) ⊎ (Free x × Free (swapped a b x))
    go true u i j = inr (subst Free (sym (eqb-true x a i)) fa, subst Free (sym (by_test a b x true u i j)) fb)
    go false true i j = inr (subst Free (sym (eqb-true x b j)) fb, subst Free (sym (by_test a b x false true i j)) fa)
    go false false i j = inl (by_test a b x false false i j)
