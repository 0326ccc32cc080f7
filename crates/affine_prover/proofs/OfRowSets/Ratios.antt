-- Of the rows that bound a variable from one side, the one that bounds it most.
use Rattle.std.proofs.Common.{ℕ, ◌<◌, ◌≡◌, ◌⊎◌, inl, inr, Bool, true, false, List, [], ◌∷◌, ℤ, pos, ◌*ℤ◌, ◌≤ℤ◌, arith, refl}
use Rattle.std.specs.List.{AllByRecursion}
use Rattle.std.proofs.lemmas.Int.{ints, by_lt_z}
use Rattle.affine_forms.specs.Affine.{Affine}
use Rattle.affine_prover.proofs.OfRowSets.Everywhere.{everywhere-like}
use Rattle.affine_prover.proofs.OfRowSets.Fractions.{ratio_trans}

-- a row that passes the test such that no row that passes it has a less ratio of `rest` to `size`
pub record Chosen (t : Affine → Bool) (size : Affine → ℕ) (rest : Affine → ℤ) (P : Affine → Type 0) (rows : List Affine) : Type 0 where
  pub row : Affine
  pub meets : P row
  pub passes : t row ≡ true
  pub least : AllByRecursion (λ r. t r ≡ true → (pos (size r) *ℤ rest row) ≤ℤ (pos (size row) *ℤ rest r)) rows

same_at_most : (a : ℤ) → a ≤ℤ a
same_at_most a = omega (arith, ints)

pub least_ratio : (t : Affine → Bool) (size : Affine → ℕ) (rest : Affine → ℤ) (P : Affine → Type 0) → ((r : Affine) → t r ≡ true → 0 < size r) → (rows : List Affine) → AllByRecursion P rows → AllByRecursion (λ r. t r ≡ false) rows ⊎ Chosen t size rest P rows
least_ratio t size rest P some [] h = inl tt
least_ratio t size rest P some (r ∷ rs) h = by (t r) refl (least_ratio t size rest P some rs h.1)
  where
    alone : t r ≡ true → AllByRecursion (λ x. t x ≡ false) rs → Chosen t size rest P (r ∷ rs)
    alone e none = record {
      row = r;
      meets = h.0;
      passes = e;
      least = ((λ m. same_at_most (pos (size r) *ℤ rest r)), everywhere-like (λ x. t x ≡ false) (λ x. t x ≡ true → (pos (size x) *ℤ rest r) ≤ℤ (pos (size r) *ℤ rest x)) (λ x n m. absurd cc) rs none);
    }

    stays : (c : Chosen t size rest P rs) → (pos (size r) *ℤ rest c.row) ≤ℤ (pos (size c.row) *ℤ rest r) → Chosen t size rest P (r ∷ rs)
    stays c below = record { row = c.row; meets = c.meets; passes = c.passes; least = ((λ m. below), c.least) }

    changes : t r ≡ true → (c : Chosen t size rest P rs) → (pos (size c.row) *ℤ rest r) ≤ℤ (pos (size r) *ℤ rest c.row) → Chosen t size rest P (r ∷ rs)
    changes e c below = record {
      row = r;
      meets = h.0;
      passes = e;
      least = ((λ m. same_at_most (pos (size r) *ℤ rest r)), everywhere-like (λ x. t x ≡ true → (pos (size x) *ℤ rest c.row) ≤ℤ (pos (size c.row) *ℤ rest x)) (λ x. t x ≡ true → (pos (size x) *ℤ rest r) ≤ℤ (pos (size r) *ℤ rest x)) (λ x k m. ratio_trans (rest c.row) (rest x) (rest r) (size c.row) (size x) (size r) (some c.row c.passes) (k m) below) rs c.least);
    }

    among : t r ≡ true → Chosen t size rest P rs → Chosen t size rest P (r ∷ rs)
    among e c = by_lt_z (pos (size c.row) *ℤ rest r) (pos (size r) *ℤ rest c.row) (λ less. changes e c (omega (arith, ints, less))) (λ more. stays c more)

    by : (b : Bool) → t r ≡ b → AllByRecursion (λ x. t x ≡ false) rs ⊎ Chosen t size rest P rs → AllByRecursion (λ x. t x ≡ false) (r ∷ rs) ⊎ Chosen t size rest P (r ∷ rs)
    by true e (inl none) = inr (alone e none)
    by true e (inr c) = inr (among e c)
    by false e (inl none) = inl (e, none)
    by false e (inr c) = inr (record { row = c.row; meets = c.meets; passes = c.passes; least = ((λ m. absurd cc), c.least) })
