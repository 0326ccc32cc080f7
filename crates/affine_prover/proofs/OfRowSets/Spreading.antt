-- The coefficients of a row, variable by variable.
use Rattle.std.proofs.Common.{ℕ, zero, suc, ◌+◌, ◌≡◌, ◌==◌, cond, Bool, true, false, IsTrue, List, [], ◌∷◌, ◌++◌, map, length, ℤ, ap, sym, ◌∙◌, refl, add-one, arith}
use Rattle.std.specs.List.{AllByRecursion}
use Rattle.std.proofs.lemmas.List.{map-append, length-map, length-append}
use Rattle.std.proofs.lemmas.Bool.Decides.{nat_tests}
use Rattle.affine_forms.specs.Bounds.{is_narrow}
use Rattle.affine_forms.specs.System.{coefficient_of, below, plain_row}
use Rattle.affine_forms.specs.declared.system.Term.{Term}
use Rattle.affine_forms.specs.declared.system.Row.{Row}
use Rattle.affine_prover.specs.RowSets.Shapes.{IsNarrow, AreNarrow}
use Rattle.affine_prover.proofs.OfRowSets.Widths.{IsWide}

pub narrow-true : (z : ℤ) → IsTrue (is_narrow z) → IsNarrow z
narrow-true z h = grind (arith, nat_tests)

-- one variable more
pub spread-next : (f : ℕ → ℤ) (v : ℕ) (xs ys : List ℤ) → xs ≡ map f (below v) → ys ≡ xs ++ f v ∷ [] → ys ≡ map f (below (v + 1))
spread-next f v xs ys e s = s ∙ ap (λ zs. zs ++ f v ∷ []) e ∙ sym (rw add-one (map-append f (below v) (v ∷ [])))

coefficient-narrow : (ts : List Term) (v : ℕ) → IsNarrow (coefficient_of ts v)
coefficient-narrow [] v = omega arith
coefficient-narrow (t ∷ ts) v = by (t.variable == v) (coefficient-narrow ts v)
  where
    by : (b : Bool) → IsNarrow (coefficient_of ts v) → IsNarrow (cond b t.coefficient (coefficient_of ts v))
    by true rest = narrow-true t.coefficient t.narrow
    by false rest = rest

pub coefficients-narrow : (ts : List Term) (vs : List ℕ) → AreNarrow (map (coefficient_of ts) vs)
coefficients-narrow ts [] = tt
coefficients-narrow ts (v ∷ vs) = (coefficient-narrow ts v, coefficients-narrow ts vs)

length-below : (n : ℕ) → length (below n) ≡ n
length-below zero = refl
length-below (suc n) = length-append (below n) (n ∷ []) ∙ omega (arith, length-below n)

-- each row has a coefficient for each variable
pub plain_rows-wide : (n : ℕ) (rows : List Row) → AllByRecursion (IsWide n) (map (plain_row n) rows)
plain_rows-wide n [] = tt
plain_rows-wide n (r ∷ rs) = (length-map (below n) (coefficient_of r.terms.items) ∙ length-below n, plain_rows-wide n rs)
