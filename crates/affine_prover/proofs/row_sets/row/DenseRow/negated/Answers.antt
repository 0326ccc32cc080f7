use Rattle.std.proofs.Common.{◌≡◌, sym, ap, ◌∙◌, subst, arith, pos, neg_ℤ, ◌-ℤ◌, to_z, of_z, map}
use Rattle.std.proofs.lemmas.Int.{ints, fits_signed_from_abs}
use Rattle.std.specs.Int.{w128}
use Rattle.std.specs.Int.RustNames.{FitsSigned}
use Rattle.affine_prover.specs.RowSets.Shapes.{IsNarrow, AreNarrow}
use Rattle.affine_prover.proofs.OfRowSets.RowFacts.{neg-narrow, negs-narrow}
use Rattle.affine_prover.proofs.row_sets.row.DenseRow.negated.Goals as goal

pub invariant_of-result : goal.invariant_of-result
invariant_of-result c =
    let narrow = neg-narrow c.self.inside.constant c.self.invariant.0 in
    let fk : FitsSigned w128 c.self.inside.constant = fits_signed_from_abs w128 c.self.inside.constant (omega (arith, c.self.invariant.0)) in
    let fn : FitsSigned w128 (neg_ℤ c.self.inside.constant) = fits_signed_from_abs w128 (neg_ℤ c.self.inside.constant) (omega (arith, narrow)) in
    let z : to_z w128 (of_z w128 (pos 0 -ℤ to_z w128 (of_z w128 c.self.inside.constant))) ≡ neg_ℤ c.self.inside.constant = omega (arith, ints) in
    let cs : c.in_ok-coefficients.coefficients.items ≡ map neg_ℤ c.self.inside.coefficients.items = c.in_ok-coefficients.ensures ∙ ap (map neg_ℤ) c.deref.ensures.value in
    (subst IsNarrow (sym z) narrow, subst AreNarrow (sym cs) (negs-narrow c.self.inside.coefficients.items c.self.invariant.1))
