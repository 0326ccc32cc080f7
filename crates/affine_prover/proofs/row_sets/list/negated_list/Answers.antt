use Rattle.std.proofs.Common.{ℕ, zero, suc, ◌+◌, ◌<◌, ◌≡◌, List, [], ◌∷◌, ◌++◌, map, length, take, get_or, ℤ, pos}
use Rattle.std.proofs.Common.{neg_ℤ, ◌-ℤ◌, arith, ap, sym, ◌∙◌}
use Rattle.std.proofs.lemmas.Int.{ints, to_z-of_z, fits_signed_from_abs}
use Rattle.std.proofs.lemmas.List.{take_all, map_more}
use Rattle.std.specs.Int.{w128}
use Rattle.std.specs.Int.RustNames.{FitsSigned}
use Rattle.affine_prover.specs.RowSets.Shapes.{IsNarrow, AreNarrow}
use Rattle.affine_prover.proofs.row_sets.list.negated_list.Goals as goal

narrow_at : (zs : List ℤ) (i : ℕ) → AreNarrow zs → IsNarrow (get_or zs i (pos 0))
narrow_at [] i h = omega arith
narrow_at (z ∷ zs) zero h = h.0
narrow_at (z ∷ zs) (suc i) h = narrow_at zs i h.1

-- a narrow number and its opposite fit
narrow_fits : (z : ℤ) → IsNarrow z → FitsSigned w128 z × FitsSigned w128 (pos 0 -ℤ z)
narrow_fits z h =
    (fits_signed_from_abs w128 z (omega (arith, h)), fits_signed_from_abs w128 (pos 0 -ℤ z) (omega (arith, ints, h)))

-- one more opposite number
negated-more :
    (xs out next : List ℤ) (i : ℕ) → i < length xs → out ≡ map neg_ℤ (take i xs)
    → next ≡ out ++ (pos 0 -ℤ get_or xs i (pos 0)) ∷ [] → next ≡ map neg_ℤ (take (i + 1) xs)
negated-more xs out next i l e pushed =
    let same : pos 0 -ℤ get_or xs i (pos 0) ≡ neg_ℤ (get_or xs i (pos 0)) = omega (arith, ints) in
    pushed ∙ ap (λ zs. zs ++ (pos 0 -ℤ get_or xs i (pos 0)) ∷ []) e ∙ ap (λ y. map neg_ℤ (take i xs) ++ y ∷ []) same
    ∙ sym (map_more neg_ℤ xs i (pos 0) l)

pub loop-x-preserved : goal.loop-x-preserved
loop-x-preserved c =
    let fits = narrow_fits (get_or c.args.xs.now c.loop-x.x-index (pos 0))
    (narrow_at c.args.xs.now c.loop-x.x-index c.requires) in
    let fx = fits.0 in
    let fz = fits.1 in
    negated-more c.args.xs.now c.loop-x.out.items c.push.new.self.items c.loop-x.x-index c.loop-x-test.true
    c.loop-x.invariant (simp to_z-of_z at c.in_ok-push.ensures.items)

pub overflow_sub-x : goal.overflow_sub-x
overflow_sub-x c =
    let fits = narrow_fits (get_or c.args.xs.now c.loop-x.x-index (pos 0))
    (narrow_at c.args.xs.now c.loop-x.x-index c.requires) in
    let fx = fits.0 in
    simp to_z-of_z fits.1

pub returns : goal.returns
returns c = c.loop-x.invariant ∙ ap (map neg_ℤ) (take_all c.loop-x.x-index c.args.xs.now c.loop-x-test.false)
