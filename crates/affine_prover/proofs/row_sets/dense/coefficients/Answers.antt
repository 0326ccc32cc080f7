use Rattle.std.proofs.Common.{◌≡◌, arith, ap, ◌∙◌, map, ◌++◌, ◌∷◌, []}
use Rattle.std.proofs.lemmas.Int.{to_z-of_z}
use Rattle.std.specs.Int.{w128}
use Rattle.std.specs.Int.RustNames.{FitsSigned}
use Rattle.affine_forms.specs.System.{coefficient_of, below}
use Rattle.affine_prover.proofs.OfRowSets.Spreading.{spread-next}
use Rattle.affine_prover.proofs.row_sets.dense.coefficients.Goals as goal

pub loop-v-preserved : goal.loop-v-preserved
loop-v-preserved c =
    let fz : FitsSigned w128 c.coefficient.result = record { sfits = c.coefficient.type_inv } in
    spread-next (coefficient_of c.args.row.now.terms.items) c.loop-v.v c.loop-v.all.items c.push.new.self.items
    c.loop-v.invariant (simp to_z-of_z at c.in_ok-push.ensures.items
    ∙ ap (λ y. c.loop-v.all.items ++ y ∷ []) c.coefficient.ensures)

pub returns : goal.returns
returns c =
    let last : c.loop-v.v ≡ c.args.n = omega arith in
    c.loop-v.invariant ∙ ap (λ n. map (coefficient_of c.args.row.now.terms.items) (below n)) last
