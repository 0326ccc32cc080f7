use Rattle.std.proofs.Common.{arith, rules, get_or, pos}
use Rattle.std.proofs.lemmas.Int.{to_z-of_z}
use Rattle.std.specs.Int.{w128, int_div_euclid}
use Rattle.std.specs.Int.RustNames.{FitsSigned}
use Rattle.affine_prover.proofs.OfRowSets.Lists.{mapped-more}
use Rattle.affine_prover.proofs.row_sets.list.divide_all.Goals as goal

pub loop-c-preserved : goal.loop-c-preserved
loop-c-preserved c =
    let fg = c.ranges.g in
    let fx : FitsSigned w128 (get_or c.loop-c.cs c.loop-c.c-index (pos 0)) = search rules in
    let fz : FitsSigned w128 c.floored.result = search rules in
    let more = mapped-more (λ x. int_div_euclid x c.args.g) c.floored.result c.loop-c.cs c.args.cs.now c.loop-c.c-index (omega arith) c.loop-c.auto.cs (simp to_z-of_z at c.loop-c.invariant.done) c.loop-c.invariant.left (simp to_z-of_z at c.floored.ensures) in
    simp to_z-of_z (record { done = more.0; left = more.1 })
