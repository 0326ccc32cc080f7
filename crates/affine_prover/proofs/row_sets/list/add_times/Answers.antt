use Rattle.std.proofs.Common.{arith, rules, get_or, pos}
use Rattle.std.proofs.lemmas.Int.{to_z-of_z}
use Rattle.std.specs.Int.{w128}
use Rattle.std.specs.Int.RustNames.{FitsSigned}
use Rattle.affine_prover.proofs.OfRowSets.Lists.{added-more, added-fails, left-narrow}
use Rattle.affine_prover.proofs.row_sets.list.add_times.Goals as goal

pub added-requires : goal.added-requires
added-requires c =
    let fx : FitsSigned w128 (get_or c.loop-i.xs c.loop-i.i (pos 0)) = search rules in
    simp to_z-of_z (left-narrow c.loop-i.xs c.args.xs.now c.loop-i.i (omega arith) c.loop-i.auto.xs c.loop-i.invariant.left c.requires.narrow)

pub returns-in-None-clause-narrow : goal.returns-in-None-clause-narrow
returns-in-None-clause-narrow c =
    let fg = c.ranges.g in
    let fx : FitsSigned w128 (get_or c.loop-i.xs c.loop-i.i (pos 0)) = search rules in
    let fy : FitsSigned w128 (get_or c.args.ys.now c.loop-i.i (pos 0)) = search rules in
    added-fails c.args.g c.loop-i.xs c.args.xs.now c.args.ys.now c.loop-i.i (omega arith) c.loop-i.auto.xs (omega arith) c.loop-i.invariant.left (simp to_z-of_z at c.in-None.ensures)

pub loop-i-preserved : goal.loop-i-preserved
loop-i-preserved c =
    let fg = c.ranges.g in
    let fx : FitsSigned w128 (get_or c.loop-i.xs c.loop-i.i (pos 0)) = search rules in
    let fy : FitsSigned w128 (get_or c.args.ys.now c.loop-i.i (pos 0)) = search rules in
    let fz : FitsSigned w128 c.in-Some.z = search rules in
    let more = added-more c.args.g c.in-Some.z c.loop-i.xs c.args.xs.now c.args.ys.now c.loop-i.i (omega arith) c.loop-i.auto.xs (omega arith) (simp to_z-of_z at c.loop-i.invariant.done) c.loop-i.invariant.left (simp to_z-of_z at c.loop-i.invariant.narrow) (simp to_z-of_z at c.in-Some.ensures) in
    simp to_z-of_z (record { done = more.0.0; left = more.1; narrow = more.0.1 })
