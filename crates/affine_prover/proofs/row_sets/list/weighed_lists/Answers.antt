use Rattle.std.proofs.Common.{arith, rules, get_or, pos}
use Rattle.std.proofs.lemmas.Int.{to_z-of_z}
use Rattle.std.specs.Int.{w128}
use Rattle.std.specs.Int.RustNames.{FitsSigned}
use Rattle.affine_prover.proofs.OfRowSets.Lists.{none-weighed, some-weighed, all-weighed}
use Rattle.affine_prover.proofs.row_sets.list.weighed_lists.Goals as goal

pub returns-in-None : goal.returns-in-None
returns-in-None c =
    let ff = c.ranges.f in
    let fg = c.ranges.g in
    let fx : FitsSigned w128 (get_or c.args.xs.now c.loop-i.i (pos 0)) = search rules in
    let fy : FitsSigned w128 (get_or c.args.ys.now c.loop-i.i (pos 0)) = search rules in
    none-weighed c.args.f c.args.xs.now c.args.g c.args.ys.now c.loop-i.i (omega arith) c.requires (simp to_z-of_z at c.in-None.ensures)

pub loop-i-preserved : goal.loop-i-preserved
loop-i-preserved c =
    let ff = c.ranges.f in
    let fg = c.ranges.g in
    let fx : FitsSigned w128 (get_or c.args.xs.now c.loop-i.i (pos 0)) = search rules in
    let fy : FitsSigned w128 (get_or c.args.ys.now c.loop-i.i (pos 0)) = search rules in
    let fz : FitsSigned w128 c.in-Some.z = search rules in
    let both = some-weighed c.args.f c.args.xs.now c.args.g c.args.ys.now c.loop-i.i c.in-Some.z c.loop-i.out.items c.push.new.self.items (omega arith) c.requires (simp to_z-of_z at c.in-Some.ensures) (simp to_z-of_z at c.loop-i.invariant.made) (simp to_z-of_z at c.loop-i.invariant.narrow) (simp to_z-of_z at c.in_ok-push-in-Some.ensures.items) in
    simp to_z-of_z (record { made = both.0; narrow = both.1 })

pub returns : goal.returns
returns c =
    let ff = c.ranges.f in
    let fg = c.ranges.g in
    all-weighed c.args.f c.args.xs.now c.args.g c.args.ys.now c.loop-i.i c.loop-i.out.items (omega arith) c.requires (simp to_z-of_z at c.loop-i.invariant.made) (simp to_z-of_z at c.loop-i.invariant.narrow)
