use Rattle.std.proofs.Common.{length, map, refl}
use Rattle.exo_tree.specs.PlainParam.{parameter}
use Rattle.exo_tree.specs.PlainProcedure.{procedure}
use Rattle.exo_tree.specs.PlainUnit.{program}
use Rattle.buffer_laws.specs.Stride.Strides.{sees_strides}
use Rattle.piece_modes.specs.Strides.Seen.{seen_of, first_world, first_see}
use Rattle.piece_modes.proofs.Rest.{row_on, row_all}
use Rattle.piece_modes.proofs.strides.table.row_of.Goals as goal

pub loop-x-preserved : goal.loop-x-preserved
loop-x-preserved c =
    let u = program c.args.above.now.unit.now in
    let n = length c.args.above.now.rows.now in
    let sees = sees_strides (first_world u n) (first_see u n) (procedure c.args.p.now) in
    row_on (λ ps. seen_of sees (map parameter ps)) (λ q. sees (parameter q).binder.id) (λ _ _. refl)
    c.as_slice-x-items.result.now
    c.loop-x.x-index c.x-item.result _ c.loop-x.row.items _ _
    c.loop-x-test.true c.x-item.is c.in_ok-sees.ensures c.in_ok-push.ensures.items c.loop-x.invariant

pub returns : goal.returns
returns c =
    let u = program c.args.above.now.unit.now in
    let n = length c.args.above.now.rows.now in
    let sees = sees_strides (first_world u n) (first_see u n) (procedure c.args.p.now) in
    row_all (λ ps. seen_of sees (map parameter ps)) refl c.as_slice-x-items.result.now c.loop-x.x-index _ _
    c.loop-x-test.false c.loop-x.invariant
