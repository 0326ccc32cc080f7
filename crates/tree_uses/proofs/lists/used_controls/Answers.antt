use Rattle.exo_tree.specs.PlainControl.{control}
use Rattle.tree_uses.specs.Uses.{controls_fit}
use Rattle.tree_uses.proofs.Wide.{told_wide, item_wide}
use Rattle.tree_uses.proofs.lists.used_controls.Goals as goal

pub returns-in_err-control-clause-fits : goal.returns-in_err-control-clause-fits
returns-in_err-control-clause-fits g c =
    let to = g.U.Uses.uses c.args.uses.now in
    told_wide c.from_residual.result c.in_err-control.field-0.0 (to.control_fits (control c.item-item.result))
    (controls_fit to c.args.es.now) c.from_residual.ensures.1 c.in_err-control.ensures.fits
    (item_wide to.control_fits (λ x. control x) c.as_slice-item-items.result.now c.args.es.now c.loop-item.item-index c.item-item.result
    c.as_slice-item-items.ensures c.item-item.is c.loop-item-test.true)
