use Rattle.exo_tree.specs.PlainArgument.{argument}
use Rattle.tree_uses.specs.Uses.{argument_fits, arguments_fit}
use Rattle.tree_uses.proofs.Wide.{told_wide, item_wide}
use Rattle.tree_uses.proofs.lists.used_arguments.Goals as goal

pub returns-in_err-used_argument-clause-fits : goal.returns-in_err-used_argument-clause-fits
returns-in_err-used_argument-clause-fits g c =
    let to = g.U.Uses.uses c.args.uses.now in
    told_wide c.from_residual.result c.in_err-used_argument.field-0.0 (argument_fits to (argument c.item-item.result))
    (arguments_fit to c.args.args.now) c.from_residual.ensures.1 c.in_err-used_argument.ensures.fits
    (item_wide (argument_fits to) (λ x. argument x) c.as_slice-item-items.result.now c.args.args.now c.loop-item.item-index c.item-item.result
    c.as_slice-item-items.ensures c.item-item.is c.loop-item-test.true)
