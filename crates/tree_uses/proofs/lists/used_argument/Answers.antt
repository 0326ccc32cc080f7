use Rattle.std.proofs.Common.{Bool, refl, ap, ap₂}
use Rattle.exo_tree.specs.PlainArgument.{argument}
use Rattle.exo_tree.specs.Tree as tree
use Rattle.exo_tree.specs.declared.argument.Arg.{Arg}
use Rattle.tree_uses.specs.Uses.{Uses, used_argument, argument_fits}
use Rattle.tree_uses.proofs.Nodes.{node_made}
use Rattle.tree_uses.proofs.lists.used_argument.Goals as goal

abbrev used : Uses → Arg → tree.Argument
used to a = used_argument to (argument a)

abbrev fits : Uses → Arg → Bool
fits to a = argument_fits to (argument a)

pub returns-in_ok-control-in-Ctrl : goal.returns-in_ok-control-in-Ctrl
returns-in_ok-control-in-Ctrl g c =
    let to = g.U.Uses.uses c.args.uses.now in
    let made = c.in_ok-control-in-Ctrl.ensures in
    node_made (used to) (fits to) c.in-Ctrl.is (ap tree.ControlArg made.value) made.fits

pub returns-in_ok-used_condition-in-Cond : goal.returns-in_ok-used_condition-in-Cond
returns-in_ok-used_condition-in-Cond g c =
    let to = g.U.Uses.uses c.args.uses.now in
    let made = c.in_ok-used_condition-in-Cond.ensures in
    node_made (used to) (fits to) c.in-Cond.is (ap tree.ConditionArg made.value) made.fits

pub returns-in_ok-whole-in-Whole : goal.returns-in_ok-whole-in-Whole
returns-in_ok-whole-in-Whole g c =
    let to = g.U.Uses.uses c.args.uses.now in
    node_made (used to) (fits to) c.in-Whole.is c.in_ok-whole-in-Whole.ensures refl

pub returns-in_ok-coords-in-Window : goal.returns-in_ok-coords-in-Window
returns-in_ok-coords-in-Window g c =
    let to = g.U.Uses.uses c.args.uses.now in
    let made = c.in_ok-coords-in-Window.ensures in
    node_made (used to) (fits to) c.in-Window.is
    (ap₂ tree.Window c.name.ensures made.value) made.fits
