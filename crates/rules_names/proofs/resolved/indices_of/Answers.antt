use Rattle.exo_tree.specs.PlainControl.{control}
use Rattle.text_expressions.specs.Views.{tree_of}
use Rattle.rules_names.specs.Resolved.{control_of}
use Rattle.rules_names.proofs.Rests.{pushed_on}
use Rattle.rules_names.proofs.resolved.indices_of.Goals as goal

pub loop-e-preserved : goal.loop-e-preserved
loop-e-preserved c =
    pushed_on (control_of c.args.names.now.fields.now c.args.names.now.scope.now) tree_of
    c.args.list.now c.loop-e.e-index c.e-item.result c.loop-e.indices c.push.new.self _
    (control c.in_ok-control_of.field-0) c.loop-e-test.true c.e-item.is c.in_ok-control_of.ensures c.in_ok-push.ensures.pushed c.loop-e.invariant
