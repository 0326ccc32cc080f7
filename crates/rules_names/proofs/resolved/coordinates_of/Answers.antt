use Rattle.exo_reader.specs.Views.{plain_coordinate}
use Rattle.exo_tree.specs.PlainControl.{coordinate}
use Rattle.rules_names.specs.WindowRules.{coordinate_of}
use Rattle.rules_names.proofs.Rests.{pushed_on}
use Rattle.rules_names.proofs.resolved.coordinates_of.Goals as goal

pub loop-c-preserved : goal.loop-c-preserved
loop-c-preserved c =
    pushed_on (coordinate_of c.args.names.now.fields.now c.args.names.now.scope.now) plain_coordinate
    c.args.list.now c.loop-c.c-index c.c-item.result c.loop-c.coordinates c.push.new.self _
    (coordinate c.in_ok-coordinate_of.field-0) c.loop-c-test.true c.c-item.is c.in_ok-coordinate_of.ensures c.in_ok-push.ensures.pushed c.loop-c.invariant
