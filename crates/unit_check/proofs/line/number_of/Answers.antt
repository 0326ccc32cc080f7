use Rattle.std.proofs.Common.{map, ap, sym, ◌∙◌}
use Rattle.exo_tree.specs.Tree.{block}
use Rattle.exo_tree.specs.Nodes.{capped, nodes_in}
use Rattle.exo_tree.specs.PlainPlace.{step_taken}
use Rattle.unit_check.specs.Preorder.{place_of}
use Rattle.unit_check.proofs.Numbered.{number_is}
use Rattle.unit_check.proofs.Placed.{number_some, number_none}
use Rattle.unit_check.proofs.line.number_of.Goals as goal

pub returns-in-Some : goal.returns-in-Some
returns-in-Some c =
    number_some (place_of (map step_taken c.args.steps.now) (block c.args.body.now)) c.in-Some.number (nodes_in (block c.args.body.now)) c.in-Some.ensures
    ∙ ap capped (sym (number_is (map step_taken c.args.steps.now) (block c.args.body.now)))

pub returns-in-None : goal.returns-in-None
returns-in-None c =
    number_none (place_of (map step_taken c.args.steps.now) (block c.args.body.now)) c.count_statements.result (nodes_in (block c.args.body.now)) c.in-None.ensures c.count_statements.ensures
    ∙ ap capped (sym (number_is (map step_taken c.args.steps.now) (block c.args.body.now)))
