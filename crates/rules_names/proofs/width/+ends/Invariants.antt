use Rattle.std.proofs.Common.{◌≡◌, ◌+◌, ◌≤◌, map, drop}
use Rattle.text_expressions.specs.Views.{tree_of}
use Rattle.rules_names.specs.ExpressionRules.{width, commas_width, closed_width}
use Rattle.rules_names.proofs.width.+ends.Given as goal

abbrev pub decreases-end_of : goal.decreases-end_of
decreases-end_of l = width (tree_of l.e.now)

abbrev pub decreases-end_of_list : goal.decreases-end_of_list
decreases-end_of_list l = closed_width (map tree_of l.list.now)

abbrev pub invariant-end_of_list-loop-e : goal.invariant-end_of_list-loop-e
invariant-end_of_list-loop-e l = record {
  count : l.next + commas_width (map tree_of (drop l.e-index l.list)) ≡ l.fn.n + closed_width (map tree_of l.fn.list);
  moves : l.fn.n ≤ l.next;
}
