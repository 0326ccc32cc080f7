use Rattle.std.proofs.Common.{◌≡◌, ◌+◌, map, drop}
use Rattle.text_expressions.specs.Views.{tree_of}
use Rattle.exo_modes.specs.Reads.{reads}
use Rattle.rules_names.specs.ExpressionRules.{commas_width, closed_width, controls_faults}
use Rattle.rules_names.proofs.Controls.{Gone}
use Rattle.rules_names.proofs.control.test_controls.Given as goal

abbrev pub invariant-loop-e : goal.invariant-loop-e
invariant-loop-e l = record {
  count : l.next + commas_width (map tree_of (drop l.e-index l.list)) ≡ l.fn.n + closed_width (map tree_of l.fn.list);
  gone : Gone l.charge (controls_faults l.names.fields.now (reads l.may) l.names.scope.now l.next (map tree_of (drop l.e-index l.list))) (controls_faults l.names.fields.now (reads l.may) l.names.scope.now l.fn.n (map tree_of l.fn.list));
}
