use Rattle.std.proofs.Common.{◌≡◌, ◌+◌, map, drop}
use Rattle.exo_reader.specs.Views.{plain_coordinate}
use Rattle.rules_names.specs.WindowRules.{coordinates_width, coordinates_faults}
use Rattle.rules_names.proofs.Controls.{Gone}
use Rattle.rules_names.proofs.window.test_coordinates.Given as goal

abbrev pub invariant-loop-c : goal.invariant-loop-c
invariant-loop-c l = record {
  count : l.next + coordinates_width (map plain_coordinate (drop l.c-index l.list)) ≡ l.fn.n + coordinates_width (map plain_coordinate l.fn.list);
  gone : Gone l.charge (coordinates_faults l.names.fields.now l.names.scope.now l.next (map plain_coordinate (drop l.c-index l.list))) (coordinates_faults l.names.fields.now l.names.scope.now l.fn.n (map plain_coordinate l.fn.list));
}
