use Rattle.std.proofs.Common.{◌≡◌, map, drop}
use Rattle.std.specs.List.{list_all}
use Rattle.exo_reader.specs.Views.{plain_coordinate}
use Rattle.rules_names.specs.Arguments.{knows_coordinate}
use Rattle.rules_names.proofs.argument.knows_coordinates.Given as goal

abbrev pub invariant-loop-c : goal.invariant-loop-c
invariant-loop-c l = list_all (knows_coordinate l.names.fields.now) (map plain_coordinate (drop l.c-index l.list)) ≡ list_all (knows_coordinate l.names.fields.now) (map plain_coordinate l.fn.list)
