use Rattle.std.proofs.Common.{◌≡◌, ◌++◌, map, drop}
use Rattle.exo_reader.specs.Views.{plain_coordinate}
use Rattle.rules_names.specs.WindowRules.{coordinates_of}
use Rattle.rules_names.proofs.resolved.coordinates_of.Given as goal

abbrev pub invariant-loop-c : goal.invariant-loop-c
invariant-loop-c l = l.coordinates ++ coordinates_of l.names.fields.now l.names.scope.now (map plain_coordinate (drop l.c-index l.list)) ≡ coordinates_of l.names.fields.now l.names.scope.now (map plain_coordinate l.fn.list)
