-- The coordinates that are left decide.
use Rattle.std.proofs.Common.{◌≡◌, map, drop}
use Rattle.std.specs.List.{list_all}
use Rattle.exo_reader.specs.Views.{plain_coordinate}
use Rattle.rules_names.specs.Arguments.{is_coordinate_form}
use Rattle.schedule_calls.proofs.string.are_coordinate_forms.Given as goal

abbrev pub invariant-loop-c : goal.invariant-loop-c
invariant-loop-c l =
    list_all is_coordinate_form (map plain_coordinate (drop l.c-index l.coords))
    ≡ list_all is_coordinate_form (map plain_coordinate l.fn.coords)
