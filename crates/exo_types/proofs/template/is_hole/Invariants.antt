-- The parameters that are left decide.
use Rattle.std.proofs.Common.{◌≡◌, drop, map}
use Rattle.std.specs.List.{list_any}
use Rattle.exo_reader.specs.Views.{plain_parameter}
use Rattle.exo_types.specs.HoleRules.{is_written_hole}
use Rattle.exo_types.proofs.template.is_hole.Given as goal

abbrev pub invariant-loop-param : goal.invariant-loop-param
invariant-loop-param l = list_any (is_written_hole l.text) (map plain_parameter (drop l.param-index l.params)) ≡ list_any (is_written_hole l.text) (map plain_parameter l.params)
