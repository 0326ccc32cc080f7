-- What is left of the template decides.
use Rattle.std.proofs.Common.{◌≡◌, List, Some, map}
use Rattle.exo_tree.specs.Tree.{Param}
use Rattle.exo_reader.specs.Views.{plain_parameter}
use Rattle.exo_meaning.specs.Units as units
use Rattle.exo_types.specs.HoleRules.{HaveHoles, IsBegun, fits_from}
use Rattle.exo_types.proofs.template.is_template.Given as goal

abbrev pub invariant-loop-k : goal.invariant-loop-k
invariant-loop-k l =
    record {
      begun : IsBegun l.k l.reading;
      fits : (ps : List Param) → HaveHoles ps (map plain_parameter l.params) → fits_from ps l.template l.k (Some l.reading) ≡ units.is_template ps (Some l.template);
    }
