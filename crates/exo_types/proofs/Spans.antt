-- The spans of a window as it is written and as a tree.
use Rattle.std.proofs.Common.{◌≡◌, suc, List, [], ◌∷◌, refl, ap}
use Rattle.exo_tree.specs.Tree.{ConfigField}
use Rattle.exo_meaning.specs.Units as units
use Rattle.exo_meaning.specs.Units.{Scope}
use Rattle.exo_reader.specs.Source.{Coordinate, point, span}
use Rattle.rules_names.specs.WindowRules.{coordinates_of}
use Rattle.exo_types.specs.ArgumentRules.{spans}

pub same_spans : (fields : List ConfigField) (scope : Scope) (cs : List Coordinate) → spans cs ≡ units.spans (coordinates_of fields scope cs)
same_spans fields scope [] = refl
same_spans fields scope (point e ∷ cs) = same_spans fields scope cs
same_spans fields scope (span a b ∷ cs) = ap suc (same_spans fields scope cs)
