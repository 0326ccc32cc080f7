-- The rules on windows, and what a window of a text is as a tree. The name, the number of coordinates and each of them are tested
-- by themselves.
use Rattle.std.specs.Prelude.{ℕ, suc, ◌+◌, Bool, List, [], ◌∷◌, ◌++◌, length, map, Option}
use Rattle.exo_tree.specs.Tree as tree
use Rattle.exo_tree.specs.Tree.{ConfigField, Coord}
use Rattle.exo_meaning.specs.Units.{Sort, Scope, plainly}
use Rattle.exo_reader.specs.Source.{Coordinate, point, span}
use Rattle.rules_names.specs.declared.fault.Fault.{Fault}
use Rattle.rules_names.specs.Names.{named_in, sort_of}
use Rattle.rules_names.specs.ExpressionRules.{width, name_faults, rank_faults, control_faults}
use Rattle.rules_names.specs.Resolved.{control_of}

-- how many tokens a coordinate has
abbrev pub coordinate_width : Coordinate → ℕ
coordinate_width (point e) = width e
coordinate_width (span a b) = width a + suc (width b)

-- coordinates with a comma between two, and the bracket that closes them
abbrev pub coordinates_width : List Coordinate → ℕ
coordinates_width [] = 0
coordinates_width (c ∷ cs) = coordinate_width c + suc (coordinates_width cs)

module _ (fields : List ConfigField) where
  abbrev pub coordinate_faults : Scope → ℕ → Coordinate → List Fault
  coordinate_faults scope n (point e) = control_faults fields plainly scope n e
  coordinate_faults scope n (span a b) = control_faults fields plainly scope n a ++ control_faults fields plainly scope (n + width a + 1) b

  abbrev pub coordinates_faults : Scope → ℕ → List Coordinate → List Fault
  coordinates_faults scope n [] = []
  coordinates_faults scope n (c ∷ cs) = coordinate_faults scope n c ++ coordinates_faults scope (n + coordinate_width c + 1) cs

  abbrev pub window_faults : (Option Sort → Bool) → Scope → ℕ → List ℕ → List Coordinate → List Fault
  window_faults fits scope n x cs =
      let sort = sort_of (named_in scope x) in
      name_faults fits sort n ++ (rank_faults sort (length cs) n ++ coordinates_faults scope (n + 2) cs)

  abbrev pub coordinate_of : Scope → Coordinate → Coord
  coordinate_of scope (point e) = tree.At (control_of fields scope e)
  coordinate_of scope (span a b) = tree.Span (control_of fields scope a) (control_of fields scope b)

  abbrev pub coordinates_of : Scope → List Coordinate → List Coord
  coordinates_of scope cs = map (coordinate_of scope) cs
