-- What the program's names tell of each part.
use Rattle.std.specs.Prelude.{ℕ, ◌==◌, List, [], ◌∷◌, Option, None, option_map, if◌then◌else◌}
use Rattle.exo_effects.specs.Parts as plain
use Rattle.exo_effects.specs.declared.parts.Part.{Part}
use Rattle.exo_effects.specs.declared.parts.Named.{Named}
use Rattle.exo_effects.specs.declared.parts.Parts.{Parts}

abbrev pub plain_part : Part → plain.Part
plain_part p = record { root = p.root.0; coords = p.coords }

-- what a name stands for: by the last one of the name; so far it is o
abbrev pub part_among : List Named → ℕ → Option plain.Part → Option plain.Part
part_among [] x o = o
part_among (n ∷ rest) x o =
    part_among rest x (if x == n.name.0 then option_map plain_part n.part else o)

abbrev pub parts_in : Parts → plain.Parts
parts_in t x = part_among t.names.items x None
