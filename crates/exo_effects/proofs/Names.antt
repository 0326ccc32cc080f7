-- What names stand for after one name more.
use Rattle.std.proofs.Common.{◌≡◌, ℕ, ◌==◌, List, [], ◌∷◌, ◌++◌, if◌then◌else◌, refl}
use Rattle.std.specs.Prelude.{Option, None, option_map}
use Rattle.exo_meaning.specs.Scene.{updated}
use Rattle.exo_effects.specs.Parts as plain
use Rattle.exo_effects.specs.declared.parts.Named.{Named}
use Rattle.exo_effects.specs.PlainParts.{plain_part, part_among}

pub among_pushed : (names : List Named) (n : Named) (x : ℕ) (o : Option plain.Part)
    → part_among (names ++ n ∷ []) x o
    ≡ (if x == n.name.0 then option_map plain_part n.part else part_among names x o)
among_pushed [] n x o = refl
among_pushed (m ∷ names) n x o =
    among_pushed names n x (if x == m.name.0 then option_map plain_part m.part else o)

abbrev pub parts_by : List Named → plain.Parts
parts_by names x = part_among names x None

pub parts_pushed : (names : List Named) (n : Named)
    → parts_by (names ++ n ∷ []) ≡ updated (parts_by names) n.name.0 (option_map plain_part n.part)
parts_pushed names n = λ i x. among_pushed names n x None i
