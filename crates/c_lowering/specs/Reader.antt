-- How far the reading of a template is.
use Rattle.std.specs.Prelude.{◌≡◌, ℕ, List, [], ◌∷◌, ◌++◌, map, string_bytes}
use Rattle.exo_meaning.specs.Units.{Plain, Opened, Closed, InHole}
use Rattle.c_lowering.specs.Made.Lowered.{Hole}
use Rattle.c_lowering.specs.Made.LoweredUnit.{with_byte, holes_from}
use Rattle.c_lowering.specs.PlainHole.{plain_hole}
use Rattle.c_lowering.specs.declared.templates.Place.{Place}
use Rattle.c_lowering.specs.declared.templates.Place.TheVariants as places
use Rattle.c_lowering.specs.declared.templates.Reader.{Reader}

-- parts behind a text: it joins a text that stands first
abbrev pub behind : List ℕ → List Hole → List Hole
behind [] parts = parts
behind (c ∷ text) parts = with_byte c (behind text parts)

-- the parts of what is left of a template, from a place and behind the name so far
abbrev pub left_from : Place → List ℕ → List ℕ → List Hole
left_from places.Plain name rest = holes_from Plain rest
left_from places.Opened name rest = holes_from Opened rest
left_from places.Closed name rest = holes_from Closed rest
left_from places.InName name rest = holes_from (InHole name) rest
left_from places.Ended name rest = []

-- all parts, where so much is left
abbrev pub all_parts : Reader → List ℕ → List Hole
all_parts r rest =
    map plain_hole r.parts.items
    ++ behind (string_bytes r.text) (left_from r.place (string_bytes r.name) rest)

-- the second reader is past these bytes
abbrev pub IsPast : List ℕ → Reader → Reader → Type 0
IsPast bytes old new = (rest : List ℕ) → all_parts old (bytes ++ rest) ≡ all_parts new rest
