-- What the text of every form is put together by.
use Rattle.std.specs.Prelude.{ℕ, ◌==◌, List, [], ◌∷◌, ◌++◌, flat_map, nat_lt, if◌then◌else◌, codes}
use Rattle.std.specs.Str.{chars}
use Rattle.std.specs.Char.{encode_utf8}

abbrev pub Text : Type 0
Text = List ℕ

-- with a comma between
abbrev pub listed : List Text → Text
listed [] = []
listed (t ∷ ts) = t ++ flat_map (λ u. codes ", " ++ u) ts

-- a list in brackets; an empty list leaves nothing
abbrev pub bracketed : List Text → Text
bracketed [] = []
bracketed (t ∷ ts) = codes "[" ++ listed (t ∷ ts) ++ codes "]"

-- an operand of that precedence in its place: one that binds more loosely than the place asks has parentheses
abbrev pub operand : ℕ → ℕ → Text → Text
operand place precedence t = if nat_lt precedence place then codes "(" ++ t ++ codes ")" else t

-- two sides with an operator between
abbrev pub between : Text → Text → Text → Text
between a operator b = a ++ codes " " ++ operator ++ codes " " ++ b

-- the first line of a loop over these bounds
abbrev pub loop_text : Text → Text → Text → Text
loop_text i lo hi = codes "for " ++ i ++ codes " in seq(" ++ lo ++ codes ", " ++ hi ++ codes "):"

-- a line behind an indentation
abbrev pub line : Text → Text → Text
line indent t = indent ++ t ++ codes "\n"

-- the indentation of an inner block
abbrev pub deeper : Text → Text
deeper indent = indent ++ codes "    "

-- a character as it stands between double quotes
abbrev pub escaped : ℕ → Text
escaped c = if c == 10 then codes "\\n" else if c == 34 then codes "\\\"" else if c == 92 then codes "\\\\" else encode_utf8 c

abbrev pub quoted : Text → Text
quoted t = codes "\"" ++ flat_map escaped (chars t) ++ codes "\""
