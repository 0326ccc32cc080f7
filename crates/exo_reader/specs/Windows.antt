-- Coordinates as a window or as the indices of a cell.
use Rattle.std.specs.Prelude.{◌≡◌, ℕ, max, List, [], ◌∷◌, Bool, true, false, ◌||◌, map}
use Rattle.text_expressions.specs.Values.{IsShortName}
use Rattle.text_expressions.specs.Expression.{Tree, depth}
use Rattle.text_lexer.specs.declared.token.Token.{Token}
use Rattle.text_lexer.specs.declared.token.Token.TheVariants.{Name, Sign}
use Rattle.text_lexer.specs.declared.token.Sign.TheVariants.{OpenBracket}
use Rattle.exo_reader.specs.Source.{Coordinate, point, span}
use Rattle.exo_reader.specs.Views.{plain_coordinate}
use Rattle.exo_reader.specs.declared.argument.NotedCoords.{NotedCoords}

-- the first expression of a coordinate
abbrev pub low_of : Coordinate → Tree
low_of (point e) = e
low_of (span a b) = a

abbrev pub low_depth : Coordinate → ℕ
low_depth c = depth (low_of c)

abbrev pub is_span : Coordinate → Bool
is_span (point e) = false
is_span (span a b) = true

-- the greatest depth of the first expressions
abbrev pub lowest : List Coordinate → ℕ
lowest [] = 0
lowest (c ∷ more) = max (low_depth c) (lowest more)

abbrev pub has_span : List Coordinate → Bool
has_span [] = false
has_span (c ∷ more) = is_span c || has_span more

-- the depth, and whether there is a span, are right
pub record AreNoted (l : NotedCoords) : Type 0 where
  pub depth : l.depth ≡ lowest (map plain_coordinate l.items.items)
  pub spans : l.spans ≡ has_span (map plain_coordinate l.items.items)

-- no short name with a bracket behind it stands first
abbrev pub NoBracket : List Token → Type 0
NoBracket (Name n ∷ Sign OpenBracket ∷ more) = IsShortName n → ⊥
NoBracket other = Unit {0}
