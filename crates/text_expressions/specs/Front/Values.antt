-- Tokens that carry a value, with their limits.
use Rattle.std.specs.Prelude.{ℕ, ◌≤◌, List, length}
use Rattle.text_phrases.specs.Phrase.{Phrase}
use Rattle.text_phrases.specs.Sequence.{carried_short, carried_small}
use Rattle.text_lexer.specs.declared.token.Literal.{Literal}
use Rattle.text_lexer.specs.declared.token.Literal.TheVariants.{Value, TooLarge}
use Rattle.text_lexer.specs.declared.token.Token.{Token}
use Rattle.text_lexer.specs.declared.token.Token.TheVariants.{Name, Int}

-- a name has at most 63 bytes
abbrev pub IsShortName : List ℕ → Type 0
IsShortName x = length x ≤ 63

abbrev pub name : Phrase Token (List ℕ)
name = carried_short Name IsShortName

-- a literal is below 2^31
abbrev pub IsValue : Literal → Type 0
IsValue (Value n) = Unit {0}
IsValue TooLarge = ⊥

abbrev pub literal : Phrase Token Literal
literal = carried_small Int IsValue
