-- Texts of one line, as the strings of a schedule hold them: an expression, or a window.
use Rattle.std.specs.Prelude.{ℕ, List, [], ◌∷◌, ◌++◌, map, Result, MatchResult}
use Rattle.text_phrases.specs.Phrase.{Phrase}
use Rattle.text_phrases.specs.Text.{IsText}
use Rattle.text_lexer.specs.Layout.{line_lexed, token_of, place_of, end_place}
use Rattle.text_lexer.specs.declared.place.Place.{Place}
use Rattle.text_lexer.specs.declared.token.Token.{Token}
use Rattle.text_lexer.specs.declared.token.Token.TheVariants.{Name, Sign}
use Rattle.text_lexer.specs.declared.token.Sign.TheVariants.{OpenBracket, CloseBracket}
use Rattle.text_expressions.specs.Values.{name}
use Rattle.text_expressions.specs.Expression.{EndsList}
use Rattle.exo_reader.specs.Source.{Coordinate}
use Rattle.exo_reader.specs.Statements.{coordinates, HasSpan}
use Rattle.exo_reader.specs.Texts.{IsRefusal}
use Rattle.exo_reader.specs.declared.unit.ReadError.{ReadError}

-- the tokens of a text that is to be one line, and their places with that of its end
abbrev pub line_tokens_of : List ℕ → List Token
line_tokens_of text = map token_of (line_lexed text)

abbrev pub line_places_of : List ℕ → List Place
line_places_of text = map place_of (line_lexed text) ++ end_place text ∷ []

-- coordinates before a bracket, of which one at least is a span
abbrev pub spanned : Phrase Token (List Coordinate)
spanned = record { Fits = λ limits cs. coordinates.Fits limits cs × HasSpan cs; spell = coordinates.spell; Follows = EndsList }

-- a name, and such coordinates between brackets
abbrev pub window : Phrase Token (List ℕ × List Coordinate)
window =
    record {
      Fits = λ limits w. name.Fits limits w.0 × spanned.Fits limits w.1;
      spell = λ w. Name w.0 ∷ Sign OpenBracket ∷ (spanned.spell w.1 ++ (Sign CloseBracket ∷ []));
      Follows = λ o. Unit {0};
    }

-- exactly what a text of one line spells, or exactly where and why it spells none of the kind
abbrev pub ReadsString : {T X : Type 0} → Phrase Token T → List ℕ → (X → T) → Result X ReadError → Type 0
ReadsString kind text plain result =
    MatchResult result (λ x. IsText kind (line_tokens_of text) (plain x))
    (λ e. IsRefusal kind (line_tokens_of text) (line_places_of text) e.kind e)
