-- The number at the end of a pattern: at least one blank, `#`, and a literal right behind it. A
-- pattern has no comment.
use Rattle.std.specs.Prelude.{ℕ, ◌+◌, ◌-◌, List, [], ◌∷◌, Bool, true, false, if◌then◌else◌, nat_eq}
use Rattle.std.specs.Prelude.{length, take_while, drop, Option, Some, None, slice_get, Result, Ok}
use Rattle.std.specs.Prelude.{Err, MatchResult, ◌≡◌}
use Rattle.text_lexer.specs.Lexeme.{lexeme_of}
use Rattle.text_lexer.specs.declared.token.Literal.{Literal}
use Rattle.text_lexer.specs.declared.token.Literal.TheVariants.{Value, TooLarge}
use Rattle.text_lexer.specs.declared.token.Token.{Token}
use Rattle.text_lexer.specs.declared.token.Token.TheVariants.{Int}
use Rattle.exo_reader.specs.declared.unit.ReadError.{ReadError}
use Rattle.exo_reader.specs.declared.unit.ReadKind.TheVariants.{Syntax, LiteralTooLarge}
use Rattle.schedule_text.specs.Patterns.Errors.{kind_at, error_in, UnlessMemory}

abbrev pub is_no_hash : ℕ → Bool
is_no_hash b = if nat_eq b 0x23 then false else true

abbrev pub is_blank : ℕ → Bool
is_blank b = nat_eq b 0x20

-- the form of a pattern is what stands before its first `#`
abbrev pub form_in : List ℕ → List ℕ
form_in text = take_while is_no_hash text

abbrev pub behind_form : List ℕ → List ℕ
behind_form text = drop (length (form_in text)) text

abbrev pub is_some_blank : Option ℕ → Bool
is_some_blank None = false
is_some_blank (Some b) = is_blank b

-- the last of these bytes is a blank
abbrev pub ends_blank : List ℕ → Bool
ends_blank bytes = is_some_blank (slice_get bytes (length bytes - 1))

abbrev pub behind_blanks : List ℕ → List ℕ
behind_blanks bytes = drop (length (take_while is_blank bytes)) bytes

-- the number stands if nothing does from this column on
abbrev pub ended : ℕ → ℕ → List ℕ → Result ℕ ReadError
ended n column [] = Ok n
ended n column (b ∷ rest) = Err (error_in column (kind_at (b ∷ rest)))

-- the number of a literal whose `#` stands in this column, with these bytes behind it, the last of
-- a text of this size
abbrev pub valued : Literal → ℕ → ℕ → List ℕ → Result ℕ ReadError
valued (Value n) column size bytes =
    ended n (size - length (behind_blanks bytes) + 1) (behind_blanks bytes)
valued TooLarge column size bytes = Err (error_in column LiteralTooLarge)

abbrev pub counted : Token → ℕ → ℕ → List ℕ → Result ℕ ReadError
counted (Int literal) column size bytes = valued literal column size bytes
counted other column size bytes = Err (error_in column Syntax)

-- The number that the last bytes of a text of this size are, from their `#` in this column on,
-- where a blank stands before that or not. An error stands at the `#`, or behind the number.
abbrev pub number_behind : Bool → ℕ → ℕ → List ℕ → Result ℕ ReadError
number_behind blank column size [] = Ok 0
number_behind false column size (hash ∷ bytes) = Err (error_in column Syntax)
number_behind true column size (hash ∷ bytes) =
    counted (lexeme_of bytes).token column size (drop (lexeme_of bytes).width bytes)

-- the number of a pattern, 0 where it has none, or what is wrong from its first `#` on
abbrev pub number_of : List ℕ → Result ℕ ReadError
number_of text =
    number_behind (ends_blank (form_in text)) (length (form_in text) + 1) (length text)
    (behind_form text)

-- exactly the number of a pattern, or exactly what is wrong with it
abbrev pub ReadsNumber : List ℕ → Result ℕ ReadError → Type 0
ReadsNumber text result =
    MatchResult result (λ n. number_of text ≡ Ok n)
    (λ e. UnlessMemory e.kind (number_of text ≡ Err e))
