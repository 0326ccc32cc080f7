-- Texts: the trees of units, and where and why a text is refused, of whatever kind it is to be.
use Rattle.std.specs.Prelude.{◌≡◌, ℕ, ◌+◌, ◌-◌, ◌≤◌, List, [], ◌∷◌, ◌++◌, Option, Some, None, map}
use Rattle.std.specs.Prelude.{length, take, drop, slice_get, Result, MatchResult}
use Rattle.text_phrases.specs.Limits.{Cause, syntax, too_deep, too_long, too_large}
use Rattle.text_phrases.specs.Phrase.{Phrase}
use Rattle.text_phrases.specs.Text.{IsText, FaultAt}
use Rattle.text_phrases.specs.declared.Refusal.{Refusal}
use Rattle.text_phrases.specs.declared.Refusal.TheVariants as r
use Rattle.text_lexer.specs.Layout.{lexed, token_of, place_of, end_place}
use Rattle.text_lexer.specs.declared.place.Place.{Place}
use Rattle.text_lexer.specs.declared.token.Token.{Token}
use Rattle.text_lexer.specs.declared.token.Token.TheVariants.{Sign, NewLine, Indent, Dedent, Bad}
use Rattle.text_lexer.specs.declared.token.Sign.TheVariants.{Colon}
use Rattle.text_lexer.specs.declared.token.Fault.TheVariants.{Byte, Indentation}
use Rattle.exo_reader.specs.Items.{unit}
use Rattle.exo_reader.specs.declared.unit.ReadKind.{ReadKind}
use Rattle.exo_reader.specs.declared.unit.ReadKind.TheVariants as k
use Rattle.exo_reader.specs.Views.{plain_item}
use Rattle.exo_reader.specs.declared.unit.ReadError.{ReadError}
use Rattle.exo_reader.specs.declared.unit.Source.{Source}

-- the tokens of a text, and their places with that of its end
abbrev pub tokens_of : List ℕ → List Token
tokens_of text = map token_of (lexed text)

abbrev pub places_of : List ℕ → List Place
places_of text = map place_of (lexed text) ++ end_place text ∷ []

-- these tokens end in a colon and a line end: a block must begin behind them
abbrev pub EndsHeader : List Token → Type 0
EndsHeader before = drop (length before - 2) before ≡ Sign Colon ∷ NewLine ∷ []

-- nothing is left but the ends of blocks
abbrev pub IsAtEnd : List Token → Type 0
IsAtEnd [] = Unit {0}
IsAtEnd (Dedent ∷ more) = IsAtEnd more
IsAtEnd other = ⊥

-- what a token that may not stand there says by itself: a byte that no text has, or an indentation
-- that fits no block
abbrev pub bad_token : Token → Option ReadKind
bad_token (Bad Byte) = Some k.BadByte
bad_token (Bad Indentation) = Some k.BadIndent
bad_token Indent = Some k.BadIndent
bad_token other = None

abbrev pub first_kind : List Token → Option ReadKind
first_kind [] = None
first_kind (token ∷ more) = bad_token token

-- a line is not indented where a block must begin, or the grammar ends
abbrev pub IsKindBy : Option ReadKind → List Token → List Token → ReadKind → Type 0
IsKindBy (Some wanted) before rest kind = kind ≡ wanted
IsKindBy None before rest k.BadIndent = EndsHeader before × (IsAtEnd rest → ⊥)
IsKindBy None before rest k.Syntax = EndsHeader before → IsAtEnd rest
IsKindBy None before rest other = ⊥

-- what is wrong where no text of any size goes on with the rest
abbrev pub IsSyntaxKind : List Token → List Token → ReadKind → Type 0
IsSyntaxKind before rest kind = IsKindBy (first_kind rest) before rest kind

abbrev pub IsKind : Cause → List Token → List Token → ReadKind → Type 0
IsKind syntax before rest kind = IsSyntaxKind before rest kind
IsKind too_deep before rest kind = kind ≡ k.TooDeep
IsKind too_long before rest kind = kind ≡ k.TooLong
IsKind too_large before rest kind = kind ≡ k.LiteralTooLarge

-- an indentation is at the beginning of its line
abbrev pub column_at : Place → ReadKind → ℕ
column_at place k.BadIndent = 1
column_at place kind = place.column

-- the place of the first of the last tokens; behind the places of all tokens stands that of the end
abbrev pub place_left : List Place → ℕ → Option Place
place_left places last = slice_get places (length places - (last + 1))

-- the error stands at the first of the last tokens
pub record IsPlaced (places : List Place) (last : ℕ) (e : ReadError) : Type 0 where
  pub place : Place
  pub there : place_left places last ≡ Some place
  pub line : e.line ≡ place.line
  pub column : e.column ≡ column_at place e.kind

-- The tokens are refused at the first one with which no text of the kind begins: this is where and
-- why.
pub record IsFault {T : Type 0} (kind : Phrase Token T) (tokens : List Token) (places : List Place)
    (e : ReadError) : Type 0 where
  pub cause : Cause
  pub last : ℕ
  pub fault : FaultAt kind cause tokens last
  pub why : IsKind cause fault.before fault.rest e.kind
  pub placed : IsPlaced places last e

-- an error says where and why the tokens are no text of the kind, but for want of memory
abbrev pub IsRefusal :
    {T : Type 0} → Phrase Token T → List Token → List Place → ReadKind → ReadError → Type 0
IsRefusal kind tokens places k.Memory e = Unit {0}
IsRefusal kind tokens places why e = IsFault kind tokens places e

-- exactly the unit that a text spells, with the places of its tokens, or exactly where and why it
-- is none
abbrev pub ReadsUnit : List ℕ → Result Source ReadError → Type 0
ReadsUnit text result =
    MatchResult result (λ s.
    IsText unit (tokens_of text) (map plain_item s.items.items) × (s.places.items ≡ places_of text))
    (λ e. IsRefusal unit (tokens_of text) (places_of text) e.kind e)

-- no more tokens are left at a refusal than there are
abbrev pub IsLeft : List Token → Refusal → Type 0
IsLeft tokens r.Memory = Unit {0}
IsLeft tokens (r.Syntax last) = last ≤ length tokens
IsLeft tokens (r.TooDeep last) = last ≤ length tokens
IsLeft tokens (r.TooLong last) = last ≤ length tokens
IsLeft tokens (r.TooLarge last) = last ≤ length tokens

-- the error says what a cause does at the first of the last tokens
pub record SaysAt (cause : Cause) (tokens : List Token) (places : List Place) (last : ℕ)
    (e : ReadError) : Type 0 where
  pub why :
      IsKind cause (take (length tokens - last) tokens) (drop (length tokens - last) tokens) e.kind
  pub placed : IsPlaced places last e

-- the error says what the refusal does
abbrev pub Says : List Token → List Place → Refusal → ReadError → Type 0
Says tokens places r.Memory e = e.kind ≡ k.Memory
Says tokens places (r.Syntax last) e = SaysAt syntax tokens places last e
Says tokens places (r.TooDeep last) e = SaysAt too_deep tokens places last e
Says tokens places (r.TooLong last) e = SaysAt too_long tokens places last e
Says tokens places (r.TooLarge last) e = SaysAt too_large tokens places last e

-- The tokens of a text are one text of the kind, or there is one error.
pub record TextsAreOne {T : Type 0} (kind : Phrase Token T) : Type 0 where
  pub tree : (tokens : List Token) (a b : T)
      → IsText kind tokens a
      → IsText kind tokens b
      → a ≡ b
  pub error : (tokens : List Token) (places : List Place) (a b : ReadError)
      → IsFault kind tokens places a
      → IsFault kind tokens places b
      → a ≡ b
  pub no_error : (tokens : List Token) (places : List Place) (tree : T) (e : ReadError)
      → IsText kind tokens tree
      → IsFault kind tokens places e
      → ⊥
