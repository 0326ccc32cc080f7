-- Names: texts that are exactly the bytes of one, with no blank.
use Rattle.std.specs.Prelude.{ℕ, ◌+◌, ◌≤◌, List, [], ◌∷◌, if◌then◌else◌, nat_lt, length, drop}
use Rattle.std.specs.Prelude.{Option, Some, None, Result, MatchResult, ◌≡◌, Bool, true, false}
use Rattle.std.specs.Prelude.{take_while, bytes_eq, codes}
use Rattle.text_lexer.specs.Bytes.{begins_name, goes_on_name}
use Rattle.text_lexer.specs.Lexeme.{lexeme_of, word_of}
use Rattle.text_lexer.specs.declared.token.Token.{Token}
use Rattle.text_lexer.specs.declared.token.Token.TheVariants.{Name}
use Rattle.exo_reader.specs.declared.unit.ReadError.{ReadError}
use Rattle.exo_reader.specs.declared.unit.ReadKind.TheVariants.{TooLong}
use Rattle.schedule_text.specs.Patterns.Errors.{kind_at, error_in, UnlessMemory}

abbrev pub begins : List ℕ → Bool
begins [] = false
begins (b ∷ rest) = begins_name b

-- a letter or `_`, and letters, digits and `_` behind it; neither `_` alone nor a word; at most
-- 63 bytes
pub record IsName (text : List ℕ) : Type 0 where
  pub begins : begins text ≡ true
  pub goes_on : take_while goes_on_name text ≡ text
  pub no_any : bytes_eq text (codes "_") ≡ false
  pub no_word : word_of text ≡ None
  pub short : length text ≤ 63

-- nothing stands from this column on
abbrev pub left_over : ℕ → List ℕ → Option ReadError
left_over column [] = None
left_over column (b ∷ rest) = Some (error_in column (kind_at (b ∷ rest)))

-- what is wrong with a text that begins with this token of so many bytes, as a name
abbrev pub fault_by : Token → ℕ → List ℕ → Option ReadError
fault_by (Name x) width text =
    if nat_lt 63 (length x) then Some (error_in 1 TooLong)
    else left_over (width + 1) (drop width text)
fault_by other width text = Some (error_in 1 (kind_at text))

-- what is wrong with a text as a name: at its first token, or behind that
abbrev pub name_fault : List ℕ → Option ReadError
name_fault text = fault_by (lexeme_of text).token (lexeme_of text).width text

-- exactly the name that stands first, of so many bytes, or exactly what is wrong with the text
abbrev pub ReadsFound : List ℕ → ℕ → List ℕ → Result (List ℕ) ReadError → Type 0
ReadsFound x width text result =
    MatchResult result (λ y. (y ≡ x) × (fault_by (Name x) width text ≡ None))
    (λ e. UnlessMemory e.kind (fault_by (Name x) width text ≡ Some e))

-- exactly a text that is a name, or exactly what is wrong with it
abbrev pub ReadsName : List ℕ → Result (List ℕ) ReadError → Type 0
ReadsName text result =
    MatchResult result (λ x. (x ≡ text) × (name_fault text ≡ None))
    (λ e. UnlessMemory e.kind (name_fault text ≡ Some e))

-- a text is one name, or there is one error
pub record NamesAreOne : Type 0 where
  pub error : (text : List ℕ) (a b : ReadError)
      → name_fault text ≡ Some a
      → name_fault text ≡ Some b
      → a ≡ b
  pub no_error : (text : List ℕ) (e : ReadError)
      → name_fault text ≡ None
      → name_fault text ≡ Some e
      → ⊥
  pub spelled : (text : List ℕ) → name_fault text ≡ None → IsName text
  pub all : (text : List ℕ) → IsName text → name_fault text ≡ None
