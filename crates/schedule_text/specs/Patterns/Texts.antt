-- Texts of patterns: what each means, or where and why it is none.
use Rattle.std.specs.Prelude.{◌≡◌, ℕ, List, Result, Ok, Err, MatchResult}
use Rattle.text_phrases.specs.Phrase.{Phrase, Taken}
use Rattle.text_phrases.specs.Text.{IsText, Faults}
use Rattle.text_phrases.specs.Answers.{Refuses}
use Rattle.text_phrases.specs.declared.Refusal.{Refusal}
use Rattle.text_lexer.specs.declared.token.Token.{Token}
use Rattle.exo_reader.specs.Texts.{IsFault}
use Rattle.exo_reader.specs.Strings.{line_tokens_of, line_places_of}
use Rattle.exo_reader.specs.declared.unit.ReadError.{ReadError}
use Rattle.schedule_text.specs.Patterns.Errors.{UnlessMemory}
use Rattle.schedule_text.specs.Patterns.Numbers.{form_in, number_of}

-- what is written at the front of the tokens means this
pub record Means {T P : Type 0} (kind : Phrase Token T) (meaning : T → P)
    (tokens : List Token) (value : P) (rest : List Token) : Type 0 where
  pub written : T
  pub taken : Taken kind tokens written rest
  pub is : value ≡ meaning written

-- exactly what the phrase at the front of the tokens means, or exactly the token at which none
-- goes on
abbrev pub ReadsAs : {T P X : Type 0} → Phrase Token T → (T → P)
    → List Token → (X → P) → (X → List Token) → Result X Refusal → Type 0
ReadsAs kind meaning tokens value rest result =
    MatchResult result (λ x. Means kind meaning tokens (value x) (rest x))
    (λ e. Refuses kind tokens e)

-- what the tokens mean, all of them
pub record MeansWhole {T P : Type 0} (kind : Phrase Token T) (meaning : T → P)
    (tokens : List Token) (value : P) : Type 0 where
  pub written : T
  pub text : IsText kind tokens written
  pub is : value ≡ meaning written

abbrev pub ReadsWhole : {T P X : Type 0} → Phrase Token T → (T → P)
    → List Token → (X → P) → Result X Refusal → Type 0
ReadsWhole kind meaning tokens value result =
    MatchResult result (λ x. MeansWhole kind meaning tokens (value x))
    (λ e. Faults kind tokens e)

-- exactly what a text of one line means, or exactly where and why it means nothing
abbrev pub ReadsForm : {T P X : Type 0} → Phrase Token T → (T → P)
    → List ℕ → (X → P) → Result X ReadError → Type 0
ReadsForm kind meaning text value result =
    MatchResult result (λ x. MeansWhole kind meaning (line_tokens_of text) (value x))
    (λ e. UnlessMemory e.kind (IsFault kind (line_tokens_of text) (line_places_of text) e))

-- a text is a form, and its number if it has one
pub record IsPattern {T P : Type 0} (kind : Phrase Token T) (meaning : T → P)
    (text : List ℕ) (value : P) (nth : ℕ) : Type 0 where
  pub form : MeansWhole kind meaning (line_tokens_of (form_in text)) value
  pub number : number_of text ≡ Ok nth

-- Where and why a text has no form, or has one and no number. Behind the places of a form's tokens
-- stands that of the `#`, or of the text's end.
pub data IsPatternFault {T : Type 0} (kind : Phrase Token T) (text : List ℕ) (e : ReadError)
    : Type 0 where
  in_form :
      IsFault kind (line_tokens_of (form_in text)) (line_places_of (form_in text)) e
      → IsPatternFault kind text e
  in_number :
      (written : T)
      → IsText kind (line_tokens_of (form_in text)) written
      → number_of text ≡ Err e
      → IsPatternFault kind text e

-- exactly the pattern that a text is, with its number, or exactly where and why it is none
abbrev pub ReadsPattern : {T P X : Type 0} → Phrase Token T → (T → P)
    → List ℕ → (X → P) → (X → ℕ) → Result X ReadError → Type 0
ReadsPattern kind meaning text value nth result =
    MatchResult result (λ x. IsPattern kind meaning text (value x) (nth x))
    (λ e. UnlessMemory e.kind (IsPatternFault kind text e))

-- a text is one pattern with one number, or there is one error
pub record PatternsAreOne {T P : Type 0} (kind : Phrase Token T) (meaning : T → P) : Type 0 where
  pub value : (text : List ℕ) (a b : P) (m n : ℕ)
      → IsPattern kind meaning text a m
      → IsPattern kind meaning text b n
      → (a ≡ b) × (m ≡ n)
  pub error : (text : List ℕ) (a b : ReadError)
      → IsPatternFault kind text a
      → IsPatternFault kind text b
      → a ≡ b
  pub no_error : (text : List ℕ) (a : P) (n : ℕ) (e : ReadError)
      → IsPattern kind meaning text a n
      → IsPatternFault kind text e
      → ⊥
