-- Where and why the tokens of a form are refused.
use Rattle.std.proofs.Common.{◌≡◌, ℕ, List, Result, Ok, Err, MatchResult, sym, subst}
use Rattle.std.specs.Result.{IsErrAnd}
use Rattle.text_phrases.specs.Phrase.{Phrase}
use Rattle.text_phrases.specs.Text.{Faults}
use Rattle.text_phrases.specs.declared.Refusal.{Refusal}
use Rattle.text_lexer.specs.declared.place.Place.{Place}
use Rattle.text_lexer.specs.declared.token.Token.{Token}
use Rattle.exo_reader.specs.Texts.{IsFault, IsRefusal, Says}
use Rattle.exo_reader.specs.Strings.{line_tokens_of, line_places_of}
use Rattle.exo_reader.specs.declared.unit.ReadKind.{ReadKind}
use Rattle.exo_reader.specs.declared.unit.ReadKind.TheVariants as k
use Rattle.exo_reader.specs.declared.unit.ReadError.{ReadError}
use Rattle.exo_reader.proofs.Units.{refusal_in}
use Rattle.schedule_text.specs.Patterns.Errors.{UnlessMemory}
use Rattle.schedule_text.specs.Patterns.Numbers.{form_in, number_of}
use Rattle.schedule_text.specs.Patterns.Texts.{MeansWhole, ReadsPattern, IsPatternFault, in_form}
use Rattle.schedule_text.specs.Patterns.Texts.{in_number}

pub unless_memory : (kind : ReadKind) (Claim : Type 0) → Claim → UnlessMemory kind Claim
unless_memory k.Memory Claim claim = tt
unless_memory k.BadByte Claim claim = claim
unless_memory k.BadIndent Claim claim = claim
unless_memory k.Syntax Claim claim = claim
unless_memory k.TooDeep Claim claim = claim
unless_memory k.TooLong Claim claim = claim
unless_memory k.LiteralTooLarge Claim claim = claim

-- what an error claims, it claims of what follows from that
pub memory_or : (kind : ReadKind) {Claim Other : Type 0} → (Claim → Other) → UnlessMemory kind Claim → UnlessMemory kind Other
memory_or k.Memory along claim = tt
memory_or k.BadByte along claim = along claim
memory_or k.BadIndent along claim = along claim
memory_or k.Syntax along claim = along claim
memory_or k.TooDeep along claim = along claim
memory_or k.TooLong along claim = along claim
memory_or k.LiteralTooLarge along claim = along claim

by_kind : {T : Type 0} (kind : Phrase Token T) (tokens : List Token) (places : List Place) (why : ReadKind) (e : ReadError) → IsRefusal kind tokens places why e → UnlessMemory why (IsFault kind tokens places e)
by_kind kind tokens places k.Memory e refusal = tt
by_kind kind tokens places k.BadByte e refusal = refusal
by_kind kind tokens places k.BadIndent e refusal = refusal
by_kind kind tokens places k.Syntax e refusal = refusal
by_kind kind tokens places k.TooDeep e refusal = refusal
by_kind kind tokens places k.TooLong e refusal = refusal
by_kind kind tokens places k.LiteralTooLarge e refusal = refusal

-- what an error says of a refusal of tokens and places in memory
pub fault_in : {T : Type 0} (kind : Phrase Token T) (tokens read sliced : List Token) (places listed : List Place) (refusal : Refusal) (e : ReadError) → read ≡ tokens → sliced ≡ tokens → listed ≡ places → Faults kind read refusal → Says sliced listed refusal e → UnlessMemory e.kind (IsFault kind tokens places e)
fault_in kind tokens read sliced places listed refusal e one two three faults says =
    by_kind kind tokens places e.kind e (refusal_in kind tokens read sliced places listed refusal e one two three faults says)

-- what a `?` returns
pub error_exit : {X : Type 0} (good : X → Type 0) (bad : ReadError → Type 0) (result : Result X ReadError) (e : ReadError) → IsErrAnd result (λ r. r ≡ e) → bad e → MatchResult result good bad
error_exit good bad (Ok x) e is claim = absurd is
error_exit good bad (Err r) e is claim = subst bad (sym is) claim

pub form_fault : {T : Type 0} (kind : Phrase Token T) (text form : List ℕ) (e : ReadError) → form ≡ form_in text → UnlessMemory e.kind (IsFault kind (line_tokens_of form) (line_places_of form) e) → UnlessMemory e.kind (IsPatternFault kind text e)
form_fault kind text form e is claim = memory_or e.kind (λ f. in_form (subst (λ l. IsFault kind (line_tokens_of l) (line_places_of l) e) is f)) claim

pub form_means : {T P : Type 0} (kind : Phrase Token T) (meaning : T → P) (text form : List ℕ) (value : P) → form ≡ form_in text → MeansWhole kind meaning (line_tokens_of form) value → MeansWhole kind meaning (line_tokens_of (form_in text)) value
form_means kind meaning text form value is m = subst (λ l. MeansWhole kind meaning (line_tokens_of l) value) is m

pub number_fault : {T P : Type 0} (kind : Phrase Token T) (meaning : T → P) (text form : List ℕ) (value : P) (e : ReadError) → form ≡ form_in text → MeansWhole kind meaning (line_tokens_of form) value → UnlessMemory e.kind (number_of text ≡ Err e) → UnlessMemory e.kind (IsPatternFault kind text e)
number_fault kind meaning text form value e is m claim =
    let whole : MeansWhole kind meaning (line_tokens_of (form_in text)) value = form_means kind meaning text form value is m in
    memory_or e.kind (λ n. in_number whole.written whole.text n) claim

-- what was read of a form, with a number
pub numbered : {T P V X : Type 0} (kind : Phrase Token T) (meaning : T → P) (text form : List ℕ) (plain : V → P) (v : V) (value : X → V) (nth : X → ℕ) (result : Result X ReadError) → form ≡ form_in text → MeansWhole kind meaning (line_tokens_of form) (plain v) → MatchResult result (λ x. (value x ≡ v) × (number_of text ≡ Ok (nth x))) (λ e. UnlessMemory e.kind (number_of text ≡ Err e)) → ReadsPattern kind meaning text (λ x. plain (value x)) nth result
numbered kind meaning text form plain v value nth (Ok x) is m h = record {
  form = form_means kind meaning text form (plain (value x)) is (subst (λ y. MeansWhole kind meaning (line_tokens_of form) (plain y)) (sym h.0) m);
  number = h.1;
}
numbered kind meaning text form plain v value nth (Err e) is m h = number_fault kind meaning text form (plain v) e is m h
