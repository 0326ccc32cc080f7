-- A text is one pattern, or there is one error.
use Rattle.std.proofs.Common.{◌≡◌, ℕ, List, Some, None, Ok, Err, Result, sym, ap, ◌∙◌}
use Rattle.text_phrases.specs.Limits.{unlimited}
use Rattle.text_phrases.specs.Phrase.{Phrase}
use Rattle.text_phrases.proofs.Eased.{Eases, maybe_eased, no_fault}
use Rattle.text_lexer.specs.declared.token.Token.{Token}
use Rattle.text_expressions.specs.Values.{name}
use Rattle.exo_reader.specs.Strings.{line_tokens_of, line_places_of}
use Rattle.exo_reader.specs.declared.unit.ReadError.{ReadError}
use Rattle.exo_reader.proofs.Errors.{one_error}
use Rattle.exo_reader.proofs.Eased.{name_eases}
use Rattle.schedule_text.specs.Patterns.Numbers.{form_in}
use Rattle.schedule_text.specs.Patterns.Grammar.{NameOrAny, name_or_any, inner, allocated, called}
use Rattle.schedule_text.specs.Patterns.Grammar.{field, changed, cell, behind_name, skip, branch}
use Rattle.schedule_text.specs.Patterns.Grammar.{loop, named, statement, meant, indexed, added}
use Rattle.schedule_text.specs.Patterns.Grammar.{subtracted, multiplied, after_name, expression}
use Rattle.schedule_text.specs.Patterns.Grammar.{form_meant}
use Rattle.schedule_text.specs.Patterns.Texts.{IsPattern, IsPatternFault, in_form, in_number}
use Rattle.schedule_text.specs.Patterns.Texts.{PatternsAreOne}

-- ---- what keeps limits keeps fewer of them

name_or_any_eases : Eases name_or_any
name_or_any_eases limits x fits = maybe_eased name name_eases limits x fits

behind_eases : Eases behind_name
behind_eases limits (inner j) fits = name_or_any_eases limits j fits
behind_eases limits (field f) fits = name_or_any_eases limits f fits
behind_eases limits allocated fits = tt
behind_eases limits called fits = tt
behind_eases limits (changed reduces) fits = tt
behind_eases limits (cell reduces) fits = tt

statement_eases : Eases statement
statement_eases limits skip fits = tt
statement_eases limits branch fits = tt
statement_eases limits (loop i) fits = name_or_any_eases limits i fits
statement_eases limits (named x b) fits = (name_or_any_eases limits x fits.0, maybe_eased behind_name behind_eases limits b fits.1)

after_eases : (x : NameOrAny) → Eases (after_name x)
after_eases x limits indexed fits = tt
after_eases None limits added fits = tt
after_eases None limits subtracted fits = tt
after_eases None limits multiplied fits = tt
after_eases (Some n) limits added fits = absurd fits
after_eases (Some n) limits subtracted fits = absurd fits
after_eases (Some n) limits multiplied fits = absurd fits

expression_eases : Eases expression
expression_eases limits (x, a) fits = (name_or_any_eases limits x fits.0, maybe_eased (after_name x) (after_eases x) limits a fits.1)

-- ---- texts

same_ok : {m n : ℕ} {r : Result ℕ ReadError} → r ≡ Ok m → r ≡ Ok n → m ≡ n
same_ok one two = let e : Ok _ ≡ Ok _ = sym one ∙ two in cc (e)

same_err : {a b : ReadError} {r : Result ℕ ReadError} → r ≡ Err a → r ≡ Err b → a ≡ b
same_err one two = let e : Err _ ≡ Err _ = sym one ∙ two in cc (e)

ok_or_err : {n : ℕ} {e : ReadError} {r : Result ℕ ReadError} → r ≡ Ok n → r ≡ Err e → ⊥
ok_or_err one two = let e : Ok _ ≡ Err _ = sym one ∙ two in cc (e)

one_value : {T P : Type 0} (grammar : Phrase Token T) (meaning : T → P) (text : List ℕ) (a b : P) (m n : ℕ) → IsPattern grammar meaning text a m → IsPattern grammar meaning text b n → (a ≡ b) × (m ≡ n)
one_value grammar meaning text a b m n f g =
    let alike : g.form.written ≡ f.form.written = f.form.text.only unlimited g.form.written (g.form.text.fits unlimited) g.form.text.spelled in
    (f.form.is ∙ sym (ap meaning alike) ∙ sym g.form.is, same_ok f.number g.number)

one_text_error : {T : Type 0} (grammar : Phrase Token T) → Eases grammar → (text : List ℕ) (a b : ReadError) → IsPatternFault grammar text a → IsPatternFault grammar text b → a ≡ b
one_text_error grammar eases text a b (in_form f) (in_form g) = one_error grammar eases (line_tokens_of (form_in text)) (line_places_of (form_in text)) a b f g
one_text_error grammar eases text a b (in_form f) (in_number t whole n) = absurd (no_fault grammar f.cause (line_tokens_of (form_in text)) t f.last whole f.fault)
one_text_error grammar eases text a b (in_number t whole n) (in_form f) = absurd (no_fault grammar f.cause (line_tokens_of (form_in text)) t f.last whole f.fault)
one_text_error grammar eases text a b (in_number t whole n) (in_number u other m) = same_err n m

no_text_error : {T P : Type 0} (grammar : Phrase Token T) (meaning : T → P) (text : List ℕ) (a : P) (n : ℕ) (e : ReadError) → IsPattern grammar meaning text a n → IsPatternFault grammar text e → ⊥
no_text_error grammar meaning text a n e is (in_form f) = no_fault grammar f.cause (line_tokens_of (form_in text)) is.form.written f.last is.form.text f.fault
no_text_error grammar meaning text a n e is (in_number t whole m) = ok_or_err is.number m

one : {T P : Type 0} (grammar : Phrase Token T) (meaning : T → P) → Eases grammar → PatternsAreOne grammar meaning
one grammar meaning eases = record { value = one_value grammar meaning; error = one_text_error grammar eases; no_error = no_text_error grammar meaning }

pub patterns_are_one : PatternsAreOne statement meant
patterns_are_one = one statement meant statement_eases

pub expr_patterns_are_one : PatternsAreOne expression form_meant
expr_patterns_are_one = one expression form_meant expression_eases
