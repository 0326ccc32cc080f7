use Rattle.std.proofs.Common.{◌≡◌, ℕ, ◌<◌, ◌≤◌, length, ap, subst, ◌∙◌}
use Rattle.std.specs.Prelude.{IfOk}
use Rattle.std.proofs.lemmas.Result.{IfOk-weaker}
use Rattle.text_lexer.specs.Lexeme.{name_lexeme, decorator_lexeme}
use Rattle.text_lexer.specs.declared.lexeme.Lexeme.{Lexeme}
use Rattle.text_lexer.proofs.OfByte.{of_word, of_digits, of_quote, of_at, of_sign, of_foreign}
use Rattle.text_lexer.proofs.OfByte.{word_within, word_progress, digits_within, digits_some, at_within, one_within}
use Rattle.text_lexer.proofs.OfByte.{one_progress}
use Rattle.text_lexer.proofs.lexeme.lexeme_of.Goals as goal

pub returns-then-begins_name-clause-value : goal.returns-then-begins_name-clause-value
returns-then-begins_name-clause-value c =
    let e = of_word c.in-Some.first.now c.in-Some.rest.now c.args.bytes.now c.in-Some.ensures.cases.0
    c.if-begins_name.ensures in
    subst (λ (x : Lexeme). IfOk c.name_lexeme.result (λ p. p ≡ x)) (ap name_lexeme c.name_at.ensures.value ∙ e)
    c.name_lexeme.ensures

pub returns-then-is_ascii_digit-clause-value : goal.returns-then-is_ascii_digit-clause-value
returns-then-is_ascii_digit-clause-value c =
    c.literal_lexeme.ensures.value ∙ c.literal_at.ensures.same
    ∙ of_digits c.in-Some.first.now c.in-Some.rest.now c.args.bytes.now c.in-Some.ensures.cases.0
    c.if-begins_name.ensures c.if-is_ascii_digit.ensures.value

pub returns-then-is_quote-clause-value : goal.returns-then-is_quote-clause-value
returns-then-is_quote-clause-value c =
    let e = of_quote c.in-Some.first.now c.in-Some.rest.now c.args.bytes.now c.in-Some.ensures.cases.0
    c.if-begins_name.ensures c.if-is_ascii_digit.ensures.value c.if-is_quote.ensures in
    subst (λ (x : Lexeme). IfOk c.string_lexeme.result (λ p. p ≡ x)) e c.string_lexeme.ensures.value

pub returns-then-first-eq64-clause-value : goal.returns-then-first-eq64-clause-value
returns-then-first-eq64-clause-value c =
    c.decorator_lexeme.ensures.value ∙ ap decorator_lexeme c.name_at-then-first-eq64.ensures.value
    ∙ of_at c.in-Some.first.now c.in-Some.rest.now c.args.bytes.now c.in-Some.ensures.cases.0
    c.if-begins_name.ensures c.if-is_ascii_digit.ensures.value c.if-is_quote.ensures c.if-first-eq64.true

pub returns-then-is_printable-clause-value : goal.returns-then-is_printable-clause-value
returns-then-is_printable-clause-value c =
    c.sign_lexeme.ensures.value
    ∙ of_sign c.in-Some.first.now c.in-Some.rest.now c.args.bytes.now c.in-Some.ensures.cases.0
    c.if-begins_name.ensures c.if-is_ascii_digit.ensures.value c.if-is_quote.ensures c.if-first-eq64.false
    c.if-is_printable.ensures

pub returns-else-is_printable-clause-value : goal.returns-else-is_printable-clause-value
returns-else-is_printable-clause-value c =
    of_foreign c.in-Some.first.now c.in-Some.rest.now c.args.bytes.now c.in-Some.ensures.cases.0
    c.if-begins_name.ensures c.if-is_ascii_digit.ensures.value c.if-is_quote.ensures c.if-first-eq64.false
    c.if-is_printable.ensures

pub returns-then-begins_name-clause-within : goal.returns-then-begins_name-clause-within
returns-then-begins_name-clause-within c =
    IfOk-weaker c.name_lexeme.result (λ (p : Lexeme). p ≡ name_lexeme c.name_at.result.now)
    (λ (p : Lexeme). p.width ≤ length c.args.bytes.now)
    (λ p is. word_within p c.name_at.result.now c.args.bytes.now is c.name_at.ensures.value) c.name_lexeme.ensures

pub returns-then-begins_name-clause-progress : goal.returns-then-begins_name-clause-progress
returns-then-begins_name-clause-progress c =
    IfOk-weaker c.name_lexeme.result (λ (p : Lexeme). p ≡ name_lexeme c.name_at.result.now)
    (λ (p : Lexeme). 0 < length c.args.bytes.now → 0 < p.width)
    (λ p is some. word_progress p c.in-Some.first.now c.in-Some.rest.now c.name_at.result.now c.args.bytes.now is
    c.name_at.ensures.value c.in-Some.ensures.cases.0 c.if-begins_name.ensures) c.name_lexeme.ensures

pub returns-then-is_ascii_digit-clause-within : goal.returns-then-is_ascii_digit-clause-within
returns-then-is_ascii_digit-clause-within c =
    digits_within _ _ _ c.literal_lexeme.ensures.within c.literal_at.ensures.within

pub returns-then-is_ascii_digit-clause-progress : goal.returns-then-is_ascii_digit-clause-progress
returns-then-is_ascii_digit-clause-progress c =
    λ some. c.literal_lexeme.ensures.progress (c.literal_at.ensures.some
    (digits_some c.in-Some.first.now c.in-Some.rest.now c.args.bytes.now c.in-Some.ensures.cases.0
    c.if-is_ascii_digit.ensures.value))

pub returns-then-is_quote-clause-within : goal.returns-then-is_quote-clause-within
returns-then-is_quote-clause-within c =
    subst (λ (n : ℕ). IfOk c.string_lexeme.result (λ (p : Lexeme). p.width ≤ n)) c.in-Some.ensures.cases.1
    c.string_lexeme.ensures.within

pub returns-then-is_quote-clause-progress : goal.returns-then-is_quote-clause-progress
returns-then-is_quote-clause-progress c =
    IfOk-weaker c.string_lexeme.result (λ (p : Lexeme). 0 < p.width)
    (λ (p : Lexeme). 0 < length c.args.bytes.now → 0 < p.width) (λ p more some. more) c.string_lexeme.ensures.progress

pub returns-then-first-eq64-clause-within : goal.returns-then-first-eq64-clause-within
returns-then-first-eq64-clause-within c =
    at_within c.decorator_lexeme.result.width c.name_at-then-first-eq64.result.now c.in-Some.rest.now c.args.bytes.now
    c.decorator_lexeme.ensures.within c.name_at-then-first-eq64.ensures.value c.in-Some.ensures.cases.1

pub returns-then-first-eq64-clause-progress : goal.returns-then-first-eq64-clause-progress
returns-then-first-eq64-clause-progress c =
    λ some. c.decorator_lexeme.ensures.progress

pub returns-then-is_printable-clause-within : goal.returns-then-is_printable-clause-within
returns-then-is_printable-clause-within c =
    subst (λ (n : ℕ). c.sign_lexeme.result.width ≤ n) c.in-Some.ensures.cases.1 c.sign_lexeme.ensures.within

pub returns-then-is_printable-clause-progress : goal.returns-then-is_printable-clause-progress
returns-then-is_printable-clause-progress c =
    λ some. c.sign_lexeme.ensures.progress

pub returns-else-is_printable-clause-within : goal.returns-else-is_printable-clause-within
returns-else-is_printable-clause-within c =
    one_within c.in-Some.rest.now c.args.bytes.now c.in-Some.ensures.cases.1

pub returns-else-is_printable-clause-progress : goal.returns-else-is_printable-clause-progress
returns-else-is_printable-clause-progress c =
    λ some. one_progress
