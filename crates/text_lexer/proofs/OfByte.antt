-- The lexeme that begins with a byte, by what the byte is.
use Rattle.std.proofs.Common.{◌≡◌, ℕ, ◌+◌, ◌<◌, ◌≤◌, Bool, true, false, List, ◌∷◌, length, arith, refl, sym, ap}
use Rattle.std.proofs.Common.{eq-eqb, ne_eqb}
use Rattle.std.proofs.lemmas.Grind.{common_steps}
use Rattle.std.proofs.lemmas.List.Sums.{take_while-cons}
use Rattle.std.specs.Prelude.{take_while}
use Rattle.std.specs.Char.{is_ascii_digit}
use Rattle.text_lexer.specs.Bytes.{begins_name, goes_on_name, is_quote, is_printable}
use Rattle.text_lexer.specs.Quoted.{quoted}
use Rattle.text_lexer.specs.Lexeme.{lexeme_of, name_lexeme, literal_lexeme, string_lexeme, decorator_lexeme}
use Rattle.text_lexer.specs.Lexeme.{sign_lexeme}
use Rattle.text_lexer.specs.declared.lexeme.Lexeme.{Lexeme}
use Rattle.text_lexer.specs.declared.token.Token.TheVariants.{Bad}
use Rattle.text_lexer.specs.declared.token.Fault.TheVariants.{Byte}
use Rattle.text_lexer.proofs.Choices.{this, skip}

pub of_word : (b : ℕ) (rest bytes : List ℕ) → bytes ≡ b ∷ rest → true ≡ begins_name b →
    name_lexeme (take_while goes_on_name bytes) ≡ lexeme_of bytes
of_word b rest bytes is word = rw is
    (this _ word)

pub of_digits : (b : ℕ) (rest bytes : List ℕ) → bytes ≡ b ∷ rest → false ≡ begins_name b → true ≡ is_ascii_digit b →
    literal_lexeme (take_while is_ascii_digit bytes) ≡ lexeme_of bytes
of_digits b rest bytes is word digit = rw is
    (skip _ word (this _ digit))

pub of_quote : (b : ℕ) (rest bytes : List ℕ) → bytes ≡ b ∷ rest → false ≡ begins_name b →
    false ≡ is_ascii_digit b → true ≡ is_quote b →
    string_lexeme (quoted b rest) ≡ lexeme_of bytes
of_quote b rest bytes is word digit quote = rw is
    (skip _ word (skip _ digit (this _ quote)))

pub of_at : (b : ℕ) (rest bytes : List ℕ) → bytes ≡ b ∷ rest → false ≡ begins_name b →
    false ≡ is_ascii_digit b → false ≡ is_quote b → b ≡ 0x40 →
    decorator_lexeme (take_while goes_on_name rest) ≡ lexeme_of bytes
of_at b rest bytes is word digit quote at = rw is
    (skip _ word (skip _ digit (skip _ quote (this _ (sym (eq-eqb b 0x40 at))))))

pub of_sign : (b : ℕ) (rest bytes : List ℕ) → bytes ≡ b ∷ rest → false ≡ begins_name b →
    false ≡ is_ascii_digit b → false ≡ is_quote b → (b ≡ 0x40 → ⊥) → true ≡ is_printable b →
    sign_lexeme b rest ≡ lexeme_of bytes
of_sign b rest bytes is word digit quote at printable = rw is
    (skip _ word (skip _ digit (skip _ quote (skip _ (sym (ne_eqb b 0x40 at)) (this _ printable)))))

pub of_foreign : (b : ℕ) (rest bytes : List ℕ) → bytes ≡ b ∷ rest → false ≡ begins_name b →
    false ≡ is_ascii_digit b → false ≡ is_quote b → (b ≡ 0x40 → ⊥) → false ≡ is_printable b →
    record { token = Bad Byte; width = 1 } ≡ lexeme_of bytes
of_foreign b rest bytes is word digit quote at printable = rw is
    (skip _ word (skip _ digit (skip _ quote (skip _ (sym (ne_eqb b 0x40 at)) (skip _
    printable refl)))))

-- widths

front_le : (f : ℕ → Bool) (bytes : List ℕ) → length (take_while f bytes) ≤ length bytes
front_le f bytes = grind (arith, common_steps)

front_some : (f : ℕ → Bool) (b : ℕ) (rest bytes : List ℕ) → bytes ≡ b ∷ rest → true ≡ f b →
    0 < length (take_while f bytes)
front_some f b rest bytes is here = rw (is, take_while-cons f b rest, ← here) (omega arith)

name_goes_on : (b : ℕ) → true ≡ begins_name b → true ≡ goes_on_name b
name_goes_on b word = this _ word

pub word_within : (p : Lexeme) (text bytes : List ℕ) → p ≡ name_lexeme text →
    text ≡ take_while goes_on_name bytes → p.width ≤ length bytes
word_within p text bytes is gives =
    let width : p.width ≡ length text = ap (λ (l : Lexeme). l.width) is in
    omega (arith, width, ap length gives, front_le goes_on_name bytes)

pub word_progress : (p : Lexeme) (b : ℕ) (rest text bytes : List ℕ) → p ≡ name_lexeme text →
    text ≡ take_while goes_on_name bytes → bytes ≡ b ∷ rest → true ≡ begins_name b → 0 < p.width
word_progress p b rest text bytes is gives front word =
    let width : p.width ≡ length text = ap (λ (l : Lexeme). l.width) is in
    omega (arith, width, ap length gives, front_some goes_on_name b rest bytes front (name_goes_on b word))

pub digits_within : (width len whole : ℕ) → width ≤ len → len ≤ whole → width ≤ whole
digits_within width len whole few within = omega arith

pub digits_some : (b : ℕ) (rest bytes : List ℕ) → bytes ≡ b ∷ rest → true ≡ is_ascii_digit b →
    0 < length (take_while is_ascii_digit bytes)
digits_some b rest bytes is digit = front_some is_ascii_digit b rest bytes is digit

pub at_within : (width : ℕ) (text rest bytes : List ℕ) → width ≤ length text + 1 →
    text ≡ take_while goes_on_name rest → length rest + 1 ≡ length bytes → width ≤ length bytes
at_within width text rest bytes within gives all = omega (arith, ap length gives, front_le goes_on_name rest)

pub one_within : (rest bytes : List ℕ) → length rest + 1 ≡ length bytes → 1 ≤ length bytes
one_within rest bytes all = omega arith

pub one_progress : 0 < 1
one_progress = omega arith
