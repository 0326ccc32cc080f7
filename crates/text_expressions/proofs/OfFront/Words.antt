-- Single tokens, and a few in a row.
use Rattle.std.proofs.Common.{◌≡◌, ℕ, ◌+◌, ◌<◌, List, [], ◌∷◌, ◌++◌, Some, length, sym, ap, ◌∙◌, subst, arith, map, take, drop, get_or}
use Rattle.std.proofs.lemmas.List.{take-append-drop, drop_more, map-append}
use Rattle.text_phrases.specs.Limits.{syntax, too_long, too_large}
use Rattle.text_phrases.specs.Phrase.{first, Refused}
use Rattle.text_phrases.specs.Sequence.{exactly}
use Rattle.text_phrases.specs.Answers.{Refuses}
use Rattle.text_phrases.specs.declared.Refusal.{Refusal}
use Rattle.text_phrases.specs.declared.Refusal.TheVariants.{Syntax}
use Rattle.text_phrases.proofs.Sequences.{refused_exactly, refused_short, refused_other, refused_large, refused_else}
use Rattle.text_expressions.specs.Front.Fixed.{token_of}
use Rattle.text_expressions.specs.Front.Values.{IsShortName, IsValue, name, literal}
use Rattle.text_expressions.specs.declared.front.Fixed.{Fixed}
use Rattle.text_lexer.specs.declared.token.Token.{Token}
use Rattle.text_lexer.specs.declared.token.Token.TheVariants.{Name, Int}
use Rattle.text_lexer.specs.declared.token.Literal.{Literal}
use Rattle.text_lexer.specs.declared.token.Literal.TheVariants.{Value, TooLarge}

pub words_err : (words : List Fixed) (tokens rest : List Token) (i : ℕ) (d : Fixed) (e : Refusal) → tokens ≡ map token_of (take i words) ++ rest → i < length words → (e ≡ Syntax (length rest)) × (first rest ≡ Some (token_of (get_or words i d)) → ⊥) → Refuses (exactly (map token_of words)) tokens e
words_err words tokens rest i d e whole less missing =
    let word : Fixed = get_or words i d in
    let front : List Token = map token_of (take i words) in
    let behind : List Token = map token_of (drop (i + 1) words) in
    let cut_words : map token_of words ≡ front ++ (token_of word ∷ behind) =
    ap (map token_of) (sym (take-append-drop i words) ∙ ap (λ w. take i words ++ w) (drop_more words i d less)) ∙ map-append token_of (take i words) (word ∷ drop (i + 1) words) in
    subst (λ (ws : List Token). Refuses (exactly ws) tokens e) (sym cut_words)
    (subst (Refuses (exactly (front ++ (token_of word ∷ behind))) tokens) (sym missing.0)
    (refused_exactly front behind tokens rest (token_of word) whole missing.1))

no_bytes : IsShortName []
no_bytes = omega arith

name_same : (a b : List ℕ) → Name a ≡ Name b → a ≡ b
name_same a b same = cc (same)

int_same : (a b : Literal) → Int a ≡ Int b → a ≡ b
int_same a b same = cc (same)

pub name_long : (tokens rest : List Token) (t : Token) (n : List ℕ) → tokens ≡ t ∷ rest → t ≡ Name n → (IsShortName n → ⊥) → Refused name too_long tokens (length tokens)
name_long tokens rest t n front is long = rw (front, is) (refused_short Name IsShortName rest n [] name_same no_bytes long)

pub name_other : (tokens rest : List Token) (t : Token) → tokens ≡ t ∷ rest → ((n : List ℕ) → t ≡ Name n → ⊥) → Refused name syntax tokens (length tokens)
name_other tokens rest t front none = refused_other Name IsShortName tokens [] no_bytes (λ n here. none n (let e : Some t ≡ Some (Name n) = sym (ap first front) ∙ here in cc (e)))

pub name_end : (tokens : List Token) → tokens ≡ [] → Refused name syntax tokens 0
name_end tokens none = rw none (refused_other Name IsShortName [] [] no_bytes (λ n here. cc (here)))

pub literal_large : (tokens rest : List Token) (t : Token) (n : Literal) → tokens ≡ t ∷ rest → t ≡ Int n → n ≡ TooLarge → Refused literal too_large tokens (length tokens)
literal_large tokens rest t n front is large = rw (front, is, large) (refused_large Int IsValue rest TooLarge (Value 0) int_same tt (λ small. small))

pub literal_other : (tokens rest : List Token) (t : Token) → tokens ≡ t ∷ rest → ((n : Literal) → t ≡ Int n → ⊥) → Refused literal syntax tokens (length tokens)
literal_other tokens rest t front none = refused_else Int IsValue tokens (Value 0) tt (λ n here. none n (let e : Some t ≡ Some (Int n) = sym (ap first front) ∙ here in cc (e)))

pub literal_end : (tokens : List Token) → tokens ≡ [] → Refused literal syntax tokens 0
literal_end tokens none = rw none (refused_else Int IsValue [] (Value 0) tt (λ n here. cc (here)))
