-- A text has one error at most.
use Rattle.std.proofs.Common.{◌≡◌, List, Option, Some, None, refl, sym, ap, ap₂, ◌∙◌, subst}
use Rattle.text_phrases.specs.Limits.{unlimited, Cause, syntax, too_deep, too_long, too_large}
use Rattle.text_phrases.specs.Phrase.{Phrase}
use Rattle.text_phrases.proofs.Eased.{Eases, one_fault, no_fault}
use Rattle.text_lexer.specs.declared.place.Place.{Place}
use Rattle.text_lexer.specs.declared.token.Token.{Token}
use Rattle.exo_reader.specs.Texts.{first_kind, IsKindBy, IsKind, column_at, place_left, IsFault, TextsAreOne}
use Rattle.exo_reader.specs.declared.unit.ReadKind.{ReadKind}
use Rattle.exo_reader.specs.declared.unit.ReadKind.TheVariants as kind
use Rattle.exo_reader.specs.declared.unit.ReadError.{ReadError}

-- what stands there says one kind
kinds_by : (o : Option ReadKind) (before rest : List Token) (a b : ReadKind) → IsKindBy o before rest a → IsKindBy o before rest b → a ≡ b
kinds_by (Some wanted) before rest a b h k = h ∙ sym k
kinds_by None before rest kind.BadIndent kind.BadIndent h k = refl
kinds_by None before rest kind.BadIndent kind.Syntax h k = absurd (h.1 (k h.0))
kinds_by None before rest kind.Syntax kind.BadIndent h k = absurd (k.1 (h k.0))
kinds_by None before rest kind.Syntax kind.Syntax h k = refl
kinds_by None before rest kind.Memory b h k = absurd h
kinds_by None before rest kind.BadByte b h k = absurd h
kinds_by None before rest kind.TooDeep b h k = absurd h
kinds_by None before rest kind.TooLong b h k = absurd h
kinds_by None before rest kind.LiteralTooLarge b h k = absurd h
kinds_by None before rest a kind.Memory h k = absurd k
kinds_by None before rest a kind.BadByte h k = absurd k
kinds_by None before rest a kind.TooDeep h k = absurd k
kinds_by None before rest a kind.TooLong h k = absurd k
kinds_by None before rest a kind.LiteralTooLarge h k = absurd k

pub kinds : (c : Cause) (before rest : List Token) (a b : ReadKind) → IsKind c before rest a → IsKind c before rest b → a ≡ b
kinds syntax before rest a b h k = kinds_by (first_kind rest) before rest a b h k
kinds too_deep before rest a b h k = h ∙ sym k
kinds too_long before rest a b h k = h ∙ sym k
kinds too_large before rest a b h k = h ∙ sym k

pub same_error : (a b : ReadError) → a.line ≡ b.line → a.column ≡ b.column → a.kind ≡ b.kind → a ≡ b
same_error a b l c k = ap₂ (λ x y. record { line = x; column = y; kind = a.kind }) l c ∙ ap (λ x. record { line = b.line; column = b.column; kind = x }) k

same_place : {p q : Place} → Some p ≡ Some q → p ≡ q
same_place e = cc

pub one_error : {T : Type 0} (grammar : Phrase Token T) → Eases grammar → (tokens : List Token) (places : List Place) (a b : ReadError) → IsFault grammar tokens places a → IsFault grammar tokens places b → a ≡ b
one_error grammar eases tokens places a b f g =
    let one = one_fault grammar eases f.cause g.cause tokens f.last g.last f.fault g.fault in
    let same : a.kind ≡ b.kind =
    kinds g.cause g.fault.before g.fault.rest a.kind b.kind
    (subst (λ r. IsKind g.cause g.fault.before r a.kind) one.3 (subst (λ w. IsKind g.cause w f.fault.rest a.kind) one.2 (subst (λ c. IsKind c f.fault.before f.fault.rest a.kind) one.0 f.why)))
    g.why in
    let place : f.placed.place ≡ g.placed.place = same_place (sym f.placed.there ∙ ap (place_left places) one.1 ∙ g.placed.there) in
    same_error a b
    (f.placed.line ∙ ap (λ (p : Place). p.line) place ∙ sym g.placed.line)
    (f.placed.column ∙ ap₂ column_at place same ∙ sym g.placed.column)
    same

-- a grammar of which what keeps limits keeps fewer
pub texts_one : {T : Type 0} (grammar : Phrase Token T) → Eases grammar → TextsAreOne grammar
texts_one grammar eases = record {
  tree = λ tokens a b one two. two.only unlimited a (one.fits unlimited) one.spelled;
  error = one_error grammar eases;
  no_error = λ tokens places tree e text f. no_fault grammar f.cause tokens tree f.last text f.fault;
}
