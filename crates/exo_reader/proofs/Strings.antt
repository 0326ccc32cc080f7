-- Windows alone: coordinates of which one at least is a span.
use Rattle.std.proofs.Common.{◌≡◌, ℕ, ◌≤◌, List, [], ◌∷◌, ◌++◌, Some, true, false, length, refl, sym, ap, ◌∙◌, arith, append_assoc, subst}
use Rattle.std.proofs.lemmas.List.{append-nil}
use Rattle.text_phrases.specs.Limits.{Limits, unlimited, Cause, syntax}
use Rattle.text_phrases.specs.Phrase.{first, Phrase, Taken, Refused, Begins, GoesOn}
use Rattle.text_phrases.specs.Sequence.{AllFit, exactly, then}
use Rattle.text_phrases.specs.Commas.{spell_more}
use Rattle.text_phrases.specs.Answers.{Refuses}
use Rattle.text_phrases.specs.declared.Refusal.{Refusal}
use Rattle.text_phrases.proofs.Phrases.{keeps_all, keeps_map, goes_along}
use Rattle.text_phrases.proofs.Sequences.{Step}
use Rattle.text_phrases.proofs.Joints.{Joint}
use Rattle.text_phrases.proofs.Exits.{refuses_along}
use Rattle.text_expressions.specs.Values.{name}
use Rattle.text_lexer.specs.declared.token.Literal.TheVariants.{Value}
use Rattle.text_lexer.specs.declared.token.Token.{Token}
use Rattle.text_lexer.specs.declared.token.Token.TheVariants.{Int, Sign}
use Rattle.text_lexer.specs.declared.token.Sign.TheVariants.{OpenBracket, CloseBracket, Comma, Colon}
use Rattle.exo_reader.specs.Source.{Coordinate, point, span}
use Rattle.exo_reader.specs.Statements.{coordinate, coordinates, HasSpan}
use Rattle.exo_reader.specs.Windows.{has_span}
use Rattle.exo_reader.specs.Strings.{spanned, window}
use Rattle.exo_reader.proofs.Parts.{zero, control_zero}
use Rattle.exo_reader.proofs.Windows.{some_span, no_span}

-- the last coordinate as a span: a text goes on so

abbrev filled : Coordinate → Coordinate
filled (point e) = span e zero
filled (span a b) = span a b

abbrev end_of : Coordinate → List Token
end_of (point e) = Sign Colon ∷ Int (Value 0) ∷ []
end_of (span a b) = []

filled_spelled : (c : Coordinate) → coordinate.spell (filled c) ≡ coordinate.spell c ++ end_of c
filled_spelled (point e) = refl
filled_spelled (span a b) = sym (append-nil (coordinate.spell (span a b)))

abbrev last_filled : List Coordinate → List Coordinate
last_filled [] = []
last_filled (c ∷ []) = filled c ∷ []
last_filled (c ∷ d ∷ more) = c ∷ last_filled (d ∷ more)

abbrev added : List Coordinate → List Token
added [] = []
added (c ∷ []) = end_of c
added (c ∷ d ∷ more) = added (d ∷ more)

alone : (c : Coordinate) → coordinate.spell (filled c) ++ [] ≡ (coordinate.spell c ++ []) ++ end_of c
alone c = append-nil (coordinate.spell (filled c)) ∙ filled_spelled c ∙ ap (λ (w : List Token). w ++ end_of c) (sym (append-nil (coordinate.spell c)))

more_spelled : (list : List Coordinate) → spell_more coordinate (Sign Comma) (last_filled list) false ≡ spell_more coordinate (Sign Comma) list false ++ added list
more_spelled [] = refl
more_spelled (c ∷ []) = ap (λ (w : List Token). Sign Comma ∷ w) (alone c)
more_spelled (c ∷ d ∷ more) =
    ap (λ (w : List Token). Sign Comma ∷ (coordinate.spell c ++ w)) (more_spelled (d ∷ more))
    ∙ ap (λ (w : List Token). Sign Comma ∷ w) (sym (append_assoc (coordinate.spell c) (spell_more coordinate (Sign Comma) (d ∷ more) false) (added (d ∷ more))))

list_spelled : (list : List Coordinate) → coordinates.spell (last_filled list) ≡ coordinates.spell list ++ added list
list_spelled [] = refl
list_spelled (c ∷ []) = alone c
list_spelled (c ∷ d ∷ more) =
    ap (λ (w : List Token). coordinate.spell c ++ w) (more_spelled (d ∷ more))
    ∙ sym (append_assoc (coordinate.spell c) (spell_more coordinate (Sign Comma) (d ∷ more) false) (added (d ∷ more)))

filled_fits : (limits : Limits) (c : Coordinate) → coordinate.Fits limits c → coordinate.Fits limits (filled c)
filled_fits limits (point e) fits = (fits, control_zero limits)
filled_fits limits (span a b) fits = fits

all_filled : (limits : Limits) (list : List Coordinate) → AllFit coordinate limits list → AllFit coordinate limits (last_filled list)
all_filled limits [] fits = tt
all_filled limits (c ∷ []) fits = (filled_fits limits c fits.0, tt)
all_filled limits (c ∷ d ∷ more) fits = (fits.0, all_filled limits (d ∷ more) fits.1)

filled_length : (list : List Coordinate) → length (last_filled list) ≡ length list
filled_length [] = refl
filled_length (c ∷ []) = refl
filled_length (c ∷ d ∷ more) = omega (arith, filled_length (d ∷ more))

list_fits : (limits : Limits) (list : List Coordinate) → coordinates.Fits limits list → coordinates.Fits limits (last_filled list)
list_fits limits [] fits = absurd fits
list_fits limits (c ∷ []) fits = (filled_fits limits c fits.0, tt, fits.2)
list_fits limits (c ∷ d ∷ more) fits = (
  fits.0,
  all_filled limits (d ∷ more) fits.1,
  keeps_map limits (λ e. e) (λ few. let e : length (last_filled (c ∷ d ∷ more)) ≤ 8 = omega (arith, few, filled_length (c ∷ d ∷ more)) in e) (λ e. e) fits.2,
)

filled_span : (c : Coordinate) → HasSpan (filled c ∷ [])
filled_span (point e) = tt
filled_span (span a b) = tt

last_span : (c : Coordinate) (more : List Coordinate) → HasSpan (last_filled (c ∷ more))
last_span c [] = filled_span c
last_span (point e) (d ∷ more) = last_span d more
last_span (span a b) (d ∷ more) = tt

begins_by : (before more : List Token) (list : List Coordinate) → ((limits : Limits) → coordinates.Fits limits list) → before ++ more ≡ coordinates.spell list → Begins spanned before
begins_by before more [] fits is = absurd (fits unlimited)
begins_by before more (c ∷ list) fits is = record {
  tree = last_filled (c ∷ list);
  more = more ++ added (c ∷ list);
  fits = λ limits. (list_fits limits (c ∷ list) (fits limits), last_span c list);
  spelled = sym (append_assoc before more (added (c ∷ list))) ∙ ap (λ (w : List Token). w ++ added (c ∷ list)) is ∙ sym (list_spelled (c ∷ list));
}

goes_by : (limits : Limits) (before rest more : List Token) (token : Token) (list : List Coordinate) → first rest ≡ Some token → coordinates.Fits limits list → before ++ (token ∷ more) ≡ coordinates.spell list → GoesOn spanned limits before rest
goes_by limits before rest more token [] next fits is = absurd fits
goes_by limits before rest more token (c ∷ list) next fits is = record {
  tree = last_filled (c ∷ list);
  token = token;
  more = more ++ added (c ∷ list);
  next = next;
  fits = (list_fits limits (c ∷ list) fits, last_span c list);
  spelled = sym (append_assoc before (token ∷ more) (added (c ∷ list))) ∙ ap (λ (w : List Token). w ++ added (c ∷ list)) is ∙ sym (list_spelled (c ∷ list));
}

spanned_refused : {cause : Cause} (tokens : List Token) (last : ℕ) → Refused coordinates cause tokens last → Refused spanned cause tokens last
spanned_refused {cause = cause} tokens last refused = record {
  before = refused.before;
  rest = refused.rest;
  whole = refused.whole;
  count = refused.count;
  begins = begins_by refused.before refused.begins.more refused.begins.tree refused.begins.fits refused.begins.spelled;
  goes = goes_along coordinates spanned cause refused.before refused.rest refused.before refused.rest (λ limits g. goes_by limits refused.before refused.rest g.more g.token g.tree g.next g.fits g.spelled) refused.goes;
  stuck = λ other x y same fits follows equal. refused.stuck other x y same fits.0 follows equal;
}

pub spanned_err : (tokens : List Token) (e : Refusal) → Refuses coordinates tokens e → Refuses spanned tokens e
spanned_err tokens e refuses = refuses_along coordinates tokens spanned tokens e (λ cause last refused. spanned_refused {cause = cause} tokens last refused) refuses

pub spanned_taken : (tokens rest : List Token) (list : List Coordinate) → Taken coordinates tokens list rest → has_span list ≡ true → Taken spanned tokens list rest
spanned_taken tokens rest list taken some = record {
  fits = λ limits. (taken.fits limits, some_span list some);
  whole = taken.whole;
  only = λ limits other x y same fits follows equal. taken.only limits other x y same fits.0 follows equal;
}

pub spanned_none : (tokens rest : List Token) (list : List Coordinate) → Taken coordinates tokens list rest → has_span list ≡ false → Refused spanned syntax tokens (length rest)
spanned_none tokens rest list taken none = record {
  before = coordinates.spell list;
  rest = rest;
  whole = taken.whole;
  count = refl;
  begins = begins_by (coordinates.spell list) [] list taken.fits (append-nil (coordinates.spell list));
  goes = tt;
  stuck = λ other x y same fits follows equal. no_span list none (subst HasSpan (taken.only unlimited other x y same fits.0 follows equal) fits.1);
}

-- a window of its parts

abbrev pub Window2 : Phrase Token (List Coordinate × (Unit {0}))
Window2 = then spanned (exactly (Sign CloseBracket ∷ []))

abbrev pub Window1 : Phrase Token ((List ℕ × (Unit {0})) × (List Coordinate × (Unit {0})))
Window1 = then (then name (exactly (Sign OpenBracket ∷ []))) Window2

pub step_window : (tokens : List Token) → Step window Window1 (λ p. (p.0.0, p.1.0)) tokens tokens
step_window tokens = record {
  front = [];
  split = refl;
  fits = λ limits p fits. (fits.0.0, fits.1.0);
  spelled = λ p. refl;
  back = λ limits other x y same fits follows equal. record { tree = ((other.0, tt), (other.1, tt)); fits = ((fits.0, tt), (fits.1, tt)); is = refl; equal = equal; follows = tt };
}

some_spanned : (limits : Limits) → spanned.Fits limits (span zero zero ∷ [])
some_spanned limits = (list_fits limits (point zero ∷ []) (control_zero limits, tt, keeps_all limits tt (omega arith) tt), tt)

pub window1 : Joint (then name (exactly (Sign OpenBracket ∷ []))) Window2
window1 = record { may = record { may = λ limits q y fits follows. tt }; some = (span zero zero ∷ [], tt); fits = λ limits. (some_spanned limits, tt) }

pub window2 : Joint spanned (exactly (Sign CloseBracket ∷ []))
window2 = record { may = record { may = λ limits q y fits follows. refl }; some = tt; fits = λ limits. tt }
