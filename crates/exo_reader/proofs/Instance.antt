-- Closed texts.
use Rattle.std.proofs.Common.{◌≡◌, ℕ, suc, List, [], ◌∷◌, Some, None, refl, sym, ap, ◌∙◌, arith}
use Rattle.std.specs.Prelude.{codes}
use Rattle.text_phrases.specs.Limits.{syntax}
use Rattle.text_phrases.specs.Phrase.{first, Taken, Refused}
use Rattle.text_phrases.specs.Sequence.{exactly, then}
use Rattle.text_phrases.specs.Text.{IsText}
use Rattle.text_phrases.specs.declared.Refusal.TheVariants as r
use Rattle.text_phrases.proofs.Sequences.{step_taken, taken_exactly, taken_short, items_none, items_done}
use Rattle.text_phrases.proofs.Commas.{listed_first, listing_done}
use Rattle.text_phrases.proofs.Joints.{both, now, later, whole_err}
use Rattle.text_phrases.proofs.Texts.{text_ok, text_err, text_longer}
use Rattle.text_lexer.specs.Layout.{at}
use Rattle.text_lexer.specs.declared.place.Place.{Place}
use Rattle.text_lexer.specs.declared.token.Token.{Token}
use Rattle.text_lexer.specs.declared.token.Token.TheVariants.{Name, Sign, NewLine}
use Rattle.text_lexer.specs.declared.token.Sign.TheVariants.{OpenBracket, CloseBracket, Comma, Colon, Dot}
use Rattle.text_expressions.specs.Values.{IsShortName, name}
use Rattle.text_expressions.specs.Expression.{variable, operand, control, control_room, most_depth, sign, joins, HasPlace, FewDimensions, EndsList}
use Rattle.text_expressions.specs.declared.source.Infix.{Infix}
use Rattle.text_expressions.proofs.Signs.{joins-sign}
use Rattle.text_expressions.proofs.Chains.{begun_of_taken, taken_of_begun}
use Rattle.text_expressions.proofs.Atoms.{taken_variable}
use Rattle.exo_reader.specs.Source.{Coordinate, point, span}
use Rattle.exo_reader.specs.Statements.{coordinate, coordinates}
use Rattle.exo_reader.specs.Items.{item, unit}
use Rattle.exo_reader.specs.Texts.{IsFault}
use Rattle.exo_reader.specs.Strings.{spanned, window}
use Rattle.exo_reader.specs.Instance.{stops_at, TextInstance}
use Rattle.exo_reader.proofs.Parts.{name_words}
use Rattle.exo_reader.proofs.Lists.{many_err}
use Rattle.exo_reader.proofs.Coordinates.{point_taken, step_span, coords_apart}
use Rattle.exo_reader.proofs.Items.{AtEnd, items_apart, item_err}
use Rattle.exo_reader.proofs.Units.{none_left, refusal_in}
use Rattle.exo_reader.proofs.Strings.{spanned_taken, spanned_none, step_window, window1, window2}

abbrev i : List ℕ
i = codes "i"

abbrev j : List ℕ
j = codes "j"

abbrev x : List ℕ
x = codes "x"

-- ---- units

no_items : IsText unit [] []
no_items = text_ok unit [] [] [] refl (items_done item AtEnd [] [] [] (items_none item AtEnd []) (none_left [] refl)) refl

abbrev line : List Token
line = Name i ∷ NewLine ∷ []

abbrev line_places : List Place
line_places = at 1 1 ∷ at 1 2 ∷ at 1 2 ∷ []

no_unit : IsFault unit line line_places (stops_at 1)
no_unit =
    refusal_in unit line line line line_places line_places (r.Syntax 2) (stops_at 1) refl refl refl
    (text_err unit line (r.Syntax 2) refl (many_err item AtEnd line line [] (r.Syntax 2) items_apart (items_none item AtEnd line) (λ ends. cc (ends)) (item_err line (λ e. cc (e)) (λ e. cc (e)) (λ e. cc (e)) (λ e. cc (e)))))
    (record { why = λ header. absurd (cc (header)); placed = record { place = at 1 1; there = refl; line = refl; column = refl } })

-- ---- names as expressions

short : (n : ℕ) → IsShortName (n ∷ [])
short n = omega arith

place : HasPlace (control_room most_depth)
place = record { depth = omega arith; nodes = omega arith }

-- a token that joins nothing is no operator's
no_operator : (t : Token) (o : Infix) → joins t ≡ None → Some t ≡ Some (sign o) → ⊥
no_operator t o none same =
    let e : t ≡ sign o = cc (same) in
    let f : None ≡ Some o = sym none ∙ ap joins e ∙ joins-sign o in
    cc (f)

-- a name behind which neither a field nor an index nor an operator stands
alone : (n : List ℕ) (rest : List Token) → IsShortName n → (first rest ≡ Some (Sign Dot) → ⊥) → (first rest ≡ Some (Sign OpenBracket) → ⊥) → ((o : Infix) → first rest ≡ Some (sign o) → ⊥) → Taken control (Name n ∷ rest) (variable n) rest
alone n rest few dot bracket none = looser 0 (looser 1 (looser 2 (looser 3 (looser 4 (taken_variable (control_room most_depth) n rest place few dot bracket)))))
  where
    looser : (level : ℕ) → Taken (operand (suc level) (control_room most_depth)) (Name n ∷ rest) (variable n) rest → Taken (operand level (control_room most_depth)) (Name n ∷ rest) (variable n) rest
    looser level taken = taken_of_begun level (control_room most_depth) (Name n ∷ rest) (variable n) rest (begun_of_taken level (control_room most_depth) (Name n ∷ rest) (variable n) rest taken) (λ o same at. none o same)

-- before a token that goes on with no expression
before : (n : ℕ) (t : Token) (more : List Token) → joins t ≡ None → (Some t ≡ Some (Sign Dot) → ⊥) → (Some t ≡ Some (Sign OpenBracket) → ⊥) → Taken control (Name (n ∷ []) ∷ t ∷ more) (variable (n ∷ [])) (t ∷ more)
before n t more none dot bracket = alone (n ∷ []) (t ∷ more) (short n) dot bracket (λ o same. no_operator t o none same)

one_name : IsText control (Name i ∷ []) (variable i)
one_name = text_ok control (Name i ∷ []) [] (variable i) tt (alone i [] (short 0x69) (λ e. cc (e)) (λ e. cc (e)) (λ o e. cc (e))) refl

abbrev names : List Token
names = Name i ∷ Name j ∷ []

abbrev names_places : List Place
names_places = at 1 1 ∷ at 1 3 ∷ at 1 4 ∷ []

two_names : IsFault control names names_places (stops_at 3)
two_names =
    refusal_in control names names names names_places names_places (r.Syntax 1) (stops_at 3) refl refl refl
    (text_longer control names (Name j ∷ []) (variable i) (Name j) [] tt (before 0x69 (Name j) [] refl (λ e. cc (e)) (λ e. cc (e))) refl)
    (record { why = λ header. absurd (cc (header)); placed = record { place = at 1 3; there = refl; line = refl; column = refl } })

-- ---- windows

name_same : (a b : List ℕ) → Name a ≡ Name b → a ≡ b
name_same a b same = cc (same)

opened : (inside : List Token) → Taken (then name (exactly (Sign OpenBracket ∷ []))) (Name x ∷ Sign OpenBracket ∷ inside) (x, tt) inside
opened inside =
    both (name_words (Sign OpenBracket ∷ [])) (taken_short Name IsShortName (Sign OpenBracket ∷ inside) x name_same (short 0x78))
    (taken_exactly (Sign OpenBracket ∷ []) (Sign OpenBracket ∷ inside) inside refl)

abbrev close : List Token
close = Sign CloseBracket ∷ []

one_coordinate : (tokens : List Token) (c : Coordinate) → Taken coordinate tokens c close → Taken coordinates tokens (c ∷ []) close
one_coordinate tokens c taken =
    listing_done coordinate (Sign Comma) FewDimensions EndsList tokens close (c ∷ []) coords_apart
    (listed_first coordinate (Sign Comma) EndsList tokens close c taken) (omega arith) (λ e. cc (e))

ends_name : (n : ℕ) → Taken control (Name (n ∷ []) ∷ close) (variable (n ∷ [])) close
ends_name n = before n (Sign CloseBracket) [] refl (λ e. cc (e)) (λ e. cc (e))

abbrev upper : List Token
upper = Name j ∷ close

abbrev both_ends : List Token
both_ends = Name i ∷ Sign Colon ∷ upper

one_span : Taken coordinate both_ends (span (variable i) (variable j)) close
one_span =
    step_taken coordinate control (span (variable i)) both_ends upper close (variable j)
    (step_span both_ends (Sign Colon ∷ upper) upper (variable i) (before 0x69 (Sign Colon) upper refl (λ e. cc (e)) (λ e. cc (e))) refl) (ends_name 0x6A)

closed : Taken (exactly close) close tt []
closed = taken_exactly close close [] refl

abbrev span_tokens : List Token
span_tokens = Name x ∷ Sign OpenBracket ∷ both_ends

spanned_window : IsText window span_tokens (x, span (variable i) (variable j) ∷ [])
spanned_window =
    text_ok window span_tokens [] (x, span (variable i) (variable j) ∷ []) tt
    (step_taken window _ (λ p. (p.0.0, p.1.0)) span_tokens span_tokens [] ((x, tt), (span (variable i) (variable j) ∷ [], tt)) (step_window span_tokens)
    (both window1 (opened both_ends) (both window2 (spanned_taken both_ends close (span (variable i) (variable j) ∷ []) (one_coordinate both_ends _ one_span) refl) closed)))
    refl

abbrev index : List Token
index = Name i ∷ close

abbrev point_tokens : List Token
point_tokens = Name x ∷ Sign OpenBracket ∷ index

abbrev point_places : List Place
point_places = at 1 1 ∷ at 1 2 ∷ at 1 3 ∷ at 1 4 ∷ at 1 5 ∷ []

no_spanned : Refused spanned syntax index 1
no_spanned = spanned_none index close (point (variable i) ∷ []) (one_coordinate index _ (point_taken index close (variable i) (ends_name 0x69) (λ e. cc (e)))) refl

no_window : IsFault window point_tokens point_places (stops_at 4)
no_window =
    refusal_in window point_tokens point_tokens point_tokens point_places point_places (r.Syntax 1) (stops_at 4) refl refl refl
    (text_err window point_tokens (r.Syntax 1) tt
    (whole_err window _ (λ p. (p.0.0, p.1.0)) point_tokens point_tokens (r.Syntax 1) (step_window point_tokens) (later window1 (opened index) (r.Syntax 1) (now window2 index (r.Syntax 1) no_spanned))))
    (record { why = λ header. absurd (let e : Sign OpenBracket ≡ Sign Colon = cc (header) in cc (e)); placed = record { place = at 1 4; there = refl; line = refl; column = refl } })

pub instance : TextInstance
instance = record {
  no_items = no_items;
  no_unit = no_unit;
  name = one_name;
  two_names = two_names;
  span = spanned_window;
  point = no_window;
}
