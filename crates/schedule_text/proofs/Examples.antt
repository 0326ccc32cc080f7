-- A text that is a schedule, and one that is none.
use Rattle.std.proofs.Common.{◌≡◌, ℕ, List, [], ◌∷◌, ◌++◌, Some, codes, refl, ap, ◌∙◌, arith}
use Rattle.text_phrases.specs.Limits.{syntax}
use Rattle.text_phrases.specs.Phrase.{first, Taken}
use Rattle.text_phrases.specs.Sequence.{spell_all}
use Rattle.text_phrases.specs.Text.{IsText, FaultAt}
use Rattle.text_phrases.proofs.Phrases.{keeps_all}
use Rattle.text_phrases.proofs.Sequences.{step_taken, taken_exactly, taken_short, items_none, items_next, several_done}
use Rattle.text_phrases.proofs.Joints.{both}
use Rattle.text_phrases.proofs.Texts.{text_ok}
use Rattle.text_lexer.specs.Layout.{at}
use Rattle.text_lexer.specs.declared.place.Place.{Place}
use Rattle.text_lexer.specs.declared.token.Token.{Token}
use Rattle.text_lexer.specs.declared.token.Token.TheVariants.{Name, Sign, NewLine}
use Rattle.text_lexer.specs.declared.token.Sign.TheVariants.{Open, Close, Colon, Assign}
use Rattle.text_expressions.specs.Values.{IsShortName}
use Rattle.exo_reader.specs.Texts.{tokens_of, places_of, IsFault}
use Rattle.exo_reader.specs.declared.unit.ReadKind.TheVariants.{Syntax}
use Rattle.exo_reader.specs.declared.unit.ReadError.{ReadError}
use Rattle.exo_reader.proofs.Parts.{name_fits, name_words}
use Rattle.schedule_text.specs.Tree.{search, Line, bind, emit}
use Rattle.schedule_text.specs.Words.{emit_word}
use Rattle.schedule_text.specs.Grammar.{act, line, FewLines, schedule}
use Rattle.schedule_text.proofs.Arguments.{some_found, found_fits}
use Rattle.schedule_text.proofs.Lines.{emit1, emit_of, Emit1, step_emit, some_line}
use Rattle.schedule_text.proofs.Schedules.{AtEnd, lines_apart, none_left}

abbrev p : List ℕ
p = codes "p"

-- `emit(p)`

abbrev emits : List Token
emits = Name emit_word ∷ Sign Open ∷ Name p ∷ Sign Close ∷ NewLine ∷ []

same_name : (a b : List ℕ) → Name a ≡ Name b → a ≡ b
same_name a b same = cc (same)

emit_taken : Taken line emits (emit p) []
emit_taken =
    step_taken line Emit1 emit_of emits (Sign Open ∷ Name p ∷ Sign Close ∷ NewLine ∷ []) [] (tt, (p, tt))
    (step_emit (Sign Open ∷ Name p ∷ Sign Close ∷ NewLine ∷ []) (λ e. let f : Sign Open ≡ Sign Assign = cc (e) in cc (f)))
    (both emit1 (taken_exactly (Sign Open ∷ []) (Sign Open ∷ Name p ∷ Sign Close ∷ NewLine ∷ []) (Name p ∷ Sign Close ∷ NewLine ∷ []) refl)
    (both (name_words (Sign Close ∷ NewLine ∷ [])) (taken_short Name IsShortName (Sign Close ∷ NewLine ∷ []) p same_name (omega arith))
    (taken_exactly (Sign Close ∷ NewLine ∷ []) (Sign Close ∷ NewLine ∷ []) [] refl)))

pub emit_is_read : IsText schedule emits (emit p ∷ [])
emit_is_read =
    text_ok schedule emits [] (emit p ∷ []) refl
    (several_done line FewLines AtEnd emits [] (emit p ∷ [])
    (items_next line AtEnd emits emits [] [] (emit p) lines_apart (items_none line AtEnd emits) emit_taken)
    (omega arith) (none_left [] refl))
    refl

-- `p p`

abbrev stops : List Token
stops = Name p ∷ Name p ∷ NewLine ∷ []

abbrev places : List Place
places = at 1 1 ∷ at 1 3 ∷ at 1 4 ∷ at 1 4 ∷ []

stops_lexed : tokens_of (codes "p p") ≡ stops
stops_lexed = refl

stops_placed : places_of (codes "p p") ≡ places
stops_placed = refl

no_lines : (other : List Line) (more : List Token) → Some (Name p) ≡ first more → Name p ∷ more ≡ spell_all line other → ⊥
no_lines [] more same equal = cc (equal)
no_lines (bind x a ∷ ls) more same equal =
    let e : more ≡ (Sign Assign ∷ (act.spell a ++ (NewLine ∷ []))) ++ spell_all line ls = cc in
    let f : Some (Name p) ≡ Some (Sign Assign) = same ∙ ap first e in
    cc (f)
no_lines (emit x ∷ ls) more same equal =
    let e : more ≡ (Sign Open ∷ Name x ∷ Sign Close ∷ NewLine ∷ []) ++ spell_all line ls = cc in
    let f : Some (Name p) ≡ Some (Sign Open) = same ∙ ap first e in
    cc (f)

abbrev second_token : FaultAt schedule syntax stops 2
second_token = record {
  before = Name p ∷ [];
  rest = Name p ∷ NewLine ∷ [];
  whole = refl;
  count = refl;
  begins = record {
    tree = some_line p ∷ [];
    more = Sign Assign ∷ (act.spell (search some_found) ++ (NewLine ∷ []));
    fits = λ limits. (((name_fits limits p (omega arith), found_fits limits), tt), keeps_all limits tt (omega arith) tt);
    spelled = refl;
  };
  goes = tt;
  none = λ other more fits same equal. no_lines other more same equal;
}

abbrev error : ReadError
error = record { line = 1; column = 3; kind = Syntax }

pub second_token_is_refused : IsFault schedule stops places error
second_token_is_refused = record {
  cause = syntax;
  last = 2;
  fault = second_token;
  why = λ header. absurd (let e : Name p ≡ Sign Colon = cc (header) in cc (e));
  placed = record { place = at 1 3; there = refl; line = refl; column = refl };
}
