-- Whole schedules, and the numbers of their lines.
use Rattle.std.proofs.Common.{◌≡◌, ℕ, ◌+◌, ◌-◌, ◌<◌, ◌≤◌, List, [], ◌∷◌, ◌++◌, Option, None, length, drop, get_or, refl, sym, ap, ◌∙◌, subst, arith, append_assoc, map}
use Rattle.std.proofs.lemmas.List.{length-append, length-map, append_cancel_left, append-nil, drop_more, drop-drop}
use Rattle.text_phrases.specs.Limits.{Limits, in_depth, in_length, unlimited, syntax, too_long}
use Rattle.text_phrases.specs.Phrase.{first, Taken, Refused}
use Rattle.text_phrases.specs.Sequence.{spell_all}
use Rattle.text_phrases.specs.Answers.{Refuses}
use Rattle.text_phrases.specs.Text.{IsText, Faults}
use Rattle.text_phrases.specs.declared.Refusal.{Refusal}
use Rattle.text_phrases.specs.declared.Refusal.TheVariants as r
use Rattle.text_phrases.proofs.Phrases.{keeps_all}
use Rattle.text_phrases.proofs.Exits.{refuses_along}
use Rattle.text_phrases.proofs.Sequences.{Longer, Items, items_next, Apart, spell_all-append, several_done, several_refused, several_full}
use Rattle.text_phrases.proofs.Texts.{text_ok, text_err}
use Rattle.text_lexer.specs.declared.place.Place.{Place}
use Rattle.text_lexer.specs.declared.token.Token.{Token}
use Rattle.text_lexer.specs.declared.token.Token.TheVariants.{Name, Sign, NewLine}
use Rattle.text_lexer.specs.declared.token.Sign.TheVariants.{Assign}
use Rattle.text_expressions.specs.Starts.{StartsWithName, RefusesItem}
use Rattle.exo_reader.proofs.Lists.{map_snoc}
use Rattle.exo_reader.proofs.Units.{some_left}
use Rattle.schedule_text.specs.Tree as tree
use Rattle.schedule_text.specs.Tree.{bind, search}
use Rattle.schedule_text.specs.Grammar.{act, line, FewLines, schedule}
use Rattle.schedule_text.specs.Views.{plain_line, number}
use Rattle.schedule_text.specs.Texts.{number_at, line_numbers}
use Rattle.schedule_text.specs.declared.source.Line.{Line}
use Rattle.schedule_text.proofs.Arguments.{some_found, found_fits}
use Rattle.schedule_text.proofs.Lines.{some_line, StartsLine, starts_line}

abbrev pub AtEnd : Option Token → Type 0
AtEnd o = o ≡ None

pub lines_apart : Apart line AtEnd
lines_apart = record {
  begins = λ limits l y fits ends. subst StartsLine ends (starts_line l y);
  next = λ limits l y fits. tt;
  last = λ o ends. tt;
}

pub none_left : (rest : List Token) → rest ≡ [] → (limits : Limits) (l : tree.Line) (y : List Token) → line.Fits limits l → first rest ≡ first (line.spell l ++ y) → ⊥
none_left rest empty limits l y fits same = subst StartsLine (sym same ∙ ap first empty) (starts_line l y)

-- one line more
pub lines_next : (tokens rest after : List Token) (list : List Line) (l : Line) → Items line AtEnd tokens (map plain_line list) rest → Taken line rest (plain_line l) after → Items line AtEnd tokens (map plain_line (list ++ (l ∷ []))) after
lines_next tokens rest after list l items taken =
    subst (λ (w : List tree.Line). Items line AtEnd tokens w after) (sym (map_snoc plain_line list l)) (items_next line AtEnd tokens rest after (map plain_line list) (plain_line l) lines_apart items taken)

few : (list : List Line) → length list ≤ 4096 → FewLines (map plain_line list)
few list short = let e : length (map plain_line list) ≤ 4096 = omega (arith, short, length-map list plain_line) in e

room : (list : List Line) → length list < 4096 → (l : tree.Line) → FewLines (map plain_line list ++ (l ∷ []))
room list short l = let e : length (map plain_line list ++ (l ∷ [])) ≤ 4096 = omega (arith, short, length-map list plain_line, length-append (map plain_line list) (l ∷ [])) in e

-- a schedule that was read has few lines
pub schedule_few : (tokens : List Token) (list : List Line) → IsText schedule tokens (map plain_line list) → length list ≤ 4096
schedule_few tokens list read =
    let short : length (map plain_line list) ≤ 4096 = (read.fits in_length).1.1 in
    omega (arith, short, length-map list plain_line)

pub one_more : (list : List Line) (l : Line) → length list < 4096 → length (list ++ (l ∷ [])) ≤ 4096
one_more list l short = omega (arith, short, length-append list (l ∷ []))

pub lines_done : (tokens rest : List Token) (list : List Line) → Items line AtEnd tokens (map plain_line list) rest → length list ≤ 4096 → rest ≡ [] → IsText schedule tokens (map plain_line list)
lines_done tokens rest list items short empty = text_ok schedule tokens rest (map plain_line list) refl (several_done line FewLines AtEnd tokens rest (map plain_line list) items (few list short) (none_left rest empty)) empty

-- a line is refused, and there is room for one
pub lines_err : (tokens rest more : List Token) (a : Token) (list : List Line) (e : Refusal) → Items line AtEnd tokens (map plain_line list) rest → length list < 4096 → rest ≡ a ∷ more → Refuses line rest e → Faults schedule tokens e
lines_err tokens rest more a list e items short is refuses =
    text_err schedule tokens e refl
    (refuses_along line rest schedule tokens e
    (λ cause last refused. several_refused line FewLines AtEnd tokens rest (map plain_line list) last lines_apart items (room list short) (some_left rest more a is) refused) refuses)

-- ---- too many lines

-- what remains of another reading, behind these lines
left_over : (list more others : List tree.Line) (x y : List Token) → others ≡ list ++ more → spell_all line list ++ x ≡ spell_all line others ++ y → x ≡ spell_all line more ++ y
left_over list more others x y is equal =
    append_cancel_left (spell_all line list) x (spell_all line more ++ y)
    (equal ∙ ap (λ o. spell_all line o ++ y) is ∙ ap (λ w. w ++ y) (spell_all-append line list more) ∙ append_assoc (spell_all line list) (spell_all line more) y)

no_line : (rest x y : List Token) (more : List tree.Line) → (StartsLine (first rest) → ⊥) → (first rest ≡ None → ⊥) → first rest ≡ first x → first y ≡ None → x ≡ spell_all line more ++ y → ⊥
no_line rest x y [] none unended same follows equal = unended (same ∙ ap first equal ∙ follows)
no_line rest x y (l ∷ more) none unended same follows equal =
    none (subst StartsLine (sym (same ∙ ap first (equal ∙ append_assoc (line.spell l) (spell_all line more) y))) (starts_line l (spell_all line more ++ y)))

-- no line begins there, whether there is room for one or not
lines_wrong : (tokens rest : List Token) (list : List tree.Line) → Items line AtEnd tokens list rest → FewLines list → (StartsLine (first rest) → ⊥) → (first rest ≡ None → ⊥) → Refused schedule syntax tokens (length rest)
lines_wrong tokens rest list items short none unended = record {
  before = spell_all line list;
  rest = rest;
  whole = items.whole;
  count = refl;
  begins = record { tree = list; more = []; fits = λ limits. (items.all limits, keeps_all limits tt short tt); spelled = append-nil (spell_all line list) };
  goes = tt;
  stuck = λ others x y same fits follows equal.
      let longer : Longer line unlimited list others = items.only unlimited others x y same fits.0 follows equal in
      no_line rest x y longer.more none unended same follows (left_over list longer.more others x y longer.is equal);
}

over : (list ts : List tree.Line) (t : tree.Line) → 4096 ≤ length list → FewLines (list ++ (t ∷ ts)) → ⊥
over list ts t full short = omega (arith, full, short, length-append list (t ∷ ts))

lines_long : (tokens rest more : List Token) (n : List ℕ) (list : List tree.Line) → Items line AtEnd tokens list rest → FewLines list → 4096 ≤ length list → rest ≡ Name n ∷ more → Refused schedule too_long tokens (length rest)
lines_long tokens rest more n list items short full is =
    several_full line FewLines AtEnd tokens rest (Sign Assign ∷ (act.spell (search some_found) ++ (NewLine ∷ []))) list (some_line n) (Name n) items short
    (some_left rest more (Name n) is) (ap first is) (tt, found_fits in_depth) refl (λ t ts y fits same few. over list ts t full few)

starts_with_name : (tokens : List Token) → StartsLine (first tokens) → StartsWithName tokens
starts_with_name [] starts = absurd starts
starts_with_name (Name n ∷ more) starts = tt
starts_with_name (other ∷ more) starts = absurd starts

name_there : (tokens : List Token) → StartsWithName tokens → (n : List ℕ) × (more : List Token) × (tokens ≡ Name n ∷ more)
name_there [] starts = absurd starts
name_there (Name n ∷ more) starts = (n, more, refl)
name_there (other ∷ more) starts = absurd starts

refuses_line : (tokens rest more : List Token) (a : Token) (list : List tree.Line) (e : Refusal) → Items line AtEnd tokens list rest → FewLines list → 4096 ≤ length list → rest ≡ a ∷ more → RefusesItem rest e → Refuses schedule tokens e
refuses_line tokens rest more a list r.Memory items short full is refuses = tt
refuses_line tokens rest more a list (r.Syntax last) items short full is refuses =
    subst (λ (n : ℕ). Refused schedule syntax tokens n) (sym refuses.1) (lines_wrong tokens rest list items short (λ s. refuses.0 (starts_with_name rest s)) (some_left rest more a is))
refuses_line tokens rest more a list (r.TooDeep last) items short full is refuses = absurd refuses
refuses_line tokens rest more a list (r.TooLong last) items short full is refuses =
    let there = name_there rest refuses.0 in
    subst (λ (n : ℕ). Refused schedule too_long tokens n) (sym refuses.1) (lines_long tokens rest there.1 there.0 list items short full there.2)
refuses_line tokens rest more a list (r.TooLarge last) items short full is refuses = absurd refuses

pub many_lines : (tokens rest more : List Token) (a : Token) (list : List Line) (e : Refusal) → Items line AtEnd tokens (map plain_line list) rest → length list ≤ 4096 → 4096 ≤ length list → rest ≡ a ∷ more → RefusesItem rest e → Faults schedule tokens e
many_lines tokens rest more a list e items short full is refuses =
    text_err schedule tokens e refl (refuses_line tokens rest more a (map plain_line list) e items (few list short) (omega (arith, full, length-map list plain_line)) is refuses)

-- ---- numbers of lines

-- the lines that were read have these numbers, whatever stands behind them
abbrev pub AreNumbered : List Place → List Place → List Line → Type 0
AreNumbered places left list = (more : List tree.Line) → line_numbers places (map plain_line list ++ more) ≡ map number list ++ line_numbers left more

pub numbered_none : (places : List Place) → AreNumbered places places []
numbered_none places = λ more. refl

pub numbered_next : (places left : List Place) (list : List Line) (l : Line) → AreNumbered places left list → l.number ≡ number_at left → AreNumbered places (drop (length (line.spell (plain_line l))) left) (list ++ (l ∷ []))
numbered_next places left list l numbered is = λ more.
    ap (λ w. line_numbers places (w ++ more)) (map_snoc plain_line list l)
    ∙ ap (line_numbers places) (append_assoc (map plain_line list) (plain_line l ∷ []) more)
    ∙ numbered (plain_line l ∷ more)
    ∙ ap (λ n. map number list ++ (n ∷ line_numbers (drop (length (line.spell (plain_line l))) left) more)) (sym is)
    ∙ sym (append_assoc (map number list) (l.number ∷ []) (line_numbers (drop (length (line.spell (plain_line l))) left) more))
    ∙ ap (λ w. w ++ line_numbers (drop (length (line.spell (plain_line l))) left) more) (sym (map_snoc number list l))

-- the place of the first token that is left
pub number_there : (places : List Place) (k : ℕ) (d : Place) → k < length places → (get_or places k d).line ≡ number_at (drop k places)
number_there places k d less = sym (ap number_at (drop_more places k d less))

-- behind a line that was taken, so many places more are dropped
pub dropped : (places : List Place) (tokens rest after : List Token) (l : tree.Line) → length rest ≤ length tokens → Taken line rest l after → drop (length (line.spell l)) (drop (length tokens - length rest) places) ≡ drop (length tokens - length after) places
dropped places tokens rest after l less taken =
    let n : (length tokens - length rest) + length (line.spell l) ≡ length tokens - length after = omega (arith, less, ap length taken.whole, length-append (line.spell l) after) in
    drop-drop (length (line.spell l)) (length tokens - length rest) places ∙ ap (λ m. drop m places) n

pub lines_left : (tokens rest : List Token) (list : List tree.Line) → Items line AtEnd tokens list rest → length rest ≤ length tokens
lines_left tokens rest list items = omega (arith, ap length items.whole, length-append (spell_all line list) rest)

pub numbered_done : (places left : List Place) (list : List Line) → AreNumbered places left list → map number list ≡ line_numbers places (map plain_line list)
numbered_done places left list numbered = sym (ap (line_numbers places) (sym (append-nil (map plain_line list))) ∙ numbered [] ∙ append-nil (map number list))

pub numbered_first : (places : List Place) (tokens : List Token) → AreNumbered places (drop (length tokens - length tokens) places) []
numbered_first places tokens =
    let n : length tokens - length tokens ≡ 0 = omega arith in
    subst (λ (m : ℕ). AreNumbered places (drop m places) []) (sym n) (numbered_none places)

-- a line that was read has the number of its first token
pub line_after : (places : List Place) (tokens rest after : List Token) (list : List Line) (l : Line) (d : Place) → Items line AtEnd tokens (map plain_line list) rest → AreNumbered places (drop (length tokens - length rest) places) list → length tokens - length rest < length places → l.number ≡ (get_or places (length tokens - length rest) d).line → Taken line rest (plain_line l) after → AreNumbered places (drop (length tokens - length after) places) (list ++ (l ∷ []))
line_after places tokens rest after list l d items numbered less is taken =
    subst (λ (left : List Place). AreNumbered places left (list ++ (l ∷ [])))
    (dropped places tokens rest after (plain_line l) (lines_left tokens rest (map plain_line list) items) taken)
    (numbered_next places (drop (length tokens - length rest) places) list l numbered (is ∙ number_there places (length tokens - length rest) d less))
