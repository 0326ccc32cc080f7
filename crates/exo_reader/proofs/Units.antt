-- Whole texts, and where and why one is refused.
use Rattle.std.proofs.Common.{◌≡◌, ℕ, ◌+◌, ◌-◌, ◌<◌, ◌≤◌, List, [], ◌∷◌, ◌++◌, Option, Some, None, length, take, drop, refl, sym, ap, ◌∙◌, subst, arith, map}
use Rattle.std.proofs.lemmas.List.{length-append, length-drop, length-map}
use Rattle.std.proofs.Math.Seq.{take-append_seam, drop-append_seam, take-length}
use Rattle.text_phrases.specs.Limits.{Limits, Cause, syntax, too_deep, too_long, too_large}
use Rattle.text_phrases.specs.Phrase.{first, Phrase}
use Rattle.text_phrases.specs.Text.{FaultAt, Faults}
use Rattle.text_phrases.specs.declared.Refusal.{Refusal}
use Rattle.text_phrases.specs.declared.Refusal.TheVariants as r
use Rattle.text_lexer.specs.Layout.{lexed, token_of, place_of, end_place}
use Rattle.text_lexer.specs.declared.place.Place.{Place}
use Rattle.text_lexer.specs.declared.place.Placed.{Placed}
use Rattle.text_lexer.specs.declared.token.Token.{Token}
use Rattle.text_lexer.specs.declared.token.Token.TheVariants.{Sign, NewLine, Dedent}
use Rattle.text_lexer.specs.declared.token.Sign.TheVariants.{Colon}
use Rattle.exo_reader.specs.Source.{Item}
use Rattle.exo_reader.specs.Items.{item}
use Rattle.exo_reader.specs.Texts.{tokens_of, places_of, EndsHeader, IsAtEnd, first_kind, IsKindBy, IsSyntaxKind, IsKind, IsPlaced, IsFault, IsRefusal, IsLeft, SaysAt, Says}
use Rattle.exo_reader.specs.declared.unit.ReadKind.{ReadKind}
use Rattle.exo_reader.specs.declared.unit.ReadKind.TheVariants as k
use Rattle.exo_reader.specs.declared.unit.ReadError.{ReadError}
use Rattle.exo_reader.proofs.Items.{StartsItem, starts_item}

-- all items are read

pub none_left : (rest : List Token) → rest ≡ [] → (limits : Limits) (i : Item) (y : List Token) → item.Fits limits i → first rest ≡ first (item.spell i ++ y) → ⊥
none_left rest empty limits i y fits same = subst StartsItem (sym same ∙ ap first empty) (starts_item i y)

pub some_left : (rest more : List Token) (a : Token) → rest ≡ a ∷ more → first rest ≡ None → ⊥
some_left rest more a is none = let e : Some a ≡ None = sym (ap first is) ∙ none in cc (e)

-- a slice to the end
pub tail_is : (tokens : List Token) (n : ℕ) → take (length tokens - n) (drop n tokens) ≡ drop n tokens
tail_is tokens n = ap (λ m. take m (drop n tokens)) (sym (length-drop n tokens)) ∙ take-length (drop n tokens)

-- headers

header_end : (end : List Token) → length end ≡ 1 → first end ≡ Some NewLine → end ≡ NewLine ∷ []
header_end [] one same = absurd (omega (arith, one))
header_end (t ∷ []) one same = let e : t ≡ NewLine = cc (same) in ap (λ u. u ∷ []) e
header_end (t ∷ u ∷ more) one same = absurd (omega (arith, one))

pub header_there : (before end : List Token) → 2 ≤ length before → drop (length before - 2) before ≡ Sign Colon ∷ end → first end ≡ Some NewLine → EndsHeader before
header_there before end long is same =
    let one : length end ≡ 1 = omega (arith, long, ap length is, length-drop (length before - 2) before) in
    is ∙ ap (λ l. Sign Colon ∷ l) (header_end end one same)

pub header_back : (before end : List Token) → drop (length before - 2) before ≡ Sign Colon ∷ end → EndsHeader before → first end ≡ Some NewLine
header_back before end is ends =
    let e : Sign Colon ∷ end ≡ Sign Colon ∷ NewLine ∷ [] = sym is ∙ ends in
    let f : end ≡ NewLine ∷ [] = cc (e) in
    ap first f

pub no_header : (before : List Token) → (first (drop (length before - 2) before) ≡ Some (Sign Colon) → ⊥) → EndsHeader before → ⊥
no_header before none ends = none (ap first ends)

pub short_header : (before : List Token) → length before < 2 → EndsHeader before → ⊥
short_header before short ends = omega (arith, short, ap length ends, length-drop (length before - 2) before)

-- the end of a text

pub not_at_end : (left more : List Token) (a : Token) → left ≡ a ∷ more → (first left ≡ Some Dedent → ⊥) → IsAtEnd left → ⊥
not_at_end [] more a is none ends = let e : length {A = Token} [] ≡ length (a ∷ more) = ap length is in omega (arith, e)
not_at_end (Dedent ∷ left) more a is none ends = none refl
not_at_end (other ∷ left) more a is none ends = absurd ends

pub at_end : (left : List Token) → left ≡ [] → IsAtEnd left
at_end left empty = subst IsAtEnd (sym empty) tt

-- kinds

pub kind_some : (before rest : List Token) (kind : ReadKind) → first_kind rest ≡ Some kind → IsSyntaxKind before rest kind
kind_some before rest kind is = subst (λ (o : Option ReadKind). IsKindBy o before rest kind) (sym is) refl

pub kind_none : (before rest : List Token) (kind : ReadKind) → first_kind rest ≡ None → IsKindBy None before rest kind → IsSyntaxKind before rest kind
kind_none before rest kind is by = subst (λ (o : Option ReadKind). IsKindBy o before rest kind) (sym is) by

-- errors

left_of : {T : Type 0} {cause : Cause} (kind : Phrase Token T) (tokens : List Token) (last : ℕ) → FaultAt kind cause tokens last → last ≤ length tokens
left_of kind tokens last fault = omega (arith, ap length fault.whole, length-append fault.before fault.rest, fault.count)

-- no more tokens are left at a refusal than there are
pub left_in : {T : Type 0} (kind : Phrase Token T) (tokens : List Token) (e : Refusal) → Faults kind tokens e → IsLeft tokens e
left_in kind tokens r.Memory faults = tt
left_in kind tokens (r.Syntax last) faults = left_of kind tokens last faults
left_in kind tokens (r.TooDeep last) faults = left_of kind tokens last faults
left_in kind tokens (r.TooLong last) faults = left_of kind tokens last faults
left_in kind tokens (r.TooLarge last) faults = left_of kind tokens last faults

refused_by : {T : Type 0} (kind : Phrase Token T) (tokens : List Token) (places : List Place) (why : ReadKind) (e : ReadError) → IsFault kind tokens places e → IsRefusal kind tokens places why e
refused_by kind tokens places k.Memory e fault = tt
refused_by kind tokens places other e fault = fault

before_is : (tokens before rest : List Token) (last : ℕ) → tokens ≡ before ++ rest → length rest ≡ last → take (length tokens - last) tokens ≡ before
before_is tokens before rest last whole count =
    let n : length tokens - last ≡ length before = omega (arith, ap length whole, length-append before rest, count) in
    ap (λ m. take m tokens) n ∙ ap (take (length before)) whole ∙ take-append_seam before rest

rest_is : (tokens before rest : List Token) (last : ℕ) → tokens ≡ before ++ rest → length rest ≡ last → drop (length tokens - last) tokens ≡ rest
rest_is tokens before rest last whole count =
    let n : length tokens - last ≡ length before = omega (arith, ap length whole, length-append before rest, count) in
    ap (λ m. drop m tokens) n ∙ ap (drop (length before)) whole ∙ drop-append_seam before rest

fault_of : {T : Type 0} (kind : Phrase Token T) (cause : Cause) (tokens : List Token) (places : List Place) (last : ℕ) (e : ReadError) → FaultAt kind cause tokens last → SaysAt cause tokens places last e → IsRefusal kind tokens places e.kind e
fault_of kind cause tokens places last e fault says =
    let one : IsKind cause fault.before (drop (length tokens - last) tokens) e.kind = subst (λ (b : List Token). IsKind cause b (drop (length tokens - last) tokens) e.kind) (before_is tokens fault.before fault.rest last fault.whole fault.count) says.why in
    let two : IsKind cause fault.before fault.rest e.kind = subst (λ (r : List Token). IsKind cause fault.before r e.kind) (rest_is tokens fault.before fault.rest last fault.whole fault.count) one in
    refused_by kind tokens places e.kind e (record { cause = cause; last = last; fault = fault; why = two; placed = says.placed })

-- what an error says of a refusal is right where the refusal is
refusal_of : {T : Type 0} (kind : Phrase Token T) (tokens : List Token) (places : List Place) (refusal : Refusal) (e : ReadError) → Faults kind tokens refusal → Says tokens places refusal e → IsRefusal kind tokens places e.kind e
refusal_of kind tokens places r.Memory e faults says = subst (λ (why : ReadKind). IsRefusal kind tokens places why e) (sym says) tt
refusal_of kind tokens places (r.Syntax last) e faults says = fault_of kind syntax tokens places last e faults says
refusal_of kind tokens places (r.TooDeep last) e faults says = fault_of kind too_deep tokens places last e faults says
refusal_of kind tokens places (r.TooLong last) e faults says = fault_of kind too_long tokens places last e faults says
refusal_of kind tokens places (r.TooLarge last) e faults says = fault_of kind too_large tokens places last e faults says

-- an error without a place
pub memory_refusal : {T : Type 0} (kind : Phrase Token T) (tokens : List Token) (places : List Place) (e : ReadError) → e.kind ≡ k.Memory → IsRefusal kind tokens places e.kind e
memory_refusal kind tokens places e is = subst (λ (why : ReadKind). IsRefusal kind tokens places why e) (sym is) tt

-- a limit is passed whatever the tokens are
pub says_limit : (cause : Cause) (tokens : List Token) (places : List Place) (last : ℕ) (kind : ReadKind) (e : ReadError) → IsKind cause (take (length tokens - last) tokens) (drop (length tokens - last) tokens) kind → e.kind ≡ kind → IsPlaced places last e → SaysAt cause tokens places last e
says_limit cause tokens places last kind e why same placed = record { why = subst (λ (n : ReadKind). IsKind cause (take (length tokens - last) tokens) (drop (length tokens - last) tokens) n) (sym same) why; placed = placed }

pub says_syntax : (tokens : List Token) (places : List Place) (last : ℕ) (kind : ReadKind) (e : ReadError) → IsSyntaxKind (take (length tokens - last) tokens) (take (length tokens - (length tokens - last)) (drop (length tokens - last) tokens)) kind → e.kind ≡ kind → IsPlaced places last e → SaysAt syntax tokens places last e
says_syntax tokens places last kind e sliced same placed =
    says_limit syntax tokens places last kind e (subst (λ (r : List Token). IsSyntaxKind (take (length tokens - last) tokens) r kind) (tail_is tokens (length tokens - last)) sliced) same placed

-- a text has one place more than tokens
pub places_more : (text : List ℕ) → length (places_of text) ≡ length (tokens_of text) + 1
places_more text = omega (arith, length-append (map place_of (lexed text)) (end_place text ∷ []), length-map (lexed text) place_of, length-map (lexed text) token_of)

pub one_place_more :
    (laid : List Placed) (end : Place) (tokens read : List Token) (places listed : List Place) → read ≡ tokens →
    listed ≡ places → tokens ≡ map token_of laid → places ≡ map place_of laid ++ (end ∷ []) → length listed ≡
    length read + 1
one_place_more laid end tokens read places listed same alike tokens_are places_are =
    omega (
      arith,
      ap length same,
      ap length alike,
      ap length tokens_are,
      ap length places_are,
      length-append
          (map place_of laid) (end ∷ []),
      length-map laid place_of,
      length-map laid token_of,
    )

-- the same of tokens and places in memory
pub refusal_in : {T : Type 0} (kind : Phrase Token T) (tokens read sliced : List Token) (places listed : List Place) (refusal : Refusal) (e : ReadError) → read ≡ tokens → sliced ≡ tokens → listed ≡ places → Faults kind read refusal → Says sliced listed refusal e → IsRefusal kind tokens places e.kind e
refusal_in kind tokens read sliced places listed refusal e one two three faults says =
    refusal_of kind tokens places refusal e (subst (λ (ts : List Token). Faults kind ts refusal) one faults)
    (subst (λ (ps : List Place). Says tokens ps refusal e) three (subst (λ (ts : List Token). Says ts listed refusal e) two says))
