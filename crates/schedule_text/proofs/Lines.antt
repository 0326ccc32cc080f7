-- The productions of lines.
use Rattle.std.proofs.Common.{◌≡◌, ℕ, ◌+◌, ◌<◌, List, [], ◌∷◌, ◌++◌, Option, Some, length, refl, sym, ap, ◌∙◌, subst, arith, append_assoc}
use Rattle.std.proofs.lemmas.List.{length-append}
use Rattle.std.specs.Prelude.{Result, Ok, Err}
use Rattle.text_phrases.specs.Limits.{Limits, in_length, Cause, passed, syntax}
use Rattle.text_phrases.specs.Phrase.{first, Phrase, Taken, Refused}
use Rattle.text_phrases.specs.Sequence.{exactly, then}
use Rattle.text_phrases.specs.Answers.{Reads, Refuses}
use Rattle.text_phrases.specs.declared.Refusal.{Refusal}
use Rattle.text_phrases.proofs.Phrases.{goes_along}
use Rattle.text_phrases.proofs.Exits.{refuses_along}
use Rattle.text_phrases.proofs.Sequences.{Back, Step, step_taken}
use Rattle.text_phrases.proofs.Joints.{Joint, both, later, whole_err}
use Rattle.text_lexer.specs.declared.token.Literal.TheVariants.{Value}
use Rattle.text_lexer.specs.declared.token.Token.{Token}
use Rattle.text_lexer.specs.declared.token.Token.TheVariants.{Name, Int, Sign, NewLine}
use Rattle.text_lexer.specs.declared.token.Sign.TheVariants.{Open, Close, OpenBracket, CloseBracket, Assign}
use Rattle.text_expressions.specs.Values.{IsShortName, name}
use Rattle.schedule_text.specs.Tree.{Move, go, expand, item, Arguments, Act, operation, search, moved, Line, bind, emit}
use Rattle.schedule_text.specs.Words.{find_word, emit_word}
use Rattle.schedule_text.specs.Patterns.Texts.{ReadsAs}
use Rattle.schedule_text.specs.Grammar.{BeginsMove, move, moves, found, arguments, act, line}
use Rattle.exo_reader.proofs.Parts.{name_fits, no_name}
use Rattle.schedule_text.proofs.Moving.{literal_zero}
use Rattle.schedule_text.proofs.Arguments.{find_short, some_found, found_fits}

-- phrases that begin with a name
pub record Led {T : Type 0} (P : Phrase Token T) : Type 0 where
  pub lead : T → List ℕ
  pub tail : T → List Token
  pub spelled : (t : T) → P.spell t ≡ Name (lead t) ∷ tail t
  pub fits : (limits : Limits) (t : T) → P.Fits limits t → name.Fits limits (lead t)
  pub make : List ℕ → T
  pub behind : List Token
  pub made : (limits : Limits) (x : List ℕ) → name.Fits limits x → P.Fits limits (make x)
  pub written : (x : List ℕ) → P.spell (make x) ≡ Name x ∷ behind

led_refused : {T : Type 0} {P : Phrase Token T} → Led P → {cause : Cause} (tokens : List Token) (last : ℕ) → Refused name cause tokens last → Refused P cause tokens last
led_refused {P = P} led {cause = cause} tokens last refused = record {
  before = refused.before;
  rest = refused.rest;
  whole = refused.whole;
  count = refused.count;
  begins = record {
    tree = led.make refused.begins.tree;
    more = refused.begins.more ++ led.behind;
    fits = λ limits. led.made limits refused.begins.tree (refused.begins.fits limits);
    spelled = sym (append_assoc refused.before refused.begins.more led.behind) ∙ ap (λ w. w ++ led.behind) refused.begins.spelled ∙ sym (led.written refused.begins.tree);
  };
  goes = goes_along name P cause refused.before refused.rest refused.before refused.rest
      (λ limits on. record {
        tree = led.make on.tree;
        token = on.token;
        more = on.more ++ led.behind;
        next = on.next;
        fits = led.made limits on.tree on.fits;
        spelled = sym (append_assoc refused.before (on.token ∷ on.more) led.behind) ∙ ap (λ w. w ++ led.behind) on.spelled ∙ sym (led.written on.tree);
      }) refused.goes;
  stuck = λ other x y same fits follows equal. refused.stuck (led.lead other) x (led.tail other ++ y) same (led.fits (passed cause) other fits) tt (equal ∙ ap (λ w. w ++ y) (led.spelled other));
}

pub led_err : {T : Type 0} {P : Phrase Token T} → Led P → (tokens : List Token) (e : Refusal) → Refuses name tokens e → Refuses P tokens e
led_err {P = P} led tokens e refuses = refuses_along name tokens P tokens e (λ cause last refused. led_refused led tokens last refused) refuses

-- a name that was read is short, and stands first
pub name_short : (tokens rest : List Token) (x : List ℕ) → Taken name tokens x rest → IsShortName x
name_short tokens rest x taken = (taken.fits in_length).1

pub name_whole : (tokens rest : List Token) (x : List ℕ) → Taken name tokens x rest → tokens ≡ Name x ∷ rest
name_whole tokens rest x taken = taken.whole

-- what was read, where these tokens stand behind it
pub reads_ended : {T A V X : Type 0} {first : Phrase Token A} {words : List Token} (whole : Phrase Token T) (build : A × (Unit {0}) → T) (tokens after middle : List Token) (t : A) (plain : V → T) (v : V) (value : X → V) (rest : X → List Token) (result : Result X Refusal) → Step whole (then first (exactly words)) build tokens after → Joint first (exactly words) → Taken first after t middle → ReadsAs (exactly words) (λ _. v) middle value rest result → ((s : Unit {0}) → plain v ≡ build (t, s)) → Reads whole tokens (λ x. plain (value x)) rest result
reads_ended {first = first} {words = words} whole build tokens after middle t plain v value rest (Ok x) step joint taken m same =
    subst (λ z. Taken whole tokens z (rest x)) (sym (ap plain m.is ∙ same m.written))
    (step_taken whole (then first (exactly words)) build tokens after (rest x) (t, m.written) step (both joint taken m.taken))
reads_ended {first = first} {words = words} whole build tokens after middle t plain v value rest (Err e) step joint taken refuses same =
    whole_err whole (then first (exactly words)) build tokens after e step (later joint taken e refuses)

-- operators

abbrev pub Operation1 : Phrase Token (Arguments × (Unit {0}))
Operation1 = then arguments (exactly (Sign Close ∷ []))

pub operation1 : Joint arguments (exactly (Sign Close ∷ []))
operation1 = record { may = record { may = λ limits q y fits follows. refl }; some = tt; fits = λ limits. tt }

abbrev pub operation_of : List ℕ → Arguments × (Unit {0}) → Act
operation_of x s = operation x s.0

starts_moved : (m : Move) (ms : List Move) (y : List Token) → BeginsMove (first ((move.spell m ++ moves.spell ms) ++ y))
starts_moved (go d) ms y = tt
starts_moved (expand a b) ms y = tt
starts_moved (item k) ms y = tt

-- no parenthesis begins a move
no_moved : (x y : List Token) (m : Move) (ms : List Move) → Sign Open ∷ x ≡ (move.spell m ++ moves.spell ms) ++ y → ⊥
no_moved x y m ms equal = subst BeginsMove (sym (ap first equal)) (starts_moved m ms y)

back_operation : (x : List ℕ) (limits : Limits) (other : Act) (u y : List Token) → (x ≡ find_word → ⊥) → act.Fits limits other → Name x ∷ Sign Open ∷ u ≡ act.spell other ++ y → Back Operation1 (operation_of x) limits other u y
back_operation x limits (operation z l) u y no_find fits equal =
    let e : Name z ≡ Name x = cc in
    let f : z ≡ x = cc (e) in
    record { tree = (l, tt); fits = (fits.2, tt); is = ap (λ n. operation n l) f; equal = (let g : u ≡ (arguments.spell l ++ (Sign Close ∷ [])) ++ y = cc in g); follows = tt }
back_operation x limits (search f) u y no_find fits equal = absurd (let e : Name x ≡ Name find_word = cc in let is : x ≡ find_word = cc (e) in no_find is)
back_operation x limits (moved z m ms) u y no_find fits equal = absurd (let e : Sign Open ∷ u ≡ (move.spell m ++ moves.spell ms) ++ y = cc in no_moved u y m ms e)

pub step_operation : (x : List ℕ) (after : List Token) → IsShortName x → (x ≡ find_word → ⊥) → Step act Operation1 (operation_of x) (Name x ∷ Sign Open ∷ after) after
step_operation x after short no_find = record {
  front = Name x ∷ Sign Open ∷ [];
  split = refl;
  fits = λ limits s fits. (name_fits limits x short, no_find, fits.0);
  spelled = λ s. refl;
  back = λ limits other u y same fits follows equal. back_operation x limits other u y no_find fits equal;
}

-- a match

back_search : (limits : Limits) (other : Act) (x y : List Token) → act.Fits limits other → (BeginsMove (first y) → ⊥) → Name find_word ∷ Sign Open ∷ x ≡ act.spell other ++ y → Back found search limits other x y
back_search limits (operation z l) x y fits follows equal = absurd (let e : Name z ≡ Name find_word = cc in let is : z ≡ find_word = cc (e) in fits.1 is)
back_search limits (search f) x y fits follows equal = record { tree = f; fits = fits; is = refl; equal = (let e : x ≡ found.spell f ++ y = cc in e); follows = follows }
back_search limits (moved z m ms) x y fits follows equal = absurd (let e : Sign Open ∷ x ≡ (move.spell m ++ moves.spell ms) ++ y = cc in no_moved x y m ms e)

pub step_search : (after : List Token) → Step act found search (Name find_word ∷ Sign Open ∷ after) after
step_search after = record {
  front = Name find_word ∷ Sign Open ∷ [];
  split = refl;
  fits = λ limits s fits. fits;
  spelled = λ s. refl;
  back = λ limits other x y same fits follows equal. back_search limits other x y fits follows equal;
}

-- what is moved

pub moved1 : Joint move moves
moved1 = record { may = record { may = λ limits q y fits follows. tt }; some = []; fits = λ limits. tt }

abbrev pub moved_of : List ℕ → Move × List Move → Act
moved_of x s = moved x s.0 s.1

back_moved : (x : List ℕ) (after : List Token) (limits : Limits) (other : Act) (u y : List Token) → (first after ≡ Some (Sign Open) → ⊥) → first after ≡ first u → act.Fits limits other → (BeginsMove (first y) → ⊥) → Name x ∷ u ≡ act.spell other ++ y → Back (then move moves) (moved_of x) limits other u y
back_moved x after limits (operation z l) u y no_call same fits follows equal = absurd (let g : u ≡ Sign Open ∷ ((arguments.spell l ++ (Sign Close ∷ [])) ++ y) = cc in no_call (same ∙ ap first g))
back_moved x after limits (search f) u y no_call same fits follows equal = absurd (let g : u ≡ Sign Open ∷ (found.spell f ++ y) = cc in no_call (same ∙ ap first g))
back_moved x after limits (moved z m ms) u y no_call same fits follows equal =
    let e : Name z ≡ Name x = cc in
    let f : z ≡ x = cc (e) in
    record { tree = (m, ms); fits = (fits.1, fits.2); is = ap (λ n. moved n m ms) f; equal = (let g : u ≡ (move.spell m ++ moves.spell ms) ++ y = cc in g); follows = follows }

pub step_moved : (x : List ℕ) (after : List Token) → IsShortName x → (first after ≡ Some (Sign Open) → ⊥) → Step act (then move moves) (moved_of x) (Name x ∷ after) after
step_moved x after short no_call = record {
  front = Name x ∷ [];
  split = refl;
  fits = λ limits s fits. (name_fits limits x short, fits.0, fits.1);
  spelled = λ s. refl;
  back = λ limits other u y same fits follows equal. back_moved x after limits other u y no_call same fits follows equal;
}

abbrev act_lead : Act → List ℕ
act_lead (operation x l) = x
act_lead (search f) = find_word
act_lead (moved x m ms) = x

abbrev act_tail : Act → List Token
act_tail (operation x l) = Sign Open ∷ (arguments.spell l ++ (Sign Close ∷ []))
act_tail (search f) = Sign Open ∷ found.spell f
act_tail (moved x m ms) = move.spell m ++ moves.spell ms

act_spelled : (a : Act) → act.spell a ≡ Name (act_lead a) ∷ act_tail a
act_spelled (operation x l) = refl
act_spelled (search f) = refl
act_spelled (moved x m ms) = refl

act_fits : (limits : Limits) (a : Act) → act.Fits limits a → name.Fits limits (act_lead a)
act_fits limits (operation x l) fits = fits.0
act_fits limits (search f) fits = name_fits limits find_word find_short
act_fits limits (moved x m ms) fits = fits.0

pub act_led : Led act
act_led = record {
  lead = act_lead;
  tail = act_tail;
  spelled = act_spelled;
  fits = act_fits;
  make = λ x. moved x (item (Value 0)) [];
  behind = Sign OpenBracket ∷ Int (Value 0) ∷ Sign CloseBracket ∷ [];
  made = λ limits x fits. (fits, literal_zero limits, tt);
  written = λ x. refl;
}

-- a name that is bound

abbrev pub Bind1 : Phrase Token (Act × (Unit {0}))
Bind1 = then act (exactly (NewLine ∷ []))

pub bind1 : Joint act (exactly (NewLine ∷ []))
bind1 = record { may = record { may = λ limits q y fits follows. λ begins. begins }; some = tt; fits = λ limits. tt }

abbrev pub bind_of : List ℕ → Act × (Unit {0}) → Line
bind_of x s = bind x s.0

back_bind : (x : List ℕ) (limits : Limits) (other : Line) (u y : List Token) → line.Fits limits other → Name x ∷ Sign Assign ∷ u ≡ line.spell other ++ y → Back Bind1 (bind_of x) limits other u y
back_bind x limits (bind z a) u y fits equal =
    let e : Name z ≡ Name x = cc in
    let f : z ≡ x = cc (e) in
    record { tree = (a, tt); fits = (fits.1, tt); is = ap (λ n. bind n a) f; equal = (let g : u ≡ (act.spell a ++ (NewLine ∷ [])) ++ y = cc in g); follows = tt }
back_bind x limits (emit z) u y fits equal = absurd (let e : Sign Assign ≡ Sign Open = cc in cc (e))

pub step_bind : (x : List ℕ) (after : List Token) → IsShortName x → Step line Bind1 (bind_of x) (Name x ∷ Sign Assign ∷ after) after
step_bind x after short = record {
  front = Name x ∷ Sign Assign ∷ [];
  split = refl;
  fits = λ limits s fits. (name_fits limits x short, fits.0);
  spelled = λ s. refl;
  back = λ limits other u y same fits follows equal. back_bind x limits other u y fits equal;
}

-- what is emitted

abbrev pub Emit2T : Type 0
Emit2T = List ℕ × (Unit {0})

abbrev pub Emit2 : Phrase Token Emit2T
Emit2 = then name (exactly (Sign Close ∷ NewLine ∷ []))

abbrev pub Emit1T : Type 0
Emit1T = (Unit {0}) × Emit2T

abbrev pub Emit1 : Phrase Token Emit1T
Emit1 = then (exactly (Sign Open ∷ [])) Emit2

pub emit1 : Joint (exactly (Sign Open ∷ [])) Emit2
emit1 = record { may = record { may = λ limits q y fits follows. tt }; some = ([], tt); fits = λ limits. (no_name limits, tt) }

abbrev pub emit_of : Emit1T → Line
emit_of s = emit s.1.0

back_emit : (after : List Token) (limits : Limits) (other : Line) (u y : List Token) → (first after ≡ Some (Sign Assign) → ⊥) → first after ≡ first u → line.Fits limits other → Name emit_word ∷ u ≡ line.spell other ++ y → Back Emit1 emit_of limits other u y
back_emit after limits (bind z a) u y no_bind same fits equal = absurd (let g : u ≡ Sign Assign ∷ ((act.spell a ++ (NewLine ∷ [])) ++ y) = cc in no_bind (same ∙ ap first g))
back_emit after limits (emit z) u y no_bind same fits equal =
    record { tree = (tt, (z, tt)); fits = (tt, (fits, tt)); is = refl; equal = (let g : u ≡ (Sign Open ∷ Name z ∷ Sign Close ∷ NewLine ∷ []) ++ y = cc in g); follows = tt }

pub step_emit : (after : List Token) → (first after ≡ Some (Sign Assign) → ⊥) → Step line Emit1 emit_of (Name emit_word ∷ after) after
step_emit after no_bind = record {
  front = Name emit_word ∷ [];
  split = refl;
  fits = λ limits s fits. fits.1.0;
  spelled = λ s. refl;
  back = λ limits other u y same fits follows equal. back_emit after limits other u y no_bind same fits equal;
}

-- neither `=` nor, behind `emit`, anything else stands there

abbrev pub some_line : List ℕ → Line
some_line x = bind x (search some_found)

stuck_line : (x : List ℕ) (after : List Token) (other : Line) (u y : List Token) → (first after ≡ Some (Sign Assign) → ⊥) → (x ≡ emit_word → ⊥) → first after ≡ first u → Name x ∷ u ≡ line.spell other ++ y → ⊥
stuck_line x after (bind z a) u y no_bind no_emit same equal = let g : u ≡ Sign Assign ∷ ((act.spell a ++ (NewLine ∷ [])) ++ y) = cc in no_bind (same ∙ ap first g)
stuck_line x after (emit z) u y no_bind no_emit same equal = let e : Name x ≡ Name emit_word = cc in let is : x ≡ emit_word = cc (e) in no_emit is

pub line_stuck : (x : List ℕ) (after : List Token) → IsShortName x → (first after ≡ Some (Sign Assign) → ⊥) → (x ≡ emit_word → ⊥) → Refused line syntax (Name x ∷ after) (length after)
line_stuck x after short no_bind no_emit = record {
  before = Name x ∷ [];
  rest = after;
  whole = refl;
  count = refl;
  begins = record {
    tree = some_line x;
    more = Sign Assign ∷ (act.spell (search some_found) ++ (NewLine ∷ []));
    fits = λ limits. (name_fits limits x short, found_fits limits);
    spelled = refl;
  };
  goes = tt;
  stuck = λ other u y same fits follows equal. stuck_line x after other u y no_bind no_emit same equal;
}

abbrev line_lead : Line → List ℕ
line_lead (bind x a) = x
line_lead (emit x) = emit_word

abbrev line_tail : Line → List Token
line_tail (bind x a) = Sign Assign ∷ (act.spell a ++ (NewLine ∷ []))
line_tail (emit x) = Sign Open ∷ Name x ∷ Sign Close ∷ NewLine ∷ []

line_spelled : (l : Line) → line.spell l ≡ Name (line_lead l) ∷ line_tail l
line_spelled (bind x a) = refl
line_spelled (emit x) = refl

line_fits : (limits : Limits) (l : Line) → line.Fits limits l → name.Fits limits (line_lead l)
line_fits limits (bind x a) fits = fits.0
line_fits limits (emit x) fits = name_fits limits emit_word (omega arith)

pub line_led : Led line
line_led = record {
  lead = line_lead;
  tail = line_tail;
  spelled = line_spelled;
  fits = line_fits;
  make = some_line;
  behind = Sign Assign ∷ (act.spell (search some_found) ++ (NewLine ∷ []));
  made = λ limits x fits. (fits, found_fits limits);
  written = λ x. refl;
}

-- a line begins with a name

abbrev pub StartsLine : Option Token → Type 0
StartsLine (Some (Name x)) = Unit {0}
StartsLine other = ⊥

pub starts_line : (l : Line) (y : List Token) → StartsLine (first (line.spell l ++ y))
starts_line (bind x a) y = tt
starts_line (emit x) y = tt

some_tokens : (l : Line) → length (line.spell l) ≡ length (line_tail l) + 1
some_tokens (bind x a) = omega arith
some_tokens (emit x) = omega arith

pub line_shorter : (tokens rest : List Token) (l : Line) → Taken line tokens l rest → length rest < length tokens
line_shorter tokens rest l taken = omega (arith, ap length taken.whole, length-append (line.spell l) rest, some_tokens l)
