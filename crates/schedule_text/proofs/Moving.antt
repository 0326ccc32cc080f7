-- The productions of moves.
use Rattle.std.proofs.Common.{◌≡◌, ◌<◌, ◌≤◌, List, [], ◌∷◌, ◌++◌, Option, Some, length, refl, sym, ap, ◌∙◌, subst, arith}
use Rattle.std.proofs.lemmas.List.{length-append}
use Rattle.text_phrases.specs.Limits.{Limits, syntax}
use Rattle.text_phrases.specs.Phrase.{first, Phrase, Taken, Refused}
use Rattle.text_phrases.specs.Sequence.{exactly, then}
use Rattle.text_phrases.proofs.Phrases.{keeps_all}
use Rattle.text_phrases.proofs.Sequences.{Back, Step, Apart}
use Rattle.text_phrases.proofs.Joints.{Joint}
use Rattle.text_lexer.specs.declared.token.Literal.{Literal}
use Rattle.text_lexer.specs.declared.token.Literal.TheVariants.{Value}
use Rattle.text_lexer.specs.declared.token.Token.{Token}
use Rattle.text_lexer.specs.declared.token.Token.TheVariants.{Name, Int, Sign}
use Rattle.text_lexer.specs.declared.token.Sign.TheVariants.{Open, Close, OpenBracket, CloseBracket, Comma, Dot}
use Rattle.text_expressions.specs.Values.{literal}
use Rattle.schedule_text.specs.Tree.{Move, go, expand, item}
use Rattle.schedule_text.specs.Words.{word, expand_word}
use Rattle.schedule_text.specs.Grammar.{BeginsMove, NoMove, move}
use Rattle.schedule_text.specs.declared.source.Direction.{Direction}
use Rattle.schedule_text.specs.declared.source.Direction.TheVariants.{Parent}
use Rattle.schedule_text.proofs.Words.{same_direction, no_expand}

-- a literal and tokens behind it

pub literal_zero : (limits : Limits) → literal.Fits limits (Value 0)
literal_zero limits = keeps_all limits tt tt tt

pub literal_words : (words : List Token) → Joint literal (exactly words)
literal_words words = record { may = record { may = λ limits q y fits follows. tt }; some = tt; fits = λ limits. tt }

-- the number of a statement

back_item : (limits : Limits) (other : Move) (x y : List Token) → move.Fits limits other → Sign OpenBracket ∷ x ≡ move.spell other ++ y → Back (then literal (exactly (Sign CloseBracket ∷ []))) (λ s. item s.0) limits other x y
back_item limits (go d) x y fits equal = absurd (let e : Sign OpenBracket ≡ Sign Dot = cc in cc)
back_item limits (expand a b) x y fits equal = absurd (let e : Sign OpenBracket ≡ Sign Dot = cc in cc)
back_item limits (item k) x y fits equal = record { tree = (k, tt); fits = (fits, tt); is = refl; equal = (let e : x ≡ (Int k ∷ Sign CloseBracket ∷ []) ++ y = cc in e); follows = tt }

pub step_item : (after : List Token) → Step move (then literal (exactly (Sign CloseBracket ∷ []))) (λ s. item s.0) (Sign OpenBracket ∷ after) after
step_item after = record {
  front = Sign OpenBracket ∷ [];
  split = refl;
  fits = λ limits s fits. fits.0;
  spelled = λ s. refl;
  back = λ limits other x y same fits follows equal. back_item limits other x y fits equal;
}

-- two numbers

abbrev pub Expand2T : Type 0
Expand2T = (Literal × (Unit {0})) × (Literal × (Unit {0}))

abbrev pub Expand2 : Phrase Token Expand2T
Expand2 = then (then literal (exactly (Sign Comma ∷ []))) (then literal (exactly (Sign Close ∷ [])))

abbrev pub Expand1T : Type 0
Expand1T = (Unit {0}) × Expand2T

abbrev pub Expand1 : Phrase Token Expand1T
Expand1 = then (exactly (Sign Open ∷ [])) Expand2

pub expand1 : Joint (exactly (Sign Open ∷ [])) Expand2
expand1 = record { may = record { may = λ limits q y fits follows. tt }; some = ((Value 0, tt), (Value 0, tt)); fits = λ limits. ((literal_zero limits, tt), (literal_zero limits, tt)) }

pub expand2 : Joint (then literal (exactly (Sign Comma ∷ []))) (then literal (exactly (Sign Close ∷ [])))
expand2 = record { may = record { may = λ limits q y fits follows. tt }; some = (Value 0, tt); fits = λ limits. (literal_zero limits, tt) }

abbrev pub expand_of : Expand1T → Move
expand_of s = expand s.1.0.0 s.1.1.0

back_expand : (limits : Limits) (other : Move) (x y : List Token) → move.Fits limits other → Sign Dot ∷ Name expand_word ∷ x ≡ move.spell other ++ y → Back Expand1 expand_of limits other x y
back_expand limits (go d) x y fits equal = absurd (let e : Name expand_word ≡ Name (word d) = cc in no_expand d (cc (e)))
back_expand limits (expand a b) x y fits equal =
    record { tree = (tt, ((a, tt), (b, tt))); fits = (tt, ((fits.0, tt), (fits.1, tt))); is = refl; equal = (let e : x ≡ (Sign Open ∷ Int a ∷ Sign Comma ∷ Int b ∷ Sign Close ∷ []) ++ y = cc in e); follows = tt }
back_expand limits (item k) x y fits equal = absurd (let e : Sign Dot ≡ Sign OpenBracket = cc in cc)

pub step_expand : (after : List Token) → Step move Expand1 expand_of (Sign Dot ∷ Name expand_word ∷ after) after
step_expand after = record {
  front = Sign Dot ∷ Name expand_word ∷ [];
  split = refl;
  fits = λ limits s fits. (fits.1.0.0, fits.1.1.0);
  spelled = λ s. refl;
  back = λ limits other x y same fits follows equal. back_expand limits other x y fits equal;
}

-- a direction

back_go : (d : Direction) (limits : Limits) (other : Move) (x y : List Token) → Sign Dot ∷ Name (word d) ∷ x ≡ move.spell other ++ y → Back (exactly (Sign Open ∷ Sign Close ∷ [])) (λ s. go d) limits other x y
back_go d limits (go f) x y equal =
    let e : Name (word f) ≡ Name (word d) = cc in
    let same : word f ≡ word d = cc (e) in
    record { tree = tt; fits = tt; is = ap go (same_direction f d same); equal = (let e : x ≡ (Sign Open ∷ Sign Close ∷ []) ++ y = cc in e); follows = tt }
back_go d limits (expand a b) x y equal = absurd (let e : Name expand_word ≡ Name (word d) = cc in no_expand d (cc (e)))
back_go d limits (item k) x y equal = absurd (let e : Sign Dot ≡ Sign OpenBracket = cc in cc)

pub step_go : (d : Direction) (after : List Token) → Step move (exactly (Sign Open ∷ Sign Close ∷ [])) (λ s. go d) (Sign Dot ∷ Name (word d) ∷ after) after
step_go d after = record {
  front = Sign Dot ∷ Name (word d) ∷ [];
  split = refl;
  fits = λ limits s fits. tt;
  spelled = λ s. refl;
  back = λ limits other x y same fits follows equal. back_go d limits other x y equal;
}

-- no word of a move stands behind the dot

stuck_step : (after x y : List Token) (other : Move) → (first after ≡ Some (Name expand_word) → ⊥) → ((d : Direction) → first after ≡ Some (Name (word d)) → ⊥) → first after ≡ first x → Sign Dot ∷ x ≡ move.spell other ++ y → ⊥
stuck_step after x y (go d) no_two no_one same equal = no_one d (let e : x ≡ Name (word d) ∷ ((Sign Open ∷ Sign Close ∷ []) ++ y) = cc in same ∙ ap first e)
stuck_step after x y (expand a b) no_two no_one same equal = no_two (let e : x ≡ Name expand_word ∷ ((Sign Open ∷ Int a ∷ Sign Comma ∷ Int b ∷ Sign Close ∷ []) ++ y) = cc in same ∙ ap first e)
stuck_step after x y (item k) no_two no_one same equal = let e : Sign Dot ≡ Sign OpenBracket = cc in cc (e)

pub no_step : (after : List Token) → (first after ≡ Some (Name expand_word) → ⊥) → ((d : Direction) → first after ≡ Some (Name (word d)) → ⊥) → Refused move syntax (Sign Dot ∷ after) (length after)
no_step after no_two no_one = record {
  before = Sign Dot ∷ [];
  rest = after;
  whole = refl;
  count = refl;
  begins = record { tree = go Parent; more = Name (word Parent) ∷ Sign Open ∷ Sign Close ∷ []; fits = λ limits. tt; spelled = refl };
  goes = tt;
  stuck = λ other x y same fits follows equal. stuck_step after x y other no_two no_one same equal;
}

-- what begins a move

pub starts_move : (m : Move) (y : List Token) → BeginsMove (first (move.spell m ++ y))
starts_move (go d) y = tt
starts_move (expand a b) y = tt
starts_move (item k) y = tt

begins_by : (o : Option Token) → (o ≡ Some (Sign OpenBracket) → ⊥) → (o ≡ Some (Sign Dot) → ⊥) → BeginsMove o → ⊥
begins_by (Some (Sign Dot)) no_bracket no_dot begins = no_dot refl
begins_by (Some (Sign OpenBracket)) no_bracket no_dot begins = no_bracket refl
begins_by other no_bracket no_dot begins = begins

pub no_move : (tokens : List Token) → (first tokens ≡ Some (Sign OpenBracket) → ⊥) → (first tokens ≡ Some (Sign Dot) → ⊥) → Refused move syntax tokens (length tokens)
no_move tokens no_bracket no_dot = record {
  before = [];
  rest = tokens;
  whole = refl;
  count = refl;
  begins = record { tree = go Parent; more = move.spell (go Parent); fits = λ limits. tt; spelled = refl };
  goes = tt;
  stuck = λ other x y same fits follows equal. begins_by (first tokens) no_bracket no_dot (subst BeginsMove (sym (same ∙ ap first equal)) (starts_move other y));
}

pub begins_bracket : (o : Option Token) → (o ≡ Some (Sign Dot) → ⊥) → BeginsMove o → o ≡ Some (Sign OpenBracket)
begins_bracket (Some (Sign Dot)) no_dot begins = absurd (no_dot refl)
begins_bracket (Some (Sign OpenBracket)) no_dot begins = refl
begins_bracket other no_dot begins = absurd begins

pub moves_apart : Apart move NoMove
moves_apart = record { begins = λ limits m y fits ends. ends (starts_move m y); next = λ limits m y fits. tt; last = λ o ends. tt }

some_tokens : (m : Move) → 1 ≤ length (move.spell m)
some_tokens (go d) = omega arith
some_tokens (expand a b) = omega arith
some_tokens (item k) = omega arith

pub move_shorter : (tokens rest : List Token) (m : Move) → Taken move tokens m rest → length rest < length tokens
move_shorter tokens rest m taken = omega (arith, ap length taken.whole, length-append (move.spell m) rest, some_tokens m)

-- no move begins with what stands there
pub no_more_moves : (rest : List Token) → NoMove (first rest) → (limits : Limits) (m : Move) (y : List Token) → move.Fits limits m → first rest ≡ first (move.spell m ++ y) → ⊥
no_more_moves rest none limits m y fits same = none (subst BeginsMove (sym same) (starts_move m y))
