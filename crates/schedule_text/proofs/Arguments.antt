-- The productions of arguments.
use Rattle.std.proofs.Common.{◌≡◌, ℕ, List, [], ◌∷◌, ◌++◌, Option, Some, Bool, true, false, length, refl, sym, ap, ◌∙◌, subst, arith, map}
use Rattle.text_phrases.specs.Limits.{Limits, unlimited, in_length, syntax, too_long}
use Rattle.text_phrases.specs.Phrase.{first, Phrase, Taken, Refused}
use Rattle.text_phrases.specs.Sequence.{exactly, then}
use Rattle.text_phrases.specs.Commas.{spell_more}
use Rattle.text_phrases.specs.Answers.{Refuses}
use Rattle.text_phrases.specs.declared.Refusal.{Refusal}
use Rattle.text_phrases.proofs.Phrases.{keeps_all}
use Rattle.text_phrases.proofs.Exits.{refuses_along}
use Rattle.text_phrases.proofs.Sequences.{Back, Step}
use Rattle.text_phrases.proofs.Commas.{CommaApart, Commas, commas_next, commas_refused, commas_done, commas_trailing}
use Rattle.text_phrases.proofs.Joints.{Joint}
use Rattle.text_lexer.specs.declared.token.Literal.{Literal}
use Rattle.text_lexer.specs.declared.token.Literal.TheVariants.{Value}
use Rattle.text_lexer.specs.declared.token.Token.{Token}
use Rattle.text_lexer.specs.declared.token.Token.TheVariants.{Name, Int, Str, Sign, Word}
use Rattle.text_lexer.specs.declared.token.Sign.TheVariants.{Open, Close, OpenBracket, CloseBracket, Comma, Dot, Assign}
use Rattle.text_lexer.specs.declared.token.Word.TheVariants as w
use Rattle.text_expressions.specs.Values.{IsShortName, name, literal}
use Rattle.exo_reader.specs.Parts.{Is}
use Rattle.exo_reader.specs.Items.{NoString, StartsWithString, FewBytes, neighbours}
use Rattle.exo_reader.proofs.Lists.{map_snoc}
use Rattle.exo_reader.proofs.Neighbours.{one_string}
use Rattle.exo_reader.proofs.Parts.{name_fits, no_name}
use Rattle.schedule_text.specs.Tree as tree
use Rattle.schedule_text.specs.Tree.{Move, go, expand, item, Found, Cursor, held, KeyValue, text, yes, no, Argument, cursor, string, int, pair, key, Arguments}
use Rattle.schedule_text.specs.Words.{find_word}
use Rattle.schedule_text.specs.Grammar.{NoMove, moves, found, key_value, EndsArgument, argument, AnyNumber, more_arguments, arguments}
use Rattle.schedule_text.specs.Views.{plain_argument}
use Rattle.schedule_text.specs.declared.source.ArgText.{ArgText}
use Rattle.schedule_text.proofs.Moving.{literal_zero}

-- trees that keep all limits

pub find_short : IsShortName find_word
find_short = omega arith

-- a string that was read has few bytes
pub string_few : (tokens rest : List Token) (pieces : List (List ℕ)) → Taken neighbours tokens pieces rest → FewBytes pieces
string_few tokens rest pieces taken = (taken.fits in_length).0.1.1

-- matches

abbrev pub Found3T : Type 0
Found3T = (Unit {0}) × List Move

abbrev pub Found3 : Phrase Token Found3T
Found3 = then (exactly (Sign Close ∷ [])) moves

abbrev pub Found2T : Type 0
Found2T = (List (List ℕ)) × Found3T

abbrev pub Found2 : Phrase Token Found2T
Found2 = then neighbours Found3

abbrev pub Found1T : Type 0
Found1T = (List ℕ × (Unit {0})) × Found2T

abbrev pub Found1 : Phrase Token Found1T
Found1 = then (then name (exactly (Sign Comma ∷ []))) Found2

pub found1 : Joint (then name (exactly (Sign Comma ∷ []))) Found2
found1 = record { may = record { may = λ limits q y fits follows. tt }; some = ([] ∷ [], (tt, [])); fits = λ limits. (one_string limits, (tt, tt)) }

pub found2 : Joint neighbours Found3
found2 = record { may = record { may = λ limits q y fits follows. tt }; some = (tt, []); fits = λ limits. (tt, tt) }

pub found3 : Joint (exactly (Sign Close ∷ [])) moves
found3 = record { may = record { may = λ limits q y fits follows. tt }; some = []; fits = λ limits. tt }

abbrev pub found_of : Found1T → Found
found_of s = record { version = s.0.0; pattern = s.1.0; moves = s.1.1.1 }

pub step_found : (tokens : List Token) → Step found Found1 found_of tokens tokens
step_found tokens = record {
  front = [];
  split = refl;
  fits = λ limits s fits. (fits.0.0, fits.1.0, fits.1.1.1);
  spelled = λ s. refl;
  back = λ limits other x y same fits follows equal.
      record { tree = ((other.version, tt), (other.pattern, (tt, other.moves))); fits = ((fits.0, tt), (fits.1, (tt, fits.2))); is = refl; equal = equal; follows = follows };
}

abbrev pub some_found : Found
some_found = record { version = []; pattern = [] ∷ []; moves = [] }

pub found_fits : (limits : Limits) → found.Fits limits some_found
found_fits limits = (no_name limits, one_string limits, tt)

-- what stands behind an argument

no_move_behind : (o : Option Token) → EndsArgument o → NoMove o
no_move_behind (Some (Sign Comma)) ends = λ begins. begins
no_move_behind (Some (Sign Close)) ends = λ begins. begins
no_move_behind other ends = absurd ends

no_string_behind : (o : Option Token) → EndsArgument o → NoString o
no_string_behind (Some (Sign Comma)) ends = tt
no_string_behind (Some (Sign Close)) ends = tt
no_string_behind other ends = absurd ends

-- what may stand behind the name of a cursor
abbrev AfterName : Option Token → Type 0
AfterName (Some (Sign Dot)) = Unit {0}
AfterName (Some (Sign OpenBracket)) = Unit {0}
AfterName (Some (Sign Comma)) = Unit {0}
AfterName (Some (Sign Close)) = Unit {0}
AfterName other = ⊥

ends_after : (o : Option Token) → EndsArgument o → AfterName o
ends_after (Some (Sign Comma)) ends = tt
ends_after (Some (Sign Close)) ends = tt
ends_after other ends = absurd ends

after_held : (ms : List Move) (y : List Token) → EndsArgument (first y) → AfterName (first (moves.spell ms ++ y))
after_held [] y ends = ends_after (first y) ends
after_held (go d ∷ ms) y ends = tt
after_held (expand a b ∷ ms) y ends = tt
after_held (item k ∷ ms) y ends = tt

not_after_name : (t : Token) (x y : List Token) (ms : List Move) → (AfterName (Some t) → ⊥) → EndsArgument (first y) → t ∷ x ≡ moves.spell ms ++ y → ⊥
not_after_name t x y ms none ends equal = none (subst AfterName (sym (ap first equal)) (after_held ms y ends))

-- a match as an argument

abbrev pub match_of : Found → Argument
match_of f = cursor (tree.found f)

back_match : (limits : Limits) (other : Argument) (x y : List Token) → argument.Fits limits other → EndsArgument (first y) → Name find_word ∷ Sign Open ∷ x ≡ argument.spell other ++ y → Back found match_of limits other x y
back_match limits (cursor (held z ms)) x y fits ends equal = absurd (let e : Sign Open ∷ x ≡ moves.spell ms ++ y = cc in not_after_name (Sign Open) x y ms (λ a. a) ends e)
back_match limits (cursor (tree.found f)) x y fits ends equal = record { tree = f; fits = fits; is = refl; equal = (let e : x ≡ found.spell f ++ y = cc in e); follows = no_move_behind (first y) ends }
back_match limits (string []) x y fits ends equal = absurd fits.1
back_match limits (string (p ∷ more)) x y fits ends equal = absurd (let e : Name find_word ≡ Str p = cc in cc (e))
back_match limits (int n) x y fits ends equal = absurd (let e : Name find_word ≡ Int n = cc in cc (e))
back_match limits (pair a b) x y fits ends equal = absurd (let e : Name find_word ≡ Sign OpenBracket = cc in cc (e))
back_match limits (key z v) x y fits ends equal = absurd (let e : Sign Open ≡ Sign Assign = cc in cc (e))

pub step_match : (after : List Token) → Step argument found match_of (Name find_word ∷ Sign Open ∷ after) after
step_match after = record {
  front = Name find_word ∷ Sign Open ∷ [];
  split = refl;
  fits = λ limits s fits. fits;
  spelled = λ s. refl;
  back = λ limits other x y same fits follows equal. back_match limits other x y fits follows equal;
}

-- a cursor that a name holds

abbrev pub held_of : List ℕ → List Move → Argument
held_of x ms = cursor (held x ms)

back_held : (x : List ℕ) (after : List Token) (limits : Limits) (other : Argument) (u y : List Token) → (first after ≡ Some (Sign Assign) → ⊥) → (x ≡ find_word → first after ≡ Some (Sign Open) → ⊥) → first after ≡ first u → argument.Fits limits other → EndsArgument (first y) → Name x ∷ u ≡ argument.spell other ++ y → Back moves (held_of x) limits other u y
back_held x after limits (cursor (held z ms)) u y no_key no_find same fits ends equal =
    let e : Name z ≡ Name x = cc in
    let f : z ≡ x = cc (e) in
    record { tree = ms; fits = fits.1; is = ap (λ n. held_of n ms) f; equal = (let g : u ≡ moves.spell ms ++ y = cc in g); follows = no_move_behind (first y) ends }
back_held x after limits (cursor (tree.found f)) u y no_key no_find same fits ends equal =
    absurd (
    let e : Name x ≡ Name find_word = cc in
    let is : x ≡ find_word = cc (e) in
    let g : u ≡ Sign Open ∷ (found.spell f ++ y) = cc in
    no_find is (same ∙ ap first g))
back_held x after limits (string []) u y no_key no_find same fits ends equal = absurd fits.1
back_held x after limits (string (p ∷ more)) u y no_key no_find same fits ends equal = absurd (let e : Name x ≡ Str p = cc in cc (e))
back_held x after limits (int n) u y no_key no_find same fits ends equal = absurd (let e : Name x ≡ Int n = cc in cc (e))
back_held x after limits (pair a b) u y no_key no_find same fits ends equal = absurd (let e : Name x ≡ Sign OpenBracket = cc in cc (e))
back_held x after limits (key z v) u y no_key no_find same fits ends equal = absurd (let g : u ≡ Sign Assign ∷ (key_value.spell v ++ y) = cc in no_key (same ∙ ap first g))

pub step_held : (x : List ℕ) (after : List Token) → IsShortName x → (first after ≡ Some (Sign Assign) → ⊥) → (x ≡ find_word → first after ≡ Some (Sign Open) → ⊥) → Step argument moves (held_of x) (Name x ∷ after) after
step_held x after short no_key no_find = record {
  front = Name x ∷ [];
  split = refl;
  fits = λ limits ms fits. (name_fits limits x short, fits);
  spelled = λ ms. refl;
  back = λ limits other u y same fits follows equal. back_held x after limits other u y no_key no_find same fits follows equal;
}

-- a key with its value

back_key : (x : List ℕ) (limits : Limits) (other : Argument) (u y : List Token) → argument.Fits limits other → EndsArgument (first y) → Name x ∷ Sign Assign ∷ u ≡ argument.spell other ++ y → Back key_value (key x) limits other u y
back_key x limits (cursor (held z ms)) u y fits ends equal = absurd (let e : Sign Assign ∷ u ≡ moves.spell ms ++ y = cc in not_after_name (Sign Assign) u y ms (λ a. a) ends e)
back_key x limits (cursor (tree.found f)) u y fits ends equal = absurd (let e : Sign Assign ≡ Sign Open = cc in cc (e))
back_key x limits (string []) u y fits ends equal = absurd fits.1
back_key x limits (string (p ∷ more)) u y fits ends equal = absurd (let e : Name x ≡ Str p = cc in cc (e))
back_key x limits (int n) u y fits ends equal = absurd (let e : Name x ≡ Int n = cc in cc (e))
back_key x limits (pair a b) u y fits ends equal = absurd (let e : Name x ≡ Sign OpenBracket = cc in cc (e))
back_key x limits (key z v) u y fits ends equal =
    let e : Name z ≡ Name x = cc in
    let f : z ≡ x = cc (e) in
    record { tree = v; fits = fits.1; is = ap (λ n. key n v) f; equal = (let g : u ≡ key_value.spell v ++ y = cc in g); follows = ends }

pub step_key : (x : List ℕ) (after : List Token) → IsShortName x → Step argument key_value (key x) (Name x ∷ Sign Assign ∷ after) after
step_key x after short = record {
  front = Name x ∷ Sign Assign ∷ [];
  split = refl;
  fits = λ limits v fits. (name_fits limits x short, fits);
  spelled = λ v. refl;
  back = λ limits other u y same fits follows equal. back_key x limits other u y fits follows equal;
}

-- values of keys

yes_only : (limits : Limits) (other : KeyValue) (x y : List Token) → key_value.Fits limits other → Word w.True ∷ x ≡ key_value.spell other ++ y → other ≡ yes
yes_only limits (text []) x y fits equal = absurd fits.1
yes_only limits (text (p ∷ more)) x y fits equal = absurd (let e : Word w.True ≡ Str p = cc in cc)
yes_only limits yes x y fits equal = refl
yes_only limits no x y fits equal = absurd (let e : Word w.True ≡ Word w.False = cc in cc)

no_only : (limits : Limits) (other : KeyValue) (x y : List Token) → key_value.Fits limits other → Word w.False ∷ x ≡ key_value.spell other ++ y → other ≡ no
no_only limits (text []) x y fits equal = absurd fits.1
no_only limits (text (p ∷ more)) x y fits equal = absurd (let e : Word w.False ≡ Str p = cc in cc)
no_only limits yes x y fits equal = absurd (let e : Word w.False ≡ Word w.True = cc in cc)
no_only limits no x y fits equal = refl

pub taken_yes : (tokens rest : List Token) → tokens ≡ Word w.True ∷ rest → Taken key_value tokens yes rest
taken_yes tokens rest whole = record { fits = λ limits. tt; whole = whole; only = λ limits other x y same fits follows equal. yes_only limits other x y fits equal }

pub taken_no : (tokens rest : List Token) → tokens ≡ Word w.False ∷ rest → Taken key_value tokens no rest
taken_no tokens rest whole = record { fits = λ limits. tt; whole = whole; only = λ limits other x y same fits follows equal. no_only limits other x y fits equal }

back_text : (limits : Limits) (tokens : List Token) (other : KeyValue) (x y : List Token) → (first tokens ≡ Some (Word w.True) → ⊥) → (first tokens ≡ Some (Word w.False) → ⊥) → first tokens ≡ first x → key_value.Fits limits other → EndsArgument (first y) → x ≡ key_value.spell other ++ y → Back neighbours text limits other x y
back_text limits tokens (text pieces) x y no_yes no_no same fits ends equal = record { tree = pieces; fits = fits; is = refl; equal = equal; follows = no_string_behind (first y) ends }
back_text limits tokens yes x y no_yes no_no same fits ends equal = absurd (no_yes (same ∙ ap first equal))
back_text limits tokens no x y no_yes no_no same fits ends equal = absurd (no_no (same ∙ ap first equal))

pub step_text : (tokens : List Token) → (first tokens ≡ Some (Word w.True) → ⊥) → (first tokens ≡ Some (Word w.False) → ⊥) → Step key_value neighbours text tokens tokens
step_text tokens no_yes no_no = record {
  front = [];
  split = refl;
  fits = λ limits s fits. fits;
  spelled = λ s. refl;
  back = λ limits other x y same fits follows equal. back_text limits tokens other x y no_yes no_no same fits follows equal;
}

-- two strings

abbrev pub Pair3T : Type 0
Pair3T = (List (List ℕ)) × (Unit {0})

abbrev pub Pair3 : Phrase Token Pair3T
Pair3 = then neighbours (exactly (Sign CloseBracket ∷ []))

abbrev pub Pair2T : Type 0
Pair2T = (Unit {0}) × Pair3T

abbrev pub Pair2 : Phrase Token Pair2T
Pair2 = then (exactly (Sign Comma ∷ [])) Pair3

abbrev pub Pair1T : Type 0
Pair1T = (List (List ℕ)) × Pair2T

abbrev pub Pair1 : Phrase Token Pair1T
Pair1 = then neighbours Pair2

pub pair1 : Joint neighbours Pair2
pair1 = record { may = record { may = λ limits q y fits follows. tt }; some = (tt, ([] ∷ [], tt)); fits = λ limits. (tt, (one_string limits, tt)) }

pub pair2 : Joint (exactly (Sign Comma ∷ [])) Pair3
pair2 = record { may = record { may = λ limits q y fits follows. tt }; some = ([] ∷ [], tt); fits = λ limits. (one_string limits, tt) }

pub pair3 : Joint neighbours (exactly (Sign CloseBracket ∷ []))
pair3 = record { may = record { may = λ limits q y fits follows. tt }; some = tt; fits = λ limits. tt }

abbrev pub pair_of : Pair1T → Argument
pair_of s = pair s.0 s.1.1.0

back_pair : (limits : Limits) (other : Argument) (x y : List Token) → argument.Fits limits other → Sign OpenBracket ∷ x ≡ argument.spell other ++ y → Back Pair1 pair_of limits other x y
back_pair limits (cursor (held z ms)) x y fits equal = absurd (let e : Sign OpenBracket ≡ Name z = cc in cc (e))
back_pair limits (cursor (tree.found f)) x y fits equal = absurd (let e : Sign OpenBracket ≡ Name find_word = cc in cc (e))
back_pair limits (string []) x y fits equal = absurd fits.1
back_pair limits (string (p ∷ more)) x y fits equal = absurd (let e : Sign OpenBracket ≡ Str p = cc in cc (e))
back_pair limits (int n) x y fits equal = absurd (let e : Sign OpenBracket ≡ Int n = cc in cc (e))
back_pair limits (pair a b) x y fits equal =
    record {
      tree = (a, (tt, (b, tt)));
      fits = (fits.0, (tt, (fits.1, tt)));
      is = refl;
      equal = (let e : x ≡ (neighbours.spell a ++ (Sign Comma ∷ (neighbours.spell b ++ (Sign CloseBracket ∷ [])))) ++ y = cc in e);
      follows = tt;
    }
back_pair limits (key z v) x y fits equal = absurd (let e : Sign OpenBracket ≡ Name z = cc in cc (e))

pub step_pair : (after : List Token) → Step argument Pair1 pair_of (Sign OpenBracket ∷ after) after
step_pair after = record {
  front = Sign OpenBracket ∷ [];
  split = refl;
  fits = λ limits s fits. (fits.0, fits.1.1.0);
  spelled = λ s. refl;
  back = λ limits other x y same fits follows equal. back_pair limits other x y fits equal;
}

-- a string

other_tail : (u : Token) (tokens more : List Token) → StartsWithString (u ∷ tokens) → StartsWithString (u ∷ more)
other_tail (Str p) tokens more begins = tt
other_tail other tokens more begins = absurd begins

string_first : (tokens x : List Token) (t : Token) (more : List Token) → StartsWithString tokens → first tokens ≡ first x → x ≡ t ∷ more → StartsWithString (t ∷ more)
string_first [] x t more begins same is = absurd begins
string_first (u ∷ tokens) x t more begins same is = let e : Some u ≡ Some t = same ∙ ap first is in let f : u ≡ t = cc (e) in subst (λ (v : Token). StartsWithString (v ∷ more)) f (other_tail u tokens more begins)

back_string : (limits : Limits) (tokens : List Token) (other : Argument) (x y : List Token) → StartsWithString tokens → first tokens ≡ first x → argument.Fits limits other → EndsArgument (first y) → x ≡ argument.spell other ++ y → Back neighbours string limits other x y
back_string limits tokens (cursor (held z ms)) x y begins same fits ends equal = absurd (string_first tokens x (Name z) (moves.spell ms ++ y) begins same equal)
back_string limits tokens (cursor (tree.found f)) x y begins same fits ends equal = absurd (string_first tokens x (Name find_word) (Sign Open ∷ (found.spell f ++ y)) begins same equal)
back_string limits tokens (string pieces) x y begins same fits ends equal = record { tree = pieces; fits = fits; is = refl; equal = equal; follows = no_string_behind (first y) ends }
back_string limits tokens (int n) x y begins same fits ends equal = absurd (string_first tokens x (Int n) y begins same equal)
back_string limits tokens (pair a b) x y begins same fits ends equal =
    absurd (string_first tokens x (Sign OpenBracket) ((neighbours.spell a ++ (Sign Comma ∷ (neighbours.spell b ++ (Sign CloseBracket ∷ [])))) ++ y) begins same equal)
back_string limits tokens (key z v) x y begins same fits ends equal = absurd (string_first tokens x (Name z) (Sign Assign ∷ (key_value.spell v ++ y)) begins same equal)

pub step_string : (tokens : List Token) → StartsWithString tokens → Step argument neighbours string tokens tokens
step_string tokens begins = record {
  front = [];
  split = refl;
  fits = λ limits s fits. fits;
  spelled = λ s. refl;
  back = λ limits other x y same fits follows equal. back_string limits tokens other x y begins same fits follows equal;
}

-- a literal

back_int : (limits : Limits) (m : Literal) (other : Argument) (x y : List Token) → Some (Int m) ≡ first x → argument.Fits limits other → x ≡ argument.spell other ++ y → Back literal int limits other x y
back_int limits m (cursor (held z ms)) x y here fits equal = absurd (let e : Some (Int m) ≡ Some (Name z) = here ∙ ap first equal in cc (e))
back_int limits m (cursor (tree.found f)) x y here fits equal = absurd (let e : Some (Int m) ≡ Some (Name find_word) = here ∙ ap first equal in cc (e))
back_int limits m (string []) x y here fits equal = absurd fits.1
back_int limits m (string (p ∷ more)) x y here fits equal = absurd (let e : Some (Int m) ≡ Some (Str p) = here ∙ ap first equal in cc (e))
back_int limits m (int n) x y here fits equal = record { tree = n; fits = fits; is = refl; equal = equal; follows = tt }
back_int limits m (pair a b) x y here fits equal = absurd (let e : Some (Int m) ≡ Some (Sign OpenBracket) = here ∙ ap first equal in cc (e))
back_int limits m (key z v) x y here fits equal = absurd (let e : Some (Int m) ≡ Some (Name z) = here ∙ ap first equal in cc (e))

pub step_int : (tokens rest : List Token) (t : Token) (m : Literal) → tokens ≡ t ∷ rest → t ≡ Int m → Step argument literal int tokens tokens
step_int tokens rest t m front is = record {
  front = [];
  split = refl;
  fits = λ limits s fits. fits;
  spelled = λ s. refl;
  back = λ limits other x y same fits follows equal. back_int limits m other x y (sym (ap first front ∙ ap Some is) ∙ same) fits equal;
}

-- what begins an argument

abbrev pub StartsArgument : Option Token → Type 0
StartsArgument (Some (Name x)) = Unit {0}
StartsArgument (Some (Str x)) = Unit {0}
StartsArgument (Some (Int n)) = Unit {0}
StartsArgument (Some (Sign OpenBracket)) = Unit {0}
StartsArgument other = ⊥

pub starts_argument : (limits : Limits) (a : Argument) (y : List Token) → argument.Fits limits a → StartsArgument (first (argument.spell a ++ y))
starts_argument limits (cursor (held z ms)) y fits = tt
starts_argument limits (cursor (tree.found f)) y fits = tt
starts_argument limits (string []) y fits = absurd fits.1
starts_argument limits (string (p ∷ more)) y fits = tt
starts_argument limits (int n) y fits = tt
starts_argument limits (pair a b) y fits = tt
starts_argument limits (key z v) y fits = tt

no_argument : (tokens : List Token) → (StartsArgument (first tokens) → ⊥) → Refused argument syntax tokens (length tokens)
no_argument tokens none = record {
  before = [];
  rest = tokens;
  whole = refl;
  count = refl;
  begins = record { tree = int (Value 0); more = Int (Value 0) ∷ []; fits = literal_zero; spelled = refl };
  goes = tt;
  stuck = λ other x y same fits follows equal. none (subst StartsArgument (sym (same ∙ ap first equal)) (starts_argument unlimited other y fits));
}

by_token : (t : Token) (rest : List Token) → (StartsWithString (t ∷ rest) → ⊥) → (Some t ≡ Some (Sign OpenBracket) → ⊥) → ((n : List ℕ) → t ≡ Name n → ⊥) → ((n : Literal) → t ≡ Int n → ⊥) → StartsArgument (Some t) → ⊥
by_token (Name n) rest no_string no_bracket no_name no_int starts = no_name n refl
by_token (Str p) rest no_string no_bracket no_name no_int starts = no_string tt
by_token (Int n) rest no_string no_bracket no_name no_int starts = no_int n refl
by_token (Sign OpenBracket) rest no_string no_bracket no_name no_int starts = no_bracket refl
by_token other rest no_string no_bracket no_name no_int starts = starts

pub argument_other : (tokens rest : List Token) (t : Token) → tokens ≡ t ∷ rest → (StartsWithString tokens → ⊥) → (first tokens ≡ Some (Sign OpenBracket) → ⊥) → ((n : List ℕ) → t ≡ Name n → ⊥) → ((n : Literal) → t ≡ Int n → ⊥) → Refused argument syntax tokens (length tokens)
argument_other tokens rest t front no_string no_bracket no_name no_int =
    no_argument tokens (λ starts.
    by_token t rest (λ s. no_string (subst StartsWithString (sym front) s)) (λ e. no_bracket (ap first front ∙ e)) no_name no_int (subst StartsArgument (ap first front) starts))

pub argument_end : (tokens : List Token) → tokens ≡ [] → Refused argument syntax tokens 0
argument_end tokens none = rw none (no_argument [] (λ starts. starts))

-- the name with which an argument begins is too long
long_argument : (n : List ℕ) (other : Argument) (x y : List Token) → (IsShortName n → ⊥) → Some (Name n) ≡ first x → argument.Fits in_length other → x ≡ argument.spell other ++ y → ⊥
long_argument n (cursor (held z ms)) x y long here fits equal = let e : Some (Name n) ≡ Some (Name z) = here ∙ ap first equal in let f : Name n ≡ Name z = cc (e) in let g : n ≡ z = cc (f) in long (subst IsShortName (sym g) fits.0.1)
long_argument n (cursor (tree.found c)) x y long here fits equal = let e : Some (Name n) ≡ Some (Name find_word) = here ∙ ap first equal in let f : Name n ≡ Name find_word = cc (e) in let g : n ≡ find_word = cc (f) in long (subst IsShortName (sym g) find_short)
long_argument n (string []) x y long here fits equal = fits.1
long_argument n (string (p ∷ more)) x y long here fits equal = let e : Some (Name n) ≡ Some (Str p) = here ∙ ap first equal in cc (e)
long_argument n (int m) x y long here fits equal = let e : Some (Name n) ≡ Some (Int m) = here ∙ ap first equal in cc (e)
long_argument n (pair a b) x y long here fits equal = let e : Some (Name n) ≡ Some (Sign OpenBracket) = here ∙ ap first equal in cc (e)
long_argument n (key z v) x y long here fits equal = let e : Some (Name n) ≡ Some (Name z) = here ∙ ap first equal in let f : Name n ≡ Name z = cc (e) in let g : n ≡ z = cc (f) in long (subst IsShortName (sym g) fits.0.1)

pub argument_long : (tokens rest : List Token) (t : Token) (n : List ℕ) → tokens ≡ t ∷ rest → t ≡ Name n → (IsShortName n → ⊥) → Refused argument too_long tokens (length tokens)
argument_long tokens rest t n front is long =
    let here : first tokens ≡ Some (Name n) = ap first front ∙ ap Some is in
    record {
      before = [];
      rest = tokens;
      whole = refl;
      count = refl;
      begins = record { tree = int (Value 0); more = Int (Value 0) ∷ []; fits = literal_zero; spelled = refl };
      goes = record { tree = held_of n []; token = Name n; more = []; next = here; fits = (tt, tt); spelled = refl };
      stuck = λ other x y same fits follows equal. long_argument n other x y long (sym here ∙ same) fits equal;
    }

-- arguments behind the first one

abbrev pub AtClose : Option Token → Type 0
AtClose = Is (Sign Close)

pub arguments_apart : CommaApart argument (Sign Comma) AtClose
arguments_apart = record {
  comma_goes_on = λ e. let f : Sign Comma ≡ Sign Close = cc (e) in cc (f);
  comma_follows = tt;
  begins = λ limits a y fits ends. subst StartsArgument ends (starts_argument limits a y fits);
  last = λ o ends. subst EndsArgument (sym ends) tt;
}

pub more_next : (tokens rest after read : List Token) (list : List ArgText) (a : ArgText) → Commas argument (Sign Comma) AtClose tokens (map plain_argument list) rest → rest ≡ Sign Comma ∷ after → Taken argument after (plain_argument a) read → Commas argument (Sign Comma) AtClose tokens (map plain_argument (list ++ (a ∷ []))) read
more_next tokens rest after read list a items comma taken =
    subst (λ (l : List Argument). Commas argument (Sign Comma) AtClose tokens l read) (sym (map_snoc plain_argument list a))
    (commas_next argument (Sign Comma) AtClose tokens after read (map plain_argument list) (plain_argument a) arguments_apart
    (subst (Commas argument (Sign Comma) AtClose tokens (map plain_argument list)) comma items) taken)

pub more_err : (tokens rest after : List Token) (list : List Argument) (e : Refusal) → Commas argument (Sign Comma) AtClose tokens list rest → rest ≡ Sign Comma ∷ after → (first after ≡ Some (Sign Close) → ⊥) → Refuses argument after e → Refuses more_arguments tokens e
more_err tokens rest after list e items comma goes refuses =
    refuses_along argument after more_arguments tokens e
    (λ cause last refused. commas_refused argument (Sign Comma) AnyNumber AtClose tokens after list last arguments_apart
    (subst (Commas argument (Sign Comma) AtClose tokens list) comma items) (λ t. tt) goes refused) refuses

pub more_trailing : (tokens rest after : List Token) (list : List Argument) → Commas argument (Sign Comma) AtClose tokens list rest → rest ≡ Sign Comma ∷ after → first after ≡ Some (Sign Close) → Taken more_arguments tokens (list, true) after
more_trailing tokens rest after list items comma ends =
    commas_trailing argument (Sign Comma) AnyNumber AtClose tokens after list arguments_apart (subst (Commas argument (Sign Comma) AtClose tokens list) comma items) tt ends

pub more_done : (tokens rest : List Token) (list : List Argument) → Commas argument (Sign Comma) AtClose tokens list rest → (first rest ≡ Some (Sign Comma) → ⊥) → Taken more_arguments tokens (list, false) rest
more_done tokens rest list items none = commas_done argument (Sign Comma) AnyNumber AtClose tokens rest list items tt none

more_may : (list : List Argument) (trailing : Bool) (y : List Token) → AtClose (first y) → EndsArgument (first (spell_more argument (Sign Comma) list trailing ++ y))
more_may [] true y ends = tt
more_may [] false y ends = subst EndsArgument (sym ends) tt
more_may (a ∷ more) trailing y ends = tt

pub arguments1 : Joint argument more_arguments
arguments1 = record { may = record { may = λ limits q y fits follows. more_may q.0 q.1 y follows }; some = ([], false); fits = λ limits. (tt, keeps_all limits tt tt tt) }

abbrev pub ArgumentsT : Type 0
ArgumentsT = Argument × (List Argument × Bool)

abbrev pub arguments_of : ArgumentsT → Arguments
arguments_of s = record { head = s.0; more = s.1.0; trailing = s.1.1 }

pub step_arguments : (tokens : List Token) → Step arguments (then argument more_arguments) arguments_of tokens tokens
step_arguments tokens = record {
  front = [];
  split = refl;
  fits = λ limits s fits. fits;
  spelled = λ s. refl;
  back = λ limits other x y same fits follows equal. record { tree = (other.head, (other.more, other.trailing)); fits = fits; is = refl; equal = equal; follows = follows };
}
