-- Texts that are names.
use Rattle.std.proofs.Common.{◌≡◌, ℕ, ◌+◌, ◌≤◌, List, [], ◌∷◌, ◌++◌, Option, Some, None, Bool, true, false, if◌then◌else◌, nat_lt, nat_eq, length, take, drop, Result, Ok, Err, refl, sym, ap, ◌∙◌, subst, arith}
use Rattle.std.specs.Prelude.{take_while, bytes_eq, codes}
use Rattle.std.specs.List.{prefix_len}
use Rattle.std.specs.Char.{is_ascii_digit}
use Rattle.std.proofs.lemmas.List.{length-append, length-drop, take-append-drop, append-nil}
use Rattle.text_lexer.specs.Bytes.{is_printable, is_quote, begins_name, goes_on_name}
use Rattle.text_lexer.specs.Quoted.{quoted}
use Rattle.text_lexer.specs.Lexeme.{word_of, decorator_of, sign_of, sign_with_equals, string_ending, string_lexeme, word_token, name_token, name_lexeme, decorated, decorator_lexeme, digits_lexeme, literal_lexeme, lone_lexeme, longer_lexeme, sign_lexeme, lexeme_of}
use Rattle.text_lexer.specs.declared.token.Word.{Word}
use Rattle.text_lexer.specs.declared.token.Decorator.{Decorator}
use Rattle.text_lexer.specs.declared.token.Sign.{Sign}
use Rattle.text_lexer.specs.declared.token.Sign.TheVariants.{Any}
use Rattle.text_lexer.specs.declared.token.Token.{Token}
use Rattle.text_lexer.specs.declared.token.Token.TheVariants as token
use Rattle.text_lexer.specs.declared.token.Fault.TheVariants.{Byte}
use Rattle.text_lexer.specs.declared.quoted.Ending.{Ending}
use Rattle.text_lexer.specs.declared.quoted.Ending.TheVariants.{Closed, Unclosed, Foreign}
use Rattle.text_lexer.specs.declared.quoted.Quoted.{Quoted}
use Rattle.text_lexer.specs.declared.lexeme.Lexeme.{Lexeme}
use Rattle.exo_reader.specs.declared.unit.ReadError.{ReadError}
use Rattle.schedule_text.specs.Patterns.Errors.{kind_at, error_in, UnlessMemory}
use Rattle.schedule_text.proofs.OfPatterns.Faults.{memory_or, unless_memory}
use Rattle.schedule_text.specs.Patterns.Names.{begins, IsName, left_over, fault_by, name_fault}
use Rattle.schedule_text.specs.Patterns.Names.{ReadsFound, ReadsName, NamesAreOne}

-- ---- pieces that are no names

abbrev NoName : Lexeme → Type 0
NoName piece = (x : List ℕ) → piece.token ≡ token.Name x → ⊥

either_none : (c : Bool) (a b : Lexeme) → NoName a → NoName b → NoName (if c then a else b)
either_none true a b one two = one
either_none false a b one two = two

no_literal : (digits : List ℕ) → NoName (literal_lexeme digits)
no_literal [] x is = cc (is)
no_literal (d ∷ digits) x is = either_none (nat_eq d 0x30) (literal_lexeme (0x30 ∷ [])) (digits_lexeme (d ∷ digits)) (λ y e. cc (e)) (λ y e. cc (e)) x is

no_string_by : (ending : Ending) (q : Quoted) → NoName (string_ending ending q)
no_string_by Closed q x is = cc (is)
no_string_by Foreign q x is = cc (is)
no_string_by Unclosed q x is = cc (is)

no_decorated : (o : Option Decorator) (width : ℕ) → NoName (decorated o width)
no_decorated (Some d) width x is = cc (is)
no_decorated None width x is = cc (is)

no_lone : (o : Option Sign) → NoName (lone_lexeme o)
no_lone (Some s) x is = cc (is)
no_lone None x is = cc (is)

no_longer : (o : Option Sign) (b : ℕ) → NoName (longer_lexeme o b)
no_longer (Some s) b x is = cc (is)
no_longer None b x is = no_lone (sign_of b) x is

no_sign : (b : ℕ) (rest : List ℕ) → NoName (sign_lexeme b rest)
no_sign b [] = no_lone (sign_of b)
no_sign b (c ∷ rest) = either_none (nat_eq c 0x3D) (longer_lexeme (sign_with_equals b) b) (lone_lexeme (sign_of b)) (no_longer (sign_with_equals b) b) (no_lone (sign_of b))

-- ---- the piece of a name

-- what the text of a name is not
record Named (text x : List ℕ) : Type 0 where
  same : x ≡ text
  no_any : bytes_eq text (codes "_") ≡ false
  no_word : word_of text ≡ None

named_by : (c : Bool) (o : Option Word) (text x : List ℕ) → bytes_eq text (codes "_") ≡ c → word_of text ≡ o → (if c then token.Sign Any else word_token o text) ≡ token.Name x → Named text x
named_by true o text x one two is = absurd (cc (is))
named_by false (Some w) text x one two is = absurd (cc (is))
named_by false None text x one two is = record { same = let e : x ≡ text = cc (is) in e; no_any = one; no_word = two }

-- the text begins with a name of these bytes
record Found (text x : List ℕ) : Type 0 where
  starts : begins text ≡ true
  is : Named (take_while goes_on_name text) x
  width : (lexeme_of text).width ≡ length x

found_by : (c : Bool) (b : ℕ) (rest x : List ℕ) (other : Lexeme) → begins_name b ≡ c → NoName other → (if c then name_lexeme (take_while goes_on_name (b ∷ rest)) else other).token ≡ token.Name x → (c ≡ true) × Named (take_while goes_on_name (b ∷ rest)) x
found_by true b rest x other one none is = (refl, named_by (bytes_eq (take_while goes_on_name (b ∷ rest)) (codes "_")) (word_of (take_while goes_on_name (b ∷ rest))) (take_while goes_on_name (b ∷ rest)) x refl refl is)
found_by false b rest x other one none is = absurd (none x is)

-- a piece that begins with no letter
abbrev other_piece : ℕ → List ℕ → Lexeme
other_piece b rest =
    if is_ascii_digit b then literal_lexeme (take_while is_ascii_digit (b ∷ rest))
    else (if is_quote b then string_lexeme (quoted b rest)
    else (if nat_eq b 0x40 then decorator_lexeme (take_while goes_on_name rest)
    else (if is_printable b then sign_lexeme b rest
    else record { token = token.Bad Byte; width = 1 })))

no_other : (b : ℕ) (rest : List ℕ) → NoName (other_piece b rest)
no_other b rest =
    either_none (is_ascii_digit b) _ _ (no_literal (take_while is_ascii_digit (b ∷ rest)))
    (either_none (is_quote b) _ _ (no_string_by (quoted b rest).ending (quoted b rest))
    (either_none (nat_eq b 0x40) _ _ (no_decorated (decorator_of (take_while goes_on_name rest)) (length (take_while goes_on_name rest)))
    (either_none (is_printable b) _ _ (no_sign b rest) (λ x is. cc (is)))))

width_by : (c : Bool) (text : List ℕ) (other : Lexeme) → c ≡ true → (if c then name_lexeme text else other).width ≡ length text
width_by true text other is = refl
width_by false text other is = absurd (cc (is))

found : (text x : List ℕ) → (lexeme_of text).token ≡ token.Name x → Found text x
found [] x is = absurd (cc (is))
found (b ∷ rest) x is =
    let by = found_by (begins_name b) b rest x (other_piece b rest) refl (no_other b rest) is in
    record {
      starts = by.0;
      is = by.1;
      width = width_by (begins_name b) (take_while goes_on_name (b ∷ rest)) (other_piece b rest) by.0 ∙ ap length (sym by.1.same);
    }

-- a name behind which nothing stands is the text

no_drop : (n : ℕ) (text : List ℕ) → drop n text ≡ [] → length text ≤ n
no_drop n text empty = omega (arith, ap length empty, length-drop n text)

empty_by : (list : List ℕ) → length list ≡ 0 → list ≡ []
empty_by [] none = refl
empty_by (b ∷ rest) none = absurd (omega (arith, none))

all_taken : (n : ℕ) (text : List ℕ) → length text ≤ length (take n text) → take n text ≡ text
all_taken n text long =
    let parts : take n text ++ drop n text ≡ text = take-append-drop n text in
    let none : drop n text ≡ [] = empty_by (drop n text) (omega (arith, long, ap length parts, length-append (take n text) (drop n text))) in
    sym (append-nil (take n text)) ∙ ap (λ l. take n text ++ l) (sym none) ∙ parts

whole : (text x : List ℕ) → Found text x → drop (lexeme_of text).width text ≡ [] → take_while goes_on_name text ≡ text
whole text x f empty = all_taken (prefix_len goes_on_name text) text (omega (arith, no_drop (lexeme_of text).width text empty, f.width, ap length f.is.same))

left_none : (column : ℕ) (bytes : List ℕ) → left_over column bytes ≡ None → bytes ≡ []
left_none column [] none = refl
left_none column (b ∷ rest) none = absurd (cc (none))

long_none : (c : Bool) (e : ReadError) (o : Option ReadError) → (if c then Some e else o) ≡ None → (c ≡ false) × (o ≡ None)
long_none true e o none = absurd (cc (none))
long_none false e o none = (refl, none)

-- what holds where nothing is wrong behind a name
behind_none : (width : ℕ) (text x : List ℕ) → fault_by (token.Name x) width text ≡ None → (nat_lt 63 (length x) ≡ false) × (drop width text ≡ [])
behind_none width text x none =
    let both = long_none (nat_lt 63 (length x)) _ _ none in
    (both.0, left_none (width + 1) (drop width text) both.1)

pub name_is : (text x : List ℕ) → (lexeme_of text).token ≡ token.Name x → fault_by (token.Name x) (lexeme_of text).width text ≡ None → x ≡ text
name_is text x is none =
    let f : Found text x = found text x is in
    f.is.same ∙ whole text x f (behind_none (lexeme_of text).width text x none).1

pub fault_is : (text : List ℕ) (o : Option ReadError) (t : Token) → (lexeme_of text).token ≡ t → fault_by t (lexeme_of text).width text ≡ o → name_fault text ≡ o
fault_is text o t is fault = ap (λ (u : Token). fault_by u (lexeme_of text).width text) is ∙ fault

other_fault : (t : Token) (width : ℕ) (text : List ℕ) → ((x : List ℕ) → t ≡ token.Name x → ⊥) → fault_by t width text ≡ Some (error_in 1 (kind_at text))
other_fault (token.Name x) width text none = absurd (none x refl)
other_fault (token.Int n) width text none = refl
other_fault (token.Str s) width text none = refl
other_fault (token.Word w) width text none = refl
other_fault (token.Sign s) width text none = refl
other_fault (token.Decorator d) width text none = refl
other_fault token.NewLine width text none = refl
other_fault token.Indent width text none = refl
other_fault token.Dedent width text none = refl
other_fault (token.Bad f) width text none = refl

pub no_name : (text : List ℕ) (t : Token) → (lexeme_of text).token ≡ t → ((x : List ℕ) → t ≡ token.Name x → ⊥) → name_fault text ≡ Some (error_in 1 (kind_at text))
no_name text t is none = fault_is text _ t is (other_fault t (lexeme_of text).width text none)

-- what is said of the first token is said of the text
pub reads_name : (text x : List ℕ) (piece : Lexeme) (result : Result (List ℕ) ReadError) → piece ≡ lexeme_of text → piece.token ≡ token.Name x → ReadsFound x piece.width text result → ReadsName text result
reads_name text x piece (Ok y) one is m =
    let here : (lexeme_of text).token ≡ token.Name x = ap (λ (q : Lexeme). q.token) (sym one) ∙ is in
    let none : fault_by (token.Name x) (lexeme_of text).width text ≡ None = subst (λ (q : Lexeme). fault_by (token.Name x) q.width text ≡ None) one m.1 in
    (m.0 ∙ name_is text x here none, fault_is text None (token.Name x) here none)
reads_name text x piece (Err e) one is m =
    let here : (lexeme_of text).token ≡ token.Name x = ap (λ (q : Lexeme). q.token) (sym one) ∙ is in
    memory_or e.kind (λ some. fault_is text (Some e) (token.Name x) here (subst (λ (q : Lexeme). fault_by (token.Name x) q.width text ≡ Some e) one some)) m

pub reads_no_name : (text : List ℕ) (piece : Lexeme) → piece ≡ lexeme_of text → ((x : List ℕ) → piece.token ≡ token.Name x → ⊥) → UnlessMemory (kind_at text) (name_fault text ≡ Some (error_in 1 (kind_at text)))
reads_no_name text piece one none = unless_memory (kind_at text) _ (no_name text piece.token (ap (λ (q : Lexeme). q.token) (sym one)) none)

-- ---- the law

short_by : (n : ℕ) → nat_lt 63 n ≡ false → n ≤ 63
short_by n is = grind (arith)

spelled_by : (t : Token) (text : List ℕ) → (lexeme_of text).token ≡ t → fault_by t (lexeme_of text).width text ≡ None → IsName text
spelled_by (token.Name x) text is none =
    let f : Found text x = found text x is in
    let all : take_while goes_on_name text ≡ text = whole text x f (behind_none (lexeme_of text).width text x none).1 in
    let same : x ≡ text = f.is.same ∙ all in
    record {
      begins = f.starts;
      goes_on = all;
      no_any = subst (λ (l : List ℕ). bytes_eq l (codes "_") ≡ false) all f.is.no_any;
      no_word = subst (λ (l : List ℕ). word_of l ≡ None) all f.is.no_word;
      short = subst (λ (l : List ℕ). length l ≤ 63) same (short_by (length x) (behind_none (lexeme_of text).width text x none).0);
    }
spelled_by (token.Int n) text is none = absurd (cc (none))
spelled_by (token.Str s) text is none = absurd (cc (none))
spelled_by (token.Word w) text is none = absurd (cc (none))
spelled_by (token.Sign s) text is none = absurd (cc (none))
spelled_by (token.Decorator d) text is none = absurd (cc (none))
spelled_by token.NewLine text is none = absurd (cc (none))
spelled_by token.Indent text is none = absurd (cc (none))
spelled_by token.Dedent text is none = absurd (cc (none))
spelled_by (token.Bad f) text is none = absurd (cc (none))

if_true : {X : Type 0} (c : Bool) (a b : X) → c ≡ true → (if c then a else b) ≡ a
if_true true a b is = refl
if_true false a b is = absurd (cc (is))

if_false : {X : Type 0} (c : Bool) (a b : X) → c ≡ false → (if c then a else b) ≡ b
if_false true a b is = absurd (cc (is))
if_false false a b is = refl

piece_by : (text : List ℕ) → IsName text → lexeme_of text ≡ name_lexeme text
piece_by [] n = absurd (let e : false ≡ true = n.begins in cc (e))
piece_by (b ∷ rest) n = if_true (begins_name b) _ (other_piece b rest) n.begins ∙ ap name_lexeme n.goes_on

token_by : (text : List ℕ) → IsName text → name_token text ≡ token.Name text
token_by text n = if_false (bytes_eq text (codes "_")) (token.Sign Any) (word_token (word_of text) text) n.no_any ∙ ap (λ (o : Option Word). word_token o text) n.no_word

long_by : (n : ℕ) → n ≤ 63 → nat_lt 63 n ≡ false
long_by n short = grind (arith)

drop_all : (text : List ℕ) → drop (length text) text ≡ []
drop_all text = empty_by (drop (length text) text) (omega (arith, length-drop (length text) text))

all_by : (text : List ℕ) → IsName text → name_fault text ≡ None
all_by text n =
    ap (λ (q : Lexeme). fault_by q.token q.width text) (piece_by text n)
    ∙ ap (λ (t : Token). fault_by t (length text) text) (token_by text n)
    ∙ if_false (nat_lt 63 (length text)) _ _ (long_by (length text) n.short)
    ∙ ap (left_over (length text + 1)) (drop_all text)

same_some : {a b : ReadError} {o : Option ReadError} → o ≡ Some a → o ≡ Some b → a ≡ b
same_some one two = let e : Some _ ≡ Some _ = sym one ∙ two in cc (e)

some_or_none : {a : ReadError} {o : Option ReadError} → o ≡ None → o ≡ Some a → ⊥
some_or_none one two = let e : None ≡ Some _ = sym one ∙ two in cc (e)

pub names_are_one : NamesAreOne
names_are_one = record {
  error = λ text a b one two. same_some one two;
  no_error = λ text e one two. some_or_none one two;
  spelled = λ text none. spelled_by (lexeme_of text).token text refl none;
  all = all_by;
}
