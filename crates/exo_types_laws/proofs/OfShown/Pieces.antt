-- Texts that are read piece by piece.
use Rattle.std.proofs.Common.{flat_map, map, ◌≡◌, ℕ, zero, suc, ◌+◌, ◌-◌, ◌*◌, ◌%◌, ◌^◌, ◌<◌, List, [], ◌∷◌, ◌++◌, Bool, true, false, cond, nat_eq, nat_lt, eqb, length, refl, sym, ap, ◌∙◌, append_assoc, codes, take, get_or, take_while, arith, subst, ne_eqb, lt-ltb}
use Rattle.std.proofs.lemmas.Bool.Decides.{nat_tests}
use Rattle.std.proofs.lemmas.Fmt.{decimal_by_steps, first_decimal, decimal_digit}
use Rattle.std.specs.Prelude.{decimal}
use Rattle.std.specs.List.{prefix_len}
use Rattle.std.specs.Char.{is_ascii_digit}
use Rattle.std.proofs.Math.Seq.{take-append_seam}
use Rattle.text_lexer.specs.Bytes.{goes_on_name, begins_name}
use Rattle.text_lexer.specs.Lexeme.{lexeme_of, name_lexeme, name_token, literal_lexeme, literal, decimal as read_decimal}
use Rattle.text_lexer.specs.declared.lexeme.Lexeme.{Lexeme}
use Rattle.text_lexer.specs.declared.token.Literal.TheVariants.{Value}
use Rattle.text_lexer.specs.declared.token.Token.{Token}
use Rattle.text_lexer.specs.declared.token.Token.TheVariants as t
use Rattle.text_lexer.specs.declared.token.Word.TheVariants as w
use Rattle.text_lexer.specs.declared.token.Sign.{Sign}
use Rattle.text_lexer.specs.declared.token.Sign.TheVariants as s
use Rattle.exo_types_laws.specs.Shown.Names.{IsName, BeginsName, AreNameBytes, Each}
use Rattle.exo_types_laws.proofs.OfShown.Bare.{bare, skip}

-- what may stand behind a name, a number or a sign, so that it ends there
abbrev pub Free : List ℕ → Type 0
Free [] = Unit {0}
Free (b ∷ more) = (goes_on_name b ≡ false) × (nat_eq b 0x3D ≡ false)

abbrev pub Any : List ℕ → Type 0
Any rest = Unit {0}

-- no line ends in the text
abbrev pub OneLine : List ℕ → Type 0
OneLine [] = Unit {0}
OneLine (b ∷ more) = (nat_lt b 0x20 ≡ false) × OneLine more

-- the text is read as these tokens, wherever such a border stands behind it
pub record Reads (Border : List ℕ → Type 0) (text : List ℕ) (tokens : List Token) : Type 0 where
  pub line : OneLine text
  pub goes : (rest : List ℕ) → Border rest → bare 0 (text ++ rest) ≡ tokens ++ bare 0 rest

pub one_line_append : (x y : List ℕ) → OneLine x → OneLine y → OneLine (x ++ y)
one_line_append [] y l k = k
one_line_append (b ∷ x) y l k = (l.0, one_line_append x y l.1 k)

pub join : (B C : List ℕ → Type 0) (x y : List ℕ) (us vs : List Token) → Reads B x us → ((rest : List ℕ) → C rest → B (y ++ rest)) → Reads C y vs → Reads C (x ++ y) (us ++ vs)
join B C x y us vs r border q = record {
  line = one_line_append x y r.line q.line;
  goes = λ rest free. ap (bare 0) (append_assoc x y rest) ∙ r.goes (y ++ rest) (border rest free) ∙ ap (λ (ts : List Token). us ++ ts) (q.goes rest free) ∙ sym (append_assoc us vs (bare 0 rest));
}

pub spelled_as : (B : List ℕ → Type 0) (x : List ℕ) (us vs : List Token) → us ≡ vs → Reads B x us → Reads B x vs
spelled_as B x us vs e r = record { line = r.line; goes = λ rest free. r.goes rest free ∙ ap (λ (ts : List Token). ts ++ bare 0 rest) e }

pub weaker : (x : List ℕ) (us : List Token) → Reads Any x us → Reads Free x us
weaker x us r = record { line = r.line; goes = λ rest free. r.goes rest tt }

-- ---- one piece

-- a piece of so many bytes
piece_reads : (b : ℕ) (more rest : List ℕ) (piece : Lexeme) → eqb b 0x20 ≡ false → eqb b 0x23 ≡ false → lexeme_of (b ∷ (more ++ rest)) ≡ piece → piece.width ≡ suc (length more) → bare 0 (b ∷ (more ++ rest)) ≡ piece.token ∷ bare 0 rest
piece_reads b more rest piece blank comment is width =
    let w : piece.width - 1 ≡ length more = omega arith in
    rw (blank, comment, is) (ap (λ (n : ℕ). piece.token ∷ bare n (more ++ rest)) w ∙ ap (λ (ts : List Token). piece.token ∷ ts) (skip more rest))

abbrev AllGo : (ℕ → Bool) → List ℕ → Type 0
AllGo p [] = Unit {0}
AllGo p (b ∷ more) = (p b ≡ true) × AllGo p more

-- bytes that pass before something that does not
prefix : (p : ℕ → Bool) (x rest : List ℕ) → prefix_len p rest ≡ 0 → AllGo p x → prefix_len p (x ++ rest) ≡ length x
prefix p [] rest stops go = stops
prefix p (b ∷ x) rest stops go = rw go.0 (ap (λ (n : ℕ). 1 + n) (prefix p x rest stops go.1) ∙ omega arith)

taken : (p : ℕ → Bool) (x rest : List ℕ) → prefix_len p rest ≡ 0 → AllGo p x → take_while p (x ++ rest) ≡ x
taken p x rest stops go = ap (λ (n : ℕ). take n (x ++ rest)) (prefix p x rest stops go) ∙ take-append_seam x rest

name_stops : (rest : List ℕ) → Free rest → prefix_len goes_on_name rest ≡ 0
name_stops [] free = refl
name_stops (b ∷ more) free = rw free.0 refl

go_names : (x : List ℕ) → AreNameBytes x → AllGo goes_on_name x
go_names [] h = tt
go_names (b ∷ x) h = (h.0, go_names x h.1)

pub taken_names : (x rest : List ℕ) → Free rest → AreNameBytes x → take_while goes_on_name (x ++ rest) ≡ x
taken_names x rest free go = taken goes_on_name x rest (name_stops rest free) (go_names x go)

name_line : (x : List ℕ) → AreNameBytes x → OneLine x
name_line [] h = tt
name_line (b ∷ x) h =
    let go : goes_on_name b ≡ true = h.0 in
    (grind (arith, nat_tests, go), name_line x h.1)

chosen : {A : Type 0} (q : Bool) (x y : A) → q ≡ true → cond q x y ≡ x
chosen true x y e = refl
chosen false x y e = absurd (grind (arith, e))

other : {A : Type 0} (q : Bool) (x y : A) → q ≡ false → cond q x y ≡ y
other true x y e = absurd (grind (arith, e))
other false x y e = refl

piece_name : (b : ℕ) (r : List ℕ) → begins_name b ≡ true → lexeme_of (b ∷ r) ≡ name_lexeme (take_while goes_on_name (b ∷ r))
piece_name b r is = chosen (begins_name b) (name_lexeme (take_while goes_on_name (b ∷ r))) _ is

piece_digits : (b : ℕ) (r : List ℕ) → begins_name b ≡ false → is_ascii_digit b ≡ true → lexeme_of (b ∷ r) ≡ literal_lexeme (take_while is_ascii_digit (b ∷ r))
piece_digits b r nameless is = other (begins_name b) (name_lexeme (take_while goes_on_name (b ∷ r))) _ nameless ∙ chosen (is_ascii_digit b) (literal_lexeme (take_while is_ascii_digit (b ∷ r))) _ is

-- a name, or a word
pub named : (x : List ℕ) → BeginsName x → AreNameBytes x → Reads Free x (name_token x ∷ [])
named [] begins bytes = absurd begins
named (b ∷ more) begins bytes =
    let is : begins_name b ≡ true = begins in
    record {
      line = name_line (b ∷ more) bytes;
      goes = λ rest free.
          piece_reads b more rest (name_lexeme (b ∷ more)) (grind (arith, nat_tests, is)) (grind (arith, nat_tests, is))
          (piece_name b (more ++ rest) is ∙ ap name_lexeme (taken goes_on_name (b ∷ more) rest (name_stops rest free) (go_names (b ∷ more) bytes))) refl;
    }

name_is : (x : List ℕ) → IsName x → name_token x ≡ t.Name x
name_is x n = rw (n.some, n.free) refl

pub name_reads : (x : List ℕ) → IsName x → Reads Free x (t.Name x ∷ [])
name_reads x n = spelled_as Free x (name_token x ∷ []) (t.Name x ∷ []) (ap (λ (token : Token). token ∷ []) (name_is x n)) (named x n.begins n.bytes)

-- ---- numbers

digit_by : (q d : Bool) → cond q true d ≡ false → d ≡ false
digit_by true d e = absurd (grind (arith, e))
digit_by false d e = e

digit_stops : (rest : List ℕ) → Free rest → prefix_len is_ascii_digit rest ≡ 0
digit_stops [] free = refl
digit_stops (b ∷ more) free = rw (digit_by (begins_name b) (is_ascii_digit b) free.0) refl

go_append : (p : ℕ → Bool) (x y : List ℕ) → AllGo p x → AllGo p y → AllGo p (x ++ y)
go_append p [] y l k = k
go_append p (b ∷ x) y l k = (l.0, go_append p x y l.1 k)

read_more : (n d : ℕ) (ds : List ℕ) → read_decimal n (ds ++ (d ∷ [])) ≡ read_decimal n ds * 10 + (d - 48)
read_more n d [] = refl
read_more n d (c ∷ ds) = read_more (n * 10 + (c - 0x30)) d ds

record IsNumber (n : ℕ) (ds : List ℕ) : Type 0 where
  digits : AllGo is_ascii_digit ds
  value : read_decimal 0 ds ≡ n

digit : (m : ℕ) → m < 10 → is_ascii_digit (48 + m) ≡ true
digit m l = grind (arith, nat_tests)

number_of : (n : ℕ) → n < 2 ^ 64 → IsNumber n (decimal n)
number_of =
    decimal_by_steps IsNumber
    (λ m l. record { digits = (digit m l, tt); value = omega arith })
    (λ m ds l h. record {
      digits = go_append is_ascii_digit ds ((48 + m % 10) ∷ []) h.digits (digit (m % 10) (omega arith), tt);
      value = read_more 0 (48 + m % 10) ds ∙ ap (λ (v : ℕ). v * 10 + (48 + m % 10 - 48)) h.value ∙ omega arith;
    })

digits_line : (x : List ℕ) → AllGo is_ascii_digit x → OneLine x
digits_line [] h = tt
digits_line (b ∷ x) h =
    let go : is_ascii_digit b ≡ true = h.0 in
    (grind (arith, nat_tests, go), digits_line x h.1)

digits_read : (n : ℕ) (ds : List ℕ) → IsNumber n ds → (0 < length ds) → literal_lexeme ds ≡ record { token = t.Int (Value n); width = length ds } → Reads Free ds (t.Int (Value n) ∷ [])
digits_read n [] is some piece = absurd (omega arith)
digits_read n (d ∷ ds) is some piece =
    let go : is_ascii_digit d ≡ true = is.digits.0 in
    let nameless : begins_name d ≡ false = grind (arith, nat_tests, go) in
    record {
      line = digits_line (d ∷ ds) is.digits;
      goes = λ rest free.
          piece_reads d ds rest (record { token = t.Int (Value n); width = length (d ∷ ds) }) (grind (arith, nat_tests, go)) (grind (arith, nat_tests, go))
          (piece_digits d (ds ++ rest) nameless go ∙ ap literal_lexeme (taken is_ascii_digit (d ∷ ds) rest (digit_stops rest free) is.digits) ∙ piece) refl;
    }

literal_is : (n : ℕ) (ds : List ℕ) → read_decimal 0 ds ≡ n → n < 0x80000000 → literal ds ≡ Value n
literal_is n ds e small = rw (e, lt-ltb n 0x80000000 small) refl

digits_piece_is : (n : ℕ) (ds : List ℕ) → IsNumber n ds → n < 0x80000000 → 48 < get_or ds 0 0 → literal_lexeme ds ≡ record { token = t.Int (Value n); width = length ds }
digits_piece_is n [] is small first = absurd (omega arith)
digits_piece_is n (d ∷ ds) is small first =
    let ne : eqb d 0x30 ≡ false = ne_eqb d 0x30 (λ e. omega (arith, e, first)) in
    rw ne (ap (λ l. record { token = t.Int l; width = length (d ∷ ds) }) (literal_is n (d ∷ ds) is.value small))

some_first : (ds : List ℕ) → 48 < get_or ds 0 0 → 0 < length ds
some_first [] h = absurd (omega arith)
some_first (d ∷ ds) h = omega arith

pub number_reads : (n : ℕ) → n < 0x80000000 → Reads Free (decimal n) (t.Int (Value n) ∷ [])
number_reads zero small =
    subst (λ (ds : List ℕ). Reads Free ds (t.Int (Value 0) ∷ [])) (sym (decimal_digit 0 (omega arith))) (digits_read 0 (48 ∷ []) (record { digits = (refl, tt); value = refl }) (omega arith) refl)
number_reads (suc n) small =
    let is : IsNumber (suc n) (decimal (suc n)) = number_of (suc n) (omega arith) in
    let first : 48 < get_or (decimal (suc n)) 0 0 = first_decimal (suc n) (omega arith) (omega arith) in
    digits_read (suc n) (decimal (suc n)) is (some_first (decimal (suc n)) first) (digits_piece_is (suc n) (decimal (suc n)) is small first)

-- ---- signs

abbrev of_sign : Sign → Lexeme
of_sign sign = record { token = t.Sign sign; width = 1 }

abbrev first_of : Lexeme → List ℕ → List Token
first_of piece rest = piece.token ∷ bare (piece.width - 1) rest

lone_by : (sign : Sign) (q : Bool) (rest : List ℕ) → first_of (cond q (of_sign sign) (of_sign sign)) rest ≡ t.Sign sign ∷ bare 0 rest
lone_by sign true rest = refl
lone_by sign false rest = refl

pub open_goes : (rest : List ℕ) → bare 0 (0x28 ∷ rest) ≡ t.Sign s.Open ∷ bare 0 rest
open_goes [] = refl
open_goes (c ∷ more) = lone_by s.Open (eqb c 0x3D) (c ∷ more)

pub open_reads : Reads Any (codes "(") (t.Sign s.Open ∷ [])
open_reads = record { line = (refl, tt); goes = λ rest any. open_goes rest }

close_goes : (rest : List ℕ) → bare 0 (0x29 ∷ rest) ≡ t.Sign s.Close ∷ bare 0 rest
close_goes [] = refl
close_goes (c ∷ more) = lone_by s.Close (eqb c 0x3D) (c ∷ more)

pub close_reads : Reads Any (codes ")") (t.Sign s.Close ∷ [])
close_reads = record { line = (refl, tt); goes = λ rest any. close_goes rest }

open_bracket_goes : (rest : List ℕ) → bare 0 (0x5B ∷ rest) ≡ t.Sign s.OpenBracket ∷ bare 0 rest
open_bracket_goes [] = refl
open_bracket_goes (c ∷ more) = lone_by s.OpenBracket (eqb c 0x3D) (c ∷ more)

pub open_bracket_reads : Reads Any (codes "[") (t.Sign s.OpenBracket ∷ [])
open_bracket_reads = record { line = (refl, tt); goes = λ rest any. open_bracket_goes rest }

close_bracket_goes : (rest : List ℕ) → bare 0 (0x5D ∷ rest) ≡ t.Sign s.CloseBracket ∷ bare 0 rest
close_bracket_goes [] = refl
close_bracket_goes (c ∷ more) = lone_by s.CloseBracket (eqb c 0x3D) (c ∷ more)

pub close_bracket_reads : Reads Any (codes "]") (t.Sign s.CloseBracket ∷ [])
close_bracket_reads = record { line = (refl, tt); goes = λ rest any. close_bracket_goes rest }

comma_goes : (rest : List ℕ) → bare 0 (0x2C ∷ rest) ≡ t.Sign s.Comma ∷ bare 0 rest
comma_goes [] = refl
comma_goes (c ∷ more) = lone_by s.Comma (eqb c 0x3D) (c ∷ more)

pub comma_reads : Reads Any (codes ",") (t.Sign s.Comma ∷ [])
comma_reads = record { line = (refl, tt); goes = λ rest any. comma_goes rest }

pub colon_goes : (rest : List ℕ) → bare 0 (0x3A ∷ rest) ≡ t.Sign s.Colon ∷ bare 0 rest
colon_goes [] = refl
colon_goes (c ∷ more) = lone_by s.Colon (eqb c 0x3D) (c ∷ more)

pub colon_reads : Reads Any (codes ":") (t.Sign s.Colon ∷ [])
colon_reads = record { line = (refl, tt); goes = λ rest any. colon_goes rest }

dot_goes : (rest : List ℕ) → bare 0 (0x2E ∷ rest) ≡ t.Sign s.Dot ∷ bare 0 rest
dot_goes [] = refl
dot_goes (c ∷ more) = lone_by s.Dot (eqb c 0x3D) (c ∷ more)

pub dot_reads : Reads Any (codes ".") (t.Sign s.Dot ∷ [])
dot_reads = record { line = (refl, tt); goes = λ rest any. dot_goes rest }

minus_goes : (rest : List ℕ) → bare 0 (0x2D ∷ rest) ≡ t.Sign s.Minus ∷ bare 0 rest
minus_goes [] = refl
minus_goes (c ∷ more) = lone_by s.Minus (eqb c 0x3D) (c ∷ more)

pub minus_reads : Reads Any (codes "-") (t.Sign s.Minus ∷ [])
minus_reads = record { line = (refl, tt); goes = λ rest any. minus_goes rest }

pub blank_reads : Reads Any (codes " ") []
blank_reads = record { line = (refl, tt); goes = λ rest any. refl }

-- ---- operators, which stand between blanks

pub record IsOperator (text : List ℕ) (token : Token) : Type 0 where
  pub line : OneLine text
  pub goes : (rest : List ℕ) → bare 0 (text ++ (0x20 ∷ rest)) ≡ token ∷ bare 0 rest

pub plus_is : IsOperator (codes "+") (t.Sign s.Plus)
plus_is = record { line = (refl, tt); goes = λ rest. refl }

pub binary_minus_is : IsOperator (codes "-") (t.Sign s.Minus)
binary_minus_is = record { line = (refl, tt); goes = λ rest. refl }

pub times_is : IsOperator (codes "*") (t.Sign s.Times)
times_is = record { line = (refl, tt); goes = λ rest. refl }

pub divide_is : IsOperator (codes "/") (t.Sign s.Divide)
divide_is = record { line = (refl, tt); goes = λ rest. refl }

pub modulo_is : IsOperator (codes "%") (t.Sign s.Modulo)
modulo_is = record { line = (refl, tt); goes = λ rest. refl }

pub less_is : IsOperator (codes "<") (t.Sign s.Less)
less_is = record { line = (refl, tt); goes = λ rest. refl }

pub less_equal_is : IsOperator (codes "<=") (t.Sign s.LessEqual)
less_equal_is = record { line = (refl, (refl, tt)); goes = λ rest. refl }

pub greater_is : IsOperator (codes ">") (t.Sign s.Greater)
greater_is = record { line = (refl, tt); goes = λ rest. refl }

pub greater_equal_is : IsOperator (codes ">=") (t.Sign s.GreaterEqual)
greater_equal_is = record { line = (refl, (refl, tt)); goes = λ rest. refl }

pub equal_is : IsOperator (codes "==") (t.Sign s.Equal)
equal_is = record { line = (refl, (refl, tt)); goes = λ rest. refl }

pub and_word_is : IsOperator (codes "and") (t.Word w.And)
and_word_is = record { line = (refl, (refl, (refl, tt))); goes = λ rest. refl }

pub or_word_is : IsOperator (codes "or") (t.Word w.Or)
or_word_is = record { line = (refl, (refl, tt)); goes = λ rest. refl }

pub assign_is : IsOperator (codes "=") (t.Sign s.Assign)
assign_is = record { line = (refl, tt); goes = λ rest. refl }

pub reduce_is : IsOperator (codes "+=") (t.Sign s.Reduce)
reduce_is = record { line = (refl, (refl, tt)); goes = λ rest. refl }

between_parts : (a op b rest : List ℕ) → (a ++ codes " " ++ op ++ codes " " ++ b) ++ rest ≡ a ++ (0x20 ∷ (op ++ (0x20 ∷ (b ++ rest))))
between_parts a op b rest = simp append_assoc

between_line : (a op b : List ℕ) → OneLine a → OneLine op → OneLine b → OneLine (a ++ codes " " ++ op ++ codes " " ++ b)
between_line a op b l m n =
    one_line_append (a ++ codes " " ++ op ++ codes " ") b (one_line_append (a ++ codes " " ++ op) (codes " ") (one_line_append (a ++ codes " ") op (one_line_append a (codes " ") l (refl, tt)) m) (refl, tt)) n

-- two sides with an operator between
pub between_reads : (B : List ℕ → Type 0) (a op b : List ℕ) (us vs : List Token) (token : Token) → Reads Free a us → IsOperator op token → Reads B b vs → Reads B (a ++ codes " " ++ op ++ codes " " ++ b) (us ++ (token ∷ vs))
between_reads B a op b us vs token r o q = record {
  line = between_line a op b r.line o.line q.line;
  goes = λ rest border.
      ap (bare 0) (between_parts a op b rest)
      ∙ r.goes (0x20 ∷ (op ++ (0x20 ∷ (b ++ rest)))) (refl, refl)
      ∙ ap (λ (ts : List Token). us ++ ts) (o.goes (b ++ rest) ∙ ap (λ (ts : List Token). token ∷ ts) (q.goes rest border))
      ∙ sym (append_assoc us (token ∷ vs) (bare 0 rest));
}

-- ---- lists

-- items behind commas
abbrev pub more_tokens : {A : Type 0} → (A → List Token) → List A → List Token
more_tokens g [] = []
more_tokens g (x ∷ xs) = t.Sign s.Comma ∷ (g x ++ more_tokens g xs)

pub free_more : (us : List (List ℕ)) (rest : List ℕ) → Free rest → Free (flat_map (λ u. codes ", " ++ u) us ++ rest)
free_more [] rest free = free
free_more (u ∷ us) rest free = (refl, refl)

pub comma_blank : Reads Any (codes ", ") (t.Sign s.Comma ∷ [])
comma_blank = join Any Any (codes ",") (codes " ") (t.Sign s.Comma ∷ []) [] comma_reads (λ rest any. tt) blank_reads

pub more_reads : (A : Type 0) (f : A → List ℕ) (g : A → List Token) (xs : List A) → Each (λ x. Reads Free (f x) (g x)) xs → Reads Free (flat_map (λ u. codes ", " ++ u) (map f xs)) (more_tokens g xs)
more_reads A f g [] h = record { line = tt; goes = λ rest free. refl }
more_reads A f g (x ∷ xs) h =
    join Free Free (codes ", " ++ f x) (flat_map (λ u. codes ", " ++ u) (map f xs)) (t.Sign s.Comma ∷ g x) (more_tokens g xs)
    (join Any Free (codes ", ") (f x) (t.Sign s.Comma ∷ []) (g x) comma_blank (λ rest free. tt) h.0)
    (free_more (map f xs)) (more_reads A f g xs h.1)

-- items with commas between them
pub listed_reads : (A : Type 0) (f : A → List ℕ) (g : A → List Token) (x : A) (xs : List A) → Each (λ y. Reads Free (f y) (g y)) (x ∷ xs) → Reads Free (f x ++ flat_map (λ u. codes ", " ++ u) (map f xs)) (g x ++ more_tokens g xs)
listed_reads A f g x xs h = join Free Free (f x) (flat_map (λ u. codes ", " ++ u) (map f xs)) (g x) (more_tokens g xs) h.0 (free_more (map f xs)) (more_reads A f g xs h.1)

-- and in brackets
pub bracketed_reads : (x : List ℕ) (us : List Token) → Reads Free x us → Reads Any (codes "[" ++ x ++ codes "]") (t.Sign s.OpenBracket ∷ (us ++ (t.Sign s.CloseBracket ∷ [])))
bracketed_reads x us r =
    join Free Any (codes "[" ++ x) (codes "]") (t.Sign s.OpenBracket ∷ us) (t.Sign s.CloseBracket ∷ [])
    (join Any Free (codes "[") x (t.Sign s.OpenBracket ∷ []) us open_bracket_reads (λ rest free. tt) r) (λ rest any. (refl, refl)) close_bracket_reads

pub wrapped_reads : (x : List ℕ) (us : List Token) → Reads Free x us → Reads Any (codes "(" ++ x ++ codes ")") (t.Sign s.Open ∷ (us ++ (t.Sign s.Close ∷ [])))
wrapped_reads x us r =
    join Free Any (codes "(" ++ x) (codes ")") (t.Sign s.Open ∷ us) (t.Sign s.Close ∷ [])
    (join Any Free (codes "(") x (t.Sign s.Open ∷ []) us open_reads (λ rest free. tt) r) (λ rest any. (refl, refl)) close_reads
