-- Tokens that the lexis gives: names are of the grammar, and strings are of bytes that a template may have.
use Rattle.std.proofs.Common.{◌≡◌, ℕ, zero, suc, ◌+◌, ◌-◌, nat_lt, nat_eq, eqb, Bool, true, false, List, [], ◌∷◌, ◌++◌, map, length, replicate, bytes_eq, codes, Option, Some, None, take_while, refl, sym, ap, ◌∙◌, if◌then◌else◌, cond, inl, inr, arith, subst}
use Rattle.std.proofs.lemmas.Bool.Decides.{nat_tests}
use Rattle.std.proofs.lemmas.List.Sums.{take_while-cons}
use Rattle.std.specs.Char.{is_ascii_digit}
use Rattle.text_lexer.specs.Bytes.{is_printable, is_quote, begins_name, goes_on_name, escaped}
use Rattle.text_lexer.specs.Quoted.{behind, ends, unescaped, quoted, after_backslash}
use Rattle.text_lexer.specs.Lexeme.{word_of, decorator_of, sign_of, sign_with_equals, string_ending, string_lexeme, word_token, name_lexeme, decorated, decorator_lexeme, digits_lexeme, literal_lexeme, lone_lexeme, longer_lexeme, sign_lexeme, lexeme_of}
use Rattle.text_lexer.specs.Layout.{at, put, token_of, lines, tokens_in, is_fault, up_to_fault, line_tokens, is_import, innermost, still_open, blocks_at, indentation, is_foreign, brackets_after, line_end, with_end, Laid, begun, laid, text_end, layout, end_place, lexed}
use Rattle.text_lexer.specs.declared.place.Place.{Place}
use Rattle.text_lexer.specs.declared.place.Placed.{Placed}
use Rattle.text_lexer.specs.declared.lexeme.Lexeme.{Lexeme}
use Rattle.text_lexer.specs.declared.quoted.Ending.{Ending}
use Rattle.text_lexer.specs.declared.quoted.Ending.TheVariants.{Closed, Unclosed, Foreign}
use Rattle.text_lexer.specs.declared.quoted.Quoted.{Quoted}
use Rattle.text_lexer.specs.declared.token.Literal.TheVariants.{Value}
use Rattle.text_lexer.specs.declared.token.Sign.{Sign}
use Rattle.text_lexer.specs.declared.token.Sign.TheVariants.{Any}
use Rattle.text_lexer.specs.declared.token.Word.{Word}
use Rattle.text_lexer.specs.declared.token.Decorator.{Decorator}
use Rattle.text_lexer.specs.declared.token.Fault.TheVariants.{Byte, Indentation}
use Rattle.text_lexer.specs.declared.token.Token.{Token}
use Rattle.text_lexer.specs.declared.token.Token.TheVariants as token
use Rattle.exo_reader.specs.Texts.{tokens_of}
use Rattle.exo_types_laws.specs.Shown.Names.{AreNameBytes, BeginsName, IsName, Each}
use Rattle.exo_types_laws.specs.Shown.Writable.{IsTemplateByte}
use Rattle.exo_types_laws.proofs.OfShown.Each.{each_more, each_copy}

abbrev pub IsNamed : Token → Type 0
IsNamed (token.Name x) = IsName x
IsNamed (token.Str x) = Each IsTemplateByte x
IsNamed other = Unit {0}

abbrev Good : Lexeme → Type 0
Good p = IsNamed p.token

by_test : (b : Bool) (p q : Lexeme) → (b ≡ true → Good p) → Good q → Good (if b then p else q)
by_test true p q h k = h refl
by_test false p q h k = k

-- ---- names

taken_by : (x : ℕ) (xs : List ℕ) (b : Bool) → goes_on_name x ≡ b → AreNameBytes (take_while goes_on_name xs) → AreNameBytes (cond b (x ∷ take_while goes_on_name xs) [])
taken_by x xs true h k = (h, k)
taken_by x xs false h k = tt

taken : (xs : List ℕ) → AreNameBytes (take_while goes_on_name xs)
taken [] = tt
taken (x ∷ xs) = subst AreNameBytes (sym (take_while-cons goes_on_name x xs)) (taken_by x xs (goes_on_name x) refl (taken xs))

goes_on : (b : ℕ) → begins_name b ≡ true → goes_on_name b ≡ true
goes_on b h = rw h refl

taken_first : (b : ℕ) (rest : List ℕ) → begins_name b ≡ true → BeginsName (take_while goes_on_name (b ∷ rest))
taken_first b rest h =
    let first : take_while goes_on_name (b ∷ rest) ≡ b ∷ take_while goes_on_name rest =
    take_while-cons goes_on_name b rest ∙ ap (λ t. cond t (b ∷ take_while goes_on_name rest) []) (goes_on b h) in
    subst BeginsName (sym first) h

name_good : (b : ℕ) (rest : List ℕ) → begins_name b ≡ true → Good (name_lexeme (take_while goes_on_name (b ∷ rest)))
name_good b rest h = by (bytes_eq text (codes "_")) refl
  where
    text : List ℕ
    text = take_while goes_on_name (b ∷ rest)

    word : (o : Option Word) → bytes_eq text (codes "_") ≡ false → word_of text ≡ o → IsNamed (word_token o text)
    word (Some w) e f = tt
    word None e f = record { begins = taken_first b rest h; bytes = taken (b ∷ rest); some = e; free = f }

    by : (c : Bool) → bytes_eq text (codes "_") ≡ c → IsNamed (if c then token.Sign Any else word_token (word_of text) text)
    by true e = tt
    by false e = word (word_of text) e refl

-- ---- strings

is_byte : (c n : ℕ) → eqb c n ≡ true → n ≡ c
is_byte c n e = grind (arith, nat_tests, e)

quote_byte : (b : ℕ) → is_quote b ≡ true → is_printable b ≡ true
quote_byte b h = grind (arith, nat_tests, h)

abbrev Printed : Quoted → Type 0
Printed q = Each IsTemplateByte q.text

printed_by : (b : Bool) (p q : Quoted) → (b ≡ true → Printed p) → Printed q → Printed (if b then p else q)
printed_by true p q h k = h refl
printed_by false p q h k = k

behind_byte : (c n : ℕ) (q : Quoted) → IsTemplateByte c → Printed q → Printed (behind (c ∷ []) n q)
behind_byte c n q h k = (h, k)

escaped_by : (b c : ℕ) (n s q : Bool) → is_quote b ≡ q → (if n then Some 0x0A else (if s then Some 0x5C else (if q then Some b else None))) ≡ Some c → IsTemplateByte c
escaped_by b c true s q e k = let same : 0x0A ≡ c = cc in inl (sym same)
escaped_by b c false true q e k = let same : 0x5C ≡ c = cc in inr (subst (λ (d : ℕ). is_printable d ≡ true) same refl)
escaped_by b c false false true e k = let same : b ≡ c = cc in inr (subst (λ (d : ℕ). is_printable d ≡ true) same (quote_byte b e))
escaped_by b c false false false e k = cc

escaped_good : (b c : ℕ) → escaped b ≡ Some c → IsTemplateByte c
escaped_good b c h = escaped_by b c (nat_eq b 0x6E) (nat_eq b 0x5C) (is_quote b) refl h

unescaped_good : (o : Option ℕ) (b : ℕ) (q : Quoted) → escaped b ≡ o → Printed q → Printed (unescaped o b q)
unescaped_good (Some c) b q e h = behind_byte c 2 q (escaped_good b c e) h
unescaped_good None b q e h = tt

mutual
  quoted_good : (quote : ℕ) (bytes : List ℕ) → Printed (quoted quote bytes)
  quoted_good quote [] = tt
  quoted_good quote (b ∷ rest) =
      let plain : Quoted = if is_printable b then behind (b ∷ []) 1 (quoted quote rest) else ends 0 Foreign in
      let slash : Quoted = if nat_eq b 0x5C then after_backslash quote rest else plain in
      printed_by (nat_eq b quote) (ends 1 Closed) slash (λ e. tt)
      (printed_by (nat_eq b 0x5C) (after_backslash quote rest) plain (λ e. slash_good quote rest)
      (printed_by (is_printable b) (behind (b ∷ []) 1 (quoted quote rest)) (ends 0 Foreign) (λ e. behind_byte b 1 (quoted quote rest) (inr e) (quoted_good quote rest)) tt))

  slash_good : (quote : ℕ) (bytes : List ℕ) → Printed (after_backslash quote bytes)
  slash_good quote [] = tt
  slash_good quote (b ∷ rest) = unescaped_good (escaped b) b (quoted quote rest) refl (quoted_good quote rest)

string_good : (ending : Ending) (q : Quoted) → Printed q → Good (string_ending ending q)
string_good Closed q h = h
string_good Foreign q h = h
string_good Unclosed q h = tt

-- ---- other pieces

literal_good : (digits : List ℕ) → Good (literal_lexeme digits)
literal_good [] = tt
literal_good (d ∷ digits) = by_test (nat_eq d 0x30) (record { token = token.Int (Value 0); width = 1 }) (digits_lexeme (d ∷ digits)) (λ e. tt) tt

decorator_good : (o : Option Decorator) (width : ℕ) → Good (decorated o width)
decorator_good (Some d) width = tt
decorator_good None width = tt

lone_good : (o : Option Sign) → Good (lone_lexeme o)
lone_good (Some s) = tt
lone_good None = tt

longer_good : (o : Option Sign) (b : ℕ) → Good (longer_lexeme o b)
longer_good (Some s) b = tt
longer_good None b = lone_good (sign_of b)

sign_good : (b : ℕ) (rest : List ℕ) → Good (sign_lexeme b rest)
sign_good b [] = lone_good (sign_of b)
sign_good b (c ∷ rest) = by_test (nat_eq c 0x3D) (longer_lexeme (sign_with_equals b) b) (lone_lexeme (sign_of b)) (λ e. longer_good (sign_with_equals b) b) (lone_good (sign_of b))

foreign : Lexeme
foreign = record { token = token.Bad Byte; width = 1 }

piece_good : (bytes : List ℕ) → Good (lexeme_of bytes)
unfolding foreign
piece_good [] = tt
piece_good (b ∷ rest) =
    let digits : List ℕ = take_while is_ascii_digit (b ∷ rest) in
    let word : List ℕ = take_while goes_on_name rest in
    let fourth : Lexeme = if is_printable b then sign_lexeme b rest else foreign in
    let third : Lexeme = if nat_eq b 0x40 then decorator_lexeme word else fourth in
    let second : Lexeme = if is_quote b then string_lexeme (quoted b rest) else third in
    let first : Lexeme = if is_ascii_digit b then literal_lexeme digits else second in
    by_test (begins_name b) (name_lexeme (take_while goes_on_name (b ∷ rest))) first (name_good b rest)
    (by_test (is_ascii_digit b) (literal_lexeme digits) second (λ e. literal_good digits)
    (by_test (is_quote b) (string_lexeme (quoted b rest)) third (λ e. string_good (quoted b rest).ending (quoted b rest) (quoted_good b rest))
    (by_test (nat_eq b 0x40) (decorator_lexeme word) fourth (λ e. decorator_good (decorator_of word) (length word))
    (by_test (is_printable b) (sign_lexeme b rest) foreign (λ e. sign_good b rest) tt))))

-- ---- lines

abbrev IsGood : Placed → Type 0
IsGood p = IsNamed p.token

abbrev Goods : List Placed → Type 0
Goods ps = Each IsGood ps

either : (b : Bool) (ps qs : List Placed) → Goods ps → Goods qs → Goods (if b then ps else qs)
either true ps qs h k = h
either false ps qs h k = k

tokens_good : (line column covered : ℕ) (bytes : List ℕ) → Goods (tokens_in line column covered bytes)
tokens_good line column covered [] = tt
tokens_good line column (suc covered) (b ∷ rest) = tokens_good line (column + 1) covered rest
tokens_good line column zero (b ∷ rest) =
    let more : List Placed = put (at line column) (lexeme_of (b ∷ rest)).token ∷ tokens_in line (column + 1) ((lexeme_of (b ∷ rest)).width - 1) rest in
    either (nat_eq b 0x20) (tokens_in line (column + 1) zero rest) (if nat_eq b 0x23 then [] else more) (tokens_good line (column + 1) zero rest)
    (either (nat_eq b 0x23) [] more tt (piece_good (b ∷ rest), tokens_good line (column + 1) ((lexeme_of (b ∷ rest)).width - 1) rest))

cut_good : (ps : List Placed) → Goods ps → Goods (up_to_fault ps)
cut_good [] h = tt
cut_good (p ∷ more) h = (h.0, either (is_fault p.token) [] (up_to_fault more) tt (cut_good more h.1))

line_good : (line : ℕ) (bytes : List ℕ) → Goods (line_tokens line bytes)
line_good line bytes = cut_good (tokens_in line 1 0 bytes) (tokens_good line 1 0 bytes)

end_good : (n : ℕ) (end : Place) → Goods (line_end n end)
end_good zero end = (tt, tt)
end_good (suc n) end = tt

with_end_good : (brackets : ℕ) (end : Place) (ps : List Placed) → Goods ps → Goods (with_end brackets end ps)
with_end_good brackets end ps h = each_more IsGood ps (line_end (brackets_after brackets ps) end) h (end_good (brackets_after brackets ps) end)

indentation_good : (line column : ℕ) (blocks : List ℕ) → Goods (indentation line column blocks)
indentation_good line column blocks =
    let count : ℕ = length blocks - length (still_open column blocks) in
    let ends : List Placed = replicate count (put (at line 1) token.Dedent) in
    let bad : List Placed = put (at line 1) (token.Bad Indentation) ∷ [] in
    let inner : List Placed = if nat_eq (innermost (still_open column blocks)) column then ends else bad in
    either (nat_lt (innermost blocks) column) (put (at line 1) token.Indent ∷ []) inner (tt, tt)
    (either (nat_eq (innermost (still_open column blocks)) column) ends bad (each_copy IsGood count (put (at line 1) token.Dedent) tt) (tt, tt))

abbrev GoodLaid : Laid → Type 0
GoodLaid l = Goods l.placed

either_laid : (b : Bool) (x y : Laid) → GoodLaid x → GoodLaid y → GoodLaid (if b then x else y)
either_laid true x y h k = h
either_laid false x y h k = k

begun_good : (blocks : List ℕ) (end : Place) (ps : List Placed) → Goods ps → GoodLaid (begun blocks end ps)
begun_good blocks end [] h = tt
begun_good blocks end (p ∷ more) h =
    let cut : Laid = record { placed = p ∷ more; blocks = blocks; brackets = 0 } in
    let whole : Laid = record { placed = indentation p.place.line p.place.column blocks ++ with_end 0 end (p ∷ more); blocks = blocks_at p.place.column blocks; brackets = brackets_after 0 (p ∷ more) } in
    either_laid (is_foreign p.token) cut whole h
    (each_more IsGood (indentation p.place.line p.place.column blocks) (with_end 0 end (p ∷ more)) (indentation_good p.place.line p.place.column blocks) (with_end_good 0 end (p ∷ more) h))

laid_good : (line : ℕ) (blocks : List ℕ) (brackets : ℕ) (bytes : List ℕ) → GoodLaid (laid line blocks brackets bytes)
laid_good line blocks zero bytes =
    let skipped : Laid = record { placed = []; blocks = blocks; brackets = 0 } in
    either_laid (is_import bytes) skipped (begun blocks (at line (length bytes + 1)) (line_tokens line bytes)) tt (begun_good blocks (at line (length bytes + 1)) (line_tokens line bytes) (line_good line bytes))
laid_good line blocks (suc n) bytes = with_end_good (suc n) (at line (length bytes + 1)) (line_tokens line bytes) (line_good line bytes)

text_end_good : (end : Place) (blocks : List ℕ) (brackets : ℕ) → Goods (text_end end blocks brackets)
text_end_good end blocks zero = each_copy IsGood (length blocks) (put end token.Dedent) tt
text_end_good end blocks (suc n) = (tt, each_copy IsGood (length blocks) (put end token.Dedent) tt)

layout_good : (end : Place) (line : ℕ) (blocks : List ℕ) (brackets : ℕ) (rows : List (List ℕ)) → Goods (layout end line blocks brackets rows)
layout_good end line blocks brackets [] = text_end_good end blocks brackets
layout_good end line blocks brackets (bytes ∷ more) =
    each_more IsGood (laid line blocks brackets bytes).placed (layout end (line + 1) (laid line blocks brackets bytes).blocks (laid line blocks brackets bytes).brackets more)
    (laid_good line blocks brackets bytes) (layout_good end (line + 1) (laid line blocks brackets bytes).blocks (laid line blocks brackets bytes).brackets more)

-- ---- texts

bare : (ps : List Placed) → Goods ps → Each IsNamed (map token_of ps)
bare [] h = tt
bare (p ∷ more) h = (h.0, bare more h.1)

pub lexed_named : (text : List ℕ) → Each IsNamed (tokens_of text)
lexed_named text = bare (lexed text) (cut_good (layout (end_place text) 1 [] 0 (lines text)) (layout_good (end_place text) 1 [] 0 (lines text)))
