-- The lexis gives no literal from 2^31 on.
use Rattle.std.proofs.Common.{◌≡◌, ℕ, zero, suc, ◌+◌, ◌-◌, nat_lt, nat_eq, Bool, true, false, List, [], ◌∷◌, ◌++◌, map, length, replicate, bytes_eq, codes, Option, Some, None, take_while, refl, if◌then◌else◌}
use Rattle.std.specs.List.{list_all}
use Rattle.std.specs.Char.{is_ascii_digit}
use Rattle.text_lexer.specs.Bytes.{is_printable, is_quote, begins_name, goes_on_name}
use Rattle.text_lexer.specs.Quoted.{quoted}
use Rattle.text_lexer.specs.Lexeme.{word_of, decorator_of, sign_of, sign_with_equals, decimal, string_ending, string_lexeme, word_token, name_token, name_lexeme, decorated, decorator_lexeme, digits_lexeme, literal_lexeme, lone_lexeme, longer_lexeme, sign_lexeme, lexeme_of}
use Rattle.text_lexer.specs.Layout.{at, put, token_of, lines, tokens_in, is_fault, up_to_fault, line_tokens, is_import, innermost, still_open, blocks_at, indentation, is_foreign, brackets_after, line_end, with_end, Laid, begun, laid, text_end, layout, end_place, lexed}
use Rattle.text_lexer.specs.declared.place.Place.{Place}
use Rattle.text_lexer.specs.declared.place.Placed.{Placed}
use Rattle.text_lexer.specs.declared.lexeme.Lexeme.{Lexeme}
use Rattle.text_lexer.specs.declared.quoted.Ending.{Ending}
use Rattle.text_lexer.specs.declared.quoted.Ending.TheVariants.{Closed, Unclosed, Foreign}
use Rattle.text_lexer.specs.declared.quoted.Quoted.{Quoted}
use Rattle.text_lexer.specs.declared.token.Literal.TheVariants.{Value, TooLarge}
use Rattle.text_lexer.specs.declared.token.Sign.{Sign}
use Rattle.text_lexer.specs.declared.token.Sign.TheVariants.{Any}
use Rattle.text_lexer.specs.declared.token.Word.{Word}
use Rattle.text_lexer.specs.declared.token.Decorator.{Decorator}
use Rattle.text_lexer.specs.declared.token.Fault.TheVariants.{Byte, Indentation}
use Rattle.text_lexer.specs.declared.token.Token.TheVariants as token
use Rattle.exo_reader.specs.Texts.{tokens_of}
use Rattle.exo_types_laws.specs.Small.{is_small_token, are_small_tokens}
use Rattle.exo_types_laws.proofs.Unbroken.{both, pair, all_more}

-- ---- pieces

abbrev SmallPiece : Lexeme → Type 0
SmallPiece p = is_small_token p.token ≡ true

one_of : (b : Bool) (p q : Lexeme) → SmallPiece p → SmallPiece q → SmallPiece (if b then p else q)
one_of true p q h k = h
one_of false p q h k = k

digits_small : (digits : List ℕ) → SmallPiece (digits_lexeme digits)
digits_small digits = by (nat_lt (decimal 0 digits) 0x80000000) refl
  where
    by : (b : Bool) → nat_lt (decimal 0 digits) 0x80000000 ≡ b → is_small_token (token.Int (if b then Value (decimal 0 digits) else TooLarge)) ≡ true
    by true h = h
    by false h = refl

literal_small : (digits : List ℕ) → SmallPiece (literal_lexeme digits)
literal_small [] = digits_small []
literal_small (d ∷ digits) = one_of (nat_eq d 0x30) (record { token = token.Int (Value 0); width = 1 }) (digits_lexeme (d ∷ digits)) refl (digits_small (d ∷ digits))

name_small : (text : List ℕ) → is_small_token (name_token text) ≡ true
name_small text = by (bytes_eq text (codes "_"))
  where
    word : (o : Option Word) → is_small_token (word_token o text) ≡ true
    word (Some w) = refl
    word None = refl

    by : (b : Bool) → is_small_token (if b then token.Sign Any else word_token (word_of text) text) ≡ true
    by true = refl
    by false = word (word_of text)

string_small : (ending : Ending) (q : Quoted) → SmallPiece (string_ending ending q)
string_small Closed q = refl
string_small Foreign q = refl
string_small Unclosed q = refl

decorator_small : (o : Option Decorator) (width : ℕ) → SmallPiece (decorated o width)
decorator_small (Some d) width = refl
decorator_small None width = refl

lone_small : (o : Option Sign) → SmallPiece (lone_lexeme o)
lone_small (Some s) = refl
lone_small None = refl

longer_small : (o : Option Sign) (b : ℕ) → SmallPiece (longer_lexeme o b)
longer_small (Some s) b = refl
longer_small None b = lone_small (sign_of b)

sign_small : (b : ℕ) (rest : List ℕ) → SmallPiece (sign_lexeme b rest)
sign_small b [] = lone_small (sign_of b)
sign_small b (c ∷ rest) = one_of (nat_eq c 0x3D) (longer_lexeme (sign_with_equals b) b) (lone_lexeme (sign_of b)) (longer_small (sign_with_equals b) b) (lone_small (sign_of b))

foreign : Lexeme
foreign = record { token = token.Bad Byte; width = 1 }

piece_small : (bytes : List ℕ) → SmallPiece (lexeme_of bytes)
unfolding foreign
piece_small [] = refl
piece_small (b ∷ rest) =
    let last : SmallPiece (if is_printable b then sign_lexeme b rest else foreign) = one_of (is_printable b) (sign_lexeme b rest) foreign (sign_small b rest) refl in
    let fourth : Lexeme = if is_printable b then sign_lexeme b rest else foreign in
    let third : Lexeme = if nat_eq b 0x40 then decorator_lexeme (take_while goes_on_name rest) else fourth in
    let second : Lexeme = if is_quote b then string_lexeme (quoted b rest) else third in
    let first : Lexeme = if is_ascii_digit b then literal_lexeme (take_while is_ascii_digit (b ∷ rest)) else second in
    one_of (begins_name b) (name_lexeme (take_while goes_on_name (b ∷ rest))) first (name_small (take_while goes_on_name (b ∷ rest)))
    (one_of (is_ascii_digit b) (literal_lexeme (take_while is_ascii_digit (b ∷ rest))) second (literal_small (take_while is_ascii_digit (b ∷ rest)))
    (one_of (is_quote b) (string_lexeme (quoted b rest)) third (string_small (quoted b rest).ending (quoted b rest))
    (one_of (nat_eq b 0x40) (decorator_lexeme (take_while goes_on_name rest)) fourth (decorator_small (decorator_of (take_while goes_on_name rest)) (length (take_while goes_on_name rest))) last)))

-- ---- lines

abbrev small_placed : Placed → Bool
small_placed p = is_small_token p.token

abbrev Small : List Placed → Type 0
Small ps = list_all small_placed ps ≡ true

if_small : (b : Bool) (ps qs : List Placed) → Small ps → Small qs → Small (if b then ps else qs)
if_small true ps qs h k = h
if_small false ps qs h k = k

tokens_small : (line column covered : ℕ) (bytes : List ℕ) → Small (tokens_in line column covered bytes)
tokens_small line column covered [] = refl
tokens_small line column (suc covered) (b ∷ rest) = tokens_small line (column + 1) covered rest
tokens_small line column zero (b ∷ rest) =
    let more : List Placed = put (at line column) (lexeme_of (b ∷ rest)).token ∷ tokens_in line (column + 1) ((lexeme_of (b ∷ rest)).width - 1) rest in
    if_small (nat_eq b 0x20) (tokens_in line (column + 1) zero rest) (if nat_eq b 0x23 then [] else more) (tokens_small line (column + 1) zero rest)
    (if_small (nat_eq b 0x23) [] more refl (pair (piece_small (b ∷ rest)) (tokens_small line (column + 1) ((lexeme_of (b ∷ rest)).width - 1) rest)))

cut_small : (ps : List Placed) → Small ps → Small (up_to_fault ps)
cut_small [] h = refl
cut_small (p ∷ more) h =
    let parts = both (small_placed p) (list_all small_placed more) h in
    pair parts.0 (if_small (is_fault p.token) [] (up_to_fault more) refl (cut_small more parts.1))

line_small : (line : ℕ) (bytes : List ℕ) → Small (line_tokens line bytes)
line_small line bytes = cut_small (tokens_in line 1 0 bytes) (tokens_small line 1 0 bytes)

also : (ps qs : List Placed) → Small ps → Small qs → Small (ps ++ qs)
also ps qs h k = all_more small_placed ps qs h k

end_small : (n : ℕ) (end : Place) → Small (line_end n end)
end_small zero end = refl
end_small (suc n) end = refl

with_end_small : (brackets : ℕ) (end : Place) (ps : List Placed) → Small ps → Small (with_end brackets end ps)
with_end_small brackets end ps h = also ps (line_end (brackets_after brackets ps) end) h (end_small (brackets_after brackets ps) end)

copies_small : (n : ℕ) (p : Placed) → small_placed p ≡ true → Small (replicate n p)
copies_small zero p h = refl
copies_small (suc n) p h = pair h (copies_small n p h)

indentation_small : (line column : ℕ) (blocks : List ℕ) → Small (indentation line column blocks)
indentation_small line column blocks =
    let ends : List Placed = replicate (length blocks - length (still_open column blocks)) (put (at line 1) token.Dedent) in
    let bad : List Placed = put (at line 1) (token.Bad Indentation) ∷ [] in
    let inner : List Placed = if nat_eq (innermost (still_open column blocks)) column then ends else bad in
    if_small (nat_lt (innermost blocks) column) (put (at line 1) token.Indent ∷ []) inner refl
    (if_small (nat_eq (innermost (still_open column blocks)) column) ends bad (copies_small (length blocks - length (still_open column blocks)) (put (at line 1) token.Dedent) refl) refl)

abbrev SmallLaid : Laid → Type 0
SmallLaid l = Small l.placed

either_small : (b : Bool) (x y : Laid) → SmallLaid x → SmallLaid y → SmallLaid (if b then x else y)
either_small true x y h k = h
either_small false x y h k = k

begun_small : (blocks : List ℕ) (end : Place) (ps : List Placed) → Small ps → SmallLaid (begun blocks end ps)
begun_small blocks end [] h = refl
begun_small blocks end (p ∷ more) h =
    let cut : Laid = record { placed = p ∷ more; blocks = blocks; brackets = 0 } in
    let whole : Laid = record { placed = indentation p.place.line p.place.column blocks ++ with_end 0 end (p ∷ more); blocks = blocks_at p.place.column blocks; brackets = brackets_after 0 (p ∷ more) } in
    either_small (is_foreign p.token) cut whole h
    (also (indentation p.place.line p.place.column blocks) (with_end 0 end (p ∷ more)) (indentation_small p.place.line p.place.column blocks) (with_end_small 0 end (p ∷ more) h))

laid_small : (line : ℕ) (blocks : List ℕ) (brackets : ℕ) (bytes : List ℕ) → SmallLaid (laid line blocks brackets bytes)
laid_small line blocks zero bytes =
    let skipped : Laid = record { placed = []; blocks = blocks; brackets = 0 } in
    either_small (is_import bytes) skipped (begun blocks (at line (length bytes + 1)) (line_tokens line bytes)) refl (begun_small blocks (at line (length bytes + 1)) (line_tokens line bytes) (line_small line bytes))
laid_small line blocks (suc n) bytes = with_end_small (suc n) (at line (length bytes + 1)) (line_tokens line bytes) (line_small line bytes)

text_end_small : (end : Place) (blocks : List ℕ) (brackets : ℕ) → Small (text_end end blocks brackets)
text_end_small end blocks zero = copies_small (length blocks) (put end token.Dedent) refl
text_end_small end blocks (suc n) = copies_small (length blocks) (put end token.Dedent) refl

layout_small : (end : Place) (line : ℕ) (blocks : List ℕ) (brackets : ℕ) (rows : List (List ℕ)) → Small (layout end line blocks brackets rows)
layout_small end line blocks brackets [] = text_end_small end blocks brackets
layout_small end line blocks brackets (bytes ∷ more) =
    also (laid line blocks brackets bytes).placed (layout end (line + 1) (laid line blocks brackets bytes).blocks (laid line blocks brackets bytes).brackets more)
    (laid_small line blocks brackets bytes) (layout_small end (line + 1) (laid line blocks brackets bytes).blocks (laid line blocks brackets bytes).brackets more)

-- ---- texts

bare : (ps : List Placed) → Small ps → are_small_tokens (map token_of ps) ≡ true
bare [] h = refl
bare (p ∷ more) h = let parts = both (small_placed p) (list_all small_placed more) h in pair parts.0 (bare more parts.1)

pub lexed_small : (text : List ℕ) → are_small_tokens (tokens_of text) ≡ true
lexed_small text = bare (lexed text) (cut_small (layout (end_place text) 1 [] 0 (lines text)) (layout_small (end_place text) 1 [] 0 (lines text)))
