-- A text has as many bytes as its tokens take at the least, but for a last line end.
use Rattle.std.proofs.Common.{◌≡◌, ℕ, zero, suc, ◌+◌, ◌-◌, ◌<◌, ◌≤◌, List, [], ◌∷◌, ◌++◌, replicate, Bool, true, false, cond, length, map, refl, ap, ◌∙◌, arith, eqb}
use Rattle.std.specs.Prelude.{Option, Some, None, nat_lt, bytes_eq, codes, take_while}
use Rattle.std.specs.Char.{is_ascii_digit}
use Rattle.std.specs.List.{prefix_len}
use Rattle.std.proofs.lemmas.List.{length-take}
use Rattle.std.proofs.lemmas.List.Sums.{take_while-cons}
use Rattle.std.proofs.lemmas.Slice.Eq.{bytes_eq-Decides}
use Rattle.std.proofs.lemmas.Bool.{ltb-true}
use Rattle.text_lexer.specs.Bytes.{is_printable, is_quote, begins_name, goes_on_name, escaped}
use Rattle.text_lexer.specs.Quoted.{quoted, after_backslash, behind, ends, unescaped}
use Rattle.text_lexer.specs.Lexeme.{word_of, word_token, decorator_of, name_lexeme, literal_lexeme, string_ending, decorated, lone_lexeme, longer_lexeme, sign_of, sign_with_equals, sign_lexeme, lexeme_of}
use Rattle.text_lexer.specs.Layout.{at, put, token_of, lines, longer, is_skipped_return, tokens_in, is_fault, up_to_fault, line_tokens, brackets_after, is_import, innermost, still_open, blocks_at, indentation, is_foreign, line_end, with_end, Laid, begun, laid, end_place, layout, lexed}
use Rattle.text_lexer.specs.Widths.{least_width, least_widths}
use Rattle.text_lexer.proofs.FirstLine.{lines-some}
use Rattle.text_lexer.specs.declared.token.Word.{Word}
use Rattle.text_lexer.specs.declared.token.Word.TheVariants as w
use Rattle.text_lexer.specs.declared.token.Decorator.{Decorator}
use Rattle.text_lexer.specs.declared.token.Decorator.TheVariants as d
use Rattle.text_lexer.specs.declared.token.Sign.{Sign}
use Rattle.text_lexer.specs.declared.token.Sign.TheVariants.{Any}
use Rattle.text_lexer.specs.declared.token.Fault.TheVariants.{Indentation}
use Rattle.text_lexer.specs.declared.token.Token.{Token}
use Rattle.text_lexer.specs.declared.token.Token.TheVariants as token
use Rattle.text_lexer.specs.declared.place.Place.{Place}
use Rattle.text_lexer.specs.declared.place.Placed.{Placed}
use Rattle.text_lexer.specs.declared.quoted.Ending.{Ending}
use Rattle.text_lexer.specs.declared.quoted.Ending.TheVariants.{Closed, Unclosed, Foreign}
use Rattle.text_lexer.specs.declared.quoted.Quoted.{Quoted}
use Rattle.text_lexer.specs.declared.lexeme.Lexeme.{Lexeme}

-- words and decorators have two bytes or more

record IsLong {A : Type 0} (text : List ℕ) (o : Option A) : Type 0 where
  long : (a : A) → o ≡ Some a → 2 ≤ length text

next_long : {A : Type 0} (text key : List ℕ) (a : A) (o : Option A) → nat_lt 1 (length key) ≡ true →
    IsLong text o → IsLong text (cond (bytes_eq text key) (Some a) o)
next_long text key a o long other = go (bytes_eq text key) (bytes_eq-Decides text key).0
  where
    go : (found : Bool) → (found ≡ true → text ≡ key) → IsLong text (cond found (Some a) o)
    go true is =
        let some = ltb-true 1 (length key) long in
        record { long = λ b e. omega (arith, some, ap length (is refl)) }
    go false is = other

no_word : {A : Type 0} (text : List ℕ) → IsLong {A = A} text None
no_word text = record { long = λ a e. cc (e) }

word_long : (text : List ℕ) → IsLong text (word_of text)
word_long text =
    next_long text (codes "and") w.And _ refl
    (next_long text (codes "assert") w.Assert _ refl
    (next_long text (codes "class") w.Class _ refl
    (next_long text (codes "def") w.Def _ refl
    (next_long text (codes "else") w.Else _ refl
    (next_long text (codes "for") w.For _ refl
    (next_long text (codes "from") w.From _ refl
    (next_long text (codes "if") w.If _ refl
    (next_long text (codes "import") w.Import _ refl
    (next_long text (codes "in") w.In _ refl
    (next_long text (codes "or") w.Or _ refl
    (next_long text (codes "pass") w.Pass _ refl
    (next_long text (codes "relu") w.Relu _ refl
    (next_long text (codes "select") w.Select _ refl
    (next_long text (codes "seq") w.Seq _ refl
    (next_long text (codes "stride") w.Stride _ refl
    (next_long text (codes "True") w.True _ refl
    (next_long text (codes "False") w.False _ refl
    (no_word text))))))))))))))))))

decorator_long : (text : List ℕ) → IsLong text (decorator_of text)
decorator_long text =
    next_long text (codes "proc") d.Procedure _ refl
    (next_long text (codes "instr") d.Instruction _ refl
    (next_long text (codes "config") d.Configuration _ refl
    (next_long text (codes "memory") d.MemoryClass _ refl
    (no_word text))))

-- a token at the front of n bytes takes some of them, and no fewer than at the least

record IsSized (n : ℕ) (p : Lexeme) : Type 0 where
  least : least_width p.token ≤ p.width
  some : 1 ≤ p.width
  within : p.width ≤ n

sized_if : (n : ℕ) (test : Bool) (p q : Lexeme) → (test ≡ true → IsSized n p) → IsSized n q → IsSized n (cond test p q)
sized_if n true p q one other = one refl
sized_if n false p q one other = other

taken_few : (p : ℕ → Bool) (xs : List ℕ) → length (take_while p xs) ≤ length xs
taken_few p xs = omega (arith, length-take (prefix_len p xs) xs)

taken_some : (p : ℕ → Bool) (b : ℕ) (rest : List ℕ) → p b ≡ true → 1 ≤ length (take_while p (b ∷ rest))
taken_some p b rest is =
    let e : take_while p (b ∷ rest) ≡ b ∷ take_while p rest = take_while-cons p b rest ∙ ap (λ (t : Bool). cond t (b ∷ take_while p rest) []) is in
    omega (arith, ap length e)

name_by : (text : List ℕ) (o : Option Word) (any : Bool) → 1 ≤ length text → IsLong text o → least_width (cond any (token.Sign Any) (word_token o text)) ≤ length text
name_by text o true some long = some
name_by text (Some word) false some long = long.long word refl
name_by text None false some long = some

name_sized : (n : ℕ) (text : List ℕ) → 1 ≤ length text → length text ≤ n → IsSized n (name_lexeme text)
name_sized n text some few = record { least = name_by text (word_of text) (bytes_eq text (codes "_")) some (word_long text); some = some; within = few }

literal_by : (n d : ℕ) (digits : List ℕ) (nought : Bool) → suc (length digits) ≤ n → IsSized n (literal_lexeme (d ∷ digits))
literal_by n d digits nought few = sized_if n (eqb d 0x30) _ _ (λ e. record { least = omega arith; some = omega arith; within = omega (arith, few) }) (record { least = omega arith; some = omega arith; within = omega (arith, few) })

literal_sized : (n : ℕ) (digits : List ℕ) → 1 ≤ length digits → length digits ≤ n → IsSized n (literal_lexeme digits)
literal_sized n [] some few = absurd (omega (arith, some))
literal_sized n (d ∷ digits) some few = literal_by n d digits true few

quoted_by : (b n : ℕ) (back inner : Quoted) (closed escape printable : Bool) → back.width ≤ n + 1 → inner.width ≤ n → (cond closed (ends 1 Closed) (cond escape back (cond printable (behind (b ∷ []) 1 inner) (ends 0 Foreign)))).width ≤ n + 1
quoted_by b n back inner true escape printable back_few few = omega arith
quoted_by b n back inner false true printable back_few few = back_few
quoted_by b n back inner false false true back_few few = omega (arith, few)
quoted_by b n back inner false false false back_few few = omega arith

unescaped_by : (o : Option ℕ) (b n : ℕ) (inner : Quoted) → inner.width ≤ n → (unescaped o b inner).width ≤ n + 2
unescaped_by (Some c) b n inner few = omega (arith, few)
unescaped_by None b n inner few = omega arith

quoted_few : (quote : ℕ) (bytes : List ℕ) → (quoted quote bytes).width ≤ length bytes
quoted_few quote [] = omega arith
quoted_few quote (b ∷ []) = omega (arith, quoted_by b 0 (after_backslash quote []) (quoted quote []) (eqb b quote) (eqb b 0x5C) (is_printable b) (omega arith) (omega arith))
quoted_few quote (b ∷ c ∷ rest) =
    let back : (after_backslash quote (c ∷ rest)).width ≤ suc (length rest) + 1 = omega (arith, unescaped_by (escaped c) c (length rest) (quoted quote rest) (quoted_few quote rest)) in
    omega (arith, quoted_by b (suc (length rest)) (after_backslash quote (c ∷ rest)) (quoted quote (c ∷ rest)) (eqb b quote) (eqb b 0x5C) (is_printable b) back (quoted_few quote (c ∷ rest)))

string_by : (n : ℕ) (ending : Ending) (q : Quoted) → q.width + 1 ≤ n → IsSized n (string_ending ending q)
string_by n Closed q few = record { least = omega arith; some = omega arith; within = few }
string_by n Foreign q few = record { least = omega arith; some = omega arith; within = few }
string_by n Unclosed q few = record { least = omega arith; some = omega arith; within = omega (arith, few) }

decorated_by : (n : ℕ) (text : List ℕ) (o : Option Decorator) → IsLong text o → length text + 1 ≤ n → IsSized n (decorated o (length text))
decorated_by n text (Some decorator) long few = record { least = omega (arith, long.long decorator refl); some = omega arith; within = few }
decorated_by n text None long few = record { least = omega arith; some = omega arith; within = omega (arith, few) }

lone_sized : (n : ℕ) (o : Option Sign) → 1 ≤ n → IsSized n (lone_lexeme o)
lone_sized n (Some sign) some = record { least = omega arith; some = omega arith; within = some }
lone_sized n None some = record { least = omega arith; some = omega arith; within = some }

longer_sized : (n : ℕ) (o : Option Sign) (b : ℕ) → 2 ≤ n → IsSized n (longer_lexeme o b)
longer_sized n (Some sign) b some = record { least = omega arith; some = omega arith; within = some }
longer_sized n None b some = lone_sized n (sign_of b) (omega (arith, some))

sign_sized : (b : ℕ) (rest : List ℕ) → IsSized (suc (length rest)) (sign_lexeme b rest)
sign_sized b [] = lone_sized 1 (sign_of b) (omega arith)
sign_sized b (c ∷ rest) = sized_if (suc (suc (length rest))) (eqb c 0x3D) _ _ (λ e. longer_sized (suc (suc (length rest))) (sign_with_equals b) b (omega arith)) (lone_sized (suc (suc (length rest))) (sign_of b) (omega arith))

foreign_sized : (n : ℕ) (p : Lexeme) → p.width ≡ 1 → least_width p.token ≡ 0 → 1 ≤ n → IsSized n p
foreign_sized n p one none some = record { least = omega (arith, none); some = omega (arith, one); within = omega (arith, one, some) }

lexeme_sized : (b : ℕ) (rest : List ℕ) → IsSized (suc (length rest)) (lexeme_of (b ∷ rest))
lexeme_sized b rest =
    let n = suc (length rest) in
    sized_if n (begins_name b) _ _ (λ e. name_sized n (take_while goes_on_name (b ∷ rest)) (taken_some goes_on_name b rest (ap (λ (t : Bool). cond t true (is_ascii_digit b)) e)) (taken_few goes_on_name (b ∷ rest)))
    (sized_if n (is_ascii_digit b) _ _ (λ e. literal_sized n (take_while is_ascii_digit (b ∷ rest)) (taken_some is_ascii_digit b rest e) (taken_few is_ascii_digit (b ∷ rest)))
    (sized_if n (is_quote b) _ _ (λ e. string_by n (quoted b rest).ending (quoted b rest) (omega (arith, quoted_few b rest)))
    (sized_if n (eqb b 0x40) _ _ (λ e. decorated_by n (take_while goes_on_name rest) (decorator_of (take_while goes_on_name rest)) (decorator_long (take_while goes_on_name rest)) (omega (arith, taken_few goes_on_name rest)))
    (sized_if n (is_printable b) _ _ (λ e. sign_sized b rest) (foreign_sized n _ refl refl (omega arith))))))

-- the tokens of a line

abbrev least_in : List Placed → ℕ
least_in ts = least_widths (map token_of ts)

tokens_by : (blank comment : Bool) (ts us : List Placed) (n : ℕ) → least_in ts ≤ n → least_in us ≤ n → least_in (cond blank ts (cond comment [] us)) ≤ n
tokens_by true comment ts us n few others = few
tokens_by false true ts us n few others = omega arith
tokens_by false false ts us n few others = others

tokens_few : (line column covered : ℕ) (bytes : List ℕ) → least_in (tokens_in line column covered bytes) ≤ length bytes - covered
tokens_few line column covered [] = omega arith
tokens_few line column (suc covered) (b ∷ rest) = omega (arith, tokens_few line (column + 1) covered rest)
tokens_few line column zero (b ∷ rest) =
    let lexeme = lexeme_of (b ∷ rest) in
    let sized : IsSized (suc (length rest)) lexeme = lexeme_sized b rest in
    omega (
      arith,
      tokens_by (eqb b 0x20) (eqb b 0x23) (tokens_in line (column + 1) zero rest) (put (at line column) lexeme.token ∷ tokens_in line (column + 1) (lexeme.width - 1) rest) (suc (length rest))
          (omega (arith, tokens_few line (column + 1) zero rest))
          (omega (arith, tokens_few line (column + 1) (lexeme.width - 1) rest, sized.least, sized.some, sized.within)),
    )

-- the first token stands at a column from this one on, and the bytes before it are no part of the others
abbrev StartsBy : ℕ → ℕ → List Placed → Type 0
StartsBy column n [] = Unit {0}
StartsBy column n (p ∷ more) = (column ≤ p.place.column) × (p.place.column + least_in (p ∷ more) ≤ n)

starts_if : (blank comment : Bool) (ts us : List Placed) (column n : ℕ) → StartsBy column n ts → StartsBy column n us → StartsBy column n (cond blank ts (cond comment [] us))
starts_if true comment ts us column n first others = first
starts_if false true ts us column n first others = tt
starts_if false false ts us column n first others = others

starts_before : (column n : ℕ) (ts : List Placed) → StartsBy (column + 1) (column + 1 + n) ts → StartsBy column (column + suc n) ts
starts_before column n [] starts = tt
starts_before column n (p ∷ more) starts = (omega (arith, starts.0), omega (arith, starts.1))

tokens_start : (line column : ℕ) (bytes : List ℕ) → StartsBy column (column + length bytes) (tokens_in line column zero bytes)
tokens_start line column [] = tt
tokens_start line column (b ∷ rest) =
    let lexeme = lexeme_of (b ∷ rest) in
    let sized : IsSized (suc (length rest)) lexeme = lexeme_sized b rest in
    starts_if (eqb b 0x20) (eqb b 0x23) (tokens_in line (column + 1) zero rest) (put (at line column) lexeme.token ∷ tokens_in line (column + 1) (lexeme.width - 1) rest) column (column + suc (length rest))
    (starts_before column (length rest) (tokens_in line (column + 1) zero rest) (tokens_start line (column + 1) rest))
    (omega arith, omega (arith, tokens_few line (column + 1) (lexeme.width - 1) rest, sized.least, sized.some, sized.within))

cut_by : (fault : Bool) (more cut : List Placed) → least_in cut ≤ least_in more → least_in (cond fault [] cut) ≤ least_in more
cut_by true more cut few = omega arith
cut_by false more cut few = few

cut_few : (ts : List Placed) → least_in (up_to_fault ts) ≤ least_in ts
cut_few [] = omega arith
cut_few (p ∷ more) = omega (arith, cut_by (is_fault p.token) more (up_to_fault more) (cut_few more))

cut_starts : (column n : ℕ) (ts : List Placed) → StartsBy column n ts → StartsBy column n (up_to_fault ts)
cut_starts column n [] starts = tt
cut_starts column n (p ∷ more) starts = (starts.0, omega (arith, starts.1, cut_by (is_fault p.token) more (up_to_fault more) (cut_few more)))

line_few : (line : ℕ) (bytes : List ℕ) → least_in (line_tokens line bytes) ≤ length bytes
line_few line bytes = omega (arith, cut_few (tokens_in line 1 0 bytes), tokens_few line 1 0 bytes)

-- line ends and indentations

least_append : (ts us : List Placed) → least_in (ts ++ us) ≡ least_in ts + least_in us
least_append [] us = omega arith
least_append (p ∷ more) us = omega (arith, least_append more us)

least_dedents : (n : ℕ) (place : Place) → least_in (replicate n (put place token.Dedent)) ≡ 0
least_dedents zero place = refl
least_dedents (suc n) place = omega (arith, least_dedents n place)

-- a line whose brackets stay open has no end yet
abbrev unended : ℕ → ℕ
unended zero = 0
unended (suc n) = 1

end_few : (n : ℕ) (end : Place) → least_in (line_end n end) + unended n ≤ 1
end_few zero end = omega arith
end_few (suc n) end = omega arith

abbrev ArePositive : List ℕ → Type 0
ArePositive [] = Unit {0}
ArePositive (column ∷ outer) = (1 ≤ column) × ArePositive outer

innermost_positive : (blocks : List ℕ) → ArePositive blocks → 1 ≤ innermost blocks
innermost_positive [] positive = omega arith
innermost_positive (column ∷ outer) positive = positive.0

positive_if : (test : Bool) (bs cs : List ℕ) → ArePositive bs → ArePositive cs → ArePositive (cond test bs cs)
positive_if true bs cs one other = one
positive_if false bs cs one other = other

still_positive : (column : ℕ) (blocks : List ℕ) → ArePositive blocks → ArePositive (still_open column blocks)
still_positive column [] positive = tt
still_positive column (c ∷ outer) positive = positive_if (nat_lt column c) (still_open column outer) (c ∷ outer) (still_positive column outer positive.1) positive

at_positive : (column : ℕ) (blocks : List ℕ) → 1 ≤ column → ArePositive blocks → ArePositive (blocks_at column blocks)
at_positive column blocks some positive = positive_if (nat_lt (innermost blocks) column) (column ∷ blocks) (still_open column blocks) (some, positive) (still_positive column blocks positive)

indent_by : (line column n : ℕ) (deeper same : Bool) → (deeper ≡ true → 1 < column) → 1 ≤ column → least_in (cond deeper (put (at line 1) token.Indent ∷ []) (cond same (replicate n (put (at line 1) token.Dedent)) (put (at line 1) (token.Bad Indentation) ∷ []))) + 1 ≤ column
indent_by line column n true same deep some = omega (arith, deep refl)
indent_by line column n false true deep some = omega (arith, some, least_dedents n (at line 1))
indent_by line column n false false deep some = omega (arith, some)

indentation_few : (line column : ℕ) (blocks : List ℕ) → ArePositive blocks → 1 ≤ column → least_in (indentation line column blocks) + 1 ≤ column
indentation_few line column blocks positive some =
    indent_by line column (length blocks - length (still_open column blocks)) (nat_lt (innermost blocks) column) (eqb (innermost (still_open column blocks)) column) (λ e. omega (arith, ltb-true (innermost blocks) column e, innermost_positive blocks positive)) some

-- a line of n bytes
record IsFew (n : ℕ) (l : Laid) : Type 0 where
  few : least_in l.placed + unended l.brackets ≤ n + 1
  positive : ArePositive l.blocks

few_if : (test : Bool) (n : ℕ) (l m : Laid) → IsFew n l → IsFew n m → IsFew n (cond test l m)
few_if true n l m one other = one
few_if false n l m one other = other

ended_few : (n brackets : ℕ) (end : Place) (ts : List Placed) → least_in ts ≤ n → least_in (with_end brackets end ts) + unended (brackets_after brackets ts) ≤ n + 1
ended_few n brackets end ts few = omega (arith, few, least_append ts (line_end (brackets_after brackets ts) end), end_few (brackets_after brackets ts) end)

begun_few : (n : ℕ) (blocks : List ℕ) (end : Place) (ts : List Placed) → ArePositive blocks → StartsBy 1 (1 + n) ts → IsFew n (begun blocks end ts)
begun_few n blocks end [] positive starts = record { few = omega arith; positive = positive }
begun_few n blocks end (p ∷ more) positive starts =
    let tokens : least_in (p ∷ more) ≤ 1 + n - p.place.column = omega (arith, starts.1) in
    let indented : least_in (indentation p.place.line p.place.column blocks) + 1 ≤ p.place.column = indentation_few p.place.line p.place.column blocks positive starts.0 in
    few_if (is_foreign p.token) n _ _
    (record { few = omega (arith, starts.0, starts.1); positive = positive })
    (record {
      few = omega (arith, starts.0, starts.1, indented, least_append (indentation p.place.line p.place.column blocks) (with_end 0 end (p ∷ more)), ended_few (1 + n - p.place.column) 0 end (p ∷ more) tokens);
      positive = at_positive p.place.column blocks starts.0 positive;
    })

laid_few : (line : ℕ) (blocks : List ℕ) (brackets : ℕ) (bytes : List ℕ) → ArePositive blocks → IsFew (length bytes) (laid line blocks brackets bytes)
laid_few line blocks zero bytes positive =
    few_if (is_import bytes) (length bytes) _ _ (record { few = omega arith; positive = positive })
    (begun_few (length bytes) blocks (at line (length bytes + 1)) (line_tokens line bytes) positive (cut_starts 1 (1 + length bytes) (tokens_in line 1 0 bytes) (tokens_start line 1 bytes)))
laid_few line blocks (suc n) bytes positive = record { few = ended_few (length bytes) (suc n) (at line (length bytes + 1)) (line_tokens line bytes) (line_few line bytes); positive = positive }

-- texts: each line has its bytes and its end

abbrev total : List (List ℕ) → ℕ
total [] = 0
total (bytes ∷ more) = length bytes + 1 + total more

abbrev allowed : ℕ → List (List ℕ) → ℕ
allowed brackets [] = unended brackets
allowed brackets (bytes ∷ more) = total (bytes ∷ more)

allowed_most : (brackets : ℕ) (ls : List (List ℕ)) → allowed brackets ls ≤ unended brackets + total ls
allowed_most brackets [] = omega arith
allowed_most brackets (bytes ∷ more) = omega arith

layout_few : (end : Place) (line : ℕ) (blocks : List ℕ) (brackets : ℕ) (ls : List (List ℕ)) → ArePositive blocks → least_in (layout end line blocks brackets ls) ≤ allowed brackets ls
layout_few end line blocks zero [] positive = omega (arith, least_dedents (length blocks) end)
layout_few end line blocks (suc n) [] positive = omega (arith, least_dedents (length blocks) end)
layout_few end line blocks brackets (bytes ∷ more) positive =
    let l = laid line blocks brackets bytes in
    let one : IsFew (length bytes) (laid line blocks brackets bytes) = laid_few line blocks brackets bytes positive in
    omega (
      arith,
      least_append (laid line blocks brackets bytes).placed (layout end (line + 1) (laid line blocks brackets bytes).blocks (laid line blocks brackets bytes).brackets more),
      one.few,
      layout_few end (line + 1) (laid line blocks brackets bytes).blocks (laid line blocks brackets bytes).brackets more one.positive,
      allowed_most (laid line blocks brackets bytes).brackets more,
    )

longer_total : (b : ℕ) (ls : List (List ℕ)) → (ls ≡ [] → ⊥) → total (longer b ls) ≡ total ls + 1
longer_total b [] some = absurd (some refl)
longer_total b (bytes ∷ more) some = omega arith

lines_by : (b : ℕ) (rest : List ℕ) (feed skipped : Bool) → total (lines rest) ≤ length rest + 1 → total (cond feed ([] ∷ lines rest) (cond skipped (lines rest) (longer b (lines rest)))) ≤ length rest + 2
lines_by b rest true skipped few = omega (arith, few)
lines_by b rest false true few = omega (arith, few)
lines_by b rest false false few = omega (arith, few, longer_total b (lines rest) (lines-some rest))

lines_total : (text : List ℕ) → total (lines text) ≤ length text + 1
lines_total [] = omega arith
lines_total (b ∷ rest) = omega (arith, lines_by b rest (eqb b 0x0A) (is_skipped_return b rest) (lines_total rest))

lexed_few : (text : List ℕ) → least_widths (map token_of (lexed text)) ≤ length text + 1
lexed_few text = omega (arith, cut_few (layout (end_place text) 1 [] 0 (lines text)), layout_few (end_place text) 1 [] 0 (lines text) tt, allowed_most 0 (lines text), lines_total text)

-- the tokens of a text
pub few_of : (text : List ℕ) (tokens : List Token) → tokens ≡ map token_of (lexed text) → least_widths tokens ≤ length text + 1
few_of text tokens is = omega (arith, lexed_few text, ap least_widths is)
