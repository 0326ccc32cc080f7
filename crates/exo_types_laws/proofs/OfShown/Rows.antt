-- Lines of a text, one after another, and the blocks that their indentations open and close.
use Rattle.std.proofs.Common.{◌≡◌, ℕ, zero, suc, ◌+◌, ◌-◌, ◌≤◌, List, [], ◌∷◌, ◌++◌, map, replicate, true, false, nat_eq, nat_lt, eqb, ltb, length, refl, sym, ap, ◌∙◌, append_assoc, append-nil, codes, arith, subst, lt-ltb}
use Rattle.std.proofs.lemmas.List.{map-append}
use Rattle.std.proofs.lemmas.Bool.Decides.{nat_tests}
use Rattle.text_lexer.specs.Lexeme.{lexeme_of}
use Rattle.text_lexer.specs.Layout.{at, put, token_of, lines, longer, is_skipped_return, tokens_in, line_tokens, is_fault, is_foreign, up_to_fault, brackets_behind, brackets_after, is_import, innermost, still_open, blocks_at, indentation, line_end, with_end, begun, laid, layout, Laid}
use Rattle.text_lexer.specs.declared.place.Place.{Place}
use Rattle.text_lexer.specs.declared.place.Placed.{Placed}
use Rattle.text_lexer.specs.declared.token.Token.{Token}
use Rattle.text_lexer.specs.declared.token.Token.TheVariants as t
use Rattle.exo_types_laws.proofs.OfShown.Bare.{bare, bare_is}
use Rattle.exo_types_laws.proofs.OfShown.Pieces.{Free, Reads, OneLine, one_line_append}

-- ---- tokens without faults, and with all brackets closed

abbrev pub IsSound : List Token → Type 0
IsSound [] = Unit {0}
IsSound (token ∷ more) = (is_fault token ≡ false) × IsSound more

abbrev pub open_after : ℕ → List Token → ℕ
open_after n [] = n
open_after n (token ∷ more) = open_after (brackets_behind n token) more

pub open_is : (n : ℕ) (ps : List Placed) → brackets_after n ps ≡ open_after n (map token_of ps)
open_is n [] = refl
open_is n (p ∷ more) = open_is (brackets_behind n p.token) more

pub kept : (ps : List Placed) → IsSound (map token_of ps) → up_to_fault ps ≡ ps
kept [] sound = refl
kept (p ∷ more) sound = rw sound.0 (ap (λ (l : List Placed). p ∷ l) (kept more sound.1))

not_foreign : (token : Token) → is_fault token ≡ false → is_foreign token ≡ false
not_foreign (t.Bad fault) e = absurd (grind (arith, e))
not_foreign other e = refl

-- ---- the lines of a text

no_return : (b : ℕ) (rest : List ℕ) → eqb b 0x0D ≡ false → is_skipped_return b rest ≡ false
no_return b [] e = refl
no_return b (c ∷ rest) e = rw e refl

pub line_byte : (b : ℕ) (rest : List ℕ) → nat_lt b 0x20 ≡ false → lines (b ∷ rest) ≡ longer b (lines rest)
line_byte b rest e =
    let feed : eqb b 0x0A ≡ false = grind (arith, nat_tests, e) in
    let return : eqb b 0x0D ≡ false = grind (arith, nat_tests, e) in
    rw (feed, no_return b rest return) refl

-- a line and its end stand first
pub lines_row : (x rest : List ℕ) → OneLine x → lines (x ++ (0x0A ∷ rest)) ≡ x ∷ lines rest
lines_row [] rest l = refl
lines_row (b ∷ x) rest l = line_byte b (x ++ (0x0A ∷ rest)) l.0 ∙ ap (longer b) (lines_row x rest l.1)

-- ---- indentations

abbrev pub indent_of : ℕ → List ℕ
indent_of zero = []
indent_of (suc k) = indent_of k ++ codes "    "

-- the column at which lines begin in blocks of that nesting
abbrev pub margin : ℕ → ℕ
margin zero = 1
margin (suc k) = margin k + 1 + 1 + 1 + 1

abbrev pub columns : ℕ → List ℕ
columns zero = []
columns (suc k) = margin (suc k) ∷ columns k

-- so many blocks deeper
abbrev pub deep : ℕ → ℕ → ℕ
deep zero k = k
deep (suc d) k = suc (deep d k)

pub indent_line : (k : ℕ) → OneLine (indent_of k)
indent_line zero = tt
indent_line (suc k) = one_line_append (indent_of k) (codes "    ") (indent_line k) (refl, (refl, (refl, (refl, tt))))

indent_tokens : (line k : ℕ) (x : List ℕ) → tokens_in line 1 0 (indent_of k ++ x) ≡ tokens_in line (margin k) 0 x
indent_tokens line zero x = refl
indent_tokens line (suc k) x = ap (tokens_in line 1 0) (append_assoc (indent_of k) (codes "    ") x) ∙ indent_tokens line k (codes "    " ++ x)

pub no_import : (k : ℕ) (x : List ℕ) → is_import (indent_of (suc k) ++ x) ≡ false
no_import zero x = refl
no_import (suc k) x = ap is_import (append_assoc (indent_of (suc k)) (codes "    ") x) ∙ no_import k (codes "    " ++ x)

margin_grows : (d k : ℕ) → margin k ≤ margin (deep d k)
margin_grows zero k = omega arith
margin_grows (suc d) k = omega (arith, margin_grows d k)

innermost_is : (k : ℕ) → innermost (columns k) ≡ margin k
innermost_is zero = refl
innermost_is (suc k) = refl

length_columns : (k : ℕ) → length (columns k) ≡ k
length_columns zero = refl
length_columns (suc k) = ap suc (length_columns k)

deep_is : (d k : ℕ) → deep d k ≡ d + k
deep_is zero k = omega arith
deep_is (suc d) k = omega (arith, deep_is d k)

not_below : (m n : ℕ) → n ≤ m → ltb m n ≡ false
not_below m n l = grind (arith, nat_tests)

same : (n : ℕ) → eqb n n ≡ true
same n = grind (arith, nat_tests)

still_own : (k : ℕ) → still_open (margin k) (columns k) ≡ columns k
still_own zero = refl
still_own (suc k) = rw (not_below (margin (suc k)) (margin (suc k)) (omega arith)) refl

still_is : (d k : ℕ) → still_open (margin k) (columns (deep d k)) ≡ columns k
still_is zero k = still_own k
still_is (suc d) k = rw (lt-ltb (margin k) (margin (suc (deep d k))) (omega (arith, margin_grows d k))) (still_is d k)

-- a line at the margin of an outer block
blocks_back : (d k : ℕ) → blocks_at (margin k) (columns (deep d k)) ≡ columns k
blocks_back d k =
    let l : ltb (innermost (columns (deep d k))) (margin k) ≡ false = rw (innermost_is (deep d k)) (not_below (margin (deep d k)) (margin k) (margin_grows d k)) in
    rw l (still_is d k)

blocks_in : (k : ℕ) → blocks_at (margin (suc k)) (columns k) ≡ columns (suc k)
blocks_in k =
    let l : ltb (innermost (columns k)) (margin (suc k)) ≡ true = rw (innermost_is k) (lt-ltb (margin k) (margin (suc k)) (omega arith)) in
    rw l refl

-- ---- a line

abbrev pub BeginsRow : List ℕ → Type 0
BeginsRow [] = ⊥
BeginsRow (b ∷ more) = (nat_eq b 0x20 ≡ false) × (nat_eq b 0x23 ≡ false)

-- a text that stands as one line behind an indentation
pub record IsRow (text : List ℕ) (tokens : List Token) : Type 0 where
  pub reads : Reads Free text tokens
  pub begins : BeginsRow text
  pub sound : IsSound tokens
  pub closed : open_after 0 tokens ≡ 0

-- the tokens of a line, of which the first stands at that column
record Placing (line column : ℕ) (found : List Placed) (tokens : List Token) : Type 0 where
  token : Token
  more : List Placed
  is : found ≡ put (at line column) token ∷ more
  all : tokens ≡ token ∷ map token_of more

placing_tokens : (line column : ℕ) (text : List ℕ) (tokens : List Token) → IsRow text tokens → map token_of (tokens_in line column 0 text) ≡ tokens
placing_tokens line column text tokens row =
    bare_is line column 0 text ∙ ap (bare 0) (sym (append-nil text)) ∙ row.reads.goes [] tt ∙ append-nil tokens

first_placed : (line column : ℕ) (text : List ℕ) (tokens : List Token) → BeginsRow text → map token_of (tokens_in line column 0 text) ≡ tokens → Placing line column (tokens_in line column 0 text) tokens
first_placed line column [] tokens begins e = absurd begins
first_placed line column (b ∷ rest) tokens begins e =
    let is : tokens_in line column 0 (b ∷ rest) ≡ put (at line column) (lexeme_of (b ∷ rest)).token ∷ tokens_in line (column + 1) ((lexeme_of (b ∷ rest)).width - 1) rest = rw (begins.0, begins.1) refl in
    record {
      token = (lexeme_of (b ∷ rest)).token;
      more = tokens_in line (column + 1) ((lexeme_of (b ∷ rest)).width - 1) rest;
      is = is;
      all = sym e ∙ ap (map token_of) is;
    }

row_placed : (line k : ℕ) (text : List ℕ) (tokens : List Token) → IsRow text tokens → Placing line (margin k) (line_tokens line (indent_of k ++ text)) tokens
row_placed line k text tokens row =
    let e : map token_of (tokens_in line (margin k) 0 text) ≡ tokens = placing_tokens line (margin k) text tokens row in
    let cut : line_tokens line (indent_of k ++ text) ≡ tokens_in line (margin k) 0 text =
    ap up_to_fault (indent_tokens line k text) ∙ kept (tokens_in line (margin k) 0 text) (subst IsSound (sym e) row.sound) in
    subst (λ (found : List Placed). Placing line (margin k) found tokens) (sym cut) (first_placed line (margin k) text tokens row.begins e)

-- what a line gives, of which this is the first token
pub record IsLaid (l : Laid) (tokens : List Token) (blocks : List ℕ) : Type 0 where
  pub all : map token_of l.placed ≡ tokens
  pub behind : l.blocks ≡ blocks
  pub brackets : l.brackets ≡ 0

begun_is : (blocks after : List ℕ) (end : Place) (line column : ℕ) (token : Token) (more : List Placed) (tokens before : List Token) → tokens ≡ token ∷ map token_of more → IsSound tokens → open_after 0 tokens ≡ 0 → blocks_at column blocks ≡ after → map token_of (indentation line column blocks) ≡ before → IsLaid (begun blocks end (put (at line column) token ∷ more)) (before ++ (tokens ++ (t.NewLine ∷ []))) after
begun_is blocks after end line column token more tokens before e sound closed back indents =
    let ps = put (at line column) token ∷ more in
    let s : IsSound (token ∷ map token_of more) = subst IsSound e sound in
    let n : brackets_after 0 ps ≡ 0 = open_is 0 ps ∙ ap (open_after 0) (sym e) ∙ closed in
    let w : with_end 0 end ps ≡ ps ++ (put end t.NewLine ∷ []) = ap (λ (m : ℕ). ps ++ line_end m end) n in
    let all : map token_of (indentation line column blocks ++ with_end 0 end ps) ≡ before ++ (tokens ++ (t.NewLine ∷ [])) =
    map-append token_of (indentation line column blocks) (with_end 0 end ps)
    ∙ ap (λ (ts : List Token). ts ++ map token_of (with_end 0 end ps)) indents
    ∙ ap (λ (ts : List Token). before ++ ts) (ap (map token_of) w ∙ map-append token_of ps (put end t.NewLine ∷ []) ∙ ap (λ (ts : List Token). ts ++ (t.NewLine ∷ [])) (sym e)) in
    rw (not_foreign token s.0) (record { all = all; behind = back; brackets = n })

pub laid_is : (line k : ℕ) (text : List ℕ) (tokens before : List Token) (blocks after : List ℕ) → IsRow text tokens → is_import (indent_of k ++ text) ≡ false → blocks_at (margin k) blocks ≡ after → map token_of (indentation line (margin k) blocks) ≡ before → IsLaid (laid line blocks 0 (indent_of k ++ text)) (before ++ (tokens ++ (t.NewLine ∷ []))) after
laid_is line k text tokens before blocks after row import back indents =
    let p : Placing line (margin k) (line_tokens line (indent_of k ++ text)) tokens = row_placed line k text tokens row in
    let end = at line (length (indent_of k ++ text) + 1) in
    let e : laid line blocks 0 (indent_of k ++ text) ≡ begun blocks end (put (at line (margin k)) p.token ∷ p.more) = rw import (ap (begun blocks end) p.is) in
    subst (λ (l : Laid). IsLaid l (before ++ (tokens ++ (t.NewLine ∷ []))) after) (sym e)
    (begun_is blocks after end line (margin k) p.token p.more tokens before p.all row.sound row.closed back indents)

-- ---- line after line

-- the tokens of lines from this one on, in blocks of that nesting
abbrev pub laid_out : Place → ℕ → ℕ → List (List ℕ) → List Token
laid_out end line k ls = map token_of (layout end line (columns k) 0 ls)

pub map_replicate : (n : ℕ) (p : Placed) → map token_of (replicate n p) ≡ replicate n p.token
map_replicate zero p = refl
map_replicate (suc n) p = ap (λ (ts : List Token). p.token ∷ ts) (map_replicate n p)

layout_next : (end : Place) (line k m : ℕ) (bytes : List ℕ) (ls : List (List ℕ)) (tokens : List Token) → IsLaid (laid line (columns k) 0 bytes) tokens (columns m) → laid_out end line k (bytes ∷ ls) ≡ tokens ++ laid_out end (line + 1) m ls
layout_next end line k m bytes ls tokens l =
    map-append token_of (laid line (columns k) 0 bytes).placed (layout end (line + 1) (laid line (columns k) 0 bytes).blocks (laid line (columns k) 0 bytes).brackets ls)
    ∙ ap (λ (ts : List Token). ts ++ map token_of (layout end (line + 1) (laid line (columns k) 0 bytes).blocks (laid line (columns k) 0 bytes).brackets ls)) l.all
    ∙ ap (λ (blocks : List ℕ). tokens ++ map token_of (layout end (line + 1) blocks (laid line (columns k) 0 bytes).brackets ls)) l.behind
    ∙ ap (λ (n : ℕ). tokens ++ map token_of (layout end (line + 1) (columns m) n ls)) l.brackets

back_indents : (line d k : ℕ) → map token_of (indentation line (margin k) (columns (deep d k))) ≡ replicate d t.Dedent
back_indents line d k =
    let l : ltb (innermost (columns (deep d k))) (margin k) ≡ false = rw (innermost_is (deep d k)) (not_below (margin (deep d k)) (margin k) (margin_grows d k)) in
    let own : eqb (innermost (still_open (margin k) (columns (deep d k)))) (margin k) ≡ true = rw (still_is d k, innermost_is k) (same (margin k)) in
    let counts : length (columns (deep d k)) - length (still_open (margin k) (columns (deep d k))) ≡ d = rw (still_is d k) (omega (arith, length_columns (deep d k), length_columns k, deep_is d k)) in
    rw (l, own, counts) (map_replicate d (put (at line 1) t.Dedent))

in_indents : (line k : ℕ) → map token_of (indentation line (margin (suc k)) (columns k)) ≡ t.Indent ∷ []
in_indents line k =
    let l : ltb (innermost (columns k)) (margin (suc k)) ≡ true = rw (innermost_is k) (lt-ltb (margin k) (margin (suc k)) (omega arith)) in
    rw l refl

parted : (before tokens rest : List Token) → before ++ (tokens ++ (t.NewLine ∷ [])) ++ rest ≡ before ++ (tokens ++ (t.NewLine ∷ rest))
parted before tokens rest = append_assoc before (tokens ++ (t.NewLine ∷ [])) rest ∙ ap (λ (ts : List Token). before ++ ts) (append_assoc tokens (t.NewLine ∷ []) rest)

-- a line at the margin of an outer block, behind deeper ones
pub row_back : (end : Place) (line d k : ℕ) (text : List ℕ) (tokens : List Token) (ls : List (List ℕ)) → IsRow text tokens → is_import (indent_of k ++ text) ≡ false → laid_out end line (deep d k) ((indent_of k ++ text) ∷ ls) ≡ replicate d t.Dedent ++ (tokens ++ (t.NewLine ∷ laid_out end (line + 1) k ls))
row_back end line d k text tokens ls row import =
    layout_next end line (deep d k) k (indent_of k ++ text) ls (replicate d t.Dedent ++ (tokens ++ (t.NewLine ∷ [])))
    (laid_is line k text tokens (replicate d t.Dedent) (columns (deep d k)) (columns k) row import (blocks_back d k) (back_indents line d k))
    ∙ parted (replicate d t.Dedent) tokens (laid_out end (line + 1) k ls)

-- a line that begins a block
pub row_in : (end : Place) (line k : ℕ) (text : List ℕ) (tokens : List Token) (ls : List (List ℕ)) → IsRow text tokens → laid_out end line k ((indent_of (suc k) ++ text) ∷ ls) ≡ t.Indent ∷ (tokens ++ (t.NewLine ∷ laid_out end (line + 1) (suc k) ls))
row_in end line k text tokens ls row =
    layout_next end line k (suc k) (indent_of (suc k) ++ text) ls (t.Indent ∷ (tokens ++ (t.NewLine ∷ [])))
    (laid_is line (suc k) text tokens (t.Indent ∷ []) (columns k) (columns (suc k)) row (no_import k text) (blocks_in k) (in_indents line k))
    ∙ parted (t.Indent ∷ []) tokens (laid_out end (line + 1) (suc k) ls)

-- ---- texts

abbrev pub text_out : Place → ℕ → ℕ → List ℕ → List Token
text_out end line k text = laid_out end line k (lines text)

-- a line behind an indentation, and its end
abbrev pub row : ℕ → List ℕ → List ℕ
row k text = indent_of k ++ text ++ codes "\n"

pub lines_of_row : (k : ℕ) (text rest : List ℕ) (tokens : List Token) → IsRow text tokens → lines (row k text ++ rest) ≡ (indent_of k ++ text) ∷ lines rest
lines_of_row k text rest tokens r =
    ap lines (append_assoc (indent_of k ++ text) (codes "\n") rest) ∙ lines_row (indent_of k ++ text) rest (one_line_append (indent_of k) text (indent_line k) r.reads.line)

-- the text goes on in a block of that nesting, or ends
abbrev pub Below : ℕ → List ℕ → Type 0
Below k text = (end : Place) (line d : ℕ) → text_out end line (deep d k) text ≡ replicate d t.Dedent ++ text_out end line k text

pub row_after : (end : Place) (line d k : ℕ) (text rest : List ℕ) (tokens : List Token) → IsRow text tokens → is_import (indent_of k ++ text) ≡ false → text_out end line (deep d k) (row k text ++ rest) ≡ replicate d t.Dedent ++ (tokens ++ (t.NewLine ∷ text_out end (line + 1) k rest))
row_after end line d k text rest tokens r import =
    ap (laid_out end line (deep d k)) (lines_of_row k text rest tokens r) ∙ row_back end line d k text tokens (lines rest) r import

pub row_first : (end : Place) (line k : ℕ) (text rest : List ℕ) (tokens : List Token) → IsRow text tokens → text_out end line k (row (suc k) text ++ rest) ≡ t.Indent ∷ (tokens ++ (t.NewLine ∷ text_out end (line + 1) (suc k) rest))
row_first end line k text rest tokens r =
    ap (laid_out end line k) (lines_of_row (suc k) text rest tokens r) ∙ row_in end line k text tokens (lines rest) r

pub below_row : (k : ℕ) (text rest : List ℕ) (tokens : List Token) → IsRow text tokens → is_import (indent_of k ++ text) ≡ false → Below k (row k text ++ rest)
below_row k text rest tokens r import end line d =
    row_after end line d k text rest tokens r import ∙ ap (λ (ts : List Token). replicate d t.Dedent ++ ts) (sym (row_after end line zero k text rest tokens r import))

pub end_out : (end : Place) (line k : ℕ) → text_out end line k [] ≡ replicate k t.Dedent
end_out end line k = map_replicate (length (columns k)) (put end t.Dedent) ∙ ap (λ (n : ℕ). replicate n t.Dedent) (length_columns k)

replicate_deep : (d k : ℕ) (token : Token) → replicate (deep d k) token ≡ replicate d token ++ replicate k token
replicate_deep zero k token = refl
replicate_deep (suc d) k token = ap (λ (ts : List Token). token ∷ ts) (replicate_deep d k token)

pub below_end : (k : ℕ) → Below k []
below_end k end line d = end_out end line (deep d k) ∙ replicate_deep d k t.Dedent ∙ ap (λ (ts : List Token). replicate d t.Dedent ++ ts) (sym (end_out end line k))

deep_suc : (d k : ℕ) → deep d (suc k) ≡ suc (deep d k)
deep_suc zero k = refl
deep_suc (suc d) k = ap suc (deep_suc d k)

replicate_back : (d : ℕ) (token : Token) (ts : List Token) → token ∷ (replicate d token ++ ts) ≡ replicate d token ++ (token ∷ ts)
replicate_back zero token ts = refl
replicate_back (suc d) token ts = ap (λ (us : List Token). token ∷ us) (replicate_back d token ts)

-- one block more ends before it
pub below_more : (k : ℕ) (text : List ℕ) → Below k text → Below (suc k) text
below_more k text below end line d =
    ap (λ (m : ℕ). text_out end line m text) (deep_suc d k) ∙ below end line (suc d) ∙ replicate_back d t.Dedent (text_out end line k text)
    ∙ ap (λ (ts : List Token). replicate d t.Dedent ++ ts) (sym (below end line 1))
