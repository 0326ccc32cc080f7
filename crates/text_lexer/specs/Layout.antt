-- The tokens of a text: those of its lines, and what its line ends and indentations say.
use Rattle.std.specs.Prelude.{ℕ, zero, suc, ◌+◌, ◌-◌, List, [], ◌∷◌, ◌++◌, Bool, true, false}
use Rattle.std.specs.Prelude.{if◌then◌else◌, nat_eq, nat_lt, length, replicate, bytes_eq, codes}
use Rattle.std.specs.Prelude.{take}
use Rattle.text_lexer.specs.Lexeme.{lexeme_of}
use Rattle.text_lexer.specs.declared.token.Token.{Token}
use Rattle.text_lexer.specs.declared.token.Token.TheVariants as token
use Rattle.text_lexer.specs.declared.token.Sign.{Sign}
use Rattle.text_lexer.specs.declared.token.Sign.TheVariants.{Open, Close, OpenBracket, CloseBracket}
use Rattle.text_lexer.specs.declared.token.Fault.TheVariants.{Byte, Indentation}
use Rattle.text_lexer.specs.declared.place.Place.{Place}
use Rattle.text_lexer.specs.declared.place.Placed.{Placed}

abbrev pub at : ℕ → ℕ → Place
at line column = record { line = line; column = column }

abbrev pub put : Place → Token → Placed
put place t = record { place = place; token = t }

abbrev pub place_of : Placed → Place
place_of p = p.place

abbrev pub token_of : Placed → Token
token_of p = p.token

-- a carriage return directly before a line feed
abbrev pub is_skipped_return : ℕ → List ℕ → Bool
is_skipped_return b [] = false
is_skipped_return b (c ∷ rest) = if nat_eq b 0x0D then nat_eq c 0x0A else false

-- lines whose first one has one byte more before it
abbrev pub longer : ℕ → List (List ℕ) → List (List ℕ)
longer b [] = (b ∷ []) ∷ []
longer b (line ∷ more) = (b ∷ line) ∷ more

-- the lines of a text, without the line feeds between them; what stands behind the last one is a
-- line too
abbrev pub lines : List ℕ → List (List ℕ)
lines [] = [] ∷ []
lines (b ∷ rest) =
    if nat_eq b 0x0A then [] ∷ lines rest
    else (if is_skipped_return b rest then lines rest
    else longer b (lines rest))

-- how many bytes the line end has that stands first
abbrev pub line_end_width : List ℕ → ℕ
line_end_width [] = 0
line_end_width (b ∷ rest) = if nat_eq b 0x0A then 1 else (if is_skipped_return b rest then 2 else 0)

-- the tokens of a line from a column on, of whose bytes the first ones may belong to a token before
-- them; a comment goes to the line's end
abbrev pub tokens_in : ℕ → ℕ → ℕ → List ℕ → List Placed
tokens_in line column covered [] = []
tokens_in line column (suc covered) (b ∷ rest) = tokens_in line (column + 1) covered rest
tokens_in line column zero (b ∷ rest) =
    if nat_eq b 0x20 then tokens_in line (column + 1) zero rest
    else (if nat_eq b 0x23 then []
    else put (at line column) (lexeme_of (b ∷ rest)).token
    ∷ tokens_in line (column + 1) ((lexeme_of (b ∷ rest)).width - 1) rest)

-- nothing counts behind a fault
abbrev pub is_fault : Token → Bool
is_fault (token.Bad fault) = true
is_fault other = false

abbrev pub up_to_fault : List Placed → List Placed
up_to_fault [] = []
up_to_fault (p ∷ more) = p ∷ (if is_fault p.token then [] else up_to_fault more)

-- there is none
abbrev pub is_sound : List Placed → Bool
is_sound [] = true
is_sound (p ∷ more) = if is_fault p.token then false else is_sound more

abbrev pub line_tokens : ℕ → List ℕ → List Placed
line_tokens line bytes = up_to_fault (tokens_in line 1 0 bytes)

-- how many brackets are open behind a token; each closing bracket closes one, if there is one
abbrev pub bracket : ℕ → Sign → ℕ
bracket n Open = n + 1
bracket n OpenBracket = n + 1
bracket n Close = n - 1
bracket n CloseBracket = n - 1
bracket n other = n

abbrev pub brackets_behind : ℕ → Token → ℕ
brackets_behind n (token.Sign sign) = bracket n sign
brackets_behind n other = n

abbrev pub brackets_after : ℕ → List Placed → ℕ
brackets_after n [] = n
brackets_after n (p ∷ more) = brackets_after (brackets_behind n p.token) more

-- a line of these is skipped whole where no bracket is open
abbrev pub is_import : List ℕ → Bool
is_import line =
    if bytes_eq (take 5 line) (codes "from ")
    then true
    else bytes_eq (take 7 line) (codes "import ")

-- The blocks that are indented are known by the columns at which their lines begin, the innermost
-- first. Outside them lines begin at column 1.
abbrev pub innermost : List ℕ → ℕ
innermost [] = 1
innermost (column ∷ outer) = column

-- the blocks that do not end before a line at a column
abbrev pub still_open : ℕ → List ℕ → List ℕ
still_open column [] = []
still_open column (c ∷ outer) = if nat_lt column c then still_open column outer else c ∷ outer

-- the blocks behind the beginning of a line at a column
abbrev pub blocks_at : ℕ → List ℕ → List ℕ
blocks_at column blocks =
    if nat_lt (innermost blocks) column then column ∷ blocks else still_open column blocks

-- one indent, or a dedent for each block that ends, or a fault where no block has the column
abbrev pub indentation : ℕ → ℕ → List ℕ → List Placed
indentation line column blocks =
    if nat_lt (innermost blocks) column then put (at line 1) token.Indent ∷ []
    else (if nat_eq (innermost (still_open column blocks)) column
    then replicate (length blocks - length (still_open column blocks))
    (put (at line 1) token.Dedent)
    else put (at line 1) (token.Bad Indentation) ∷ [])

abbrev pub is_foreign : Token → Bool
is_foreign (token.Bad Byte) = true
is_foreign other = false

-- a line ends where no bracket is open
abbrev pub line_end : ℕ → Place → List Placed
line_end zero end = put end token.NewLine ∷ []
line_end (suc n) end = []

abbrev pub with_end : ℕ → Place → List Placed → List Placed
with_end brackets end tokens = tokens ++ line_end (brackets_after brackets tokens) end

-- what one line gives, and what is open behind it
pub record Laid : Type 0 where
  pub placed : List Placed
  pub blocks : List ℕ
  pub brackets : ℕ

-- A line that begins where no bracket is open. One without tokens counts for nothing, and a byte
-- that no text has leaves its indentation open.
abbrev pub begun : List ℕ → Place → List Placed → Laid
begun blocks end [] = record { placed = []; blocks = blocks; brackets = 0 }
begun blocks end (p ∷ more) =
    if is_foreign p.token then record { placed = p ∷ more; blocks = blocks; brackets = 0 }
    else record {
      placed = indentation p.place.line p.place.column blocks ++ with_end 0 end (p ∷ more);
      blocks = blocks_at p.place.column blocks;
      brackets = brackets_after 0 (p ∷ more);
    }

abbrev pub laid : ℕ → List ℕ → ℕ → List ℕ → Laid
laid line blocks zero bytes =
    if is_import bytes then record { placed = []; blocks = blocks; brackets = 0 }
    else begun blocks (at line (length bytes + 1)) (line_tokens line bytes)
laid line blocks (suc n) bytes = record {
  placed = with_end (suc n) (at line (length bytes + 1)) (line_tokens line bytes);
  blocks = blocks;
  brackets = brackets_after (suc n) (line_tokens line bytes);
}

-- the place behind the last byte of lines that begin with this one
abbrev pub end_from : ℕ → List (List ℕ) → Place
end_from line [] = at line 1
end_from line (bytes ∷ []) = at line (length bytes + 1)
end_from line (bytes ∷ next ∷ more) = end_from (line + 1) (next ∷ more)

abbrev pub end_place : List ℕ → Place
end_place text = end_from 1 (lines text)

-- the end of the text ends a line that brackets hold open, and all blocks
abbrev pub text_end : Place → List ℕ → ℕ → List Placed
text_end end blocks zero = replicate (length blocks) (put end token.Dedent)
text_end end blocks (suc n) =
    put end token.NewLine ∷ replicate (length blocks) (put end token.Dedent)

-- the tokens of lines from this one on, with these blocks and so many brackets open before it
abbrev pub layout : Place → ℕ → List ℕ → ℕ → List (List ℕ) → List Placed
layout end line blocks brackets [] = text_end end blocks brackets
layout end line blocks brackets (bytes ∷ more) =
    (laid line blocks brackets bytes).placed
    ++ layout end (line + 1) (laid line blocks brackets bytes).blocks
    (laid line blocks brackets bytes).brackets more

-- the tokens of a text with their places
abbrev pub lexed : List ℕ → List Placed
lexed text = up_to_fault (layout (end_place text) 1 [] 0 (lines text))

-- the tokens of a text that is to be one line, as the string of an argument; a second line begins
-- behind a line end
abbrev pub one_line : List (List ℕ) → List Placed
one_line [] = []
one_line (bytes ∷ []) = line_tokens 1 bytes
one_line (bytes ∷ next ∷ more) =
    up_to_fault (line_tokens 1 bytes ++ (put (at 1 (length bytes + 1)) token.NewLine ∷ []))

abbrev pub line_lexed : List ℕ → List Placed
line_lexed text = one_line (lines text)
