-- The tokens of a line without their places.
use Rattle.std.proofs.Common.{◌≡◌, ℕ, zero, suc, ◌+◌, ◌-◌, List, [], ◌∷◌, ◌++◌, map, Bool, true, false, cond, if◌then◌else◌, nat_eq, eqb, length, refl, ap}
use Rattle.text_lexer.specs.Lexeme.{lexeme_of}
use Rattle.text_lexer.specs.Layout.{token_of, tokens_in, put, at}
use Rattle.text_lexer.specs.declared.token.Token.{Token}
use Rattle.text_lexer.specs.declared.place.Placed.{Placed}

-- the tokens of a line, of whose bytes the first ones may belong to a token before them
abbrev pub bare : ℕ → List ℕ → List Token
bare covered [] = []
bare (suc covered) (b ∷ rest) = bare covered rest
bare zero (b ∷ rest) =
    if nat_eq b 0x20 then bare zero rest
    else (if nat_eq b 0x23 then []
    else (lexeme_of (b ∷ rest)).token ∷ bare ((lexeme_of (b ∷ rest)).width - 1) rest)

bare_by : (blank comment : Bool) (p : Placed) (xs ys : List Placed) (us vs : List Token) → map token_of xs ≡ us → map token_of ys ≡ vs → map token_of (cond blank xs (cond comment [] (p ∷ ys))) ≡ cond blank us (cond comment [] (p.token ∷ vs))
bare_by true comment p xs ys us vs e f = e
bare_by false true p xs ys us vs e f = refl
bare_by false false p xs ys us vs e f = ap (λ (ts : List Token). p.token ∷ ts) f

pub bare_is : (line column covered : ℕ) (bytes : List ℕ) → map token_of (tokens_in line column covered bytes) ≡ bare covered bytes
bare_is line column covered [] = refl
bare_is line column (suc covered) (b ∷ rest) = bare_is line (column + 1) covered rest
bare_is line column zero (b ∷ rest) =
    let piece = lexeme_of (b ∷ rest) in
    bare_by (eqb b 0x20) (eqb b 0x23) (put (at line column) piece.token) (tokens_in line (column + 1) zero rest) (tokens_in line (column + 1) (piece.width - 1) rest) (bare zero rest) (bare (piece.width - 1) rest)
    (bare_is line (column + 1) zero rest) (bare_is line (column + 1) (piece.width - 1) rest)

-- bytes of a token before them
pub skip : (covered : List ℕ) (rest : List ℕ) → bare (length covered) (covered ++ rest) ≡ bare 0 rest
skip [] rest = refl
skip (b ∷ more) rest = skip more rest
