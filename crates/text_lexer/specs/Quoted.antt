-- Strings behind their first quote.
use Rattle.std.specs.Prelude.{◌≡◌, ℕ, ◌+◌, ◌≤◌, ◌<◌, List, [], ◌∷◌, ◌++◌, drop, length}
use Rattle.std.specs.Prelude.{if◌then◌else◌, nat_eq, Option, Some, None}
use Rattle.text_lexer.specs.Bytes.{is_printable, escaped}
use Rattle.text_lexer.specs.declared.quoted.Ending.{Ending}
use Rattle.text_lexer.specs.declared.quoted.Ending.TheVariants.{Closed, Unclosed, Foreign}
use Rattle.text_lexer.specs.declared.quoted.Quoted.{Quoted}
use Rattle.text_lexer.specs.declared.quoted.Part.{Part}
use Rattle.text_lexer.specs.declared.quoted.Part.TheVariants.{Byte, End}

-- a string with n bytes more before it, for which it stands for these too
abbrev pub behind : List ℕ → ℕ → Quoted → Quoted
behind front n q = record { text = front ++ q.text; width = n + q.width; ending = q.ending }

-- a string of which nothing is left but n bytes
abbrev pub ends : ℕ → Ending → Quoted
ends n ending = record { text = []; width = n; ending = ending }

-- a backslash and this byte, and the string behind them
abbrev pub unescaped : Option ℕ → ℕ → Quoted → Quoted
unescaped (Some c) b q = behind (c ∷ []) 2 q
unescaped None b q = ends 1 (if is_printable b then Unclosed else Foreign)

abbrev mutual
  -- the string behind its first quote, on whose line these bytes stand
  pub quoted : ℕ → List ℕ → Quoted
  quoted quote [] = ends 0 Unclosed
  quoted quote (b ∷ rest) =
      if nat_eq b quote then ends 1 Closed
      else (if nat_eq b 0x5C then after_backslash quote rest
      else (if is_printable b then behind (b ∷ []) 1 (quoted quote rest)
      else ends 0 Foreign))

  -- the string from a backslash on, by the bytes behind that
  pub after_backslash : ℕ → List ℕ → Quoted
  after_backslash quote [] = ends 1 Unclosed
  after_backslash quote (b ∷ rest) = unescaped (escaped b) b (quoted quote rest)

-- a part of a string, at the front of its bytes
abbrev pub IsPart : ℕ → List ℕ → Quoted → Part → Type 0
IsPart quote bytes q (Byte c n) = (c < 0x80)
    × (1 ≤ n)
    × (n ≤ length bytes)
    × (q ≡ behind (c ∷ []) n (quoted quote (drop n bytes)))
IsPart quote bytes q (End ending n) = (n ≤ length bytes) × (q ≡ ends n ending)
