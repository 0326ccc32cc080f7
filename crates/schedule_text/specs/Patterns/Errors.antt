-- What is wrong at a byte of a text of one line.
use Rattle.std.specs.Prelude.{ℕ, List, [], ◌∷◌, if◌then◌else◌, nat_eq}
use Rattle.text_lexer.specs.Bytes.{is_printable}
use Rattle.text_lexer.specs.Layout.{is_skipped_return}
use Rattle.exo_reader.specs.declared.unit.ReadError.{ReadError}
use Rattle.exo_reader.specs.declared.unit.ReadKind.{ReadKind}
use Rattle.exo_reader.specs.declared.unit.ReadKind.TheVariants.{Memory, Syntax, BadByte}

-- why bytes may not stand where nothing does: a byte that no text has, or else the end of a line
-- or a byte of a text
abbrev pub kind_at : List ℕ → ReadKind
kind_at [] = Syntax
kind_at (b ∷ rest) =
    if is_printable b then Syntax
    else (if nat_eq b 0x0A then Syntax
    else (if is_skipped_return b rest then Syntax
    else BadByte))

-- an error in the first line
abbrev pub error_in : ℕ → ReadKind → ReadError
error_in column kind = record { line = 1; column = column; kind = kind }

-- what an error of this kind says, but for want of memory
abbrev pub UnlessMemory : ReadKind → Type 0 → Type 0
UnlessMemory Memory claim = Unit {0}
UnlessMemory other claim = claim
