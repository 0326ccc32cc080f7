-- The words of the command line, and which of them are commands.
use Rattle.std.specs.Prelude.{ℕ, ◌==◌, Bool, false, ◌&&◌, not, List, [], ◌∷◌, map, string_bytes}
use Rattle.std.specs.Prelude.{Option, Some, None, option_map, if◌then◌else◌, codes}
use Rattle.std.specs.Str.{bytes_eq}
use Rattle.std.specs.declared.string.String.{String}
use Rattle.std.specs.declared.alloc.Global.{Global}
use Rattle.compile_stages.specs.Samples.Numbers.{number_of}

-- what the program is asked to do; its operands are names of files, the last of `show` that of a
-- version, and that of `gen` a number
pub data Command : Type 0 where
  Compile : List ℕ → List ℕ → Command
  Check : List ℕ → Command
  Show : List ℕ → List ℕ → List ℕ → Command
  Gen : ℕ → Command

-- the bytes of each word
abbrev pub texts : List (String Global) → List (List ℕ)
texts words = map string_bytes words

-- a word can be an operand: it is not empty and does not begin with a hyphen
abbrev pub is_operand : List ℕ → Bool
is_operand [] = false
is_operand (first ∷ rest) = not (first == 45)

-- the command of a word and one operand
abbrev pub short_of : List ℕ → List ℕ → Option Command
short_of word operand =
    if bytes_eq word (codes "check") && is_operand operand then Some (Check operand)
    else if bytes_eq word (codes "gen") then option_map Gen (number_of operand) else None

-- the command of the words, the first of which is the program's name
abbrev pub command_of : List (List ℕ) → Option Command
command_of (program ∷ word ∷ operand ∷ []) = short_of word operand
command_of (program ∷ word ∷ procs ∷ schedule ∷ []) =
    if bytes_eq word (codes "compile") && is_operand procs && is_operand schedule
    then Some (Compile procs schedule) else None
command_of (program ∷ word ∷ procs ∷ schedule ∷ name ∷ []) =
    if bytes_eq word (codes "show") && is_operand procs && is_operand schedule && is_operand name
    then Some (Show procs schedule name) else None
command_of words = None

-- the files that a command reads, in order
abbrev pub files_of : Command → List (List ℕ)
files_of (Compile procs schedule) = procs ∷ schedule ∷ []
files_of (Check procs) = procs ∷ []
files_of (Show procs schedule name) = procs ∷ schedule ∷ []
files_of (Gen n) = []
