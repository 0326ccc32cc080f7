-- Where some statements of a procedure stand.
use Rattle.std.specs.Prelude.{◌≡◌, ◌≤◌, ◌+◌, ℕ, List, [], ◌∷◌, length, slice_range, Option, Some, None}
use Rattle.exo_tree.specs.Tree.{Statement, block}
use Rattle.exo_tree.specs.Places.{Opened}
use Rattle.exo_effects.specs.Parts as plain
use Rattle.exo_effects.specs.Parts.{passed, parts_at}
use Rattle.exo_effects.specs.declared.piece.PieceStart.{PieceStart}

-- behind some statements on the way to a piece
abbrev pub passed_all : List Statement → plain.Parts → plain.Parts
passed_all [] parts = parts
passed_all (a ∷ rest) parts = passed_all rest (passed a parts)

-- so many statements from a spot on
abbrev pub IsAt : ℕ → PieceStart → Opened → Type 0
IsAt count s o =
    (s.from + count ≤ length s.block.now)
    × (o.piece ≡ block (slice_range s.block.now s.from (s.from + count)))

-- a way leads to the spot of what is opened, past what stands before it; None where nothing is opened
abbrev pub LeadsTo : ℕ → Option Opened → Option PieceStart → plain.Parts → plain.Parts → Type 0
LeadsTo count x None old new = x ≡ None
LeadsTo count x (Some s) old new =
    (o : Opened) × (x ≡ Some o) × IsAt count s o × (new ≡ parts_at o.around old)
