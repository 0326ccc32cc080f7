-- What the cursor of an operator stands for: a statement, some statements, or a gap; a cursor of
-- another form is of the wrong shape.
use Rattle.std.specs.Prelude.{ℕ, suc, List, [], ◌∷◌}
use Rattle.std.specs.Prelude.{Option, Some, option_map, option_and_then}
use Rattle.exo_tree.specs.Places.{Branch, Main, Path}
use Rattle.cursor_forward.specs.Causes.{WrongShape}
use Rattle.cursor_forward.specs.Cursors.{Side, Before, After, Cursor, Node, Range, Gap, owner}
use Rattle.cursor_forward.specs.Shifts.{word}
use Rattle.step_rules.specs.Rule.{Tried, Got, Not, Piece}
use Rattle.step_rules.specs.Shapes.{tried}

-- a statement
abbrev pub statement_in : Cursor → Tried Path
statement_in (Node path) = Got path
statement_in (Range path count) = Not WrongShape
statement_in (Gap path side) = Not WrongShape

-- a statement or a block
abbrev pub block_in : Cursor → Tried Piece
block_in (Node path) = Got (record { path = path; count = 1 })
block_in (Range path count) = Got (record { path = path; count = count })
block_in (Gap path side) = Not WrongShape

-- ---- statements in the block of another one

-- that one, the branch, and the number of the statement in it
pub record Within : Type 0 where
  pub around : Path
  pub branch : Branch
  pub index : ℕ

-- the number of a statement in its block
abbrev pub number_in_block : Path → ℕ
number_in_block [] = 0
number_in_block (s ∷ []) = s.index
number_in_block (s ∷ t ∷ path) = number_in_block (t ∷ path)

-- the branch in which it stands
abbrev pub branch_around : Path → Branch
branch_around [] = Main
branch_around (s ∷ []) = s.branch
branch_around (s ∷ t ∷ path) = branch_around (t ∷ path)

-- None: no statement is round it
abbrev pub within_of : Path → Option Within
within_of path =
    option_map
    (λ around. record {
      around = around;
      branch = branch_around path;
      index = number_in_block path;
    })
    (owner path)

abbrev pub within_in : Cursor → Tried Within
within_in (Node path) = tried (within_of path) (λ w. w)
within_in (Range path count) = Not WrongShape
within_in (Gap path side) = Not WrongShape

-- ---- gaps

-- the gap beside a statement
pub record Beside : Type 0 where
  pub path : Path
  pub side : Side

abbrev pub beside_in : Cursor → Tried Beside
beside_in (Node path) = Not WrongShape
beside_in (Range path count) = Not WrongShape
beside_in (Gap path side) = Got (record { path = path; side = side })

-- a gap in the block of a statement: that statement, and how many of the block are before the gap
pub record GapIn : Type 0 where
  pub around : Path
  pub before : ℕ

-- how many statements are before the gap beside the one of that number
abbrev pub before_gap : ℕ → Side → Option ℕ
before_gap n Before = Some n
before_gap n After = word (suc n)

abbrev pub gap_under : Option ℕ → Path → Option GapIn
gap_under before around = option_map (λ n. record { around = around; before = n }) before

-- beside the statement at a path; None where no statement is round it
abbrev pub gap_beside : Path → Side → Option GapIn
gap_beside path side =
    option_and_then (gap_under (before_gap (number_in_block path) side)) (owner path)

abbrev pub gap_in : Cursor → Tried GapIn
gap_in (Node path) = Not WrongShape
gap_in (Range path count) = Not WrongShape
gap_in (Gap path side) = tried (gap_beside path side) (λ g. g)
