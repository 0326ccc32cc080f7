-- Cursors: a statement, some statements of one block, or the gap before or after a statement; how
-- they move in a procedure, and where they go by an edit. No move leads from what is not there.
use Rattle.std.specs.Prelude.{ℕ, zero, suc, ◌+◌, ◌-◌, ◌^◌, nat_lt, nat_le, Bool, ◌&&◌}
use Rattle.std.specs.Prelude.{if◌then◌else◌, [], ◌∷◌, ◌++◌, length, Option, Some, None, option_map}
use Rattle.std.specs.Prelude.{option_and_then}
use Rattle.std.specs.Option.{is_some}
use Rattle.exo_tree.specs.Tree.{Block, statements}
use Rattle.exo_tree.specs.Places.{Main, Path, same_branch, same_step, statement_at}
use Rattle.exo_tree.specs.Branches.{branch_of}
use Rattle.cursor_forward.specs.Shifts.{Move, word, beyond, held, Edits, move_of}

pub data Side : Type 0 where
  Before After : Side

pub data Cursor : Type 0 where
  Node : Path → Cursor
  -- so many statements from a path on
  Range : Path → ℕ → Cursor
  Gap : Path → Side → Cursor

-- ---- paths

abbrev pub above : Path → Path
above [] = []
above (s ∷ []) = []
above (s ∷ t ∷ path) = s ∷ above (t ∷ path)

-- the statement round the block in which a path ends; None: the body of the procedure
abbrev pub owner : Path → Option Path
owner [] = None
owner (s ∷ []) = None
owner (s ∷ t ∷ path) = Some (above (s ∷ t ∷ path))

-- the statement so many before the one at a path; None where its block has none
abbrev pub earlier : ℕ → Path → Option Path
earlier k [] = None
earlier k (s ∷ []) = if nat_le k s.index then Some (record s { index = s.index - k } ∷ []) else None
earlier k (s ∷ t ∷ path) = option_map (λ q. s ∷ q) (earlier k (t ∷ path))

abbrev pub later : ℕ → Path → Option Path
later k path = beyond path k []

abbrev pub is_there : Block → Path → Bool
is_there body path = is_some (statement_at path body)

abbrev pub node_at : Block → Path → Option Cursor
node_at body path = if is_there body path then Some (Node path) else None

-- so many statements of one block, one at least: they are there where the last of them is
abbrev pub range_at : Block → Path → ℕ → Option Cursor
range_at body path zero = None
range_at body path (suc n) =
    option_and_then (λ last. if is_there body last then Some (Range path (suc n)) else None)
    (later n path)

-- ---- moves

-- the first and the last of the statements that a cursor stands for, where they are there
pub record Ends : Type 0 where
  pub first : Path
  pub last : Path

abbrev pub ends_at : Block → Path → ℕ → Option Ends
ends_at body path zero = None
ends_at body path (suc n) =
    option_and_then
    (λ last. if is_there body last then Some (record { first = path; last = last }) else None)
    (later n path)

-- a gap stands for none
abbrev pub ends_of : Block → Cursor → Option Ends
ends_of body (Node path) =
    if is_there body path then Some (record { first = path; last = path }) else None
ends_of body (Range path count) = ends_at body path count
ends_of body (Gap path side) = None

abbrev pub parent_of : Block → Cursor → Option Cursor
parent_of body (Node path) = if is_there body path then option_map Node (owner path) else None
parent_of body (Range path count) =
    option_and_then (λ e. option_map Node (owner e.first)) (ends_at body path count)
parent_of body (Gap path side) = if is_there body path then option_map Node (owner path) else None

-- the statement behind the last one
abbrev pub next_of : Block → Cursor → Option Cursor
next_of body c =
    option_and_then (λ e. option_and_then (node_at body) (later 1 e.last)) (ends_of body c)

-- the statement before the first one
abbrev pub prev_of : Block → Cursor → Option Cursor
prev_of body c = option_and_then (λ e. option_map Node (earlier 1 e.first)) (ends_of body c)

-- all statements of a block that begins at a path
abbrev pub whole_of : Path → ℕ → Option Cursor
whole_of path count =
    if nat_lt 0 count && nat_lt count (2 ^ 32) then Some (Range path count) else None

-- the path to the first statement of a loop, or of the first branch of a condition
abbrev pub inside : Path → Option Path
inside path = held (path ++ record { branch = Main; index = 0 } ∷ [])

-- the statements of a loop, or of the first branch of a condition
abbrev pub body_of : Block → Cursor → Option Cursor
body_of body (Node path) =
    option_and_then
    (λ b. option_and_then (λ first. whole_of first (length (statements b))) (inside path))
    (option_and_then (branch_of Main) (statement_at path body))
body_of body (Range path count) = None
body_of body (Gap path side) = None

-- one of the statements of a block, by its number
abbrev pub item_of : Block → ℕ → Cursor → Option Cursor
item_of body k (Node path) = None
item_of body k (Range path count) =
    option_and_then (λ e. if nat_lt k count then option_map Node (later k path) else None)
    (ends_at body path count)
item_of body k (Gap path side) = None

-- so many statements with some more before them and behind
abbrev pub grown : Block → ℕ → ℕ → Path → ℕ → Option Cursor
grown body before after path count =
    option_and_then (λ first. option_and_then (range_at body first) (word (before + count + after)))
    (earlier before path)

-- with so many statements more before and so many behind
abbrev pub expand_of : Block → ℕ → ℕ → Cursor → Option Cursor
expand_of body before after (Node path) =
    if is_there body path then grown body before after path 1 else None
expand_of body before after (Range path count) =
    option_and_then (λ e. grown body before after path count) (ends_at body path count)
expand_of body before after (Gap path side) = None

abbrev pub before_of : Block → Cursor → Option Cursor
before_of body c = option_map (λ e. Gap e.first Before) (ends_of body c)

abbrev pub after_of : Block → Cursor → Option Cursor
after_of body c = option_map (λ e. Gap e.last After) (ends_of body c)

-- ---- edits

-- how many statements there are from one to another; None where they do not stand in this order in
-- one block
abbrev pub span_of : Path → Path → Option ℕ
span_of [] last = None
span_of (f ∷ first) [] = None
span_of (f ∷ []) (l ∷ []) =
    if same_branch f.branch l.branch && nat_le f.index l.index
    then word (suc (l.index - f.index))
    else None
span_of (f ∷ []) (l ∷ m ∷ last) = None
span_of (f ∷ g ∷ first) (l ∷ []) = None
span_of (f ∷ g ∷ first) (l ∷ m ∷ last) =
    if same_step f l then span_of (g ∷ first) (m ∷ last) else None

-- a statement goes by the move; some statements go by the first and the last of them, a gap by its
-- statement
abbrev pub forward_by : Move → Cursor → Option Cursor
forward_by move (Node path) = option_map Node (move path)
forward_by move (Range path zero) = None
forward_by move (Range path (suc n)) =
    option_and_then
    (λ first. option_and_then (λ last. option_map (Range first) (span_of first last))
    (option_and_then move (later n path)))
    (move path)
forward_by move (Gap path side) = option_map (λ to. Gap to side) (move path)

-- by an edit; a place that no path of the program leads to is none
abbrev pub forward_of : Edits → Cursor → Option Cursor
forward_of e = forward_by (λ path. option_and_then held (move_of e path))
