-- Where a step takes the statements of a procedure. It replaces some statements of one block, its
-- piece, by others; ranges of the piece go to places of the new piece, and what is in no range is
-- gone. A path in a piece begins with a step into it by Main; the paths of what lies outside of the
-- piece stay as they are, but for those behind it in its block, which close up.
use Rattle.std.specs.Prelude.{ℕ, ◌+◌, ◌-◌, ◌^◌, nat_lt, nat_le, Bool, true, false, ◌&&◌, ◌||◌}
use Rattle.std.specs.Prelude.{if◌then◌else◌, List, [], ◌∷◌, length, Option, Some, None, option_map}
use Rattle.std.specs.Prelude.{option_and_then}
use Rattle.exo_tree.specs.Places.{Main, Path, same_branch, same_step}

-- so many statements of one block, from one on, alone or with all below them, and where the first
-- of them goes; None: nowhere
pub record Shift : Type 0 where
  pub from : Path
  pub count : ℕ
  pub whole : Bool
  pub to : Option Path

abbrev pub Move : Type 0
Move = Path → Option Path

-- ---- ranges

-- the number, where 32 bits hold it: no block has more statements
abbrev pub word : ℕ → Option ℕ
word n = if nat_lt n (2 ^ 32) then Some n else None

-- a statement of a block from another one on, by how far it is behind that, and what is below it
pub record Below : Type 0 where
  pub offset : ℕ
  pub rest : Path

-- a path to a statement of the block of another path, from that one's on, or to what is below one
abbrev pub below : Path → Path → Option Below
below [] path = None
below (f ∷ from) [] = None
below (f ∷ []) (s ∷ path) =
    if same_branch f.branch s.branch && nat_le f.index s.index
    then Some (record { offset = s.index - f.index; rest = path })
    else None
below (f ∷ g ∷ from) (s ∷ path) = if same_step f s then below (g ∷ from) path else None

-- the statement so many behind the one at a path, and further down
abbrev pub beyond : Path → ℕ → Path → Option Path
beyond [] k path = None
beyond (t ∷ []) k path = option_map (λ n. record t { index = n } ∷ path) (word (t.index + k))
beyond (t ∷ u ∷ to) k path = option_map (λ q. t ∷ q) (beyond (u ∷ to) k path)

-- ---- moves within a piece

abbrev pub is_end : Path → Bool
is_end [] = true
is_end (s ∷ path) = false

-- the shift takes this statement, or lets it go
abbrev pub covers : Shift → Below → Bool
covers s w = nat_lt w.offset s.count && (s.whole || is_end w.rest)

abbrev pub covered : Shift → Path → Option Below
covered s path =
    elim (below s.from path) [ None ↦ None | Some w ↦ if covers s w then Some w else None ]

-- the first shift that covers a path takes it; with none it is gone
abbrev pub follow : List Shift → Move
follow [] path = None
follow (s ∷ shifts) path =
    elim (covered s path) [
      | None ↦ follow shifts path
      | Some w ↦ option_and_then (λ to. beyond to w.offset w.rest) s.to
    ]

-- the path to the statement of that number of a piece
abbrev pub at_index : ℕ → Path
at_index k = record { branch = Main; index = k } ∷ []

-- so many statements with all below them
abbrev pub range : Path → ℕ → Option Path → Shift
range from count to = record { from = from; count = count; whole = true; to = to }

-- one statement without what is below it
abbrev pub alone : Path → Option Path → Shift
alone from to = record { from = from; count = 1; whole = false; to = to }

-- so many statements of a piece stay where they are
abbrev pub stays : ℕ → List Shift
stays count = range (at_index 0) count (Some (at_index 0)) ∷ []

-- ---- moves of a procedure

-- a path in a piece that begins at a place, as a path of the procedure
abbrev pub lifted : Path → Path → Option Path
lifted place [] = None
lifted place (s ∷ path) = beyond place s.index path

-- where one of the statements from a place on goes: by the move where it is one of so many, and
-- else it closes up to so many others
abbrev pub moved_below : Path → ℕ → ℕ → Move → Below → Option Path
moved_below place old new move w =
    if nat_lt w.offset old
    then option_and_then (lifted place) (move (record { branch = Main; index = w.offset } ∷ w.rest))
    else beyond place (w.offset - old + new) w.rest

-- a move of a piece of so many statements from a place on, which becomes one of so many, as a move
-- of the procedure
abbrev pub moved : Path → ℕ → ℕ → Move → Move
moved place old new move path =
    elim (below place path) [ None ↦ Some path | Some w ↦ moved_below place old new move w ]

-- all that is told of where a step takes statements
pub record Edits : Type 0 where
  pub place : Path
  pub old : ℕ
  pub new : ℕ
  pub shifts : List Shift

abbrev pub edits_of : Path → ℕ → ℕ → List Shift → Edits
edits_of place old new shifts = record { place = place; old = old; new = new; shifts = shifts }

abbrev pub move_of : Edits → Move
move_of e = moved e.place e.old e.new (follow e.shifts)

-- ---- paths that the program can hold

-- a path of at most 32 steps
abbrev pub held : Path → Option Path
held path = if nat_le (length path) 32 then Some path else None
