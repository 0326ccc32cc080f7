-- What makes shifts right: where they take statements, statements of the same kind stand, and no
-- two go to one place.
use Rattle.std.specs.Prelude.{◌≡◌, ⊤, ℕ, ◌+◌, ◌-◌, nat_le, nat_lt, Bool, true, false, ◌&&◌, ◌||◌}
use Rattle.std.specs.Prelude.{not, if◌then◌else◌, List, [], ◌∷◌, map, length, Option, Some, None}
use Rattle.std.specs.Prelude.{option_map}
use Rattle.std.specs.List.{list_all}
use Rattle.exo_tree.specs.Tree.{Statement, Assign, Reduce, Config, Pass, If, For, Alloc, View, Call}
use Rattle.exo_tree.specs.Tree.{Block, end, next, statements, Procedure}
use Rattle.exo_tree.specs.Context.{fill}
use Rattle.exo_tree.specs.Places.{Step, Path, same_branch, same_step, Opened, opened, statement_at}
use Rattle.cursor_forward.specs.Shifts.{Shift, Move, Edits, move_of}

-- ---- kinds and bones

pub data StatementKind : Type 0 where
  Assignment Reduction ConfigWrite NoOperation Conditional Loop Allocation Naming Calling :
      StatementKind

abbrev pub kind_of : Statement → StatementKind
kind_of (Assign x is e) = Assignment
kind_of (Reduce x is e) = Reduction
kind_of (Config f a) = ConfigWrite
kind_of Pass = NoOperation
kind_of (If c a b) = Conditional
kind_of (For i lo hi b) = Loop
kind_of (Alloc x cell dims memory) = Allocation
kind_of (View w x coords) = Naming
kind_of (Call k args) = Calling

abbrev pub kind_at : Path → Block → Option StatementKind
kind_at path b = option_map kind_of (statement_at path b)

abbrev pub kinds_of : Block → List StatementKind
kinds_of b = map kind_of (statements b)

-- the tree without expressions and names
mutual
  pub data Bone : Type 0 where
    Leaf : StatementKind → Bone
    Joint : StatementKind → Bones → Bones → Bone

  pub data Bones : Type 0 where
    none : Bones
    more : Bone → Bones → Bones

abbrev mutual
  pub bones : Block → Bones
  bones end = none
  bones (next a b) = more (bone a) (bones b)

  pub bone : Statement → Bone
  bone (Assign x is e) = Leaf Assignment
  bone (Reduce x is e) = Leaf Reduction
  bone (Config f a) = Leaf ConfigWrite
  bone Pass = Leaf NoOperation
  bone (If c a b) = Joint Conditional (bones a) (bones b)
  bone (For i lo hi b) = Joint Loop (bones b) none
  bone (Alloc x cell dims memory) = Leaf Allocation
  bone (View w x coords) = Leaf Naming
  bone (Call k args) = Leaf Calling

-- ---- shifts that carry

-- with all below them, or by themselves
abbrev pub AreAlike : Bool → Block → Block → Type 0
AreAlike true b c = bones b ≡ bones c
AreAlike false b c = kinds_of b ≡ kinds_of c

-- so many statements of the old piece have others like them at the place of the new one
pub record AreCarried (s : Shift) (to : Path) (old new : Block) : Type 0 where
  pub was : Opened
  pub is : Opened
  pub before : opened s.count s.from old ≡ Some was
  pub after : opened s.count to new ≡ Some is
  pub alike : AreAlike s.whole was.piece is.piece

-- where they go anywhere
abbrev pub IsCarried : Shift → Option Path → Block → Block → Type 0
IsCarried s None old new = ⊤
IsCarried s (Some to) old new = AreCarried s to old new

abbrev pub Carries : List Shift → Block → Block → Type 0
Carries [] old new = ⊤
Carries (s ∷ shifts) old new = IsCarried s s.to old new × Carries shifts old new

-- ---- shifts whose targets are apart

-- the second step is to one of so many statements from the first on
abbrev pub is_among : Step → ℕ → Step → Bool
is_among s m t =
    same_branch s.branch t.branch && (nat_le s.index t.index && nat_lt (t.index - s.index) m)

-- the two ranges of one block have no statement in common
abbrev pub are_beside : Step → ℕ → Step → ℕ → Bool
are_beside s m t n =
    not (same_branch s.branch t.branch)
    || (nat_le (s.index + m) t.index || nat_le (t.index + n) s.index)

-- no path leads to both: to one of so many from the first, or with `whole` below one; nor so from
-- the second
abbrev pub apart : Path → ℕ → Bool → Path → ℕ → Bool → Bool
apart [] m v to n w = true
apart (s ∷ from) m v [] n w = true
apart (s ∷ []) m v (t ∷ []) n w = are_beside s m t n
apart (s ∷ []) m v (t ∷ u ∷ to) n w = not v || not (is_among s m t)
apart (s ∷ r ∷ from) m v (t ∷ []) n w = not w || not (is_among t n s)
apart (s ∷ r ∷ from) m v (t ∷ u ∷ to) n w =
    if same_step s t then apart (r ∷ from) m v (u ∷ to) n w else true

abbrev pub have_apart : Shift → Shift → Bool
have_apart s t =
    elim s.to [
      | None ↦ true
      | Some p ↦ elim t.to [ None ↦ true | Some q ↦ apart p s.count s.whole q t.count t.whole ]
    ]

abbrev pub are_apart : List Shift → Bool
are_apart [] = true
are_apart (s ∷ shifts) = list_all (have_apart s) shifts && are_apart shifts

-- ---- what follows

-- the version q of p has the statements of p where the move takes them
pub record Forwards (move : Move) (p q : Procedure) : Type 0 where
  -- no two statements go to one place
  pub apart : (one other to : Path) → move one ≡ Some to → move other ≡ Some to → one ≡ other
  -- where a statement goes one of its kind stands
  pub images :
      (path to : Path) (a : Statement)
      → statement_at path p.body ≡ Some a
      → move path ≡ Some to
      → kind_at to q.body ≡ Some (kind_of a)

-- a step that replaces a piece by another one, to which shifts carry its statements, forwards them
-- in the procedure
abbrev pub MovesLaw : Type 0
MovesLaw =
    (p q : Procedure) (e : Edits) (o : Opened) (made : Block)
    → opened e.old e.place p.body ≡ Some o
    → q.body ≡ fill o.around made
    → length (statements made) ≡ e.new
    → Carries e.shifts o.piece made
    → are_apart e.shifts ≡ true
    → Forwards (move_of e) p q
