-- The statements that a pattern finds, in preorder.
use Rattle.std.specs.Prelude.{◌≡◌, ◌≤◌, ⊤, ℕ, suc, ◌==◌, ◌&&◌, Bool, true, false, if◌then◌else◌}
use Rattle.std.specs.Prelude.{List, [], ◌∷◌, ◌++◌, Option, Some, None, option_map, option_and_then}
use Rattle.std.specs.Prelude.{slice_get, length}
use Rattle.std.specs.Str.{bytes_eq}
use Rattle.exo_tree.specs.Tree.{Statement, Assign, Reduce, Config, Pass, If, For, Alloc, View, Call}
use Rattle.exo_tree.specs.Tree.{Block, end, next, statements, Param, Procedure, ConfigField}
use Rattle.exo_tree.specs.Tree.{Program}
use Rattle.exo_tree.specs.Heights.{height}
use Rattle.exo_meaning.specs.Units.{is_short, IsUnit}
use Rattle.exo_tree.specs.Places.{Branch, Main, Else, Path, path_below}
use Rattle.cursor_forward.specs.Search.Patterns as pattern
use Rattle.cursor_forward.specs.Search.Patterns.{Pattern}
use Rattle.cursor_forward.specs.Cursors.{Cursor, Node}

-- ---- names

-- a name that is asked for, or any
abbrev pub is_called : Option (List ℕ) → List ℕ → Bool
is_called None name = true
is_called (Some x) name = bytes_eq name x

-- the number that a name stands for behind a statement, by what it stood for before
abbrev pub meant_after : List ℕ → Option ℕ → Statement → Option ℕ
meant_after x found (Alloc y cell dims memory) = if bytes_eq y.name x then Some y.id else found
meant_after x found (View y z coords) = if bytes_eq y.name x then Some y.id else found
meant_after x found a = found

-- the number of the first parameter of this name
abbrev pub parameter_called : List ℕ → List Param → Option ℕ
parameter_called x [] = None
parameter_called x (p ∷ ps) =
    if bytes_eq p.binder.name x then Some p.binder.id else parameter_called x ps

abbrev pub is_number : Option ℕ → ℕ → Bool
is_number None y = false
is_number (Some x) y = y == x

-- ---- one statement

-- a buffer or view of this number is asked for: any, or what the name stands for here
abbrev pub is_meant : Option (List ℕ) → Option ℕ → ℕ → Bool
is_meant None found y = true
is_meant (Some x) found y = is_number found y

abbrev pub is_loop_called : Option (List ℕ) → Option Statement → Bool
is_loop_called j (Some (For i lo hi b)) = is_called j i.name
is_loop_called j a = false

-- the block is a loop over that index and nothing else
abbrev pub is_one_loop : Option (List ℕ) → Block → Bool
is_one_loop j b = (length (statements b) == 1) && is_loop_called j (slice_get (statements b) 0)

abbrev pub is_procedure_called : Option (List ℕ) → Option Procedure → Bool
is_procedure_called f None = false
is_procedure_called f (Some p) = is_called f p.name

abbrev pub is_field_called : Option (List ℕ) → Option (List ℕ) → Option ConfigField → Bool
is_field_called c f None = false
is_field_called c f (Some field) = is_called c field.config && is_called f field.name

-- whether the statement itself is one of the pattern; the number is what the pattern's name stands
-- for here
abbrev pub matches : Program → Pattern → Option ℕ → Statement → Bool
matches unit (pattern.Loop i) found (For j lo hi b) = is_called i j.name
matches unit (pattern.Nest i k) found (For j lo hi b) = is_called i j.name && is_one_loop k b
matches unit (pattern.Alloc x) found (Alloc y cell dims memory) = is_called x y.name
matches unit (pattern.Assign x) found (Assign y is e) = is_meant x found y
matches unit (pattern.Assign x) found (View y z coords) = is_called x y.name
matches unit (pattern.Reduce x) found (Reduce y is e) = is_meant x found y
matches unit pattern.If found (If c a b) = true
matches unit (pattern.Call f) found (Call k args) =
    is_procedure_called f (slice_get unit.procedures k)
matches unit pattern.Pass found Pass = true
matches unit (pattern.Config c f) found (Config k a) = is_field_called c f (slice_get unit.fields k)
matches unit w found a = false

-- ---- all statements

-- the name of a buffer or view that a pattern speaks of
abbrev pub name_in : Pattern → Option (List ℕ)
name_in (pattern.Assign x) = x
name_in (pattern.Reduce x) = x
name_in w = None

abbrev pub found_after : Pattern → Option ℕ → Statement → Option ℕ
found_after w found a = elim (name_in w) [ None ↦ found | Some x ↦ meant_after x found a ]

abbrev pub found_first : Pattern → List Param → Option ℕ
found_first w params = option_and_then (λ x. parameter_called x params) (name_in w)

-- the place of the statement itself, where it matches
abbrev pub alone : Bool → Path → List Path
alone true path = path ∷ []
alone false path = []

module _ (unit : Program) (w : Pattern) where
  abbrev mutual
    -- the paths of those that match in a block, the first statement of which has that number
    pub matching : Path → Branch → ℕ → Option ℕ → Block → List Path
    matching outer branch n found end = []
    matching outer branch n found (next a b) =
        (alone (matches unit w found a) (path_below outer branch n)
        ++ matching_below (path_below outer branch n) found a)
        ++ matching outer branch (suc n) (found_after w found a) b

    pub matching_below : Path → Option ℕ → Statement → List Path
    matching_below path found (If c a b) =
        matching path Main 0 found a ++ matching path Else 0 found b
    matching_below path found (For i lo hi b) = matching path Main 0 found b
    matching_below path found (Assign x is e) = []
    matching_below path found (Reduce x is e) = []
    matching_below path found (Config f a) = []
    matching_below path found Pass = []
    matching_below path found (Alloc x cell dims memory) = []
    matching_below path found (View v x coords) = []
    matching_below path found (Call k args) = []

  -- of one statement and what is below it
  abbrev pub matching_at : Path → Option ℕ → Statement → List Path
  matching_at path found a = alone (matches unit w found a) path ++ matching_below path found a

-- the one of that number in preorder, counted from 0
abbrev pub find_in : Program → Procedure → Pattern → ℕ → Option Cursor
find_in unit p w nth =
    option_map Node (slice_get (matching unit w [] Main 0 (found_first w p.params) p.body) nth)

abbrev pub find_of : Program → ℕ → Pattern → ℕ → Option Cursor
find_of unit k w nth = option_and_then (λ p. find_in unit p w nth) (slice_get unit.procedures k)

-- ---- what can be searched: each statement's path has at most 32 steps with indices of 32 bits

abbrev mutual
  -- the blocks in a block, at every depth, have fewer than 2^31 statements each
  pub all_short : Block → Bool
  all_short end = true
  all_short (next a b) = is_short_below a && all_short b

  pub is_short_below : Statement → Bool
  is_short_below (If c a b) = (is_short a && all_short a) && (is_short b && all_short b)
  is_short_below (For i lo hi b) = is_short b && all_short b
  is_short_below (Assign x is e) = true
  is_short_below (Reduce x is e) = true
  is_short_below (Config f a) = true
  is_short_below Pass = true
  is_short_below (Alloc x cell dims memory) = true
  is_short_below (View v x coords) = true
  is_short_below (Call k args) = true

abbrev pub are_short : Block → Bool
are_short b = is_short b && all_short b

pub record CanBeSearched (body : Block) : Type 0 where
  pub fits : height body ≤ 32
  pub short : are_short body ≡ true

-- the procedure, where there is one
abbrev pub IsSearchable : Option Procedure → Type 0
IsSearchable None = ⊤
IsSearchable (Some p) = CanBeSearched p.body

-- the procedures of a well-formed unit can
abbrev pub SearchableLaw : Type 0
SearchableLaw = (unit : Program) (k : ℕ) → IsUnit unit → IsSearchable (slice_get unit.procedures k)
