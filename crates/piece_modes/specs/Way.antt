-- What is known of names on the way to a place.
use Rattle.std.specs.Prelude.{◌≡◌, ◌||◌, ◌==◌, ℕ, Bool, true, false, List, [], ◌∷◌, Option, Some, None}
use Rattle.exo_tree.specs.Tree.{Statement, For, Alloc, View, end, Param, Procedure}
use Rattle.exo_tree.specs.Context.{Context, Here, After, InLoop, InThen, InElse}
use Rattle.exo_tree.specs.Places.{Path, Opened, opened}
use Rattle.exo_meaning.specs.Inputs.{is_buffer_of}
use Rattle.exo_meaning.specs.Run.{roots_after}

-- the buffer of each name, and whether a name is bound
pub record Way : Type 0 where
  pub roots : ℕ → ℕ
  pub bound : ℕ → Bool

abbrev pub at_start : List Param → Way
at_start ps = record { roots = λ x. x; bound = λ y. is_buffer_of y ps }

abbrev pub with_name : ℕ → Way → Way
with_name x w = record w { bound = λ y. w.bound y || (y == x) }

-- behind a statement
abbrev pub passed : Statement → Way → Way
passed (Alloc x cell dims memory) w =
    record { roots = roots_after (Alloc x cell dims memory) w.roots; bound = λ y. w.bound y || (y == x.id) }
passed (View v x coords) w =
    record { roots = roots_after (View v x coords) w.roots; bound = λ y. w.bound y || (y == v.id) }
passed a w = w

abbrev pub passed_all : List Statement → Way → Way
passed_all [] w = w
passed_all (a ∷ rest) w = passed_all rest (passed a w)

-- in a block of a statement
abbrev pub entered : Statement → Way → Way
entered (For i lo hi b) w = with_name i.id w
entered a w = w

-- at the hole of a context
abbrev pub led : Context → Way → Way
led (Here rest) w = w
led (After a c) w = led c (passed a w)
led (InLoop i lo hi c rest) w = led c (with_name i.id w)
led (InThen t c other rest) w = led c w
led (InElse t other c rest) w = led c w

-- a way leads to what is opened; it is not there where nothing is
abbrev pub LeadsTo : Option Opened → Bool → Way → Way → Type 0
LeadsTo x false old new = x ≡ None
LeadsTo x true old new = (o : Opened) × (x ≡ Some o) × (new ≡ led o.around old)

-- what is round so many statements from a path on; where they are not there, nothing
abbrev pub around_of : Option Opened → Context
around_of None = Here end
around_of (Some o) = o.around

abbrev pub way_to : ℕ → Path → Procedure → Way
way_to count path p = led (around_of (opened count path p.body)) (at_start p.params)
