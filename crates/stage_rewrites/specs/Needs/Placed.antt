-- What is asked at places, as needs.
use Rattle.std.specs.Prelude.{ℕ, List, [], ◌++◌, map}
use Rattle.exo_tree.specs.Tree.{Control, Condition, Coord, Statement, Assign, Reduce, Config, Pass}
use Rattle.exo_tree.specs.Tree.{If, For, Alloc, View, Call}
use Rattle.exo_tree.specs.Places.{Path, Main, Else}
use Rattle.meaning_laws.specs.Facts.{Holds}
use Rattle.buffer_laws.specs.StageMem.{Asked, asked_in}
use Rattle.step_rules.specs.Rule.{Need, Says}

-- that the condition holds there
abbrev pub need_of : Asked → Need
need_of q = Says q.path (Holds q.condition)

abbrev pub needs_of : List Asked → List Need
needs_of qs = map need_of qs

abbrev pub needs_at : Path → List Condition → List Need
needs_at path cs = map (λ c. Says path (Holds c)) cs

-- of the statements inside the one at the path
module _ (x : ℕ) (dims : List Control) (coords : List Coord) where
  abbrev pub asked_inside : Path → Statement → List Asked
  asked_inside path (Assign y is d) = []
  asked_inside path (Reduce y is d) = []
  asked_inside path (Config f g) = []
  asked_inside path Pass = []
  asked_inside path (If c a b) =
      asked_in x dims coords path Main 0 a ++ asked_in x dims coords path Else 0 b
  asked_inside path (For i lo hi b) = asked_in x dims coords path Main 0 b
  asked_inside path (Alloc y cell ds memory) = []
  asked_inside path (View v y ds) = []
  asked_inside path (Call k gs) = []
