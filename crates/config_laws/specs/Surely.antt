-- Fields that are written on every way.
use Rattle.std.specs.Prelude.{◌==◌, ◌&&◌, ◌||◌, ◌++◌, ℕ, Bool, false, List, [], ◌∷◌}
use Rattle.exo_tree.specs.Tree.{Statement, Assign, Reduce, Config, Pass, If, For, Alloc, View, Call}
use Rattle.exo_tree.specs.Tree.{Block, end, next, Procedure}
use Rattle.exo_tree.specs.Context.{Context, Here, After, InLoop, InThen, InElse}
use Rattle.meaning_laws.specs.UnitFields.{written_at}

-- a loop may run no turn; `calls` says it of each callee
module _ (calls : ℕ → ℕ → Bool) (f : ℕ) where
  abbrev mutual
    pub surely_writes : Block → Bool
    surely_writes end = false
    surely_writes (next a b) = step_surely_writes a || surely_writes b

    pub step_surely_writes : Statement → Bool
    step_surely_writes (Assign x is e) = false
    step_surely_writes (Reduce x is e) = false
    step_surely_writes (Config g a) = f == g
    step_surely_writes Pass = false
    step_surely_writes (If c a b) = surely_writes a && surely_writes b
    step_surely_writes (For i lo hi b) = false
    step_surely_writes (Alloc x cell dims memory) = false
    step_surely_writes (View w x coords) = false
    step_surely_writes (Call k args) = calls k f

  -- on every way from the hole to the end of the whole block
  abbrev pub surely_behind : Context → Bool
  surely_behind (Here rest) = surely_writes rest
  surely_behind (After a c) = surely_behind c
  surely_behind (InLoop i lo hi c rest) = surely_behind c || surely_writes rest
  surely_behind (InThen t c other rest) = surely_behind c || surely_writes rest
  surely_behind (InElse t other c rest) = surely_behind c || surely_writes rest

-- ---- the procedures of a unit

abbrev pub surely_by : (ℕ → ℕ → Bool) → Procedure → ℕ → Bool
surely_by calls p f = surely_writes calls f p.body

abbrev pub all_surely : List (ℕ → Bool) → List Procedure → List (ℕ → Bool)
all_surely ws [] = ws
all_surely ws (p ∷ ps) = all_surely (ws ++ surely_by (written_at ws) p ∷ []) ps

-- of each procedure, the fields that it surely writes
abbrev pub unit_surely : List Procedure → ℕ → ℕ → Bool
unit_surely ps = written_at (all_surely [] ps)
