-- Which buffers a block writes or reduces, by the tables of the program.
use Rattle.std.specs.Prelude.{ℕ, Bool, List}
use Rattle.exo_tree.specs.Tree.{Index, Block, Procedure}
use Rattle.exo_meaning.specs.Run.{World, world_of, writes}
use Rattle.exo_modes.specs.Marks.{callees_by}

abbrev pub world_by : List Procedure → List (ℕ → Bool) → World
world_by ps ws = world_of (λ f. Index) (callees_by ps ws)

-- what a block writes that calls these procedures, of which each writes so
abbrev pub block_writes : List Procedure → List (ℕ → Bool) → (ℕ → ℕ) → Block → ℕ → Bool
block_writes ps ws root b = writes (world_by ps ws) root b
