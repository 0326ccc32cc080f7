-- Ways over statements.
use Rattle.std.specs.Prelude.{◌≡◌, ◌&&◌, ◌||◌, not, ℕ, false, List}
use Rattle.exo_tree.specs.Tree.{Statement, Block}
use Rattle.meaning_laws.specs.Live.{live, live_step}
use Rattle.config_state.specs.FieldSets.{contains}
use Rattle.config_laws.specs.FieldRule.{is_listed}
use Rattle.config_laws.specs.Surely.{surely_writes, step_surely_writes}
use Rattle.config_live.specs.declared.table.LiveTable.{LiveTable}
use Rattle.config_live.specs.declared.way.Way.{Way}
use Rattle.config_live.specs.Tables.{calls_in, writes_surely}
use Rattle.config_live.specs.Ways.{nothing, IsField, Went, Goes}

abbrev pub GoesOver : LiveTable → Block → Way → Way → List ℕ → List ℕ → Type 0
GoesOver table b =
    Goes (λ f. live (calls_in table) f b false) (λ f. surely_writes (writes_surely table) f b)

abbrev pub GoesBy : LiveTable → Statement → Way → Way → List ℕ → List ℕ → Type 0
GoesBy table a =
    Goes (λ f. live_step (calls_in table) f a false)
    (λ f. step_surely_writes (writes_surely table) f a)

-- over a block that may not run; the list has what it newly writes
pub record Branches (table : LiveTable) (b : Block) (old new : Way) (list : List ℕ) : Type 0 where
  pub went : Went (λ f. live (calls_in table) f b false) nothing old new
  pub newly :
      (f : ℕ) → IsField old f
      → is_listed f list ≡ (surely_writes (writes_surely table) f b && not (contains old.written f))

-- the same; the list has what is in the first one and written behind the block
pub record Meets
    (table : LiveTable) (b : Block) (first : List ℕ) (old new : Way) (list : List ℕ) : Type 0 where
  pub went : Went (λ f. live (calls_in table) f b false) nothing old new
  pub both :
      (f : ℕ) → IsField old f
      → is_listed f list
      ≡ (is_listed f first && (contains old.written f || surely_writes (writes_surely table) f b))
