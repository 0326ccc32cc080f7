-- Ways through statements: which fields are read on one before they are surely written.
use Rattle.std.specs.Prelude.{◌≡◌, ◌<◌, ◌&&◌, ◌||◌, not, ℕ, Bool, false, List, [], length}
use Rattle.exo_tree.specs.Tree.{Statement, Assign, Reduce, Config, Pass, If, For, Alloc, View, Call}
use Rattle.meaning_laws.specs.Live.{read_by_control, read_by_controls, read_by_condition}
use Rattle.meaning_laws.specs.Live.{read_by_datum, read_by_coords, read_by_argument}
use Rattle.meaning_laws.specs.Live.{read_by_arguments}
use Rattle.config_state.specs.FieldSets.{contains}
use Rattle.config_laws.specs.FieldRule.{is_listed}
use Rattle.config_live.specs.declared.way.Way.{Way}
use Rattle.config_live.specs.Listed.{Lists}

-- in the expressions of the statement itself
abbrev pub named_in : ℕ → Statement → Bool
named_in f (Assign x is e) = read_by_controls f is || read_by_datum f e
named_in f (Reduce x is e) = read_by_controls f is || read_by_datum f e
named_in f (Config g a) = read_by_argument f a
named_in f Pass = false
named_in f (If c a b) = read_by_condition f c
named_in f (For i lo hi b) = read_by_control f lo || read_by_control f hi
named_in f (Alloc x cell dims memory) = read_by_controls f dims
named_in f (View w x coords) = read_by_coords f coords
named_in f (Call k args) = read_by_arguments f args

abbrev pub nothing : ℕ → Bool
nothing f = false

-- a field of the unit
pub record IsField (way : Way) (f : ℕ) : Type 0 where
  pub of_read : f < length way.read
  pub of_written : f < length way.written

-- a way goes on over statements that may read the one fields before they surely write them, and
-- surely write the others: what has been written before hides what is read
pub record Went (reads writes : ℕ → Bool) (old new : Way) : Type 0 where
  pub same_read : length new.read ≡ length old.read
  pub same_written : length new.written ≡ length old.written
  pub read :
      (f : ℕ) → IsField old f
      → contains new.read f ≡ (contains old.read f || (reads f && not (contains old.written f)))
  pub written :
      (f : ℕ) → IsField old f
      → contains new.written f ≡ (contains old.written f || writes f)
  pub listed : Lists old.reads old.read → Lists new.reads new.read

-- the same, where the fields that it has newly written are listed too
pub record Goes (reads writes : ℕ → Bool) (old new : Way) (had has : List ℕ) : Type 0 where
  pub went : Went reads writes old new
  pub added :
      (f : ℕ) → IsField old f
      → is_listed f has ≡ (is_listed f had || (writes f && not (contains old.written f)))

-- at the beginning, in a unit with so many fields
pub record IsStart (count : ℕ) (way : Way) : Type 0 where
  pub all_read : length way.read ≡ count
  pub all_written : length way.written ≡ count
  pub none_read : (f : ℕ) → f < count → contains way.read f ≡ false
  pub none_written : (f : ℕ) → f < count → contains way.written f ≡ false
  pub none_listed : way.reads ≡ []
