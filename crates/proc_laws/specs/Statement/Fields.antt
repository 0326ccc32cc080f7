-- Fields of a unit that pass a test.
use Rattle.std.specs.Prelude.{ℕ, Bool, List, length}
use Rattle.exo_tree.specs.Tree.{ConfigField}
use Rattle.config_state.specs.FieldSets.{fields_where}
use Rattle.config_state.specs.Steps.Fields.{some_listed}

-- one of the fields passes it
abbrev pub some_field : List ConfigField → (ℕ → Bool) → Bool
some_field fields test = some_listed (fields_where (length fields) test)
