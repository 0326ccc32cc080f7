-- The fields of a unit that statements may write or read, as sets.
use Rattle.std.specs.Prelude.{◌≡◌, ◌<◌, ℕ, Bool, true, false, List, [], ◌∷◌, length}
use Rattle.exo_tree.specs.Tree.{Statement, Block, Program}
use Rattle.meaning_laws.specs.Fields.{writes_field, step_writes_field}
use Rattle.meaning_laws.specs.UnitFields.{unit_writes}
use Rattle.config_state.specs.FieldSets.{contains, fields_where, IsTable}
use Rattle.config_state.specs.Reads.{reads_field, step_reads_field, unit_reads}

-- of a unit with so many fields, the set has those that pass the test
pub record IsFieldSet (count : ℕ) (test : ℕ → Bool) (set : List Bool) : Type 0 where
  pub as_long : length set ≡ count
  pub each : (f : ℕ) → f < count → contains set f ≡ test f

-- ---- what statements may write and read, calls included

module _ (u : Program) where
  abbrev pub written_in : Block → ℕ → Bool
  written_in b f = writes_field (unit_writes u.procedures) f b

  abbrev pub read_in : Block → ℕ → Bool
  read_in b f = reads_field (unit_reads u.procedures) f b

  abbrev pub written_by : Statement → ℕ → Bool
  written_by a f = step_writes_field (unit_writes u.procedures) f a

  abbrev pub read_by : Statement → ℕ → Bool
  read_by a f = step_reads_field (unit_reads u.procedures) f a

-- the table says of each procedure which fields it may write
abbrev pub IsWrittenTable : Program → List (List Bool) → Type 0
IsWrittenTable u table = IsTable (length u.fields) (unit_writes u.procedures) table

-- ---- one of the fields

abbrev pub some_listed : List ℕ → Bool
some_listed [] = false
some_listed (f ∷ fs) = true

-- of so many fields one passes the test
abbrev pub some_where : ℕ → (ℕ → Bool) → Bool
some_where count test = some_listed (fields_where count test)
