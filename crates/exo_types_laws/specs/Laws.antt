-- What breaks no rule is well formed.
use Rattle.std.specs.Prelude.{◌≡◌, ◌^◌, ℕ, ◌≤◌, nat_lt, true, List, length, Some, None, slice_get}
use Rattle.std.specs.List.{list_all}
use Rattle.text_phrases.specs.Limits.{Limits}
use Rattle.text_phrases.specs.Text.{IsText}
use Rattle.exo_tree.specs.Tree.{Program}
use Rattle.exo_meaning.specs.Units.{bound_ids, IsUnit}
use Rattle.exo_reader.specs.Source.{Item}
use Rattle.exo_reader.specs.Items.{unit}
use Rattle.exo_reader.specs.Texts.{tokens_of, places_of}
use Rattle.exo_types.specs.MemoryRules.{dram}
use Rattle.exo_types.specs.UnitRules.{unit_fault, unit_of}
use Rattle.exo_types_laws.specs.Small.{are_small_tokens}

-- a unit whose text keeps the grammar and all limits, is short, has no literal from 2^31 on, and
-- breaks no rule, is well formed
abbrev pub TypedUnitsAreFormed : Type 0
TypedUnitsAreFormed =
    (items : List Item)
    → ((limits : Limits) → unit.Fits limits items)
    → length (unit.spell items) ≤ 0x100000
    → are_small_tokens (unit.spell items) ≡ true
    → unit_fault items ≡ None
    → IsUnit (unit_of items)

-- so what a text of at most 2^20 tokens is read as is well formed where it breaks no rule; the last
-- place is that of the end
abbrev pub ReadUnitsAreFormed : Type 0
ReadUnitsAreFormed =
    (text : List ℕ) (items : List Item)
    → IsText unit (tokens_of text) items
    → length (places_of text) ≤ 0x100001
    → unit_fault items ≡ None
    → IsUnit (unit_of items)

-- the ids of binders, and the numbers of procedures, fields and memories, are below 2^20
pub record IsLow (program : Program) : Type 0 where
  pub ids :
      list_all (λ p. list_all (λ x. nat_lt x (2 ^ 20)) (bound_ids p)) program.procedures ≡ true
  pub procedures : length program.procedures ≤ 2 ^ 20
  pub fields : length program.fields ≤ 2 ^ 20
  pub memories : length program.memories ≤ 2 ^ 20

-- each takes a token of its own, so there are no more of them than tokens
abbrev pub TypedUnitsAreLow : Type 0
TypedUnitsAreLow =
    (items : List Item) → length (unit.spell items) ≤ 0x100000 → IsLow (unit_of items)

-- the first memory of a text's unit is DRAM with its defaults
abbrev pub TypedUnitsHaveDram : Type 0
TypedUnitsHaveDram = (items : List Item) → slice_get (unit_of items).memories 0 ≡ Some dram
