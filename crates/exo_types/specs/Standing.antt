-- What stands above an item, as tables say it; and what an item adds. n is the number of the item's
-- first token.
use Rattle.std.specs.Prelude.{◌≡◌, ℕ, ◌+◌, ◌<◌, ◌≤◌, not, List, [], ◌∷◌, ◌++◌, length, map, Option}
use Rattle.std.specs.Prelude.{None, is_some}
use Rattle.std.specs.List.{list_any}
use Rattle.exo_tree.specs.Tree.{ConfigField, Procedure}
use Rattle.exo_tree.specs.declared.lines.ProcLines.{ProcLines}
use Rattle.exo_tree.specs.declared.unit.Unit as tree
use Rattle.exo_tree.specs.PlainUnit.{program}
use Rattle.exo_tree.specs.PlainProcedure as plain
use Rattle.exo_meaning.specs.Units.{is_text}
use Rattle.text_lexer.specs.declared.place.Place.{Place}
use Rattle.exo_reader.specs.Source as source
use Rattle.exo_reader.specs.Source.{Definition, Item, block_of}
use Rattle.rules_names.specs.declared.fault.Fault.{Fault}
use Rattle.rules_names.specs.declared.error.TypeKind.TheVariants.{Redefined}
use Rattle.rules_names.specs.Faults.{unless, least}
use Rattle.rules_names.specs.Names.{name_number, field_in}
use Rattle.exo_modes.specs.declared.row.ModesRow.{ModesRow}
use Rattle.exo_modes.specs.Seen.{rows_write}
use Rattle.exo_types.specs.declared.definition.Defined.{Defined}
use Rattle.exo_types.specs.declared.typed.UnitBuilder.{UnitBuilder}
use Rattle.exo_types.specs.TypeRules.{kind_faults}
use Rattle.exo_types.specs.StatementRules.{bound_in}
use Rattle.exo_types.specs.ItemRules.{body_start, definition_end, definition_fault}
use Rattle.exo_types.specs.UnitRules.{Above, signatures, memory_names, procedure_names}
use Rattle.exo_types.specs.UnitRules.{procedure_here, procedure_fault, with_procedure, item_fault}
use Rattle.exo_types.specs.UnitRules.{item_width, after_item, unit_fault, unit_of}
use Rattle.exo_types.specs.UnitLines.{block_starts, line_at, lines_of_definition, lines_of_item}
use Rattle.exo_types.specs.UnitLines.{lines_of}
use Rattle.exo_types.specs.Walks.{signatures_by}

-- the tables hold the names of the unit
pub record Agrees (t : UnitBuilder) : Type 0 where
  pub procedures : t.procedures ≡ map (λ q. q.name) t.unit.procs
  pub memories : t.memories ≡ map (λ m. m.name) t.unit.memories
  pub fields : t.fields ≡ t.unit.fields
  pub configurations :
      (x : List ℕ)
      → is_some (name_number t.configurations x) ≡ list_any (λ f. is_text f.config x) t.unit.fields
  pub rows : length t.rows.items ≡ length t.unit.procs

-- each name takes a token of its own, but for that of the memory that is always there
pub record IsFew (t : UnitBuilder) (n : ℕ) : Type 0 where
  pub ids : t.next_id ≤ n
  pub procedures : length t.unit.procs ≤ n
  pub fields : length t.unit.fields ≤ n
  pub memories : length t.unit.memories ≤ n + 1

-- the unit so far is that above, and its procedures have these signatures
pub record Stands (t : UnitBuilder) (above : Above) : Type 0 where
  pub program : program t.unit ≡ above.program
  pub signatures : signatures_by t.unit.procs (rows_write t.rows.items) ≡ signatures above
  pub next_id : t.next_id ≡ above.next_id

-- there is a place for each token up to this one
pub record HasPlaces (places : List Place) (end : ℕ) : Type 0 where
  pub tokens : end < length places
  pub few : length places ≤ 0x100001

-- ---- fields of configurations

-- a field that is given already, or one of no kind of control values
abbrev pub field_fault : List ConfigField → List ℕ → ℕ → source.ConfigField → Option Fault
field_fault known config n f =
    least (unless (not (is_some (field_in known config f.name))) Redefined n
    ++ kind_faults f.kind (n + 2))

-- ---- procedures and instructions

-- the first rule that a procedure breaks, but for that on its name
abbrev pub here_fault : Above → ℕ → Definition → Option Fault
here_fault above n d =
    definition_fault above.program.fields (memory_names above.program)
    (procedure_names above.program) (signatures above) above.next_id n d

-- a procedure whose `def` is token n breaks no rule, and this is its tree, with the lines of its
-- statements
pub record IsHere (above : Above) (places : List Place) (template : Option (List ℕ)) (n : ℕ)
    (made : Defined) (d : Definition) : Type 0 where
  pub keeps : here_fault above n d ≡ None
  pub procedure : plain.procedure made.procedure ≡ procedure_here above template d
  pub lines : made.lines ≡ map (line_at places) (block_starts (body_start n d) (block_of d.body))
  pub ids : made.next_id ≡ above.next_id + length d.params + bound_in (block_of d.body)
  pub end : made.end ≡ definition_end n d

-- it is put last, with its name, what it writes and its lines; all else is the same
pub record IsPushed (t after : UnitBuilder) (name : List ℕ) (p : Procedure) (row : ModesRow)
    (lines : ProcLines) : Type 0 where
  pub procedures : after.unit.procs ≡ t.unit.procs ++ p ∷ []
  pub fields : after.unit.fields ≡ t.unit.fields
  pub memories : after.unit.memories ≡ t.unit.memories
  pub told : after.unit.lines ≡ t.unit.lines ++ lines ∷ []
  pub names : after.procedures ≡ t.procedures ++ name ∷ []
  pub same_memories : after.memories ≡ t.memories
  pub same_configurations : after.configurations ≡ t.configurations
  pub same_fields : after.fields ≡ t.fields
  pub rows : after.rows.items ≡ t.rows.items ++ row ∷ []
  pub next_id : after.next_id ≡ t.next_id

-- so it stands above what follows
pub record IsProcedure (above : Above) (places : List Place) (t after : UnitBuilder)
    (template : Option (List ℕ)) (n end : ℕ) (d : Definition) : Type 0 where
  pub keeps : procedure_fault above n d ≡ None
  pub ends : end ≡ definition_end n d
  pub stands : Stands after (with_procedure above d (procedure_here above template d))
  pub agrees : Agrees after
  pub few : IsFew after end
  pub lines : after.unit.lines ≡ t.unit.lines ++ lines_of_definition places n d ∷ []

-- ---- items

-- an item breaks no rule, and what it adds stands above the next one, which begins at token end
pub record IsAdded (above : Above) (places : List Place) (t after : UnitBuilder) (n end : ℕ)
    (i : Item) : Type 0 where
  pub keeps : item_fault above n i ≡ None
  pub ends : end ≡ n + item_width i
  pub stands : Stands after (after_item above i)
  pub agrees : Agrees after
  pub few : IsFew after end
  pub lines : after.unit.lines ≡ t.unit.lines ++ lines_of_item places n i

-- items break no rule, and this is their unit, with the line of each procedure and statement
pub record IsUnitOf (places : List Place) (items : List Item) (u : tree.Unit) : Type 0 where
  pub keeps : unit_fault items ≡ None
  pub program : program u ≡ unit_of items
  pub lines : u.lines ≡ lines_of places items
