-- The rules on what stands at the top level, and the unit that a text stands for. n is the number
-- of the first token.
use Rattle.std.specs.Prelude.{ℕ, ◌+◌, ◌*◌, Bool, not, ◌||◌, List, [], ◌∷◌, ◌++◌, length, map}
use Rattle.std.specs.Prelude.{Option, Some, None}
use Rattle.std.specs.List.{list_any}
use Rattle.exo_tree.specs.Tree.{Procedure, Program}
use Rattle.exo_meaning.specs.Calls.{Callee}
use Rattle.exo_meaning.specs.Run.{world_of, callee_in, kinds_of}
use Rattle.exo_meaning.specs.Units.{is_text, is_template}
use Rattle.exo_reader.specs.Source as source
use Rattle.exo_reader.specs.Source.{Definition, Item, procedure, instruction, configuration, memory}
use Rattle.exo_reader.specs.Items.{joined}
use Rattle.rules_names.specs.declared.error.TypeKind.TheVariants.{UnknownName, Redefined}
use Rattle.rules_names.specs.declared.fault.Fault.{Fault}
use Rattle.rules_names.specs.Faults.{unless, least, or_else}
use Rattle.exo_types.specs.ArgumentRules.{Signature, signature_of}
use Rattle.exo_types.specs.StatementRules.{bound_in}
use Rattle.exo_types.specs.ItemRules.{definition_end, definition_of, definition_fault, field_of}
use Rattle.exo_types.specs.ItemRules.{fields_fault}
use Rattle.exo_types.specs.MemoryRules.{dram, plain_memory, with_attributes, attributes_fault}
use Rattle.exo_types.specs.MemoryRules.{lanes_faults, attributes_width}

-- what stands above an item: the unit so far, its procedures as callees, and the id of the next
-- binder
pub record Above : Type 0 where
  pub program : Program
  pub callees : List Callee
  pub next_id : ℕ

abbrev pub nothing_above : Above
nothing_above = record {
  program = record { procedures = []; fields = []; memories = dram ∷ [] };
  callees = [];
  next_id = 0;
}

-- procedures, instructions, configurations and memories share one space of names
abbrev pub is_given : Program → List ℕ → Bool
is_given p x =
    list_any (λ q. is_text q.name x) p.procedures
    || (list_any (λ f. is_text f.config x) p.fields || list_any (λ m. is_text m.name x) p.memories)

abbrev pub item_name_faults : Above → ℕ → List ℕ → List Fault
item_name_faults above n x = unless (not (is_given above.program x)) Redefined n

abbrev pub memory_names : Program → List (List ℕ)
memory_names p = map (λ m. m.name) p.memories

abbrev pub procedure_names : Program → List (List ℕ)
procedure_names p = map (λ q. q.name) p.procedures

abbrev pub signatures : Above → List Signature
signatures above = map signature_of above.callees

abbrev pub procedure_here : Above → Option (List ℕ) → Definition → Procedure
procedure_here above template d =
    definition_of above.program.fields (memory_names above.program) (procedure_names above.program)
    (signatures above) above.next_id template d

-- n is the number of the token `def`
abbrev pub procedure_fault : Above → ℕ → Definition → Option Fault
procedure_fault above n d =
    or_else (least (item_name_faults above (n + 1) d.name))
    (definition_fault above.program.fields (memory_names above.program)
    (procedure_names above.program) (signatures above) above.next_id n d)

-- a template whose holes do not name parameters is charged at its first string
abbrev pub template_faults : Above → ℕ → List (List ℕ) → Definition → List Fault
template_faults above n template d =
    unless (is_template (procedure_here above None d).params (Some (joined template))) UnknownName n

-- how many tokens an item has
abbrev pub item_width : Item → ℕ
item_width (procedure d) = definition_end 2 d
item_width (instruction template d) = definition_end (2 + length template + 2) d
item_width (configuration x fs) = 7 + 4 * length fs + 1
item_width (memory x settings) = 7 + attributes_width settings + 1

abbrev pub items_width : List Item → ℕ
items_width [] = 0
items_width (i ∷ more) = item_width i + items_width more

-- the first rule that an item breaks
abbrev pub item_fault : Above → ℕ → Item → Option Fault
item_fault above n (procedure d) = procedure_fault above (n + 2) d
item_fault above n (instruction template d) =
    or_else (least (template_faults above (n + 2) template d))
    (procedure_fault above (n + 2 + length template + 2) d)
item_fault above n (configuration x fs) =
    or_else (least (item_name_faults above (n + 3) x)) (fields_fault [] x (n + 7) fs)
item_fault above n (memory x settings) =
    let own = attributes_fault [] (n + 7) settings in
    or_else
    (least (item_name_faults above (n + 3) x
    ++ lanes_faults own (n + 3) (with_attributes (plain_memory x) settings))) own

-- ---- the unit

abbrev pub with_procedure : Above → Definition → Procedure → Above
with_procedure above d p =
    record {
      program = record above.program { procedures = above.program.procedures ++ p ∷ [] };
      callees =
          above.callees
          ++ callee_in (world_of (kinds_of above.program.fields) above.callees) p ∷ [];
      next_id = above.next_id + length d.params + bound_in (source.block_of d.body);
    }

abbrev pub after_item : Above → Item → Above
after_item above (procedure d) = with_procedure above d (procedure_here above None d)
after_item above (instruction template d) =
    with_procedure above d (procedure_here above (Some (joined template)) d)
after_item above (configuration x fs) = record above {
  program = record above.program { fields = above.program.fields ++ map (field_of x) fs };
}
after_item above (memory x settings) = record above {
  program =
      record above.program {
        memories = above.program.memories ++ with_attributes (plain_memory x) settings ∷ [];
      };
}

abbrev pub after_items : Above → List Item → Above
after_items above [] = above
after_items above (i ∷ more) = after_items (after_item above i) more

-- an item's names are seen below it alone
abbrev pub items_fault : Above → ℕ → List Item → Option Fault
items_fault above n [] = None
items_fault above n (i ∷ more) =
    or_else (item_fault above n i) (items_fault (after_item above i) (n + item_width i) more)

-- the first rule that a unit breaks, and the unit that it stands for where it breaks none
abbrev pub unit_fault : List Item → Option Fault
unit_fault items = items_fault nothing_above 0 items

abbrev pub unit_of : List Item → Program
unit_of items = (after_items nothing_above items).program
