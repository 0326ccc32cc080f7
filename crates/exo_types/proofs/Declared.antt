-- What configurations and classes of memories add to what stands above.
use Rattle.std.proofs.Common.{◌≡◌, ℕ, ◌+◌, ◌*◌, not, List, [], ◌∷◌, ◌++◌, Option, Some, None, is_some, length, map, refl, ap, sym, ◌∙◌, arith}
use Rattle.std.specs.List.{list_any}
use Rattle.std.proofs.lemmas.List.{append-nil, length-append, length-map, map-append}
use Rattle.exo_tree.specs.Tree.{MemoryKind}
use Rattle.exo_tree.specs.PlainUnit.{program}
use Rattle.exo_meaning.specs.Units.{is_text}
use Rattle.exo_reader.specs.Source as source
use Rattle.exo_reader.specs.Source.{Attribute, Setting, configuration, memory}
use Rattle.text_lexer.specs.declared.place.Place.{Place}
use Rattle.rules_names.specs.declared.fault.Fault.{Fault}
use Rattle.rules_names.specs.declared.fault.Charge.{Charge}
use Rattle.rules_names.specs.declared.error.TypeKind.TheVariants.{Redefined}
use Rattle.rules_names.specs.Faults.{charged, or_else, least, unless}
use Rattle.rules_names.specs.Names.{name_number}
use Rattle.exo_modes.specs.Seen.{rows_write}
use Rattle.exo_types.specs.declared.attribute.Trait.{Trait}
use Rattle.exo_types.specs.declared.attribute.Trait.TheVariants.{Ctype, Lanes, CellType, MayRead, MayWrite, MayReduce, Header}
use Rattle.exo_types.specs.declared.attribute.Trait.TheVariants as traits
use Rattle.exo_types.specs.declared.typed.UnitBuilder.{UnitBuilder}
use Rattle.exo_types.specs.MemoryRules.{plain_memory, with_trait, with_attributes, trait_named, attributes_width, attributes_fault, lanes_faults}
use Rattle.exo_types.specs.ItemRules.{field_of, fields_fault}
use Rattle.exo_types.specs.UnitRules.{Above, is_given, item_name_faults}
use Rattle.exo_types.specs.Walks.{signatures_by}
use Rattle.exo_types.specs.Standing.{Agrees, IsFew, Stands, IsAdded}
use Rattle.exo_types.proofs.Broken.{first_of}
use Rattle.exo_types.proofs.Added.{same_name_faults}

-- an attribute leaves the name of a memory as it is
trait_name : (m : MemoryKind) (o : Option Trait) (v : Setting) → (with_trait m o v).name ≡ m.name
trait_name m None v = refl
trait_name m (Some Ctype) v = refl
trait_name m (Some Lanes) v = refl
trait_name m (Some CellType) v = refl
trait_name m (Some traits.Place) v = refl
trait_name m (Some MayRead) v = refl
trait_name m (Some MayWrite) v = refl
trait_name m (Some MayReduce) v = refl
trait_name m (Some Header) v = refl

attributes_name : (m : MemoryKind) (settings : List Attribute) → (with_attributes m settings).name ≡ m.name
attributes_name m [] = refl
attributes_name m (a ∷ more) = attributes_name (with_trait m (trait_named a.name) a.value) more ∙ trait_name m (trait_named a.name) a.value

-- what is charged at the name of a memory
pub memory_charged : (t : UnitBuilder) (above : Above) → Agrees t → Stands t above → (c : Charge) (n : ℕ) (x : List ℕ) (settings : List Attribute) (own : Option Fault) (m : MemoryKind) → c ≡ charged (unless (not (is_given (program t.unit) x)) Redefined (n + 3) ++ lanes_faults own (n + 3) m) → own ≡ attributes_fault [] (n + 7) settings → m ≡ with_attributes (plain_memory x) settings → c.first ≡ least (item_name_faults above (n + 3) x ++ lanes_faults (attributes_fault [] (n + 7) settings) (n + 3) (with_attributes (plain_memory x) settings))
memory_charged t above a s c n x settings own m h o e = first_of c _ h ∙ (λ i. least (same_name_faults t above a s (n + 3) x i ++ lanes_faults (o i) (n + 3) (e i)))

-- procedures and what goes with them are as before
pub record KeepsProcedures (t after : UnitBuilder) : Type 0 where
  pub procs : after.unit.procs ≡ t.unit.procs
  pub lines : after.unit.lines ≡ t.unit.lines
  pub procedures : after.procedures ≡ t.procedures
  pub rows : after.rows.items ≡ t.rows.items
  pub next_id : after.next_id ≡ t.next_id

module _ (t after : UnitBuilder) (above : Above) (places : List Place) (n end : ℕ) (a : Agrees t) (few : IsFew t n) (s : Stands t above) (k : KeepsProcedures t after) where
  same_signatures : signatures_by after.unit.procs (rows_write after.rows.items) ≡ signatures_by t.unit.procs (rows_write t.rows.items)
  same_signatures = λ i. signatures_by (k.procs i) (rows_write (k.rows i))

  pub memory_added : (x : List ℕ) (settings : List Attribute) (m : MemoryKind) → attributes_fault [] (n + 7) settings ≡ None → least (item_name_faults above (n + 3) x ++ lanes_faults (attributes_fault [] (n + 7) settings) (n + 3) (with_attributes (plain_memory x) settings)) ≡ None → m ≡ with_attributes (plain_memory x) settings → end ≡ n + 7 + attributes_width settings + 1 → after.unit.memories ≡ t.unit.memories ++ m ∷ [] → after.unit.fields ≡ t.unit.fields → after.memories ≡ t.memories ++ x ∷ [] → after.configurations ≡ t.configurations → after.fields ≡ t.fields → IsAdded above places t after n end (memory x settings)
  memory_added x settings m own name is_m is_end memories fields names configurations table =
      record {
        keeps = ap (λ o. or_else o (attributes_fault [] (n + 7) settings)) name ∙ own;
        ends = omega (arith, is_end);
        stands = record {
          program = λ i. record {
            procedures = (k.procs ∙ ap (λ p. p.procedures) s.program) i;
            fields = (fields ∙ ap (λ p. p.fields) s.program) i;
            memories = (memories ∙ (λ j. (ap (λ p. p.memories) s.program) j ++ is_m j ∷ [])) i;
          };
          signatures = same_signatures ∙ s.signatures;
          next_id = k.next_id ∙ s.next_id;
        };
        agrees = record {
          procedures = k.procedures ∙ a.procedures ∙ sym (ap (map (λ q. q.name)) k.procs);
          memories =
              names
              ∙ (λ i. a.memories i ++ sym (ap (λ q. q.name) is_m ∙ attributes_name (plain_memory x) settings) i ∷ [])
              ∙ sym (map-append (λ q. q.name) t.unit.memories (m ∷ []))
              ∙ sym (ap (map (λ q. q.name)) memories);
          fields = table ∙ a.fields ∙ sym fields;
          configurations = λ y. ap (λ l. is_some (name_number l y)) configurations ∙ a.configurations y ∙ sym (ap (list_any (λ f. is_text f.config y)) fields);
          rows = ap length k.rows ∙ a.rows ∙ sym (ap length k.procs);
        };
        few = record {
          ids = omega (arith, k.next_id, few.ids, is_end);
          procedures = omega (arith, ap length k.procs, few.procedures, is_end);
          fields = omega (arith, ap length fields, few.fields, is_end);
          memories = omega (arith, ap length memories, length-append t.unit.memories (m ∷ []), few.memories, is_end);
        };
        lines = k.lines ∙ sym (append-nil t.unit.lines);
      }

  pub configuration_added : (x : List ℕ) (fs : List source.ConfigField) → least (item_name_faults above (n + 3) x) ≡ None → fields_fault [] x (n + 7) fs ≡ None → end ≡ n + 7 + 4 * length fs + 1 → after.unit.fields ≡ t.unit.fields ++ map (field_of x) fs → after.fields ≡ t.fields ++ map (field_of x) fs → ((y : List ℕ) → is_some (name_number after.configurations y) ≡ list_any (λ f. is_text f.config y) (t.unit.fields ++ map (field_of x) fs)) → after.unit.memories ≡ t.unit.memories → after.memories ≡ t.memories → IsAdded above places t after n end (configuration x fs)
  configuration_added x fs name faults is_end fields table configurations memories names =
      record {
        keeps = ap (λ o. or_else o (fields_fault [] x (n + 7) fs)) name ∙ faults;
        ends = omega (arith, is_end);
        stands = record {
          program = λ i. record {
            procedures = (k.procs ∙ ap (λ p. p.procedures) s.program) i;
            fields = (fields ∙ ap (λ l. l ++ map (field_of x) fs) (ap (λ p. p.fields) s.program)) i;
            memories = (memories ∙ ap (λ p. p.memories) s.program) i;
          };
          signatures = same_signatures ∙ s.signatures;
          next_id = k.next_id ∙ s.next_id;
        };
        agrees = record {
          procedures = k.procedures ∙ a.procedures ∙ sym (ap (map (λ q. q.name)) k.procs);
          memories = names ∙ a.memories ∙ sym (ap (map (λ q. q.name)) memories);
          fields = table ∙ ap (λ l. l ++ map (field_of x) fs) a.fields ∙ sym fields;
          configurations = λ y. configurations y ∙ sym (ap (list_any (λ f. is_text f.config y)) fields);
          rows = ap length k.rows ∙ a.rows ∙ sym (ap length k.procs);
        };
        few = record {
          ids = omega (arith, k.next_id, few.ids, is_end);
          procedures = omega (arith, ap length k.procs, few.procedures, is_end);
          fields = omega (arith, ap length fields, length-append t.unit.fields (map (field_of x) fs), length-map fs (field_of x), few.fields, is_end);
          memories = omega (arith, ap length memories, few.memories, is_end);
        };
        lines = k.lines ∙ sym (append-nil t.unit.lines);
      }
