-- What an item adds to what stands above it.
use Rattle.std.proofs.Common.{◌≡◌, ℕ, ◌+◌, ◌≤◌, Bool, true, false, not, ◌||◌, List, [], ◌∷◌, ◌++◌, Option, None, is_some, length, map, refl, ap, sym, ◌∙◌, arith}
use Rattle.std.specs.List.{list_any}
use Rattle.std.proofs.lemmas.List.{length-append, length-map, map-append}
use Rattle.exo_tree.specs.Tree as tree
use Rattle.exo_tree.specs.Tree.{ConfigField, Procedure}
use Rattle.exo_tree.specs.declared.lines.ProcLines.{ProcLines}
use Rattle.exo_tree.specs.PlainUnit.{program}
use Rattle.exo_tree.specs.PlainProcedure as plain
use Rattle.exo_meaning.specs.Run.{world_of, callee_in, kinds_of}
use Rattle.exo_meaning.specs.Units.{is_text}
use Rattle.exo_reader.specs.Source.{Definition, block_of}
use Rattle.rules_names.specs.declared.fault.Fault.{Fault}
use Rattle.rules_names.specs.Faults.{least, unless}
use Rattle.rules_names.specs.declared.error.TypeKind.TheVariants.{Redefined}
use Rattle.rules_names.specs.Names.{name_number}
use Rattle.text_lexer.specs.declared.place.Place.{Place}
use Rattle.exo_modes.specs.declared.row.ModesRow.{ModesRow}
use Rattle.exo_modes.specs.Seen.{row_writes, rows_write}
use Rattle.exo_modes.specs.Marks.{callee_by, callees_by}
use Rattle.exo_modes.specs.Written.{block_writes}
use Rattle.exo_types.specs.declared.context.Context.{Context}
use Rattle.exo_types.specs.declared.definition.Defined.{Defined}
use Rattle.exo_types.specs.declared.refusal.Refusal.{Refusal}
use Rattle.exo_types.specs.declared.typed.UnitBuilder.{UnitBuilder}
use Rattle.exo_types.specs.ArgumentRules.{signature_of}
use Rattle.exo_types.specs.StatementRules.{bound_in}
use Rattle.exo_types.specs.ItemRules.{body_start, definition_end, definition_fault, definition_of}
use Rattle.exo_types.specs.Refusals.{Refuses}
use Rattle.exo_types.specs.UnitRules.{Above, is_given, item_name_faults, memory_names, procedure_names, signatures, with_procedure}
use Rattle.exo_types.specs.UnitLines.{block_starts, line_at}
use Rattle.exo_types.specs.Walks.{signatures_by, signatures_in}
use Rattle.exo_types.specs.Definitions as definitions
use Rattle.exo_types.specs.Definitions.{HasSpace, IsDefined}
use Rattle.exo_types.specs.Standing.{Agrees, IsFew, Stands, here_fault, IsHere, IsPushed, IsProcedure}
use Rattle.exo_types.proofs.Broken.{refuses_same, none_of_both, none_broken, first_empty}
use Rattle.exo_types.proofs.Bounded.{few_bound_in}
use Rattle.exo_types.proofs.Defining.{params_few}
use Rattle.exo_types.proofs.Named.{named, no_number}
use Rattle.exo_types.proofs.Writes.{signature_is}

-- ---- names

-- a name is given exactly where one of the tables has it
pub in_tables : (t : UnitBuilder) (x : List ℕ) → Agrees t → is_given (program t.unit) x ≡ (is_some (name_number t.procedures x) || (is_some (name_number t.configurations x) || is_some (name_number t.memories x)))
in_tables t x a =
    λ i. (sym (ap (λ l. is_some (name_number l x)) a.procedures ∙ named (λ q. q.name) t.unit.procs x) i)
    || ((sym (a.configurations x) i) || (sym (ap (λ l. is_some (name_number l x)) a.memories ∙ named (λ m. m.name) t.unit.memories x) i))

first_false : (a b : Bool) → (a || b) ≡ false → a ≡ false
first_false true b h = cc
first_false false b h = refl

second_false : (a b : Bool) → (a || b) ≡ false → b ≡ false
second_false true b h = cc
second_false false b h = h

-- what breaks no rule is not given
pub not_given : (b : Bool) (n : ℕ) (more : List Fault) → least (unless (not b) Redefined n ++ more) ≡ None → b ≡ false
not_given b n more h = by b (first_empty (unless (not b) Redefined n) more (none_broken (unless (not b) Redefined n ++ more) h))
  where
    by : (b : Bool) → unless (not b) Redefined n ≡ [] → b ≡ false
    by true e = cc
    by false e = refl

pub not_given_alone : (b : Bool) (n : ℕ) → least (unless (not b) Redefined n) ≡ None → b ≡ false
not_given_alone true n h = cc
not_given_alone false n h = refl

module _ (t : UnitBuilder) (x : List ℕ) (a : Agrees t) (new : is_given (program t.unit) x ≡ false) where
  in_none : (is_some (name_number t.procedures x) || (is_some (name_number t.configurations x) || is_some (name_number t.memories x))) ≡ false
  in_none = sym (in_tables t x a) ∙ new

  pub new_procedure : name_number t.procedures x ≡ None
  new_procedure = no_number (name_number t.procedures x) (first_false _ _ in_none)

  pub new_configuration : name_number t.configurations x ≡ None
  new_configuration = no_number (name_number t.configurations x) (first_false _ _ (second_false _ _ in_none))

  pub new_memory : name_number t.memories x ≡ None
  new_memory = no_number (name_number t.memories x) (second_false _ _ (second_false _ _ in_none))

  pub new_fields : list_any (λ f. is_text f.config x) t.fields ≡ false
  new_fields = ap (list_any (λ f. is_text f.config x)) a.fields ∙ sym (a.configurations x) ∙ first_false _ _ (second_false _ _ in_none)

-- where one of the tables has a name, or the others do not
pub given_first : (t : UnitBuilder) (x : List ℕ) → Agrees t → is_some (name_number t.procedures x) ≡ true → true ≡ is_given (program t.unit) x
given_first t x a h = sym (in_tables t x a ∙ ap (λ b. b || (is_some (name_number t.configurations x) || is_some (name_number t.memories x))) h)

pub given_last : (t : UnitBuilder) (x : List ℕ) → Agrees t → is_some (name_number t.procedures x) ≡ false → is_some (name_number t.configurations x) ≡ false → is_some (name_number t.memories x) ≡ is_given (program t.unit) x
given_last t x a h k = sym (in_tables t x a ∙ (λ i. h i || (k i || is_some (name_number t.memories x))))

-- ---- what stands above, in the tables

module _ (t : UnitBuilder) (above : Above) (a : Agrees t) (s : Stands t above) where
  pub same_fields : t.fields ≡ above.program.fields
  same_fields = a.fields ∙ ap (λ p. p.fields) s.program

  pub same_memories : t.memories ≡ memory_names above.program
  same_memories = a.memories ∙ ap memory_names s.program

  pub same_procedures : t.procedures ≡ procedure_names above.program
  same_procedures = a.procedures ∙ ap procedure_names s.program

  pub same_name_faults : (n : ℕ) (x : List ℕ) → unless (not (is_given (program t.unit) x)) Redefined n ≡ item_name_faults above n x
  same_name_faults n x = ap (λ p. unless (not (is_given p x)) Redefined n) s.program

  -- a context of these tables
  pub record IsContext (c : Context) (places : List Place) : Type 0 where
    pub all_places : c.places.now ≡ places
    pub fields : c.fields.now ≡ t.fields
    pub memories : c.memories.now ≡ t.memories
    pub procedures : c.procedures.now ≡ t.procedures
    pub signatures : signatures_in c ≡ signatures_by t.unit.procs (rows_write t.rows.items)

  pub here_refused : (c : Context) (places : List Place) (n : ℕ) (d : Definition) (e : Refusal) → IsContext c places → Refuses e (definitions.definition_fault c t.next_id n d) → Refuses e (here_fault above n d)
  here_refused c places n d e k r =
      refuses_same e _ _ (λ i. definition_fault ((k.fields ∙ same_fields) i) ((k.memories ∙ same_memories) i) ((k.procedures ∙ same_procedures) i) ((k.signatures ∙ s.signatures) i) (s.next_id i) n d) r

  pub here_made : (c : Context) (places : List Place) (template : Option (List ℕ)) (n : ℕ) (made : Defined) (d : Definition) → IsContext c places → IsDefined c t.next_id template n made d → IsHere above places template n made d
  here_made c places template n made d k m = record {
    keeps = (λ i. definition_fault (sym (k.fields ∙ same_fields) i) (sym (k.memories ∙ same_memories) i) (sym (k.procedures ∙ same_procedures) i) (sym (k.signatures ∙ s.signatures) i) (sym s.next_id i) n d) ∙ m.keeps;
    procedure = m.procedure ∙ (λ i. definition_of ((k.fields ∙ same_fields) i) ((k.memories ∙ same_memories) i) ((k.procedures ∙ same_procedures) i) ((k.signatures ∙ s.signatures) i) (s.next_id i) template d);
    lines = m.lines ∙ ap (λ l. map (line_at l) (block_starts (body_start n d) (block_of d.body))) k.all_places;
    ids = m.ids ∙ ap (λ id. id + length d.params + bound_in (block_of d.body)) s.next_id;
    end = m.end;
  }

-- ---- procedures

-- signatures by tables
by_callees : (ps : List Procedure) (ws : List (ℕ → Bool)) → signatures_by ps ws ≡ map signature_of (callees_by ps ws)
by_callees [] ws = refl
by_callees (p ∷ ps) [] = refl
by_callees (p ∷ ps) (w ∷ ws) = ap (λ l. signature_of (callee_by p w) ∷ l) (by_callees ps ws)

signatures_more : (ps : List Procedure) (ws : List (ℕ → Bool)) (p : Procedure) (w : ℕ → Bool) → length ws ≡ length ps → signatures_by (ps ++ p ∷ []) (ws ++ w ∷ []) ≡ signatures_by ps ws ++ record { params = p.params; writes = w } ∷ []
signatures_more [] [] p w h = refl
signatures_more [] (v ∷ ws) p w h = absurd (omega (arith, h))
signatures_more (q ∷ ps) [] p w h = absurd (omega (arith, h))
signatures_more (q ∷ ps) (v ∷ ws) p w h = ap (λ l. record { params = q.params; writes = v } ∷ l) (signatures_more ps ws p w (omega (arith, h)))

-- the signatures with a procedure more
new_signatures : (t : UnitBuilder) (above : Above) (d : Definition) (p : Procedure) (row : ModesRow) → Agrees t → Stands t above → row_writes row ≡ block_writes t.unit.procs (rows_write t.rows.items) (λ y. y) p.body → signatures_by (t.unit.procs ++ p ∷ []) (rows_write (t.rows.items ++ row ∷ [])) ≡ signatures (with_procedure above d p)
new_signatures t above d p row a s w =
    let ps = t.unit.procs in
    let ws = rows_write t.rows.items in
    let kinds = kinds_of above.program.fields in
    let same = sym (by_callees ps ws) ∙ s.signatures in
    ap (signatures_by (ps ++ p ∷ [])) (map-append row_writes t.rows.items (row ∷ []))
    ∙ signatures_more ps ws p (row_writes row) (length-map t.rows.items row_writes ∙ a.rows)
    ∙ (λ i. s.signatures i ++ sym (signature_is kinds ps ws above.callees p (row_writes row) same w) i ∷ [])
    ∙ sym (map-append signature_of above.callees (callee_in (world_of kinds above.callees) p ∷ []))

-- a procedure has more tokens than it binds names
pub few_ids : (n : ℕ) (d : Definition) → n + (length d.params + bound_in (block_of d.body)) ≤ definition_end n d
few_ids n d = let a = params_few d.params in let b = few_bound_in (block_of d.body) in omega (arith, a, b)

-- what stands above the next item
module _ (t pushed after : UnitBuilder) (above : Above) (places : List Place) (template : Option (List ℕ)) (n : ℕ) (d : Definition) (made : Defined) (row : ModesRow) (lines : ProcLines) where
  pub procedure_added : (end : ℕ) → Agrees t → IsFew t n → Stands t above → least (unless (not (is_given (program t.unit) d.name)) Redefined (n + 1)) ≡ None → IsHere above places template n made d → row_writes row ≡ block_writes t.unit.procs (rows_write t.rows.items) (λ y. y) (tree.block made.procedure.body) → lines ≡ record { def = line_at places n; statements = made.lines } → IsPushed t pushed d.name (plain.procedure made.procedure) row lines → after.unit ≡ pushed.unit → after.procedures ≡ pushed.procedures → after.memories ≡ pushed.memories → after.configurations ≡ pushed.configurations → after.fields ≡ pushed.fields → after.rows.items ≡ pushed.rows.items → after.next_id ≡ made.next_id → end ≡ made.end → IsProcedure above places t after template n end d
  procedure_added end a few s name here w is_lines p unit procedures memories configurations fields rows next_id is_end =
      let q = plain.procedure made.procedure in
      let procs : after.unit.procs ≡ t.unit.procs ++ q ∷ [] = ap (λ u. u.procs) unit ∙ p.procedures in
      let old_fields : after.unit.fields ≡ t.unit.fields = ap (λ u. u.fields) unit ∙ p.fields in
      let old_memories : after.unit.memories ≡ t.unit.memories = ap (λ u. u.memories) unit ∙ p.memories in
      let all_rows : after.rows.items ≡ t.rows.items ++ row ∷ [] = rows ∙ p.rows in
      let ids : after.next_id ≡ above.next_id + length d.params + bound_in (block_of d.body) = next_id ∙ here.ids in
      let bound = few_ids n d in
      let at : end ≡ definition_end n d = is_end ∙ here.end in
      record {
        keeps = none_of_both _ _ (ap least (sym (same_name_faults t above a s (n + 1) d.name)) ∙ name) here.keeps;
        ends = at;
        stands = record {
          program = λ i. record {
            procedures = (procs ∙ (λ j. (ap (λ g. g.procedures) s.program) j ++ here.procedure j ∷ [])) i;
            fields = (old_fields ∙ ap (λ g. g.fields) s.program) i;
            memories = (old_memories ∙ ap (λ g. g.memories) s.program) i;
          };
          signatures =
              (λ i. signatures_by (procs i) (rows_write (all_rows i)))
              ∙ new_signatures t above d q row a s w
              ∙ ap (λ g. signatures (with_procedure above d g)) here.procedure;
          next_id = ids;
        };
        agrees = record {
          procedures = procedures ∙ p.names ∙ (λ i. a.procedures i ++ d.name ∷ []) ∙ sym (map-append (λ g. g.name) t.unit.procs (q ∷ []) ∙ ap (λ x. map (λ g. g.name) t.unit.procs ++ x ∷ []) (ap (λ g. g.name) here.procedure)) ∙ sym (ap (map (λ g. g.name)) procs);
          memories = memories ∙ p.same_memories ∙ a.memories ∙ sym (ap (map (λ m. m.name)) old_memories);
          fields = fields ∙ p.same_fields ∙ a.fields ∙ sym old_fields;
          configurations = λ x. ap (λ l. is_some (name_number l x)) (configurations ∙ p.same_configurations) ∙ a.configurations x ∙ sym (ap (list_any (λ f. is_text f.config x)) old_fields);
          rows = omega (arith, ap length all_rows, ap length procs, length-append t.rows.items (row ∷ []), length-append t.unit.procs (q ∷ []), a.rows);
        };
        few = record {
          ids = omega (arith, ids, s.next_id, few.ids, bound, at);
          procedures = omega (arith, few.procedures, ap length procs, length-append t.unit.procs (q ∷ []), at);
          fields = omega (arith, few.fields, ap length old_fields, at);
          memories = omega (arith, few.memories, ap length old_memories, at);
        };
        lines = ap (λ u. u.lines) unit ∙ p.told ∙ (λ i. t.unit.lines ++ (is_lines ∙ (λ j. record { def = line_at places n; statements = here.lines j })) i ∷ []);
      }
