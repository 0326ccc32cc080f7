-- A unit that breaks no rule is well formed.
use Rattle.std.proofs.Common.{◌≡◌, ℕ, zero, suc, ◌+◌, ◌*◌, ◌≤◌, ◌<◌, ◌^◌, nat_lt, true, List, [], ◌∷◌, ◌++◌, length, map, Option, Some, None, slice_get, refl, sym, ap, subst, ◌∙◌, arith, lt-ltb, append_assoc, append-nil as append_nil}
use Rattle.std.specs.List.{list_all}
use Rattle.std.proofs.lemmas.List.{length-append, length-map, map-append}
use Rattle.text_phrases.specs.Limits.{in_size}
use Rattle.text_phrases.specs.Sequence.{AllFit, spell_all}
use Rattle.text_lexer.specs.declared.token.Token.{Token}
use Rattle.text_lexer.specs.declared.token.Token.TheVariants.{Sign, Decorator, NewLine, Dedent}
use Rattle.text_lexer.specs.declared.token.Sign.TheVariants as s
use Rattle.text_lexer.specs.declared.token.Decorator.TheVariants as decorator
use Rattle.exo_tree.specs.Tree.{Kind, ConfigField, Procedure}
use Rattle.exo_meaning.specs.Calls.{Callee}
use Rattle.exo_meaning.specs.Run.{world_of, callee_in, kinds_of}
use Rattle.exo_meaning.specs.Units.{field_kind, bound_ids, is_template, IsProcedure, AreProcedures}
use Rattle.exo_reader.specs.Source as source
use Rattle.exo_reader.specs.Source.{Definition, Statement, Attribute, Item, procedure, instruction, configuration, memory}
use Rattle.exo_reader.specs.Items as phrase
use Rattle.exo_reader.specs.Items.{joined, neighbours, assertions, definition, attribute, item, unit}
use Rattle.rules_names.specs.declared.error.TypeKind.TheVariants.{UnknownName}
use Rattle.rules_names.specs.declared.fault.Fault.{Fault}
use Rattle.rules_names.specs.Faults.{least}
use Rattle.exo_types.specs.ArgumentRules.{signature_of}
use Rattle.exo_types.specs.StatementRules.{bound_in}
use Rattle.exo_types.specs.ItemRules.{field_of, definition_fault}
use Rattle.exo_types.specs.MemoryRules.{plain_memory, with_attributes}
use Rattle.exo_types.specs.UnitRules.{Above, nothing_above, item_name_faults, memory_names, procedure_names, signatures, procedure_here, procedure_fault, template_faults, item_width, item_fault, after_item, after_items, items_fault}
use Rattle.exo_types.specs.Laws.{SignaturesAgree}
use Rattle.exo_reader.specs.Texts.{tokens_of}
use Rattle.text_lexer.specs.Layout.{lexed, place_of, token_of, end_place}
use Rattle.exo_types_laws.specs.Small.{are_small_tokens}
use Rattle.exo_types_laws.specs.Laws.{TypedUnitsAreFormed, ReadUnitsAreFormed, TypedUnitsAreLow}
use Rattle.exo_types_laws.proofs.Lexed.{lexed_small}
use Rattle.exo_types_laws.proofs.Unbroken.{pair, none_of, unless_none, neither_broken}
use Rattle.exo_types_laws.proofs.Texts.{Text, front, back, behind}
use Rattle.exo_types_laws.proofs.Ids.{all_below}
use Rattle.exo_types_laws.proofs.Leaves.{Laws}
use Rattle.exo_types_laws.proofs.Sizes.{bound_most, definition_ascends}
use Rattle.exo_types_laws.proofs.Procedures.{definition_formed}
use Rattle.exo_types_laws.proofs.Entries.{sound_at_end, sound_at_first}

-- ---- tables only grow

kind_append : (fs gs : List ConfigField) (f : ℕ) (k : Kind) → field_kind fs f ≡ Some k → field_kind (fs ++ gs) f ≡ Some k
kind_append [] gs f k h = cc
kind_append (x ∷ fs) gs zero k h = h
kind_append (x ∷ fs) gs (suc f) k h = kind_append fs gs f k h

kind_after : (above : Above) (i : Item) (f : ℕ) (k : Kind) → field_kind above.program.fields f ≡ Some k → field_kind (after_item above i).program.fields f ≡ Some k
kind_after above (procedure d) f k h = h
kind_after above (instruction template d) f k h = h
kind_after above (configuration x fs) f k h = kind_append above.program.fields (map (field_of x) fs) f k h
kind_after above (memory x settings) f k h = h

kind_at_end : (above : Above) (items : List Item) (f : ℕ) (k : Kind) → field_kind above.program.fields f ≡ Some k → field_kind (after_items above items).program.fields f ≡ Some k
kind_at_end above [] f k h = h
kind_at_end above (i ∷ more) f k h = kind_at_end (after_item above i) more f k (kind_after above i f k h)

memories_after : (above : Above) (i : Item) → length above.program.memories ≤ length (after_item above i).program.memories
memories_after above (procedure d) = omega arith
memories_after above (instruction template d) = omega arith
memories_after above (configuration x fs) = omega arith
memories_after above (memory x settings) = omega (arith, length-append above.program.memories (with_attributes (plain_memory x) settings ∷ []))

memories_at_end : (above : Above) (items : List Item) → length above.program.memories ≤ length (after_items above items).program.memories
memories_at_end above [] = omega arith
memories_at_end above (i ∷ more) = omega (arith, memories_after above i, memories_at_end (after_item above i) more)

-- ---- by no more than there are tokens

fields_most : (fs : List source.ConfigField) → length fs ≤ length (spell_all phrase.field fs)
fields_most [] = omega arith
fields_most (f ∷ fs) = omega (arith, length-append (phrase.field.spell f) (spell_all phrase.field fs), fields_most fs)

-- what is above and then, where there are so many tokens
record Grows (before after : Above) (tokens : ℕ) : Type 0 where
  ids : after.next_id ≤ before.next_id + tokens
  procedures : length after.program.procedures ≤ length before.program.procedures + tokens
  fields : length after.program.fields ≤ length before.program.fields + tokens
  memories : 2 * length after.program.memories ≤ 2 * length before.program.memories + tokens

grows : (above : Above) (i : Item) → Grows above (after_item above i) (length (item.spell i))
grows above (procedure d) = record {
  ids = omega (arith, bound_most d);
  procedures = omega (arith, length-append above.program.procedures (procedure_here above None d ∷ []));
  fields = omega arith;
  memories = omega arith;
}
grows above (instruction template d) = record {
  ids = omega (arith, bound_most d, length-append (neighbours.spell template) (Sign s.Close ∷ NewLine ∷ definition.spell d));
  procedures = omega (arith, length-append above.program.procedures (procedure_here above (Some (joined template)) d ∷ []));
  fields = omega arith;
  memories = omega arith;
}
grows above (configuration x fs) = record {
  ids = omega arith;
  procedures = omega arith;
  fields =
      omega (arith, length-append above.program.fields (map (field_of x) fs), length-map fs (field_of x), fields_most fs, length-append (spell_all phrase.field fs) (Dedent ∷ []));
  memories = omega arith;
}
grows above (memory x settings) = record {
  ids = omega arith;
  procedures = omega arith;
  fields = omega arith;
  memories = omega (arith, length-append above.program.memories (with_attributes (plain_memory x) settings ∷ []));
}

grows_to_end : (above : Above) (items : List Item) → Grows above (after_items above items) (length (unit.spell items))
grows_to_end above [] = record { ids = omega arith; procedures = omega arith; fields = omega arith; memories = omega arith }
grows_to_end above (i ∷ more) =
    let one = grows above i in
    let rest = grows_to_end (after_item above i) more in
    let l = length-append (item.spell i) (unit.spell more) in
    record {
      ids = omega (arith, one.ids, rest.ids, l);
      procedures = omega (arith, one.procedures, rest.procedures, l);
      fields = omega (arith, one.fields, rest.fields, l);
      memories = omega (arith, one.memories, rest.memories, l);
    }

-- ---- the procedures that items add

added : Above → List Item → List Procedure
added above [] = []
added above (procedure d ∷ more) = procedure_here above None d ∷ added (after_item above (procedure d)) more
added above (instruction template d ∷ more) = procedure_here above (Some (joined template)) d ∷ added (after_item above (instruction template d)) more
added above (configuration x fs ∷ more) = added (after_item above (configuration x fs)) more
added above (memory x settings ∷ more) = added (after_item above (memory x settings)) more

added_are : (above : Above) (items : List Item) → (after_items above items).program.procedures ≡ above.program.procedures ++ added above items
unfolding added
added_are above [] = sym (append_nil above.program.procedures)
added_are above (procedure d ∷ more) =
    added_are (after_item above (procedure d)) more ∙ append_assoc above.program.procedures (procedure_here above None d ∷ []) (added (after_item above (procedure d)) more)
added_are above (instruction template d ∷ more) =
    added_are (after_item above (instruction template d)) more ∙ append_assoc above.program.procedures (procedure_here above (Some (joined template)) d ∷ []) (added (after_item above (instruction template d)) more)
added_are above (configuration x fs ∷ more) = added_are (after_item above (configuration x fs)) more
added_are above (memory x settings ∷ more) = added_are (after_item above (memory x settings)) more

-- ---- ids and numbers

one_low : (above : Above) (template : Option (List ℕ)) (def : Definition) → above.next_id + length (definition.spell def) ≤ 0x100000 → list_all (λ x. nat_lt x (2 ^ 20)) (bound_ids (procedure_here above template def)) ≡ true
one_low above template def few =
    all_below above.next_id (above.next_id + length def.params + bound_in (source.block_of def.body)) (2 ^ 20) (bound_ids (procedure_here above template def)) (omega (arith, few, bound_most def))
    (definition_ascends above.program.fields (memory_names above.program) (procedure_names above.program) (signatures above) above.next_id template def)

added_low : (above : Above) (items : List Item) → above.next_id + length (unit.spell items) ≤ 0x100000 → list_all (λ p. list_all (λ x. nat_lt x (2 ^ 20)) (bound_ids p)) (added above items) ≡ true
unfolding added
added_low above [] few = refl
added_low above (procedure def ∷ more) few =
    let i : Item = procedure def in
    let l = length-append (item.spell i) (unit.spell more) in
    let g = grows above i in
    pair (one_low above None def (omega (arith, few, l))) (added_low (after_item above i) more (omega (arith, few, l, g.ids)))
added_low above (instruction template def ∷ more) few =
    let i : Item = instruction template def in
    let l = length-append (item.spell i) (unit.spell more) in
    let g = grows above i in
    pair (one_low above (Some (joined template)) def (omega (arith, few, l, length-append (neighbours.spell template) (Sign s.Close ∷ NewLine ∷ definition.spell def)))) (added_low (after_item above i) more (omega (arith, few, l, g.ids)))
added_low above (configuration x fs ∷ more) few = added_low (after_item above (configuration x fs)) more (omega (arith, few, length-append (item.spell (configuration x fs)) (unit.spell more)))
added_low above (memory x settings ∷ more) few = added_low (after_item above (memory x settings)) more (omega (arith, few, length-append (item.spell (memory x settings)) (unit.spell more)))

pub units_low : TypedUnitsAreLow
units_low items short =
    let last : Above = after_items nothing_above items in
    let g = grows_to_end nothing_above items in
    record {
      ids = subst (λ (ps : List Procedure). list_all (λ p. list_all (λ x. nat_lt x (2 ^ 20)) (bound_ids p)) ps ≡ true) (sym (added_are nothing_above items)) (added_low nothing_above items (omega (arith, short)));
      procedures = omega (arith, short, g.procedures);
      fields = omega (arith, short, g.fields);
      memories = omega (arith, short, g.memories);
    }

module _ (laws : Laws) (agree : SignaturesAgree) where
  -- a procedure below callees of the signatures above, in a unit with fields and memories behind it too
  one_formed : (above : Above) (F : List ConfigField) (M : ℕ) (cs : List Callee) → ((f : ℕ) (k : Kind) → field_kind above.program.fields f ≡ Some k → field_kind F f ≡ Some k) → 0 < length above.program.memories → length above.program.memories ≤ M → map signature_of cs ≡ signatures above
      → (n : ℕ) (template : Option (List ℕ)) (def : Definition) → definition.Fits in_size def → Text (definition.spell def) → above.next_id + length (definition.spell def) ≤ 0x100000 → procedure_fault above n def ≡ None → is_template (procedure_here above None def).params template ≡ true
      → IsProcedure (field_kind F) M (slice_get cs) (procedure_here above template def)
  one_formed above F M cs more some within signed n template def fits text few h templated =
      let names : List (List ℕ) = memory_names above.program in
      let broken : Option Fault = definition_fault above.program.fields names (procedure_names above.program) (signatures above) above.next_id n def in
      let parts = neither_broken (least (item_name_faults above (n + 1) def.name)) broken h in
      definition_formed laws above.program.fields (field_kind F) more names M (omega (arith, some, within)) (omega (arith, within, length-map above.program.memories (λ m. m.name))) (procedure_names above.program) (signatures above) cs signed above.next_id n template def fits text few parts.1 templated

  -- callees below this one
  signed_on : (above : Above) (kinds : ℕ → Kind) (cs : List Callee) (p : Procedure) → map signature_of cs ≡ signatures above
      → map signature_of (cs ++ callee_in (world_of kinds cs) p ∷ []) ≡ map signature_of (above.callees ++ callee_in (world_of (kinds_of above.program.fields) above.callees) p ∷ [])
  signed_on above kinds cs p signed =
      map-append signature_of cs (callee_in (world_of kinds cs) p ∷ [])
      ∙ (λ i. signed i ++ (agree kinds (kinds_of above.program.fields) cs above.callees signed p i ∷ []))
      ∙ sym (map-append signature_of above.callees (callee_in (world_of (kinds_of above.program.fields) above.callees) p ∷ []))

  procedures_formed : (above : Above) (n : ℕ) (items : List Item) (cs : List Callee) → map signature_of cs ≡ signatures above → 0 < length above.program.memories → AllFit item in_size items → Text (unit.spell items) → above.next_id + length (unit.spell items) ≤ 0x100000 → items_fault above n items ≡ None
      → AreProcedures (after_items above items).program.fields (length (after_items above items).program.memories) cs (added above items)
  unfolding added
  procedures_formed above n [] cs signed some fits text few h = tt
  procedures_formed above n (procedure def ∷ more) cs signed some fits text few h =
      let i : Item = procedure def in
      let p : Procedure = procedure_here above None def in
      let F : List ConfigField = (after_items above (i ∷ more)).program.fields in
      let parts = neither_broken (item_fault above n i) (items_fault (after_item above i) (n + item_width i) more) h in
      let own = front (item.spell i) (unit.spell more) text in
      let inner = behind NewLine (definition.spell def) (behind (Decorator decorator.Procedure) (NewLine ∷ definition.spell def) own) in
      let l = length-append (item.spell i) (unit.spell more) in
      let g = grows above i in (
        one_formed above F (length (after_items above (i ∷ more)).program.memories) cs (kind_at_end above (i ∷ more)) some (memories_at_end above (i ∷ more)) signed (n + 2) None def fits.0 inner (omega (arith, few, l)) parts.0 refl,
        procedures_formed (after_item above i) (n + item_width i) more (cs ++ callee_in (world_of (kinds_of F) cs) p ∷ []) (signed_on above (kinds_of F) cs p signed) some fits.1 (back (item.spell i) (unit.spell more) text) (omega (arith, few, l, g.ids)) parts.1,
      )
  procedures_formed above n (instruction template def ∷ more) cs signed some fits text few h =
      let i : Item = instruction template def in
      let p : Procedure = procedure_here above (Some (joined template)) def in
      let F : List ConfigField = (after_items above (i ∷ more)).program.fields in
      let parts = neither_broken (item_fault above n i) (items_fault (after_item above i) (n + item_width i) more) h in
      let faults : List Fault = template_faults above (n + 2) template def in
      let own_parts = neither_broken (least faults) (procedure_fault above (n + 2 + length template + 2) def) parts.0 in
      let templated = unless_none (is_template (procedure_here above None def).params (Some (joined template))) UnknownName (n + 2) (none_of faults own_parts.0) in
      let own = front (item.spell i) (unit.spell more) text in
      let strings : List Token = neighbours.spell template in
      let tail : List Token = Sign s.Close ∷ NewLine ∷ definition.spell def in
      let inner = behind NewLine (definition.spell def) (behind (Sign s.Close) (NewLine ∷ definition.spell def) (back strings tail (behind (Sign s.Open) (strings ++ tail) (behind (Decorator decorator.Instruction) (Sign s.Open ∷ (strings ++ tail)) own)))) in
      let l = length-append (item.spell i) (unit.spell more) in
      let g = grows above i in (
        one_formed above F (length (after_items above (i ∷ more)).program.memories) cs (kind_at_end above (i ∷ more)) some (memories_at_end above (i ∷ more)) signed (n + 2 + length template + 2) (Some (joined template)) def fits.0.1 inner (omega (arith, few, l, length-append strings tail)) own_parts.1 templated,
        procedures_formed (after_item above i) (n + item_width i) more (cs ++ callee_in (world_of (kinds_of F) cs) p ∷ []) (signed_on above (kinds_of F) cs p signed) some fits.1 (back (item.spell i) (unit.spell more) text) (omega (arith, few, l, g.ids)) parts.1,
      )
  procedures_formed above n (configuration x fs ∷ more) cs signed some fits text few h =
      let i : Item = configuration x fs in
      let parts = neither_broken (item_fault above n i) (items_fault (after_item above i) (n + item_width i) more) h in
      let l = length-append (item.spell i) (unit.spell more) in
      procedures_formed (after_item above i) (n + item_width i) more cs signed some fits.1 (back (item.spell i) (unit.spell more) text) (omega (arith, few, l)) parts.1
  procedures_formed above n (memory x settings ∷ more) cs signed some fits text few h =
      let i : Item = memory x settings in
      let parts = neither_broken (item_fault above n i) (items_fault (after_item above i) (n + item_width i) more) h in
      let l = length-append (item.spell i) (unit.spell more) in
      procedures_formed (after_item above i) (n + item_width i) more cs signed (omega (arith, some, memories_after above i)) fits.1 (back (item.spell i) (unit.spell more) text) (omega (arith, few, l)) parts.1

  -- ---- units

  pub units_formed : TypedUnitsAreFormed
  units_formed items fits short small h =
      let last : Above = after_items nothing_above items in
      let text : Text (unit.spell items) = record { small = small; short = short } in
      let sound = sound_at_end nothing_above 0 items sound_at_first h in
      let g = grows_to_end nothing_above items in
      let formed = procedures_formed nothing_above 0 items [] refl (omega arith) (fits in_size) text (omega (arith, short)) h in
      record {
        procedures = subst (λ (ps : List Procedure). AreProcedures last.program.fields (length last.program.memories) [] ps) (sym (added_are nothing_above items)) formed;
        fields = sound.fields;
        memories = sound.memories;
        spaces = sound.spaces;
        counts =
            pair (lt-ltb (length last.program.procedures) (2 ^ 31) (omega (arith, short, g.procedures)))
            (pair (lt-ltb (length last.program.fields) (2 ^ 31) (omega (arith, short, g.fields))) (lt-ltb (length last.program.memories) (2 ^ 31) (omega (arith, short, g.memories))));
      }

-- what is read
pub read_units_formed : TypedUnitsAreFormed → ReadUnitsAreFormed
read_units_formed formed text items is few h =
    let short : length (tokens_of text) ≤ 0x100000 = omega (arith, few, length-append (map place_of (lexed text)) (end_place text ∷ []), length-map (lexed text) place_of, length-map (lexed text) token_of) in
    formed items is.fits (omega (arith, short, ap length is.spelled)) (ap are_small_tokens (sym is.spelled) ∙ lexed_small text) h
