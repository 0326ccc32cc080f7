-- Below items that hold what it names, a written procedure stands for itself.
use Rattle.std.proofs.Common.{◌≡◌, ℕ, zero, suc, ◌+◌, ◌<◌, ◌==◌, true, false, not, ◌&&◌, ◌||◌, if◌then◌else◌, List, [], ◌∷◌, ◌++◌, length, map, Option, Some, None, slice_get, refl, sym, ap, ap₂, ◌∙◌, arith, subst, append-nil, append_assoc}
use Rattle.std.specs.List.{list_any}
use Rattle.exo_tree.specs.Tree.{ConfigField, MemoryKind, Param, ParamKind, ControlParam, TensorParam, WindowParam, Procedure, Program}
use Rattle.exo_meaning.specs.Calls.{Callee}
use Rattle.exo_meaning.specs.Run.{world_of, callee_in, kinds_of, callees, program_world}
use Rattle.exo_meaning.specs.Units.{is_text, IsUnit, IsProcedure, AreProcedures, field_kind, bound_ids, all_differ, Reading, Plain, Opened, Closed, InHole, is_hole_of, holes_fit, is_template}
use Rattle.exo_meaning.specs.Renaming.{Renaming}
use Rattle.exo_reader.specs.Source as source
use Rattle.exo_reader.specs.Source.{Item, Definition}
use Rattle.exo_reader.specs.Items.{joined}
use Rattle.rules_names.specs.Faults.{least, or_else}
use Rattle.rules_names.specs.Names.{name_number, no_id}
use Rattle.text_show.specs.Layout.{Text}
use Rattle.text_show.specs.Names.{names_of, unknown}
use Rattle.text_show.specs.Words.{words_of, memory_name, callee_name}
use Rattle.exo_types.specs.TypeRules.{number_or}
use Rattle.exo_types.specs.ItemRules.{definition_of, definition_fault}
use Rattle.exo_types.specs.UnitRules.{Above, nothing_above, after_item, after_items, item_fault, procedure_fault, procedure_here, memory_names, procedure_names, signatures}
use Rattle.exo_types_laws.specs.Shown.Again.{re_param, re_procedure, HoldsWhatIsNamed, StandsFor}
use Rattle.exo_types_laws.specs.Shown.Again.{ShownIsTheSame}
use Rattle.exo_types_laws.specs.Shown.Written as tree
use Rattle.exo_types_laws.specs.Shown.Written.{marked, written}
use Rattle.exo_types_laws.specs.Shown.Writable.{IsWritable}
use Rattle.exo_types_laws.proofs.OfShown.Scoped.{both}
use Rattle.exo_types_laws.proofs.OfShown.Resolved.{FindsFields, unless_fine}
use Rattle.exo_types_laws.proofs.OfShown.Listed.{fields_found, memory_found, procedure_found}
use Rattle.exo_types_laws.proofs.OfShown.Numbered.{Counts, same_ids, counted, counts}
use Rattle.exo_types_laws.proofs.OfShown.Inside.{FindsMemories, MeetsCalls}
use Rattle.exo_types_laws.proofs.OfShown.Standing.{Stands, AllStand, no_procedures, one_more}
use Rattle.exo_types_laws.proofs.OfShown.Standing.{got_below, there}
use Rattle.exo_types_laws.proofs.OfShown.Whole.{definition_same, definition_fine}

-- ---- what stands above

abbrev Any : List Callee → Procedure → Type 0
Any before q = Unit {0}

stand_after : (i : Item) (above : Above) → AllStand Any above.callees above.program.procedures → AllStand Any (after_item above i).callees (after_item above i).program.procedures
stand_after (source.procedure d) above all = one_more Any above.callees above.program.procedures (kinds_of above.program.fields) (procedure_here above None d) all tt
stand_after (source.instruction template d) above all = one_more Any above.callees above.program.procedures (kinds_of above.program.fields) (procedure_here above (Some (joined template)) d) all tt
stand_after (source.configuration x fs) above all = all
stand_after (source.memory x settings) above all = all

stand_items : (items : List Item) (above : Above) → AllStand Any above.callees above.program.procedures → AllStand Any (after_items above items).callees (after_items above items).program.procedures
stand_items [] above all = all
stand_items (i ∷ items) above all = stand_items items (after_item above i) (stand_after i above all)

-- ---- the procedures of a unit

abbrev Ruled : List ConfigField → ℕ → List Callee → Procedure → Type 0
Ruled fields count before q = IsProcedure (field_kind fields) count (slice_get before) q

ruled_from : (fields : List ConfigField) (count : ℕ) (ps done : List Procedure) (above : List Callee) → AllStand (Ruled fields count) above done → AreProcedures fields count above ps → (final : List Callee) × AllStand (Ruled fields count) final (done ++ ps)
ruled_from fields count [] done above all rules = (above, subst (AllStand (Ruled fields count) above) (sym (append-nil done)) all)
ruled_from fields count (p ∷ ps) done above all rules =
    let more = ruled_from fields count ps (done ++ p ∷ []) (above ++ callee_in (world_of (kinds_of fields) above) p ∷ []) (one_more (Ruled fields count) above done (kinds_of fields) p all rules.0) rules.1 in
    (more.0, subst (AllStand (Ruled fields count) more.0) (append_assoc done (p ∷ []) ps) more.1)

-- the callees of a unit are those that stand below each other
final_is : (fields : List ConfigField) (count : ℕ) (ps done : List Procedure) (above : List Callee) (all : AllStand (Ruled fields count) above done) (rules : AreProcedures fields count above ps) → (ruled_from fields count ps done above all rules).0 ≡ callees (kinds_of fields) above ps
unfolding ruled_from
final_is fields count [] done above all rules = refl
final_is fields count (p ∷ ps) done above all rules =
    final_is fields count ps (done ++ p ∷ []) (above ++ callee_in (world_of (kinds_of fields) above) p ∷ []) (one_more (Ruled fields count) above done (kinds_of fields) p all rules.0) rules.1

some_same : {A : Type 0} (a b : A) → Some a ≡ Some b → a ≡ b
some_same a b h = ap (λ o. elim o [ None ↦ a | Some x ↦ x ]) h

-- ---- templates

hole_re : (r : Renaming) (name : List ℕ) (p : Param) → is_hole_of name (re_param r p) ≡ is_hole_of name p
hole_re r name p = by p.kind
  where
    by : (kind : ParamKind) → is_hole_of name (re_param r (record p { kind = kind })) ≡ is_hole_of name (record p { kind = kind })
    by (ControlParam kind) = refl
    by (TensorParam cell dims memory) = refl
    by (WindowParam cell dims memory) = refl

any_hole : (r : Renaming) (name : List ℕ) (ps : List Param) → list_any (is_hole_of name) (map (re_param r) ps) ≡ list_any (is_hole_of name) ps
any_hole r name [] = refl
any_hole r name (p ∷ ps) = ap₂ ◌||◌ (hole_re r name p) (any_hole r name ps)

holes_re : (r : Renaming) (ps : List Param) (reading : Reading) (text : List ℕ) → holes_fit (map (re_param r) ps) reading text ≡ holes_fit ps reading text
holes_re r ps Plain [] = refl
holes_re r ps Opened [] = refl
holes_re r ps Closed [] = refl
holes_re r ps (InHole name) [] = refl
holes_re r ps Plain (c ∷ text) = ap₂ (λ a b. if c == 123 then a else b) (holes_re r ps Opened text) (ap₂ (λ a b. if c == 125 then a else b) (holes_re r ps Closed text) (holes_re r ps Plain text))
holes_re r ps Opened (c ∷ text) = ap₂ (λ a b. if c == 123 then a else (if c == 125 then false else b)) (holes_re r ps Plain text) (holes_re r ps (InHole (c ∷ [])) text)
holes_re r ps Closed (c ∷ text) = ap (λ a. if c == 125 then a else false) (holes_re r ps Plain text)
holes_re r ps (InHole name) (c ∷ text) = ap₂ (λ a b. if c == 125 then a else b) (ap₂ ◌&&◌ (any_hole r name ps) (holes_re r ps Plain text)) (holes_re r ps (InHole (name ++ c ∷ [])) text)

get_map : {A B : Type 0} (f : A → B) (xs : List A) (i : ℕ) (x : A) → slice_get xs i ≡ Some x → slice_get (map f xs) i ≡ Some (f x)
get_map f [] i x h = absurd (none_some h)
  where
    none_some : {A : Type 0} {x : A} → None ≡ Some x → ⊥
    none_some h = cc
get_map f (y ∷ xs) zero x h = ap (λ z. Some (f z)) (some_same y x h)
get_map f (y ∷ xs) (suc i) x h = get_map f xs i x h

-- ---- the law

module _ (program : Program) (k : ℕ) (p : Procedure) (above : Above) (stand : AllStand Any above.callees above.program.procedures) (unit : IsUnit program) (place : slice_get program.procedures k ≡ Some p) (can : IsWritable program p) (holds : HoldsWhatIsNamed above program p) where
  abbrev count : ℕ
  count = length program.memories

  abbrev memories : List Text
  memories = memory_names above.program

  abbrev names : List Text
  names = procedure_names above.program

  whole : (final : List Callee) × AllStand (Ruled program.fields count) final program.procedures
  whole = ruled_from program.fields count program.procedures [] [] (no_procedures (Ruled program.fields count)) unit.procedures

  here : Stands (Ruled program.fields count) whole.0 k p
  here = whole.1.each k p place

  abbrev ids : Renaming
  ids = counted above.next_id (bound_ids p) same_ids

  numbers : Counts ids above.next_id (bound_ids p)
  numbers = counts above.next_id (bound_ids p) same_ids here.holds.distinct

  finds_fields : FindsFields program.fields
  finds_fields = fields_found program.fields unit.fields

  finds_memories : FindsMemories (memory_name program.memories) count memories
  finds_memories = subst (λ (ms : List MemoryKind). FindsMemories (memory_name program.memories) count (map (λ m. m.name) ms)) (sym holds.memories) (λ m l. memory_found program.memories m (both (all_differ (λ a b. is_text a.name b.name) program.memories) _ unit.memories).0 l)

  meets : MeetsCalls program (names_of p) ids finds_fields count (slice_get here.before) memories names (signatures above) finds_memories holds.to p.body
  unfolding ruled_from whole
  meets i callee called at =
      let low : i < k = let b = got_below here.before i callee at in omega (arith, b, here.short) in
      let world : (program_world program).callees i ≡ Some callee = ap (λ cs. slice_get cs i) (sym (final_is program.fields count program.procedures [] [] (no_procedures (Ruled program.fields count)) unit.procedures)) ∙ sym (here.below i low) ∙ at in
      let q = there program.procedures i (let b = got_below program.procedures k p place in omega (arith, b, low)) in
      let s = whole.1.each i q.0 q.1 in
      let mine : callee ≡ callee_in (world_of s.kinds s.before) q.0 = some_same callee (callee_in (world_of s.kinds s.before) q.0) (sym at ∙ here.below i low ∙ s.here) in
      let h = holds.called i callee called world in
      let name : callee_name program.procedures i ≡ callee.procedure.name = ap (λ o. elim o [ None ↦ unknown i | Some x ↦ x.name ]) q.1 ∙ ap (λ (c : Callee). c.procedure.name) (sym mine) in
      let found : name_number names (callee_name program.procedures i) ≡ Some (holds.to i) =
      ap (name_number names) (name ∙ sym h.named) ∙ procedure_found above.program.procedures (holds.to i) h.other h.there (λ j other g e. h.once j other g (e ∙ h.named)) in
      record {
        number = ap (number_or no_id) found;
        signature = h.signature;
        found = ap (λ o. elim o [ None ↦ None | Some n ↦ slice_get (signatures above) n ]) found ∙ h.here;
        alike = h.alike;
      }

  abbrev d : Definition
  d = tree.definition_of (words_of program p) program.fields p

  is_definition : (template : Option (List ℕ)) → procedure_here above template d ≡ record (re_procedure ids holds.to p) { template = template }
  is_definition template =
      ap (λ fs. definition_of fs memories names (signatures above) above.next_id template d) holds.fields
      ∙ definition_same program p ids finds_fields (slice_get here.before) memories names (signatures above) finds_memories holds.to here.holds above.next_id numbers can meets template

  procedure_fine : (n : ℕ) → procedure_fault above n d ≡ None
  procedure_fine n =
      ap₂ or_else (ap least (unless_fine _ _ (n + 1) (ap not holds.free)))
      (ap (λ fs. definition_fault fs memories names (signatures above) above.next_id n d) holds.fields
      ∙ definition_fine program p ids finds_fields (slice_get here.before) memories names (signatures above) finds_memories holds.to here.holds above.next_id numbers can meets n)

  template_fine : (text : List ℕ) → p.template ≡ Some text → is_template (procedure_here above None d).params (Some (joined (text ∷ []))) ≡ true
  template_fine text e =
      ap₂ (λ q x. is_template q.params (Some x)) (is_definition None) (append-nil text)
      ∙ holes_re ids p.params Plain text ∙ ap (is_template p.params) (sym e) ∙ here.holds.template

  keeps_by : (template : Option (List ℕ)) → p.template ≡ template → (n : ℕ) → item_fault above n (marked template d) ≡ None
  keeps_by None e n = procedure_fine (n + 2)
  keeps_by (Some text) e n = ap₂ or_else (ap least (unless_fine _ _ (n + 2) (template_fine text e))) (procedure_fine (n + 2 + length (text ∷ []) + 2))

  same_by : (template : Option (List ℕ)) → p.template ≡ template → (after_item above (marked template d)).program.procedures ≡ above.program.procedures ++ re_procedure ids holds.to p ∷ []
  same_by None e = ap (λ q. above.program.procedures ++ q ∷ []) (is_definition None ∙ ap (λ t. record (re_procedure ids holds.to p) { template = t }) (sym e))
  same_by (Some text) e =
      ap (λ q. above.program.procedures ++ q ∷ [])
      (ap (λ x. procedure_here above (Some x) d) (append-nil text) ∙ is_definition (Some text) ∙ ap (λ t. record (re_procedure ids holds.to p) { template = t }) (sym e))

  pub stands_for : StandsFor above (written program p) holds.to p
  stands_for = record { keeps = keeps_by p.template refl; ids = ids; same = same_by p.template refl }

pub shown_is_the_same : ShownIsTheSame
shown_is_the_same program k p items unit place can keeps holds =
    stands_for program k p (after_items nothing_above items) (stand_items items nothing_above (no_procedures Any)) unit place can holds
