-- A written procedure with its names resolved is itself, under other ids, and breaks no rule.
use Rattle.std.proofs.Common.{◌≡◌, ℕ, suc, ◌+◌, nat_lt, true, false, ◌&&◌, List, [], ◌∷◌, length, map, Option, None, refl, sym, ap, ap₂, ◌∙◌}
use Rattle.std.specs.List.{list_all}
use Rattle.std.proofs.lemmas.List.{length-map}
use Rattle.exo_tree.specs.Tree.{Kind, Size, Index, Truth, Stride, ConfigField, Condition, Param, ParamKind, ControlParam, TensorParam, WindowParam, Procedure, Program}
use Rattle.exo_tree.specs.Named.{cell_word}
use Rattle.exo_meaning.specs.Calls.{Callee}
use Rattle.exo_meaning.specs.Binders.{binders}
use Rattle.exo_meaning.specs.Units.{Scope, BufferName, with_name, scope_of, param_sort, plainly, with_both, is_new, is_rank, are_controls, is_condition, is_param_kind, are_params, IsProcedure, field_kind, bound_ids}
use Rattle.exo_meaning.specs.Renaming.{Renaming, re_condition, re_binder}
use Rattle.exo_reader.specs.Source as source
use Rattle.rules_names.specs.Faults.{least, or_else}
use Rattle.rules_names.specs.Resolved.{condition_of}
use Rattle.text_show.specs.Layout.{Text}
use Rattle.text_show.specs.Names.{names_of}
use Rattle.text_show.specs.Words.{Words, words_of, memory_name}
use Rattle.exo_types.specs.TypeRules.{binder}
use Rattle.exo_types.specs.ArgumentRules.{Signature}
use Rattle.exo_types.specs.StatementRules.{block_of, block_fault}
use Rattle.exo_types.specs.ItemRules.{scalar_faults, form_faults, scalar_of, form_of, param_of, with_param, params_from, params_fault, parameter_width, asserts_start, body_start, assertions_fault, definition_of, definition_fault}
use Rattle.exo_types_laws.specs.Shown.Again.{re_kind, re_param, re_procedure}
use Rattle.exo_types_laws.specs.Shown.Written as written
use Rattle.exo_types_laws.specs.Shown.Written.{control_tree, condition_tree}
use Rattle.exo_types_laws.specs.Shown.Writable as writable
use Rattle.exo_types_laws.proofs.OfShown.Scoped.{three, Finds, re_scope, both, finds_more}
use Rattle.exo_types_laws.proofs.OfShown.Scoped.{finds_nothing}
use Rattle.exo_types_laws.proofs.OfShown.Resolved.{FindsFields, joined_fine, controls_same}
use Rattle.exo_types_laws.proofs.OfShown.Resolved.{controls_fine}
use Rattle.exo_types_laws.proofs.OfShown.Judged.{condition_same, condition_fine}
use Rattle.exo_types_laws.proofs.OfShown.Called.{ParamsCalled, AreCalled, called}
use Rattle.exo_types_laws.proofs.OfShown.Numbered.{Counts, split_left, split_right}
use Rattle.exo_types_laws.proofs.OfShown.Inside.{FindsMemories, MeetsCalls, cell_same, cell_alone}
use Rattle.exo_types_laws.proofs.OfShown.Inside.{cell_fine, binder_fine, memory_same, memory_fine}
use Rattle.exo_types_laws.proofs.OfShown.Inside.{controls_length, block_same}
use Rattle.exo_types_laws.proofs.OfShown.Unbroken.{block_fine}

-- ---- parameters

sort_kept : (r : Renaming) (kind : ParamKind) → param_sort (re_kind r kind) ≡ param_sort kind
sort_kept r (ControlParam kind) = refl
sort_kept r (TensorParam cell dims memory) = ap (λ n. BufferName cell n true) (controls_length r dims)
sort_kept r (WindowParam cell dims memory) = ap (λ n. BufferName cell n false) (controls_length r dims)

param_scope : (r : Renaming) (scope : Scope) (p : Param) → with_param [] [] (re_scope r scope) (re_param r p) ≡ re_scope r (with_name scope p.binder (param_sort p.kind))
param_scope r scope p = ap (λ s. with_name (re_scope r scope) (re_binder r p.binder) s) (sort_kept r p.kind)

params_scope : (r : Renaming) (scope : Scope) (ps : List Param) → scope_of (re_scope r scope) (map (re_param r) ps) ≡ re_scope r (scope_of scope ps)
params_scope r scope [] = refl
params_scope r scope (p ∷ ps) = ap (λ s. scope_of s (map (re_param r) ps)) (param_scope r scope p) ∙ params_scope r (with_name scope p.binder (param_sort p.kind)) ps

abbrev ids_of : List Param → List ℕ
ids_of ps = map (λ q. q.binder.id) ps

module _ (w : Words) (fields : List ConfigField) (r : Renaming) (finds_fields : FindsFields fields) (count : ℕ) (memories : List Text) (finds_memories : FindsMemories w.memory count memories) where
  abbrev kinds : ℕ → Option Kind
  kinds = field_kind fields

  form_same : (kind : ParamKind) (scope : Scope) → Finds w r scope → is_param_kind kinds count scope kind ≡ true → form_of fields memories (re_scope r scope) (written.form_of w fields kind) (written.param_memory w fields kind) ≡ re_kind r kind
  form_same (ControlParam Size) scope finds h = refl
  form_same (ControlParam Index) scope finds h = refl
  form_same (ControlParam Truth) scope finds h = refl
  form_same (ControlParam Stride) scope finds h = refl
  form_same (TensorParam cell [] memory) scope finds h =
      ap (λ o. scalar_of fields memories o (source.named (cell_word cell)) (written.memory_of w fields memory)) (cell_alone cell)
      ∙ ap₂ (λ t m. TensorParam t [] m) (cell_same cell) (memory_same w fields count memories memory finds_memories h)
  form_same (TensorParam cell (d ∷ ds) memory) scope finds h =
      let s = both (are_controls kinds plainly scope (d ∷ ds)) _ h in
      let t = both (is_rank (length (d ∷ ds))) _ s.1 in
      three TensorParam (cell_same cell) (controls_same w fields r scope finds finds_fields plainly (d ∷ ds) s.0) (memory_same w fields count memories memory finds_memories t.1)
  form_same (WindowParam cell dims memory) scope finds h =
      let s = both (are_controls kinds plainly scope dims) _ h in
      let t = both (is_rank (length dims) && nat_lt 0 (length dims)) _ s.1 in
      three WindowParam (cell_same cell) (controls_same w fields r scope finds finds_fields plainly dims s.0) (memory_same w fields count memories memory finds_memories t.1)

  form_fine : (kind : ParamKind) (scope : Scope) → Finds w r scope → is_param_kind kinds count scope kind ≡ true → (n : ℕ) → form_faults fields memories (re_scope r scope) n (written.form_of w fields kind) (written.param_memory w fields kind) ≡ []
  form_fine (ControlParam Size) scope finds h n = refl
  form_fine (ControlParam Index) scope finds h n = refl
  form_fine (ControlParam Truth) scope finds h n = refl
  form_fine (ControlParam Stride) scope finds h n = refl
  form_fine (TensorParam cell [] memory) scope finds h n =
      ap (λ o. scalar_faults fields memories o (source.named (cell_word cell)) n (written.memory_of w fields memory)) (cell_alone cell)
      ∙ joined_fine _ _ (cell_fine cell n) (memory_fine w fields count memories memory _ finds_memories h)
  form_fine (TensorParam cell (d ∷ ds) memory) scope finds h n =
      let s = both (are_controls kinds plainly scope (d ∷ ds)) _ h in
      let t = both (is_rank (length (d ∷ ds))) _ s.1 in
      joined_fine _ _ (cell_fine cell n) (joined_fine _ _ (controls_fine w fields r scope finds finds_fields plainly (d ∷ ds) s.0 (n + 2)) (memory_fine w fields count memories memory _ finds_memories t.1))
  form_fine (WindowParam cell dims memory) scope finds h n =
      let s = both (are_controls kinds plainly scope dims) _ h in
      let t = both (is_rank (length dims) && nat_lt 0 (length dims)) _ s.1 in
      joined_fine _ _ (cell_fine cell (n + 1)) (joined_fine _ _ (controls_fine w fields r scope finds finds_fields plainly dims s.0 (n + 4)) (memory_fine w fields count memories memory _ finds_memories t.1))

  params_same : (ps : List Param) (scope : Scope) → Finds w r scope → (id : ℕ) → Counts r id (ids_of ps) → ParamsCalled w.name ps → are_params kinds count scope ps ≡ true → params_from fields memories id (re_scope r scope) (map (written.parameter_of w fields) ps) ≡ map (re_param r) ps
  params_same [] scope finds id numbers called h = refl
  params_same (p ∷ ps) scope finds id numbers called h =
      let s = both (is_new scope p.binder) _ h in
      let t = both (is_param_kind kinds count scope p.kind) _ s.1 in
      let here : param_of fields memories id (re_scope r scope) (written.parameter_of w fields p) ≡ re_param r p = ap₂ (λ m k. record { binder = binder m p.binder.name; kind = k }) (sym numbers.0) (form_same p.kind scope finds t.0) in
      ap (λ q. q ∷ params_from fields memories (suc id) (with_param fields memories (re_scope r scope) q) (map (written.parameter_of w fields) ps)) here
      ∙ ap (λ sc. re_param r p ∷ params_from fields memories (suc id) sc (map (written.parameter_of w fields) ps)) (param_scope r scope p)
      ∙ ap (λ l. re_param r p ∷ l) (params_same ps (with_name scope p.binder (param_sort p.kind)) (finds_more w r scope p.binder (param_sort p.kind) finds s.0 called.0) (suc id) numbers.1 called.1 t.1)

  params_fine : (ps : List Param) (scope : Scope) → Finds w r scope → (id : ℕ) → Counts r id (ids_of ps) → ParamsCalled w.name ps → are_params kinds count scope ps ≡ true → (n : ℕ) → params_fault fields memories id (re_scope r scope) n (map (written.parameter_of w fields) ps) ≡ None
  params_fine [] scope finds id numbers called h n = refl
  params_fine (p ∷ ps) scope finds id numbers called h n =
      let s = both (is_new scope p.binder) _ h in
      let t = both (is_param_kind kinds count scope p.kind) _ s.1 in
      let here : param_of fields memories id (re_scope r scope) (written.parameter_of w fields p) ≡ re_param r p = ap₂ (λ m k. record { binder = binder m p.binder.name; kind = k }) (sym numbers.0) (form_same p.kind scope finds t.0) in
      let m : ℕ = n + parameter_width (written.parameter_of w fields p) + 1 in
      ap₂ or_else
      (ap least (joined_fine _ _ (binder_fine r scope p.binder n s.0) (form_fine p.kind scope finds t.0 (n + 2))))
      (ap (λ q. params_fault fields memories (suc id) (with_param fields memories (re_scope r scope) q) m (map (written.parameter_of w fields) ps)) here
      ∙ ap (λ sc. params_fault fields memories (suc id) sc m (map (written.parameter_of w fields) ps)) (param_scope r scope p)
      ∙ params_fine ps (with_name scope p.binder (param_sort p.kind)) (finds_more w r scope p.binder (param_sort p.kind) finds s.0 called.0) (suc id) numbers.1 called.1 t.1 m)

  params_find : (ps : List Param) (scope : Scope) → Finds w r scope → ParamsCalled w.name ps → are_params kinds count scope ps ≡ true → Finds w r (scope_of scope ps)
  params_find [] scope finds called h = finds
  params_find (p ∷ ps) scope finds called h =
      let s = both (is_new scope p.binder) _ h in
      let t = both (is_param_kind kinds count scope p.kind) _ s.1 in
      params_find ps (with_name scope p.binder (param_sort p.kind)) (finds_more w r scope p.binder (param_sort p.kind) finds s.0 called.0) called.1 t.1

  -- ---- assertions

  asserts_same : (cs : List Condition) (scope : Scope) → Finds w r scope → list_all (is_condition kinds with_both scope) cs ≡ true → map (condition_of fields (re_scope r scope)) (map (condition_tree w fields) cs) ≡ map (re_condition r) cs
  asserts_same [] scope finds h = refl
  asserts_same (c ∷ cs) scope finds h =
      let s = both (is_condition kinds with_both scope c) _ h in
      ap₂ ◌∷◌ (condition_same w fields r scope finds finds_fields with_both c s.0) (asserts_same cs scope finds s.1)

  asserts_fine : (cs : List Condition) (scope : Scope) → Finds w r scope → list_all (is_condition kinds with_both scope) cs ≡ true → (n : ℕ) → assertions_fault fields memories (re_scope r scope) n (map (condition_tree w fields) cs) ≡ None
  asserts_fine [] scope finds h n = refl
  asserts_fine (c ∷ cs) scope finds h n =
      let s = both (is_condition kinds with_both scope c) _ h in
      ap₂ or_else (ap least (condition_fine w fields r scope finds finds_fields with_both c s.0 (n + 1))) (asserts_fine cs scope finds s.1 _)

-- ---- procedures

block_again : (b : source.Block) → source.block_of (source.statements b) ≡ b
block_again source.end = refl
block_again (source.next a b) = ap (source.next a) (block_again b)

module _ (program : Program) (p : Procedure) (r : Renaming) (finds_fields : FindsFields program.fields) (callees : ℕ → Option Callee) (memories above : List Text) (signatures : List Signature) (finds_memories : FindsMemories (memory_name program.memories) (length program.memories) memories) (to : ℕ → ℕ) (rules : IsProcedure (field_kind program.fields) (length program.memories) callees p) (id : ℕ) (numbers : Counts r id (bound_ids p)) (can : writable.IsWritable program p) (meets : MeetsCalls program (names_of p) r finds_fields (length program.memories) callees memories above signatures finds_memories to p.body) where
  abbrev w : Words
  w = words_of program p

  abbrev fields : List ConfigField
  fields = program.fields

  abbrev count : ℕ
  count = length program.memories

  named : ParamsCalled (names_of p) p.params × AreCalled (names_of p) p.body
  named = called p rules.distinct

  param_numbers : Counts r id (ids_of p.params)
  param_numbers = split_left r id (ids_of p.params) (binders p.body) numbers

  body_numbers : Counts r (id + length (ids_of p.params)) (binders p.body)
  body_numbers = split_right r id (ids_of p.params) (binders p.body) numbers

  finds : Finds w r (scope_of [] p.params)
  finds = params_find w fields r finds_fields count memories finds_memories p.params [] (finds_nothing w r) named.0 rules.params

  same_params : params_from fields memories id [] (map (written.parameter_of w fields) p.params) ≡ map (re_param r) p.params
  same_params = params_same w fields r finds_fields count memories finds_memories p.params [] (finds_nothing w r) id param_numbers named.0 rules.params

  body_id : id + length (map (re_param r) p.params) ≡ id + length (ids_of p.params)
  body_id = ap (λ k. id + k) (length-map p.params (re_param r) ∙ sym (length-map p.params (λ q. q.binder.id)))

  same_scope : scope_of [] (map (re_param r) p.params) ≡ re_scope r (scope_of [] p.params)
  same_scope = params_scope r [] p.params

  abbrev body_tree : source.Block
  body_tree = written.block_of w fields p.body

  pub definition_same : (template : Option (List ℕ)) → definition_of fields memories above signatures id template (written.definition_of w fields p) ≡ record (re_procedure r to p) { template = template }
  definition_same template =
      ap (λ params. record { name = p.name; params = params; asserts = map (condition_of fields (scope_of [] params)) (map (condition_tree w fields) p.asserts); body = block_of fields memories above signatures (id + length params) (scope_of [] params) (source.block_of (source.statements body_tree)); template = template }) same_params
      ∙ ap₂ (λ sc k. record { name = p.name; params = map (re_param r) p.params; asserts = map (condition_of fields sc) (map (condition_tree w fields) p.asserts); body = block_of fields memories above signatures k sc (source.block_of (source.statements body_tree)); template = template }) same_scope body_id
      ∙ ap₂ (λ cs b. record { name = p.name; params = map (re_param r) p.params; asserts = cs; body = b; template = template })
      (asserts_same w fields r finds_fields count memories finds_memories p.asserts (scope_of [] p.params) finds rules.asserts)
      (ap (λ b. block_of fields memories above signatures (id + length (ids_of p.params)) (re_scope r (scope_of [] p.params)) b) (block_again body_tree)
      ∙ block_same program (names_of p) r finds_fields count callees memories above signatures finds_memories to p.body (scope_of [] p.params) finds (λ x. x) (id + length (ids_of p.params)) body_numbers named.1 can.body meets rules.body)

  pub definition_fine : (n : ℕ) → definition_fault fields memories above signatures id n (written.definition_of w fields p) ≡ None
  definition_fine n =
      let d = written.definition_of w fields p in
      ap₂ or_else (params_fine w fields r finds_fields count memories finds_memories p.params [] (finds_nothing w r) id param_numbers named.0 rules.params (n + 3))
      (ap (λ params. or_else (assertions_fault fields memories (scope_of [] params) (asserts_start n d) d.asserts) (block_fault fields memories above signatures (id + length params) (scope_of [] params) (λ x. x) (body_start n d) (source.block_of d.body))) same_params
      ∙ ap₂ (λ sc k. or_else (assertions_fault fields memories sc (asserts_start n d) d.asserts) (block_fault fields memories above signatures k sc (λ x. x) (body_start n d) (source.block_of d.body))) same_scope body_id
      ∙ ap₂ or_else
      (asserts_fine w fields r finds_fields count memories finds_memories p.asserts (scope_of [] p.params) finds rules.asserts (asserts_start n d))
      (ap (λ b. block_fault fields memories above signatures (id + length (ids_of p.params)) (re_scope r (scope_of [] p.params)) (λ x. x) (body_start n d) b) (block_again body_tree)
      ∙ block_fine program (names_of p) r finds_fields count callees memories above signatures finds_memories to p.body (scope_of [] p.params) finds (λ x. x) (λ x. x) (λ x. refl) (id + length (ids_of p.params)) body_numbers named.1 can.body meets rules.body (body_start n d)))
