-- Parameters, assertions and procedures, one after another.
use Rattle.std.proofs.Common.{◌≡◌, ℕ, suc, ◌+◌, ◌≤◌, List, [], ◌∷◌, ◌++◌, Option, None, length, map, refl, ap, sym, ◌∙◌, append_assoc, subst, add-one, arith}
use Rattle.std.proofs.lemmas.List.{append-nil}
use Rattle.exo_tree.specs.Tree as tree
use Rattle.exo_tree.specs.Tree.{ConfigField, Param}
use Rattle.exo_meaning.specs.Units.{Scope, scope_of, with_name, param_sort}
use Rattle.exo_reader.specs.Source.{Parameter, Definition, block_of}
use Rattle.rules_names.specs.declared.fault.Fault.{Fault}
use Rattle.rules_names.specs.Faults.{or_else}
use Rattle.rules_names.specs.ExpressionRules.{width}
use Rattle.rules_names.specs.Resolved.{condition_of}
use Rattle.exo_modes.specs.Aliases.{roots_in}
use Rattle.exo_types.specs.declared.context.Context.{Context}
use Rattle.exo_types.specs.declared.context.ScopeState.{ScopeState}
use Rattle.exo_types.specs.declared.definition.Defined.{Defined}
use Rattle.exo_types.specs.declared.refusal.Refusal.{Refusal}
use Rattle.exo_types.specs.Refusals.{Refuses}
use Rattle.exo_types.specs.StatementRules as statements
use Rattle.exo_types.specs.StatementRules.{block_width}
use Rattle.exo_types.specs.UnitLines.{block_starts, line_at}
use Rattle.exo_types.specs.ItemRules as rules
use Rattle.exo_types.specs.ItemRules.{parameter_width, spaced_params, params_width, asserts_width, asserts_start, body_start, definition_end}
use Rattle.exo_types.specs.Walks as walks
use Rattle.exo_types.specs.Walks.{signatures_in, Falls, HasRoom, IsBlock}
use Rattle.exo_types.specs.Definitions.{HasSpace, IsParam, AreParams, AreAsserts, IsDefined, param_fault, param_of, params_fault, params_of, asserts_fault, definition_fault}
use Rattle.exo_types.proofs.Broken.{refuses_same, refuses_first, refuses_second, none_of_both}

-- there are as many parameters as are written
pub params_count : (fields : List ConfigField) (memories : List (List ℕ)) (id : ℕ) (scope : Scope) (ps : List Parameter) → length (rules.params_from fields memories id scope ps) ≡ length ps
params_count fields memories id scope [] = refl
params_count fields memories id scope (p ∷ ps) = ap suc (params_count fields memories (suc id) _ ps)

-- the ids of their names fall
pub params_fall : (fields : List ConfigField) (memories : List (List ℕ)) (id : ℕ) (scope : Scope) (ps : List Parameter) → Falls id scope → Falls (id + length ps) (scope_of scope (rules.params_from fields memories id scope ps))
params_fall fields memories id scope [] f = let e : id ≡ id + 0 = omega arith in subst (λ k. Falls k scope) e f
params_fall fields memories id scope (p ∷ ps) f =
    let rest = params_fall fields memories (suc id) (rules.with_param fields memories scope (rules.param_of fields memories id scope p)) ps (omega arith, f) in
    let e : suc id + length ps ≡ id + suc (length ps) = omega arith in
    subst (λ k. Falls k (scope_of scope (rules.params_from fields memories id scope (p ∷ ps)))) e rest

-- the last parameter is the innermost
scope_last : (scope : Scope) (ps : List Param) (p : Param) → scope_of scope (ps ++ p ∷ []) ≡ with_name (scope_of scope ps) p.binder (param_sort p.kind)
scope_last scope [] p = refl
scope_last scope (q ∷ ps) p = scope_last (with_name scope q.binder (param_sort q.kind)) ps p

spaced_least : (ps : List Parameter) → spaced_params ps ≤ params_width ps
spaced_least [] = omega arith
spaced_least (p ∷ ps) = omega arith

-- there are at most as many parameters as tokens
params_spaced : (ps : List Parameter) → length ps ≤ spaced_params ps
params_spaced [] = omega arith
params_spaced (p ∷ ps) = omega (arith, params_spaced ps)

pub params_few : (ps : List Parameter) → length ps ≤ params_width ps
params_few ps = omega (arith, params_spaced ps, spaced_least ps)

goes_on : (a b c whole : Option Fault) → or_else a b ≡ whole → a ≡ None → c ≡ b → c ≡ whole
goes_on a b c whole h e k = k ∙ ap (λ o. or_else o b) (sym e) ∙ h

module _ (c : Context) where
  -- the walk has gone from token n, where the whole began, to token k, where the rest begins
  pub record SoFar (first walk : ScopeState) (made : List Param) (n k : ℕ) (whole rest : List Parameter) : Type 0 where
    pub fault : params_fault c walk k rest ≡ params_fault c first n whole
    pub means : made ++ params_of c walk rest ≡ params_of c first whole
    pub width : k + spaced_params rest ≡ n + spaced_params whole
    pub scope : walk.scope ≡ scope_of first.scope made
    pub count : walk.next_id + length rest ≡ first.next_id + length whole
    pub ids : walk.next_id ≤ k
    pub falls : Falls walk.next_id walk.scope
    pub aliases : walk.aliases.items ≡ first.aliases.items
    pub lines : walk.lines ≡ first.lines

  pub so_first : (first : ScopeState) (made : List Param) (n width : ℕ) (whole : List Parameter) → made ≡ [] → HasRoom c first n width → SoFar first first made n n whole whole
  so_first first made n width whole h room = record {
    fault = refl;
    means = ap (λ l. l ++ params_of c first whole) h;
    width = refl;
    scope = ap (scope_of first.scope) (sym h);
    count = refl;
    ids = room.ids;
    falls = room.falls;
    aliases = refl;
    lines = refl;
  }

  -- there is room for the parameter at hand
  pub room_for : (first walk : ScopeState) (made : List Param) (n k : ℕ) (whole : List Parameter) (p : Parameter) (more : List Parameter) → HasRoom c first n (params_width whole) → SoFar first walk made n k whole (p ∷ more) → HasRoom c walk k (parameter_width p)
  room_for first walk made n k whole p more room f = record {
    ids = f.ids;
    tokens = let w = spaced_least whole in omega (arith, f.width, room.tokens);
    few = room.few;
    memories = room.memories;
    procedures = room.procedures;
    falls = f.falls;
  }

  -- one more parameter
  pub so_on : (first walk after : ScopeState) (made new : List Param) (n k m : ℕ) (whole : List Parameter) (p : Parameter) (more : List Parameter) (t : Param) → SoFar first walk made n k whole (p ∷ more) → IsParam c walk after t k p → m ≡ k + parameter_width p + 1 → new ≡ made ++ t ∷ [] → SoFar first after new n m whole more
  so_on first walk after made new n k m whole p more t f step end' pushed =
      let fields = c.fields.now in
      let memories = c.memories.now in
      let id : after.next_id ≡ suc walk.next_id = step.ids ∙ add-one walk.next_id in
      let scope : after.scope ≡ rules.with_param fields memories walk.scope (param_of c walk p) = step.scope ∙ ap (rules.with_param fields memories walk.scope) step.means in
      record {
        fault = goes_on _ _ _ _ f.fault step.keeps (λ i. rules.params_fault fields memories (id i) (scope i) (end' i) more);
        means =
            (λ i. pushed i ++ rules.params_from fields memories (id i) (scope i) more)
            ∙ append_assoc made (t ∷ []) (rules.params_from fields memories (suc walk.next_id) (rules.with_param fields memories walk.scope (param_of c walk p)) more)
            ∙ ap (λ u. made ++ (u ∷ rules.params_from fields memories (suc walk.next_id) (rules.with_param fields memories walk.scope (param_of c walk p)) more)) step.means
            ∙ f.means;
        width = omega (arith, f.width, end');
        scope = step.scope ∙ ap (λ s. rules.with_param fields memories s t) f.scope ∙ sym (scope_last first.scope made t) ∙ ap (scope_of first.scope) (sym pushed);
        count = omega (arith, f.count, step.ids);
        ids = omega (arith, f.ids, step.ids, end');
        falls = subst (λ (x : ℕ × Scope). Falls x.0 x.1) (λ i. (sym id i, sym scope i)) (omega arith, f.falls);
        aliases = step.aliases ∙ f.aliases;
        lines = step.lines ∙ f.lines;
      }

  -- no parameter is left
  pub all_made : (first walk after : ScopeState) (made : List Param) (n k : ℕ) (whole rest : List Parameter) → rest ≡ [] → SoFar first walk made n k whole rest → after.scope ≡ walk.scope → after.aliases.items ≡ walk.aliases.items → after.next_id ≡ walk.next_id → after.lines ≡ walk.lines → AreParams c first after made n whole
  all_made first walk after made n k whole rest none f scope aliases ids lines = record {
    keeps = sym f.fault ∙ ap (params_fault c walk k) none;
    means = sym (append-nil made) ∙ ap (λ r. made ++ params_of c walk r) (sym none) ∙ f.means;
    scope = scope ∙ f.scope;
    ids = ids ∙ omega (arith, f.count, ap length none);
    aliases = aliases ∙ f.aliases;
    lines = lines ∙ f.lines;
  }

  -- the parameter at hand breaks a rule
  pub refused_at : (first walk : ScopeState) (made : List Param) (n k : ℕ) (whole : List Parameter) (p : Parameter) (more : List Parameter) (e : Refusal) → SoFar first walk made n k whole (p ∷ more) → Refuses e (param_fault c walk k p) → Refuses e (params_fault c first n whole)
  refused_at first walk made n k whole p more e f r = refuses_same e _ _ f.fault (refuses_first e _ _ r)

  -- ---- procedures

  abbrev params_in : ℕ → Definition → List Param
  params_in id d = rules.params_from c.fields.now c.memories.now id [] d.params

  abbrev scope_in : ℕ → Definition → Scope
  scope_in id d = scope_of [] (params_in id d)

  -- the walk that a procedure begins with
  pub record IsFirst (walk : ScopeState) (id : ℕ) : Type 0 where
    pub scope : walk.scope ≡ []
    pub aliases : walk.aliases.items ≡ []
    pub ids : walk.next_id ≡ id
    pub lines : walk.lines ≡ []

  -- the walk behind the parameters
  pub record IsBehind (walk : ScopeState) (made : List Param) (id n : ℕ) (d : Definition) : Type 0 where
    pub keeps : rules.params_fault c.fields.now c.memories.now id [] (n + 3) d.params ≡ None
    pub means : made ≡ params_in id d
    pub scope : walk.scope ≡ scope_in id d
    pub ids : walk.next_id ≡ id + length (params_in id d)
    pub roots : roots_in walk.aliases.items ≡ (λ x. x)
    pub lines : walk.lines ≡ []

  pub behind : (first walk : ScopeState) (made : List Param) (id n : ℕ) (d : Definition) → IsFirst first id → AreParams c first walk made (n + 3) d.params → IsBehind walk made id n d
  behind first walk made id n d f a =
      let same : made ≡ params_in id d = a.means ∙ (λ i. rules.params_from c.fields.now c.memories.now (f.ids i) (f.scope i) d.params) in
      record {
        keeps = (λ i. rules.params_fault c.fields.now c.memories.now (sym f.ids i) (sym f.scope i) (n + 3) d.params) ∙ a.keeps;
        means = same;
        scope = a.scope ∙ (λ i. scope_of (f.scope i) (same i));
        ids = omega (arith, a.ids, f.ids, params_count c.fields.now c.memories.now id [] d.params);
        roots = ap roots_in (a.aliases ∙ f.aliases);
        lines = a.lines ∙ f.lines;
      }

  pub refused_params : (first : ScopeState) (id n : ℕ) (d : Definition) (e : Refusal) → IsFirst first id → Refuses e (params_fault c first (n + 3) d.params) → Refuses e (definition_fault c id n d)
  refused_params first id n d e f r = refuses_first e _ _ (refuses_same e _ _ (λ i. rules.params_fault c.fields.now c.memories.now (f.ids i) (f.scope i) (n + 3) d.params) r)

  pub refused_asserts : (walk : ScopeState) (made : List Param) (id n k : ℕ) (d : Definition) (e : Refusal) → IsBehind walk made id n d → k ≡ asserts_start n d → Refuses e (asserts_fault c walk.scope k d.asserts) → Refuses e (definition_fault c id n d)
  refused_asserts walk made id n k d e b h r = refuses_second e _ _ b.keeps (refuses_first e _ _ (refuses_same e _ _ (λ i. asserts_fault c (b.scope i) (h i) d.asserts) r))

  same_body : (walk : ScopeState) (made : List Param) (id n k : ℕ) (d : Definition) → IsBehind walk made id n d → k ≡ body_start n d → walks.block_fault c walk k (block_of d.body) ≡ statements.block_fault c.fields.now c.memories.now c.procedures.now (signatures_in c) (id + length (params_in id d)) (scope_in id d) (λ x. x) (body_start n d) (block_of d.body)
  same_body walk made id n k d b h = λ i. statements.block_fault c.fields.now c.memories.now c.procedures.now (signatures_in c) (b.ids i) (b.scope i) (b.roots i) (h i) (block_of d.body)

  asserts_kept : (walk : ScopeState) (made : List Param) (id n k : ℕ) (d : Definition) (A : List tree.Condition) → IsBehind walk made id n d → k ≡ asserts_start n d → AreAsserts c walk.scope k A d.asserts → asserts_fault c (scope_in id d) (asserts_start n d) d.asserts ≡ None
  asserts_kept walk made id n k d A b h a = (λ i. asserts_fault c (sym b.scope i) (sym h i) d.asserts) ∙ a.keeps

  pub refused_body : (walk : ScopeState) (made : List Param) (id n j k : ℕ) (d : Definition) (A : List tree.Condition) (e : Refusal) → IsBehind walk made id n d → j ≡ asserts_start n d → AreAsserts c walk.scope j A d.asserts → k ≡ body_start n d → Refuses e (walks.block_fault c walk k (block_of d.body)) → Refuses e (definition_fault c id n d)
  refused_body walk made id n j k d A e b g a h r =
      refuses_second e _ _ b.keeps (refuses_second e _ _ (asserts_kept walk made id n j d A b g a) (refuses_same e _ _ (same_body walk made id n k d b h) r))

  pub room_behind : (walk : ScopeState) (made : List Param) (id n k : ℕ) (d : Definition) → HasSpace c id n d → IsBehind walk made id n d → k ≡ body_start n d → HasRoom c walk k (block_width (block_of d.body))
  room_behind walk made id n k d room b h =
      let few = params_few d.params in
      let count = params_count c.fields.now c.memories.now id [] d.params in
      record {
        ids = omega (arith, room.ids, b.ids, h, few, count);
        tokens = omega (arith, room.tokens, h);
        few = room.few;
        memories = room.memories;
        procedures = room.procedures;
        falls = subst (λ (x : ℕ × Scope). Falls x.0 x.1) (λ i. (sym (b.ids ∙ ap (λ l. id + l) count) i, sym b.scope i)) (params_fall c.fields.now c.memories.now id [] d.params tt);
      }

  pub defined : (walk after : ScopeState) (id n j k : ℕ) (template : Option (List ℕ)) (d : Definition) (made : Defined) → IsBehind walk made.procedure.params id n d → j ≡ asserts_start n d → AreAsserts c walk.scope j made.procedure.asserts d.asserts → k ≡ body_start n d → IsBlock c walk after made.procedure.body k (block_of d.body) → made.procedure.name ≡ d.name → made.procedure.template ≡ template → made.lines ≡ after.lines → made.next_id ≡ after.next_id → made.end ≡ definition_end n d → IsDefined c id template n made d
  defined walk after id n j k template d made b g a h body name temp lines next end' =
      record {
        keeps = none_of_both _ _ b.keeps (none_of_both _ _ (asserts_kept walk made.procedure.params id n j d made.procedure.asserts b g a) (sym (same_body walk made.procedure.params id n k d b h) ∙ body.keeps));
        procedure = λ i. record {
          name = name i;
          params = b.means i;
          asserts = (a.means ∙ (λ l. map (condition_of c.fields.now (b.scope l)) d.asserts)) i;
          body = (body.means ∙ (λ l. statements.block_of c.fields.now c.memories.now c.procedures.now (signatures_in c) (b.ids l) (b.scope l) (block_of d.body))) i;
          template = temp i;
        };
        lines = lines ∙ body.lines ∙ (λ i. b.lines i ++ map (line_at c.places.now) (block_starts (h i) (block_of d.body)));
        ids = next ∙ omega (arith, body.ids, b.ids, params_count c.fields.now c.memories.now id [] d.params);
        end = end';
      }
