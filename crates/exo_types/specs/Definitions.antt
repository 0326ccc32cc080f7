-- What is made of parameters and procedures, in a walk through their text. n is the number of the first token.
use Rattle.std.specs.Prelude.{◌≡◌, ℕ, ◌+◌, ◌<◌, ◌≤◌, List, [], ◌∷◌, ◌++◌, length, map, Option, None}
use Rattle.exo_tree.specs.Tree as tree
use Rattle.exo_tree.specs.PlainProcedure as plain
use Rattle.exo_meaning.specs.Units.{Scope, scope_of, with_both}
use Rattle.text_expressions.specs.Expression.{Tree}
use Rattle.exo_reader.specs.Source.{Parameter, Definition, block_of}
use Rattle.rules_names.specs.declared.fault.Fault.{Fault}
use Rattle.rules_names.specs.Faults.{least}
use Rattle.rules_names.specs.ExpressionRules.{condition_faults}
use Rattle.rules_names.specs.Resolved.{condition_of}
use Rattle.exo_types.specs.declared.context.Context.{Context}
use Rattle.exo_types.specs.declared.context.ScopeState.{ScopeState}
use Rattle.exo_types.specs.declared.definition.Defined.{Defined}
use Rattle.exo_types.specs.TypeRules.{binder_faults}
use Rattle.exo_types.specs.StatementRules.{bound_in}
use Rattle.exo_types.specs.ItemRules as rules
use Rattle.exo_types.specs.ItemRules.{body_start, definition_end, parameter_width}
use Rattle.exo_types.specs.UnitLines.{block_starts, line_at}
use Rattle.exo_types.specs.Walks.{signatures_in}

-- there is room for a procedure: each binder takes a token of its own, and each token has a place
pub record HasSpace (c : Context) (id n : ℕ) (d : Definition) : Type 0 where
  pub ids : id ≤ n
  pub tokens : definition_end n d < length c.places.now
  pub few : length c.places.now ≤ 0x100001
  pub memories : length c.memories.now ≤ 4294967295
  pub procedures : length c.procedures.now ≤ 4294967295

module _ (c : Context) where
  -- ---- what the rules say

  abbrev pub param_faults : ScopeState → ℕ → Parameter → List Fault
  param_faults w n p = binder_faults w.scope n p.name ++ rules.form_faults c.fields.now c.memories.now w.scope (n + 2) p.form p.memory

  abbrev pub param_fault : ScopeState → ℕ → Parameter → Option Fault
  param_fault w n p = least (param_faults w n p)

  abbrev pub param_of : ScopeState → Parameter → tree.Param
  param_of w p = rules.param_of c.fields.now c.memories.now w.next_id w.scope p

  abbrev pub params_fault : ScopeState → ℕ → List Parameter → Option Fault
  params_fault w n ps = rules.params_fault c.fields.now c.memories.now w.next_id w.scope n ps

  abbrev pub params_of : ScopeState → List Parameter → List tree.Param
  params_of w ps = rules.params_from c.fields.now c.memories.now w.next_id w.scope ps

  -- an assertion, and several
  abbrev pub assert_fault : Scope → ℕ → Tree → Option Fault
  assert_fault scope n e = least (condition_faults c.fields.now with_both scope (n + 1) e)

  abbrev pub asserts_fault : Scope → ℕ → List Tree → Option Fault
  asserts_fault scope n es = rules.assertions_fault c.fields.now c.memories.now scope n es

  abbrev pub definition_fault : ℕ → ℕ → Definition → Option Fault
  definition_fault id n d = rules.definition_fault c.fields.now c.memories.now c.procedures.now (signatures_in c) id n d

  abbrev pub definition_of : ℕ → Option (List ℕ) → Definition → tree.Procedure
  definition_of id template d = rules.definition_of c.fields.now c.memories.now c.procedures.now (signatures_in c) id template d

  -- ---- what a walk makes

  -- a parameter breaks no rule, and this is its tree; behind it its name is in scope
  pub record IsParam (before after : ScopeState) (made : tree.Param) (n : ℕ) (p : Parameter) : Type 0 where
    pub keeps : param_fault before n p ≡ None
    pub means : made ≡ param_of before p
    pub scope : after.scope ≡ rules.with_param c.fields.now c.memories.now before.scope made
    pub ids : after.next_id ≡ before.next_id + 1
    pub aliases : after.aliases.items ≡ before.aliases.items
    pub lines : after.lines ≡ before.lines

  -- it is put last, and the token behind it has that number
  pub record IsPut (before after : ScopeState) (old new : List tree.Param) (n end : ℕ) (p : Parameter) : Type 0 where
    pub made : tree.Param
    pub one : IsParam before after made n p
    pub last : new ≡ old ++ made ∷ []
    pub ends : end ≡ n + parameter_width p

  -- the same of several, one after another
  pub record AreParams (before after : ScopeState) (made : List tree.Param) (n : ℕ) (ps : List Parameter) : Type 0 where
    pub keeps : params_fault before n ps ≡ None
    pub means : made ≡ params_of before ps
    pub scope : after.scope ≡ scope_of before.scope made
    pub ids : after.next_id ≡ before.next_id + length ps
    pub aliases : after.aliases.items ≡ before.aliases.items
    pub lines : after.lines ≡ before.lines

  -- an assertion breaks no rule, and its condition is put last
  pub record IsAssert (scope : Scope) (n : ℕ) (old new : List tree.Condition) (e : Tree) : Type 0 where
    pub keeps : assert_fault scope n e ≡ None
    pub means : new ≡ old ++ condition_of c.fields.now scope e ∷ []

  pub record AreAsserts (scope : Scope) (n : ℕ) (made : List tree.Condition) (es : List Tree) : Type 0 where
    pub keeps : asserts_fault scope n es ≡ None
    pub means : made ≡ map (condition_of c.fields.now scope) es

  -- a procedure whose `def` is token n breaks no rule, and this is its tree, with the lines of its statements
  pub record IsDefined (id : ℕ) (template : Option (List ℕ)) (n : ℕ) (made : Defined) (d : Definition) : Type 0 where
    pub keeps : definition_fault id n d ≡ None
    pub procedure : plain.procedure made.procedure ≡ definition_of id template d
    pub lines : made.lines ≡ map (line_at c.places.now) (block_starts (body_start n d) (block_of d.body))
    pub ids : made.next_id ≡ id + length d.params + bound_in (block_of d.body)
    pub end : made.end ≡ definition_end n d
