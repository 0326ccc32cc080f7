-- What a string of a schedule stands for at a statement is what its names stand for in the meaning.
use Rattle.std.specs.Prelude.{◌≡◌, ℕ, Bool, true, if◌then◌else◌, List, map, Some, None, slice_get}
use Rattle.exo_tree.specs.Tree.{Binder, Block, end, next, ConfigField, Procedure, Program}
use Rattle.exo_tree.specs.Places.{Path, Opened, opened}
use Rattle.exo_meaning.specs.Units.{Scope, Reads, scope_after, is_control, is_condition, field_kind}
use Rattle.exo_meaning.specs.Units.{IsUnit}
use Rattle.meaning_laws.specs.Sorted.{scope_there}
use Rattle.text_expressions.specs.Expression.{Tree}
use Rattle.rules_names.specs.ExpressionRules.{control_faults, condition_faults}
use Rattle.rules_names.specs.Faults.{least}
use Rattle.rules_names.specs.Laws.{fit}
use Rattle.rules_names.specs.Names.{id_in}
use Rattle.rules_names.specs.Resolved.{control_of, condition_of}
use Rattle.rules_names.specs.Scopes.PlaceScope.{scope_at}

-- the names without their sorts, the innermost first
abbrev pub binders_of : Scope → List Binder
binders_of scope = map (λ n. n.binder) scope

-- behind all statements of a block
abbrev pub scope_past : Block → Scope → Scope
scope_past end scope = scope
scope_past (next a b) scope = scope_past b (scope_after a scope)

-- the names in scope at what is opened at a place, or behind it
abbrev pub scope_beside : Procedure → Opened → Bool → Scope
scope_beside p o after =
    if after then scope_past o.piece (scope_there p (Some o)) else scope_there p (Some o)

-- a statement stands at that path of that procedure
pub record StandsAt (u : Program) (k : ℕ) (path : Path) (p : Procedure) (o : Opened) : Type 0 where
  pub procedure : slice_get u.procedures k ≡ Some p
  pub statement : opened 1 path p.body ≡ Some o

-- the names in scope there, before or behind the statement, are those of the meaning
abbrev pub SameNamesAtPlace : Type 0
SameNamesAtPlace =
    (u : Program) (k : ℕ) (path : Path) (p : Procedure) (o : Opened) (after : Bool)
    → StandsAt u k path p o
    → binders_of (scope_at u k path after) ≡ binders_of (scope_beside p o after)

-- so a name stands for the same id
abbrev pub SameIdsAtPlace : Type 0
SameIdsAtPlace =
    (u : Program) (k : ℕ) (path : Path) (p : Procedure) (o : Opened) (after : Bool) (x : List ℕ)
    → StandsAt u k path p o
    → id_in (scope_at u k path after) x ≡ id_in (scope_beside p o after) x

-- and a string for the same expression
abbrev pub SameControlsAtPlace : Type 0
SameControlsAtPlace =
    (u : Program) (k : ℕ) (path : Path) (p : Procedure) (o : Opened) (after : Bool)
    (fields : List ConfigField) (e : Tree)
    → StandsAt u k path p o
    → control_of fields (scope_at u k path after) e ≡ control_of fields (scope_beside p o after) e

-- or condition
abbrev pub SameConditionsAtPlace : Type 0
SameConditionsAtPlace =
    (u : Program) (k : ℕ) (path : Path) (p : Procedure) (o : Opened) (after : Bool)
    (fields : List ConfigField) (e : Tree)
    → StandsAt u k path p o
    → condition_of fields (scope_at u k path after) e
    ≡ condition_of fields (scope_beside p o after) e

-- ---- in a well-formed unit

-- a string that breaks no rule over the names that the meaning has there is well formed there
abbrev pub ControlsStandAtPlace : Type 0
ControlsStandAtPlace =
    (u : Program) (k : ℕ) (path : Path) (p : Procedure) (o : Opened) (after : Bool) (may : Reads)
    (n : ℕ) (e : Tree)
    → IsUnit u
    → StandsAt u k path p o
    → fit e ≡ true
    → least (control_faults u.fields may (scope_beside p o after) n e) ≡ None
    → is_control (field_kind u.fields) may (scope_beside p o after)
    (control_of u.fields (scope_at u k path after) e)
    ≡ true

-- so is a condition
abbrev pub ConditionsStandAtPlace : Type 0
ConditionsStandAtPlace =
    (u : Program) (k : ℕ) (path : Path) (p : Procedure) (o : Opened) (after : Bool) (may : Reads)
    (n : ℕ) (e : Tree)
    → IsUnit u
    → StandsAt u k path p o
    → fit e ≡ true
    → least (condition_faults u.fields may (scope_beside p o after) n e) ≡ None
    → is_condition (field_kind u.fields) may (scope_beside p o after)
    (condition_of u.fields (scope_at u k path after) e)
    ≡ true
