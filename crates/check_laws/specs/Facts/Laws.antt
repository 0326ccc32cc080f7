-- What is known at a place of a procedure holds in each state that a run comes to there.
use Rattle.std.specs.Prelude.{◌≡◌, true, List, length, Option, Some, None}
use Rattle.exo_tree.specs.Tree.{Control, Condition, Procedure, ConfigField, Program}
use Rattle.exo_tree.specs.Places.{Path, Opened, opened}
use Rattle.exo_meaning.specs.Scene.{number, holds}
use Rattle.exo_meaning.specs.State.{State}
use Rattle.exo_meaning.specs.Run.{World, program_world}
use Rattle.exo_meaning.specs.Inputs.{IsAdmissible}
use Rattle.exo_meaning.specs.Units as units
use Rattle.exo_meaning.specs.Units.{Scope, sort_in, has_dimension, is_flag, field_kind, with_both}
use Rattle.exo_meaning.specs.Units.{is_control, is_condition}
use Rattle.meaning_laws.specs.Context.{ComesTo}
use Rattle.meaning_laws.specs.Sorted.{MayRun, scope_there}
use Rattle.affine_forms.specs.Atoms.{Valuation, value}
use Rattle.affine_forms.specs.Forms.{is_affine, normal}
use Rattle.affine_forms.specs.Formulas.{AllowedFlags, is_affine_condition, is_met, all_met}
use Rattle.affine_systems.specs.Systems.{KeepsKinds, IsShown}
use Rattle.affine_places.specs.Roots.{roots_of}
use Rattle.affine_places.specs.Readings.{place_reading}
use Rattle.check_facts.specs.Contexts.{condition_formula}
pub use Rattle.check_facts.specs.Contexts.{known_at_place, context_of, context_fits, facts_of}
pub use Rattle.check_facts.specs.Contexts.{fact_formula, fact_fits}

-- ---- places

-- a run from s comes to a place: to a statement, or to where the body begins
abbrev pub ComesToPlace : World → Option Opened → State → State → Type 0
ComesToPlace world None s t = t ≡ s
ComesToPlace world (Some o) s t = ComesTo world o.piece o.around s t

-- what may stand in an expression or condition there: strides of buffers and bools in scope, and
-- fields of the unit as their kinds are
abbrev pub allowed_in : List ConfigField → Scope → AllowedFlags
allowed_in fields scope = record {
  numbers = record {
    variable = λ x. true;
    field = λ f. units.is_number_field (field_kind fields) (field_kind fields f);
    stride = λ x k. has_dimension k (sort_in scope x);
  };
  variable = λ x. is_flag (sort_in scope x);
  field = λ f. units.is_flag_field (field_kind fields) (field_kind fields f);
}

-- so may all that a well-formed procedure may have there
abbrev pub WellFormedIsAllowed : Type 0
WellFormedIsAllowed =
    (fields : List ConfigField) (scope : Scope)
    → ((e : Control)
    → is_control (field_kind fields) with_both scope e ≡ true
    → is_affine (allowed_in fields scope).numbers e ≡ true)
    × ((c : Condition)
    → is_condition (field_kind fields) with_both scope c ≡ true
    → is_affine_condition (allowed_in fields scope) c ≡ true)

-- ---- what holds there

-- with these numbers for the atoms, each field's of its kind, the context is met, and what is read
-- of an expression or condition is what it is in the state
pub record Describes (u : Program) (p : Procedure) (path : Path) (t : State)
    (v : Valuation) : Type 0 where
  pub kinds : KeepsKinds v
  pub context : all_met v (context_of u p path) ≡ true
  pub numbers :
      (e : Control)
      → is_affine (allowed_in u.fields (scope_there p (opened 1 path p.body))).numbers e ≡ true
      → value v (normal (place_reading u.fields (roots_of p) (facts_of u p path)) e)
      ≡ number t.scene e
  pub conditions :
      (c : Condition)
      → is_affine_condition (allowed_in u.fields (scope_there p (opened 1 path p.body))) c ≡ true
      → is_met v (condition_formula u p (known_at_place u p (opened 1 path p.body)) c)
      ≡ holds t.scene c

-- in every run of a procedure of a well-formed unit on an admissible input, in each state in which
-- it comes to the place
abbrev pub ContextsHold : Type 0
ContextsHold =
    (u : Program) (p : Procedure)
    → MayRun u.fields (length u.memories) u.procedures p
    → (path : Path) (s t : State)
    → IsAdmissible (program_world u) p s
    → ComesToPlace (program_world u) (opened 1 path p.body) s t
    → (v : Valuation) × Describes u p path t v

-- a condition over the names there whose systems have no integer point holds there
abbrev pub ShownConditionsHold : Type 0
ShownConditionsHold =
    (u : Program) (p : Procedure)
    → MayRun u.fields (length u.memories) u.procedures p
    → (path : Path) (c : Condition)
    → is_condition (field_kind u.fields) with_both (scope_there p (opened 1 path p.body)) c ≡ true
    → IsShown (context_of u p path)
    (condition_formula u p (known_at_place u p (opened 1 path p.body)) c)
    → (s t : State)
    → IsAdmissible (program_world u) p s
    → ComesToPlace (program_world u) (opened 1 path p.body) s t
    → holds t.scene c ≡ true
