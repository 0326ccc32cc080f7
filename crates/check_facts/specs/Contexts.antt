-- What holds at a place of a procedure, and what is known there of configuration fields.
use Rattle.std.specs.Prelude.{◌≡◌, ℕ, zero, suc, Bool, true, false, ◌&&◌, List, [], ◌∷◌, map}
use Rattle.std.specs.Prelude.{length, Option, Some, None, Result, Ok, Err, IsSome, ⊤, slice_get}
use Rattle.std.specs.Prelude.{nat_lt}
use Rattle.std.specs.List.{list_all}
use Rattle.exo_tree.specs.Tree.{Condition, Argument, ControlArg, ConditionArg, Whole, Window, end}
use Rattle.exo_tree.specs.Tree.{Procedure, ConfigField, Program}
use Rattle.exo_tree.specs.Context.{Here}
use Rattle.exo_tree.specs.Places.{Path, Opened, opened}
use Rattle.exo_meaning.specs.Units.{levels}
use Rattle.meaning_laws.specs.Facts.{Fact, Holds, Fails}
use Rattle.meaning_laws.specs.KnownFields.{FieldValue, AtEntry, Known, UnknownAt, KnownFields}
use Rattle.meaning_laws.specs.KnownFields.{at_entry, Telling, known_fields}
use Rattle.meaning_laws.specs.PlaceFacts.{PlaceFact, place_facts, unit_telling}
use Rattle.affine_forms.specs.declared.error.FormError.{FormError}
use Rattle.affine_forms.specs.Forms.{Reading}
use Rattle.affine_forms.specs.Formulas.{Formula, formula, negation, is_writable_condition}
use Rattle.affine_forms.specs.Outcomes.{IsWide}
use Rattle.affine_places.specs.Facts as facts
use Rattle.affine_places.specs.Facts.{FieldFact}
use Rattle.affine_places.specs.Roots.{roots_of}
use Rattle.affine_places.specs.Readings.{entry_reading, place_reading, place_flags}
use Rattle.affine_places.specs.Readings.{field_formula_fits}
use Rattle.affine_places.specs.Agreement.{agree, agreement_fits, conditions_agree, conditions_fit}
use Rattle.affine_places.specs.Rules.{procedure_keeps_rules}

-- ---- known values

-- values of fields agree where the normal forms that are compared can be written down and are equal
abbrev pub values_agree : Reading → Argument → Argument → Bool
values_agree at (ControlArg a) v =
    elim v [
      | ControlArg b ↦ agreement_fits at a b && agree at a b
      | ConditionArg d ↦ false
      | Whole y ↦ false
      | Window y ds ↦ false
    ]
values_agree at (ConditionArg c) v =
    elim v [
      | ControlArg b ↦ false
      | ConditionArg d ↦ conditions_fit at c d && conditions_agree at c d
      | Whole y ↦ false
      | Window y ds ↦ false
    ]
values_agree at (Whole x) v = false
values_agree at (Window x cs) v = false

-- calls write what their procedures write, a right side is told as it is, and values agree by their
-- normal forms
abbrev pub telling : Program → Procedure → Telling
telling u p =
    unit_telling u.procedures (λ a. a) (values_agree (entry_reading u.fields (roots_of p)))

-- the fact of a field, before others; a field with its value at entry has none
abbrev pub with_value : ℕ → FieldValue → List FieldFact → List FieldFact
with_value f AtEntry rest = rest
with_value f (Known a) rest = record { field = f; fact = facts.Known a } ∷ rest
with_value f (UnknownAt path) rest = record { field = f; fact = facts.UnknownAt path } ∷ rest

-- the facts of so many fields from a number on
abbrev pub facts_from : ℕ → ℕ → KnownFields → List FieldFact
facts_from f zero known = []
facts_from f (suc count) known = with_value f (known f) (facts_from (suc f) count known)

-- of the fields of the unit, in its order
abbrev pub told : List ConfigField → KnownFields → List FieldFact
told fields known = facts_from zero (length fields) known

-- ---- the formulas of facts

-- a field in a condition stands for what is known of it where the condition is evaluated
abbrev pub condition_formula : Program → Procedure → KnownFields → Condition → Formula
condition_formula u p known c =
    formula (place_reading u.fields (roots_of p) (told u.fields known))
    (place_flags u.fields (roots_of p) (told u.fields known)) c

-- all its normal forms can be written down
abbrev pub condition_fits : Program → Procedure → KnownFields → Condition → Bool
condition_fits u p known c =
    is_writable_condition (place_reading u.fields (roots_of p) (told u.fields known))
    (λ f. field_formula_fits u.fields (roots_of p) (facts.fact_of (told u.fields known) f)) c

abbrev pub fact_formula : Program → Procedure → KnownFields → Fact → Formula
fact_formula u p known (Holds c) = condition_formula u p known c
fact_formula u p known (Fails c) = negation (condition_formula u p known c)

abbrev pub fact_fits : Program → Procedure → KnownFields → Fact → Bool
fact_fits u p known (Holds c) = condition_fits u p known c
fact_fits u p known (Fails c) = condition_fits u p known c

abbrev pub formulas : Program → Procedure → List PlaceFact → List Formula
formulas u p es = map (λ e. fact_formula u p e.known e.fact) es

abbrev pub all_fit : Program → Procedure → List PlaceFact → Bool
all_fit u p es = list_all (λ e. fact_fits u p e.known e.fact) es

-- ---- at a place

-- the empty path is the place before the body
abbrev pub facts_at : Program → Procedure → Option Opened → List PlaceFact
facts_at u p None = place_facts (telling u p) p (Here end) end
facts_at u p (Some o) = place_facts (telling u p) p o.around o.piece

-- the formulas of the parameters, the assertions, and the loops and branches round the statement at
-- a path
abbrev pub context_of : Program → Procedure → Path → List Formula
context_of u p path = formulas u p (facts_at u p (opened 1 path p.body))

abbrev pub context_fits : Program → Procedure → Path → Bool
context_fits u p path = all_fit u p (facts_at u p (opened 1 path p.body))

abbrev pub known_at_place : Program → Procedure → Option Opened → KnownFields
known_at_place u p None = at_entry
known_at_place u p (Some o) = known_fields (telling u p) o.around o.piece

-- what is known of fields before that statement
abbrev pub facts_of : Program → Procedure → Path → List FieldFact
facts_of u p path = told u.fields (known_at_place u p (opened 1 path p.body))

-- ---- what is asked, and what is answered

-- a path is empty or names a statement of the procedure
abbrev pub IsPlaceOf : Path → Procedure → Type 0
IsPlaceOf [] p = ⊤
IsPlaceOf (s ∷ path) p = IsSome (opened 1 (s ∷ path) p.body)

-- of a procedure of the unit
abbrev pub IsPlaceIn : Program → ℕ → Path → Type 0
IsPlaceIn u k path = elim (slice_get u.procedures k) [ None ↦ ⊥ | Some p ↦ IsPlaceOf path p ]

-- the procedure is affine, and its paths are short
abbrev pub may_be_walked : Procedure → Bool
may_be_walked p = procedure_keeps_rules p && nat_lt (levels p.body) 33

-- the context and the facts come exactly where all normal forms of the context can be written down
abbrev pub ContextMade :
    Result (List Formula × List FieldFact) FormError → Program → Procedure → Path → Type 0
ContextMade (Ok t) u p path =
    (context_fits u p path ≡ true) × ((t.0 ≡ context_of u p path) × (t.1 ≡ facts_of u p path))
ContextMade (Err e) u p path = IsWide e (context_fits u p path)
