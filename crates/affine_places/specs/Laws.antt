-- The laws of places, each the contract of a function: normal forms and formulas are exact, and
-- well-formed procedures affine.
use Rattle.std.specs.Prelude.{◌≡◌, ◌≤ℤ◌, ℕ, zero, suc, ℤ, pos, true, false, List, [], ◌∷◌, map}
use Rattle.std.specs.Prelude.{get_or, Option, Some, None, IsSome}
use Rattle.exo_tree.specs.Tree.{Kind, Control, Condition, ControlArg, ConditionArg, Whole, Window}
use Rattle.exo_tree.specs.Tree.{ConfigField, Procedure}
use Rattle.exo_meaning.specs.Scene.{Shape, Side, Point, Range, Seen, Scene, number, numbers, is_set}
use Rattle.exo_meaning.specs.Scene.{holds}
use Rattle.exo_meaning.specs.Calls.{Callee}
use Rattle.exo_meaning.specs.Run.{row_major}
use Rattle.exo_meaning.specs.Units.{IsProcedure}
use Rattle.affine_forms.specs.Atoms.{Valuation, value}
use Rattle.affine_forms.specs.Forms.{Allowed, is_affine, normal}
use Rattle.affine_forms.specs.Formulas.{AllowedFlags, is_affine_condition, formula, is_met}
use Rattle.affine_places.specs.Roots.{Layout, Dense, Strided, Rooted, Roots, roots_of, has_extents}
use Rattle.affine_places.specs.Facts.{Fact, Known, UnknownAt, FieldFact, fact_of, kind_of}
use Rattle.affine_places.specs.Readings.{place_reading, place_flags}
use Rattle.affine_places.specs.Rules.{procedure_keeps_rules}

-- ---- buffers and views as a procedure's binders make them

-- the dimensions of which a name sees a range
abbrev pub ranges : List Side → List ℕ
ranges [] = []
ranges (Point p ∷ sides) = map suc (ranges sides)
ranges (Range lo n ∷ sides) = zero ∷ map suc (ranges sides)

-- a dense root has the extents that are declared, and lies row by row
abbrev pub IsDeclared : Scene → Layout → Shape → Type 0
IsDeclared scene (Dense extents) shape =
    (shape.dims ≡ numbers scene extents) × (shape.strides ≡ row_major shape.dims)
IsDeclared scene Strided shape = Unit {0}

-- a name sees its root, and its coordinates run over these dimensions of it
pub record IsMade (scene : Scene) (r : Rooted) (seen : Seen) : Type 0 where
  pub root : seen.buffer ≡ r.root
  pub dims : ranges seen.sides ≡ r.dims
  pub shape : Shape
  pub there : scene.buffers r.root ≡ Some shape
  pub declared : IsDeclared scene r.layout shape

abbrev pub AreMade : Roots → Scene → Type 0
AreMade roots scene =
    (x : ℕ) (seen : Seen)
    → scene.views x ≡ Some seen
    → (r : Rooted) × (roots x ≡ Some r) × IsMade scene r seen

-- the stride of a buffer's dimension
abbrev pub stride_in : Scene → ℕ → ℕ → ℤ
stride_in scene b d =
    elim (scene.buffers b) [ None ↦ pos 0 | Some shape ↦ get_or shape.strides d (pos 0) ]

-- ---- numbers

-- a known value reads no field
abbrev pub but_fields : Allowed → Allowed
but_fields may = record { variable = may.variable; field = λ f. false; stride = may.stride }

-- the field has the number that its fact tells
abbrev pub IsTold : List ConfigField → Allowed → Valuation → Scene → ℕ → Option Fact → Type 0
IsTold fields may v scene f None = v.entry f (kind_of fields f) ≡ scene.fields f
IsTold fields may v scene f (Some (Known (ControlArg e))) =
    (is_affine (but_fields may) e ≡ true) × (number scene e ≡ scene.fields f)
IsTold fields may v scene f (Some (Known (ConditionArg c))) = ⊥
IsTold fields may v scene f (Some (Known (Whole x))) = ⊥
IsTold fields may v scene f (Some (Known (Window x cs))) = ⊥
IsTold fields may v scene f (Some (UnknownAt path)) =
    v.unknown f (kind_of fields f) path ≡ scene.fields f

-- a scene at a place of the procedure: its atoms have their numbers, its buffers and views are made
-- by the procedure's binders, and what may be read of strides and fields is there and told
pub record IsPlace (fields : List ConfigField) (p : Procedure) (facts : List FieldFact)
    (may : Allowed) (v : Valuation) (scene : Scene) : Type 0 where
  pub variables : (x : ℕ) → v.variable x ≡ scene.control x
  pub buffers : (b d : ℕ) → v.stride b d ≡ stride_in scene b d
  pub made : AreMade (roots_of p) scene
  pub strides : (x k : ℕ) → may.stride x k ≡ true → IsSome (scene.views x)
  pub told : (f : ℕ) → may.field f ≡ true → IsTold fields may v scene f (fact_of facts f)

-- the normal form at a place has the value of its expression
abbrev pub NormalAtPlace : Type 0
NormalAtPlace =
    (fields : List ConfigField) (p : Procedure) (facts : List FieldFact) (may : Allowed)
    (v : Valuation) (scene : Scene) (e : Control)
    → has_extents p ≡ true
    → IsPlace fields p facts may v scene
    → is_affine may e ≡ true
    → value v (normal (place_reading fields (roots_of p) facts) e) ≡ number scene e

-- ---- bools

abbrev pub but_flag_fields : AllowedFlags → AllowedFlags
but_flag_fields may =
    record { numbers = but_fields may.numbers; variable = may.variable; field = λ f. false }

abbrev pub IsFlagTold : List ConfigField → AllowedFlags → Valuation → Scene → ℕ → Option Fact
    → Type 0
IsFlagTold fields may v scene f None =
    (v.entry f (kind_of fields f) ≡ scene.fields f) × (pos 0 ≤ℤ scene.fields f)
IsFlagTold fields may v scene f (Some (Known (ControlArg e))) = ⊥
IsFlagTold fields may v scene f (Some (Known (ConditionArg c))) =
    (is_affine_condition (but_flag_fields may) c ≡ true) × (holds scene c ≡ is_set (scene.fields f))
IsFlagTold fields may v scene f (Some (Known (Whole x))) = ⊥
IsFlagTold fields may v scene f (Some (Known (Window x cs))) = ⊥
IsFlagTold fields may v scene f (Some (UnknownAt path)) =
    (v.unknown f (kind_of fields f) path ≡ scene.fields f) × (pos 0 ≤ℤ scene.fields f)

-- the same, and what may be read of bools is 0 or more and told
pub record IsPlaceOfFlags (fields : List ConfigField) (p : Procedure) (facts : List FieldFact)
    (may : AllowedFlags) (v : Valuation) (scene : Scene) : Type 0 where
  pub numbers : IsPlace fields p facts may.numbers v scene
  pub variables : (x : ℕ) → may.variable x ≡ true → pos 0 ≤ℤ scene.control x
  pub told : (f : ℕ) → may.field f ≡ true → IsFlagTold fields may v scene f (fact_of facts f)

-- the formula at a place is met where its condition holds, and nowhere else
abbrev pub FormulaAtPlace : Type 0
FormulaAtPlace =
    (fields : List ConfigField) (p : Procedure) (facts : List FieldFact) (may : AllowedFlags)
    (v : Valuation) (scene : Scene) (c : Condition)
    → has_extents p ≡ true
    → IsPlaceOfFlags fields p facts may v scene
    → is_affine_condition may c ≡ true
    → is_met v
    (formula (place_reading fields (roots_of p) facts) (place_flags fields (roots_of p) facts) c)
    ≡ holds scene c

-- ---- well-formed procedures

-- in a well-formed procedure extents, conditions, bounds and written values are affine
abbrev pub WellFormedIsAffine : Type 0
WellFormedIsAffine =
    (fields : ℕ → Option Kind) (memories : ℕ) (callees : ℕ → Option Callee) (p : Procedure)
    → IsProcedure fields memories callees p
    → procedure_keeps_rules p ≡ true
