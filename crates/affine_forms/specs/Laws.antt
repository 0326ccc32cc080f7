-- The laws of normal forms and formulas, each the contract of a function.
use Rattle.std.specs.Prelude.{◌≡◌, ℕ, true, List}
use Rattle.exo_tree.specs.Tree.{Control, Condition}
use Rattle.exo_meaning.specs.Scene.{Scene, number, stride_at, is_set, holds}
use Rattle.affine_forms.specs.Atoms.{Valuation, value}
use Rattle.affine_forms.specs.Forms.{Reading, normal, Allowed, is_affine}
use Rattle.affine_forms.specs.Formulas.{Flags, formula, AllowedFlags, is_affine_condition, is_met}
use Rattle.affine_forms.specs.Strides.{is_one_open, product_form, all_affine, product_of}

-- the valuation gives each allowed variable its number, and what is read for fields and strides has their numbers
pub record ReadsAt (may : Allowed) (v : Valuation) (at : Reading) (scene : Scene) : Type 0 where
  pub variables : (x : ℕ) → may.variable x ≡ true → value v (at.variable x) ≡ scene.control x
  pub fields : (f : ℕ) → may.field f ≡ true → value v (at.field f) ≡ scene.fields f
  pub strides : (x k : ℕ) → may.stride x k ≡ true → value v (at.stride x k) ≡ stride_at scene (scene.views x) k

-- a normal form has the value of its expression
abbrev pub NormalLaw : Type 0
NormalLaw =
    (may : Allowed) (v : Valuation) (at : Reading) (scene : Scene) (e : Control)
    → ReadsAt may v at scene
    → is_affine may e ≡ true
    → value v (normal at e) ≡ number scene e

-- the same of bools
pub record ReadsFlagsAt (may : AllowedFlags) (v : Valuation) (at : Reading) (flags : Flags) (scene : Scene) : Type 0 where
  pub numbers : ReadsAt may.numbers v at scene
  pub variables : (x : ℕ) → may.variable x ≡ true → is_met v (flags.variable x) ≡ is_set (scene.control x)
  pub fields : (f : ℕ) → may.field f ≡ true → is_met v (flags.field f) ≡ is_set (scene.fields f)

-- a formula is met where its condition holds, and nowhere else
abbrev pub FormulaLaw : Type 0
FormulaLaw =
    (may : AllowedFlags) (v : Valuation) (at : Reading) (flags : Flags) (scene : Scene) (c : Condition)
    → ReadsFlagsAt may v at flags scene
    → is_affine_condition may c ≡ true
    → is_met v (formula at flags c) ≡ holds scene c

-- the form of a product of extents has its value
abbrev pub StrideLaw : Type 0
StrideLaw =
    (may : Allowed) (v : Valuation) (at : Reading) (scene : Scene) (extents : List Control)
    → ReadsAt may v at scene
    → all_affine may extents ≡ true
    → is_one_open extents ≡ true
    → value v (product_form at extents) ≡ product_of scene extents
