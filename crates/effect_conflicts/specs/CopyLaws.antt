-- The laws of the two copies, each the contract of a function.
use Rattle.std.specs.Prelude.{◌≡◌, ◌≤◌, ℕ, true, List}
use Rattle.exo_tree.specs.Tree.{Control, Condition}
use Rattle.affine_forms.specs.Forms.{is_affine, normal, is_writable}
use Rattle.affine_forms.specs.Formulas.{Formula, formula, is_affine_condition}
use Rattle.affine_forms.specs.Formulas.{is_writable_condition}
use Rattle.exo_effects.specs.Accesses.{Access, plain_form, plain_fits, plain_formula}
use Rattle.exo_effects.specs.Accesses.{plain_formula_fits}
use Rattle.affine_systems.specs.Systems.{systems_of, cases_stated}
use Rattle.exo_effects.specs.Conflicts.{apart, meeting}
use Rattle.effect_conflicts.specs.Copies.{reading_by, flags_by, numbers_below, names_below}
use Rattle.exo_effects.specs.Fresh.{past_formula, past_all, past_access, past_order}
use Rattle.exo_effects.specs.Orders.{Order}
use Rattle.exo_effects.specs.Renamed.{re_linear, re_formula}

-- an expression whose variables are below the base, read over the variables of a copy, has the
-- form of the expression over these variables
abbrev pub CopiedFormsLaw : Type 0
CopiedFormsLaw =
    (base side : ℕ) (turns own : List ℕ) (e : Control)
    → side ≤ 1
    → is_affine (numbers_below base) e ≡ true
    → let r = apart base side turns own in
    (normal (reading_by r) e ≡ re_linear r (plain_form e))
    × (is_writable (reading_by r) e ≡ plain_fits e)

-- and so has a condition
abbrev pub CopiedFormulasLaw : Type 0
CopiedFormulasLaw =
    (base side : ℕ) (turns own : List ℕ) (c : Condition)
    → side ≤ 1
    → is_affine_condition (names_below base) c ≡ true
    → let r = apart base side turns own in
    (formula (reading_by r) (flags_by r) c ≡ re_formula r (plain_formula c))
    × (is_writable_condition (reading_by r) (λ f. true) c ≡ plain_formula_fits c)

-- the numbers of the copies' variables do not count, where they are past all others
abbrev pub CopiedNumbersLaw : Type 0
CopiedNumbersLaw =
    (ctx : List Formula) (order : Order) (x y : Access) (base further : ℕ)
    → past_all past_formula ctx ≤ base
    → past_order order ≤ base
    → past_access x ≤ base
    → past_access y ≤ base
    → base ≤ further
    → (systems_of (meeting ctx order base x y) ≡ systems_of (meeting ctx order further x y))
    × (cases_stated (meeting ctx order base x y) ≡ cases_stated (meeting ctx order further x y))
