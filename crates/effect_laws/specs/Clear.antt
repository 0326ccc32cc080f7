-- Pieces whose conflicts have no integer point do not clash.
use Rattle.std.specs.Prelude.{◌≡◌, ◌≤ℤ◌, ◌<ℤ◌, ℕ, ℤ, ◌==◌, Bool, true, false, List, IfSome}
use Rattle.std.specs.Prelude.{slice_get}
use Rattle.std.specs.List.{list_any}
use Rattle.exo_tree.specs.Places.{Path}
use Rattle.exo_meaning.specs.Scene.{Scene}
use Rattle.exo_meaning.specs.Footprint.{Entry}
use Rattle.exo_meaning.specs.Orders.{Each}
use Rattle.meaning_laws.specs.Pairs.{AreClear}
use Rattle.affine_forms.specs.Atoms.{Valuation, value}
use Rattle.affine_forms.specs.Affine.{HasNoIntegerPoint}
use Rattle.affine_forms.specs.Formulas.{Formula, all_met}
use Rattle.affine_systems.specs.Systems.{KeepsKinds}
use Rattle.affine_systems.specs.Outcomes.{Owed}
use Rattle.exo_effects.specs.Accesses.{Access}
use Rattle.exo_effects.specs.Orders.{Turn, OrderRow, Less, Greater, Order}
use Rattle.exo_effects.specs.Conflicts.{Lists, conflicts_of}
use Rattle.effect_laws.specs.Covers.{Covers}

-- one of these variables
abbrev pub is_turn : List Turn → ℕ → Bool
is_turn ts y = list_any (λ t. y == t.variable) ts

-- with these numbers for variables, whatever stands for other atoms, the variable is within its
-- bounds
pub record IsWithin (numbers : ℕ → ℤ) (t : Turn) : Type 0 where
  pub lower : (v : Valuation) → v.variable ≡ numbers → value v t.lower ≤ℤ numbers t.variable
  pub upper : (v : Valuation) → v.variable ≡ numbers → numbers t.variable <ℤ value v t.upper

abbrev pub IsInOrder : Order → (ℕ → ℤ) → (ℕ → ℤ) → OrderRow → Type 0
IsInOrder order m n (Less k) =
    IfSome (slice_get order.first k) (λ s.
    IfSome (slice_get order.second k) (λ t. m s.variable <ℤ n t.variable))
IsInOrder order m n (Greater k) =
    IfSome (slice_get order.first k) (λ s.
    IfSome (slice_get order.second k) (λ t. n t.variable <ℤ m s.variable))

-- the control values of two states: those of one place, but for the variables of the loops, which
-- are within their bounds, in their order
pub record AreCopies (order : Order) (v : Valuation) (m n : ℕ → ℤ) : Type 0 where
  pub first_else : (y : ℕ) → is_turn order.first y ≡ false → m y ≡ v.variable y
  pub second_else : (y : ℕ) → is_turn order.second y ≡ false → n y ≡ v.variable y
  pub first_within : Each (IsWithin m) order.first
  pub second_within : Each (IsWithin n) order.second
  pub ordered : Each (IsInOrder order m n) order.rows

-- all that is owed for two lists of accesses has no integer point
abbrev pub AreShownApart :
    Bool → List Formula → Order → Path → List Access → List Access → Type 0
AreShownApart fits ctx order place xs ys =
    (os : List Owed)
    × (conflicts_of fits ctx order place xs ys ≡ Lists os)
    × Each (λ o. HasNoIntegerPoint o.system) os

-- two states of the same names, but for the loops' variables
pub record AreTwoTurns (order : Order) (v : Valuation) (s t : Scene) : Type 0 where
  pub buffers : t.buffers ≡ s.buffers
  pub copies : AreCopies order v s.control t.control

-- what the one list covers does not clash with what the other covers
abbrev pub ClearLaw : Type 0
ClearLaw =
    (fits : Bool) (ctx : List Formula) (order : Order) (place : Path) (xs ys : List Access)
    (v : Valuation) (s t : Scene) (es fs : List Entry)
    → KeepsKinds v
    → all_met v ctx ≡ true
    → AreShownApart fits ctx order place xs ys
    → AreTwoTurns order v s t
    → Covers s xs es
    → Covers t ys fs
    → AreClear s es fs
