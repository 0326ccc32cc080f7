-- Tables in which what is noted first stays.
use Rattle.std.specs.Prelude.{ℕ, Bool, not, is_some, ◌==◌, if◌then◌else◌, length, List, [], ◌∷◌}
use Rattle.std.specs.Prelude.{Option, Some, None}
use Rattle.exo_tree.specs.Tree.{Argument, ControlParam, TensorParam, WindowParam, Param}
use Rattle.match_laws.specs.Pairs.{Pair}
use Rattle.match_laws.specs.Windows.{uses_of}

-- what a table has, and elsewhere what another one has
abbrev pub earlier : {A : Type 0} → (ℕ → Option A) → (ℕ → Option A) → ℕ → Option A
earlier table more x = elim (table x) [ None ↦ more x | Some a ↦ Some a ]

abbrev pub entry : {A : Type 0} → ℕ → A → ℕ → Option A
entry x a y = if x == y then Some a else None

-- the argument of each parameter
abbrev pub given_by : List Param → List Argument → ℕ → Option Argument
given_by [] args = λ x. None
given_by (p ∷ ps) [] = λ x. None
given_by (p ∷ ps) (a ∷ args) = earlier (entry p.binder.id a) (given_by ps args)

-- nothing tells a parameter: what is given for it, where it is a number or a bool, and else an
-- access
abbrev pub is_open : (ℕ → Option Argument) → List Pair → Param → Bool
is_open given own p =
    elim p.kind [
      | ControlParam kind ↦ not (is_some (given p.binder.id))
      | TensorParam cell dims memory ↦ length (uses_of p.binder.id own) == 0
      | WindowParam cell dims memory ↦ length (uses_of p.binder.id own) == 0
    ]
