-- What the test of an expression tells.
use Rattle.std.specs.Prelude.{◌≡◌, ℕ, ◌+◌, Bool, false, List}
use Rattle.text_expressions.specs.Expression.{Tree}
use Rattle.rules_names.specs.declared.fault.Fault.{Fault}
use Rattle.rules_names.specs.declared.tested.Tested.{Tested}
use Rattle.rules_names.specs.Faults.{charged}
use Rattle.rules_names.specs.ExpressionRules.{width, has_variables}

-- the charge of these faults, the token behind the expression that begins at token n, and whether its form can be what is asked
pub record Tells (t : Tested) (faults : List Fault) (fits : Bool) (n : ℕ) (e : Tree) : Type 0 where
  pub charge : t.charge ≡ charged faults
  pub end : t.end ≡ n + width e
  pub form : t.fits ≡ fits

-- whether the expression has variables is told where nothing of it is hidden
pub record Varies (t : Tested) (e : Tree) : Type 0 where
  pub told : t.charge.hides ≡ false → t.variables ≡ has_variables e

-- the charge of these faults, and where nothing is hidden whether there are variables
pub record Joined (t : Tested) (faults : List Fault) (variables : Bool) : Type 0 where
  pub charge : t.charge ≡ charged faults
  pub told : t.charge.hides ≡ false → t.variables ≡ variables

-- the greatest number of a token
abbrev pub most_tokens : ℕ
most_tokens = 9223372036854775807
