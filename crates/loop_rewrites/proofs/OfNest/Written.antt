-- Whether a field is written.
use Rattle.std.proofs.Common.{◌≡◌, ◌≤◌, ◌<◌, ℕ, Bool, false, not, ◌&&◌, List, arith}
use Rattle.std.specs.Prelude.{nat_lt}
use Rattle.config_state.specs.FieldSets.{contains}
use Rattle.config_state.specs.Steps.Fields.{IsFieldSet}

-- a field of the unit is written where it is in the set
pub in_set : (n f : ℕ) (test : ℕ → Bool) (set : List Bool) (t : Bool) → IsFieldSet n test set → f < n
    → (t && not (contains set f)) ≡ (nat_lt f n && (t && not (test f)))
in_set n f test set t is h = grind (arith, is.each f h)

pub no_field : (n f : ℕ) (t : Bool) → n ≤ f → false ≡ (nat_lt f n && t)
no_field n f t h = grind arith
