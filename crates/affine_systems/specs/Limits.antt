-- How much may be owed at once.
use Rattle.std.specs.Prelude.{◌≡◌, ℕ, ◌+◌, nat_le, pos, Bool, true, false, not, ◌&&◌, ⊤}
use Rattle.std.specs.Prelude.{List, ◌++◌, length, Result, Ok, Err}
use Rattle.std.specs.List.{count_by, sum_by}
use Rattle.std.specs.Ordering.{int_eq}
use Rattle.affine_forms.specs.Affine.{Affine, Constraints}
use Rattle.affine_forms.specs.declared.error.FormError.{FormError}
use Rattle.affine_forms.specs.declared.error.FormError.TheVariants.{TooManyCases, SystemTooLarge}
use Rattle.affine_forms.specs.declared.error.FormError.TheVariants.{WideNumber, TooManySystems}
use Rattle.affine_forms.specs.declared.error.FormError.TheVariants.{Memory}
use Rattle.affine_systems.specs.Outcomes.{Owed}

-- a term is a variable with a coefficient that is not 0; constants are none
abbrev pub affine_terms : Affine → ℕ
affine_terms a = count_by (λ c. not (int_eq c (pos 0))) a.coefficients

abbrev pub system_terms : Constraints → ℕ
system_terms s = sum_by affine_terms s.equations + sum_by affine_terms s.rows

-- the terms of all systems together
abbrev pub terms_in : List Owed → ℕ
terms_in os = sum_by (λ o. system_terms o.system) os

-- at most 65,536 obligations, and at most 4,194,304 terms in them together
abbrev pub are_within : List Owed → Bool
are_within os = nat_le (length os) 65536 && nat_le (terms_in os) 4194304

-- obligations come behind the others, exactly where all are within the limits
abbrev pub Appended :
    {A : Type 0} → Result A FormError → List Owed → List Owed → List Owed → Type 0
Appended (Ok t) old more new = (are_within (old ++ more) ≡ true) × (new ≡ old ++ more)
Appended (Err TooManyCases) old more new = ⊥
Appended (Err SystemTooLarge) old more new = ⊥
Appended (Err WideNumber) old more new = ⊥
Appended (Err TooManySystems) old more new = are_within (old ++ more) ≡ false
Appended (Err Memory) old more new = ⊤
