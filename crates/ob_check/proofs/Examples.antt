-- The law at a small cache, which holds verdicts on three systems, and a list of two of them.
use Rattle.std.proofs.Common.{◌≡◌, pos, List, [], ◌∷◌, refl, sym, ap, ◌∙◌}
use Rattle.affine_forms.specs.Affine.{Affine, Constraints}
use Rattle.affine_prover.specs.declared.answer.Verdict.{Verdict}
use Rattle.affine_prover.specs.declared.answer.Verdict.TheVariants.{Shown, Open}
use Rattle.ob_check.specs.Entries.{discharged}
use Rattle.ob_check.specs.Settled.{KnownListsSettle}

abbrev Entries : Type 0
Entries = List (Constraints × Verdict)

-- without a variable: a number that is not negative
abbrev at : Affine → Constraints
at a = record { variables = 0; equations = []; rows = a ∷ [] }

abbrev first : Constraints
first = at (record { constant = pos 1; coefficients = [] })

abbrev second : Constraints
second = at (record { constant = pos 2; coefficients = [] })

abbrev third : Constraints
third = at (record { constant = pos 3; coefficients = [] })

abbrev before : Entries
before = (first, Open) ∷ (second, Shown) ∷ (third, Open) ∷ []

abbrev list : List Constraints
list = third ∷ first ∷ third ∷ []

-- the last one that was asked for comes first
abbrev behind : Entries
behind = (third, Open) ∷ (first, Open) ∷ (second, Shown) ∷ []

once : discharged before list ≡ behind
once = refl

again : KnownListsSettle → discharged behind list ≡ behind
again law = ap (λ es. discharged es list) (sym once) ∙ law before list refl ∙ once
