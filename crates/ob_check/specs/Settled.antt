-- Lists that change nothing of what a cache holds when they are discharged once more.
use Rattle.std.specs.Prelude.{◌≡◌, Bool, true, not, List}
use Rattle.std.specs.List.{list_all}
use Rattle.affine_forms.specs.Affine.{Constraints}
use Rattle.affine_prover.specs.declared.answer.Verdict.{Verdict}
use Rattle.ob_check.specs.Entries.{is_missing, discharged}

-- the cache knows each system
abbrev pub knows_all : List (Constraints × Verdict) → List Constraints → Bool
knows_all es ss = list_all (λ s. not (is_missing es s)) ss

-- the list leaves the cache as it is
abbrev pub IsSettled : List (Constraints × Verdict) → List Constraints → Type 0
IsSettled es ss = discharged es ss ≡ es

-- a list of which a cache knows each system does so once it is discharged
abbrev pub KnownListsSettle : Type 0
KnownListsSettle =
    (es : List (Constraints × Verdict)) (ss : List Constraints)
    → knows_all es ss ≡ true
    → IsSettled (discharged es ss) ss
