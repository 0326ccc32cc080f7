-- Verdicts that wait, with more of them.
use Rattle.std.proofs.Common.{◌≡◌, ◌==◌, Bool, true, length, List, [], ◌∷◌, ◌++◌, map, refl, sym, ap, ◌∙◌, subst, arith}
use Rattle.std.proofs.lemmas.Bool.Decides.{nat_tests}
use Rattle.std.specs.Prelude.{fold}
use Rattle.std.proofs.lemmas.List.Sums.{fold-append}
use Rattle.affine_forms.specs.Affine.{Constraints}
use Rattle.affine_prover.specs.declared.answer.Verdict.{Verdict}
use Rattle.ob_check.specs.declared.known.KnownSystem.{KnownSystem}
use Rattle.ob_check.specs.declared.pending.Pending.{Pending}
use Rattle.ob_check.specs.Entries.{kept}
use Rattle.ob_check.specs.Parts.{ArePending}
use Rattle.ob_check.specs.Systems.{system_known}

pub alone : {A : Type 0} (xs : List A) → xs ++ [] ≡ xs
alone [] = refl
alone (x ∷ xs) = ap (λ ys. x ∷ ys) (alone xs)

pub none : {A : Type 0} (xs : List A) (b : Bool) → b ≡ (length xs == 0) → b ≡ true → xs ≡ []
none [] b is held = refl
none (x ∷ xs) b is held = absurd (grind (arith, nat_tests, is, held))

-- no more
pub still : (ss : List Constraints) (all : List KnownSystem) (p : Pending) → all ≡ [] → ArePending ss p
    → ArePending (ss ++ map system_known all) p
still ss all p none h =
    subst (λ ks. ArePending (ss ++ map system_known ks) p) (sym none)
    (subst (λ ts. ArePending ts p) (sym (alone ss)) h)

pub more : (ss : List Constraints) (all : List KnownSystem) (before after : List (Constraints × Verdict))
    → before ≡ fold kept [] ss → after ≡ fold kept before (map system_known all)
    → after ≡ fold kept [] (ss ++ map system_known all)
more ss all before after was is =
    is
    ∙ ap (λ es. fold kept es (map system_known all)) was
    ∙ sym (fold-append kept [] ss (map system_known all))
