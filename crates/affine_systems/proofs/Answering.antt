-- What is answered to formulas and to a claim.
use Rattle.std.proofs.Common.{◌≡◌, ℕ, zero, suc, ◌<◌, ◌≤◌, min, nat_le, Bool, true, false, cond, ◌&&◌, List, [], ◌∷◌, map, length, get_or, arith, refl, sym, ap, ap₂, subst, ◌∙◌, inl, inr}
use Rattle.std.proofs.lemmas.Bool.Decides.{nat_tests}
use Rattle.std.specs.List.{list_all}
use Rattle.exo_tree.specs.Places.{Path}
use Rattle.affine_forms.specs.Affine.{Constraints, IsIntegerPoint}
use Rattle.affine_forms.specs.Atoms.{Valuation, atom_value}
use Rattle.affine_forms.specs.Formulas.{Constraint, Formula}
use Rattle.affine_forms.specs.declared.error.FormError.{FormError}
use Rattle.affine_forms.specs.declared.error.FormError.TheVariants.{TooManyCases, SystemTooLarge, WideNumber, TooManySystems, Memory}
use Rattle.std.specs.Prelude.{Vec, Result, Ok, Err, IfOk}
use Rattle.affine_systems.specs.declared.obligation.Obligation.{Obligation}
use Rattle.affine_systems.specs.Systems.{system, is_small, Stated, CasesPassed, SizePassed, Listed, stated_in, stated, failing_cases, made_of, nothing}
use Rattle.affine_systems.specs.Laws.{HasPointIn}
use Rattle.affine_systems.specs.Outcomes.{Owed, owed, plain_obligation, IsSystem, AreOwed, IsRefusal, IsAnswer, HasPointAmong, FailuresArePoints}
use Rattle.affine_systems.proofs.Points.{systems_law}

-- what is said of cases by the tests that are met
by_tests : (css : List (List Constraint)) (s t : Bool) → nat_le (length css) 64 ≡ s → list_all is_small (map system css) ≡ t → stated_in css ≡ cond s (cond t (Listed (map system css)) SizePassed) CasesPassed
by_tests css s t h k = ap₂ (λ x y. cond x (cond y (Listed (map system css)) SizePassed) CasesPassed) h k

few : (n : ℕ) → n ≤ 64 → nat_le n 64 ≡ true
few n h = grind (arith, nat_tests)

pub few_cases : (ks css : List (List Constraint)) → ks ≡ css → (min (length css) 65 ≡ 65 → ⊥) → length ks ≤ 64
few_cases ks css e h = go (nat_le (length css) 64) refl
  where
    go : (t : Bool) → nat_le (length css) 64 ≡ t → length ks ≤ 64
    go true l = grind (arith, nat_tests, ap length e)
    go false l = absurd (h (let m : 65 ≤ length css = grind (arith, nat_tests) in omega (arith, m)))

some_large : (ss : List Constraints) (k : ℕ) (s : Constraints) → k < length ss → s ≡ get_or ss k s → is_small s ≡ false → list_all is_small ss ≡ false
some_large [] k s l is h = absurd (omega arith)
some_large (x ∷ ss) zero s l is h = ap (λ t. t && list_all is_small ss) (ap is_small (sym is) ∙ h)
some_large (x ∷ ss) (suc k) s l is h = ap (λ t. is_small x && t) (some_large ss k s (omega arith) is h) ∙ and_false (is_small x)
  where
    and_false : (a : Bool) → (a && false) ≡ false
    and_false true = refl
    and_false false = refl

pub large_system : (css : List (List Constraint)) (k : ℕ) (s : Constraints) → length css ≤ 64 → k < length (map system css) → s ≡ get_or (map system css) k s → is_small s ≡ false → stated_in css ≡ SizePassed
large_system css k s h l is small = by_tests css true false (few (length css) h) (some_large (map system css) k s l is small)

pub all_listed : (css : List (List Constraint)) → length css ≤ 64 → list_all is_small (map system css) ≡ true → stated_in css ≡ Listed (map system css)
all_listed css h small = by_tests css true true (few (length css) h) small

-- what is owed is owed for each case
pub owed_each : (css : List (List Constraint)) (os : List Obligation) (what : List ℕ) (place : Path) → AreOwed os (stated_in css) what place → map plain_obligation os ≡ map (owed what place) (map system css)
owed_each css os what place = go (nat_le (length css) 64) (list_all is_small (map system css))
  where
    go : (s t : Bool) → AreOwed os (cond s (cond t (Listed (map system css)) SizePassed) CasesPassed) what place → map plain_obligation os ≡ map (owed what place) (map system css)
    go true true h = h
    go true false h = absurd h
    go false t h = absurd h

pub refused : (e : FormError) (cs : Constraints) (s : Stated) → IsSystem (Err e) cs → (is_small cs ≡ false → s ≡ SizePassed) → IsRefusal e s
refused TooManyCases cs s h k = absurd h
refused SystemTooLarge cs s h k = k h
refused WideNumber cs s h k = absurd h
refused TooManySystems cs s h k = absurd h
refused Memory cs s h k = tt

-- a point of a case's system is one of its obligation's
pub points_among : (v : Valuation) (what : List ℕ) (place : Path) (css : List (List Constraint)) (os : List Obligation) → map plain_obligation os ≡ map (owed what place) (map system css) → HasPointIn v css → HasPointAmong v css os
points_among v what place [] os e p = p
points_among v what place (cs ∷ css) [] e p = absurd (let n : 0 ≡ suc (length (map (owed what place) (map system css))) = ap length e in omega (arith, n))
points_among v what place (cs ∷ css) (o ∷ os) e (inl p) = inl (subst (λ s. IsIntegerPoint s (map (atom_value v) (made_of nothing cs).atoms)) (sym (ap (λ l. (get_or l 0 (owed what place (system cs))).system) e)) p)
points_among v what place (cs ∷ css) (o ∷ os) e (inr p) = inr (points_among v what place css os (ap rest e) p)
  where
    rest : List Owed → List Owed
    rest [] = []
    rest (x ∷ xs) = xs

-- what is answered to a claim has a point wherever it fails
pub failures_are_points : {A : Type 0} (r : Result (Vec Obligation A) FormError) (context : List Formula) (claim : Formula) (what : List ℕ) (place : Path) → IsAnswer r (stated context claim) what place → IfOk r (λ os. FailuresArePoints context claim os.items)
failures_are_points (Ok os) context claim what place h = λ v keeps met fails. points_among v what place (failing_cases context claim) os.items (owed_each (failing_cases context claim) os.items what place h) (systems_law v context claim keeps met fails)
failures_are_points (Err e) context claim what place h = tt
