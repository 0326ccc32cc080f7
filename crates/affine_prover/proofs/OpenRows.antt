-- Where the elimination answers Open for rows, rational numbers meet them.
use Rattle.std.proofs.Common.{ℕ, zero, suc, ◌+◌, ◌<◌, ◌≡◌, Bool, true, false, not, cond, List, [], ◌∷◌, map, length, ltb, ℤ, pos, Option, Some, None, arith, ap, ◌∙◌, refl}
use Rattle.std.specs.Prelude.{is_some, replicate}
use Rattle.std.specs.List.{AllByRecursion, filter, list_all, list_any, count_by}
use Rattle.std.specs.Ordering.{int_eq}
use Rattle.std.proofs.lemmas.List.{length-replicate}
use Rattle.affine_prover.specs.declared.answer.Verdict.{Verdict}
use Rattle.affine_prover.specs.declared.answer.Verdict.TheVariants.{Shown, Open, TooMany, TooWide}
use Rattle.affine_forms.specs.Affine.{Affine}
use Rattle.affine_prover.specs.Elimination.{variable_eliminated, stage, stage_of, verdict_on_rows}
use Rattle.affine_prover.specs.RowSets.Rows.{is_constant, is_false, is_free, tightened, merged}
use Rattle.affine_prover.specs.RowSets.Rows.{normalized, pairs, least_at, following}
use Rattle.affine_prover.specs.RowSets.Rows.{is_narrow_following}
use Rattle.affine_prover.specs.Elimination.Stage.{Ended, Rows}
use Rattle.affine_prover.proofs.OfRowSets.Everywhere.{everywhere-map}
use Rattle.affine_prover.proofs.OfRowSets.Widths.{IsWide, AreWide, least_at-below, tightened-wide}
use Rattle.affine_prover.proofs.OfRowSets.Widths.{normalized-wide}
use Rattle.affine_prover.proofs.Staging.{following-wide}
use Rattle.affine_prover.proofs.OfRowSets.Loosening.{normalized-loosens}
use Rattle.affine_prover.proofs.OfRowSets.Returning.{HasRowPoint, following-returns}

-- what a verdict promises: X where it is Open
abbrev pub HasIfOpen : Type 0 → Verdict → Type 0
HasIfOpen X Shown = Unit {0}
HasIfOpen X Open = X
HasIfOpen X TooMany = Unit {0}
HasIfOpen X TooWide = Unit {0}

pub open-carries : (X Y : Type 0) → (X → Y) → (v : Verdict) → HasIfOpen X v → HasIfOpen Y v
open-carries X Y f Shown h = tt
open-carries X Y f Open h = f h
open-carries X Y f TooMany h = tt
open-carries X Y f TooWide h = tt

-- ---- no variable is left
empty-constant : (cs : List ℤ) → length cs ≡ 0 → list_all (λ c. int_eq c (pos 0)) cs ≡ true
empty-constant [] e = refl
empty-constant (c ∷ cs) e = absurd (omega arith)

none-varies : (rows : List Affine) → AllByRecursion (IsWide 0) rows → filter (λ r. not (is_constant r)) rows ≡ []
none-varies [] h = refl
none-varies (r ∷ rs) h = ap (λ b. cond (not b) (r ∷ filter (λ r. not (is_constant r)) rs) (filter (λ r. not (is_constant r)) rs)) (empty-constant r.coefficients h.0) ∙ none-varies rs h.1

none-kept_without_variables : (rows kept : List Affine) → AllByRecursion (IsWide 0) rows → normalized rows ≡ Some kept → kept ≡ []
unfolding normalized
none-kept_without_variables rows kept w e = by (list_any is_false (map tightened rows)) e
  where
    by : (b : Bool) → cond b None (Some (merged (filter (λ r. not (is_constant r)) (map tightened rows)))) ≡ Some kept → kept ≡ []
    by true m = absurd cc
    by false m =
        let same : kept ≡ merged (filter (λ r. not (is_constant r)) (map tightened rows)) = cc in
        same ∙ ap merged (none-varies (map tightened rows) (everywhere-map (IsWide 0) (IsWide 0) tightened (tightened-wide 0) rows w))

-- ---- no row is left: any numbers will do
any_point : (n : ℕ) (rows : List Affine) → normalized rows ≡ Some [] → HasRowPoint n rows
any_point n rows e = record {
  denominator = 1;
  numerators = replicate n (pos 0);
  positive = omega arith;
  one_each = length-replicate n (pos 0);
  rows_hold = normalized-loosens 1 (replicate n (pos 0)) rows [] e tt;
}

last-open : (rows : List Affine) → AllByRecursion (IsWide 0) rows → (o : Option (List Affine)) → normalized rows ≡ o → HasIfOpen (HasRowPoint 0 rows) (cond (is_some o) Open Shown)
last-open rows w None e = tt
last-open rows w (Some kept) e = any_point 0 rows (e ∙ ap Some (none-kept_without_variables rows kept w e))

eliminated-open : (n v : ℕ) (kept : List Affine) → v < suc n → AllByRecursion (IsWide (suc n)) kept → ((next : List Affine) → AllByRecursion (IsWide n) next → HasIfOpen (HasRowPoint n next) (verdict_on_rows n next)) → HasIfOpen (HasRowPoint (suc n) kept) (elim (variable_eliminated v kept) [ Ended w ↦ w | Rows next ↦ verdict_on_rows n next ])
unfolding variable_eliminated
eliminated-open n v kept l w rest = by (ltb 4096 (count_by (is_free v) kept + pairs kept v)) (is_narrow_following v kept)
  where
    by : (b c : Bool) → HasIfOpen (HasRowPoint (suc n) kept) (elim (cond b (Ended TooMany) (cond c (Rows (following v kept)) (Ended TooWide))) [ Ended w ↦ w | Rows next ↦ verdict_on_rows n next ])
    by true c = tt
    by false true = open-carries (HasRowPoint n (following v kept)) (HasRowPoint (suc n) kept) (following-returns n v kept l w) (verdict_on_rows n (following v kept)) (rest (following v kept) (following-wide n v kept l w))
    by false false = tt

normalized-returns : (n : ℕ) (rows kept : List Affine) → normalized rows ≡ Some kept → HasRowPoint n kept → HasRowPoint n rows
normalized-returns n rows kept e p = record { denominator = p.denominator; numerators = p.numerators; positive = p.positive; one_each = p.one_each; rows_hold = normalized-loosens p.denominator p.numerators rows kept e p.rows_hold }

stage-open : (n : ℕ) (rows : List Affine) → AllByRecursion (IsWide (suc n)) rows → (o : Option (List Affine)) → normalized rows ≡ o → AreWide (suc n) o → ((next : List Affine) → AllByRecursion (IsWide n) next → HasIfOpen (HasRowPoint n next) (verdict_on_rows n next)) → HasIfOpen (HasRowPoint (suc n) rows) (elim (stage_of (suc n) o) [ Ended v ↦ v | Rows next ↦ verdict_on_rows n next ])
stage-open n rows w None e u rest = tt
stage-open n rows w (Some []) e u rest = any_point (suc n) rows e
stage-open n rows w (Some (r ∷ rs)) e u rest =
    open-carries (HasRowPoint (suc n) (r ∷ rs)) (HasRowPoint (suc n) rows) (normalized-returns (suc n) rows (r ∷ rs) e) (elim (variable_eliminated (least_at (pairs (r ∷ rs)) (suc n)) (r ∷ rs)) [ Ended v ↦ v | Rows next ↦ verdict_on_rows n next ])
    (eliminated-open n (least_at (pairs (r ∷ rs)) (suc n)) (r ∷ rs) (least_at-below (pairs (r ∷ rs)) n) u rest)

pub verdict_on_rows-has_point : (n : ℕ) (rows : List Affine) → AllByRecursion (IsWide n) rows → HasIfOpen (HasRowPoint n rows) (verdict_on_rows n rows)
unfolding verdict_on_rows stage
verdict_on_rows-has_point zero rows w = last-open rows w (normalized rows) refl
verdict_on_rows-has_point (suc n) rows w = stage-open n rows w (normalized rows) refl (normalized-wide (suc n) rows w) (λ next u. verdict_on_rows-has_point n next u)
