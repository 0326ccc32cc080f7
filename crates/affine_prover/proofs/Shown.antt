-- Law: where the elimination answers Shown, no integer point exists.
use Rattle.std.proofs.Common.{ℕ, zero, suc, ◌+◌, ◌<◌, Bool, true, false, cond, List, [], ◌∷◌, ltb, ℤ, Option, Some, None}
use Rattle.std.specs.List.{AllByRecursion, remove, count_by}
use Rattle.std.specs.Prelude.{is_some}
use Rattle.affine_prover.specs.declared.answer.Verdict.{Verdict}
use Rattle.affine_prover.specs.declared.answer.Verdict.TheVariants.{Shown, Open, TooMany, TooWide}
use Rattle.affine_forms.specs.Affine.{Affine}
use Rattle.affine_prover.specs.Elimination.{variable_eliminated, stage, stage_of, verdict_on_rows, Stage}
use Rattle.affine_prover.specs.RowSets.Rows.{is_free, following, is_narrow_following, pairs}
use Rattle.affine_prover.specs.RowSets.Rows.{normalized, least_at}
use Rattle.affine_prover.specs.Elimination.Stage.{Ended, Rows}
use Rattle.affine_prover.proofs.OfRowSets.Everywhere.{everywhere-both, everywhere-like}
use Rattle.affine_prover.proofs.OfRowSets.Widths.{IsWide, AreWide, least_at-below, normalized-wide}
use Rattle.affine_prover.proofs.OfRowSets.Truth.{Holds, Keeps, normalized-holds}
use Rattle.affine_prover.proofs.OfRowSets.Combining.{HoldsWide, following-holds}

-- what a verdict claims where integers meet the rows: not Shown
abbrev pub IsRight : Verdict → Type 0
IsRight Shown = ⊥
IsRight Open = Unit {0}
IsRight TooMany = Unit {0}
IsRight TooWide = Unit {0}

-- what a stage leaves where integers meet the rows: rows over n variables that some integers meet
abbrev pub StageKeeps : ℕ → Stage → Type 0
StageKeeps n (Ended v) = IsRight v
StageKeeps n (Rows rows) = (point : List ℤ) × AllByRecursion (HoldsWide n point) rows

variable_eliminated-keeps : (n v : ℕ) (point : List ℤ) (rows : List Affine) → v < suc n → AllByRecursion (HoldsWide (suc n) point) rows → StageKeeps n (variable_eliminated v rows)
unfolding variable_eliminated
variable_eliminated-keeps n v point rows l h = by (ltb 4096 (count_by (is_free v) rows + pairs rows v)) (is_narrow_following v rows)
  where
    by : (b c : Bool) → StageKeeps n (cond b (Ended TooMany) (cond c (Rows (following v rows)) (Ended TooWide)))
    by true c = tt
    by false true = (remove point v, following-holds n v point rows l h)
    by false false = tt

stage_of-keeps : (n : ℕ) (point : List ℤ) (rows : Option (List Affine)) → AreWide (suc n) rows → Keeps point rows → StageKeeps n (stage_of (suc n) rows)
stage_of-keeps n point None w h = h
stage_of-keeps n point (Some []) w h = tt
stage_of-keeps n point (Some (r ∷ rs)) w h =
    variable_eliminated-keeps n (least_at (pairs (r ∷ rs)) (suc n)) point (r ∷ rs) (least_at-below (pairs (r ∷ rs)) n) (everywhere-both (IsWide (suc n)) (Holds point) (r ∷ rs) w h)

pub stage-keeps : (n : ℕ) (point : List ℤ) (rows : List Affine) → AllByRecursion (HoldsWide (suc n) point) rows → StageKeeps n (stage (suc n) rows)
unfolding stage
stage-keeps n point rows h =
    stage_of-keeps n point (normalized rows)
    (normalized-wide (suc n) rows (everywhere-like (HoldsWide (suc n) point) (IsWide (suc n)) (λ r k. k.0) rows h))
    (normalized-holds rows point (everywhere-like (HoldsWide (suc n) point) (Holds point) (λ r k. k.1) rows h))

normalized-right : (point : List ℤ) (rows : Option (List Affine)) → Keeps point rows → IsRight (cond (is_some rows) Open Shown)
normalized-right point None h = h
normalized-right point (Some rows) h = tt

pub verdict_on_rows-right : (n : ℕ) (point : List ℤ) (rows : List Affine) → AllByRecursion (HoldsWide n point) rows → IsRight (verdict_on_rows n rows)
unfolding verdict_on_rows stage
verdict_on_rows-right zero point rows h = normalized-right point (normalized rows) (normalized-holds rows point (everywhere-like (HoldsWide zero point) (Holds point) (λ r k. k.1) rows h))
verdict_on_rows-right (suc n) point rows h = by (stage (suc n) rows) (stage-keeps n point rows h) (λ p next k. verdict_on_rows-right n p next k)
  where
    by : (s : Stage) → StageKeeps n s → ((p : List ℤ) (next : List Affine) → AllByRecursion (HoldsWide n p) next → IsRight (verdict_on_rows n next)) → IsRight (elim s [ Ended v ↦ v | Rows next ↦ verdict_on_rows n next ])
    by (Ended v) k rest = k
    by (Rows next) k rest = rest k.0 next k.1
