-- Fourier-Motzkin elimination over the integers, on lists of affine sums: equations are solved and
-- put in, rows are tightened and merged, and one variable after the other is eliminated. J. Fourier
-- (1826) and T. Motzkin (1936), as in A. Schrijver, Theory of Linear and Integer Programming
-- (1986), section 12.2; the rules for equations and for rounding constants down are those of W.
-- Pugh, The Omega test (1991). Rows stay in the order in which they stand or are made.
use Rattle.std.specs.Prelude.{ℕ, zero, suc, ◌+◌, ◌&&◌, nat_lt, if◌then◌else◌, List, [], ◌∷◌, ◌++◌}
use Rattle.std.specs.Prelude.{map, Option, Some, None, is_some}
use Rattle.std.specs.List.{list_all, count_by, flat_map, find, remove, position_or_len}
use Rattle.affine_forms.specs.Affine.{Affine, Constraints}
use Rattle.affine_prover.specs.declared.answer.Verdict.{Verdict}
use Rattle.affine_prover.specs.declared.answer.Verdict.TheVariants.{Shown, Open, TooMany, TooWide}
pub use Rattle.affine_prover.specs.RowSets.Rows.{gcd_within, gcd_of, coefficient, is_constant}
pub use Rattle.affine_prover.specs.RowSets.Rows.{weighed}
pub use Rattle.affine_prover.specs.RowSets.Rows.{is_narrow_weighed, weighed_lists}
pub use Rattle.affine_prover.specs.RowSets.Rows.{are_narrow_weighed}
pub use Rattle.affine_prover.specs.RowSets.Rows.{combined, is_narrow_combined, without}
pub use Rattle.affine_prover.specs.RowSets.Rows.{tightened, same_list, joined, merged, is_false}
pub use Rattle.affine_prover.specs.RowSets.Rows.{is_lower_bound, is_upper_bound, is_free, pairs}
pub use Rattle.affine_prover.specs.RowSets.Rows.{least_at}
pub use Rattle.affine_prover.specs.RowSets.Rows.{lower_factor, upper_factor, combination}
pub use Rattle.affine_prover.specs.RowSets.Rows.{is_narrow_combination, following}
pub use Rattle.affine_prover.specs.RowSets.Rows.{is_narrow_following}
unfoldable pub use Rattle.affine_prover.specs.RowSets.Rows.{gcd, normalized, reduced}
pub use Rattle.affine_prover.specs.RowSets.Rows.{is_impossible, is_unit, has_unit, unit_place}
pub use Rattle.affine_prover.specs.RowSets.Rows.{solving_factor}
pub use Rattle.affine_prover.specs.RowSets.Rows.{substituted, is_narrow_substituted, negated}

-- ---- rows: one variable after the other

-- what one stage leaves: a verdict, or rows with one variable fewer
pub data Stage : Type 0 where
  Ended : Verdict → Stage
  Rows : List Affine → Stage

-- the rows with variable v eliminated, or why the elimination ends there: the rows are counted
-- before a combination is made
unfoldable pub variable_eliminated : ℕ → List Affine → Stage
variable_eliminated v rows =
    if nat_lt 4096 (count_by (is_free v) rows + pairs rows v) then Ended TooMany
    else (if is_narrow_following v rows then Rows (following v rows) else Ended TooWide)

-- one stage on normalized rows: the lowest variable with the fewest combinations is eliminated
abbrev pub stage_of : ℕ → Option (List Affine) → Stage
stage_of n None = Ended Shown
stage_of n (Some []) = Ended Open
stage_of n (Some (r ∷ rs)) = variable_eliminated (least_at (pairs (r ∷ rs)) n) (r ∷ rs)

unfoldable pub stage : ℕ → List Affine → Stage
stage n rows = stage_of n (normalized rows)

-- the verdict on rows over n variables
unfoldable pub verdict_on_rows : ℕ → List Affine → Verdict
verdict_on_rows zero rows = if is_some (normalized rows) then Open else Shown
verdict_on_rows (suc n) rows =
    elim (stage (suc n) rows) [ Ended v ↦ v | Rows next ↦ verdict_on_rows n next ]

-- ---- equations

-- what one round leaves: a verdict, equations and rows with one variable fewer, or rows alone
pub data Round : Type 0 where
  Finished : Verdict → Round
  Solved : List Affine → List Affine → Round
  Unsolved : List Affine → Round

-- the equation e of the equations es is solved for its variable v and put in everywhere
unfoldable pub put_in : List Affine → List Affine → Affine → Round
put_in es rows e =
    let v = unit_place e in
    let others = remove es (position_or_len has_unit es) in
    if list_all (is_narrow_substituted v e) others && list_all (is_narrow_substituted v e) rows
    then Solved (map (substituted v e) others) (map (substituted v e) rows)
    else Finished TooWide

-- the first equation that can be solved is solved; where there is none, each equation becomes two
-- rows
abbrev pub round_of : List Affine → List Affine → Option Affine → Round
round_of es rows None = Unsolved (rows ++ flat_map (λ e. e ∷ negated e ∷ []) es)
round_of es rows (Some e) = put_in es rows e

abbrev pub round_on : List Affine → Option (List Affine) → Round
round_on rows None = Finished Shown
round_on rows (Some es) = round_of es rows (find has_unit es)

unfoldable pub round : List Affine → List Affine → Round
round equations rows = round_on rows (reduced equations)

-- the verdict on equations and rows over n variables
unfoldable pub verdict_on : ℕ → List Affine → List Affine → Verdict
verdict_on zero equations rows =
    elim (round equations rows) [
      | Finished v ↦ v
      | Solved es rs ↦ Open
      | Unsolved rs ↦ verdict_on_rows zero rs
    ]
verdict_on (suc n) equations rows =
    elim (round equations rows) [
      | Finished v ↦ v
      | Solved es rs ↦ verdict_on n es rs
      | Unsolved rs ↦ verdict_on_rows (suc n) rs
    ]

-- the verdict on a system
abbrev pub elimination : Constraints → Verdict
elimination s = verdict_on s.variables s.equations s.rows
