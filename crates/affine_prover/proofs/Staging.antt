-- What the stages of the elimination come to, from what the code has computed.
use Rattle.std.proofs.Common.{ℕ, suc, ◌+◌, ◌*◌, ◌<◌, ◌≤◌, ◌≡◌, Bool, true, false, cond, ltb, List, [], ◌∷◌, ◌++◌, map, length, Option, Some, None, arith, ap, sym, subst, ◌∙◌, refl}
use Rattle.std.specs.Prelude.{is_some, IsTrue}
use Rattle.std.specs.List.{AllByRecursion, All, filter, flat_map, count_by, list_all}
use Rattle.std.proofs.lemmas.List.{length-map}
use Rattle.std.proofs.lemmas.List.Sums.{length-filter}
use Rattle.std.proofs.lemmas.Bool.Decides.{nat_tests}
use Rattle.std.proofs.lemmas.List.Elements.{All-from_recursion, recursion_from_All}
use Rattle.affine_prover.specs.declared.answer.Verdict.{Verdict}
use Rattle.affine_prover.specs.declared.answer.Verdict.TheVariants.{Shown, Open, TooMany, TooWide}
use Rattle.affine_forms.specs.Affine.{Affine}
use Rattle.affine_prover.specs.RowSets.Shapes.{AreWide}
use Rattle.affine_prover.specs.Elimination.{variable_eliminated, stage, stage_of, verdict_on_rows, Stage}
use Rattle.affine_prover.specs.RowSets.Rows.{is_free, is_lower_bound, is_upper_bound, pairs}
use Rattle.affine_prover.specs.RowSets.Rows.{least_at, normalized, combination}
use Rattle.affine_prover.specs.RowSets.Rows.{is_narrow_combination, without, following}
use Rattle.affine_prover.specs.RowSets.Rows.{is_narrow_following, lower_factor, upper_factor}
use Rattle.affine_prover.specs.RowSets.Rows.{weighed_lists}
use Rattle.affine_prover.specs.Elimination.Stage.{Ended, Rows}
use Rattle.affine_prover.proofs.OfRowSets.Everywhere.{everywhere-append, everywhere-map}
use Rattle.affine_prover.proofs.OfRowSets.Everywhere.{everywhere-flat_map, everywhere-filter}
use Rattle.affine_prover.proofs.OfRowSets.Everywhere.{everywhere-like}
use Rattle.affine_prover.proofs.OfRowSets.Widths as widths
use Rattle.affine_prover.proofs.OfRowSets.Widths.{IsWide, normalized-wide, least_at-below}
use Rattle.affine_prover.proofs.OfRowSets.Widths.{length-weighed_lists, length-remove}

-- ---- the parts of a stage
pub stage-none : (n : ℕ) (rows : List Affine) → None ≡ normalized rows → Ended Shown ≡ stage n rows
unfolding stage
stage-none n rows e = ap (stage_of n) e

pub stage-empty : (n : ℕ) (rows kept : List Affine) → Some kept ≡ normalized rows → length kept ≡ 0 → Ended Open ≡ stage n rows
unfolding stage
stage-empty n rows [] e h = ap (stage_of n) e
stage-empty n rows (r ∷ rs) e h = absurd (omega arith)

pub stage-some : (n : ℕ) (rows kept : List Affine) → Some kept ≡ normalized rows → 0 < length kept → variable_eliminated (least_at (pairs kept) n) kept ≡ stage n rows
unfolding stage
stage-some n rows [] e h = absurd (omega arith)
stage-some n rows (r ∷ rs) e h = ap (stage_of n) e

pub variable_eliminated-many : (v : ℕ) (rows : List Affine) (total : ℕ) → total ≡ count_by (is_free v) rows + pairs rows v → 4096 < total → Ended TooMany ≡ variable_eliminated v rows
unfolding variable_eliminated
variable_eliminated-many v rows total e h =
    let test : ltb 4096 (count_by (is_free v) rows + pairs rows v) ≡ true = grind (arith, nat_tests) in
    sym (ap (λ t. cond t (Ended TooMany) (cond (is_narrow_following v rows) (Rows (following v rows)) (Ended TooWide))) test)

pub variable_eliminated-few : (v : ℕ) (rows : List Affine) (total : ℕ) → total ≡ count_by (is_free v) rows + pairs rows v → total ≤ 4096 → (narrow : Bool) → narrow ≡ is_narrow_following v rows → cond narrow (Rows (following v rows)) (Ended TooWide) ≡ variable_eliminated v rows
unfolding variable_eliminated
variable_eliminated-few v rows total e h narrow n =
    let test : ltb 4096 (count_by (is_free v) rows + pairs rows v) ≡ false = grind (arith, nat_tests) in
    ap (λ t. cond t (Rows (following v rows)) (Ended TooWide)) n ∙ sym (ap (λ t. cond t (Ended TooMany) (cond (is_narrow_following v rows) (Rows (following v rows)) (Ended TooWide))) test)

-- ---- rows that were split by the sign of the variable
pub split-total : (v : ℕ) (rows free lower upper : List Affine) (a b c : ℕ) → free ≡ map (without v) (filter (is_free v) rows) → lower ≡ filter (is_lower_bound v) rows → upper ≡ filter (is_upper_bound v) rows → a ≡ length free → b ≡ length lower → c ≡ length upper → a + b * c ≡ count_by (is_free v) rows + pairs rows v
split-total v rows free lower upper a b c f l u p q r =
    let one : a ≡ count_by (is_free v) rows = p ∙ ap length f ∙ length-map (filter (is_free v) rows) (without v) ∙ length-filter (is_free v) rows in
    let two : b ≡ count_by (is_lower_bound v) rows = q ∙ ap length l ∙ length-filter (is_lower_bound v) rows in
    let three : c ≡ count_by (is_upper_bound v) rows = r ∙ ap length u ∙ length-filter (is_upper_bound v) rows in
    ap (λ n. n + b * c) one ∙ ap (λ n. count_by (is_free v) rows + n * c) two ∙ ap (λ n. count_by (is_free v) rows + count_by (is_lower_bound v) rows * n) three

pub split-narrow : (v : ℕ) (rows lower upper : List Affine) → lower ≡ filter (is_lower_bound v) rows → upper ≡ filter (is_upper_bound v) rows → list_all (λ p. list_all (is_narrow_combination v p) upper) lower ≡ is_narrow_following v rows
split-narrow v rows lower upper l u =
    ap (λ qs. list_all (λ p. list_all (is_narrow_combination v p) qs) lower) u ∙ ap (λ ps. list_all (λ p. list_all (is_narrow_combination v p) (filter (is_upper_bound v) rows)) ps) l

pub split-following : (v : ℕ) (rows free lower upper : List Affine) → free ≡ map (without v) (filter (is_free v) rows) → lower ≡ filter (is_lower_bound v) rows → upper ≡ filter (is_upper_bound v) rows → free ++ flat_map (λ p. map (combination v p) upper) lower ≡ following v rows
split-following v rows free lower upper f l u =
    ap (λ rs. rs ++ flat_map (λ p. map (combination v p) upper) lower) f
    ∙ ap (λ qs. map (without v) (filter (is_free v) rows) ++ flat_map (λ p. map (combination v p) qs) lower) u
    ∙ ap (λ ps. map (without v) (filter (is_free v) rows) ++ flat_map (λ p. map (combination v p) (filter (is_upper_bound v) rows)) ps) l

pub filter-wide : (n : ℕ) (t : Affine → Bool) (rows : List Affine) → AreWide n rows → AreWide n (filter t rows)
filter-wide n t rows w =
    All-from_recursion (IsWide n) (filter t rows) (everywhere-like (λ r. IsWide n r × (t r ≡ true)) (IsWide n) (λ r k. k.0) (filter t rows) (everywhere-filter (IsWide n) t rows (recursion_from_All (IsWide n) rows w)))

filtered-pass : (t : Affine → Bool) (rows : List Affine) → AllByRecursion (λ r. IsTrue (t r)) (filter t rows)
filtered-pass t [] = tt
filtered-pass t (r ∷ rs) = by (t r) refl (filtered-pass t rs)
  where
    by : (b : Bool) → t r ≡ b → AllByRecursion (λ r. IsTrue (t r)) (filter t rs) → AllByRecursion (λ r. IsTrue (t r)) (cond b (r ∷ filter t rs) (filter t rs))
    by true e rest = (e, rest)
    by false e rest = rest

pub filter-passes : (t : Affine → Bool) (rows : List Affine) → All (λ r. IsTrue (t r)) (filter t rows)
filter-passes t rows = All-from_recursion (λ r. IsTrue (t r)) (filter t rows) (filtered-pass t rows)

-- ---- how many coefficients the rows have
pub kept-wide : (n : ℕ) (rows kept : List Affine) → AreWide n rows → Some kept ≡ normalized rows → AreWide n kept
kept-wide n rows kept w e =
    All-from_recursion (IsWide n) kept (subst (widths.AreWide n) (sym e) (normalized-wide n rows (recursion_from_All (IsWide n) rows w)))

pub following-wide : (n v : ℕ) (rows : List Affine) → v < suc n → AllByRecursion (IsWide (suc n)) rows → AllByRecursion (IsWide n) (following v rows)
following-wide n v rows l h =
    let P : Affine → Type 0 = IsWide (suc n) in
    let Q : Affine → Type 0 = IsWide n in
    let free = everywhere-filter P (is_free v) rows h in
    let lower = everywhere-filter P (is_lower_bound v) rows h in
    let upper = everywhere-filter P (is_upper_bound v) rows h in
    everywhere-append Q (map (without v) (filter (is_free v) rows)) (flat_map (λ p. map (combination v p) (filter (is_upper_bound v) rows)) (filter (is_lower_bound v) rows))
    (everywhere-map (λ r. P r × (is_free v r ≡ true)) Q (without v) (λ r k. length-remove r.coefficients v n k.0 l) (filter (is_free v) rows) free)
    (everywhere-flat_map (λ r. P r × (is_lower_bound v r ≡ true)) Q (λ p. map (combination v p) (filter (is_upper_bound v) rows))
    (λ p k. everywhere-map (λ r. P r × (is_upper_bound v r ≡ true)) Q (combination v p) (λ q m. length-remove (weighed_lists (lower_factor v p q) p.coefficients (upper_factor v p q) q.coefficients) v n (length-weighed_lists (lower_factor v p q) p.coefficients (upper_factor v p q) q.coefficients (k.0 ∙ sym m.0) ∙ k.0) l) (filter (is_upper_bound v) rows) upper)
    (filter (is_lower_bound v) rows) lower)

-- the rows of a stage are wide
abbrev StageWide : ℕ → Stage → Type 0
StageWide n (Ended v) = Unit {0}
StageWide n (Rows rows) = AllByRecursion (IsWide n) rows

variable_eliminated-wide : (n v : ℕ) (rows : List Affine) → v < suc n → AllByRecursion (IsWide (suc n)) rows → StageWide n (variable_eliminated v rows)
unfolding variable_eliminated
variable_eliminated-wide n v rows l h = by (ltb 4096 (count_by (is_free v) rows + pairs rows v)) (is_narrow_following v rows)
  where
    by : (b c : Bool) → StageWide n (cond b (Ended TooMany) (cond c (Rows (following v rows)) (Ended TooWide)))
    by true c = tt
    by false true = following-wide n v rows l h
    by false false = tt

stage_of-wide : (n : ℕ) (rows : Option (List Affine)) → widths.AreWide (suc n) rows → StageWide n (stage_of (suc n) rows)
stage_of-wide n None w = tt
stage_of-wide n (Some []) w = tt
stage_of-wide n (Some (r ∷ rs)) w = variable_eliminated-wide n (least_at (pairs (r ∷ rs)) (suc n)) (r ∷ rs) (least_at-below (pairs (r ∷ rs)) n) w

stage-wide : (n : ℕ) (rows : List Affine) → AllByRecursion (IsWide (suc n)) rows → StageWide n (stage (suc n) rows)
unfolding stage
stage-wide n rows h = stage_of-wide n (normalized rows) (normalized-wide (suc n) rows h)

pub next-wide : (n : ℕ) (rows next : List Affine) → AreWide (suc n) rows → Rows next ≡ stage (suc n) rows → AreWide n next
next-wide n rows next w e =
    All-from_recursion (IsWide n) next (subst (StageWide n) (sym e) (stage-wide n rows (recursion_from_All (IsWide (suc n)) rows w)))

-- ---- the elimination, stage by stage
pub verdict_on_rows-ended : (n : ℕ) (rows : List Affine) (v : Verdict) → Ended v ≡ stage (suc n) rows → v ≡ verdict_on_rows (suc n) rows
unfolding verdict_on_rows
verdict_on_rows-ended n rows v e = ap (λ s. elim s [ Ended w ↦ w | Rows next ↦ verdict_on_rows n next ]) e

pub verdict_on_rows-next : (n : ℕ) (rows next : List Affine) → Rows next ≡ stage (suc n) rows → verdict_on_rows n next ≡ verdict_on_rows (suc n) rows
unfolding verdict_on_rows
verdict_on_rows-next n rows next e = ap (λ s. elim s [ Ended w ↦ w | Rows next ↦ verdict_on_rows n next ]) e

pub verdict_on_rows-open : (rows kept : List Affine) → Some kept ≡ normalized rows → Open ≡ verdict_on_rows 0 rows
unfolding verdict_on_rows
verdict_on_rows-open rows kept e = ap (λ r. cond (is_some r) Open Shown) e

pub verdict_on_rows-shown : (rows : List Affine) → None ≡ normalized rows → Shown ≡ verdict_on_rows 0 rows
unfolding verdict_on_rows
verdict_on_rows-shown rows e = ap (λ r. cond (is_some r) Open Shown) e
