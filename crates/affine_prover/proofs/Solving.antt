-- The elimination, round by round, and how many coefficients its rows have.
use Rattle.std.proofs.Common.{ℕ, zero, suc, ◌-◌, ◌<◌, ◌≡◌, ◌&&◌, Bool, true, false, not, cond, List, [], ◌∷◌, map, neg_ℤ, Option, Some, None, arith, ap, sym, subst, ◌∙◌, refl}
use Rattle.std.specs.List.{AllByRecursion, filter, flat_map, find, list_any, list_all, remove, position_or_len}
use Rattle.std.proofs.lemmas.List.{length-map}
use Rattle.std.proofs.lemmas.List.Elements.{All-from_recursion, recursion_from_All}
use Rattle.affine_prover.specs.declared.answer.Verdict.{Verdict}
use Rattle.affine_prover.specs.declared.answer.Verdict.TheVariants.{Open, TooWide}
use Rattle.affine_forms.specs.Affine.{Affine}
use Rattle.affine_prover.specs.RowSets.Shapes.{AreWide}
use Rattle.affine_prover.specs.Elimination.{put_in, round_of, round_on, round, verdict_on, verdict_on_rows, Round}
use Rattle.affine_prover.specs.RowSets.Rows.{is_constant, is_impossible, tightened, has_unit}
use Rattle.affine_prover.specs.RowSets.Rows.{unit_place, substituted, is_narrow_substituted}
use Rattle.affine_prover.specs.RowSets.Rows.{negated, reduced}
use Rattle.affine_prover.specs.Elimination.Round.{Finished, Solved, Unsolved}
use Rattle.affine_prover.proofs.OfRowSets.Everywhere.{everywhere-append, everywhere-map}
use Rattle.affine_prover.proofs.OfRowSets.Everywhere.{everywhere-flat_map, everywhere-filter}
use Rattle.affine_prover.proofs.OfRowSets.Everywhere.{everywhere-like}
use Rattle.affine_prover.proofs.OfRowSets.Widths.{IsWide, tightened-wide}
use Rattle.affine_prover.proofs.Meeting.{substituted-wide, everywhere-remove, found-is}

abbrev pub RoundWide : ℕ → Round → Type 0
RoundWide m (Finished v) = Unit {0}
RoundWide m (Solved es rows) = (n : ℕ) → m ≡ suc n → AllByRecursion (IsWide n) es × AllByRecursion (IsWide n) rows
RoundWide m (Unsolved rows) = AllByRecursion (IsWide m) rows

put_in-wide : (m : ℕ) (es rows : List Affine) (e : Affine) → AllByRecursion (IsWide m) es → AllByRecursion (IsWide m) rows → IsWide m e → has_unit e ≡ true → RoundWide m (put_in es rows e)
unfolding put_in
put_in-wide m es rows e h k i u =
    by (list_all (is_narrow_substituted (unit_place e) e) (remove es (position_or_len has_unit es)) && list_all (is_narrow_substituted (unit_place e) e) rows)
  where
    one : (n : ℕ) → m ≡ suc n → (rs : List Affine) → AllByRecursion (IsWide m) rs → AllByRecursion (IsWide n) (map (substituted (unit_place e) e) rs)
    one n q rs w = everywhere-map (IsWide m) (IsWide n) (substituted (unit_place e) e) (λ r p. substituted-wide n e r (i ∙ q) u (p ∙ q)) rs w

    by : (b : Bool) → RoundWide m (cond b (Solved (map (substituted (unit_place e) e) (remove es (position_or_len has_unit es))) (map (substituted (unit_place e) e) rows)) (Finished TooWide))
    by true = λ n q. (one n q (remove es (position_or_len has_unit es)) (everywhere-remove (IsWide m) es (position_or_len has_unit es) h), one n q rows k)
    by false = tt

round_of-wide : (m : ℕ) (es rows : List Affine) (found : Option Affine) → find has_unit es ≡ found → AllByRecursion (IsWide m) es → AllByRecursion (IsWide m) rows → RoundWide m (round_of es rows found)
round_of-wide m es rows None e h k = everywhere-append (IsWide m) rows (flat_map (λ e. e ∷ negated e ∷ []) es) k (everywhere-flat_map (IsWide m) (IsWide m) (λ e. e ∷ negated e ∷ []) (λ e w. (w, (length-map e.coefficients neg_ℤ ∙ w, tt))) es h)
round_of-wide m es rows (Some x) e h k =
    let is = found-is (IsWide m) has_unit es x h e in
    put_in-wide m es rows x h k is.0 is.1

pub round-wide : (m : ℕ) (es rows : List Affine) → AllByRecursion (IsWide m) es → AllByRecursion (IsWide m) rows → RoundWide m (round es rows)
unfolding round reduced
round-wide m es rows h k = by (list_any is_impossible es)
  where
    some : AllByRecursion (IsWide m) (filter (λ e. not (is_constant e)) (map tightened es))
    some = everywhere-like (λ e. IsWide m e × (not (is_constant e) ≡ true)) (IsWide m) (λ e p. p.0) (filter (λ e. not (is_constant e)) (map tightened es)) (everywhere-filter (IsWide m) (λ e. not (is_constant e)) (map tightened es) (everywhere-map (IsWide m) (IsWide m) tightened (tightened-wide m) es h))

    by : (b : Bool) → RoundWide m (round_on rows (cond b None (Some (filter (λ e. not (is_constant e)) (map tightened es)))))
    by true = tt
    by false = round_of-wide m (filter (λ e. not (is_constant e)) (map tightened es)) rows (find has_unit (filter (λ e. not (is_constant e)) (map tightened es))) refl some k

pub unsolved-wide : (m : ℕ) (es rows rest : List Affine) → AreWide m es → AreWide m rows → Unsolved rest ≡ round es rows → AreWide m rest
unsolved-wide m es rows rest h k e = All-from_recursion (IsWide m) rest (subst (RoundWide m) (sym e) (round-wide m es rows (recursion_from_All (IsWide m) es h) (recursion_from_All (IsWide m) rows k)))

solved-wide : (n : ℕ) (es rows others rest : List Affine) → AreWide (suc n) es → AreWide (suc n) rows → Solved others rest ≡ round es rows → AreWide n others × AreWide n rest
solved-wide n es rows others rest h k e =
    let both = subst (RoundWide (suc n)) (sym e) (round-wide (suc n) es rows (recursion_from_All (IsWide (suc n)) es h) (recursion_from_All (IsWide (suc n)) rows k)) n refl in
    (All-from_recursion (IsWide n) others both.0, All-from_recursion (IsWide n) rest both.1)

pub verdict_on-finished : (n : ℕ) (es rows : List Affine) (v : Verdict) → Finished v ≡ round es rows → v ≡ verdict_on n es rows
unfolding verdict_on
verdict_on-finished zero es rows v e = ap (λ r. elim r [ Finished v ↦ v | Solved os rs ↦ Open | Unsolved rs ↦ verdict_on_rows zero rs ]) e
verdict_on-finished (suc n) es rows v e = ap (λ r. elim r [ Finished v ↦ v | Solved os rs ↦ verdict_on n os rs | Unsolved rs ↦ verdict_on_rows (suc n) rs ]) e

pub verdict_on-unsolved : (n : ℕ) (es rows rest : List Affine) → Unsolved rest ≡ round es rows → verdict_on_rows n rest ≡ verdict_on n es rows
unfolding verdict_on
verdict_on-unsolved zero es rows rest e = ap (λ r. elim r [ Finished v ↦ v | Solved os rs ↦ Open | Unsolved rs ↦ verdict_on_rows zero rs ]) e
verdict_on-unsolved (suc n) es rows rest e = ap (λ r. elim r [ Finished v ↦ v | Solved os rs ↦ verdict_on n os rs | Unsolved rs ↦ verdict_on_rows (suc n) rs ]) e

pub verdict_on-stuck : (es rows others rest : List Affine) → Solved others rest ≡ round es rows → Open ≡ verdict_on 0 es rows
unfolding verdict_on
verdict_on-stuck es rows others rest e = ap (λ r. elim r [ Finished v ↦ v | Solved os rs ↦ Open | Unsolved rs ↦ verdict_on_rows zero rs ]) e

solved-step : (n : ℕ) (es rows others rest : List Affine) → Solved others rest ≡ round es rows → verdict_on n others rest ≡ verdict_on (suc n) es rows
unfolding verdict_on
solved-step n es rows others rest e = ap (λ r. elim r [ Finished v ↦ v | Solved os rs ↦ verdict_on n os rs | Unsolved rs ↦ verdict_on_rows (suc n) rs ]) e

pub verdict_on-solved : (n : ℕ) (es rows others rest : List Affine) → 0 < n → AreWide n es → AreWide n rows → Solved others rest ≡ round es rows → (verdict_on (n - 1) others rest ≡ verdict_on n es rows) × (AreWide (n - 1) others × AreWide (n - 1) rest)
verdict_on-solved zero es rows others rest l h k e = absurd (omega arith)
verdict_on-solved (suc n) es rows others rest l h k e =
    let one : suc n - 1 ≡ n = omega arith in
    let both = solved-wide n es rows others rest h k e in
    (ap (λ m. verdict_on m others rest) one ∙ solved-step n es rows others rest e, (subst (λ m. AreWide m others) (sym one) both.0, subst (λ m. AreWide m rest) (sym one) both.1))
