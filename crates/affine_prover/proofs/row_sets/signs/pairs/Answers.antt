use Rattle.std.proofs.Common.{ℕ, ◌+◌, ◌*◌, ◌<◌, ◌≤◌, ◌≡◌, true, false, List, length, take, get_or, pos, arith, ap, sym}
use Rattle.std.proofs.Common.{subst, ◌∙◌}
use Rattle.std.proofs.lemmas.Int.{to_z-of_z}
use Rattle.std.proofs.lemmas.List.{take_all}
use Rattle.std.proofs.lemmas.List.Sums.{count_by_more_yes, count_by_more_no}
use Rattle.std.specs.Int.{w128}
use Rattle.std.specs.Int.RustNames.{FitsSigned, int_lt}
use Rattle.std.specs.List.{count_by}
use Rattle.affine_forms.specs.Affine.{Affine}
use Rattle.affine_prover.specs.RowSets.Rows.{coefficient, is_lower_bound, is_upper_bound}
use Rattle.affine_prover.proofs.OfRowSets.Filtering.{positive-signs, negative-signs}
use Rattle.affine_prover.proofs.row_sets.signs.pairs.Goals as goal
use Rattle.affine_prover.proofs.row_sets.signs.pairs.Goals.{then-c-gt0, else-c-gt0+then-c-lt0, else-c-gt0+else-c-lt0}

-- the counts of the rows that bound the variable from below and from above, with one more row
lower_counted :
    (v : ℕ) (rows : List Affine) (i : ℕ) (r : Affine) (l u m w : ℕ) → i < length rows → r ≡ get_or rows i r
    → is_lower_bound v r ≡ true → l ≡ count_by (is_lower_bound v) (take i rows)
    → u ≡ count_by (is_upper_bound v) (take i rows) → l + u ≤ i → m ≡ l + 1 → w ≡ u
    → (m ≡ count_by (is_lower_bound v) (take (i + 1) rows)) × (w ≡ count_by (is_upper_bound v) (take (i + 1) rows))
    × (m + w ≤ i + 1)
lower_counted v rows i r l u m w h e s el eu all em ew =
    let low = count_by_more_yes (is_lower_bound v) rows i r h (ap (is_lower_bound v) (sym e) ∙ s) in
    let up = count_by_more_no (is_upper_bound v) rows i r h
    (ap (is_upper_bound v) (sym e) ∙ (positive-signs (coefficient r v) s).1) in
    (em ∙ ap (λ n. n + 1) el ∙ sym low, ew ∙ eu ∙ sym up, omega (arith, all, em, ew))

upper_counted :
    (v : ℕ) (rows : List Affine) (i : ℕ) (r : Affine) (l u m w : ℕ) → i < length rows → r ≡ get_or rows i r
    → is_upper_bound v r ≡ true → l ≡ count_by (is_lower_bound v) (take i rows)
    → u ≡ count_by (is_upper_bound v) (take i rows) → l + u ≤ i → m ≡ l → w ≡ u + 1
    → (m ≡ count_by (is_lower_bound v) (take (i + 1) rows)) × (w ≡ count_by (is_upper_bound v) (take (i + 1) rows))
    × (m + w ≤ i + 1)
upper_counted v rows i r l u m w h e s el eu all em ew =
    let low = count_by_more_no (is_lower_bound v) rows i r h
    (ap (is_lower_bound v) (sym e) ∙ (negative-signs (coefficient r v) s).1) in
    let up = count_by_more_yes (is_upper_bound v) rows i r h (ap (is_upper_bound v) (sym e) ∙ s) in
    (em ∙ el ∙ sym low, ew ∙ ap (λ n. n + 1) eu ∙ sym up, omega (arith, all, em, ew))

free_counted :
    (v : ℕ) (rows : List Affine) (i : ℕ) (r : Affine) (l u m w : ℕ) → i < length rows → r ≡ get_or rows i r
    → is_lower_bound v r ≡ false → is_upper_bound v r ≡ false → l ≡ count_by (is_lower_bound v) (take i rows)
    → u ≡ count_by (is_upper_bound v) (take i rows) → l + u ≤ i → m ≡ l → w ≡ u
    → (m ≡ count_by (is_lower_bound v) (take (i + 1) rows)) × (w ≡ count_by (is_upper_bound v) (take (i + 1) rows))
    × (m + w ≤ i + 1)
free_counted v rows i r l u m w h e s t el eu all em ew =
    let low = count_by_more_no (is_lower_bound v) rows i r h (ap (is_lower_bound v) (sym e) ∙ s) in
    let up = count_by_more_no (is_upper_bound v) rows i r h (ap (is_upper_bound v) (sym e) ∙ t) in
    (em ∙ el ∙ sym low, ew ∙ eu ∙ sym up, omega (arith, all, em, ew))

pub loop-row-preserved : goal.loop-row-preserved
loop-row-preserved c =
    let v = c.args.v in
    let rows = c.args.rows.now in
    let i = c.loop-row.row-index in
    let r = c.row-item.result in
    let l = c.loop-row.lower in
    let u = c.loop-row.upper in
    let m = c.if-c-gt0.lower in
    let w = c.if-c-gt0.upper in
    let h = c.loop-row-test.true in
    let known = c.loop-row.invariant in
    let fz : FitsSigned w128 c.coefficient-c.result = record { sfits = c.coefficient-c.type_inv } in
    let is = sym c.coefficient-c.ensures.value ∙ sym (to_z-of_z w128 c.coefficient-c.result fz) in
    let above = ap (λ z. int_lt (pos 0) z) is in
    let under = ap (λ z. int_lt z (pos 0)) is in
    elim c.if-c-gt0.branch [
      | then-c-gt0 b ↦
          let all = lower_counted v rows i r l u m w h c.row-item.is (above ∙ b.if-c-gt0.true) known.lowers known.uppers
          known.all b.lower-is b.upper-is in
          record { lowers = all.0; uppers = all.1; all = all.2 }
      | else-c-gt0+then-c-lt0 b ↦
          let all = upper_counted v rows i r l u m w h c.row-item.is (under ∙ b.if-c-lt0.true) known.lowers known.uppers
          known.all b.lower-is b.upper-is in
          record { lowers = all.0; uppers = all.1; all = all.2 }
      | else-c-gt0+else-c-lt0 b ↦
          let all = free_counted v rows i r l u m w h c.row-item.is (above ∙ b.if-c-gt0.false)
          (under ∙ b.if-c-lt0.false) known.lowers known.uppers known.all b.lower-is b.upper-is in
          record { lowers = all.0; uppers = all.1; all = all.2 }
    ]

pub returns : goal.returns
returns c =
    let v = c.args.v in
    let rows = c.args.rows.now in
    let whole = take_all c.loop-row.row-index rows c.loop-row-test.false in
    ap (λ n. n * c.loop-row.upper) (c.loop-row.invariant.lowers ∙ ap (count_by (is_lower_bound v)) whole)
    ∙ ap (λ n. count_by (is_lower_bound v) rows * n)
    (c.loop-row.invariant.uppers ∙ ap (count_by (is_upper_bound v)) whole)

pub coefficient-c-requires : goal.coefficient-c-requires
coefficient-c-requires c =
    let wide = ap (λ (r : Affine). length r.coefficients) c.row-item.is
    ∙ c.requires.wide c.loop-row.row-index c.row-item.result c.loop-row-test.true in
    subst (λ n. c.args.v < n) (sym wide) c.requires.below
