-- Numbers of cells, as a loop multiplies them, and of vectors.
use Rattle.std.proofs.Common.{◌≡◌, ◌≤◌, ◌<◌, ◌-◌, ◌*◌, ◌&&◌, ℕ, zero, suc, min, Bool, true, false, List, [], ◌∷◌, map, take, length, refl, sym, ap, ◌∙◌, arith, ⊎_elim}
use Rattle.std.proofs.Math.Nat.{le_refl}
use Rattle.std.proofs.lemmas.Bool.{lt-leb, cases_lt}
use Rattle.std.proofs.lemmas.List.{take-map, length-map}
use Rattle.std.proofs.lemmas.Nat.{mul-le}
use Rattle.exo_tree.specs.Tree.{Control}
use Rattle.c_widths.specs.Magnitude.{magnitude, fits, is_narrow}
use Rattle.c_widths.specs.Widths.{own_dims, are_narrow, cells_magnitude, fits_cells}

-- the dimensions fit, and so does their number of cells, so many times
abbrev pub fit_times : (ℕ → ℕ) → ℕ → List Control → Bool
fit_times most n ds = are_narrow most ds && fits (n * cells_magnitude most ds)

pub fit_once : (most : ℕ → ℕ) (ds : List Control) → fit_times most 1 ds ≡ fits_cells most ds
fit_once most ds = ap (λ m. are_narrow most ds && fits m) (once (cells_magnitude most ds))
  where
    once : (m : ℕ) → 1 * m ≡ m
    once m = omega arith

pub fit_no_more : (most : ℕ → ℕ) (n : ℕ) → fits n ≡ fit_times most n []
fit_no_more most n = ap fits once
  where
    once : n ≡ n * 1
    once = omega arith

-- a product that is kept as the greatest number of 64 bits fits nothing, and with a 0 everything
not_kept : (n p : ℕ) → 18446744073709551615 ≤ n → fits (18446744073709551615 * p) ≡ fits (n * p)
not_kept n zero h = ap fits none
  where
    none : 18446744073709551615 * 0 ≡ n * 0
    none = omega arith
not_kept n (suc p) h =
    let few : 18446744073709551615 ≤ 18446744073709551615 * suc p = omega arith in
    let more : n * 1 ≤ n * suc p = mul-le _ _ _ _ (le_refl n) (omega arith) in
    past (18446744073709551615 * suc p) few ∙ sym (past (n * suc p) (omega arith))
  where
    past : (m : ℕ) → 18446744073709551615 ≤ m → fits m ≡ false
    past m k = lt-leb m 4611686018427387904 (omega arith)

-- one more factor, in a product that stops at the greatest number of 64 bits
kept_fits : (n m p r : ℕ) → r ≡ min (n * m) 18446744073709551615 → fits (r * p) ≡ fits (n * (m * p))
kept_fits n m p r e = ⊎_elim below above (cases_lt (n * m) 18446744073709551615)
  where
    behind : n * m * p ≡ n * (m * p)
    behind = omega arith

    below : n * m < 18446744073709551615 → fits (r * p) ≡ fits (n * (m * p))
    below k = let same : r ≡ n * m = omega (arith, e, k) in ap (λ q. fits (q * p)) same ∙ ap fits behind

    above : 18446744073709551615 ≤ n * m → fits (r * p) ≡ fits (n * (m * p))
    above k =
        let greatest : r ≡ 18446744073709551615 = omega (arith, e, k) in
        ap (λ q. fits (q * p)) greatest ∙ not_kept (n * m) p k ∙ ap fits behind

-- the next dimension
pub fit_more : (most : ℕ → ℕ) (n r : ℕ) (d : Control) (ds : List Control) → r ≡ min (n * magnitude most d) 18446744073709551615 → is_narrow most d ≡ true → fit_times most r ds ≡ fit_times most n (d ∷ ds)
fit_more most n r d ds e h =
    ap (λ t. are_narrow most ds && t) (kept_fits n (magnitude most d) (cells_magnitude most ds) r e)
    ∙ sym (ap (λ t. t && are_narrow most ds && fits (n * (magnitude most d * cells_magnitude most ds))) h)

-- the dimensions of vectors are all but the last
pub own_part : {A : Type 0} (plain : A → Control) (lanes : ℕ) (all : List A) (ds : List Control) → (lanes ≡ 0 → ⊥) → map plain all ≡ ds → map plain (take (length all - 1) all) ≡ own_dims lanes ds
own_part plain zero all ds h e = absurd (h refl)
own_part plain (suc lanes) all ds h e =
    sym (take-map plain (length all - 1) all) ∙ ap (λ n. take (n - 1) (map plain all)) (sym (length-map all plain)) ∙ ap (λ l. take (length l - 1) l) e
