-- How many cells the elements of an allocation have.
use Rattle.std.proofs.Common.{◌≡◌, ◌≤◌, ◌*◌, ◌^◌, ℕ, zero, suc, ℤ, pos, negsuc, ◌+ℤ◌, ◌*ℤ◌, ◌≤ℤ◌, true, ◌&&◌, cond, List, [], ◌∷◌, length, refl, sym, ap, ◌∙◌, subst, arith, true≢false, int_le}
use Rattle.std.proofs.lemmas.Int.{ints}
use Rattle.std.proofs.Math.Nat.{le_refl}
use Rattle.std.proofs.lemmas.Bool.{and_parts, and_from}
use Rattle.std.proofs.lemmas.Nat.{mul-le}
use Rattle.exo_tree.specs.Tree.{Control, Lit}
use Rattle.exo_meaning.specs.Scene.{Scene, numbers, number}
use Rattle.exo_meaning.specs.Calls.{all_positive}
use Rattle.exo_meaning.specs.Run.{product, row_major}
use Rattle.exo_meaning.specs.Inputs.{IsBetween}
use Rattle.exo_meaning.specs.Orders.{Each}
use Rattle.c_widths.specs.Magnitude.{fits}
use Rattle.c_widths.specs.Widths.{are_narrow, cells_magnitude, fits_cells}
use Rattle.c_lowering.specs.Made.Lowered.{Forms, stack_count_from, stack_count, front}
use Rattle.c_unit_laws.specs.Follows.Simulation.{EndsIn, dot, in_range}
use Rattle.c_unit_laws.specs.Follows.Good.{AreGood, AreLiterals, EndsInLanes}
use Rattle.c_unit_laws.proofs.OfFollows.Extents.{positive_product, right_factor, times_assoc}
use Rattle.c_unit_laws.proofs.OfFollows.Extents.{both_positive}
use Rattle.c_unit_laws.proofs.OfFollows.Offsets.{flat}

-- ---- row-major strides

part_small : (d p : ℤ) → int_le (pos 1) d ≡ true → int_le (pos 1) p ≡ true → (d *ℤ p) ≤ℤ pos (2 ^ 48) → (pos 0 ≤ℤ p) × (p ≤ℤ pos (2 ^ 48))
part_small d p h k few = (from_0 p k, below p (d *ℤ p) (right_factor d p h k) few)
  where
    from_0 : (z : ℤ) → int_le (pos 1) z ≡ true → pos 0 ≤ℤ z
    from_0 z e = grind (arith, ints)

    below : (a b : ℤ) → a ≤ℤ b → b ≤ℤ pos (2 ^ 48) → a ≤ℤ pos (2 ^ 48)
    below a b e f = omega (arith, ints)

pub rows_small : (ds : List ℤ) → all_positive ds ≡ true → product ds ≤ℤ pos (2 ^ 48) → Each (IsBetween (pos 0) (pos (2 ^ 48))) (row_major ds)
rows_small [] h l = tt
rows_small (d ∷ ds) h l =
    let p = and_parts (int_le (pos 1) d) (all_positive ds) h in
    let small = part_small d (product ds) p.0 (positive_product ds p.1) l in
    (small, rows_small ds p.1 small.1)

pub row_ranks : (ds : List ℤ) → length (row_major ds) ≡ length ds
row_ranks [] = refl
row_ranks (d ∷ ds) = ap suc (row_ranks ds)

pub row_inside : (at ds : List ℤ) (size : ℤ) → product ds ≡ size → in_range at ds ≡ true → ((pos 0 +ℤ dot at (row_major ds)) +ℤ pos 1) ≤ℤ size
row_inside at ds size e r =
    let f = flat at ds r in
    subst (λ z. ((pos 0 +ℤ z) +ℤ pos 1) ≤ℤ size) (sym f.offset_is) (subst (λ z. ((pos 0 +ℤ pos f.offset) +ℤ pos 1) ≤ℤ z) (sym f.size_is ∙ e) (omega (arith, ints, f.below)))

-- ---- vectors

module _ (scene : Scene) where
  pub ends_in : (lanes : ℕ) (ds : List Control) → EndsInLanes lanes ds → EndsIn lanes (numbers scene ds)
  ends_in zero ds h = tt
  ends_in (suc n) [] h = absurd h
  ends_in (suc n) (d ∷ []) h = ap (number scene) h
  ends_in (suc n) (d ∷ (e ∷ ds)) h = ends_in (suc n) (e ∷ ds) h

  pub front_positive : (ds : List Control) → all_positive (numbers scene ds) ≡ true → all_positive (numbers scene (front ds)) ≡ true
  front_positive [] h = refl
  front_positive (d ∷ []) h = refl
  front_positive (d ∷ (e ∷ ds)) h =
      let p = and_parts (int_le (pos 1) (number scene d)) (all_positive (numbers scene (e ∷ ds))) h in
      and_from (int_le (pos 1) (number scene d)) (all_positive (numbers scene (front (e ∷ ds)))) p.0 (front_positive (e ∷ ds) p.1)

  -- vectors times lanes are cells
  pub front_times : (n : ℕ) (ds : List Control) → EndsInLanes (suc n) ds → all_positive (numbers scene ds) ≡ true → (product (numbers scene (front ds)) *ℤ pos (suc n)) ≡ product (numbers scene ds)
  front_times n [] h p = absurd h
  front_times n (d ∷ []) h p = one_times (pos (suc n)) ∙ sym (ap (λ z. z *ℤ pos 1) (ap (number scene) h))
    where
      one_times : (z : ℤ) → pos 1 *ℤ z ≡ z *ℤ pos 1
      one_times z = omega (arith, ints)
  front_times n (d ∷ (e ∷ ds)) h p =
      let parts = and_parts (int_le (pos 1) (number scene d)) (all_positive (numbers scene (e ∷ ds))) p in
      times_assoc (number scene d) (product (numbers scene (front (e ∷ ds)))) (pos (suc n)) parts.0 (positive_product (numbers scene (front (e ∷ ds))) (front_positive (e ∷ ds) parts.1)) (one_most n)
      ∙ ap (λ z. number scene d *ℤ z) (front_times n (e ∷ ds) h parts.1)
    where
      one_most : (k : ℕ) → int_le (pos 1) (pos (suc k)) ≡ true
      one_most k = grind arith

  -- ---- literals

  -- positive dimensions have some cells
  abbrev HasSome : (ℕ → ℕ) → List Control → Control → Type 0
  HasSome most ds c = all_positive (numbers scene (c ∷ ds)) ≡ true → 1 ≤ cells_magnitude most (c ∷ ds)

  some_of : (most : ℕ → ℕ) (ds : List Control) → (all_positive (numbers scene ds) ≡ true → 1 ≤ cells_magnitude most ds) → (z : ℤ) → HasSome most ds (Lit z)
  some_of most ds rest (negsuc k) q = absurd (true≢false (sym (and_parts (int_le (pos 1) (negsuc k)) (all_positive (numbers scene ds)) q).0))
  some_of most ds rest (pos k) q =
      let parts = and_parts (int_le (pos 1) (pos k)) (all_positive (numbers scene ds)) q in
      omega (arith, mul-le 1 1 k (cells_magnitude most ds) (at_least k parts.0) (rest parts.1))
    where
      at_least : (k : ℕ) → int_le (pos 1) (pos k) ≡ true → 1 ≤ k
      at_least k e = grind arith

  some_cells : (most : ℕ → ℕ) (ds : List Control) → AreLiterals ds → all_positive (numbers scene ds) ≡ true → 1 ≤ cells_magnitude most ds
  some_cells most [] h p = omega arith
  some_cells most (d ∷ ds) h p = subst (HasSome most ds) (sym h.0.1) (some_of most ds (λ q. some_cells most ds h.1 q) h.0.0) p

  -- a part fits where the whole does
  part_fits : (n p : ℕ) → 1 ≤ p → fits (n * p) ≡ true → fits n ≡ true
  part_fits n p h f = smaller n (n * p) (omega (arith, mul-le n 1 n p (le_refl n) h)) f
    where
      smaller : (a b : ℕ) → a ≤ b → fits b ≡ true → fits a ≡ true
      smaller a b l g = grind arith

  within : (n : ℕ) → fits n ≡ true → int_le (pos n) (pos 4611686018427387904) ≡ true
  within n h = grind arith

  abbrev Counts : (ℕ → ℕ) → ℕ → List Control → Control → Type 0
  Counts most n ds c = all_positive (numbers scene (c ∷ ds)) ≡ true → fits (n * cells_magnitude most (c ∷ ds)) ≡ true → stack_count_from (pos n) (c ∷ ds) ≡ pos n *ℤ product (numbers scene (c ∷ ds))

  of_literal : (most : ℕ → ℕ) (n : ℕ) (ds : List Control) → AreLiterals ds → int_le (pos 1) (pos n) ≡ true → ((k : ℕ) → int_le (pos 1) (pos (n * k)) ≡ true → all_positive (numbers scene ds) ≡ true → fits (n * k * cells_magnitude most ds) ≡ true → stack_count_from (pos (n * k)) ds ≡ pos (n * k) *ℤ product (numbers scene ds)) → (z : ℤ) → Counts most n ds (Lit z)
  of_literal most n ds h one rest (negsuc k) q i = absurd (true≢false (sym (and_parts (int_le (pos 1) (negsuc k)) (all_positive (numbers scene ds)) q).0))
  of_literal most n ds h one rest (pos k) q i =
      let parts = and_parts (int_le (pos 1) (pos k)) (all_positive (numbers scene ds)) q in
      let cells = cells_magnitude most ds in
      let later : fits (n * k * cells) ≡ true = ap fits (behind n k cells) ∙ i in
      ap (λ t. cond t (stack_count_from (pos n *ℤ pos k) ds) (pos 0)) (within (n * k) (part_fits (n * k) cells (some_cells most ds h parts.1) later))
      ∙ rest k (both_positive (pos n) (pos k) one parts.0) parts.1 later
      ∙ times_assoc (pos n) (pos k) (product (numbers scene ds)) one parts.0 (positive_product (numbers scene ds) parts.1)
    where
      behind : (n k p : ℕ) → n * k * p ≡ n * (k * p)
      behind n k p = omega arith

  count_from : (most : ℕ → ℕ) (n : ℕ) (ds : List Control) → AreLiterals ds → int_le (pos 1) (pos n) ≡ true → all_positive (numbers scene ds) ≡ true → fits (n * cells_magnitude most ds) ≡ true → stack_count_from (pos n) ds ≡ pos n *ℤ product (numbers scene ds)
  count_from most n [] h one p f = times_one (pos n)
    where
      times_one : (z : ℤ) → z ≡ z *ℤ pos 1
      times_one z = omega (arith, ints)
  count_from most n (d ∷ ds) h one p f = subst (Counts most n ds) (sym h.0.1) (of_literal most n ds h.1 one (λ k o q i. count_from most (n * k) ds h.1 o q i) h.0.0) p f

  pub count_is : (most : ℕ → ℕ) (ds : List Control) → AreLiterals ds → all_positive (numbers scene ds) ≡ true → fits_cells most ds ≡ true → stack_count ds ≡ product (numbers scene ds)
  count_is most ds h p f = count_from most 1 ds h refl p (ap fits (once (cells_magnitude most ds)) ∙ (and_parts (are_narrow most ds) (fits (cells_magnitude most ds)) f).1) ∙ one_times (product (numbers scene ds))
    where
      once : (m : ℕ) → 1 * m ≡ m
      once m = omega arith

      one_times : (z : ℤ) → pos 1 *ℤ z ≡ z
      one_times z = omega (arith, ints)

-- what is asked of all dimensions is asked of all but the last
pub front_good : (forms : Forms) (most : ℕ → ℕ) (ds : List Control) → AreGood forms most ds → AreGood forms most (front ds)
front_good forms most [] h = h
front_good forms most (d ∷ []) h = (tt, tt)
front_good forms most (d ∷ (e ∷ ds)) h =
    let rest = front_good forms most (e ∷ ds) (h.0.1, h.1.1) in
    ((h.0.0, rest.0), (h.1.0, rest.1))

pub front_literals : (ds : List Control) → AreLiterals ds → AreLiterals (front ds)
front_literals [] h = tt
front_literals (d ∷ []) h = tt
front_literals (d ∷ (e ∷ ds)) h = (h.0, front_literals (e ∷ ds) h.1)
