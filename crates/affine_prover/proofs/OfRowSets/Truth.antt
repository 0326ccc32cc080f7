-- Rows that hold at an integer point hold there once they are tightened and merged.
use Rattle.std.proofs.Common.{ℕ, get_or, ◌≡◌, Bool, true, false, not, ◌||◌, cond, List, [], ◌∷◌, map, ℤ, pos, ◌+ℤ◌, ◌*ℤ◌, ◌≤ℤ◌, Option, Some, None, arith, ap, refl}
use Rattle.std.specs.List.{AllByRecursion, filter, fold, list_any, list_all}
use Rattle.std.specs.Int.{int_min, is_negative}
use Rattle.std.specs.Ordering.{int_eq}
use Rattle.std.specs.Prelude.{int_lt}
use Rattle.std.proofs.lemmas.Int.{ints}
use Rattle.std.proofs.lemmas.Bool.Decides.{Decides-int_eq}
use Rattle.std.proofs.Math.IntN.{zero-*ℤ}
use Rattle.affine_forms.specs.Affine.{Affine, dot, value}
use Rattle.affine_prover.specs.RowSets.Rows.{is_constant, is_false, tightened, joined, merged}
use Rattle.affine_prover.specs.RowSets.Rows.{same_list, normalized}
use Rattle.affine_prover.proofs.OfRowSets.Everywhere.{everywhere-map, everywhere-filter}
use Rattle.affine_prover.proofs.OfRowSets.Everywhere.{everywhere-like, both}
use Rattle.affine_prover.proofs.OfRowSets.Tightening.{tightened-holds}

-- each row is at least 0 at the point
abbrev pub Holds : List ℤ → Affine → Type 0
Holds point r = pos 0 ≤ℤ value r point

-- ---- rows without variables
pub all_zero-dot : (cs ps : List ℤ) → list_all (λ c. int_eq c (pos 0)) cs ≡ true → dot cs ps ≡ pos 0
all_zero-dot [] ps h = refl
all_zero-dot (c ∷ cs) [] h = refl
all_zero-dot (c ∷ cs) (p ∷ ps) h =
    let parts = both (int_eq c (pos 0)) (list_all (λ c. int_eq c (pos 0)) cs) h in
    let none : c ≡ pos 0 = (Decides-int_eq c (pos 0)).0 parts.0 in
    let rest = all_zero-dot cs ps parts.1 in
    omega (arith, ints, rest, ap (λ z. z *ℤ p) none, zero-*ℤ p)

false-fails : (r : Affine) (point : List ℤ) → is_false r ≡ true → Holds point r → ⊥
false-fails r point e h =
    let parts = both (is_constant r) (is_negative r.constant) e in
    omega (arith, ints, parts.1, all_zero-dot r.coefficients point parts.0)

false_among-fails : (rows : List Affine) (point : List ℤ) → list_any is_false rows ≡ true → AllByRecursion (Holds point) rows → ⊥
false_among-fails [] point e h = cc
false_among-fails (r ∷ rs) point e h = by (is_false r) refl e (λ t. false_among-fails rs point t h.1)
  where
    by : (b : Bool) → is_false r ≡ b → (b || list_any is_false rs) ≡ true → (list_any is_false rs ≡ true → ⊥) → ⊥
    by true t k rest = false-fails r point t h.0
    by false t k rest = rest k

-- ---- rows that are merged
pub same_list-true : (xs ys : List ℤ) → same_list xs ys ≡ true → xs ≡ ys
same_list-true [] [] e = refl
same_list-true [] (y ∷ ys) e = absurd cc
same_list-true (x ∷ xs) [] e = absurd cc
same_list-true (x ∷ xs) (y ∷ ys) e =
    let parts = both (int_eq x y) (same_list xs ys) e in
    let here : x ≡ y = (Decides-int_eq x y).0 parts.0 in
    let rest = same_list-true xs ys parts.1 in
    cc

pub same_list-differs : (xs ys : List ℤ) (v : ℕ) → (get_or xs v (pos 0) ≡ get_or ys v (pos 0) → ⊥) → same_list xs ys ≡ false
same_list-differs xs ys v h = by (same_list xs ys) refl
  where
    by : (b : Bool) → same_list xs ys ≡ b → b ≡ false
    by true e = absurd (h (ap (λ zs. get_or zs v (pos 0)) (same_list-true xs ys e)))
    by false e = refl

least-holds : (k r : Affine) (point : List ℤ) → k.coefficients ≡ r.coefficients → Holds point k → Holds point r → Holds point (record k { constant = int_min k.constant r.constant })
least-holds k r point e h i = by (int_lt r.constant k.constant) refl
  where
    by : (b : Bool) → int_lt r.constant k.constant ≡ b → pos 0 ≤ℤ (cond b r.constant k.constant +ℤ dot k.coefficients point)
    by true t = omega (arith, ints, ap (λ cs. dot cs point) e)
    by false t = h

joined-holds : (ks : List Affine) (r : Affine) (point : List ℤ) → AllByRecursion (Holds point) ks → Holds point r → AllByRecursion (Holds point) (joined ks r)
joined-holds [] r point h i = (i, tt)
joined-holds (k ∷ ks) r point h i = by (same_list k.coefficients r.coefficients) refl (joined-holds ks r point h.1 i)
  where
    by : (b : Bool) → same_list k.coefficients r.coefficients ≡ b → AllByRecursion (Holds point) (joined ks r) → AllByRecursion (Holds point) (cond b ((record k { constant = int_min k.constant r.constant }) ∷ ks) (k ∷ joined ks r))
    by true t rest = (least-holds k r point (same_list-true k.coefficients r.coefficients t) h.0 i, h.1)
    by false t rest = (h.0, rest)

merged_onto-holds : (kept rows : List Affine) (point : List ℤ) → AllByRecursion (Holds point) kept → AllByRecursion (Holds point) rows → AllByRecursion (Holds point) (fold joined kept rows)
merged_onto-holds kept [] point h i = h
merged_onto-holds kept (r ∷ rs) point h i = merged_onto-holds (joined kept r) rs point (joined-holds kept r point h i.0) i.1

-- ---- rows that are normalized
-- what normalized rows promise at a point at which the rows hold
abbrev pub Keeps : List ℤ → Option (List Affine) → Type 0
Keeps point None = ⊥
Keeps point (Some rows) = AllByRecursion (Holds point) rows

pub normalized-holds : (rows : List Affine) (point : List ℤ) → AllByRecursion (Holds point) rows → Keeps point (normalized rows)
unfolding normalized
normalized-holds rows point h = by (list_any is_false (map tightened rows)) refl
  where
    tight : AllByRecursion (Holds point) (map tightened rows)
    tight = everywhere-map (Holds point) (Holds point) tightened (λ r. tightened-holds r point) rows h

    some : AllByRecursion (Holds point) (filter (λ r. not (is_constant r)) (map tightened rows))
    some = everywhere-like (λ r. Holds point r × (not (is_constant r) ≡ true)) (Holds point) (λ r p. p.0) (filter (λ r. not (is_constant r)) (map tightened rows)) (everywhere-filter (Holds point) (λ r. not (is_constant r)) (map tightened rows) tight)

    by : (b : Bool) → list_any is_false (map tightened rows) ≡ b → Keeps point (cond b None (Some (merged (filter (λ r. not (is_constant r)) (map tightened rows)))))
    by true t = false_among-fails (map tightened rows) point t tight
    by false t = merged_onto-holds [] (filter (λ r. not (is_constant r)) (map tightened rows)) point tt some
