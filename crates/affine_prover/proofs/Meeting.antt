-- Equations that hold at an integer point hold there once they are reduced, solved and put in.
use Rattle.std.proofs.Common.{ℕ, zero, suc, ◌+◌, ◌*◌, ◌%◌, ◌<◌, ◌≡◌, ◌==◌, ◌&&◌, ◌||◌, Bool, true, false, not, cond, List, [], ◌∷◌, map, length, get_or, ℤ, pos, negsuc, ◌+ℤ◌, ◌*ℤ◌, neg_ℤ, unsigned_abs, Option, Some, None, arith, ap, sym, subst, ◌∙◌, refl}
use Rattle.std.specs.List.{AllByRecursion, filter, flat_map, list_all, list_any, find, remove, position_or_len}
use Rattle.std.specs.Int.{int_div_euclid, ◌∣◌}
use Rattle.std.proofs.lemmas.Int.{ints}
use Rattle.std.proofs.lemmas.List.{length-map}
use Rattle.std.proofs.lemmas.Nat.Gcd.{mod-eq-zero_of_dvd, dvd_of_mod-eq-zero}
use Rattle.std.proofs.Math.Nat.{zero-mod, mod-zero, mul-mod_right, mul-le-mul_left}
use Rattle.std.proofs.lemmas.Bool.Decides.{nat_tests}
use Rattle.std.proofs.Math.IntN.{*ℤ-zero, zero-*ℤ}
use Rattle.affine_prover.specs.declared.answer.Verdict.TheVariants.{Shown, Open, TooWide}
use Rattle.affine_forms.specs.Affine.{Affine, Constraints, dot, value, HasNoIntegerPoint}
use Rattle.affine_prover.specs.Elimination.{put_in, round_of, round_on, round, verdict_on, elimination, verdict_on_rows, Round}
use Rattle.affine_prover.specs.RowSets.Rows.{gcd_of, weighed, weighed_lists, combined, coefficient}
use Rattle.affine_prover.specs.RowSets.Rows.{tightened, is_constant, is_impossible, is_unit}
use Rattle.affine_prover.specs.RowSets.Rows.{has_unit, unit_place, solving_factor, substituted}
use Rattle.affine_prover.specs.RowSets.Rows.{is_narrow_substituted, negated, reduced}
use Rattle.affine_prover.specs.Elimination.Round.{Finished, Solved, Unsolved}
use Rattle.affine_forms.proofs.Integers.{times-add, neg-times}
use Rattle.affine_prover.proofs.OfRowSets.Values.{value-combined, value-without}
use Rattle.affine_prover.proofs.OfRowSets.Divisors.{gcd_of-divides, quotient-exact}
use Rattle.affine_prover.proofs.OfRowSets.Tightening.{dot-divided}
use Rattle.affine_prover.proofs.OfRowSets.Everywhere.{everywhere-append, everywhere-map}
use Rattle.affine_prover.proofs.OfRowSets.Everywhere.{everywhere-flat_map, everywhere-filter}
use Rattle.affine_prover.proofs.OfRowSets.Everywhere.{everywhere-like, everywhere-both}
use Rattle.affine_prover.proofs.OfRowSets.Widths.{IsWide, tightened-wide, length-weighed_lists}
use Rattle.affine_prover.proofs.OfRowSets.Widths.{length-remove}
use Rattle.affine_prover.proofs.OfRowSets.Truth.{Holds}
use Rattle.affine_prover.proofs.OfRowSets.Combining.{HoldsWide, weighed_at}
use Rattle.affine_prover.proofs.Shown.{IsRight, verdict_on_rows-right}

-- the equation is 0 at the point
abbrev pub Meets : List ℤ → Affine → Type 0
Meets point e = value e point ≡ pos 0

abbrev pub MeetsWide : ℕ → List ℤ → Affine → Type 0
MeetsWide n point e = IsWide n e × Meets point e

-- ---- the gcd test and the division
multiple-mod : (k z : ℤ) (g : ℕ) → 0 < g → k +ℤ pos g *ℤ z ≡ pos 0 → unsigned_abs k % g ≡ 0
multiple-mod (pos a) (pos z) g h e = let none : a ≡ 0 = omega (arith, ints) in ap (λ n. n % g) none ∙ zero-mod g
multiple-mod (pos a) (negsuc z) g h e = let is : a ≡ g * suc z = omega (arith, ints) in ap (λ n. n % g) is ∙ mul-mod_right g (suc z)
multiple-mod (negsuc a) (pos z) g h e = let is : suc a ≡ g * z = omega (arith, ints) in ap (λ n. n % g) is ∙ mul-mod_right g z
multiple-mod (negsuc a) (negsuc z) g h e = absurd (omega (arith, ints))

all_divided_by_zero-dot : (cs ps : List ℤ) → AllByRecursion (λ c. 0 ∣ unsigned_abs c) cs → dot cs ps ≡ pos 0
all_divided_by_zero-dot [] ps d = refl
all_divided_by_zero-dot (c ∷ cs) [] d = refl
all_divided_by_zero-dot (c ∷ cs) (p ∷ ps) d =
    let size : unsigned_abs c ≡ 0 = sym (mod-zero (unsigned_abs c)) ∙ mod-eq-zero_of_dvd 0 d.0 in
    let none : c ≡ pos 0 = omega (arith, ints) in
    omega (arith, ints, all_divided_by_zero-dot cs ps d.1, ap (λ z. z *ℤ p) none, zero-*ℤ p)

meets-mod : (g : ℕ) (e : Affine) (point : List ℤ) → AllByRecursion (λ c. g ∣ unsigned_abs c) e.coefficients → Meets point e → unsigned_abs e.constant % g ≡ 0
meets-mod zero e point d h =
    let none : e.constant ≡ pos 0 = omega (arith, ints, all_divided_by_zero-dot e.coefficients point d) in
    mod-zero (unsigned_abs e.constant) ∙ ap unsigned_abs none
meets-mod (suc g) e point d h =
    let sum = dot (map (λ c. int_div_euclid c (pos (suc g))) e.coefficients) point in
    multiple-mod e.constant sum (suc g) (omega arith) (omega (arith, ints, dot-divided (suc g) (omega arith) e.coefficients point d))

impossible-fails : (e : Affine) (point : List ℤ) → is_impossible e ≡ true → Meets point e → ⊥
impossible-fails e point t h =
    let none = ap (λ n. not (n == 0)) (meets-mod (gcd_of e.coefficients) e point (gcd_of-divides e.coefficients) h) in
    cc

impossible_among-fails : (es : List Affine) (point : List ℤ) → list_any is_impossible es ≡ true → AllByRecursion (Meets point) es → ⊥
impossible_among-fails [] point t h = cc
impossible_among-fails (e ∷ es) point t h = by (is_impossible e) refl t (λ k. impossible_among-fails es point k h.1)
  where
    by : (b : Bool) → is_impossible e ≡ b → (b || list_any is_impossible es) ≡ true → (list_any is_impossible es ≡ true → ⊥) → ⊥
    by true k u rest = impossible-fails e point k h.0
    by false k u rest = rest u

product_zero : (g : ℕ) (z : ℤ) → 0 < g → pos g *ℤ z ≡ pos 0 → z ≡ pos 0
product_zero g (pos zero) h e = refl
product_zero g (pos (suc n)) h e = absurd (omega (arith, ints, mul-le-mul_left (suc n) h))
product_zero g (negsuc n) h e = absurd (omega (arith, ints, mul-le-mul_left (suc n) h))

tightened-meets : (e : Affine) (point : List ℤ) → Meets point e → Meets point (tightened e)
tightened-meets e point h = by (gcd_of e.coefficients) (gcd_of-divides e.coefficients) (gcd_of e.coefficients == 0) refl
  where
    by : (g : ℕ) → AllByRecursion (λ c. g ∣ unsigned_abs c) e.coefficients → (b : Bool) → (g == 0) ≡ b → Meets point (cond b e (record { constant = int_div_euclid e.constant (pos g); coefficients = map (λ c. int_div_euclid c (pos g)) e.coefficients }))
    by g d true t = h
    by g d false t =
        let positive : 0 < g = grind (arith, nat_tests) in
        let q = int_div_euclid e.constant (pos g) in
        let sum = dot (map (λ c. int_div_euclid c (pos g)) e.coefficients) point in
        let exact = quotient-exact e.constant g positive (dvd_of_mod-eq-zero g (meets-mod g e point d h)) in
        product_zero g (q +ℤ sum) positive (omega (arith, ints, exact, dot-divided g positive e.coefficients point d, times-add (pos g) q sum))

-- ---- the solution put in
one_more : (n : ℕ) → 1 + n ≡ suc n
one_more n = omega arith

pub unit_place-is : (cs : List ℤ) → list_any is_unit cs ≡ true → (position_or_len is_unit cs < length cs) × (is_unit (get_or cs (position_or_len is_unit cs) (pos 0)) ≡ true)
unit_place-is [] h = absurd cc
unit_place-is (c ∷ cs) h = by (is_unit c) refl h (unit_place-is cs)
  where
    by : (b : Bool) → is_unit c ≡ b → (b || list_any is_unit cs) ≡ true → (list_any is_unit cs ≡ true → (position_or_len is_unit cs < length cs) × (is_unit (get_or cs (position_or_len is_unit cs) (pos 0)) ≡ true)) → (cond (not b) (1 + position_or_len is_unit cs) 0 < length (c ∷ cs)) × (is_unit (get_or (c ∷ cs) (cond (not b) (1 + position_or_len is_unit cs) 0) (pos 0)) ≡ true)
    by true k t rest = (omega arith, k)
    by false k t rest = (omega (arith, (rest t).0), ap (λ i. is_unit (get_or (c ∷ cs) i (pos 0))) (one_more (position_or_len is_unit cs)) ∙ (rest t).1)

plus_one_cancels : (y : ℤ) → weighed (pos 1) y (neg_ℤ (pos 1 *ℤ y)) (pos 1) ≡ pos 0
plus_one_cancels y = omega (arith, ints)

minus_one_cancels : (y : ℤ) → weighed (pos 1) y (neg_ℤ (negsuc 0 *ℤ y)) (negsuc 0) ≡ pos 0
minus_one_cancels y = omega (arith, ints)

unit_cancels : (x y : ℤ) → is_unit x ≡ true → weighed (pos 1) y (neg_ℤ (x *ℤ y)) x ≡ pos 0
unit_cancels (pos n) y h =
    let is : n ≡ 1 = grind (arith, nat_tests) in
    ap (λ n. weighed (pos 1) y (neg_ℤ (pos n *ℤ y)) (pos n)) is ∙ plus_one_cancels y
unit_cancels (negsuc n) y h =
    let is : n ≡ 0 = grind (arith, nat_tests) in
    ap (λ n. weighed (pos 1) y (neg_ℤ (negsuc n *ℤ y)) (negsuc n)) is ∙ minus_one_cancels y

-- the solution put in changes no value at a point that meets the equation
value-substituted : (n : ℕ) (point : List ℤ) (e r : Affine) → IsWide n e → has_unit e ≡ true → Meets point e → IsWide n r → value (substituted (unit_place e) e r) (remove point (unit_place e)) ≡ value r point
value-substituted n point e r w u h i =
    let v = unit_place e in
    let f = solving_factor v e r in
    let same : length r.coefficients ≡ length e.coefficients = i ∙ sym w in
    let sum = value-combined (pos 1) r f e point same in
    let split = value-without v (combined (pos 1) r f e) point in
    let gone : coefficient (combined (pos 1) r f e) v ≡ pos 0 = weighed_at (pos 1) r.coefficients f e.coefficients v same ∙ unit_cancels (coefficient e v) (coefficient r v) (unit_place-is e.coefficients u).1 in
    omega (arith, ints, sum, split, ap (λ z. z *ℤ get_or point v (pos 0)) gone, zero-*ℤ (get_or point v (pos 0)), ap (λ z. f *ℤ z) h, *ℤ-zero f)

pub substituted-wide : (n : ℕ) (e r : Affine) → IsWide (suc n) e → has_unit e ≡ true → IsWide (suc n) r → IsWide n (substituted (unit_place e) e r)
substituted-wide n e r w u i =
    let v = unit_place e in
    let f = solving_factor v e r in
    let same : length r.coefficients ≡ length e.coefficients = i ∙ sym w in
    length-remove (weighed_lists (pos 1) r.coefficients f e.coefficients) v n (length-weighed_lists (pos 1) r.coefficients f e.coefficients same ∙ i) (omega (arith, (unit_place-is e.coefficients u).0))

-- ---- rounds
-- some integers meet the equations and the rows, all over n variables
abbrev pub AreMet : ℕ → List Affine → List Affine → Type 0
AreMet n es rows = (point : List ℤ) × AllByRecursion (MeetsWide n point) es × AllByRecursion (HoldsWide n point) rows

-- what a round over m variables leaves where integers meet the equations and rows
abbrev pub RoundKeeps : ℕ → Round → Type 0
RoundKeeps m (Finished v) = IsRight v
RoundKeeps m (Solved es rows) = (n : ℕ) → m ≡ suc n → AreMet n es rows
RoundKeeps m (Unsolved rows) = (point : List ℤ) × AllByRecursion (HoldsWide m point) rows

pub everywhere-remove : {X : Type 0} (P : X → Type 0) (xs : List X) (i : ℕ) → AllByRecursion P xs → AllByRecursion P (remove xs i)
everywhere-remove P [] zero h = tt
everywhere-remove P [] (suc i) h = tt
everywhere-remove P (x ∷ xs) zero h = h.1
everywhere-remove P (x ∷ xs) (suc i) h = (h.0, everywhere-remove P xs i h.1)

put_in-met : (n : ℕ) (point : List ℤ) (others rows : List Affine) (e : Affine) → AllByRecursion (MeetsWide (suc n) point) others → AllByRecursion (HoldsWide (suc n) point) rows → MeetsWide (suc n) point e → has_unit e ≡ true → AreMet n (map (substituted (unit_place e) e) others) (map (substituted (unit_place e) e) rows)
put_in-met n point others rows e h k m u = (
  remove point (unit_place e),
  everywhere-map (MeetsWide (suc n) point) (MeetsWide n (remove point (unit_place e))) (substituted (unit_place e) e) (λ r p. (substituted-wide n e r m.0 u p.0, value-substituted (suc n) point e r m.0 u m.1 p.0 ∙ p.1)) others h,
  everywhere-map (HoldsWide (suc n) point) (HoldsWide n (remove point (unit_place e))) (substituted (unit_place e) e) (λ r p. (substituted-wide n e r m.0 u p.0, omega (arith, ints, p.1, value-substituted (suc n) point e r m.0 u m.1 p.0))) rows k,
)

put_in-keeps : (m : ℕ) (point : List ℤ) (es rows : List Affine) (e : Affine) → AllByRecursion (MeetsWide m point) es → AllByRecursion (HoldsWide m point) rows → MeetsWide m point e → has_unit e ≡ true → RoundKeeps m (put_in es rows e)
unfolding put_in
put_in-keeps m point es rows e h k i u =
    by (list_all (is_narrow_substituted (unit_place e) e) (remove es (position_or_len has_unit es)) && list_all (is_narrow_substituted (unit_place e) e) rows)
  where
    by : (b : Bool) → RoundKeeps m (cond b (Solved (map (substituted (unit_place e) e) (remove es (position_or_len has_unit es))) (map (substituted (unit_place e) e) rows)) (Finished TooWide))
    by true = λ n q. put_in-met n point (remove es (position_or_len has_unit es)) rows e
        (subst (λ m. AllByRecursion (MeetsWide m point) (remove es (position_or_len has_unit es))) q (everywhere-remove (MeetsWide m point) es (position_or_len has_unit es) h))
        (subst (λ m. AllByRecursion (HoldsWide m point) rows) q k)
        (subst (λ m. MeetsWide m point e) q i) u
    by false = tt

-- the two rows of an equation
pub dot-negated : (cs ps : List ℤ) → dot (map neg_ℤ cs) ps ≡ neg_ℤ (dot cs ps)
dot-negated [] ps = refl
dot-negated (c ∷ cs) [] = refl
dot-negated (c ∷ cs) (p ∷ ps) = omega (arith, ints, dot-negated cs ps, neg-times c p)

both_rows-hold : (n : ℕ) (point : List ℤ) (e : Affine) → MeetsWide n point e → AllByRecursion (HoldsWide n point) (e ∷ negated e ∷ [])
both_rows-hold n point e h =
    let w : length (map neg_ℤ e.coefficients) ≡ n = length-map e.coefficients neg_ℤ ∙ h.0 in
    ((h.0, omega (arith, ints, h.1)), ((w, omega (arith, ints, h.1, dot-negated e.coefficients point)), tt))

pub found-is : {X : Type 0} (P : X → Type 0) (t : X → Bool) (xs : List X) (x : X) → AllByRecursion P xs → find t xs ≡ Some x → P x × (t x ≡ true)
found-is P t [] x h e = absurd cc
found-is {X} P t (y ∷ ys) x h e = by (t y) refl e (found-is P t ys x h.1)
  where
    by : (b : Bool) → t y ≡ b → cond b (Some y) (find t ys) ≡ Some x → (find t ys ≡ Some x → P x × (t x ≡ true)) → P x × (t x ≡ true)
    by true k m rest = let same : y ≡ x = cc in (subst P same h.0, subst (λ z. t z ≡ true) same k)
    by false k m rest = rest m

round_of-keeps : (m : ℕ) (point : List ℤ) (es rows : List Affine) (found : Option Affine) → find has_unit es ≡ found → AllByRecursion (MeetsWide m point) es → AllByRecursion (HoldsWide m point) rows → RoundKeeps m (round_of es rows found)
round_of-keeps m point es rows None e h k = (point, everywhere-append (HoldsWide m point) rows (flat_map (λ e. e ∷ negated e ∷ []) es) k (everywhere-flat_map (MeetsWide m point) (HoldsWide m point) (λ e. e ∷ negated e ∷ []) (both_rows-hold m point) es h))
round_of-keeps m point es rows (Some x) e h k =
    let is = found-is (MeetsWide m point) has_unit es x h e in
    put_in-keeps m point es rows x h k is.0 is.1

pub round-keeps : (m : ℕ) (point : List ℤ) (equations rows : List Affine) → AllByRecursion (MeetsWide m point) equations → AllByRecursion (HoldsWide m point) rows → RoundKeeps m (round equations rows)
unfolding round reduced
round-keeps m point equations rows h k = by (list_any is_impossible equations) refl
  where
    reduced : AllByRecursion (MeetsWide m point) (map tightened equations)
    reduced = everywhere-map (MeetsWide m point) (MeetsWide m point) tightened (λ e p. (tightened-wide m e p.0, tightened-meets e point p.1)) equations h

    es : List Affine
    es = filter (λ e. not (is_constant e)) (map tightened equations)

    some : AllByRecursion (MeetsWide m point) (filter (λ e. not (is_constant e)) (map tightened equations))
    some = everywhere-like (λ e. MeetsWide m point e × (not (is_constant e) ≡ true)) (MeetsWide m point) (λ e p. p.0) (filter (λ e. not (is_constant e)) (map tightened equations)) (everywhere-filter (MeetsWide m point) (λ e. not (is_constant e)) (map tightened equations) reduced)

    by : (b : Bool) → list_any is_impossible equations ≡ b → RoundKeeps m (round_on rows (cond b None (Some (filter (λ e. not (is_constant e)) (map tightened equations)))))
    by true t = impossible_among-fails equations point t (everywhere-like (MeetsWide m point) (Meets point) (λ e p. p.1) equations h)
    by false t = round_of-keeps m point (filter (λ e. not (is_constant e)) (map tightened equations)) rows (find has_unit (filter (λ e. not (is_constant e)) (map tightened equations))) refl some k

-- where integers meet the equations and rows the verdict is right
pub verdict_on-right : (n : ℕ) (point : List ℤ) (equations rows : List Affine) → AllByRecursion (MeetsWide n point) equations → AllByRecursion (HoldsWide n point) rows → IsRight (verdict_on n equations rows)
unfolding verdict_on
verdict_on-right zero point equations rows h k = by (round equations rows) (round-keeps zero point equations rows h k)
  where
    by : (r : Round) → RoundKeeps zero r → IsRight (elim r [ Finished v ↦ v | Solved es rs ↦ Open | Unsolved rs ↦ verdict_on_rows zero rs ])
    by (Finished v) m = m
    by (Solved es rs) m = tt
    by (Unsolved rs) m = verdict_on_rows-right zero m.0 rs m.1
verdict_on-right (suc n) point equations rows h k = by (round equations rows) (round-keeps (suc n) point equations rows h k) (λ p es rs m i. verdict_on-right n p es rs m i)
  where
    by : (r : Round) → RoundKeeps (suc n) r → ((p : List ℤ) (es rs : List Affine) → AllByRecursion (MeetsWide n p) es → AllByRecursion (HoldsWide n p) rs → IsRight (verdict_on n es rs)) → IsRight (elim r [ Finished v ↦ v | Solved es rs ↦ verdict_on n es rs | Unsolved rs ↦ verdict_on_rows (suc n) rs ])
    by (Finished v) m rest = m
    by (Solved es rs) m rest = let met = m n refl in rest met.0 es rs met.1 met.2
    by (Unsolved rs) m rest = verdict_on_rows-right (suc n) m.0 rs m.1

-- the law: Shown means that no integer point exists
pub shown_has_no_point : (s : Constraints) → AllByRecursion (IsWide s.variables) s.equations → AllByRecursion (IsWide s.variables) s.rows → elimination s ≡ Shown → HasNoIntegerPoint s
shown_has_no_point s w x e point h =
    subst IsRight e (verdict_on-right s.variables point s.equations s.rows (everywhere-both (IsWide s.variables) (Meets point) s.equations w h.equations_hold) (everywhere-both (IsWide s.variables) (Holds point) s.rows x h.rows_hold))
