-- Where the elimination answers Open, rational numbers meet the equations and the rows.
use Rattle.std.proofs.Common.{ℕ, zero, suc, ◌+◌, ◌%◌, ◌<◌, ◌≡◌, ◌==◌, ◌&&◌, Bool, true, false, not, cond, List, [], ◌∷◌, ◌++◌, map, length, ℤ, pos, negsuc, ◌+ℤ◌, ◌*ℤ◌, ◌≤ℤ◌, neg_ℤ, unsigned_abs, Option, Some, None, arith, ap, sym, subst, ◌∙◌, refl}
use Rattle.std.specs.List.{AllByRecursion, filter, flat_map, fold, find, list_all, list_any, remove, insert, position_or_len}
use Rattle.std.specs.Int.{int_div_euclid, ◌∣◌}
use Rattle.std.specs.Ordering.{int_eq}
use Rattle.std.proofs.lemmas.Int.{ints}
use Rattle.std.proofs.lemmas.Bool.Decides.{nat_tests, Decides-int_eq}
use Rattle.std.proofs.lemmas.List.Edits.{length-insert}
use Rattle.std.proofs.lemmas.Nat.Gcd.{dvd_of_mod-eq-zero}
use Rattle.std.proofs.Math.Nat.{mod-zero}
use Rattle.std.proofs.Math.IntN.{*ℤ-zero}
use Rattle.affine_prover.specs.declared.answer.Verdict.TheVariants.{Open, TooWide}
use Rattle.affine_forms.specs.Affine.{Affine, Constraints, dot, value_over, HasRationalPoint}
use Rattle.affine_prover.specs.Elimination.{put_in, round_of, round_on, round, verdict_on, verdict_on_rows, elimination, Round}
use Rattle.affine_prover.specs.RowSets.Rows.{gcd, gcd_of, coefficient, without, tightened}
use Rattle.affine_prover.specs.RowSets.Rows.{is_constant, is_impossible, is_unit, has_unit}
use Rattle.affine_prover.specs.RowSets.Rows.{unit_place, solving_factor, substituted}
use Rattle.affine_prover.specs.RowSets.Rows.{is_narrow_substituted, negated, reduced}
use Rattle.affine_prover.specs.Elimination.Round.{Finished, Solved, Unsolved}
use Rattle.affine_forms.proofs.Integers.{times-add, neg-times, times_assoc}
use Rattle.affine_prover.proofs.OfRowSets.Divisors.{gcd_of-divides, quotient-exact}
use Rattle.affine_prover.proofs.OfRowSets.Tightening.{dot-divided}
use Rattle.affine_prover.proofs.OfRowSets.Everywhere.{everywhere-both, everywhere-like}
use Rattle.affine_prover.proofs.OfRowSets.Everywhere.{everywhere-filter, everywhere-map, both}
use Rattle.affine_prover.proofs.OfRowSets.Widths.{IsWide, tightened-wide}
use Rattle.affine_prover.proofs.OfRowSets.Truth.{all_zero-dot}
use Rattle.affine_prover.proofs.Meeting.{unit_place-is, found-is, dot-negated, everywhere-remove}
use Rattle.affine_prover.proofs.Solving.{RoundWide, round-wide}
use Rattle.affine_prover.proofs.OfRowSets.Fractions.{swap_times, over-insert, over-combined_without}
use Rattle.affine_prover.proofs.OfRowSets.Parts.{parts-append, parts-map, parts-flat_map}
use Rattle.affine_prover.proofs.OfRowSets.Parts.{parts-filter, none-pass}
use Rattle.affine_prover.proofs.OfRowSets.Loosening.{HoldsOver}
use Rattle.affine_prover.proofs.OfRowSets.Returning.{HasRowPoint, times-neg}
use Rattle.affine_prover.proofs.OpenRows.{HasIfOpen, open-carries, verdict_on_rows-has_point}

-- the equation is 0 where each variable is its numerator over d
abbrev pub MeetsOver : ℕ → List ℤ → Affine → Type 0
MeetsOver d ps e = value_over (pos d) e ps ≡ pos 0

-- some rational numbers meet the equations and the rows
pub record HasPoint (n : ℕ) (es rows : List Affine) : Type 0 where
  pub denominator : ℕ
  pub numerators : List ℤ
  pub positive : 0 < denominator
  pub one_each : length numerators ≡ n
  pub equations_hold : AllByRecursion (MeetsOver denominator numerators) es
  pub rows_hold : AllByRecursion (HoldsOver denominator numerators) rows

-- ---- reduced equations
gcd-zero : gcd 0 0 ≡ 0
unfolding gcd
gcd-zero = refl

zeros-gcd : (cs : List ℤ) → AllByRecursion (λ c. c ≡ pos 0) cs → gcd_of cs ≡ 0
zeros-gcd [] h = refl
zeros-gcd (c ∷ cs) h = ap (λ g. fold (λ g c. gcd (unsigned_abs c) g) g cs) (ap (λ c. gcd (unsigned_abs c) 0) h.0 ∙ gcd-zero) ∙ zeros-gcd cs h.1

divided_zeros : (g : ℕ) (cs : List ℤ) → 0 < g → AllByRecursion (λ c. g ∣ unsigned_abs c) cs → list_all (λ c. int_eq c (pos 0)) (map (λ c. int_div_euclid c (pos g)) cs) ≡ true → AllByRecursion (λ c. c ≡ pos 0) cs
divided_zeros g [] l d h = tt
divided_zeros g (c ∷ cs) l d h =
    let parts = both (int_eq (int_div_euclid c (pos g)) (pos 0)) (list_all (λ c. int_eq c (pos 0)) (map (λ c. int_div_euclid c (pos g)) cs)) h in
    let none : int_div_euclid c (pos g) ≡ pos 0 = (Decides-int_eq (int_div_euclid c (pos g)) (pos 0)).0 parts.0 in
    (quotient-exact c g l d.0 ∙ ap (λ q. pos g *ℤ q) none ∙ *ℤ-zero (pos g), divided_zeros g cs l d.1 parts.1)

constant-meets : (d : ℕ) (ps : List ℤ) (e : Affine) → is_constant e ≡ true → unsigned_abs e.constant ≡ 0 → MeetsOver d ps e
constant-meets d ps e t h =
    let none : e.constant ≡ pos 0 = omega (arith, ints) in
    omega (arith, ints, all_zero-dot e.coefficients ps t, ap (λ z. pos d *ℤ z) none, *ℤ-zero (pos d))

divided-meets : (d : ℕ) (ps : List ℤ) (g : ℕ) (e : Affine) → 0 < g → AllByRecursion (λ c. g ∣ unsigned_abs c) e.coefficients → unsigned_abs e.constant % g ≡ 0 → MeetsOver d ps (record { constant = int_div_euclid e.constant (pos g); coefficients = map (λ c. int_div_euclid c (pos g)) e.coefficients }) → MeetsOver d ps e
divided-meets d ps g e l v m h =
    let q = int_div_euclid e.constant (pos g) in
    let sum = dot (map (λ c. int_div_euclid c (pos g)) e.coefficients) ps in
    let exact = ap (λ z. pos d *ℤ z) (quotient-exact e.constant g l (dvd_of_mod-eq-zero g m)) ∙ swap_times (pos d) (pos g) q in
    let divided = dot-divided g l e.coefficients ps v in
    let parts = times-add (pos g) (pos d *ℤ q) sum in
    let none = ap (λ z. pos g *ℤ z) h ∙ *ℤ-zero (pos g) in
    omega (arith, ints, exact, divided, parts, none)

equation-loosens : (d : ℕ) (ps : List ℤ) (e : Affine) → is_impossible e ≡ false → (not (is_constant (tightened e)) ≡ true → MeetsOver d ps (tightened e)) → MeetsOver d ps e
equation-loosens d ps e i h = by (gcd_of e.coefficients) (gcd_of-divides e.coefficients) (zeros-gcd e.coefficients) i (gcd_of e.coefficients == 0) refl h
  where
    divided : ℕ → Affine
    divided g = record { constant = int_div_euclid e.constant (pos g); coefficients = map (λ c. int_div_euclid c (pos g)) e.coefficients }

    undivided : (g : ℕ) → g ≡ 0 → unsigned_abs e.constant % g ≡ 0 → (c : Bool) → is_constant e ≡ c → (not c ≡ true → MeetsOver d ps e) → MeetsOver d ps e
    undivided g z m true u k = constant-meets d ps e u (sym (mod-zero (unsigned_abs e.constant)) ∙ ap (λ g. unsigned_abs e.constant % g) (sym z) ∙ m)
    undivided g z m false u k = k refl

    whole : (g : ℕ) → 0 < g → AllByRecursion (λ c. g ∣ unsigned_abs c) e.coefficients → (AllByRecursion (λ c. c ≡ pos 0) e.coefficients → g ≡ 0) → unsigned_abs e.constant % g ≡ 0 → (c : Bool) → is_constant (divided g) ≡ c → (not c ≡ true → MeetsOver d ps (divided g)) → MeetsOver d ps e
    whole g l v z m true u k = let none = z (divided_zeros g e.coefficients l v u) in absurd (omega arith)
    whole g l v z m false u k = divided-meets d ps g e l v m (k refl)

    by : (g : ℕ) → AllByRecursion (λ c. g ∣ unsigned_abs c) e.coefficients → (AllByRecursion (λ c. c ≡ pos 0) e.coefficients → g ≡ 0) → not (unsigned_abs e.constant % g == 0) ≡ false → (b : Bool) → (g == 0) ≡ b → (not (is_constant (cond b e (divided g))) ≡ true → MeetsOver d ps (cond b e (divided g))) → MeetsOver d ps e
    by g v z m true t k = undivided g (grind (arith, nat_tests)) (grind (arith, nat_tests)) (is_constant e) refl k
    by g v z m false t k = whole g (grind (arith, nat_tests)) v z (grind (arith, nat_tests)) (is_constant (divided g)) refl k

reduced-loosens : (d : ℕ) (ps : List ℤ) (es kept : List Affine) → reduced es ≡ Some kept → AllByRecursion (MeetsOver d ps) kept → AllByRecursion (MeetsOver d ps) es
unfolding reduced
reduced-loosens d ps es kept e h = by (list_any is_impossible es) refl e
  where
    by : (b : Bool) → list_any is_impossible es ≡ b → cond b None (Some (filter (λ e. not (is_constant e)) (map tightened es))) ≡ Some kept → AllByRecursion (MeetsOver d ps) es
    by true t m = absurd cc
    by false t m =
        let same : kept ≡ filter (λ e. not (is_constant e)) (map tightened es) = cc in
        let some = parts-map (λ e. not (is_constant e) ≡ true → MeetsOver d ps e) tightened es (parts-filter (MeetsOver d ps) (λ e. not (is_constant e)) (map tightened es) (subst (AllByRecursion (MeetsOver d ps)) same h)) in
        everywhere-like (λ e. (is_impossible e ≡ false) × (not (is_constant (tightened e)) ≡ true → MeetsOver d ps (tightened e))) (MeetsOver d ps) (λ e k. equation-loosens d ps e k.0 k.1) es
        (everywhere-both (λ e. is_impossible e ≡ false) (λ e. not (is_constant (tightened e)) ≡ true → MeetsOver d ps (tightened e)) es (none-pass is_impossible es t) some)

-- ---- two rows for each equation
two_rows-meet : (d : ℕ) (ps : List ℤ) (e : Affine) → AllByRecursion (HoldsOver d ps) (e ∷ negated e ∷ []) → MeetsOver d ps e
two_rows-meet d ps e h = omega (arith, ints, h.0, h.1.0, dot-negated e.coefficients ps, times-neg (pos d) e.constant)

unsolved-returns : (n : ℕ) (es rows : List Affine) → HasRowPoint n (rows ++ flat_map (λ e. e ∷ negated e ∷ []) es) → HasPoint n es rows
unsolved-returns n es rows p =
    let P : Affine → Type 0 = HoldsOver p.denominator p.numerators in
    let parts = parts-append P rows (flat_map (λ e. e ∷ negated e ∷ []) es) p.rows_hold in
    record {
      denominator = p.denominator;
      numerators = p.numerators;
      positive = p.positive;
      one_each = p.one_each;
      equations_hold = everywhere-like (λ e. AllByRecursion P (e ∷ negated e ∷ [])) (MeetsOver p.denominator p.numerators) (two_rows-meet p.denominator p.numerators) es (parts-flat_map P (λ e. e ∷ negated e ∷ []) es parts.1);
      rows_hold = parts.0;
    }

-- ---- an equation solved: its variable is computed from the others
plus_one_solves : (y : ℤ) → pos 1 *ℤ neg_ℤ (pos 1 *ℤ y) +ℤ y ≡ pos 0
plus_one_solves y = omega (arith, ints)

minus_one_solves : (y : ℤ) → negsuc 0 *ℤ neg_ℤ (negsuc 0 *ℤ y) +ℤ y ≡ pos 0
minus_one_solves y = omega (arith, ints)

unit_solves : (c y : ℤ) → is_unit c ≡ true → c *ℤ neg_ℤ (c *ℤ y) +ℤ y ≡ pos 0
unit_solves (pos n) y h =
    let is : n ≡ 1 = grind (arith, nat_tests) in
    ap (λ n. pos n *ℤ neg_ℤ (pos n *ℤ y) +ℤ y) is ∙ plus_one_solves y
unit_solves (negsuc n) y h =
    let is : n ≡ 0 = grind (arith, nat_tests) in
    ap (λ n. negsuc n *ℤ neg_ℤ (negsuc n *ℤ y) +ℤ y) is ∙ minus_one_solves y

-- the numerator of the variable for which an equation is solved
abbrev solution : ℕ → Affine → List ℤ → ℤ
solution d e qs = neg_ℤ (coefficient e (unit_place e) *ℤ value_over (pos d) (without (unit_place e) e) qs)

over-substituted : (n v d : ℕ) (qs : List ℤ) (e r : Affine) → v < suc n → length qs ≡ n → IsWide (suc n) e → IsWide (suc n) r → value_over (pos d) r (insert qs v (neg_ℤ (coefficient e v *ℤ value_over (pos d) (without v e) qs))) ≡ value_over (pos d) (substituted v e r) qs
over-substituted n v d qs e r l q w u =
    let rest = value_over (pos d) (without v e) qs in
    let x = neg_ℤ (coefficient e v *ℤ rest) in
    let left = over-insert n v (pos d) r qs x l u q in
    let right = over-combined_without n v (pos d) (pos 1) r (solving_factor v e r) e qs l u w in
    let one = times-neg (coefficient r v) (coefficient e v *ℤ rest) in
    let other = neg-times (coefficient e v *ℤ coefficient r v) rest in
    let moved = times_assoc (coefficient e v) (coefficient r v) rest in
    let swapped = swap_times (coefficient r v) (coefficient e v) rest in
    omega (arith, ints, left, right, one, other, moved, swapped)

equation-solved : (n d : ℕ) (qs : List ℤ) (e : Affine) → length qs ≡ n → IsWide (suc n) e → has_unit e ≡ true → MeetsOver d (insert qs (unit_place e) (solution d e qs)) e
equation-solved n d qs e q w u =
    let is = unit_place-is e.coefficients u in
    over-insert n (unit_place e) (pos d) e qs (solution d e qs) (omega (arith, is.0)) w q ∙ unit_solves (coefficient e (unit_place e)) (value_over (pos d) (without (unit_place e) e) qs) is.1

one_more : (n : ℕ) → 1 + n ≡ suc n
one_more n = omega arith

-- what holds of the found element and of all others holds of all
found-returns : {X : Type 0} (P : X → Type 0) (t : X → Bool) (xs : List X) (x : X) → find t xs ≡ Some x → P x → AllByRecursion P (remove xs (position_or_len t xs)) → AllByRecursion P xs
found-returns P t [] x e p h = tt
found-returns {X} P t (y ∷ ys) x e p h = by (t y) refl e h (found-returns P t ys x)
  where
    by : (b : Bool) → t y ≡ b → cond b (Some y) (find t ys) ≡ Some x → AllByRecursion P (remove (y ∷ ys) (cond (not b) (1 + position_or_len t ys) 0)) → (find t ys ≡ Some x → P x → AllByRecursion P (remove ys (position_or_len t ys)) → AllByRecursion P ys) → AllByRecursion P (y ∷ ys)
    by true k m r rest = let same : x ≡ y = cc in (subst P same p, r)
    by false k m r rest = let next = subst (λ i. AllByRecursion P (remove (y ∷ ys) i)) (one_more (position_or_len t ys)) r in (next.0, rest m p next.1)

-- numbers that meet what the solution is put into, and the solution, meet the equations and the rows
put_in-returns : (n : ℕ) (es rows : List Affine) (e : Affine) → find has_unit es ≡ Some e → AllByRecursion (IsWide (suc n)) es → AllByRecursion (IsWide (suc n)) rows → HasPoint n (map (substituted (unit_place e) e) (remove es (position_or_len has_unit es))) (map (substituted (unit_place e) e) rows) → HasPoint (suc n) es rows
put_in-returns n es rows e f w u p =
    let d = p.denominator in
    let qs = p.numerators in
    let v = unit_place e in
    let others = remove es (position_or_len has_unit es) in
    let is = found-is (IsWide (suc n)) has_unit es e w f in
    let place = unit_place-is e.coefficients is.1 in
    let below : v < suc n = omega (arith, place.0, is.0) in
    let point = insert qs v (solution d e qs) in
    record {
      denominator = d;
      numerators = point;
      positive = p.positive;
      one_each = length-insert qs v (solution d e qs) (omega (arith, p.one_each)) ∙ omega (arith, p.one_each);
      equations_hold = found-returns (MeetsOver d point) has_unit es e f (equation-solved n d qs e p.one_each is.0 is.1)
          (everywhere-like (λ r. IsWide (suc n) r × MeetsOver d qs (substituted v e r)) (MeetsOver d point) (λ r k. over-substituted n v d qs e r below p.one_each is.0 k.0 ∙ k.1) others
          (everywhere-both (IsWide (suc n)) (λ r. MeetsOver d qs (substituted v e r)) others (everywhere-remove (IsWide (suc n)) es (position_or_len has_unit es) w) (parts-map (MeetsOver d qs) (substituted v e) others p.equations_hold)));
      rows_hold = everywhere-like (λ r. IsWide (suc n) r × HoldsOver d qs (substituted v e r)) (HoldsOver d point) (λ r k. subst (λ z. pos 0 ≤ℤ z) (sym (over-substituted n v d qs e r below p.one_each is.0 k.0)) k.1) rows
          (everywhere-both (IsWide (suc n)) (λ r. HoldsOver d qs (substituted v e r)) rows u (parts-map (HoldsOver d qs) (substituted v e) rows p.rows_hold));
    }

-- ---- rounds
-- what a round over m variables gives: X from a point of what it leaves
abbrev RoundGives : ℕ → Type 0 → Round → Type 0
RoundGives m X (Finished v) = HasIfOpen X v
RoundGives m X (Solved es rows) = (n : ℕ) × (m ≡ suc n) × (HasPoint n es rows → X)
RoundGives m X (Unsolved rows) = HasRowPoint m rows → X

round-carries : (m : ℕ) (X Y : Type 0) → (X → Y) → (r : Round) → RoundGives m X r → RoundGives m Y r
round-carries m X Y f (Finished v) h = open-carries X Y f v h
round-carries m X Y f (Solved es rows) h = (h.0, h.1, λ p. f (h.2 p))
round-carries m X Y f (Unsolved rows) h = λ p. f (h p)

put_in-gives : (m : ℕ) (es rows : List Affine) (e : Affine) → find has_unit es ≡ Some e → AllByRecursion (IsWide m) es → AllByRecursion (IsWide m) rows → RoundGives m (HasPoint m es rows) (put_in es rows e)
unfolding put_in
put_in-gives zero es rows e f w u =
    let is = found-is (IsWide 0) has_unit es e w f in
    absurd (omega (arith, is.0, (unit_place-is e.coefficients is.1).0))
put_in-gives (suc n) es rows e f w u =
    by (list_all (is_narrow_substituted (unit_place e) e) (remove es (position_or_len has_unit es)) && list_all (is_narrow_substituted (unit_place e) e) rows)
  where
    by : (b : Bool) → RoundGives (suc n) (HasPoint (suc n) es rows) (cond b (Solved (map (substituted (unit_place e) e) (remove es (position_or_len has_unit es))) (map (substituted (unit_place e) e) rows)) (Finished TooWide))
    by true = (n, refl, put_in-returns n es rows e f w u)
    by false = tt

round_of-gives : (m : ℕ) (es rows : List Affine) (found : Option Affine) → find has_unit es ≡ found → AllByRecursion (IsWide m) es → AllByRecursion (IsWide m) rows → RoundGives m (HasPoint m es rows) (round_of es rows found)
round_of-gives m es rows None e w u = unsolved-returns m es rows
round_of-gives m es rows (Some x) e w u = put_in-gives m es rows x e w u

reduced-wide : (m : ℕ) (es kept : List Affine) → AllByRecursion (IsWide m) es → reduced es ≡ Some kept → AllByRecursion (IsWide m) kept
unfolding reduced
reduced-wide m es kept w e = by (list_any is_impossible es) e
  where
    by : (b : Bool) → cond b None (Some (filter (λ e. not (is_constant e)) (map tightened es))) ≡ Some kept → AllByRecursion (IsWide m) kept
    by true k = absurd cc
    by false k =
        let same : kept ≡ filter (λ e. not (is_constant e)) (map tightened es) = cc in
        subst (AllByRecursion (IsWide m)) (sym same)
        (everywhere-like (λ e. IsWide m e × (not (is_constant e) ≡ true)) (IsWide m) (λ e p. p.0) (filter (λ e. not (is_constant e)) (map tightened es))
        (everywhere-filter (IsWide m) (λ e. not (is_constant e)) (map tightened es) (everywhere-map (IsWide m) (IsWide m) tightened (tightened-wide m) es w)))

reduced-returns : (n : ℕ) (es kept rows : List Affine) → reduced es ≡ Some kept → HasPoint n kept rows → HasPoint n es rows
reduced-returns n es kept rows e p = record {
  denominator = p.denominator;
  numerators = p.numerators;
  positive = p.positive;
  one_each = p.one_each;
  equations_hold = reduced-loosens p.denominator p.numerators es kept e p.equations_hold;
  rows_hold = p.rows_hold;
}

round_on-gives : (m : ℕ) (es rows : List Affine) (o : Option (List Affine)) → reduced es ≡ o → AllByRecursion (IsWide m) es → AllByRecursion (IsWide m) rows → RoundGives m (HasPoint m es rows) (round_on rows o)
round_on-gives m es rows None e w u = tt
round_on-gives m es rows (Some kept) e w u =
    round-carries m (HasPoint m kept rows) (HasPoint m es rows) (reduced-returns m es kept rows e) (round_of kept rows (find has_unit kept))
    (round_of-gives m kept rows (find has_unit kept) refl (reduced-wide m es kept w e) u)

round-gives : (m : ℕ) (es rows : List Affine) → AllByRecursion (IsWide m) es → AllByRecursion (IsWide m) rows → RoundGives m (HasPoint m es rows) (round es rows)
unfolding round
round-gives m es rows w u = round_on-gives m es rows (reduced es) refl w u

-- ---- the verdict
verdict_on-has_point : (n : ℕ) (es rows : List Affine) → AllByRecursion (IsWide n) es → AllByRecursion (IsWide n) rows → HasIfOpen (HasPoint n es rows) (verdict_on n es rows)
unfolding verdict_on
verdict_on-has_point zero es rows w u = by (round es rows) (round-gives zero es rows w u) (round-wide zero es rows w u)
  where
    by : (r : Round) → RoundGives zero (HasPoint zero es rows) r → RoundWide zero r → HasIfOpen (HasPoint zero es rows) (elim r [ Finished v ↦ v | Solved os rs ↦ Open | Unsolved rs ↦ verdict_on_rows zero rs ])
    by (Finished v) g k = g
    by (Solved os rs) g k = let none : zero ≡ suc g.0 = g.1 in absurd (omega arith)
    by (Unsolved rs) g k = open-carries (HasRowPoint zero rs) (HasPoint zero es rows) g (verdict_on_rows zero rs) (verdict_on_rows-has_point zero rs k)
verdict_on-has_point (suc n) es rows w u = by (round es rows) (round-gives (suc n) es rows w u) (round-wide (suc n) es rows w u) (λ os rs k m. verdict_on-has_point n os rs k m)
  where
    by : (r : Round) → RoundGives (suc n) (HasPoint (suc n) es rows) r → RoundWide (suc n) r → ((os rs : List Affine) → AllByRecursion (IsWide n) os → AllByRecursion (IsWide n) rs → HasIfOpen (HasPoint n os rs) (verdict_on n os rs)) → HasIfOpen (HasPoint (suc n) es rows) (elim r [ Finished v ↦ v | Solved os rs ↦ verdict_on n os rs | Unsolved rs ↦ verdict_on_rows (suc n) rs ])
    by (Finished v) g k rest = g
    by (Solved os rs) g k rest =
        let same : g.0 ≡ n = let e : suc n ≡ suc g.0 = g.1 in omega arith in
        let wide = k n refl in
        open-carries (HasPoint n os rs) (HasPoint (suc n) es rows) (subst (λ m. HasPoint m os rs → HasPoint (suc n) es rows) same g.2) (verdict_on n os rs) (rest os rs wide.0 wide.1)
    by (Unsolved rs) g k rest = open-carries (HasRowPoint (suc n) rs) (HasPoint (suc n) es rows) g (verdict_on_rows (suc n) rs) (verdict_on_rows-has_point (suc n) rs k)

-- the law: Open means that a rational point exists
pub open_has_a_point : (s : Constraints) → AllByRecursion (IsWide s.variables) s.equations → AllByRecursion (IsWide s.variables) s.rows → elimination s ≡ Open → HasRationalPoint s
open_has_a_point s w u e =
    let p = subst (HasIfOpen (HasPoint s.variables s.equations s.rows)) e (verdict_on-has_point s.variables s.equations s.rows w u) in
    (p.denominator, p.numerators, record { positive = p.positive; one_each = p.one_each; equations_hold = p.equations_hold; rows_hold = p.rows_hold })
