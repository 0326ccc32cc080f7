-- What the methods of a row need: narrow numbers stay narrow, and a row whose gcd is 0 or 1 is tight.
use Rattle.std.proofs.Common.{ℕ, zero, suc, ◌+◌, ◌^◌, ◌<◌, ◌≤◌, ◌≡◌, ◌==◌, ◌&&◌, Bool, true, false, cond, List, [], ◌∷◌, map, length, ℤ, pos, negsuc, ◌*ℤ◌, neg_ℤ, unsigned_abs, Some, None, arith, ap, sym, subst, ◌∙◌, refl}
use Rattle.std.specs.List.{AllByRecursion, list_all, list_any, flat_map, fold, remove, position, position_or_len}
use Rattle.std.proofs.Common.{ltb, not, ◌||◌, ◌++◌, reverse, append_assoc}
use Rattle.std.specs.Prelude.{is_some}
use Rattle.std.proofs.lemmas.Grind.{flat_map-append}
use Rattle.std.proofs.lemmas.List.Sorted.{IsPermutation-reverse, list_any-IsPermutation}
use Rattle.std.specs.Int.{int_div_euclid}
use Rattle.std.specs.Ordering.{int_eq}
use Rattle.std.proofs.lemmas.Int.{ints}
use Rattle.std.proofs.lemmas.Bool.Decides.{nat_tests}
use Rattle.std.proofs.lemmas.Nat.Gcd.{le_of_dvd}
use Rattle.std.proofs.Math.Nat.{div-le_self}
use Rattle.affine_forms.specs.Affine.{Affine}
use Rattle.affine_prover.specs.RowSets.Shapes.{IsNarrow, AreNarrow, is_present}
use Rattle.affine_forms.specs.Bounds.{is_narrow}
use Rattle.affine_prover.specs.RowSets.Rows.{gcd, gcd_of, tightened, weighed, weighed_lists}
use Rattle.affine_prover.specs.RowSets.Rows.{is_narrow_weighed, are_narrow_weighed, combined}
use Rattle.affine_prover.specs.RowSets.Rows.{is_narrow_combined, same_list, without, negated}
use Rattle.affine_prover.proofs.OfRowSets.Divisors.{gcd-is}
use Rattle.affine_prover.proofs.OfRowSets.Everywhere.{both, everywhere-map}
use Rattle.affine_prover.proofs.OfRowSets.Narrow.{some-kept, none-kept}
use Rattle.affine_prover.proofs.OfRowSets.Widths.{length-weighed_lists}
use lib.Pointwise.{pointwise}

gcd-zero : gcd 0 0 ≡ 0
unfolding gcd
gcd-zero = refl

pub gcd-at_most : (m a b : ℕ) → a ≤ m → b ≤ m → gcd a b ≤ m
gcd-at_most m zero zero h k = omega (arith, gcd-zero)
gcd-at_most m zero (suc b) h k = omega (arith, le_of_dvd (omega arith) (gcd-is zero (suc b)).1)
gcd-at_most m (suc a) b h k = omega (arith, le_of_dvd (omega arith) (gcd-is (suc a) b).0)

gcd_fold-at_most : (m g : ℕ) (cs : List ℤ) → g ≤ m → AllByRecursion (λ c. unsigned_abs c ≤ m) cs → fold (λ g c. gcd (unsigned_abs c) g) g cs ≤ m
gcd_fold-at_most m g [] h k = h
gcd_fold-at_most m g (c ∷ cs) h k = gcd_fold-at_most m (gcd (unsigned_abs c) g) cs (gcd-at_most m (unsigned_abs c) g k.0 h) k.1

pub gcd_of-narrow : (cs : List ℤ) → AreNarrow cs → gcd_of cs ≤ 2 ^ 100
gcd_of-narrow cs h = gcd_fold-at_most (2 ^ 100) 0 cs (omega arith) h

quotient-size : (c : ℤ) (g : ℕ) → 1 < g → unsigned_abs (int_div_euclid c (pos g)) ≤ unsigned_abs c
quotient-size (pos a) g h = div-le_self a g
quotient-size (negsuc a) g h = omega (arith, div-le_self a g)

pub quotient-narrow : (m : ℕ) (c : ℤ) (g : ℕ) → 1 < g → unsigned_abs c ≤ m → unsigned_abs (int_div_euclid c (pos g)) ≤ m
quotient-narrow m c g h k = omega (arith, quotient-size c g h)

pub quotients-narrow : (cs : List ℤ) (g : ℕ) → 1 < g → AreNarrow cs → AreNarrow (map (λ c. int_div_euclid c (pos g)) cs)
quotients-narrow cs g h k = everywhere-map IsNarrow IsNarrow (λ c. int_div_euclid c (pos g)) (λ c n. quotient-narrow (2 ^ 100) c g h n) cs k

pub tightened-above : (a : Affine) (g : ℕ) → g ≡ gcd_of a.coefficients → 1 < g → tightened a ≡ record { constant = int_div_euclid a.constant (pos g); coefficients = map (λ c. int_div_euclid c (pos g)) a.coefficients }
tightened-above a g e h =
    let test : (g == 0) ≡ false = grind (arith, nat_tests) in
    ap (λ n. cond (n == 0) a (record { constant = int_div_euclid a.constant (pos n); coefficients = map (λ c. int_div_euclid c (pos n)) a.coefficients })) (sym e)
    ∙ ap (λ t. cond t a (record { constant = int_div_euclid a.constant (pos g); coefficients = map (λ c. int_div_euclid c (pos g)) a.coefficients })) test

by_one : (c : ℤ) → int_div_euclid c (pos 1) ≡ c
by_one (pos a) = omega (arith, ints)
by_one (negsuc a) = omega (arith, ints)

all_by_one : (cs : List ℤ) → map (λ c. int_div_euclid c (pos 1)) cs ≡ cs
all_by_one [] = refl
all_by_one (c ∷ cs) = let here = by_one c in let rest = all_by_one cs in cc

pub tightened-same : (a : Affine) (g : ℕ) → g ≡ gcd_of a.coefficients → g ≤ 1 → a ≡ tightened a
tightened-same a zero e h = ap (λ n. cond (n == 0) a (record { constant = int_div_euclid a.constant (pos n); coefficients = map (λ c. int_div_euclid c (pos n)) a.coefficients })) e
tightened-same a (suc zero) e h =
    let k = by_one a.constant in
    let cs = all_by_one a.coefficients in
    let same : a ≡ record { constant = int_div_euclid a.constant (pos 1); coefficients = map (λ c. int_div_euclid c (pos 1)) a.coefficients } = λ i. record { constant = sym k i; coefficients = sym cs i } in
    same ∙ ap (λ n. cond (n == 0) a (record { constant = int_div_euclid a.constant (pos n); coefficients = map (λ c. int_div_euclid c (pos n)) a.coefficients })) e
tightened-same a (suc (suc g)) e h = absurd (omega arith)

pub same_list-is : (xs ys : List ℤ) → pointwise int_eq xs ys ≡ same_list xs ys
same_list-is [] [] = refl
same_list-is [] (y ∷ ys) = refl
same_list-is (x ∷ xs) [] = refl
same_list-is (x ∷ xs) (y ∷ ys) = ap (λ t. int_eq x y && t) (same_list-is xs ys)

pub affine_same : {k l : ℤ} {cs ds : List ℤ} → k ≡ l → cs ≡ ds → ◌≡◌ {A = Affine} (record { constant = k; coefficients = cs }) (record { constant = l; coefficients = ds })
affine_same e f = λ i. record { constant = e i; coefficients = f i }

-- ---- combinations
pub narrow-is : (z : ℤ) → is_narrow z ≡ true → IsNarrow z
narrow-is z e = grind (arith, nat_tests)

weighed-narrow : (f x g y : ℤ) → is_narrow_weighed f x g y ≡ true → IsNarrow (weighed f x g y)
weighed-narrow f x g y e = narrow-is (weighed f x g y) (both (is_narrow (g *ℤ y)) (is_narrow (weighed f x g y)) (both (is_narrow (f *ℤ x)) (is_narrow (g *ℤ y) && is_narrow (weighed f x g y)) e).1).1

weighed_lists-narrow : (f : ℤ) (xs : List ℤ) (g : ℤ) (ys : List ℤ) → are_narrow_weighed f xs g ys ≡ true → AreNarrow (weighed_lists f xs g ys)
weighed_lists-narrow f [] g ys e = tt
weighed_lists-narrow f (x ∷ xs) g [] e = tt
weighed_lists-narrow f (x ∷ xs) g (y ∷ ys) e =
    let parts = both (is_narrow_weighed f x g y) (are_narrow_weighed f xs g ys) e in
    (weighed-narrow f x g y parts.0, weighed_lists-narrow f xs g ys parts.1)

-- a combination of which both parts were made
pub combined-made : (f : ℤ) (a : Affine) (g : ℤ) (b : Affine) (k : ℤ) (zs : List ℤ) → Some k ≡ cond (is_narrow_weighed f a.constant g b.constant) (Some (weighed f a.constant g b.constant)) None → Some zs ≡ cond (are_narrow_weighed f a.coefficients g b.coefficients) (Some (weighed_lists f a.coefficients g b.coefficients)) None → (IsNarrow k × AreNarrow zs) × (Some (record { constant = k; coefficients = zs }) ≡ cond (is_narrow_combined f a g b) (Some (combined f a g b)) None)
combined-made f a g b k zs h i =
    let one = some-kept (is_narrow_weighed f a.constant g b.constant) (weighed f a.constant g b.constant) k h in
    let two = some-kept (are_narrow_weighed f a.coefficients g b.coefficients) (weighed_lists f a.coefficients g b.coefficients) zs i in (
      (subst IsNarrow (sym one.1) (weighed-narrow f a.constant g b.constant one.0), subst AreNarrow (sym two.1) (weighed_lists-narrow f a.coefficients g b.coefficients two.0)),
      ap Some (affine_same one.1 two.1) ∙ sym (ap (λ t. cond (t && are_narrow_weighed f a.coefficients g b.coefficients) (Some (combined f a g b)) None) one.0 ∙ ap (λ t. cond t (Some (combined f a g b)) None) two.0),
    )

pub combined-none : (f : ℤ) (a : Affine) (g : ℤ) (b : Affine) (k : ℤ) → Some k ≡ cond (is_narrow_weighed f a.constant g b.constant) (Some (weighed f a.constant g b.constant)) None → None ≡ cond (are_narrow_weighed f a.coefficients g b.coefficients) (Some (weighed_lists f a.coefficients g b.coefficients)) None → None ≡ cond (is_narrow_combined f a g b) (Some (combined f a g b)) None
combined-none f a g b k h i =
    let one = some-kept (is_narrow_weighed f a.constant g b.constant) (weighed f a.constant g b.constant) k h in
    let two = none-kept (are_narrow_weighed f a.coefficients g b.coefficients) (weighed_lists f a.coefficients g b.coefficients) i in
    sym (ap (λ t. cond (t && are_narrow_weighed f a.coefficients g b.coefficients) (Some (combined f a g b)) None) one.0 ∙ ap (λ t. cond t (Some (combined f a g b)) None) two)

-- the list that was made, from what a test and the list say apart
pub kept-list : (b n : Bool) (zs ws : List ℤ) → b ≡ n → b ≡ true → zs ≡ ws → Some zs ≡ cond n (Some ws) None
kept-list b n zs ws e t is = ap Some is ∙ ap (λ m. cond m (Some ws) None) (sym t ∙ e)

pub failed-list : (b n : Bool) (ws : List ℤ) → b ≡ n → b ≡ false → None ≡ cond n (Some ws) None
failed-list b n ws e f = ap (λ m. cond m (Some ws) None) (sym f ∙ e)

removed-narrow : (zs : List ℤ) (v : ℕ) → AreNarrow zs → AreNarrow (remove zs v)
removed-narrow [] zero h = tt
removed-narrow [] (suc v) h = tt
removed-narrow (z ∷ zs) zero h = h.1
removed-narrow (z ∷ zs) (suc v) h = (h.0, removed-narrow zs v h.1)

-- a combination of which both parts were made, and a variable taken out
pub removed-made : (f : ℤ) (a : Affine) (g : ℤ) (b : Affine) (v : ℕ) (k : ℤ) (zs rest : List ℤ) → Some k ≡ cond (is_narrow_weighed f a.constant g b.constant) (Some (weighed f a.constant g b.constant)) None → Some zs ≡ cond (are_narrow_weighed f a.coefficients g b.coefficients) (Some (weighed_lists f a.coefficients g b.coefficients)) None → rest ≡ remove zs v → (IsNarrow k × AreNarrow rest) × (Some (record { constant = k; coefficients = rest }) ≡ cond (is_narrow_combined f a g b) (Some (without v (combined f a g b))) None)
removed-made f a g b v k zs rest h i e =
    let both = combined-made f a g b k zs h i in
    let is = some-kept (is_narrow_combined f a g b) (combined f a g b) (record { constant = k; coefficients = zs }) both.1 in (
      (both.0.0, subst AreNarrow (sym e) (removed-narrow zs v both.0.1)),
      ap (λ cs. Some (record { constant = k; coefficients = cs })) e ∙ ap (λ r. Some (without v r)) is.1 ∙ sym (ap (λ t. cond t (Some (without v (combined f a g b))) None) is.0),
    )

pub removed-none : (f : ℤ) (a : Affine) (g : ℤ) (b : Affine) (v : ℕ) (k : ℤ) → Some k ≡ cond (is_narrow_weighed f a.constant g b.constant) (Some (weighed f a.constant g b.constant)) None → None ≡ cond (are_narrow_weighed f a.coefficients g b.coefficients) (Some (weighed_lists f a.coefficients g b.coefficients)) None → None ≡ cond (is_narrow_combined f a g b) (Some (without v (combined f a g b))) None
removed-none f a g b v k h i =
    let wide = none-kept (is_narrow_combined f a g b) (combined f a g b) (combined-none f a g b k h i) in
    sym (ap (λ t. cond t (Some (without v (combined f a g b))) None) wide)

pub combined-width : (f : ℤ) (a : Affine) (g : ℤ) (b r : Affine) → length a.coefficients ≡ length b.coefficients → Some r ≡ cond (is_narrow_combined f a g b) (Some (combined f a g b)) None → length r.coefficients ≡ length a.coefficients
combined-width f a g b r e h =
    let is = some-kept (is_narrow_combined f a g b) (combined f a g b) r h in
    ap (λ (r : Affine). length r.coefficients) is.1 ∙ length-weighed_lists f a.coefficients g b.coefficients e

neg-size : (z : ℤ) → unsigned_abs (neg_ℤ z) ≡ unsigned_abs z
neg-size (pos zero) = refl
neg-size (pos (suc n)) = refl
neg-size (negsuc n) = refl

pub neg-narrow : (z : ℤ) → IsNarrow z → IsNarrow (neg_ℤ z)
neg-narrow z h = omega (arith, neg-size z)

pub negs-narrow : (zs : List ℤ) → AreNarrow zs → AreNarrow (map neg_ℤ zs)
negs-narrow zs h = everywhere-map IsNarrow IsNarrow neg_ℤ neg-narrow zs h

-- ---- the first place
place-at_most : (p : ℤ → Bool) (xs : List ℤ) → position_or_len p xs ≤ length xs
place-at_most p [] = omega arith
place-at_most p (x ∷ xs) = by (p x) (place-at_most p xs)
  where
    by : (b : Bool) → position_or_len p xs ≤ length xs → cond (not b) (1 + position_or_len p xs) 0 ≤ suc (length xs)
    by true h = omega arith
    by false h = omega arith

pub place-some : (p : ℤ → Bool) (xs : List ℤ) (i : ℕ) → Some i ≡ position p xs → i ≡ position_or_len p xs
place-some p xs i e = (some-kept (ltb (position_or_len p xs) (length xs)) (position_or_len p xs) i e).1

pub place-none : (p : ℤ → Bool) (xs : List ℤ) → None ≡ position p xs → length xs ≡ position_or_len p xs
place-none p xs e =
    let not_below = none-kept (ltb (position_or_len p xs) (length xs)) (position_or_len p xs) e in
    let most = place-at_most p xs in
    grind (arith, nat_tests)

-- a place is found where an element passes
below-any : (p : ℤ → Bool) (xs : List ℤ) → ltb (position_or_len p xs) (length xs) ≡ list_any p xs
below-any p [] = refl
below-any p (x ∷ xs) = by (p x) (below-any p xs)
  where
    least : (m : ℕ) → ltb 0 (suc m) ≡ true
    least m = grind (arith, nat_tests)

    further : (n m : ℕ) (b : Bool) → ltb n m ≡ b → ltb (1 + n) (suc m) ≡ b
    further n m true e = grind (arith, nat_tests)
    further n m false e = grind (arith, nat_tests)

    by : (b : Bool) → ltb (position_or_len p xs) (length xs) ≡ list_any p xs →
        ltb (cond (not b) (1 + position_or_len p xs) 0) (suc (length xs)) ≡ (b || list_any p xs)
    by true h = least (length xs)
    by false h = further (position_or_len p xs) (length xs) (list_any p xs) h

pub place-any : (p : ℤ → Bool) (xs : List ℤ) → is_some (position p xs) ≡ list_any p xs
place-any p xs = by (ltb (position_or_len p xs) (length xs)) ∙ below-any p xs
  where
    by : (b : Bool) → is_some (cond b (Some (position_or_len p xs)) None) ≡ b
    by true = refl
    by false = refl

-- no coefficient stands, seen from behind
pub none-present : (cs : List ℤ) (none : Bool) → is_some (position is_present (reverse cs)) ≡ not none →
    none ≡ list_all (λ c. int_eq c (pos 0)) cs
none-present cs none e = twice none ∙ ap not (sym e ∙ place-any is_present (reverse cs)
    ∙ sym (list_any-IsPermutation is_present cs (reverse cs) (IsPermutation-reverse cs))) ∙ all cs
  where
    twice : (b : Bool) → b ≡ not (not b)
    twice true = refl
    twice false = refl

    all : (cs : List ℤ) → not (list_any is_present cs) ≡ list_all (λ c. int_eq c (pos 0)) cs
    all [] = refl
    all (c ∷ cs) = by (int_eq c (pos 0)) (all cs)
      where
        by : (b : Bool) → not (list_any is_present cs) ≡ list_all (λ c. int_eq c (pos 0)) cs →
            not (not b || list_any is_present cs) ≡ (b && list_all (λ c. int_eq c (pos 0)) cs)
        by true h = h
        by false h = refl

-- the two rows of one more equation
pub two_more : (rows yielded all next : List Affine) (e : Affine) → next ≡ all ++ e ∷ negated e ∷ [] →
    all ≡ rows ++ flat_map (λ e. e ∷ negated e ∷ []) yielded →
    next ≡ rows ++ flat_map (λ e. e ∷ negated e ∷ []) (yielded ++ e ∷ [])
two_more rows yielded all next e is so =
    let made = flat_map (λ (e : Affine). e ∷ negated e ∷ []) yielded in
    is ∙ ap (λ rs. rs ++ e ∷ negated e ∷ []) so ∙ append_assoc rows made (e ∷ negated e ∷ [])
    ∙ ap (λ rs. rows ++ rs) (sym (flat_map-append (λ e. e ∷ negated e ∷ []) yielded (e ∷ [])))

pub all_narrow-is : (zs : List ℤ) → list_all is_narrow zs ≡ true → AreNarrow zs
all_narrow-is [] e = tt
all_narrow-is (z ∷ zs) e =
    let parts = both (is_narrow z) (list_all is_narrow zs) e in
    (narrow-is z parts.0, all_narrow-is zs parts.1)
