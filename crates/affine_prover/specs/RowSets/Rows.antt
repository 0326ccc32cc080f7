-- What elimination does to rows, lists of affine sums: one is put in others, they are tightened and
-- merged, and one variable is taken away. J. Fourier (1826) and T. Motzkin (1936), as in A.
-- Schrijver, Theory of Linear and Integer Programming (1986), section 12.2; the rules for equations
-- and for rounding constants down are those of W. Pugh, The Omega test (1991). Rows stay in the
-- order in which they stand or are made.
use Rattle.std.specs.Prelude.{ℕ, zero, suc, ◌*◌, ◌/◌, ◌%◌, Bool, true, false, not, ◌&&◌, nat_lt}
use Rattle.std.specs.Prelude.{◌==◌, if◌then◌else◌, List, [], ◌∷◌, ◌++◌, map, slice_index_or, Option}
use Rattle.std.specs.Prelude.{Some, None, ℤ, pos, ◌+ℤ◌, ◌*ℤ◌, neg_ℤ, unsigned_abs}
use Rattle.std.specs.Int.{int_div_euclid, is_positive, is_negative, int_min}
use Rattle.std.specs.Ordering.{int_eq}
use Rattle.std.specs.List.{filter, list_any, list_all, count_by, flat_map, fold, remove}
use Rattle.std.specs.List.{position_or_len}
use Rattle.affine_forms.specs.Bounds.{is_narrow}
use Rattle.affine_forms.specs.Affine.{Affine}

-- ---- numbers

-- Euclid's algorithm (Elements, VII.2), in at most the given number of steps
abbrev pub gcd_within : ℕ → ℕ → ℕ → ℕ
gcd_within zero a b = a
gcd_within (suc k) a zero = a
gcd_within (suc k) a (suc b) = gcd_within k (suc b) (a % suc b)

-- the greatest common divisor: the second number falls with each step, so it bounds their number
unfoldable pub gcd : ℕ → ℕ → ℕ
gcd a b = gcd_within b a b

-- the gcd of the sizes of all numbers of a list: 0 where all of them are 0
abbrev pub gcd_of : List ℤ → ℕ
gcd_of cs = fold (λ g c. gcd (unsigned_abs c) g) 0 cs

-- ---- sums

abbrev pub coefficient : Affine → ℕ → ℤ
coefficient a v = slice_index_or a.coefficients v (pos 0)

-- no variable stands in the sum
abbrev pub is_constant : Affine → Bool
is_constant a = list_all (λ c. int_eq c (pos 0)) a.coefficients

-- f times one number plus g times another
abbrev pub weighed : ℤ → ℤ → ℤ → ℤ → ℤ
weighed f x g y = f *ℤ x +ℤ g *ℤ y

-- both products and their sum are at most 2^100 in size
abbrev pub is_narrow_weighed : ℤ → ℤ → ℤ → ℤ → Bool
is_narrow_weighed f x g y =
    is_narrow (f *ℤ x) && (is_narrow (g *ℤ y) && is_narrow (weighed f x g y))

abbrev pub weighed_lists : ℤ → List ℤ → ℤ → List ℤ → List ℤ
weighed_lists f [] g ys = []
weighed_lists f (x ∷ xs) g [] = []
weighed_lists f (x ∷ xs) g (y ∷ ys) = weighed f x g y ∷ weighed_lists f xs g ys

abbrev pub are_narrow_weighed : ℤ → List ℤ → ℤ → List ℤ → Bool
are_narrow_weighed f [] g ys = true
are_narrow_weighed f (x ∷ xs) g [] = true
are_narrow_weighed f (x ∷ xs) g (y ∷ ys) = is_narrow_weighed f x g y && are_narrow_weighed f xs g ys

-- f times one sum plus g times another, and whether each product and sum on the way is at most
-- 2^100 in size
abbrev pub combined : ℤ → Affine → ℤ → Affine → Affine
combined f a g b = record {
  constant = weighed f a.constant g b.constant;
  coefficients = weighed_lists f a.coefficients g b.coefficients;
}

abbrev pub is_narrow_combined : ℤ → Affine → ℤ → Affine → Bool
is_narrow_combined f a g b =
    is_narrow_weighed f a.constant g b.constant
    && are_narrow_weighed f a.coefficients g b.coefficients

-- the sum with one variable taken out of its list
abbrev pub without : ℕ → Affine → Affine
without v a = record a { coefficients = remove a.coefficients v }

-- ---- rows: tighten and merge

-- the row divided by the gcd of its coefficients, its constant rounded down, which keeps each
-- integer point
abbrev pub tightened : Affine → Affine
tightened a =
    let g = gcd_of a.coefficients in
    if g == 0
    then a
    else record {
      constant = int_div_euclid a.constant (pos g);
      coefficients = map (λ c. int_div_euclid c (pos g)) a.coefficients;
    }

abbrev pub same_list : List ℤ → List ℤ → Bool
same_list [] [] = true
same_list [] (y ∷ ys) = false
same_list (x ∷ xs) [] = false
same_list (x ∷ xs) (y ∷ ys) = int_eq x y && same_list xs ys

-- a further row joins the row of equal coefficients, at whose place the least constant stays, or
-- stands at the end
abbrev pub joined : List Affine → Affine → List Affine
joined [] r = r ∷ []
joined (k ∷ ks) r =
    if same_list k.coefficients r.coefficients
    then (record k { constant = int_min k.constant r.constant }) ∷ ks
    else k ∷ joined ks r

-- of rows with equal coefficients one stays, at the first place, with the least constant
abbrev pub merged : List Affine → List Affine
merged rows = fold joined [] rows

-- no variable stands in the row, and its constant is negative
abbrev pub is_false : Affine → Bool
is_false r = is_constant r && is_negative r.constant

-- the rows tightened and merged, without those that hold everywhere, or None where one of them
-- cannot hold
unfoldable pub normalized : List Affine → Option (List Affine)
normalized rows =
    let tight = map tightened rows in
    if list_any is_false tight
    then None
    else Some (merged (filter (λ r. not (is_constant r)) tight))

-- ---- rows: take one variable away

-- the row bounds the variable from below, from above, or not at all
abbrev pub is_lower_bound : ℕ → Affine → Bool
is_lower_bound v r = is_positive (coefficient r v)

abbrev pub is_upper_bound : ℕ → Affine → Bool
is_upper_bound v r = is_negative (coefficient r v)

abbrev pub is_free : ℕ → Affine → Bool
is_free v r = int_eq (coefficient r v) (pos 0)

-- how many combinations eliminating the variable makes
abbrev pub pairs : List Affine → ℕ → ℕ
pairs rows v = count_by (is_lower_bound v) rows * count_by (is_upper_bound v) rows

-- the lowest of the numbers below n at which f is least
abbrev pub least_at : (ℕ → ℕ) → ℕ → ℕ
least_at f zero = 0
least_at f (suc n) = let best = least_at f n in if nat_lt (f n) (f best) then n else best

-- the factors that cancel variable v in a row with a positive and one with a negative coefficient,
-- divided by their gcd
abbrev pub lower_factor : ℕ → Affine → Affine → ℤ
lower_factor v p q =
    pos (unsigned_abs (coefficient q v)
    / gcd (unsigned_abs (coefficient p v)) (unsigned_abs (coefficient q v)))

abbrev pub upper_factor : ℕ → Affine → Affine → ℤ
upper_factor v p q =
    pos (unsigned_abs (coefficient p v)
    / gcd (unsigned_abs (coefficient p v)) (unsigned_abs (coefficient q v)))

abbrev pub combination : ℕ → Affine → Affine → Affine
combination v p q = without v (combined (lower_factor v p q) p (upper_factor v p q) q)

abbrev pub is_narrow_combination : ℕ → Affine → Affine → Bool
is_narrow_combination v p q = is_narrow_combined (lower_factor v p q) p (upper_factor v p q) q

-- the rows that follow when variable v is eliminated: first those without it, then a combination
-- for each lower and each upper bound
abbrev pub following : ℕ → List Affine → List Affine
following v rows =
    map (without v) (filter (is_free v) rows)
    ++ flat_map (λ p. map (combination v p) (filter (is_upper_bound v) rows))
    (filter (is_lower_bound v) rows)

abbrev pub is_narrow_following : ℕ → List Affine → Bool
is_narrow_following v rows =
    list_all (λ p. list_all (is_narrow_combination v p) (filter (is_upper_bound v) rows))
    (filter (is_lower_bound v) rows)

-- ---- equations: solve one for a variable

-- no integers make the equation 0: the gcd of its coefficients does not divide its constant.
-- Without variables the gcd is 0, and n % 0 is n
abbrev pub is_impossible : Affine → Bool
is_impossible e = not (unsigned_abs e.constant % gcd_of e.coefficients == 0)

-- a coefficient of 1 or -1: the equation can be solved for its variable in integers
abbrev pub is_unit : ℤ → Bool
is_unit c = unsigned_abs c == 1

abbrev pub has_unit : Affine → Bool
has_unit e = list_any is_unit e.coefficients

-- the lowest variable for which the equation can be solved
abbrev pub unit_place : Affine → ℕ
unit_place e = position_or_len is_unit e.coefficients

-- the factor of an equation that takes its variable v out of a sum
abbrev pub solving_factor : ℕ → Affine → Affine → ℤ
solving_factor v e r = neg_ℤ (coefficient e v *ℤ coefficient r v)

-- the sum with the equation's solution put in for its variable v
abbrev pub substituted : ℕ → Affine → Affine → Affine
substituted v e r = without v (combined (pos 1) r (solving_factor v e r) e)

abbrev pub is_narrow_substituted : ℕ → Affine → Affine → Bool
is_narrow_substituted v e r = is_narrow_combined (pos 1) r (solving_factor v e r) e

-- the sum of the opposite numbers
abbrev pub negated : Affine → Affine
negated a = record { constant = neg_ℤ a.constant; coefficients = map neg_ℤ a.coefficients }

-- the equations divided by the gcd of their coefficients, or None where no integers meet one
unfoldable pub reduced : List Affine → Option (List Affine)
reduced equations =
    if list_any is_impossible equations
    then None
    else Some (filter (λ e. not (is_constant e)) (map tightened equations))
