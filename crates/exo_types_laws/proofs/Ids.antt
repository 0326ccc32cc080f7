-- Ids that ascend are distinct and below their end.
use Rattle.std.proofs.Common.{◌≡◌, ℕ, suc, ◌≤◌, ◌<◌, ◌==◌, nat_lt, true, false, List, [], ◌∷◌, ◌++◌, refl, arith, lt-ltb}
use Rattle.std.specs.List.{list_any, list_all}
use Rattle.std.proofs.lemmas.Bool.Decides.{nat_tests}
use Rattle.exo_meaning.specs.Units.{are_distinct}
use Rattle.exo_types_laws.proofs.Unbroken.{pair, nor, negated}

-- from n on, each greater than those before it, and all below the end
abbrev pub Ascends : ℕ → List ℕ → ℕ → Type 0
Ascends n [] last = n ≤ last
Ascends n (x ∷ xs) last = (n ≤ x) × Ascends (suc x) xs last

pub from_lower : (n m last : ℕ) (xs : List ℕ) → n ≤ m → Ascends m xs last → Ascends n xs last
from_lower n m last [] h a = omega (arith, h, a)
from_lower n m last (x ∷ xs) h a = (omega (arith, h, a.0), a.1)

pub up_to : (n last more : ℕ) (xs : List ℕ) → last ≤ more → Ascends n xs last → Ascends n xs more
up_to n last more [] h a = omega (arith, h, a)
up_to n last more (x ∷ xs) h a = (a.0, up_to (suc x) last more xs h a.1)

pub then_ascend : (n m last : ℕ) (xs ys : List ℕ) → Ascends n xs m → Ascends m ys last → Ascends n (xs ++ ys) last
then_ascend n m last [] ys a b = from_lower n m last ys a b
then_ascend n m last (x ∷ xs) ys a b = (a.0, then_ascend (suc x) m last xs ys a.1 b)

pub not_before : (n last : ℕ) (xs : List ℕ) → Ascends n xs last → n ≤ last
not_before n last [] a = a
not_before n last (x ∷ xs) a = let l = not_before (suc x) last xs a.1 in omega (arith, a.0, l)

apart : (x y : ℕ) → x < y → (x == y) ≡ false
apart x y h = grind (arith, nat_tests)

not_among : (x n last : ℕ) (xs : List ℕ) → x < n → Ascends n xs last → list_any (λ y. x == y) xs ≡ false
not_among x n last [] h a = refl
not_among x n last (y ∷ xs) h a = nor (apart x y (omega (arith, h, a.0))) (not_among x (suc y) last xs (omega (arith, h, a.0)) a.1)

pub ascending_differ : (n last : ℕ) (xs : List ℕ) → Ascends n xs last → are_distinct xs ≡ true
ascending_differ n last [] a = refl
ascending_differ n last (x ∷ xs) a = pair (negated (not_among x (suc x) last xs (omega arith) a.1)) (ascending_differ (suc x) last xs a.1)

pub all_below : (n last most : ℕ) (xs : List ℕ) → last ≤ most → Ascends n xs last → list_all (λ x. nat_lt x most) xs ≡ true
all_below n last most [] h a = refl
all_below n last most (x ∷ xs) h a =
    let l = not_before (suc x) last xs a.1 in
    pair (lt-ltb x most (omega (arith, l, h))) (all_below (suc x) last most xs h a.1)
