-- The number of a name is below how many names there are.
use Rattle.std.proofs.Common.{◌≡◌, ℕ, suc, ◌+◌, ◌<◌, Bool, true, false, List, [], ◌∷◌, Option, Some, length, if◌then◌else◌, arith}
use Rattle.exo_meaning.specs.Units.{is_text}
use Rattle.rules_names.specs.Names.{number_from, name_number}

below_if : (n k m : ℕ) (b : Bool) (o : Option ℕ) → (o ≡ Some k → k < n + 1 + m) → (if b then Some n else o) ≡ Some k → k < n + suc m
below_if n k m true o f h = let e : n ≡ k = cc in omega (arith, e)
below_if n k m false o f h = let e = f h in omega (arith, e)

below_from : (n : ℕ) (names : List (List ℕ)) (x : List ℕ) (k : ℕ) → number_from n names x ≡ Some k → k < n + length names
below_from n [] x k h = cc
below_from n (y ∷ names) x k h = below_if n k (length names) (is_text y x) (number_from (n + 1) names x) (below_from (n + 1) names x k) h

pub number_below : (names : List (List ℕ)) (x : List ℕ) (k : ℕ) → name_number names x ≡ Some k → k < length names
number_below names x k h = let e = below_from 0 names x k h in omega (arith, e)
