-- Where the walk ends, by counts.
use Rattle.std.specs.Prelude.{ℕ, zero, suc, Bool, if◌then◌else◌, List, [], ◌∷◌, ◌++◌, Option, Some}
use Rattle.std.specs.Prelude.{None, take, slice_get}
use Rattle.match_laws.specs.Pairs.{Pair, Unlike}
use Rattle.match_laws.specs.Matched.{known_by, seen_with, ends_at, path_of}

-- how many pairs are before the first one at which the walk ends
abbrev pub kept : (ℕ → Bool) → (ℕ → Bool) → (ℕ → Option ℕ) → (ℕ → Bool) → List Pair → ℕ
kept params bound to seen [] = zero
kept params bound to seen (a ∷ pairs) =
    if ends_at params bound to seen a then zero
    else suc (kept params bound to (seen_with (known_by params a) seen) pairs)

-- the walk ends at the pair of an index, if it is there
abbrev pub cut_at : ℕ → List Pair → List Pair
cut_at n pairs =
    elim (slice_get pairs n) [
      | None ↦ pairs
      | Some a ↦ take n pairs ++ Unlike (path_of a) ∷ []
    ]
