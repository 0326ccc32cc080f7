-- Which procedures are called, directly or through others.
use Rattle.std.specs.Prelude.{◌≡◌, ◌<◌, ◌&&◌, ◌||◌, ℕ, zero, suc, Bool, true, List, [], ◌∷◌, Some, slice_get}
use Rattle.exo_tree.specs.Tree.{Procedure}
use Rattle.exo_tree.specs.Calls.{calls}

-- the seeds, and what is called by one of these that passes the test, of the procedures numbered from k on;
-- a procedure calls those before it, so the last one is asked first
abbrev pub closed : (Procedure → Bool) → (ℕ → Bool) → ℕ → List Procedure → ℕ → Bool
closed through seeds k [] j = seeds j
closed through seeds k (p ∷ ps) j =
    closed through seeds (suc k) ps j
    || ((closed through seeds (suc k) ps k && through p) && calls j p.body)

-- each procedure calls those before it alone
abbrev pub CallsBefore : List Procedure → Type 0
CallsBefore ps = (k j : ℕ) (p : Procedure) → slice_get ps k ≡ Some p → calls j p.body ≡ true → j < k

-- what is called by a procedure that is reached and passes the test is reached, too
abbrev pub ClosedIsClosed : Type 0
ClosedIsClosed =
    (through : Procedure → Bool) (seeds : ℕ → Bool) (ps : List Procedure) (k j : ℕ) (p : Procedure)
    → CallsBefore ps
    → slice_get ps k ≡ Some p
    → closed through seeds zero ps k ≡ true
    → through p ≡ true
    → calls j p.body ≡ true
    → closed through seeds zero ps j ≡ true

-- each seed is reached
abbrev pub SeedsAreClosed : Type 0
SeedsAreClosed =
    (through : Procedure → Bool) (seeds : ℕ → Bool) (ps : List Procedure) (j : ℕ)
    → seeds j ≡ true
    → closed through seeds zero ps j ≡ true

-- with a procedure that passes the set has what it calls
abbrev pub IsShut : (Procedure → Bool) → (ℕ → Bool) → List Procedure → Type 0
IsShut through set ps =
    (k j : ℕ) (p : Procedure)
    → slice_get ps k ≡ Some p
    → set k ≡ true
    → through p ≡ true
    → calls j p.body ≡ true
    → set j ≡ true

-- what is reached is in each set that has the seeds and what those in it call that pass the test
abbrev pub ClosedIsLeast : Type 0
ClosedIsLeast =
    (through : Procedure → Bool) (seeds set : ℕ → Bool) (ps : List Procedure)
    → ((j : ℕ) → seeds j ≡ true → set j ≡ true)
    → IsShut through set ps
    → (j : ℕ) → closed through seeds zero ps j ≡ true → set j ≡ true
