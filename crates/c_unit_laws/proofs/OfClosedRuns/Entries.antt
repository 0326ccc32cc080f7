-- What both runs cite.
use Rattle.std.proofs.Common.{◌≡◌, ℕ, zero, suc, ℤ, pos, ◌+ℤ◌, ◌≤ℤ◌, int_le, int_lt, Bool, true, false, ◌&&◌, List, [], ◌∷◌, Some, None, refl, sym, arith, true≢false, slice_get}
use Rattle.std.proofs.lemmas.Int.{ints}
use Rattle.std.proofs.lemmas.Bool.{and_parts}
use Rattle.exo_meaning.specs.Value.{Undefined, Number}
use Rattle.exo_meaning.specs.Scene.{is_below, where_true}
use Rattle.exo_meaning.specs.Inputs.{IsIndex}
use Rattle.c_unit_laws.specs.Follows.Simulation.{in_range}
use Rattle.c_unit_laws.specs.Follows.Machine.Machine.{Outcome, Done, Fault, NoStore, Machine}
use Rattle.c_unit_laws.specs.Follows.Machine.Examples.{bare}

pub none_some : {A : Type 0} {a : A} → None ≡ Some a → ⊥
none_some e = cc

pub some_same : {A : Type 0} {a b : A} → Some a ≡ Some b → a ≡ b
some_same e = cc

pub no_number : {n : ℤ} → Number n ≡ Undefined → ⊥
no_number e = cc

-- an empty list has no entry
pub no_entry : {A : Type 0} {a : A} (k : ℕ) → slice_get {X = A} [] k ≡ Some a → ⊥
no_entry zero e = none_some e
no_entry (suc k) e = none_some e

-- the machine at the end of a run that is done
abbrev pub machine_of : Outcome Machine → Machine
machine_of (Done n) = n
machine_of Fault = bare
machine_of NoStore = bare

-- ---- one dimension

pub below : (n d : ℤ) → is_below n d ≡ true → (pos 0 ≤ℤ n) × ((n +ℤ pos 1) ≤ℤ d)
below n d h = let p = and_parts (int_le (pos 0) n) (int_lt n d) h in (grind (arith, ints, p.0), grind (arith, ints, p.1))

too_long : {A : Type 0} {a : A} (t : Bool) → where_true t None ≡ Some a → ⊥
too_long true e = none_some e
too_long false e = none_some e

-- one number is an index of one dimension
pub one_index : (d : ℤ) (i : List ℤ) → IsIndex (d ∷ []) i → (n : ℤ) × (i ≡ n ∷ [])
one_index d [] h = absurd (none_some h)
one_index d (n ∷ []) h = (n, refl)
one_index d (n ∷ (m ∷ is)) h = absurd (too_long (is_below n d) h)

-- an index is 0 or 1
pub one_in_range : (at : List ℤ) → in_range at (pos 2 ∷ []) ≡ true → (n : ℤ) × (at ≡ n ∷ []) × (pos 0 ≤ℤ n) × ((n +ℤ pos 1) ≤ℤ pos 2)
one_in_range [] h = absurd (true≢false (sym h))
one_in_range (n ∷ []) h = go (is_below n (pos 2)) refl h
  where
    go : (t : Bool) → is_below n (pos 2) ≡ t → (t && true) ≡ true → (m : ℤ) × (n ∷ [] ≡ m ∷ []) × (pos 0 ≤ℤ m) × ((m +ℤ pos 1) ≤ℤ pos 2)
    go true e k = let p = below n (pos 2) e in (n, refl, p.0, p.1)
    go false e k = absurd (true≢false (sym k))
one_in_range (n ∷ (m ∷ at)) h = absurd (go (is_below n (pos 2)) h)
  where
    go : (t : Bool) → (t && false) ≡ true → ⊥
    go true k = true≢false (sym k)
    go false k = true≢false (sym k)
