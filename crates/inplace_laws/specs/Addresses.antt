-- Cells that stand in a store of any addresses, and calls that work there in place.
use Rattle.std.specs.Prelude.{◌≡◌, ℕ, ℤ, Bool, true, List, Option, Some, None}
use Rattle.exo_tree.specs.Tree.{Param}
use Rattle.exo_meaning.specs.Value.{Value, Undefined}
use Rattle.exo_meaning.specs.Scene.{Seen, then_do, cell_at}
use Rattle.exo_meaning.specs.State.{State, Cells}
use Rattle.exo_meaning.specs.Calls.{Given, entered, copied_back}
use Rattle.exo_meaning.specs.Inputs.{is_buffer_of}
use Rattle.inplace_laws.specs.CallInPlace.{base_of, AreDistinct}

-- the address of each cell; None where it has none
abbrev pub Spots : Type 0 → Type 0
Spots T = ℕ → List ℤ → Option T

abbrev pub stored : {T : Type 0} → (T → Value) → Option T → Value
stored store None = Undefined
stored store (Some t) = store t

abbrev pub AreStored : {T : Type 0} → Spots T → Cells → (T → Value) → Type 0
AreStored spots cells store = (b : ℕ) (at : List ℤ) → cells b at ≡ stored store (spots b at)

-- no two cells have one address
abbrev pub AreSeparate : {T : Type 0} → Spots T → Type 0
AreSeparate {T} spots =
    (b c : ℕ) (at to : List ℤ) (t : T)
    → spots b at ≡ Some t
    → spots c to ≡ Some t
    → (b ≡ c) × (at ≡ to)

abbrev pub spots_through : {T : Type 0} → Spots T → Option Seen → List ℤ → Option T
spots_through spots None is = None
spots_through spots (Some z) is = then_do (cell_at z.sides is) (spots z.buffer)

-- the addresses of a callee's parameters
abbrev pub callee_spots : {T : Type 0} → List Param → List Given → Spots T → Spots T
callee_spots ps gs spots x = spots_through spots (base_of ps gs x)

-- what a callee finds is what stands in the store
abbrev pub EntryLaw : Type 1
EntryLaw =
    (T : Type 0) (spots : Spots T) (store : T → Value) (ps : List Param) (gs : List Given)
    (s inner : State)
    → AreDistinct ps
    → entered ps gs s ≡ Some inner
    → AreStored spots s.cells store
    → AreStored (callee_spots ps gs spots) inner.cells store

-- the store after a callee that worked in place is that of the state after the call by copies
abbrev pub ExitLaw : Type 1
ExitLaw =
    (T : Type 0) (spots : Spots T) (store after : T → Value) (writes : ℕ → Bool) (ps : List Param)
    (gs : List Given) (cells done : Cells)
    → AreDistinct ps
    → AreSeparate spots
    → AreStored spots cells store
    → ((x : ℕ) (z : Seen)
    → is_buffer_of x ps ≡ true
    → base_of ps gs x ≡ Some z
    → (is : List ℤ)
    → done x is ≡ stored after (callee_spots ps gs spots x is))
    → ((t : T)
    → ((x : ℕ) (is : List ℤ) → writes x ≡ true → callee_spots ps gs spots x is ≡ Some t → ⊥)
    → after t ≡ store t)
    → AreStored spots (copied_back writes ps gs done cells) after
