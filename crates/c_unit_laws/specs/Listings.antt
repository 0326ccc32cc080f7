-- What a file prints, by what is emitted.
use Rattle.std.specs.Prelude.{◌≡◌, ◌&&◌, if◌then◌else◌, ℕ, suc, Bool, true, List, [], ◌∷◌, Some, None, slice_get}
use Rattle.exo_tree.specs.Tree.{Procedure, Program}
use Rattle.exo_meaning.specs.Units.{IsUnit}
use Rattle.exo_modes.specs.Calls.Closed.{closed}
use Rattle.exo_modes.specs.Calls.Passed.{is_function}
use Rattle.c_lowering.specs.Made.LoweredUnit.{Printing, is_listed}
use Rattle.c_unit_laws.specs.Follows.Units.{IsListing}

-- of the procedures numbered from k on, the functions that are reached
abbrev pub printings_from : (ℕ → Bool) → (ℕ → Printing) → ℕ → List Procedure → List Printing
printings_from reached print k [] = []
printings_from reached print k (p ∷ ps) =
    let later = printings_from reached print (suc k) ps in
    if reached k && is_function p then print k ∷ later else later

-- those that are emitted, with all functions that they call, directly or through functions
abbrev pub printings : Program → (ℕ → Bool) → (ℕ → Printing) → List Printing
printings program emitted print =
    printings_from (closed is_function emitted 0 program.procedures) print 0 program.procedures

-- They are in the order of the unit, and what they call as functions is among them.
abbrev pub PrintingsAreListings : Type 0
PrintingsAreListings =
    (program : Program) (emitted : ℕ → Bool) (print : ℕ → Printing)
    → ((k : ℕ) → (print k).proc ≡ k)
    → IsUnit program
    → IsListing program (printings program emitted print)

-- Each emitted function is printed.
abbrev pub EmittedArePrinted : Type 0
EmittedArePrinted =
    (program : Program) (emitted : ℕ → Bool) (print : ℕ → Printing) (k : ℕ) (p : Procedure)
    → ((k : ℕ) → (print k).proc ≡ k)
    → slice_get program.procedures k ≡ Some p
    → p.template ≡ None
    → emitted k ≡ true
    → is_listed (printings program emitted print) k ≡ true
