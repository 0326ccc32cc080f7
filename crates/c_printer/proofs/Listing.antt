-- The set of what is listed.
use Rattle.std.proofs.Common.{◌≡◌, ◌==◌, ◌||◌, Bool, List, ◌∷◌, sym, ap}
use Rattle.exo_modes.specs.Calls.Marked.{Marked}
use Rattle.exo_modes.proofs.OfCalls.Sets.{marked_same, marked_then}
use Rattle.c_lowering.specs.Made.LoweredUnit.{Printing, is_listed}

-- one line of the list, and then the rest
pub listed_next : (w : Printing) (rest ws : List Printing) (set mid new : List Bool) → ws ≡ w ∷ rest → Marked (λ k. k == w.proc) set mid → Marked (is_listed rest) mid new → Marked (is_listed ws) set new
listed_next w rest ws set mid new is h j =
    marked_same (λ k. (k == w.proc) || is_listed rest k) (is_listed ws) set new (λ k l. ap (λ z. is_listed z k) (sym is)) (marked_then (λ k. k == w.proc) (is_listed rest) set mid new h j)
