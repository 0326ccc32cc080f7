-- What is asked of the procedures of a unit alone.
use Rattle.std.proofs.Common.{◌≡◌, ◌<◌, ◌≤◌, ◌+◌, ◌&&◌, ◌||◌, ℕ, suc, Bool, false, true, List, [], ◌∷◌, length, refl, ap, ap₂, ◌∙◌, arith}
use Rattle.exo_tree.specs.Tree.{Procedure, Program}
use Rattle.exo_tree.specs.Calls.{calls}
use Rattle.exo_modes.specs.Calls.Closed.{closed}
use Rattle.exo_modes.specs.Calls.Marked.{contains, Marked, Reached}
use Rattle.c_lowering.specs.Made.LoweredUnit.{Printing, is_listed, counts}

abbrev Same : ℕ → (ℕ → Bool) → (ℕ → Bool) → Type 0
Same n one other = (j : ℕ) → j < n → one j ≡ other j

-- ---- what is reached

pub closed_same : (n : ℕ) (through other : Procedure → Bool) (seeds more : ℕ → Bool) → ((p : Procedure) → through p ≡ other p) → Same n seeds more → (k : ℕ) (ps : List Procedure) → k + length ps ≤ n → (j : ℕ) → j < n → closed through seeds k ps j ≡ closed other more k ps j
closed_same n through other seeds more passes same k [] h j l = same j l
closed_same n through other seeds more passes same k (p ∷ ps) h j l =
    let above = closed_same n through other seeds more passes same (suc k) ps (omega (arith, h)) in
    ap₂ (λ a b. a || (b && calls j p.body)) (above j l) (ap₂ (λ a b. a && b) (above k (omega (arith, h))) (passes p))

-- from the listed procedures on those that count are reached
pub all_counted : (program : Program) (what : List Printing) (start seeds set : List Bool) → length start ≡ length program.procedures → ((k : ℕ) → contains start k ≡ false) → Marked (is_listed what) start seeds → Reached (λ p. true) program.procedures seeds set → (k : ℕ) → k < length program.procedures → contains set k ≡ counts program what k
all_counted program what start seeds set same none listed reached k h =
    let n = length program.procedures in
    let seeded : Same n (contains seeds) (is_listed what) = λ j l. listed.each j (omega (arith, l, same)) ∙ ap (λ t. t || is_listed what j) (none j) in
    reached.each k (omega (arith, h, same, listed.same_length)) ∙ closed_same n (λ p. true) (λ p. true) (contains seeds) (is_listed what) (λ p. refl) seeded 0 program.procedures (omega arith) k h
