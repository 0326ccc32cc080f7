-- Refinement along a derivation.
use Rattle.std.specs.Prelude.{◌≡◌, ◌++◌, ℕ, List, IsSome}
use Rattle.exo_tree.specs.Tree.{Procedure}
use Rattle.exo_meaning.specs.State.{State}
use Rattle.exo_meaning.specs.Run.{World}
use Rattle.exo_meaning.specs.Inputs.{IsAdmissible, Refines, run_procedure}

abbrev pub NeverFaults : World → Procedure → Type 0
NeverFaults world p = (s : State) → IsAdmissible world p s → IsSome (run_procedure world p s)

-- the same parameters and assertions
abbrev pub HasHead : Procedure → Procedure → Type 0
HasHead p q = (p.params ≡ q.params) × (p.asserts ≡ q.asserts)

abbrev pub ChainLaw : Type 0
ChainLaw =
    (world : World) (p q r : Procedure) (but more : List ℕ)
    → HasHead p q
    → NeverFaults world q
    → Refines world p q but
    → Refines world q r more
    → Refines world p r (but ++ more)
