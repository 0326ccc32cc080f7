-- A unit of three procedures: the second calls the first, and the third, an instruction, calls the second.
use Rattle.std.proofs.Common.{◌≡◌, ℕ, ◌==◌, Bool, true, false, List, [], ◌∷◌, ◌+◌, Option, Some, None, refl}
use Rattle.exo_tree.specs.Tree.{Procedure, Block, Call, end, next}
use Rattle.exo_modes.specs.Calls.Closed.{closed}
use Rattle.exo_modes.specs.Calls.Passed.{is_function}
use Rattle.exo_modes.specs.Calls.Tabled.{tabled}

abbrev calling : Block → Option (List ℕ) → Procedure
calling body template = record { name = []; params = []; asserts = []; body = body; template = template }

abbrev three : List Procedure
three = calling end None ∷ calling (next (Call 0 []) end) None ∷ calling (next (Call 1 []) end) (Some []) ∷ []

abbrev last : ℕ → Bool
last j = j == 2

first_is_reached : closed (λ p. true) last 0 three 0 ≡ true
first_is_reached = refl

not_through_instructions : closed is_function last 0 three 1 ≡ false
not_through_instructions = refl

entries : tabled (λ above a. a + 1) [] (3 ∷ 4 ∷ []) ≡ 4 ∷ 5 ∷ []
entries = refl
