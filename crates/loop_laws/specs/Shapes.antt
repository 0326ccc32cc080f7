-- What the rules of loops look for, and what they make of it.
use Rattle.std.specs.Prelude.{ℕ, zero, suc, pos, Bool, false, if◌then◌else◌}
use Rattle.std.specs.Prelude.{List, [], ◌∷◌, Option, Some, None, option_and_then}
use Rattle.std.specs.Ordering.{int_eq}
use Rattle.exo_tree.specs.Tree.{Control, Lit, Statement, For}
use Rattle.exo_tree.specs.Tree.{Block}
use Rattle.exo_tree.specs.Places.{Main, Path}
use Rattle.cursor_forward.specs.Shifts.{Shift, at_index}
use Rattle.place_laws.specs.Order.TurnsOfTwo.{Loop}
use Rattle.step_rules.specs.Rule.{Tried, Got, Not, Spot, Rule, plain_rule}
use Rattle.step_rules.specs.Shapes.{tried, alone_in, one_statement}

-- ---- one loop

abbrev pub loop_in : Statement → Option Loop
loop_in (For i lo hi b) = Some (record { binder = i; lo = lo; hi = hi; body = b })
loop_in _ = None

-- a loop that is all of a block
abbrev pub loop_of : Block → Option Loop
loop_of b = option_and_then loop_in (alone_in b)

-- the literal 0
abbrev pub is_zero : Control → Bool
is_zero (Lit n) = int_eq n (pos 0)
is_zero _ = false

-- such a loop, where it begins at the literal 0
abbrev pub from_zero : Loop → Option Loop
from_zero l = if is_zero l.lo then Some l else None

-- ---- rules on one loop

-- what is listed of the loop that is read of the piece
abbrev pub listed : {T : Type 0} → (Block → Option Loop) → (Loop → List T) → Spot → List T
listed read list s = elim (read s.opened.piece) [ None ↦ [] | Some l ↦ list l ]

-- the same of anything that is found, or refused
abbrev pub listed_of : {U T : Type 0} → (U → List T) → Tried U → List T
listed_of list (Got x) = list x
listed_of list (Not cause) = []

-- a rule on the loop that is read of a block: what stands for it, by the first new id, and where
-- its statements go. It refuses nothing but the shape, and needs nothing to be shown
abbrev pub loop_rule :
    (Block → Option Loop) → (Loop → ℕ → Block) → (Loop → List Shift) → Rule
loop_rule read make shifts =
    plain_rule (one_statement read)
    (λ s base. tried (read s.opened.piece) (λ l. make l base))
    (listed read shifts)

-- ---- places in what is made

-- the path to the first statement so many blocks below the first statement
abbrev pub inside : ℕ → Path
inside zero = at_index 0
inside (suc k) = record { branch = Main; index = 0 } ∷ inside k
