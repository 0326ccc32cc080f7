-- What rules look for.
use Rattle.std.specs.Prelude.{Option, Some, None, option_and_then}
use Rattle.exo_tree.specs.Tree.{Statement, Block, end, next}
use Rattle.exo_tree.specs.Places.{Path, opened}
use Rattle.cursor_forward.specs.Causes.{WrongShape}
use Rattle.step_rules.specs.Rule.{Tried, Got, Not, Target, Piece}

-- the shape is wrong where nothing is found
abbrev pub tried : {T U : Type 0} → Option T → (T → U) → Tried U
tried None make = Not WrongShape
tried (Some x) make = Got (make x)

-- a statement that is all of a block
abbrev pub alone_in : Block → Option Statement
alone_in end = None
alone_in (next a end) = Some a
alone_in (next a (next b rest)) = None

-- one statement of which something is read
abbrev pub one_statement : {T : Type 0} → (Block → Option T) → Target → Path → Tried Piece
one_statement read t at =
    tried (option_and_then (λ o. read o.piece) (opened 1 at t.proc.body))
    (λ x. record { path = at; count = 1 })
