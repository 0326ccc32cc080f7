-- The rules of single allocations: another memory for one, and one that is not used taken away.
use Rattle.std.specs.Prelude.{ℕ, if◌then◌else◌, [], Option, option_and_then}
use Rattle.exo_tree.specs.Tree.{Block, end}
use Rattle.exo_tree.specs.Places.{Path, Opened, opened}
use Rattle.cursor_forward.specs.Causes.{StillUsed}
use Rattle.cursor_forward.specs.Shifts.{stays}
use Rattle.buffer_laws.specs.Buffers.{Buffer, buffer_of, only_buffer, in_memory, is_still_used}
use Rattle.step_rules.specs.Rule.{Tried, Got, Not, Target, Piece, Rule, plain_rule}
use Rattle.step_rules.specs.Shapes.{tried, alone_in, one_statement}
use Rattle.step_rules.specs.Answer.{then_try, opened_or_wrong}

-- an allocation that is all of a block
abbrev pub alloc_of : Block → Option Buffer
alloc_of b = option_and_then buffer_of (alone_in b)

-- ---- another memory

abbrev pub memory_rule : ℕ → Rule
memory_rule m =
    plain_rule (one_statement alloc_of)
    (λ s base. tried (alloc_of s.opened.piece) (λ x. only_buffer (in_memory m x)))
    (λ s. stays 1)

-- ---- taken away

-- that what follows does not use it is told here: without it the result would have a name that is
-- not in scope
abbrev pub unless_used : Path → Opened → Buffer → Tried Piece
unless_used at o x =
    if is_still_used x o.around then Not StillUsed else Got (record { path = at; count = 1 })

abbrev pub deleted_piece : Target → Path → Tried Piece
deleted_piece t at =
    then_try (opened_or_wrong (opened 1 at t.proc.body)) (λ o.
    then_try (tried (alloc_of o.piece) (λ x. x)) (unless_used at o))

abbrev pub delete_rule : Rule
delete_rule =
    plain_rule deleted_piece (λ s base. tried (alloc_of s.opened.piece) (λ x. end)) (λ s. [])
