-- The rule that gives an allocation a dimension in front, of which its uses take one point.
use Rattle.std.specs.Prelude.{ℕ, suc, Bool, if◌then◌else◌, length, Option, Some, None}
use Rattle.std.specs.Prelude.{option_map, option_and_then}
use Rattle.std.specs.Option.{is_none}
use Rattle.exo_tree.specs.Tree.{Control, Block, end, next, statements}
use Rattle.exo_tree.specs.Context.{rest_of}
use Rattle.exo_tree.specs.Places.{Path, Opened, opened}
use Rattle.exo_meaning.specs.Unseen.{in_control}
use Rattle.exo_meaning.specs.Units.{Scope, sort_in}
use Rattle.cursor_forward.specs.Causes.{Cause, OutOfScope}
use Rattle.cursor_forward.specs.Shifts.{stays}
use Rattle.buffer_laws.specs.Buffers.{Buffer, buffer_of}
use Rattle.buffer_laws.specs.Expanded.{expanded, may_expand}
use Rattle.step_rules.specs.Rule.{Tried, Target, Piece, Spot, Rule, plain_rule}
use Rattle.step_rules.specs.Shapes.{tried}
use Rattle.step_rules.specs.Answer.{then_try, opened_or_wrong}
use Rattle.step_rules.specs.Lawful.{scope_here}

-- an allocation with all that follows it in its block
pub record Allocated : Type 0 where
  pub buffer : Buffer
  pub rest : Block

abbrev pub allocated : Block → Option Allocated
allocated end = None
allocated (next a b) = option_map (λ x. record { buffer = x; rest = b }) (buffer_of a)

-- where it has dimensions it is nowhere passed whole
abbrev pub where_it_may : Allocated → Option Allocated
where_it_may x = if may_expand x.buffer x.rest then Some x else None

abbrev pub expandable : Block → Option Allocated
expandable b = option_and_then where_it_may (allocated b)

-- how many statements there are from the one that is opened to the end of its block
abbrev pub to_the_end : Opened → ℕ
to_the_end o = suc (length (statements (rest_of o.around)))

abbrev pub all_opened : Target → Path → ℕ → Tried Piece
all_opened t at count =
    tried (option_and_then (λ o. expandable o.piece) (opened count at t.proc.body))
    (λ x. record { path = at; count = count })

-- the allocation at the path and all behind it
abbrev pub expanded_piece : Target → Path → Tried Piece
expanded_piece t at =
    then_try (opened_or_wrong (opened 1 at t.proc.body)) (λ o. all_opened t at (to_the_end o))

-- a name that is not in scope
abbrev pub is_missing : Scope → ℕ → Bool
is_missing scope y = is_none (sort_in scope y)

-- where nothing uses the buffer, its point stands nowhere in the result, and only its names are
-- looked at
abbrev pub expand_refusal : Control → Spot → Option Cause
expand_refusal e s = if in_control (is_missing (scope_here s)) e then Some OutOfScope else None

-- size: of the new dimension; e: the point
abbrev pub expand_rule : Control → Control → Rule
expand_rule size e = record (plain_rule expanded_piece
    (λ s base. tried (expandable s.opened.piece) (λ x. expanded size e x.buffer x.rest))
    (λ s. stays s.piece.count)) {
      refusal = expand_refusal e;
    }
