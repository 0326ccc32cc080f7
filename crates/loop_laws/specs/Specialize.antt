-- The rule that puts a condition round a block: the block where it holds, and where not a copy.
use Rattle.std.specs.Prelude.{ℕ, Bool, if◌then◌else◌, List, [], ◌∷◌, length, Some}
use Rattle.exo_tree.specs.Tree.{Condition, statements}
use Rattle.exo_tree.specs.Context.{rest_of}
use Rattle.exo_tree.specs.Places.{Path, Opened, opened}
use Rattle.exo_meaning.specs.Unseen.{in_block as mentions}
use Rattle.place_laws.specs.Scope.BranchesAtPlaces.{specialized}
use Rattle.place_laws.specs.Scope.Scopes.{top_binders}
use Rattle.cursor_forward.specs.Causes.{WrongShape}
use Rattle.cursor_forward.specs.Shifts.{Shift, at_index, range}
use Rattle.step_rules.specs.Rule.{Tried, Got, Not, Target, Piece, Rule, plain_rule}
use Rattle.step_rules.specs.Answer.{then_try, opened_or_wrong}
use Rattle.loop_laws.specs.Shapes.{inside}

-- what follows uses a name that the piece binds
abbrev pub is_used_after : Opened → Bool
is_used_after o = mentions (top_binders o.piece) (rest_of o.around)

-- so many statements from the place on
abbrev pub specialize_piece : ℕ → Target → Path → Tried Piece
specialize_piece count t at =
    then_try (opened_or_wrong (opened count at t.proc.body)) (λ o.
    if is_used_after o then Not WrongShape else Got (record { path = at; count = count }))

-- the statements go into the branch where the condition holds
abbrev pub into_branch : ℕ → List Shift
into_branch count = range (at_index 0) count (Some (inside 1)) ∷ []

-- count: of the statements of the block
abbrev pub specialize_rule : ℕ → Condition → Rule
specialize_rule count c =
    plain_rule (specialize_piece count) (λ s base. Got (specialized base c s.opened.piece))
    (λ s. into_branch (length (statements s.opened.piece)))
