-- The rule that removes a view and composes its uses onto its buffer.
use Rattle.std.specs.Prelude.{◌≡◌, ◌+◌, List, [], ◌∷◌, length, Some}
use Rattle.exo_tree.specs.Tree.{View, Block, end, next, statements}
use Rattle.exo_tree.specs.Context.{rest_of}
use Rattle.exo_tree.specs.Places.{Path, Opened, opened}
use Rattle.inplace_laws.specs.Windows.{in_block as with_window}
use Rattle.match_laws.specs.Inline.InlineWindowRule.{Viewed, as_window, behind_first, window_piece}
use Rattle.match_laws.specs.Inline.InlineWindowRule.{window_draft}
use Rattle.match_laws.specs.Inline.InlineWindowRule.{MayRemoveView}
use Rattle.cursor_forward.specs.Shifts.{Shift, at_index, range}
use Rattle.step_rules.specs.Rule.{Rule, Spot, plain_rule}
use Rattle.step_rules.specs.Lawful.{IsSpot, IsFormedHere, around, old}
use Rattle.step_rules.specs.Shapes.{tried}

-- what follows the view moves up by one
abbrev pub window_moves : Block → List Shift
window_moves piece =
    range (at_index 1) (length (statements (behind_first piece))) (Some (at_index 0)) ∷ []

abbrev pub inline_window_rule : Rule
inline_window_rule =
    plain_rule
    (λ t at. tried (window_piece t.proc at) (λ p. p))
    (λ s base. tried (window_draft (old s)) (λ b. b))
    (λ s. window_moves (old s))

-- a view with all that follows it in its block: nothing follows
abbrev pub NothingFollows : Type 0
NothingFollows =
    (path : Path) (body : Block) (i o : Opened)
    → opened 1 path body ≡ Some i
    → opened (1 + length (statements (rest_of i.around))) path body ≡ Some o
    → rest_of o.around ≡ end

-- a view with what follows it, where what is made of that is formed there
abbrev pub ViewsMayGo : Type 0
ViewsMayGo =
    (s : Spot) (v : Viewed) (b : Block)
    → IsSpot s
    → old s ≡ next (View v.binder v.buffer v.coords) b
    → rest_of (around s) ≡ end
    → IsFormedHere s (with_window v.binder.id (as_window v) b)
    → MayRemoveView s.target.proc (around s) v b
