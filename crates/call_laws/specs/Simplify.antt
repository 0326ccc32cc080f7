-- The rule that writes each control expression out from its normal form.
pub use Rattle.match_laws.specs.Moved.{simpler}
use Rattle.std.specs.Prelude.{◌≡◌, ℕ, Bool, true, if◌then◌else◌, length, Option}
use Rattle.exo_tree.specs.Tree.{Kind, Block, statements, Procedure}
use Rattle.exo_tree.specs.Places.{Path}
use Rattle.exo_meaning.specs.Calls.{Callee}
use Rattle.exo_meaning.specs.Units.{Scope, is_block}
use Rattle.affine_forms.specs.Forms.{Reading}
use Rattle.affine_places.specs.Roots.{Roots, no_roots, roots_of, has_extents}
use Rattle.affine_places.specs.Readings.{entry_reading}
use Rattle.match_laws.specs.Simplify.SameControls.{in_block}
use Rattle.match_laws.specs.Simplify.SimplifiedBlocks.{simplified_block}
use Rattle.tree_uses.specs.Uses.{used_fits}
use Rattle.tree_uses.specs.Simple.Changing.{simplifying}
use Rattle.cursor_forward.specs.Causes.{WideNumber, Form}
use Rattle.cursor_forward.specs.Shifts.{at_index, stays}
use Rattle.step_rules.specs.Rule.{Tried, Got, Not, Target, Piece, Spot, Writing, AsMade, Simplified}
use Rattle.step_rules.specs.Rule.{Rule, plain_rule}

abbrev pub whole_body : Target → Path → Tried Piece
whole_body t at = Got (record { path = at_index 0; count = length (statements t.proc.body) })

-- the roots of a procedure; what has no extents of its own is never well formed
abbrev pub rooted : Procedure → Roots
rooted p = if has_extents p then roots_of p else no_roots

abbrev pub reading_of : Target → Reading
reading_of t = entry_reading t.unit.fields (rooted t.proc)

-- in a block that keeps the rules each control expression is simplified
abbrev pub SimplifiesAll : Type 0
SimplifiesAll =
    (fields : ℕ → Option Kind) (memories : ℕ) (callees : ℕ → Option Callee) (at : Reading)
    → (scope : Scope) (root : ℕ → ℕ) (b : Block)
    → is_block fields memories callees scope root b ≡ true
    → in_block (simpler at) b ≡ simplified_block at b

-- all forms can be written down; none is asked of what breaks the rules
abbrev pub all_fit : Reading → Block → Bool
all_fit at b = used_fits (simplifying at) b

abbrev pub simplify_draft : Spot → Writing → ℕ → Tried Block
simplify_draft s AsMade base = Got s.opened.piece
simplify_draft s Simplified base =
    if all_fit (reading_of s.target) s.opened.piece
    then Got (in_block (simpler (reading_of s.target)) s.opened.piece)
    else Not (Form WideNumber)

abbrev pub simplify_rule : Rule
simplify_rule =
    record (plain_rule whole_body (λ s base. Got s.opened.piece)
    (λ s. stays (length (statements s.opened.piece)))) {
      draft = simplify_draft;
    }
