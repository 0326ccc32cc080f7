-- The rule that makes one loop of two side by side, the second of which goes on where the first
-- ends.
use Rattle.std.specs.Prelude.{ℕ, pos, Bool, ◌&&◌, if◌then◌else◌, List, [], ◌∷◌, Option, Some, None}
use Rattle.std.specs.Prelude.{option_and_then}
use Rattle.exo_tree.specs.Tree.{Lit, Le, Block}
use Rattle.exo_tree.specs.Places.{Path, opened}
use Rattle.exo_tree.specs.Renaming.{fresh}
use Rattle.meaning_laws.specs.Facts.{Holds}
use Rattle.place_laws.specs.Scope.UnrollLoop.{only_loop}
use Rattle.affine_forms.specs.Forms.{is_affine}
use Rattle.affine_places.specs.Roots.{variables}
use Rattle.tree_edits.specs.Made.Ids.{next_id}
use Rattle.cursor_forward.specs.Shifts.{stays}
use Rattle.place_laws.specs.Order.TurnsOfTwo.{Loop}
use Rattle.step_rules.specs.Rule.{Tried, Got, Target, Piece, Need, Says, Spot, Rule}
use Rattle.step_rules.specs.Rule.{plain_rule}
use Rattle.step_rules.specs.Answer.{then_try, unless, opened_or_wrong}
use Rattle.step_rules.specs.Shapes.{tried}
use Rattle.loop_laws.specs.Shapes.{listed_of}
use Rattle.loop_laws.specs.Bounds.{bounds_differ}
use Rattle.loop_laws.specs.SameTrees.{same_block}
use Rattle.loop_laws.specs.Nest.Fuse.{Two, two_of}

-- ---- two loops

-- a loop without its bounds
abbrev pub unbounded : Loop → Block
unbounded l = only_loop l.binder (Lit (pos 0)) (Lit (pos 0)) l.body

-- the bodies are the same but for the numbers and names of binders: with the same new numbers
-- nothing but names differs
abbrev pub have_one_body : ℕ → Two → Bool
have_one_body base n =
    same_block (fresh base (unbounded n.first)) (fresh base (unbounded n.second))

-- the bounds that are to agree are affine and over variables alone, as all are in a well-formed
-- procedure
abbrev pub meet_in_variables : Two → Bool
meet_in_variables n = is_affine variables n.second.lo && is_affine variables n.first.hi

abbrev pub with_one_body : ℕ → Two → Option Two
with_one_body base n = if have_one_body base n && meet_in_variables n then Some n else None

-- the second begins where the first ends
abbrev pub where_they_meet : Two → Tried Two
where_they_meet n = unless (bounds_differ n.second.lo n.first.hi) (Got n)

-- base: above all numbers of the procedure
abbrev pub joining : ℕ → Block → Tried Two
joining base b =
    then_try (tried (option_and_then (with_one_body base) (two_of b)) (λ n. n)) where_they_meet

-- ---- the rule

abbrev pub joined_loop : Two → Block
joined_loop n = only_loop n.first.binder n.first.lo n.second.hi n.first.body

-- neither ends before it begins
abbrev pub join_needs : Path → Two → List Need
join_needs at n =
    Says at (Holds (Le n.first.lo n.first.hi)) ∷ Says at (Holds (Le n.second.lo n.second.hi)) ∷ []

abbrev pub joining_at : Spot → Tried Two
joining_at s = joining (next_id s.target.proc) s.opened.piece

abbrev pub join_piece : Target → Path → Tried Piece
join_piece t at =
    then_try (opened_or_wrong (opened 2 at t.proc.body)) (λ o.
    then_try (joining (next_id t.proc) o.piece) (λ n. Got (record { path = at; count = 2 })))

-- the first loop stays with its body; the second is gone
abbrev pub join_rule : Rule
join_rule = record (plain_rule join_piece
    (λ s base. then_try (joining_at s) (λ n. Got (joined_loop n)))
    (λ s. listed_of (λ n. stays 1) (joining_at s))) {
      needs = λ s. listed_of (join_needs s.piece.path) (joining_at s);
    }
