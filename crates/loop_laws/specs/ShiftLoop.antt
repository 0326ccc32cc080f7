-- The rule that counts the turns of a loop from another number on.
use Rattle.std.specs.Prelude.{ℕ, pos, List, [], ◌∷◌}
use Rattle.exo_tree.specs.Tree.{Control, Lit, Var, Add, Sub, Le, Block}
use Rattle.exo_tree.specs.Places.{Path}
use Rattle.exo_tree.specs.Substitution.{in_block}
use Rattle.meaning_laws.specs.Facts.{Holds}
use Rattle.place_laws.specs.Scope.UnrollLoop.{only_loop}
use Rattle.cursor_forward.specs.Shifts.{stays}
use Rattle.place_laws.specs.Order.TurnsOfTwo.{Loop}
use Rattle.step_rules.specs.Rule.{Need, Says, Rule}
use Rattle.loop_laws.specs.Shapes.{loop_of, listed, loop_rule}

-- the number that the turn has in the old loop
abbrev pub old_number : Control → Loop → Control
old_number e l = Sub (Add (Var l.binder.id) l.lo) e

-- the loop from e on
abbrev pub shifted : Control → Loop → ℕ → Block
shifted e l base =
    only_loop l.binder e (Sub (Add l.hi e) l.lo)
    (in_block l.binder.id (old_number e l) l.body)

-- no turn has a negative number
abbrev pub shift_needs : Control → Path → Loop → List Need
shift_needs e at l = Says at (Holds (Le (Lit (pos 0)) e)) ∷ []

abbrev pub shift_rule : Control → Rule
shift_rule e = record (loop_rule loop_of (shifted e) (λ l. stays 1)) {
  needs = λ s. listed loop_of (shift_needs e s.piece.path) s;
}
