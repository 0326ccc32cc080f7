-- The rule that cuts a loop in two.
use Rattle.std.specs.Prelude.{ℕ, List, [], ◌∷◌}
use Rattle.exo_tree.specs.Tree.{Control, Le, For, Block, next}
use Rattle.exo_tree.specs.Places.{Path}
use Rattle.exo_tree.specs.Renaming.{fresh}
use Rattle.meaning_laws.specs.Facts.{Holds}
use Rattle.place_laws.specs.Scope.UnrollLoop.{only_loop}
use Rattle.cursor_forward.specs.Shifts.{stays}
use Rattle.place_laws.specs.Order.TurnsOfTwo.{Loop}
use Rattle.step_rules.specs.Rule.{Need, Says, Rule}
use Rattle.loop_laws.specs.Shapes.{loop_of, listed, loop_rule}

-- the loop up to e, and a copy of it from there
abbrev pub cut : Control → Loop → ℕ → Block
cut e l base =
    next (For l.binder l.lo e l.body) (fresh base (only_loop l.binder e l.hi l.body))

-- e lies between the bounds
abbrev pub cut_needs : Control → Path → Loop → List Need
cut_needs e at l = Says at (Holds (Le l.lo e)) ∷ Says at (Holds (Le e l.hi)) ∷ []

abbrev pub cut_rule : Control → Rule
cut_rule e = record (loop_rule loop_of (cut e) (λ l. stays 1)) {
  needs = λ s. listed loop_of (cut_needs e s.piece.path) s;
}
