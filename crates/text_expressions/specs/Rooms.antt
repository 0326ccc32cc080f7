-- How much room is left for the parts of an expression.
use Rattle.std.specs.Prelude.{◌≡◌, ℕ, ◌+◌, ◌≤◌, ◌<◌}
use Rattle.text_phrases.specs.declared.Refusal.{Refusal}
use Rattle.text_phrases.specs.declared.Refusal.TheVariants.{TooDeep, TooLong}
use Rattle.text_expressions.specs.Expression.{Tree, depth, nodes, under}
use Rattle.text_expressions.specs.declared.expression.Room.{Room}

-- a token that so many are left with passes a limit of the room: beside a part so deep, or with so many nodes taken
abbrev pub IsFull : Room → ℕ → ℕ → ℕ → Refusal → Type 0
IsFull room beside taken left (TooDeep last) = (last ≡ left) × (room.depth ≤ beside)
IsFull room beside taken left (TooLong last) = (last ≡ left) × (beside < room.depth) × (room.nodes ≤ taken)
IsFull room beside taken left other = ⊥

-- the room at the right of an operator with this left side
pub record Right (room inner : Room) (left : Tree) : Type 0 where
  pub is : inner ≡ under (nodes left + 1) room
  pub shallow : depth left < room.depth
  pub few : nodes left + 1 < room.nodes
