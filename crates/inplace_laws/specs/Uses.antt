-- What a block uses of names and of strides.
use Rattle.std.specs.Prelude.{ℕ, Bool, not, ◌&&◌, ◌||◌, List}
use Rattle.exo_tree.specs.Tree.{Control, Condition, Datum, Coord, Argument, Statement, Block}
use Rattle.exo_tree.specs.LookedFor as found
use Rattle.exo_tree.specs.LookedFor.{LookedFor}

-- an id that is used or bound, and of a blind one its strides, passing it, and a view of it that
-- is not blind
abbrev pub used : (ℕ → Bool) → (ℕ → Bool) → LookedFor
used hidden blind = record {
  name = hidden;
  strides = λ x. hidden x || blind x;
  passed = λ x. hidden x || blind x;
  view = λ w x. not (blind w) && blind x;
}

-- whether a tree uses or binds a hidden id, looks at the strides of a blind one, passes it, or
-- gives it a name that is not blind
module _ (hidden blind : ℕ → Bool) where
  abbrev pub in_control : Control → Bool
  in_control = found.in_control (used hidden blind)

  abbrev pub in_controls : List Control → Bool
  in_controls = found.in_controls (used hidden blind)

  abbrev pub in_condition : Condition → Bool
  in_condition = found.in_condition (used hidden blind)

  abbrev pub in_datum : Datum → Bool
  in_datum = found.in_datum (used hidden blind)

  abbrev pub in_coords : List Coord → Bool
  in_coords = found.in_coords (used hidden blind)

  abbrev pub in_argument : Argument → Bool
  in_argument = found.in_argument (used hidden blind)

  abbrev pub in_arguments : List Argument → Bool
  in_arguments = found.in_arguments (used hidden blind)

  abbrev pub in_statement : Statement → Bool
  in_statement = found.in_statement (used hidden blind)

  abbrev pub in_block : Block → Bool
  in_block = found.in_block (used hidden blind)
