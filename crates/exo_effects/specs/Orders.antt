-- Two copies of the loop variables of a step, and how they stand to each other.
use Rattle.std.specs.Prelude.{ℕ, Bool, true, ◌&&◌, List, [], map}
use Rattle.std.specs.List.{list_all}
use Rattle.exo_tree.specs.Tree.{Binder, Control}
use Rattle.affine_forms.specs.Atoms.{Linear}
use Rattle.exo_effects.specs.Accesses.{plain_form, plain_fits}

-- a variable from its lower end up to the end that it does not reach
pub record Turn : Type 0 where
  pub variable : ℕ
  pub lower : Linear
  pub upper : Linear

-- of the variables of that number, counted from the outermost loop inwards, the first copy's is the
-- lesser one, or the greater one
pub data OrderRow : Type 0 where
  Less Greater : ℕ → OrderRow

-- the loops of each copy, from the outermost inwards
-- fits: the normal forms of their ends can be written down
pub record Order : Type 0 where
  pub first : List Turn
  pub second : List Turn
  pub rows : List OrderRow
  pub fits : Bool

-- no loops
abbrev pub no_order : Order
no_order = record { first = []; second = []; rows = []; fits = true }

-- ---- of loops

pub record Header : Type 0 where
  pub binder : Binder
  pub lo : Control
  pub hi : Control

abbrev pub turn_of : Header → Turn
turn_of h = record {
  variable = h.binder.id;
  lower = plain_form h.lo;
  upper = plain_form h.hi;
}

-- the normal forms of both ends of a loop can be written down
abbrev pub header_fits : Header → Bool
header_fits h = plain_fits h.lo && plain_fits h.hi

abbrev pub order_of : List Header → List Header → List OrderRow → Order
order_of first second rows = record {
  first = map turn_of first;
  second = map turn_of second;
  rows = rows;
  fits = list_all header_fits first && list_all header_fits second;
}
