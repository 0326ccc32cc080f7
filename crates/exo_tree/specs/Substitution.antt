-- A control expression in the place of a control variable.
use Rattle.std.specs.Prelude.{ℕ, List, eqb, if◌then◌else◌}
use Rattle.exo_tree.specs.Tree.{Control, Var, Condition, Datum, Coord, Argument, Statement, Block}
use Rattle.exo_tree.specs.Mapped.{Leaves, mapped_control, mapped_controls, mapped_condition, mapped_datum}
use Rattle.exo_tree.specs.Mapped.{mapped_coord, mapped_coords, mapped_argument, mapped_arguments, mapped_statement, mapped_block}

-- e in place of each control variable i; flags, buffers and strides of that id stay
abbrev pub replacing : ℕ → Control → Leaves
replacing i e =
    record { variable = λ x. if eqb x i then e else Var x; name = λ x. x; binder = λ b. b }

module _ (i : ℕ) (e : Control) where
  abbrev pub in_control : Control → Control
  in_control = mapped_control (replacing i e)

  abbrev pub in_controls : List Control → List Control
  in_controls = mapped_controls (replacing i e)

  abbrev pub in_condition : Condition → Condition
  in_condition = mapped_condition (replacing i e)

  abbrev pub in_datum : Datum → Datum
  in_datum = mapped_datum (replacing i e)

  abbrev pub in_coord : Coord → Coord
  in_coord = mapped_coord (replacing i e)

  abbrev pub in_coords : List Coord → List Coord
  in_coords = mapped_coords (replacing i e)

  abbrev pub in_argument : Argument → Argument
  in_argument = mapped_argument (replacing i e)

  abbrev pub in_arguments : List Argument → List Argument
  in_arguments = mapped_arguments (replacing i e)

  abbrev pub in_statement : Statement → Statement
  in_statement = mapped_statement (replacing i e)

  abbrev pub in_block : Block → Block
  in_block = mapped_block (replacing i e)
