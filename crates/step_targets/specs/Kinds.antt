-- Rules by what they stand on, and by what they say besides.
use Rattle.std.specs.Prelude.{ℕ, zero, Bool, if◌then◌else◌, List, [], Option, Some, None}
use Rattle.std.specs.Prelude.{option_and_then}
use Rattle.exo_tree.specs.Tree.{Block}
use Rattle.exo_tree.specs.Places.{Path}
use Rattle.cursor_forward.specs.Cursors.{Before}
use Rattle.cursor_forward.specs.Shifts.{Shift}
use Rattle.place_laws.specs.Order.TurnsOfTwo.{Loop}
use Rattle.step_rules.specs.Rule.{Need, Rule}
use Rattle.step_rules.specs.Shapes.{tried, one_statement}
use Rattle.loop_laws.specs.Shapes.{loop_of, listed}

-- ---- what a rule says besides

-- it keeps the name of the procedure, and no field may differ
abbrev pub quietly : Rule → Rule
quietly r = record r {
  name = λ p. p.name;
  fields = λ s. [];
  point = λ s. ([], Before);
}

-- it gives no names either, and has no refusals of its own
abbrev pub plainly : Rule → Rule
plainly r = record (quietly r) {
  named = zero;
  refusal = λ s. None;
}

-- ---- a loop

-- a loop that is all of a block and fits
abbrev pub fitting : (Loop → Bool) → Block → Option Loop
fitting fits b = option_and_then (λ l. if fits l then Some l else None) (loop_of b)

-- what stands for the loop that is read of a piece, by the first new id; what it needs at its path,
-- and where its statements go; all else is as another rule has it
abbrev pub on_loop :
    (Block → Option Loop)
    → (Loop → ℕ → Block)
    → (Path → Loop → List Need)
    → (Loop → List Shift)
    → Rule
    → Rule
on_loop read make owe go r = record r {
  piece = one_statement read;
  draft = λ s how base. tried (read s.opened.piece) (λ l. make l base);
  needs = λ s. listed read (owe s.piece.path) s;
  shifts = listed read go;
}
