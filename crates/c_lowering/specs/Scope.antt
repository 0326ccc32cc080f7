-- What the names in scope are in C, as the program keeps them.
use Rattle.std.specs.Prelude.{ℕ, ◌==◌, if◌then◌else◌, List, [], ◌∷◌, Option, Some, None}
use Rattle.exo_tree.specs.PlainBinder.{cell_type}
use Rattle.c_lowering.specs.Made.Lowered as lowered
use Rattle.c_lowering.specs.Made.Lowered.{Forms, NoForm, NumberForm, TensorForm, WindowForm}
use Rattle.c_lowering.specs.declared.scope.Form.{Form}
use Rattle.c_lowering.specs.declared.scope.Form.TheVariants.{Number, Tensor, Window}
use Rattle.c_lowering.specs.declared.scope.Entry.{Entry}

abbrev pub form_of : Form → lowered.Form
form_of Number = NumberForm
form_of (Tensor cell dims lanes) = TensorForm (cell_type cell) dims lanes
form_of (Window cell rank) = WindowForm (cell_type cell) rank

abbrev pub or_no_form : Option Form → lowered.Form
or_no_form None = NoForm
or_no_form (Some form) = form_of form

-- the last entry of that number, or else the one that was found before
abbrev pub found_in : lowered.Form → List Entry → ℕ → lowered.Form
found_in found [] x = found
found_in found (e ∷ es) x = found_in (if x == e.id.0 then form_of e.form else found) es x

abbrev pub forms_in : List Entry → Forms
forms_in es = found_in NoForm es
