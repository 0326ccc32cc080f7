-- Windows: of a whole buffer, and by spans.
use Rattle.std.specs.Prelude.{ℕ, length}
use Rattle.exo_tree.specs.Tree.{Cell}
use Rattle.c_tree.specs.CTree.{Actual, WindowOf}
use Rattle.c_lowering.specs.Made.Lowered.{Naming, Form, strides_in, cell_ref, zeros}

abbrev pub whole_of : Naming → ℕ → Cell → Form → Actual
whole_of naming x cell form =
    let strides = strides_in naming x form in
    WindowOf (length strides) cell (cell_ref naming x form (zeros strides)) strides
