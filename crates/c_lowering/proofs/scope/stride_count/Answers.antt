use Rattle.std.proofs.Common.{◌∙◌, ap, sym, length}
use Rattle.exo_tree.specs.PlainBinder.{cell_type}
use Rattle.c_lowering.specs.Made.Lowered.{strides_in}
use Rattle.c_lowering.specs.Scope.{form_of}
use Rattle.c_lowering.proofs.Offsets.{tensor_strides, window_rank}
use Rattle.c_lowering.proofs.scope.stride_count.Goals as goal

pub returns-in-Some-Tensor : goal.returns-in-Some-Tensor
returns-in-Some-Tensor c = λ naming. c.len.ensures ∙ tensor_strides naming c.args.x.0 (cell_type c.in-Some-Tensor.field-0-0) _ c.in-Some-Tensor.field-0-2 ∙ ap (λ f. length (strides_in naming c.args.x.0 f)) (ap form_of (sym c.in-Some-Tensor.field-0-is) ∙ c.in-Some-Tensor.ensures)

pub returns-in-Some-Window : goal.returns-in-Some-Window
returns-in-Some-Window c = λ naming. window_rank naming c.args.x.0 (cell_type c.in-Some-Window.field-0-0) _ ∙ ap (λ f. length (strides_in naming c.args.x.0 f)) (ap form_of (sym c.in-Some-Window.field-0-is) ∙ c.in-Some-Window.ensures)
