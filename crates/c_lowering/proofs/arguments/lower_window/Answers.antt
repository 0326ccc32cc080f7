use Rattle.std.proofs.Common.{◌∙◌, ap}
use Rattle.c_lowering.specs.Made.Lowered.{at_spans, strides_in}
use Rattle.c_lowering.specs.Scope.{forms_in}
use Rattle.c_lowering.specs.Naming.{naming_of}
use Rattle.c_lowering.proofs.Windows.{window_same}
use Rattle.c_lowering.proofs.arguments.lower_window.Goals as goal

pub returns : goal.returns
returns c =
    let x = c.args.x.0 in
    c.window_from.ensures ∙ window_same _ _ _ _ _ c.in_ok-first.ensures (c.in_ok-strides.ensures ∙ ap (λ l. at_spans l (strides_in (naming_of c.args.names.now) x (forms_in c.args.scope.now x))) c.as_slice.ensures)
