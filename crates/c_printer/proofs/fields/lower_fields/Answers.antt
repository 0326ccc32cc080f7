use Rattle.std.proofs.Common.{◌∙◌, ap}
use Rattle.exo_modes.specs.Calls.Marked.{contains}
use Rattle.c_lowering.specs.Made.LoweredUnit.{is_used_from, fields_from}
use Rattle.c_printer.proofs.Marking.{marked_fields}
use Rattle.c_printer.proofs.fields.lower_fields.Goals as goal

pub returns : goal.returns
returns c =
    c.in_ok-names.ensures
    ∙ ap (fields_from (contains c.in_ok-marks.marks) 0) c.as_slice.ensures
    ∙ marked_fields (λ f. is_used_from (contains c.args.counted.now) f 0 c.args.unit.now.procs) c.args.unit.now.fields c.in_ok-marks.marks c.in_ok-marks.ensures
