use Rattle.std.proofs.Common.{ap, ◌∙◌}
use Rattle.exo_tree.specs.PlainUnit.{program}
use Rattle.c_tree.specs.CText.{text_of}
use Rattle.compile_stages.specs.Stopping.{made_of}
use Rattle.compile_stages.proofs.Printing.{text_is, stop_is}
use Rattle.compile_stages.proofs.lowering.lowered_text.Goals as goal

pub returns-in_ok-c_text-in-Ok : goal.returns-in_ok-c_text-in-Ok
returns-in_ok-c_text-in-Ok c =
    text_is (made_of c.args.unit.now c.args.what.now) _ c.in-Ok.ensures.narrow c.in-Ok.ensures.names
    (c.in_ok-c_text-in-Ok.ensures ∙ ap text_of c.in-Ok.ensures.value)

pub returns-in_ok-not_lowered-in-Err : goal.returns-in_ok-not_lowered-in-Err
returns-in_ok-not_lowered-in-Err c =
    stop_is (made_of c.args.unit.now c.args.what.now) c.in-Err.e _ c.in-Err.ensures.err
    c.in_ok-not_lowered-in-Err.ensures
