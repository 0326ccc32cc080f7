use Rattle.std.proofs.Common.{◌≡◌, List, map, option_map, sym, ap, ◌∙◌}
use Rattle.schedule_text.specs.Views.{plain_line, number}
use Rattle.schedule_text.specs.declared.source.Line.{Line}
use Rattle.compile_stages.specs.Stops as stop
use Rattle.compile_stages.specs.Stages.{Schedule, operator_of, stop_at}
use Rattle.compile_stages.specs.Stopping.{plain_why}
use Rattle.compile_stages.proofs.Lines.{line_at}
use Rattle.compile_stages.proofs.Running.{if-ok}
use Rattle.compile_stages.proofs.stages.refused_at.Goals as goal

pub returns-in_default : goal.returns-in_default
returns-in_default c =
    let ls = c.args.lines.now in
    let k = c.args.refused.index in
    let line = c.index-lines-refused.result in
    let s : Schedule = record { lines = map plain_line ls; numbers = map number ls } in
    let same =
    line_at ls k line (c.requires c.in_default.not-Memory)
    ∙ sym (ap (λ (l : Line). stop.AtLine l.number (operator_of (plain_line l))) c.index-lines-refused.is) in
    if-ok c.at_line.result _ _ (λ end is.
    is ∙ ap (λ f. option_map f (plain_why c.args.refused.why)) (sym same))
    c.at_line.ensures
