use Rattle.std.proofs.Common.{◌≡◌, ℕ, List, map, option_map, IfSome, subst}
use Rattle.exo_tree.specs.PlainUnit.{program}
use Rattle.schedule_text.specs.Views.{plain_line, number}
use Rattle.schedule_text.specs.declared.source.Line.{Line}
use Rattle.schedule_laws.specs.Versions.Versions.{Versions, started}
use Rattle.schedule_run.specs.PlainVersions.{versions}
use Rattle.compile_stages.specs.Stages.{Stage, Stopped, Schedule, IsRan}
use Rattle.compile_stages.specs.Stopping.{plain}
use Rattle.compile_stages.proofs.Lines.{refused_stage}
use Rattle.compile_stages.proofs.stages.ran.Goals as goal

pub returns-in_ok-refused_at-in-Err : goal.returns-in_ok-refused_at-in-Err
returns-in_ok-refused_at-in-Err g c =
    let of : List Line → Schedule = λ ls. record { lines = map plain_line ls; numbers = map number ls } in
    subst (λ (ls : List Line). IfSome (option_map Stopped (plain c.in_ok-refused_at-in-Err.field-0))
    (IsRan (program c.args.unit) c.args.count (of ls))) c.as_slice-lines.ensures.value
    (refused_stage (program c.args.unit) c.args.count (of c.as_slice-lines.result.now) c.in-Err.refused.index
    c.in-Err.refused.why (plain c.in_ok-refused_at-in-Err.field-0) c.in-Err.ensures.exact
    c.in_ok-refused_at-in-Err.ensures)
