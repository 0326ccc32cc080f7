use Rattle.std.proofs.Common.{◌≡◌, Some, option_map, string_bytes, codes, sym, ap, ap₂, ◌∙◌}
use Rattle.compile_stages.specs.declared.stop.Stop as code
use Rattle.compile_stages.specs.Messages.{refused, name_refused, line_refused}
use Rattle.compile_stages.specs.Kinds.{message}
use Rattle.compile_stages.specs.Stopping.{plain, plain_why}
use Rattle.compile_stages.proofs.Lines.{line_said}
use Rattle.compile_stages.proofs.Running.{if-ok}
use Rattle.compile_stages.proofs.stop.Stop.message.Goals as goal

pub returns-in_ok-why-in-AtLine : goal.returns-in_ok-why-in-AtLine
returns-in_ok-why-in-AtLine c =
    let procs = c.args.procs.now in
    let file = c.args.schedule.now in
    let n = c.in-AtLine.number in
    if-ok c.line_refused.result _ _ (λ text is.
    ap (λ (e : code.Stop). option_map (message procs file) (plain e)) c.in-AtLine.is
    ∙ (line_said procs file n c.in-AtLine.operator (string_bytes c.in_ok-why-in-AtLine.why) (plain_why c.in-AtLine.why)
    c.in_ok-why-in-AtLine.ensures
    ∙ ap Some (ap₂ (λ o w. line_refused file n o w) (sym c.as_str.ensures) (sym c.deref-in-AtLine.ensures)
    ∙ sym is)))
    c.line_refused.ensures

pub returns-in-NoVersion : goal.returns-in-NoVersion
returns-in-NoVersion c =
    if-ok c.refused.result _ _ (λ text is.
    ap (λ (e : code.Stop). option_map (message c.args.procs.now c.args.schedule.now) (plain e)) c.in-NoVersion.is
    ∙ ap Some (ap (λ n. refused n (codes "UnknownProc")) (sym c.as_str-in-NoVersion.ensures) ∙ sym is))
    c.refused.ensures

pub returns-in-NameClash : goal.returns-in-NameClash
returns-in-NameClash c =
    if-ok c.name_refused-in-NameClash.result _ _ (λ text is.
    ap (λ (e : code.Stop). option_map (message c.args.procs.now c.args.schedule.now) (plain e)) c.in-NameClash.is
    ∙ ap Some (ap (λ n. name_refused c.args.procs.now n (codes "NameClash")) (sym c.as_str-in-NameClash.ensures) ∙ sym is))
    c.name_refused-in-NameClash.ensures
