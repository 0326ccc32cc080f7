use Rattle.std.proofs.Common.{◌+◌, drop, sym, ◌∙◌}
use Rattle.exo_tree.specs.PlainStatement.{statement}
use Rattle.schedule_run.proofs.Changing.{same_before}
use Rattle.schedule_run.proofs.SameNames.{alike}
use Rattle.schedule_run.proofs.changed.same_from.Goals as goal

pub loop-k-preserved : goal.loop-k-preserved
loop-k-preserved c = λ h.
    let a = statement c.statement.result.now in
    let b = statement c.statement-in-loop-k.result.now in
    c.loop-k.invariant
    (same_before c.loop-k.k c.args.old.now c.args.new.now a b c.statement.ensures.value
    c.statement-in-loop-k.ensures.value
    (alike a b (sym c.is_same.ensures ∙ c.if-not-is_same.false)) h)
