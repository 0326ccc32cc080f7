use Rattle.std.proofs.Common.{◌+◌, drop, sym, ◌∙◌}
use Rattle.exo_tree.specs.PlainStatement.{statement}
use Rattle.schedule_run.proofs.Changing.{same_further}
use Rattle.schedule_run.proofs.SameNames.{alike}
use Rattle.schedule_run.proofs.changed.same_first.Goals as goal

pub loop-k-preserved : goal.loop-k-preserved
loop-k-preserved c =
    let a = statement c.statement.result.now in
    let b = statement c.statement-in-loop-k.result.now in
    same_further c.loop-k.k c.args.old.now c.args.new.now (drop (c.loop-k.k + 1) c.args.old.now)
    (drop (c.loop-k.k + 1) c.args.new.now) a b c.statement.ensures.value
    c.statement-in-loop-k.ensures.value
    (alike a b (sym c.is_same.ensures ∙ c.if-not-is_same.false)) c.loop-k.invariant
