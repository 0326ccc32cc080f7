use Rattle.exo_tree.specs.PlainProcedure.{procedure}
use Rattle.schedule_calls.specs.PlainRequest.{plain_asked}
use Rattle.schedule_run.specs.PlainVersions.{versions}
use Rattle.schedule_run.proofs.Arms.{of_operator}
use Rattle.schedule_run.proofs.planning.at_cursor.Goals as goal

pub returns-in-ReorderLoops : goal.returns-in-ReorderLoops
returns-in-ReorderLoops c =
    of_operator (versions c.args.s.now) c.args.on.now.number.0 (procedure c.args.on.now.proc.now)
    c.at_statement.result (plain_asked c.args.at.now) _ _ c.in-ReorderLoops.is c.at_statement.ensures

pub returns-in-JoinLoops : goal.returns-in-JoinLoops
returns-in-JoinLoops c =
    of_operator (versions c.args.s.now) c.args.on.now.number.0 (procedure c.args.on.now.proc.now)
    c.at_statement-in-JoinLoops.result (plain_asked c.args.at.now) _ _ c.in-JoinLoops.is c.at_statement-in-JoinLoops.ensures

pub returns-in-Fission : goal.returns-in-Fission
returns-in-Fission c =
    of_operator (versions c.args.s.now) c.args.on.now.number.0 (procedure c.args.on.now.proc.now)
    c.fission_at.result (plain_asked c.args.at.now) _ _ c.in-Fission.is c.fission_at.ensures

pub returns-in-Fuse : goal.returns-in-Fuse
returns-in-Fuse c =
    of_operator (versions c.args.s.now) c.args.on.now.number.0 (procedure c.args.on.now.proc.now)
    c.at_statement-in-Fuse.result (plain_asked c.args.at.now) _ _ c.in-Fuse.is c.at_statement-in-Fuse.ensures

pub returns-in-UnrollLoop : goal.returns-in-UnrollLoop
returns-in-UnrollLoop c =
    of_operator (versions c.args.s.now) c.args.on.now.number.0 (procedure c.args.on.now.proc.now)
    c.at_statement-in-UnrollLoop.result (plain_asked c.args.at.now) _ _ c.in-UnrollLoop.is c.at_statement-in-UnrollLoop.ensures

pub returns-in-RemoveLoop : goal.returns-in-RemoveLoop
returns-in-RemoveLoop c =
    of_operator (versions c.args.s.now) c.args.on.now.number.0 (procedure c.args.on.now.proc.now)
    c.at_statement-in-RemoveLoop.result (plain_asked c.args.at.now) _ _ c.in-RemoveLoop.is c.at_statement-in-RemoveLoop.ensures

pub returns-in-LiftScope : goal.returns-in-LiftScope
returns-in-LiftScope c =
    of_operator (versions c.args.s.now) c.args.on.now.number.0 (procedure c.args.on.now.proc.now)
    c.at_statement-in-LiftScope.result (plain_asked c.args.at.now) _ _ c.in-LiftScope.is c.at_statement-in-LiftScope.ensures

pub returns-in-ReorderStmts : goal.returns-in-ReorderStmts
returns-in-ReorderStmts c =
    of_operator (versions c.args.s.now) c.args.on.now.number.0 (procedure c.args.on.now.proc.now)
    c.at_statement-in-ReorderStmts.result (plain_asked c.args.at.now) _ _ c.in-ReorderStmts.is c.at_statement-in-ReorderStmts.ensures

pub returns-in-LiftAlloc : goal.returns-in-LiftAlloc
returns-in-LiftAlloc c =
    of_operator (versions c.args.s.now) c.args.on.now.number.0 (procedure c.args.on.now.proc.now)
    c.lift_alloc_at.result (plain_asked c.args.at.now) _ _ c.in-LiftAlloc.is c.lift_alloc_at.ensures

pub returns-in-DeleteBuffer : goal.returns-in-DeleteBuffer
returns-in-DeleteBuffer c =
    of_operator (versions c.args.s.now) c.args.on.now.number.0 (procedure c.args.on.now.proc.now)
    c.at_statement-in-DeleteBuffer.result (plain_asked c.args.at.now) _ _ c.in-DeleteBuffer.is
    c.at_statement-in-DeleteBuffer.ensures

pub returns-in-Inline : goal.returns-in-Inline
returns-in-Inline c =
    of_operator (versions c.args.s.now) c.args.on.now.number.0 (procedure c.args.on.now.proc.now)
    c.at_statement-in-Inline.result (plain_asked c.args.at.now) _ _ c.in-Inline.is c.at_statement-in-Inline.ensures

pub returns-in-InlineWindow : goal.returns-in-InlineWindow
returns-in-InlineWindow c =
    of_operator (versions c.args.s.now) c.args.on.now.number.0 (procedure c.args.on.now.proc.now)
    c.at_statement-in-InlineWindow.result (plain_asked c.args.at.now) _ _ c.in-InlineWindow.is c.at_statement-in-InlineWindow.ensures

pub returns-in-DeleteConfig : goal.returns-in-DeleteConfig
returns-in-DeleteConfig c =
    of_operator (versions c.args.s.now) c.args.on.now.number.0 (procedure c.args.on.now.proc.now)
    c.at_statement-in-DeleteConfig.result (plain_asked c.args.at.now) _ _ c.in-DeleteConfig.is
    c.at_statement-in-DeleteConfig.ensures
