-- Threads may share a unit's tree, and take it from one another.
-- Each part is a lemma of its own: one `search` that goes down through them all runs out of steps.
use denote.RattleType.{RattleType}
use denote.Param.Send.{IsSend, IsSync, sendable}
use denote.Param.SendFields.{as_row_send, as_row_sync}
use Rattle.std.proofs.Crossing as std
use Rattle.std.proofs.Crossing.{Box-send, Box-sync, Vec-send, Vec-sync, Arc-send, Arc-sync}
use Rattle.std.specs.contracts.alloc.Global as Global
use Rattle.std.specs.contracts.impls.GlobalAllocator.TheImpl.{ghosts}
use Rattle.std.specs.contracts.sync.Arc as Arc
use Rattle.std.specs.contracts.vec.Vec as Vec
use Rattle.exo_tree.specs.contracts.argument.Arg as Arg
use Rattle.exo_tree.specs.contracts.argument.Args as Args
use Rattle.exo_tree.specs.contracts.block.Block as Block
use Rattle.exo_tree.specs.contracts.block.Stmt as Stmt
use Rattle.exo_tree.specs.contracts.control.Cond as Cond
use Rattle.exo_tree.specs.contracts.control.Coord as Coord
use Rattle.exo_tree.specs.contracts.control.Ctrl as Ctrl
use Rattle.exo_tree.specs.contracts.data.DataExpr as DataExpr
use Rattle.exo_tree.specs.contracts.list.Coords as Coords
use Rattle.exo_tree.specs.contracts.list.Indices as Indices
use Rattle.exo_tree.specs.contracts.list.Conds as Conds
use Rattle.exo_tree.specs.contracts.param.Param as Param
use Rattle.exo_tree.specs.contracts.param.ParamKind as ParamKind
use Rattle.exo_tree.specs.contracts.param.Params as Params
use Rattle.exo_tree.specs.contracts.procedure.Proc as Proc
use Rattle.exo_tree.specs.contracts.procedure.Procs as Procs
use Rattle.exo_tree.specs.contracts.unit.Unit as Unit
use Rattle.exo_tree.proofs.binder.Binder.TheSendSync as binder
use Rattle.exo_tree.proofs.block.Block.TheLaws.TheKnot as block
use Rattle.exo_tree.proofs.control.Cond.TheLaws.TheKnot as cond
use Rattle.exo_tree.proofs.control.Ctrl.TheLaws.TheKnot as ctrl
use Rattle.exo_tree.proofs.data.DataExpr.TheLaws.TheKnot as data_expr
use Rattle.exo_tree.proofs.number.Cell.TheSendSync as cell
use Rattle.exo_tree.proofs.number.FieldId.TheSendSync as field_id
use Rattle.exo_tree.proofs.number.Id.TheSendSync as id
use Rattle.exo_tree.proofs.number.MemId.TheSendSync as mem_id
use Rattle.exo_tree.proofs.number.ProcId.TheSendSync as proc_id
use Rattle.exo_tree.proofs.lines.Lines.TheSendSync as lines
use Rattle.exo_tree.proofs.place.Path.TheSendSync as path
use Rattle.exo_tree.proofs.text.Name.TheSendSync as name
use Rattle.exo_tree.proofs.text.Text.TheSendSync as text
use Rattle.exo_tree.proofs.unit.Fields.TheSendSync as fields
use Rattle.exo_tree.proofs.unit.Memories.TheSendSync as memories

-- ---- expressions
pub Ctrl-field_send : IsSend (Ctrl.the_field).row
Ctrl-field_send = ctrl.send-Ctrl
    (search sendable) id.the_field_send field_id.the_field_send (search sendable) Box-send

pub Ctrl-field_sync : IsSync (Ctrl.the_field).row
Ctrl-field_sync = ctrl.sync-Ctrl
    (search sendable) id.the_field_sync field_id.the_field_sync (search sendable) Box-sync

pub Ctrl-send : IsSend Ctrl.the_row
Ctrl-send = as_row_send Ctrl.the_field Ctrl-field_send

pub Ctrl-sync : IsSync Ctrl.the_row
Ctrl-sync = as_row_sync Ctrl.the_field Ctrl-field_sync

pub Cond-field_send : IsSend (Cond.the_field).row
Cond-field_send = cond.send-Cond
    id.the_field_send field_id.the_field_send Ctrl-field_send Box-send

pub Cond-field_sync : IsSync (Cond.the_field).row
Cond-field_sync = cond.sync-Cond
    id.the_field_sync field_id.the_field_sync Ctrl-field_sync Box-sync

pub Cond-send : IsSend Cond.the_row
Cond-send = as_row_send Cond.the_field Cond-field_send

pub Cond-sync : IsSync Cond.the_row
Cond-sync = as_row_sync Cond.the_field Cond-field_sync

pub Coord-field_send : IsSend (Coord.the_field).row
Coord-field_send = let a = Ctrl-field_send in search sendable depth 20

pub Coord-field_sync : IsSync (Coord.the_field).row
Coord-field_sync = let a = Ctrl-field_sync in search sendable depth 20

pub Coord-send : IsSend Coord.the_row
Coord-send = as_row_send Coord.the_field Coord-field_send

pub Coord-sync : IsSync Coord.the_row
Coord-sync = as_row_sync Coord.the_field Coord-field_sync

pub Indices-send : IsSend Indices.the_row
Indices-send = let a = Vec-send _ Ctrl-send in search sendable depth 20

pub Indices-sync : IsSync Indices.the_row
Indices-sync = let a = Vec-sync _ Ctrl-sync in search sendable depth 20

pub Coords-send : IsSend Coords.the_row
Coords-send = let a = Vec-send _ Coord-send in search sendable depth 20

pub Coords-sync : IsSync Coords.the_row
Coords-sync = let a = Vec-sync _ Coord-sync in search sendable depth 20

pub DataExpr-field_send : IsSend (DataExpr.the_field).row
DataExpr-field_send = data_expr.send-DataExpr
    (search sendable) id.the_field_send Indices-send Box-send

pub DataExpr-field_sync : IsSync (DataExpr.the_field).row
DataExpr-field_sync = data_expr.sync-DataExpr
    (search sendable) id.the_field_sync Indices-sync Box-sync

pub DataExpr-send : IsSend DataExpr.the_row
DataExpr-send = as_row_send DataExpr.the_field DataExpr-field_send

pub DataExpr-sync : IsSync DataExpr.the_row
DataExpr-sync = as_row_sync DataExpr.the_field DataExpr-field_sync

pub Arg-field_send : IsSend (Arg.the_field).row
Arg-field_send =
    let a = Ctrl-field_send in let b = Cond-field_send in let c = Coords-send in
    let d = id.the_field_send in search sendable depth 20

pub Arg-field_sync : IsSync (Arg.the_field).row
Arg-field_sync =
    let a = Ctrl-field_sync in let b = Cond-field_sync in let c = Coords-sync in
    let d = id.the_field_sync in search sendable depth 20

pub Arg-send : IsSend Arg.the_row
Arg-send = as_row_send Arg.the_field Arg-field_send

pub Arg-sync : IsSync Arg.the_row
Arg-sync = as_row_sync Arg.the_field Arg-field_sync

pub Args-send : IsSend Args.the_row
Args-send = let a = Vec-send _ Arg-send in search sendable depth 20

pub Args-sync : IsSync Args.the_row
Args-sync = let a = Vec-sync _ Arg-sync in search sendable depth 20

-- ---- statements: an `Arc` asks both laws of what it holds
module _ (R : RattleType) (s : IsSend R) (y : IsSync R) where
  abbrev list : RattleType
  list = Vec.the_row (Arc.the_row R Global.the_row ghosts) Global.the_row ghosts

  list-send : IsSend list
  list-send = Vec-send _ (Arc-send R s y)

  list-sync : IsSync list
  list-sync = Vec-sync _ (Arc-sync R s y)

  shared-send : IsSend (Arc.the_row list Global.the_row ghosts)
  shared-send = Arc-send list list-send list-sync

  shared-sync : IsSync (Arc.the_row list Global.the_row ghosts)
  shared-sync = Arc-sync list list-send list-sync

pub Block-send : IsSend Block.the_row
Block-send = block.both_send-Block
    list-send shared-send id.the_send (as_row_send Indices.the_field Indices-send) DataExpr-send
    field_id.the_send Arg-send Cond-send binder.the_send Ctrl-send cell.the_send mem_id.the_send
    (as_row_send Coords.the_field Coords-send) proc_id.the_send
    (as_row_send Args.the_field Args-send)
    list-sync shared-sync id.the_sync (as_row_sync Indices.the_field Indices-sync) DataExpr-sync
    field_id.the_sync Arg-sync Cond-sync binder.the_sync Ctrl-sync cell.the_sync mem_id.the_sync
    (as_row_sync Coords.the_field Coords-sync) proc_id.the_sync
    (as_row_sync Args.the_field Args-sync)

pub Block-sync : IsSync Block.the_row
Block-sync = block.both_sync-Block
    list-send shared-send id.the_send (as_row_send Indices.the_field Indices-send) DataExpr-send
    field_id.the_send Arg-send Cond-send binder.the_send Ctrl-send cell.the_send mem_id.the_send
    (as_row_send Coords.the_field Coords-send) proc_id.the_send
    (as_row_send Args.the_field Args-send)
    list-sync shared-sync id.the_sync (as_row_sync Indices.the_field Indices-sync) DataExpr-sync
    field_id.the_sync Arg-sync Cond-sync binder.the_sync Ctrl-sync cell.the_sync mem_id.the_sync
    (as_row_sync Coords.the_field Coords-sync) proc_id.the_sync
    (as_row_sync Args.the_field Args-sync)

pub Stmt-field_send : IsSend (Stmt.the_field).row
Stmt-field_send = block.both_send-Stmt
    id.the_field_send Indices-send DataExpr-field_send field_id.the_field_send Arg-field_send
    Cond-field_send Block-send binder.the_field_send Ctrl-field_send cell.the_field_send
    mem_id.the_field_send Coords-send proc_id.the_field_send Args-send

pub Stmt-field_sync : IsSync (Stmt.the_field).row
Stmt-field_sync = block.both_sync-Stmt
    id.the_field_sync Indices-sync DataExpr-field_sync field_id.the_field_sync Arg-field_sync
    Cond-field_sync Block-sync binder.the_field_sync Ctrl-field_sync cell.the_field_sync
    mem_id.the_field_sync Coords-sync proc_id.the_field_sync Args-sync

pub Stmt-send : IsSend Stmt.the_row
Stmt-send = as_row_send Stmt.the_field Stmt-field_send

pub Stmt-sync : IsSync Stmt.the_row
Stmt-sync = as_row_sync Stmt.the_field Stmt-field_sync

-- ---- procedures and units
pub Conds-send : IsSend Conds.the_row
Conds-send = let a = Vec-send _ Cond-send in search sendable depth 20

pub Conds-sync : IsSync Conds.the_row
Conds-sync = let a = Vec-sync _ Cond-sync in search sendable depth 20

ParamKind-field_send : IsSend (ParamKind.the_field).row
ParamKind-field_send =
    let a = Indices-send in let b = cell.the_field_send in let c = mem_id.the_field_send in
    search sendable depth 20

ParamKind-field_sync : IsSync (ParamKind.the_field).row
ParamKind-field_sync =
    let a = Indices-sync in let b = cell.the_field_sync in let c = mem_id.the_field_sync in
    search sendable depth 20

pub Param-field_send : IsSend (Param.the_field).row
Param-field_send =
    let a = ParamKind-field_send in let b = binder.the_field_send in search sendable depth 20

pub Param-send : IsSend Param.the_row
Param-send = as_row_send Param.the_field Param-field_send

pub Param-field_sync : IsSync (Param.the_field).row
Param-field_sync =
    let a = ParamKind-field_sync in let b = binder.the_field_sync in search sendable depth 20

pub Param-sync : IsSync Param.the_row
Param-sync = as_row_sync Param.the_field Param-field_sync

pub Params-send : IsSend Params.the_row
Params-send = let a = Vec-send _ Param-send in search sendable depth 20

pub Params-sync : IsSync Params.the_row
Params-sync = let a = Vec-sync _ Param-sync in search sendable depth 20

pub Proc-field_send : IsSend (Proc.the_field).row
Proc-field_send =
    let a = Params-send in let b = Conds-send in let c = Block-send in let d = name.the_send in
    let e = text.the_send in search sendable depth 20

pub Proc-send : IsSend Proc.the_row
Proc-send = as_row_send Proc.the_field Proc-field_send

pub Proc-field_sync : IsSync (Proc.the_field).row
Proc-field_sync =
    let a = Params-sync in let b = Conds-sync in let c = Block-sync in let d = name.the_sync in
    let e = text.the_sync in search sendable depth 20

pub Proc-sync : IsSync Proc.the_row
Proc-sync = as_row_sync Proc.the_field Proc-field_sync

pub Procs-send : IsSend Procs.the_row
Procs-send = let a = Vec-send _ Proc-send in search sendable depth 20

pub Procs-sync : IsSync Procs.the_row
Procs-sync = let a = Vec-sync _ Proc-sync in search sendable depth 20

pub Unit-field_send : IsSend (Unit.the_field).row
Unit-field_send =
    let a = Procs-send in let b = fields.the_send in let c = memories.the_send in
    let d = lines.the_send in search sendable depth 20

pub Unit-send : IsSend Unit.the_row
Unit-send = as_row_send Unit.the_field Unit-field_send

pub Unit-field_sync : IsSync (Unit.the_field).row
Unit-field_sync =
    let a = Procs-sync in let b = fields.the_sync in let c = memories.the_sync in
    let d = lines.the_sync in search sendable depth 20

pub Unit-sync : IsSync Unit.the_row
Unit-sync = as_row_sync Unit.the_field Unit-field_sync

-- what a caller's `search` takes
pub ruleset crosses = (
  Ctrl-field_send,
  Ctrl-field_sync,
  Ctrl-send,
  Ctrl-sync,
  Cond-field_send,
  Cond-field_sync,
  Cond-send,
  Cond-sync,
  Coord-field_send,
  Coord-field_sync,
  Coord-send,
  Coord-sync,
  Indices-send,
  Indices-sync,
  Coords-send,
  Coords-sync,
  DataExpr-field_send,
  DataExpr-field_sync,
  DataExpr-send,
  DataExpr-sync,
  Arg-field_send,
  Arg-field_sync,
  Arg-send,
  Arg-sync,
  Args-send,
  Args-sync,
  Block-send,
  Block-sync,
  Stmt-field_send,
  Stmt-field_sync,
  Stmt-send,
  Stmt-sync,
  Conds-send,
  Conds-sync,
  Param-field_send,
  Param-field_sync,
  Param-send,
  Param-sync,
  Params-send,
  Params-sync,
  Proc-field_send,
  Proc-field_sync,
  Proc-send,
  Proc-sync,
  Procs-send,
  Procs-sync,
  Unit-field_send,
  Unit-field_sync,
  Unit-send,
  Unit-sync,
  path.the_send,
  path.the_sync,
  std.crosses,
  sendable,
)
