use Rattle.std.proofs.Common.{length}
use Rattle.exo_tree.specs.PlainStatement.{statement}
use Rattle.exo_tree.specs.PlainUnit.{program}
use Rattle.config_state.specs.Steps.Fields.{written_by}
use Rattle.proc_rewrites.specs.PlainNeighbours.{used_by}
use Rattle.proc_rewrites.proofs.Unwritten.{none_shared}
use Rattle.proc_rewrites.proofs.neighbours.writes_used.Goals as goal

pub returns-then-not-is_some : goal.returns-then-not-is_some
returns-then-not-is_some c =
    let u = program c.args.unit.now in
    let written = written_by u (statement c.args.a.now) in
    none_shared (length u.fields) written (used_by u (statement c.args.b.now)) c.is_some.result
    (c.is_some.ensures (length u.fields) written c.in_ok-written.ensures) c.if-not-is_some.true

pub returns : goal.returns
returns c =
    let u = program c.args.unit.now in
    c.have_common.ensures (length u.fields) (written_by u (statement c.args.a.now)) (used_by u (statement c.args.b.now))
    c.in_ok-written.ensures c.in_ok-used.ensures
