use Rattle.std.proofs.Common.{length}
use Rattle.exo_tree.specs.Tree.{block}
use Rattle.exo_tree.specs.PlainUnit.{program}
use Rattle.config_state.specs.Steps.Fields.{written_in, read_in}
use Rattle.proc_rewrites.proofs.Unwritten.{none_shared}
use Rattle.proc_rewrites.proofs.alike.sees_own_field.Goals as goal

pub returns-then-not-is_some : goal.returns-then-not-is_some
returns-then-not-is_some c =
    let u = program c.args.unit.now in
    let written = written_in u (block c.args.b.now) in
    none_shared (length u.fields) written (read_in u (block c.args.b.now)) c.is_some.result
    (c.is_some.ensures (length u.fields) written c.in_ok-written.ensures) c.if-not-is_some.true

pub returns : goal.returns
returns c =
    let u = program c.args.unit.now in
    c.have_common.ensures (length u.fields) (written_in u (block c.args.b.now)) (read_in u (block c.args.b.now))
    c.in_ok-written.ensures c.in_ok-read.ensures
