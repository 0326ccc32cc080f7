use Rattle.std.proofs.Common.{refl, subst}
use Rattle.exo_tree.specs.Tree.{block}
use Rattle.exo_tree.specs.PlainProcedure.{procedure}
use Rattle.config_live.specs.Walks.{GoesOver}
use Rattle.config_live.proofs.Calls.{from_start}
use Rattle.config_live.proofs.table.call_fields.Goals as goal

pub returns : goal.returns
returns c =
    from_start c.args.table.now (procedure c.args.p.now) c.args.way.now c.read_head.new.way
    c.go.new.way c.take_reads-read.new.self c.go.new.added c.take_out.new.set _
    c.in_ok-read_head.ensures
    (subst (λ z. GoesOver c.args.table.now (block c.args.p.now.body) c.read_head.new.way c.go.new.way z c.go.new.added)
    c.new-written.ensures c.in_ok-go.ensures)
    c.take_out.ensures c.take_reads-read.ensures.taken refl c.take_reads-read.ensures.emptied
    c.take_reads-read.ensures.left c.take_reads-read.ensures.same
