use Rattle.exo_tree.specs.PlainStatement.{statement}
use Rattle.std.proofs.Common.{ap, arith}
use Rattle.config_live.proofs.Statements.{config_at, if_at, for_at, call_at, statement_over, over_end}
use Rattle.config_live.proofs.Statements.{on_ok}
use Rattle.config_live.proofs.walk.+walk.Goals as goal

pub go-loop-k-preserved : goal.go-loop-k-preserved
go-loop-k-preserved t c = λ new has h.
    c.loop-k.invariant new has
    (statement_over c.args.table.now c.args.b.now _ c.loop-k.k (statement c.statement.result.now)
    c.loop-k.way c.go_by.new.way new c.loop-k.added c.go_by.new.added has
    c.statement.ensures.value c.in_ok-go_by.ensures h)

pub go-returns : goal.go-returns
go-returns t c =
    c.loop-k.invariant c.loop-k.way c.loop-k.added
    (over_end c.args.table.now c.args.b.now c.loop-k.k c.loop-k.way c.loop-k.added
    (let l = c.loop-k-test.false in let e = c.len-k-end.ensures in omega arith))

pub go_by-returns-in-Config : goal.go_by-returns-in-Config
go_by-returns-in-Config t c =
    on_ok c.write.result _ _
    (λ h. config_at c.args.table.now (statement c.args.s.now) c.in-Config.f.0 _ c.args.way.now
    c.read_named.new.way c.write.new.self c.args.added.now c.write.new.added
    (ap statement c.in-Config.is) c.in_ok-read_named.ensures h)
    c.write.ensures

pub go_by-returns-in_ok-both-in-If : goal.go_by-returns-in_ok-both-in-If
go_by-returns-in_ok-both-in-If t c =
    on_ok c.write_all.result _ _
    (λ h. if_at c.args.table.now (statement c.args.s.now) _ _ _ c.args.way.now
    c.read_named.new.way c.branch-alloc.new.way c.other_branch.new.way c.write_all.new.self
    c.in_ok-first-in-If.first c.in_ok-both-in-If.both c.args.added.now c.write_all.new.added
    (ap statement c.in-If.is) c.in_ok-read_named.ensures c.in_ok-first-in-If.ensures
    c.in_ok-both-in-If.ensures h)
    c.write_all.ensures

pub go_by-returns-in-For : goal.go_by-returns-in-For
go_by-returns-in-For t c =
    on_ok c.turn.result _ _
    (λ h. for_at c.args.table.now (statement c.args.s.now) _ _ _ _ c.args.way.now
    c.read_named.new.way c.turn.new.way c.args.added.now (ap statement c.in-For.is)
    c.in_ok-read_named.ensures h)
    c.turn.ensures

pub go_by-returns-in-Call : goal.go_by-returns-in-Call
go_by-returns-in-Call t c =
    on_ok c.call.result _ _
    (λ h. call_at c.args.table.now (statement c.args.s.now) c.in-Call.p.0 _ c.args.way.now
    c.read_named.new.way c.call.new.way c.args.added.now c.call.new.added
    (ap statement c.in-Call.is) c.in_ok-read_named.ensures h)
    c.call.ensures
