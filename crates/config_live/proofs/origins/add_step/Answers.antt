use Rattle.std.proofs.Common.{map, sym, arith}
use Rattle.exo_tree.specs.PlainProcedure.{procedure}
use Rattle.config_live.specs.Origins.{origin}
use Rattle.config_live.proofs.Since.{both_there, step_marked, origin_at}
use Rattle.config_live.proofs.origins.add_step.Goals as goal

pub returns : goal.returns
returns c =
    let ps = c.args.unit.now.procs in
    let os = map origin c.args.origins.now in
    let o = c.in-Some.o.now in
    let q = procedure c.in-Some-get.q.now in
    let there = origin_at c.args.origins.now c.args.k o c.in-Some.ensures.lookup.3.0 c.in-Some.ensures.lookup.1 in
    both_there ps os c.args.k (origin o) q c.args.set.now c.add_left.new.set there
    (sym c.in-Some-get.ensures)
    (step_marked ps q.body (origin o).place (origin o).side (origin o).fields
    c.in_ok-written.written c.args.set.now c.add_left.new.set
    (λ f l. c.in_ok-written.ensures f (let e = c.requires.wide in omega arith))
    c.add_left.ensures)
