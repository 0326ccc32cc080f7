use Rattle.std.proofs.Common.{zero, sym, ap, ◌∙◌}
use Rattle.exo_tree.specs.Places.{opened}
use Rattle.exo_tree.specs.PlainProcedure.{procedure}
use Rattle.exo_tree.specs.PlainUnit.{program}
use Rattle.check_facts.specs.Contexts.{facts_from, known_at_place}
use Rattle.check_facts.proofs.Arrivals.{no_steps, none_told}
use Rattle.check_facts.proofs.place_walk.go.Goals as goal

pub returns-in-None-clause-known : goal.returns-in-None-clause-known
returns-in-None-clause-known c =
    let g = c.args.basis.now in
    let p = procedure g.proc.now in
    let none = no_steps c.as_slice.result.now c.args.path.now c.in-None.ensures.cases c.as_slice.ensures.value in
    c.new.ensures ∙ sym (none_told zero g.count) ∙ sym (ap (λ q. facts_from zero g.count (known_at_place (program g.unit.now) p (opened 1 q p.body))) none)
