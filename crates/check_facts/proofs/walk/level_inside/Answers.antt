use Rattle.exo_tree.specs.Branches.{branch_of}
use Rattle.exo_tree.specs.PlainStatement.{statement}
use Rattle.check_facts.specs.Trails.{levels_of}
use Rattle.check_facts.specs.Walks.{telling_of, known_inside}
use Rattle.check_facts.proofs.Trails.{stand_new}
use Rattle.check_facts.proofs.walk.level_inside.Goals as goal

pub returns-in_ok-inside-in-None-clause-stand : goal.returns-in_ok-inside-in-None-clause-stand
returns-in_ok-inside-in-None-clause-stand c = λ first h stand.
    let g = c.args.basis.now in
    let a = statement c.args.s.now in
    stand_new g c.args.path.now (λ t. branch_of t a) (known_inside (telling_of g) c.args.path.now a first) c.args.step.branch c.in_ok-inside-in-None.field-0 (levels_of c.take.new.self) c.in-None.ensures.none (c.in_ok-inside-in-None.ensures first h)
