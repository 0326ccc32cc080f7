use Rattle.std.proofs.Common.{sym, subst}
use Rattle.exo_tree.specs.Tree.{block}
use Rattle.exo_tree.specs.PlainPlace.{branch_taken}
use Rattle.check_facts.specs.Trails.{StandInside}
use Rattle.check_facts.proofs.Trails.{none_inside}
use Rattle.check_facts.proofs.walk.bring.Goals as goal

pub returns-clause-stand : goal.returns-clause-stand
returns-clause-stand c = λ first h.
    let g = c.args.basis.now in
    let outer = c.args.outer.now in
    let branch = branch_taken c.args.level.branch in
    let b = block c.args.b.now in (
      c.in_ok-pass.ensures first h.0,
      subst (StandInside g outer branch b c.args.to first) (sym c.forget.ensures) (none_inside g outer branch b c.args.to first),
    )
