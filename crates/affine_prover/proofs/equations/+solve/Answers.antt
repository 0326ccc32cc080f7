use Rattle.std.proofs.Common.{◌≡◌, ◌<◌, sym, ap, subst, ◌∙◌, arith}
use Rattle.std.specs.Prelude.{IfOk}
use Rattle.affine_prover.specs.Elimination.{verdict_on}
use Rattle.affine_prover.specs.Steps.{round_of_turn}
use Rattle.affine_prover.proofs.Solving.{unsolved-wide, verdict_on-finished, verdict_on-unsolved, verdict_on-solved, verdict_on-stuck}
use Rattle.affine_prover.proofs.equations.+solve.Goals as goal

pub returns-in-Finished : goal.returns-in-Finished
returns-in-Finished t c = verdict_on-finished c.args.n c.args.equations.items c.args.rows.items c.in-Finished.v
    (sym (ap round_of_turn c.in-Finished.is) ∙ c.in_ok-v.ensures)

pub eliminate-requires : goal.eliminate-requires
eliminate-requires t c = unsolved-wide c.args.n c.args.equations.items c.args.rows.items c.in-Unsolved.rest.items
    c.requires.wide_equations c.requires.wide_rows (sym (ap round_of_turn c.in-Unsolved.is) ∙ c.in_ok-v.ensures)

pub returns-in-Unsolved : goal.returns-in-Unsolved
returns-in-Unsolved t c = subst (λ x. IfOk c.eliminate.result (λ v. v ≡ x))
    (verdict_on-unsolved c.args.n c.args.equations.items c.args.rows.items c.in-Unsolved.rest.items
    (sym (ap round_of_turn c.in-Unsolved.is) ∙ c.in_ok-v.ensures)) c.eliminate.ensures

pub returns-then-n-eq0 : goal.returns-then-n-eq0
returns-then-n-eq0 t c =
    let es = c.args.equations.items in
    let rs = c.args.rows.items in
    verdict_on-stuck es rs c.in-Solved.others.items c.in-Solved.rest.items
    (sym (ap round_of_turn c.in-Solved.is) ∙ c.in_ok-v.ensures) ∙ ap (λ n. verdict_on n es rs) (sym c.if-n-eq0.true)

pub solve-requires : goal.solve-requires
solve-requires t c =
    let some : 0 < c.args.n = omega arith in
    let step = verdict_on-solved c.args.n c.args.equations.items c.args.rows.items c.in-Solved.others.items
    c.in-Solved.rest.items some c.requires.wide_equations c.requires.wide_rows
    (sym (ap round_of_turn c.in-Solved.is) ∙ c.in_ok-v.ensures) in
    (omega arith, step.1)

pub returns-else-n-eq0 : goal.returns-else-n-eq0
returns-else-n-eq0 t c =
    let some : 0 < c.args.n = omega arith in
    let step = verdict_on-solved c.args.n c.args.equations.items c.args.rows.items c.in-Solved.others.items
    c.in-Solved.rest.items some c.requires.wide_equations c.requires.wide_rows
    (sym (ap round_of_turn c.in-Solved.is) ∙ c.in_ok-v.ensures) in
    subst (λ x. IfOk c.solve.result (λ v. v ≡ x)) step.0 c.solve.ensures
