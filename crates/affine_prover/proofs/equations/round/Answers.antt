use Rattle.std.proofs.Common.{◌≡◌, sym, ap, subst, ◌∙◌, Some, None}
use Rattle.std.specs.Prelude.{IfOk}
use Rattle.affine_prover.specs.Steps.{round_of_turn}
use Rattle.std.specs.Option.{option_map}
use Rattle.std.specs.List.{position}
use Rattle.affine_prover.specs.RowSets.Rows.{has_unit, reduced}
use Rattle.affine_prover.proofs.Rounds.{round-none, round-some, round-unsolved, reduced-wide, not_found}
use Rattle.affine_prover.proofs.equations.round.Goals as goal

pub put_in-requires-clause-wide_equations : goal.put_in-requires-clause-wide_equations
put_in-requires-clause-wide_equations c =
    let is : Some c.in-Some.es.items ≡ reduced c.args.equations.items = sym (ap (option_map (λ v. v.items)) c.in-Some.is) ∙ c.in_ok-reduce.ensures in
    reduced-wide c.args.n c.args.equations.items c.in-Some.es.items c.requires.wide_equations is

pub returns-in-None : goal.returns-in-None
returns-in-None c = round-none c.args.equations.items c.args.rows.items (sym (ap (option_map (λ v. v.items)) c.in-None.is) ∙ c.in_ok-reduce.ensures)

pub returns-in_ok-all-in-None-solvable : goal.returns-in_ok-all-in-None-solvable
returns-in_ok-all-in-None-solvable c =
    let is : Some c.in-Some.es.items ≡ reduced c.args.equations.items = sym (ap (option_map (λ v. v.items)) c.in-Some.is) ∙ c.in_ok-reduce.ensures in
    let none : None ≡ position has_unit c.in-Some.es.items = c.in-None-solvable.ensures ∙ ap (position has_unit) c.deref.ensures.value in
    round-unsolved c.args.equations.items c.args.rows.items c.in-Some.es.items c.in_ok-all-in-None-solvable.all.items is (not_found has_unit c.in-Some.es.items none) c.in_ok-all-in-None-solvable.ensures

pub returns-in-Some-solvable : goal.returns-in-Some-solvable
returns-in-Some-solvable c =
    let is : Some c.in-Some.es.items ≡ reduced c.args.equations.items = sym (ap (option_map (λ v. v.items)) c.in-Some.is) ∙ c.in_ok-reduce.ensures in
    subst (λ x. IfOk c.put_in.result (λ t. round_of_turn t ≡ x))
    (round-some c.args.equations.items c.args.rows.items c.in-Some.es.items is) c.put_in.ensures
