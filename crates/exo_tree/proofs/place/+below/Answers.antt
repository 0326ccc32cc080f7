use Rattle.std.proofs.Common.{◌≡◌, ◌∷◌, map, List, Option, Some, None, ap, sym, ◌∙◌}
use Rattle.std.proofs.lemmas.Option.{slice_get-map}
use Rattle.std.specs.Prelude.{option_map}
use Rattle.std.specs.Option.{option_copied}
use Rattle.exo_tree.specs.Tree.{Statement, block}
use Rattle.exo_tree.specs.Places.{Path}
use Rattle.exo_tree.specs.PlainPlace.{step_taken}
use Rattle.exo_tree.specs.PlainStatement.{statement}
use Rattle.exo_tree.proofs.Openings.{statement_in}
use Rattle.exo_tree.proofs.Below.{below_stops, below_last, below_next}
use Rattle.exo_tree.proofs.place.+below.Goals as goal

along : (ss : List Statement) (p q : Path) (x z : Option Statement) → p ≡ q → x ≡ z → statement_in q (block ss) ≡ z → x ≡ statement_in p (block ss)
along ss p q x z e f g = f ∙ sym g ∙ sym (ap (λ (r : Path). statement_in r (block ss)) e)

pub returns-in_err-s : goal.returns-in_err-s
returns-in_err-s t c =
    let s = c.in_ok-step.step.now in
    let rest = map step_taken c.in_ok-step.rest.now in
    along c.args.b.now (map step_taken c.args.path.now) (step_taken s ∷ rest) _ None
    (ap (map step_taken) c.in_ok-step.ensures.cases.0)
    (ap (λ x. option_map statement (option_copied x)) c.from_residual-in_err-s.ensures)
    (below_stops (step_taken s) rest c.args.b.now (sym c.in_err-s.ensures))

pub returns-in_err-block-in-Some : goal.returns-in_err-block-in-Some
returns-in_err-block-in-Some t c =
    let s = c.in_ok-step.step.now in
    let rest = map step_taken c.in_ok-step.rest.now in
    along c.args.b.now (map step_taken c.args.path.now) (step_taken s ∷ rest) _ None
    (ap (map step_taken) c.in_ok-step.ensures.cases.0)
    (ap (λ x. option_map statement (option_copied x)) c.from_residual-in_err-block-in-Some.ensures)
    (below_next (step_taken s) (step_taken c.in-Some.next.now) rest c.args.b.now (statement c.in_ok-s.s.now) None (slice_get-map step_taken c.in_ok-step.rest.now 0 ∙ ap (option_map step_taken) (sym c.in-Some.ensures.value)) (sym c.in_ok-s.ensures) (sym c.in_err-block-in-Some.ensures))

pub returns-in-None : goal.returns-in-None
returns-in-None t c =
    let s = c.in_ok-step.step.now in
    let rest = map step_taken c.in_ok-step.rest.now in
    along c.args.b.now (map step_taken c.args.path.now) (step_taken s ∷ rest) _ (Some (statement c.in_ok-s.s.now))
    (ap (map step_taken) c.in_ok-step.ensures.cases.0)
    (λ i. Some (statement c.in_ok-s.s.now))
    (below_last (step_taken s) rest c.args.b.now (statement c.in_ok-s.s.now) (slice_get-map step_taken c.in_ok-step.rest.now 0 ∙ ap (option_map step_taken) (sym c.in-None.ensures.value)) (sym c.in_ok-s.ensures))

pub returns-in_ok-block-in-Some : goal.returns-in_ok-block-in-Some
returns-in_ok-block-in-Some t c =
    let s = c.in_ok-step.step.now in
    let rest = map step_taken c.in_ok-step.rest.now in
    let inner = c.in_ok-block-in-Some.field-0.now in
    along c.args.b.now (map step_taken c.args.path.now) (step_taken s ∷ rest) _ (statement_in rest (block inner))
    (ap (map step_taken) c.in_ok-step.ensures.cases.0)
    c.below.ensures
    (below_next (step_taken s) (step_taken c.in-Some.next.now) rest c.args.b.now (statement c.in_ok-s.s.now) (Some (block inner)) (slice_get-map step_taken c.in_ok-step.rest.now 0 ∙ ap (option_map step_taken) (sym c.in-Some.ensures.value)) (sym c.in_ok-s.ensures) (sym c.in_ok-block-in-Some.ensures))
