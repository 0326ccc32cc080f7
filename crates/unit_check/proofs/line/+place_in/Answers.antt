use Rattle.std.proofs.Common.{◌≡◌, ◌∷◌, ◌<◌, map, length, List, Option, Some, None, ap, sym, ◌∙◌, arith}
use Rattle.std.proofs.lemmas.Option.{slice_get-map, slice_get_within}
use Rattle.std.specs.Prelude.{ℕ, option_map}
use Rattle.exo_tree.specs.Nodes.{capped}
use Rattle.exo_tree.specs.Tree.{Statement, block}
use Rattle.exo_tree.specs.Places.{Path}
use Rattle.exo_tree.specs.PlainPlace.{step_taken}
use Rattle.exo_tree.specs.PlainStatement.{statement}
use Rattle.unit_check.specs.Preorder.{place_in}
use Rattle.unit_check.proofs.Placed.{stops, last, next_none, next_some}
use Rattle.unit_check.proofs.line.+place_in.Goals as goal

along : (ss : List Statement) (p q : Path) (x z : Option ℕ) → p ≡ q → x ≡ z → option_map capped (place_in q (block ss)) ≡ z → x ≡ option_map capped (place_in p (block ss))
along ss p q x z e f g = f ∙ sym g ∙ sym (ap (λ (r : Path). option_map capped (place_in r (block ss))) e)

pub returns-in_err-s : goal.returns-in_err-s
returns-in_err-s t c =
    let s = c.in_ok-step.step.now in
    let rest = map step_taken c.in_ok-step.rest.now in
    along c.args.b.now (map step_taken c.args.steps.now) (step_taken s ∷ rest) _ None
    (ap (map step_taken) c.in_ok-step.ensures.cases.0)
    c.from_residual-in_err-s.ensures
    (stops (step_taken s) rest c.args.b.now (sym c.in_err-s.ensures))

pub count_first-outside-requires : goal.count_first-outside-requires
count_first-outside-requires t c =
    let within : c.in_ok-step.step.now.index < length c.args.b.now = slice_get_within c.args.b.now c.in_ok-step.step.now.index (statement c.in_ok-s.s.now) (sym c.in_ok-s.ensures) in
    omega arith

pub returns-in_err-block-in-Some : goal.returns-in_err-block-in-Some
returns-in_err-block-in-Some t c =
    let s = c.in_ok-step.step.now in
    let rest = map step_taken c.in_ok-step.rest.now in
    along c.args.b.now (map step_taken c.args.steps.now) (step_taken s ∷ rest) _ None
    (ap (map step_taken) c.in_ok-step.ensures.cases.0)
    c.from_residual-in_err-block-in-Some.ensures
    (next_none (step_taken s) (step_taken c.in-Some.next.now) rest c.args.b.now (statement c.in_ok-s.s.now) None (slice_get-map step_taken c.in_ok-step.rest.now 0 ∙ ap (option_map step_taken) (sym c.in-Some.ensures.value)) (sym c.in_ok-s.ensures) (sym c.in_err-block-in-Some.ensures) (λ i. None))

pub returns-in_err-inside-in-Some : goal.returns-in_err-inside-in-Some
returns-in_err-inside-in-Some t c =
    let s = c.in_ok-step.step.now in
    let rest = map step_taken c.in_ok-step.rest.now in
    let inner = c.in_ok-block-in-Some.field-0.now in
    along c.args.b.now (map step_taken c.args.steps.now) (step_taken s ∷ rest) _ None
    (ap (map step_taken) c.in_ok-step.ensures.cases.0)
    c.from_residual-in_err-inside-in-Some.ensures
    (next_none (step_taken s) (step_taken c.in-Some.next.now) rest c.args.b.now (statement c.in_ok-s.s.now) (Some (block inner)) (slice_get-map step_taken c.in_ok-step.rest.now 0 ∙ ap (option_map step_taken) (sym c.in-Some.ensures.value)) (sym c.in_ok-s.ensures) (sym c.in_ok-block-in-Some.ensures) (sym c.in_err-inside-in-Some.ensures))

pub returns-in-None : goal.returns-in-None
returns-in-None t c =
    let s = c.in_ok-step.step.now in
    let rest = map step_taken c.in_ok-step.rest.now in
    along c.args.b.now (map step_taken c.args.steps.now) (step_taken s ∷ rest) _ (Some c.count_first-outside.result)
    (ap (map step_taken) c.in_ok-step.ensures.cases.0)
    (λ i. Some c.count_first-outside.result)
    (last (step_taken s) rest c.args.b.now (statement c.in_ok-s.s.now) (slice_get-map step_taken c.in_ok-step.rest.now 0 ∙ ap (option_map step_taken) (sym c.in-None.ensures.value)) (sym c.in_ok-s.ensures) ∙ ap Some (sym c.count_first-outside.ensures))

pub returns-in_ok-inside-in-Some : goal.returns-in_ok-inside-in-Some
returns-in_ok-inside-in-Some t c =
    let s = c.in_ok-step.step.now in
    let rest = map step_taken c.in_ok-step.rest.now in
    let inner = c.in_ok-block-in-Some.field-0.now in
    along c.args.b.now (map step_taken c.args.steps.now) (step_taken s ∷ rest) _ (Some c.saturating_add-in-Some.result)
    (ap (map step_taken) c.in_ok-step.ensures.cases.0)
    (λ i. Some c.saturating_add-in-Some.result)
    (next_some (step_taken s) (step_taken c.in-Some.next.now) rest c.args.b.now (statement c.in_ok-s.s.now) (block inner)
    c.count_first-outside.result c.saturating_add-skipped.result c.count_before.result c.in_ok-inside-in-Some.inside c.saturating_add-in-Some.result c.saturating_add.result
    (slice_get-map step_taken c.in_ok-step.rest.now 0 ∙ ap (option_map step_taken) (sym c.in-Some.ensures.value)) (sym c.in_ok-s.ensures) (sym c.in_ok-block-in-Some.ensures) (sym c.in_ok-inside-in-Some.ensures)
    c.count_first-outside.ensures c.count_before.ensures c.saturating_add-skipped.ensures c.saturating_add.ensures c.saturating_add-in-Some.ensures)
