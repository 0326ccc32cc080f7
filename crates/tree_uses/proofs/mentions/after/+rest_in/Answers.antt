use Rattle.std.proofs.Common.{◌≡◌, ◌+◌, ◌<◌, ◌≤◌, length, drop, Some, None, map, ap, sym, ◌∙◌}
use Rattle.std.proofs.lemmas.Option.{slice_get-map}
use Rattle.std.specs.Prelude.{option_map}
use Rattle.exo_tree.specs.Tree.{block}
use Rattle.exo_tree.specs.PlainPlace.{step_taken}
use Rattle.tree_uses.proofs.OfMentions.Openings.{here_is, inner_is, as_seen}
use Rattle.tree_uses.specs.Mentions.Rests.{rest_seen}
use Rattle.tree_uses.proofs.mentions.after.+rest_in.Goals as goal

pub returns-in-None : goal.returns-in-None
returns-in-None t c =
    let s = c.in_ok-step.step.now in
    let rest = c.in_ok-step.rest.now in
    here_is c.args.count (step_taken s) (map step_taken c.args.path.now) (map step_taken rest) c.args.b.now
    (option_map rest_seen c.rest_here.result)
    (ap (map step_taken) c.in_ok-step.ensures.cases.0)
    (slice_get-map step_taken rest 0 ∙ ap (option_map step_taken) (sym c.in-None.ensures.value))
    (as_seen rest_seen c.rest_here.result (length c.args.b.now < s.index + c.args.count)
    (λ b. (s.index + c.args.count ≤ length c.args.b.now) × (b ≡ block (drop (s.index + c.args.count) c.args.b.now))) c.rest_here.ensures)

pub returns-in_err-inner-in-Some : goal.returns-in_err-inner-in-Some
returns-in_err-inner-in-Some t c =
    let s = c.in_ok-step.step.now in
    let rest = c.in_ok-step.rest.now in
    ap (option_map rest_seen) c.from_residual-in_err-inner-in-Some.ensures
    ∙ sym (inner_is c.args.count (step_taken s) (step_taken c.in-Some.next.now) (map step_taken c.args.path.now) (map step_taken rest) c.args.b.now None
    (ap (map step_taken) c.in_ok-step.ensures.cases.0)
    (slice_get-map step_taken rest 0 ∙ ap (option_map step_taken) (sym c.in-Some.ensures.value))
    (sym c.in_err-inner-in-Some.ensures))

pub returns-in_ok-inner-in-Some : goal.returns-in_ok-inner-in-Some
returns-in_ok-inner-in-Some t c =
    let s = c.in_ok-step.step.now in
    let rest = c.in_ok-step.rest.now in
    c.rest_in.ensures
    ∙ sym (inner_is c.args.count (step_taken s) (step_taken c.in-Some.next.now) (map step_taken c.args.path.now) (map step_taken rest) c.args.b.now
    (Some (block c.in_ok-inner-in-Some.field-0.now))
    (ap (map step_taken) c.in_ok-step.ensures.cases.0)
    (slice_get-map step_taken rest 0 ∙ ap (option_map step_taken) (sym c.in-Some.ensures.value))
    (sym c.in_ok-inner-in-Some.ensures))
