use Rattle.std.proofs.Common.{◌≡◌, ◌∷◌, map, sym, ap, subst, ◌∙◌}
use Rattle.exo_tree.specs.Tree.{block}
use Rattle.exo_tree.specs.Places.{opened_in}
use Rattle.exo_tree.specs.PlainPlace.{step_taken, branch_taken}
use Rattle.config_state.proofs.Sets.{if_ok}
use Rattle.config_laws.specs.FieldRule.{gap}
use Rattle.config_live.specs.Places.{side_taken, place_in, Reaches, Arrives}
use Rattle.config_live.proofs.Answer.{arrive_main, arrive_else}
use Rattle.config_live.proofs.place.go_from.Goals as goal

pub returns-in-Main : goal.returns-in-Main
returns-in-Main c =
    let body = block c.args.body.now in
    let side = side_taken c.args.side in
    let step = step_taken c.in-Some.step.now in
    let rest = map step_taken c.in-Some.rest.now in
    let path : step ∷ rest ≡ c.args.path.now =
    sym (ap (map step_taken) c.in-Some.ensures.cases.0) ∙ c.as_slice.ensures.value in
    if_ok c.reach.result _ _
    (λ found h.
    subst (λ z. Arrives c.args.table.now (place_in body z side) found c.args.way.now c.reach.new.way) path
    (arrive_main c.args.table.now step rest side body found c.args.way.now c.reach.new.way
    c.reach.new.added (ap branch_taken c.in-Main.is)
    (subst (λ z. Reaches c.args.table.now (opened_in 0 (gap (step ∷ rest) side) body) found c.args.way.now c.reach.new.way z c.reach.new.added)
    c.new-added.ensures h)))
    c.reach.ensures

pub returns-in-Else : goal.returns-in-Else
returns-in-Else c =
    let step = step_taken c.in-Some.step.now in
    let rest = map step_taken c.in-Some.rest.now in
    let path : step ∷ rest ≡ c.args.path.now =
    sym (ap (map step_taken) c.in-Some.ensures.cases.0) ∙ c.as_slice.ensures.value in
    subst (λ z. Arrives c.args.table.now (place_in (block c.args.body.now) z (side_taken c.args.side)) _ c.args.way.now c.args.way.now) path
    (arrive_else c.args.table.now step rest (side_taken c.args.side) (block c.args.body.now)
    c.args.way.now (ap branch_taken c.in-Else.is))
