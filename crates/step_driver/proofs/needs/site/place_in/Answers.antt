use Rattle.std.proofs.Common.{ap, sym, ◌∙◌, subst}
use Rattle.exo_tree.specs.PlainProcedure.{procedure}
use Rattle.exo_tree.specs.Places.{Path, opened, Opened}
use Rattle.exo_tree.specs.Tree.{block}
use Rattle.tree_edits.specs.Made.Passes.{is_alone}
use Rattle.check_facts.specs.Contexts.{IsPlaceOf}
use Rattle.step_driver.proofs.OfNeeds.Standing.{nowhere, is_place}
use Rattle.step_driver.proofs.needs.site.place_in.Goals as goal

pub returns-in-None-clause-same : goal.returns-in-None-clause-same
returns-in-None-clause-same c =
    let body = block c.args.p.now.body in
    ap (λ (q : Path). opened 1 q body) c.new.ensures
    ∙ nowhere (λ (o : Opened). is_alone o.around) (opened 1 c.args.path.now body) c.in-None.ensures

pub returns-in-Some-clause-place : goal.returns-in-Some-clause-place
returns-in-Some-clause-place c =
    let p = procedure c.args.p.now in
    subst (λ (q : Path). IsPlaceOf q p) (sym c.duplicate.ensures)
    (is_place (λ (o : Opened). is_alone o.around) p c.args.path.now c.in-Some.field-0 c.in-Some.ensures)
