use Rattle.std.proofs.Common.{map, Some, refl, ap, sym, ◌∙◌}
use Rattle.std.proofs.lemmas.List.{drop_all}
use Rattle.exo_tree.specs.Tree.{block}
use Rattle.exo_tree.specs.PlainPlace.{step_taken, branch_taken}
use Rattle.exo_tree.specs.PlainProcedure.{procedure}
use Rattle.exo_tree.specs.PlainStatement.{statement}
use Rattle.exo_tree.specs.PlainUnit.{program}
use Rattle.config_state.proofs.Pieces.{piece_from, cut_there, cut_short, match_none, match_map, range_is}
use Rattle.config_state.proofs.Pieces.{way_begins, no_way, way_goes, way_ends, way_breaks}
use Rattle.config_state.proofs.piece.piece_at.Goals as goal

pub loop-step-init : goal.loop-step-init
loop-step-init c =
    let q = c.in_ok-found.found.now in
    way_begins (program c.args.unit.now) c.args.p.0 c.args.path.now c.args.count (procedure q)
    c.as_slice.result.now c.in_ok-first.rest.now c.in_ok-first.first.now c.as_slice.ensures.value
    c.in_ok-first.ensures.cases.0 (sym c.in_ok-found.ensures) q.body refl
    (ap branch_taken c.in-Main.is)

pub loop-step-preserved : goal.loop-step-preserved
loop-step-preserved c =
    way_goes c.args.count c.in_ok-first.rest.now c.loop-step.step-index c.loop-step.from c.loop-step.block.now
    _ c.loop-step-test.true c.loop-step.invariant
    c.in_ok-block.block.now (statement c.in_ok-get.field-0.now) (sym c.in_ok-get.ensures)
    (sym c.in_ok-block.ensures)

pub returns-in_err-get : goal.returns-in_err-get
returns-in_err-get c =
    match_none _ _ _ c.from_residual-in_err-get.ensures
    (way_ends c.args.count c.in_ok-first.rest.now c.loop-step.step-index c.loop-step.from c.loop-step.block.now
    _ c.loop-step-test.true c.loop-step.invariant
    (sym c.in_err-get.ensures))

pub returns-in_err-block : goal.returns-in_err-block
returns-in_err-block c =
    match_none _ _ _ c.from_residual-in_err-block.ensures
    (way_breaks c.args.count c.in_ok-first.rest.now c.loop-step.step-index c.loop-step.from c.loop-step.block.now
    _ c.loop-step-test.true c.loop-step.invariant
    (statement c.in_ok-get.field-0.now) (sym c.in_ok-get.ensures) (sym c.in_err-block.ensures))

pub returns : goal.returns
returns c =
    let ss = c.loop-step.block.now in
    let from = c.loop-step.from in
    let steps = c.in_ok-first.rest.now in
    let there =
    sym c.loop-step.invariant
    ∙ ap (λ z. piece_from c.args.count (map step_taken z) from ss)
    (drop_all c.loop-step.step-index steps c.loop-step-test.false) in
    match_map c.cut.result _ _ _ _
    (λ h. there ∙ cut_short from c.args.count ss h)
    (λ r h. there ∙ cut_there from c.args.count ss h.0
    ∙ ap Some (ap block (range_is ss r.block.now r.from r.to from c.args.count h.1 h.2 h.3)))
    c.cut.ensures

pub returns-in-Else : goal.returns-in-Else
returns-in-Else c =
    let q = c.in_ok-found.found.now in
    no_way (program c.args.unit.now) c.args.p.0 c.args.path.now c.args.count (procedure q)
    c.as_slice.result.now c.in_ok-first.rest.now c.in_ok-first.first.now c.as_slice.ensures.value
    c.in_ok-first.ensures.cases.0 (sym c.in_ok-found.ensures) (ap branch_taken c.in-Else.is)
