use Rattle.std.proofs.Common.{List, map, ap, sym, ◌∙◌, subst}
use Rattle.affine_systems.specs.Outcomes.{Owed}
use Rattle.cursor_forward.specs.PlainProposal.{cause_of}
use Rattle.step_rules.specs.Rule.{Tried, Got}
use Rattle.step_rules.specs.Owing.{owed_behind}
use Rattle.step_driver.specs.Needs.Outcomes.{RefusedBy}
use Rattle.step_driver.proofs.OfNeeds.OneNeed.{refused_all}
use Rattle.exo_tree.specs.PlainProcedure.{procedure}
use Rattle.exo_tree.specs.PlainUnit.{program}
use Rattle.step_driver.specs.Needs.Owing.{target_in}
use Rattle.step_driver.specs.Needs.PlainNeed.{plain_need}
use Rattle.step_driver.proofs.OfNeeds.Ruled.{needs_affine}
use Rattle.step_driver.proofs.OfNeeds.Walked.{walked, well, extents_there, few_fields}
use Rattle.step_driver.proofs.needs.owing.owed_for.Goals as goal

pub of-requires : goal.of-requires
of-requires c =
    let t = target_in (program c.args.unit.now, procedure c.args.p.now) c.requires.target.0 in
    extents_there t.proc (walked c.well_formed_procedures_may_be_walked.ensures c.procedures_keep_rules.ensures t c.requires.target.1)

pub new-walk-requires-clause-numbered : goal.new-walk-requires-clause-numbered
new-walk-requires-clause-numbered c = few_fields (program c.args.unit.now) c.requires.target.1.unit

pub new-walk-requires-clause-rules : goal.new-walk-requires-clause-rules
new-walk-requires-clause-rules c =
    let t = target_in (program c.args.unit.now, procedure c.args.p.now) c.requires.target.0 in
    walked c.well_formed_procedures_may_be_walked.ensures c.procedures_keep_rules.ensures t c.requires.target.1

pub put_needs-requires-clause-site : goal.put_needs-requires-clause-site
put_needs-requires-clause-site c =
    let t = target_in (program c.args.unit.now, procedure c.args.p.now) c.requires.target.0 in
    record {
      well = well c.well_formed_procedures_may_be_walked.ensures c.procedures_keep_rules.ensures t c.requires.target.1;
      modes = c.requires.modes;
      roots = c.in_ok-roots.ensures;
      writes = c.requires.writes;
      words = c.in_ok-words.ensures;
    }

pub put_needs-requires-clause-affine : goal.put_needs-requires-clause-affine
put_needs-requires-clause-affine c =
    let t = target_in (program c.args.unit.now, procedure c.args.p.now) c.requires.rules.0 in
    needs_affine t (map plain_need c.args.needs.now) c.requires.rules.1

pub returns-in_err-put_needs : goal.returns-in_err-put_needs
returns-in_err-put_needs c k =
    let t = target_in (program c.args.unit.now, procedure c.args.p.now) k in
    let ns = map plain_need c.args.needs.now in
    let e = c.in_err-put_needs.field-0.0 in
    refused_all _ c.from_residual-in_err-put_needs.result e _ c.from_residual-in_err-put_needs.ensures.1
    (subst (λ (x : Tried (List Owed)). RefusedBy x (cause_of e))
    (λ i. owed_behind t (c.new-out.ensures i) ns) (c.in_err-put_needs.ensures k))

pub returns : goal.returns
returns c k =
    let t = target_in (program c.args.unit.now, procedure c.args.p.now) k in
    let ns = map plain_need c.args.needs.now in
    (λ i. owed_behind t (sym c.new-out.ensures i) ns) ∙ c.in_ok-put_needs.ensures k
    ∙ ap Got (sym c.into_items.ensures)
