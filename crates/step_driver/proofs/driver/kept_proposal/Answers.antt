use Rattle.std.proofs.Common.{◌≡◌, ℕ, ap, ◌∙◌}
use Rattle.exo_tree.specs.Tree.{block, Procedure}
use Rattle.exo_tree.specs.PlainProcedure.{procedure}
use Rattle.tree_findings.specs.declared.findings.Findings.{Findings}
use Rattle.tree_findings.specs.Findings.{findings_of_version}
use Rattle.cursor_forward.specs.PlainProposal.{plain_proposal}
use Rattle.cursor_forward.specs.Proposals.{Plan}
use Rattle.step_driver.specs.PlainTarget.{target, plain_piece}
use Rattle.step_driver.specs.Spots.{spot_at}
use Rattle.step_driver.specs.Stages.{version_by}
use Rattle.step_driver.proofs.Refused.{refused_exit}
use Rattle.step_driver.proofs.driver.kept_proposal.Goals as goal

pub returns-in_err-version_kept : goal.returns-in_err-version_kept
returns-in_err-version_kept g c =
    let r = g.O.Operator.rule c.args.op.now in
    let t = target c.args.on.now in
    let s = spot_at t (plain_piece c.args.piece.now) in
    let found : Procedure → ℕ → Findings =
    λ q n. findings_of_version t.unit n q in
    let made : procedure c.in_ok-proposal.proposal.proc ≡ version_by r s c.args.base (block c.args.whole.now) =
    ap (λ (m : Plan). m.proc) c.in_ok-proposal.ensures in
    let same : found (procedure c.in_ok-proposal.proposal.proc) c.args.base ≡ found (version_by r s c.args.base (block c.args.whole.now)) c.args.base =
    ap (λ (q : Procedure). found q c.args.base) made in
    let at_base =
    ap (λ (n : ℕ). found (version_by r s n (block c.args.whole.now)) n) c.requires.base in
    refused_exit plain_proposal _ _ _ c.from_residual-in_err-version_kept.result c.in_err-version_kept.field-0.0
    c.from_residual-in_err-version_kept.ensures.1 (same ∙ at_base) c.in_err-version_kept.ensures
