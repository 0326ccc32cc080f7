-- What a rule proposes has the names that it gives and those that were there.
use Rattle.std.proofs.Common.{◌+◌, sym, subst}
use Rattle.exo_tree.specs.Context.{fill}
use Rattle.exo_tree.proofs.Heights.{opened_whole}
use Rattle.exo_types_laws.specs.Shown.Named.{IsNamedBlock, IsNamedProcedure}
use Rattle.tree_edits.specs.Made.Ids.{next_id}
use Rattle.tree_edits.specs.Made.Passes.{or_pass}
use Rattle.cursor_forward.specs.Proposals.{Plan}
use Rattle.step_rules.specs.Rule.{Simplified}
use Rattle.step_rules.specs.Answer.{body_with, spot}
use Rattle.step_rules.proofs.Proposals.{proposal_of}
use Rattle.schedule_laws.specs.Names.Rules.{ProposalsAreNamed}
use Rattle.schedule_laws.proofs.OfNames.Blocks.{in_hole, filled_named, or_pass_named, copies_are_named}

pub proposals_are_named : ProposalsAreNamed
proposals_are_named r t at m is unit old got =
    let p = proposal_of r t at m got in
    let s = spot t p.piece p.o in
    let base = next_id t.proc in
    let c = p.o.around in
    let whole : IsNamedBlock (fill c p.o.piece) =
    subst IsNamedBlock (sym (opened_whole p.piece.count p.piece.path t.proc.body p.o p.opens)) old.body in
    let draft = is.draft s Simplified base p.answer.draft unit old (in_hole c p.o.piece whole) p.answer.drafted in
    let body = filled_named c p.o.piece (or_pass c p.answer.draft) whole (or_pass_named c p.answer.draft draft) in
    subst (λ (n : Plan). IsNamedProcedure n.proc) p.answer.is (record {
      name = is.name t.proc old.name;
      params = old.params;
      body = copies_are_named t.proc (base + r.named) (body_with s p.answer.draft) body;
      template = old.template;
    })
