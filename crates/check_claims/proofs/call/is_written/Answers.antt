use Rattle.std.proofs.Common.{◌≡◌, ◌||◌, sym, ap, ◌∙◌}
use Rattle.exo_tree.specs.PlainUnit.{program}
use Rattle.exo_meaning.specs.Modes.{Writing, Reducing}
use Rattle.check_claims.specs.Claims.{written_by}
use Rattle.check_claims.proofs.call.is_written.Goals as goal

pub returns-then-modes : goal.returns-then-modes
returns-then-modes c =
    let r = c.get-modes.result in
    let x = c.args.p.now.binder.id.0 in
    let is : (r.write || r.reduce) ≡ written_by (program c.args.site.now.unit.now) c.args.callee.0 x =
    (λ i. c.get-modes.ensures Writing i || c.get-modes.ensures Reducing i) ∙ (λ i. c.args.site.now.modes_are i c.args.callee.0 x) in
    c.if-modes.true ∙ sym (ap (λ t. t || r.reduce) c.if-modes.true) ∙ is

pub returns-else-modes : goal.returns-else-modes
returns-else-modes c =
    let r = c.get-modes.result in
    let x = c.args.p.now.binder.id.0 in
    let is : (r.write || r.reduce) ≡ written_by (program c.args.site.now.unit.now) c.args.callee.0 x =
    (λ i. c.get-modes.ensures Writing i || c.get-modes.ensures Reducing i) ∙ (λ i. c.args.site.now.modes_are i c.args.callee.0 x) in
    sym (ap (λ t. t || r.reduce) c.if-modes.false) ∙ is
