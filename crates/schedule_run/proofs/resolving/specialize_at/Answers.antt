use Rattle.std.proofs.Common.{◌≡◌, sym, subst, List, ap₂}
use Rattle.exo_tree.specs.Tree.{Program}
use Rattle.exo_tree.specs.PlainProcedure.{procedure}
use Rattle.config_laws.specs.Differing.{Origin}
use Rattle.text_expressions.specs.Views.{tree_of}
use Rattle.rules_names.specs.Arguments.{knows_fields}
use Rattle.cursor_forward.specs.PlainProposal.{plain_proposal}
use Rattle.loop_laws.specs.Specialize.{specialize_rule}
use Rattle.step_driver.specs.PlainTarget.{target, plain_piece}
use Rattle.schedule_calls.specs.PlainRequest.{plain_asked}
use Rattle.schedule_laws.specs.Versions.Lines as lines
use Rattle.schedule_laws.specs.Operators.Arguments.{condition_at}
use Rattle.schedule_laws.specs.Operators.Places.{block_in}
use Rattle.schedule_run.specs.Outcomes.{Makes}
use Rattle.schedule_run.specs.PlainVersions.{versions}
use Rattle.schedule_run.proofs.Asking.{asked_there, known_in}
use Rattle.schedule_run.proofs.resolving.specialize_at.Goals as goal

pub returns : goal.returns
returns c =
    let v = versions c.args.s.now in
    let k = c.args.on.now.number.0 in
    let p = procedure c.args.on.now.proc.now in
    let same : target c.args.on.now ≡ lines.target v k p =
    ap₂ (λ (u : Program) (os : List Origin). record { unit = u; origins = os; number = k; proc = p })
    c.requires.unit c.requires.origins in
    subst (λ m. Makes plain_proposal m c.specialized.result)
    (sym
    (asked_there v k p (λ v. knows_fields v.unit.fields (tree_of c.args.c.now))
    (plain_asked c.args.at.now) block_in
    (λ v t piece. record {
      rule = specialize_rule piece.count (condition_at t piece.path (tree_of c.args.c.now));
      at = piece.path;
    })
    (target c.args.on.now) same
    (known_in v k p (target c.args.on.now) same (λ fs. knows_fields fs (tree_of c.args.c.now))
    c.in_ok-condition_known.ensures)
    (plain_piece c.in_ok-piece.piece) c.in_ok-piece.ensures))
    c.specialized.ensures
