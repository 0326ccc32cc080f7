use Rattle.std.proofs.Common.{Option, sym, subst}
use Rattle.std.specs.Prelude.{option_map}
use Rattle.exo_tree.specs.PlainPlace.{branch_taken}
use Rattle.exo_tree.specs.PlainProcedure.{procedure}
use Rattle.exo_tree.specs.declared.place.Branch.{Branch}
use Rattle.cursor_forward.specs.PlainProposal.{plain_proposal}
use Rattle.schedule_calls.specs.PlainRequest.{plain_asked}
use Rattle.schedule_laws.specs.Operators.Calls.{statement_call}
use Rattle.schedule_laws.specs.Operators.Operators.{dead_code_rule}
use Rattle.schedule_run.specs.Outcomes.{Makes}
use Rattle.schedule_run.specs.Planned.{planned}
use Rattle.schedule_run.specs.PlainVersions.{versions}
use Rattle.schedule_run.proofs.planning.eliminate_at.Goals as goal

pub returns-in-Some : goal.returns-in-Some
returns-in-Some c =
    let v = versions c.args.s.now in
    let k = c.args.on.now.number.0 in
    let p = procedure c.args.on.now.proc.now in
    subst
    (λ (keep : Option Branch). Makes plain_proposal
    (planned v k p
    (statement_call (plain_asked c.args.at.now) (dead_code_rule (option_map branch_taken keep))))
    c.at_statement-in-Some.result)
    (sym c.in-Some.is) c.at_statement-in-Some.ensures
