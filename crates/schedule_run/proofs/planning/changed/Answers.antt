use Rattle.std.proofs.Common.{◌∙◌, ap, subst}
use Rattle.exo_tree.specs.PlainProcedure.{procedure}
use Rattle.cursor_forward.specs.PlainProposal.{plain_proposal}
use Rattle.loop_laws.specs.DivideLoop.{Division, divide_rule}
use Rattle.loop_laws.specs.Specialize.{specialize_rule}
use Rattle.alloc_laws.specs.Expanding.{expand_rule}
use Rattle.alloc_laws.specs.Stage.Staging.{stage_rule}
use Rattle.call_laws.specs.Fields.FieldRules.{write_rule}
use Rattle.step_rules.specs.Lawful.{config_side}
use Rattle.schedule_calls.specs.PlainRequest.{plain_asked, plain_division}
use Rattle.schedule_calls.specs.declared.request.Division as written
use Rattle.schedule_laws.specs.Operators.Arguments.{division_of}
use Rattle.text_expressions.specs.Views.{tree_of}
use Rattle.schedule_laws.specs.Operators.Calls.{statement_call, control_call, controls_call}
use Rattle.schedule_laws.specs.Operators.Calls.{condition_call, window_call, field_call}
use Rattle.schedule_laws.specs.Operators.Operators.{control_rule}
use Rattle.schedule_run.specs.Outcomes.{Makes}
use Rattle.schedule_run.specs.Planned.{planned}
use Rattle.schedule_run.specs.PlainVersions.{versions}
use Rattle.schedule_run.proofs.Arms.{of_change, of_expression, of_window}
use Rattle.schedule_run.proofs.planning.changed.Goals as goal

pub returns-in-Alone : goal.returns-in-Alone
returns-in-Alone c =
    of_change (versions c.args.s.now) c.args.on.now.number.0 (procedure c.args.on.now.proc.now)
    c.at_cursor.result (plain_asked c.args.at.now) _ _ c.in-Alone.is c.at_cursor.ensures

pub returns-in-WithControl : goal.returns-in-WithControl
returns-in-WithControl c =
    let v = versions c.args.s.now in
    let k = c.args.on.now.number.0 in
    let p = procedure c.args.on.now.proc.now in
    let r = c.by_control.result in
    let at = plain_asked c.args.at.now in
    of_change v k p r at _ _ c.in-WithControl.is
    (of_expression v k p r (λ t. control_call at t (control_rule c.in-WithControl.operator)) _ _
    c.deref.ensures c.by_control.ensures)

pub returns-in-MultLoops : goal.returns-in-MultLoops
returns-in-MultLoops c =
    of_change (versions c.args.s.now) c.args.on.now.number.0 (procedure c.args.on.now.proc.now)
    c.at_statement.result (plain_asked c.args.at.now) _ _ c.in-MultLoops.is c.at_statement.ensures

pub returns-in-Specialize : goal.returns-in-Specialize
returns-in-Specialize c =
    let v = versions c.args.s.now in
    let k = c.args.on.now.number.0 in
    let p = procedure c.args.on.now.proc.now in
    let r = c.specialize_at.result in
    let at = plain_asked c.args.at.now in
    of_change v k p r at _ _ c.in-Specialize.is
    (of_expression v k p r (λ t. condition_call at t specialize_rule) _ _
    c.deref-in-Specialize.ensures c.specialize_at.ensures)

pub returns-in-CommuteExpr : goal.returns-in-CommuteExpr
returns-in-CommuteExpr c =
    of_change (versions c.args.s.now) c.args.on.now.number.0 (procedure c.args.on.now.proc.now)
    c.at_statement-in-CommuteExpr.result (plain_asked c.args.at.now) _ _ c.in-CommuteExpr.is
    c.at_statement-in-CommuteExpr.ensures

pub returns-in-DivideLoop : goal.returns-in-DivideLoop
returns-in-DivideLoop c =
    let v = versions c.args.s.now in
    let k = c.args.on.now.number.0 in
    let p = procedure c.args.on.now.proc.now in
    let r = c.at_statement-in-DivideLoop.result in
    let at = plain_asked c.args.at.now in
    of_change v k p r at _ _ c.in-DivideLoop.is
    (subst (λ (d : Division). Makes plain_proposal (planned v k p (statement_call at (divide_rule d))) r)
    (c.dividing.ensures
    ∙ ap (λ (d : written.Division). division_of (plain_division d)) c.deref-in-DivideLoop.ensures)
    c.at_statement-in-DivideLoop.ensures)

pub returns-in-EliminateDeadCode : goal.returns-in-EliminateDeadCode
returns-in-EliminateDeadCode c =
    of_change (versions c.args.s.now) c.args.on.now.number.0 (procedure c.args.on.now.proc.now)
    c.eliminate_at.result (plain_asked c.args.at.now) _ _ c.in-EliminateDeadCode.is
    c.eliminate_at.ensures

pub returns-in-WithWord : goal.returns-in-WithWord
returns-in-WithWord c =
    of_change (versions c.args.s.now) c.args.on.now.number.0 (procedure c.args.on.now.proc.now)
    c.by_word.result (plain_asked c.args.at.now) _ _ c.in-WithWord.is c.by_word.ensures

pub returns-in-BindExpr : goal.returns-in-BindExpr
returns-in-BindExpr c =
    of_change (versions c.args.s.now) c.args.on.now.number.0 (procedure c.args.on.now.proc.now)
    c.bind_expr_at.result (plain_asked c.args.at.now) _ _ c.in-BindExpr.is c.bind_expr_at.ensures

pub returns-in-ExpandDim : goal.returns-in-ExpandDim
returns-in-ExpandDim c =
    let v = versions c.args.s.now in
    let k = c.args.on.now.number.0 in
    let p = procedure c.args.on.now.proc.now in
    let r = c.expand_dim_at.result in
    let at = plain_asked c.args.at.now in
    of_change v k p r at _ _ c.in-ExpandDim.is
    (of_expression v k p r
    (λ t. controls_call at t (tree_of c.in-ExpandDim.point.value) expand_rule) _ _
    c.deref-in-ExpandDim.ensures
    (of_expression v k p r
    (λ t. controls_call at (tree_of c.deref-in-ExpandDim.result.now) t expand_rule) _ _
    c.deref-in-ExpandDim-2.ensures c.expand_dim_at.ensures))

pub returns-in-WriteConfig : goal.returns-in-WriteConfig
returns-in-WriteConfig c =
    let v = versions c.args.s.now in
    let k = c.args.on.now.number.0 in
    let p = procedure c.args.on.now.proc.now in
    let r = c.write_config_at.result in
    let at = plain_asked c.args.at.now in
    of_change v k p r at _ _ c.in-WriteConfig.is
    (of_expression v k p r
    (λ t. field_call at c.in-WriteConfig.config.now c.in-WriteConfig.field t
    (λ side f a. write_rule (config_side side) f a))
    _ _ c.deref-in-WriteConfig.ensures c.write_config_at.ensures)

pub returns-in-BindConfig : goal.returns-in-BindConfig
returns-in-BindConfig c =
    of_change (versions c.args.s.now) c.args.on.now.number.0 (procedure c.args.on.now.proc.now)
    c.bind_config_at.result (plain_asked c.args.at.now) _ _ c.in-BindConfig.is
    c.bind_config_at.ensures

pub returns-in-StageMem : goal.returns-in-StageMem
returns-in-StageMem c =
    let v = versions c.args.s.now in
    let k = c.args.on.now.number.0 in
    let p = procedure c.args.on.now.proc.now in
    let r = c.stage_mem_at.result in
    let at = plain_asked c.args.at.now in
    of_change v k p r at _ _ c.in-StageMem.is
    (of_window v k p r
    (λ w. window_call at w c.in-StageMem.name c.in-StageMem.accum stage_rule) _ _
    c.deref-in-StageMem.ensures c.stage_mem_at.ensures)
