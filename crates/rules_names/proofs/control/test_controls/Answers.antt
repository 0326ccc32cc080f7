use Rattle.std.proofs.Common.{sym, ap, ◌∙◌, arith, map}
use Rattle.text_expressions.specs.Views.{tree_of}
use Rattle.rules_names.specs.Faults.{charged}
use Rattle.exo_modes.specs.Reads.{reads}
use Rattle.rules_names.specs.ExpressionRules.{controls_faults}
use Rattle.rules_names.proofs.Rests.{rest_width, closed_some, closed_none, rest_none, empty_rest}
use Rattle.rules_names.proofs.Controls.{controls_next, gone_first, gone_next, gone_all, no_controls}
use Rattle.rules_names.proofs.control.test_controls.Goals as goal

pub returns-then-is_empty-clause-charge : goal.returns-then-is_empty-clause-charge
returns-then-is_empty-clause-charge c = c.none.ensures ∙ no_controls _ _ _ _ _ (sym c.is_empty.ensures ∙ c.if-is_empty.true)

pub returns-then-is_empty-clause-end : goal.returns-then-is_empty-clause-end
returns-then-is_empty-clause-end c = let w = closed_none _ (sym c.is_empty.ensures ∙ c.if-is_empty.true) in omega arith

pub loop-e-init : goal.loop-e-init
loop-e-init c = let w = closed_some _ (sym c.is_empty.ensures ∙ c.if-is_empty.false) in record { count = omega arith; gone = gone_first _ _ c.none-charge.ensures }

pub test_control-tested-requires : goal.test_control-tested-requires
test_control-tested-requires c = let w = rest_width _ _ _ c.loop-e-test.true c.e-item.is in omega arith

pub overflow_add-next : goal.overflow_add-next
overflow_add-next c = let w = rest_width _ _ _ c.loop-e-test.true c.e-item.is in let u = c.test_control-tested.ensures.tells.end in omega arith

pub loop-e-preserved : goal.loop-e-preserved
loop-e-preserved c =
    let w = rest_width _ _ _ c.loop-e-test.true c.e-item.is in
    let u = c.test_control-tested.ensures.tells.end in
    record {
      count = omega arith;
      gone =
          gone_next _ _ _ _ _ _ (λ a b p q. c.and-charge.ensures a b p (c.test_control-tested.ensures.tells.charge ∙ ap charged (sym q)))
          (controls_next c.args.names.now.fields.now (reads c.args.may) c.args.names.now.scope.now _ _ _ _ c.test_control-tested.result.end c.loop-e-test.true c.e-item.is u) c.loop-e.invariant.gone;
    }

pub returns-clause-charge : goal.returns-clause-charge
returns-clause-charge c = gone_all _ _ _ (ap (λ l. controls_faults c.args.names.now.fields.now (reads c.args.may) c.args.names.now.scope.now c.loop-e.next (map tree_of l)) (empty_rest _ _ c.loop-e-test.false)) c.loop-e.invariant.gone

pub returns-clause-end : goal.returns-clause-end
returns-clause-end c = let w = rest_none _ _ c.loop-e-test.false in omega arith
