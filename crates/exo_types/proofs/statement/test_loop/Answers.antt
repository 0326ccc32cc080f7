use Rattle.std.proofs.Common.{◌+◌, ap, ◌∙◌}
use Rattle.exo_meaning.specs.Units.{plainly}
use Rattle.text_expressions.specs.Views.{tree_of}
use Rattle.rules_names.specs.Faults.{charged}
use Rattle.rules_names.specs.ExpressionRules.{control_faults}
use Rattle.exo_types.proofs.statement.test_loop.Goals as goal

pub returns-clause-charge : goal.returns-clause-charge
returns-clause-charge c =
    let high = c.test_control-second.ensures.tells.charge ∙ ap (λ k. charged (control_faults c.args.context.now.fields.now plainly c.args.walk.now.scope (k + 1) (tree_of c.args.high.now))) c.test_control-first.ensures.tells.end in
    c.and-2.ensures _ _ c.binder_charge-name.ensures (c.and.ensures _ _ c.test_control-first.ensures.tells.charge high)
