use Rattle.std.proofs.Common.{◌≡◌, ◌+◌, map, ap, ◌∙◌, arith}
use Rattle.exo_meaning.specs.Units.{plainly}
use Rattle.text_expressions.specs.Views.{tree_of}
use Rattle.rules_names.specs.Faults.{charged}
use Rattle.rules_names.specs.ExpressionRules.{controls_faults}
use Rattle.exo_types.specs.TypeRules.{memory_faults}
use Rattle.exo_types.proofs.statement.test_alloc.Goals as goal

pub returns-clause-charge : goal.returns-clause-charge
returns-clause-charge c =
    let start : c.args.n + 3 + 1 ≡ c.args.n + 4 = omega arith in
    let dims = c.test_dims-end.ensures.charge ∙ ap (λ k. charged (controls_faults c.args.context.now.fields.now plainly c.args.walk.now.scope k (map tree_of c.args.dims.now))) start in
    let place = c.memory_charge-place.ensures ∙ ap (λ k. charged (memory_faults c.args.context.now.memories.now k c.args.memory.now)) c.test_dims-end.ensures.end in
    c.and-charge.ensures _ _ c.binder_charge-name.ensures (c.and-2.ensures _ _ c.cell_charge.ensures (c.and.ensures _ _ dims place))
