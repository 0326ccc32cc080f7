use Rattle.std.proofs.Common.{[], ◌∷◌, ◌++◌, ap, ◌∙◌}
use Rattle.exo_types.proofs.Broken.{exit, kept_none, kept_err}
use Rattle.exo_types.proofs.definition.add_assert.Goals as goal

pub returns-in_err-keep-clause-made : goal.returns-in_err-keep-clause-made
returns-in_err-keep-clause-made c = exit _ _ _ _ c.from_residual.ensures.1 (kept_err _ _ _ c.test_condition-tested.ensures.charge c.in_err-keep.ensures)

pub returns-clause-made : goal.returns-clause-made
returns-clause-made c = record { keeps = kept_none _ _ c.test_condition-tested.ensures.charge c.in_ok-keep.ensures; means = c.in_ok-push.ensures.pushed ∙ ap (λ x. c.args.made.now ++ x ∷ []) c.in_ok-condition_of.ensures }
