use Rattle.std.proofs.Common.{◌+◌, ap, sym, ◌∙◌, arith}
use Rattle.exo_meaning.specs.Units.{plainly}
use Rattle.text_expressions.specs.Views.{tree_of}
use Rattle.rules_names.specs.Faults.{charged}
use Rattle.exo_types.proofs.Parts.{some_width, no_width, no_controls}
use Rattle.exo_types.proofs.part.test_dims.Goals as goal

pub returns-then-is_empty-clause-charge : goal.returns-then-is_empty-clause-charge
returns-then-is_empty-clause-charge c = c.none.ensures ∙ ap charged (no_controls tree_of c.args.names.now.fields.now plainly c.args.names.now.scope.now (c.args.n + 1) c.args.dims.now (sym c.is_empty.ensures ∙ c.if-is_empty.true))

pub returns-then-is_empty-clause-end : goal.returns-then-is_empty-clause-end
returns-then-is_empty-clause-end c = let w = no_width tree_of _ (sym c.is_empty.ensures ∙ c.if-is_empty.true) in omega (arith, w)

pub test_controls-requires : goal.test_controls-requires
test_controls-requires c = let w = some_width tree_of _ (sym c.is_empty.ensures ∙ c.if-is_empty.false) in omega (arith, w, c.requires)

pub returns-clause-end : goal.returns-clause-end
returns-clause-end c = let w = some_width tree_of _ (sym c.is_empty.ensures ∙ c.if-is_empty.false) in omega (arith, w, c.test_controls.ensures.end)
