use Rattle.std.proofs.Common.{Some, None, ap, ◌∙◌}
use Rattle.std.specs.ControlFlow.{continue_value}
use Rattle.std.specs.Prelude.{option_map}
use Rattle.config_live.specs.Origins.{of_parent}
use Rattle.config_live.proofs.Since.{parent_at}
use Rattle.config_live.proofs.origins.parent.Goals as goal

pub returns : goal.returns
returns c =
    parent_at c.args.origins.now c.args.k c.in_ok-get.field-0.now (Some c.in_ok-parent.parent.0)
    c.in_ok-get.ensures.lookup.3.0 c.in_ok-get.ensures.lookup.1
    (ap (option_map of_parent)
    (c.branch-parent.ensures ∙ ap continue_value c.in_ok-parent.is))

pub returns-in_err-parent : goal.returns-in_err-parent
returns-in_err-parent c =
    c.from_residual-in_err-parent.ensures
    ∙ parent_at c.args.origins.now c.args.k c.in_ok-get.field-0.now None
    c.in_ok-get.ensures.lookup.3.0 c.in_ok-get.ensures.lookup.1
    (ap (option_map of_parent)
    (c.branch-parent.ensures ∙ ap continue_value c.in_err-parent.is))
